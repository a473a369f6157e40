-- What the test of bytes answers: too few of them, bytes that are not those of their nodes, nodes that are tried.
use Prim.Native.Nat.{ℕ, ◌≤◌, ◌<◌}
use mathlib.Core.Path.{◌≡◌, sym, ap, ◌∙◌}
use mathlib.Core.Bool.{Bool, true, false, ◌&&◌}
use lib.ListN.{length, get_or, take}
use borrow.Author.Tests.{le-leb, lt-leb}
use Rattle.text.specs.Bytes.{Bytes, part}
use Rattle.language.specs.Answer.{found}
use Rattle.query_tree.specs.Pass.{is_tree}
use Rattle.query_tree.specs.Form.{tree_size, nodes_in, held_tree}
use Rattle.query_tree.specs.Testing.{is_exact}
use Rattle.query_tree.proofs.Held.{held_tested}

module _ (h : Bytes) (small : (j : ℕ) → get_or h j 0 < 256) where
  pub held_short : length h < tree_size → false ≡ found (held_tree h) (λ q. true) false
  held_short l = sym (held_tested h small ∙ ap (λ (t : Bool). t && (is_exact (take tree_size h) && is_tree (nodes_in (take tree_size h)))) (lt-leb tree_size (length h) l))

  module _ (l : tree_size ≤ length h) (g : Bytes) (e : g ≡ part h 0 tree_size) (b : Bool) (f : b ≡ is_exact g) where
    tested : found (held_tree h) (λ q. true) false ≡ (b && is_tree (nodes_in g))
    tested =
        held_tested h small ∙ ap (λ (t : Bool). t && (is_exact (take tree_size h) && is_tree (nodes_in (take tree_size h)))) (le-leb tree_size (length h) l) ∙ ap (λ (x : Bytes). is_exact x && is_tree (nodes_in x)) (sym e)
        ∙ ap (λ (t : Bool). t && is_tree (nodes_in g)) (sym f)

    pub held_inexact : b ≡ false → false ≡ found (held_tree h) (λ q. true) false
    held_inexact t = sym (tested ∙ ap (λ (x : Bool). x && is_tree (nodes_in g)) t)

    pub held_tried : b ≡ true → (r : Bool) → r ≡ is_tree (nodes_in g) → r ≡ found (held_tree h) (λ q. true) false
    held_tried t r k = k ∙ sym (tested ∙ ap (λ (x : Bool). x && is_tree (nodes_in g)) t)

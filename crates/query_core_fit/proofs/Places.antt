-- Where the nodes of a part stand in a tree.
use Prim.Native.Nat.{ℕ, suc, ◌+◌}
use mathlib.Core.Path.{◌≡◌, sym, ap, subst, ◌∙◌}
use mathlib.Core.List.{List, [], ◌∷◌, ◌++◌, append_assoc}
use native.Mathlib.Omega.{arith}
use lib.ListN.{length, get_or, length-append}
use lib.Seq.{get_or-append_seam}
use Rattle.text.specs.Bytes.{Bytes}
use Rattle.text.proofs.Tables.{length_tabulate, get_d_tabulate}
use Rattle.query_tree.specs.Nodes.{Node}
use Rattle.query_tree.specs.Form.{node_count, node_in, nodes_in}

-- A node behind others is the one with their number.
node_there : (t : Bytes) (k : List Node) (x : Node) (m : List Node) → nodes_in t ≡ k ++ (x ∷ m) → node_in t (length k) ≡ x
unfolding nodes_in
node_there t k x m e =
    let long : node_count t ≡ length k + suc (length m) = sym (length_tabulate (node_count t) (node_in t)) ∙ ap length e ∙ length-append k (x ∷ m) in
    sym (get_d_tabulate (node_count t) (node_in t) Node.existence (length k) (omega (arith, long)))
    ∙ ap (λ (r : List Node). get_or r (length k) Node.existence) e
    ∙ get_or-append_seam k x m Node.existence

-- The last node of a part, and what stands before it.
pub record Last (t : Bytes) (k f : List Node) (x : Node) (m : List Node) (j : ℕ) : Type 0 where
  pub node : node_in t j ≡ x
  pub number : j ≡ length k + length f
  pub before : nodes_in t ≡ k ++ (f ++ (x ∷ m))

pub last_there : (t : Bytes) (k f : List Node) (x : Node) (m : List Node) (i j : ℕ) → nodes_in t ≡ k ++ (f ++ (x ∷ []) ++ m) → i ≡ length k + length (f ++ (x ∷ [])) → i ≡ suc j → Last t k f x m j
last_there t k f x m i j e n s =
    let number : j ≡ length k + length f = omega (arith, n, s, length-append f (x ∷ [])) in
    let before : nodes_in t ≡ k ++ (f ++ (x ∷ m)) = e ∙ ap (λ (r : List Node). k ++ r) (append_assoc f (x ∷ []) m) in
    let place : length (k ++ f) ≡ j = length-append k f ∙ sym number in
    record {
      node = subst (λ (n : ℕ). node_in t n ≡ x) place (node_there t (k ++ f) x m (before ∙ sym (append_assoc k f (x ∷ m))));
      number = number;
      before = before;
    }

-- Two sides before what joins them.
module _ {t : Bytes} {k : List Node} {x : Node} {m : List Node} {j : ℕ} (a b : List Node) (d : Last t k (a ++ b) x m j) where
  pub sides_there : nodes_in t ≡ k ++ (a ++ (b ++ (x ∷ m)))
  sides_there = d.before ∙ ap (λ (r : List Node). k ++ r) (append_assoc a b (x ∷ m))

  pub sides_number : j ≡ length k + (length a + length b)
  sides_number = d.number ∙ ap (λ (n : ℕ). length k + n) (length-append a b)

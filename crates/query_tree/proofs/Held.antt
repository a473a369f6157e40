-- A held tree is the form of one query, and each query that some text has is the one of its form.
use Rattle.std.specs.Prelude.{Option, Some, None}
use Prim.Native.Nat.{ℕ, zero, suc, ◌+◌, ◌*◌, ◌≤◌, ◌<◌}
use mathlib.Core.Path.{◌≡◌, refl, sym, ap, subst, ◌∙◌}
use mathlib.Core.Logic.{◌↔◌}
use mathlib.Core.Bool.{Bool, true, false, ◌&&◌, false≢true}
use mathlib.Core.List.{List, [], ◌∷◌, ◌++◌}
use native.Mathlib.Omega.{arith}
use lib.Dec.{leb}
use lib.ListN.{length, get_or, take, length-append, length-take, length-replicate, get_or-replicate, replicate}
use lib.Seq.{take_all, take-append-le, length-take-le, get_or-take}
use borrow.Author.Tests.{leb-true, le-leb}
use Rattle.text.specs.Bytes.{Bytes, same}
use Rattle.text.proofs.Laws.{same_eq, same_refl}
use Rattle.buffer.specs.Numbers.{two_at, padded}
use Rattle.buffer.proofs.Numbers.{two_there}
use Rattle.buffer.proofs.Parts.{part_before, part_behind}
use Rattle.buffer.proofs.Regions.{length_padded}
use Rattle.language.specs.Answer.{◌>>=◌, found, only_if}
use Rattle.language.specs.Surface.{Query}
use Rattle.language.proofs.Members.{and_true, both_true}
use Rattle.query_tree_spelling.specs.Spelled.{is_spelled, has_text}
use Rattle.query_tree.specs.Nodes.{Node, tree, strings}
use Rattle.query_tree.specs.Pass.{is_tree}
use Rattle.query_tree.specs.Building.{built}
use Rattle.query_tree.specs.Form.{tree_size, rows_from, node_bytes, tree_of, nodes_in, held_tree}
use Rattle.query_tree.specs.Testing.{is_exact}
use Rattle.query_tree.proofs.Counts.{few_nodes, few_strings}
use Rattle.query_tree.proofs.Small.{spelled_small}
use Rattle.query_tree.proofs.Rows.{length_rows, Holds, Fits, nodes_back}
use Rattle.query_tree.proofs.Trees.{built_tree, passes_tree, tree_passes}
use Rattle.query_tree.proofs.Tested.{exact_bytes, bytes_exact}

-- The regions of nodes that fit.
pub length_bytes : (l : List Node) → Fits l → length (node_bytes l) ≡ tree_size
unfolding node_bytes
length_bytes l f =
    omega (arith, length-append (padded 4086 (rows_from 0 l)) (padded 1024 (strings l)), length_padded 4086 (rows_from 0 l) (omega (arith, length_rows 0 l, f.few)), length_padded 1024 (strings l) f.short)

pub bytes_hold : (l : List Node) → Fits l → Holds (node_bytes l) l
unfolding node_bytes
bytes_hold l f =
    let rows = length_padded 4086 (rows_from 0 l) (omega (arith, length_rows 0 l, f.few)) in
    let texts = length_padded 1024 (strings l) f.short in
    record {
      count = two_there (node_bytes l) 0 (length l) (omega (arith, f.few)) refl;
      rows = part_before (padded 4086 (rows_from 0 l)) (padded 1024 (strings l)) 0 4086 (omega (arith, rows)) ∙ take_all 4086 (padded 4086 (rows_from 0 l)) (omega (arith, rows));
      texts = part_behind (padded 4086 (rows_from 0 l)) (padded 1024 (strings l)) 4086 0 1024 rows ∙ take_all 1024 (padded 1024 (strings l)) (omega (arith, texts));
    }

pub text_fits : (q : Query) → has_text q ≡ true → Fits (tree q)
unfolding has_text
text_fits q h = record { few = few_nodes q h; short = few_strings q h; small = spelled_small q (and_true (is_spelled q) _ h).0 (few_nodes q h) }

pub length_tree : (q : Query) → has_text q ≡ true → length (tree_of q) ≡ tree_size
unfolding tree_of
length_tree q h = length_bytes (tree q) (text_fits q h)

-- What is written reads back.
pub tree_back : (q : Query) → has_text q ≡ true → nodes_in (tree_of q) ≡ tree q
unfolding tree_of
tree_back q h = nodes_back (tree_of q) (tree q) (text_fits q h) (bytes_hold (tree q) (text_fits q h))

-- The first bytes are the form of a query that some text has, exactly where they are held as it.
pub record IsHeld (h : Bytes) (q : Query) : Type 0 where
  pub has : has_text q ≡ true
  pub bytes : take tree_size h ≡ tree_of q

is_held : (h : Bytes) (q : Query) → held_tree h ≡ Some q → IsHeld h q
unfolding held_tree
is_held h q e = go (built (nodes_in (take tree_size h))) e
  where
    only : (t : Bool) (r : Query) → has_text r && same (take tree_size h) (tree_of r) ≡ t → only_if t (Some r) ≡ Some q → IsHeld h q
    only true r i j =
        let k = and_true (has_text r) (same (take tree_size h) (tree_of r)) i in
        subst (IsHeld h) (let z : r ≡ q = cc in z) (record { has = k.0; bytes = same_eq (take tree_size h) (tree_of r) k.1 })
    only false r i j = absurd (false≢true (let z : false ≡ true = cc in z))

    go : (o : Option Query) → (o >>= λ r. only_if (has_text r && same (take tree_size h) (tree_of r)) (Some r)) ≡ Some q → IsHeld h q
    go None i = absurd (false≢true (let z : false ≡ true = cc in z))
    go (Some r) i = only (has_text r && same (take tree_size h) (tree_of r)) r refl i

held_is : (h : Bytes) (q : Query) → IsHeld h q → held_tree h ≡ Some q
unfolding held_tree
held_is h q d =
    ap (λ (o : Option Query). o >>= λ r. only_if (has_text r && same (take tree_size h) (tree_of r)) (Some r)) (ap built (ap nodes_in d.bytes ∙ tree_back q d.has) ∙ built_tree q)
    ∙ ap (λ (t : Bool). only_if t (Some q)) (both_true d.has (ap (λ (x : Bytes). same x (tree_of q)) d.bytes ∙ same_refl (tree_of q)))

pub held_tree_lem : (h : Bytes) (q : Query) → (held_tree h ≡ Some q) ↔ IsHeld h q
held_tree_lem h q = (is_held h q, held_is h q)

-- Only the first bytes count.
pub held_cut : (h more : Bytes) → tree_size ≤ length h → held_tree (h ++ more) ≡ held_tree h
unfolding held_tree
held_cut h more b = rw (take-append-le tree_size h more b)

-- A query's form is held as the query, and two queries with one form are one.
pub form_held : (q : Query) (more : Bytes) → has_text q ≡ true → held_tree (tree_of q ++ more) ≡ Some q
form_held q more h = held_is (tree_of q ++ more) q (record { has = h; bytes = take-append-le tree_size (tree_of q) more (omega (arith, length_tree q h)) ∙ take_all tree_size (tree_of q) (omega (arith, length_tree q h)) })

pub form_once : (q r : Query) → has_text q ≡ true → has_text r ≡ true → tree_of q ≡ tree_of r → q ≡ r
form_once q r h k e =
    let z : Some q ≡ Some r = sym (form_held q [] h) ∙ ap (λ (x : Bytes). held_tree (x ++ [])) e ∙ form_held r [] k in
    let w : q ≡ r = cc in
    w

form : (q : Query) → node_bytes (tree q) ≡ tree_of q
unfolding tree_of
form q = refl

small_take : (n : ℕ) (h : Bytes) (j : ℕ) → ((i : ℕ) → get_or h i 0 < 256) → get_or (take n h) j 0 < 256
small_take zero h j b = omega arith
small_take (suc n) [] j b = omega arith
small_take (suc n) (x ∷ h) zero b = b 0
small_take (suc n) (x ∷ h) (suc j) b = small_take n h j (λ i. b (suc i))

-- Bytes hold a tree exactly where they are long enough, are those of the nodes that they hold, and those pass.
pub held_tested : (h : Bytes) → ((j : ℕ) → get_or h j 0 < 256) → found (held_tree h) (λ q. true) false ≡ (leb tree_size (length h) && (is_exact (take tree_size h) && is_tree (nodes_in (take tree_size h))))
held_tested h small = both_ways (held_tree h) refl (leb tree_size (length h) && (is_exact g && is_tree (nodes_in g))) refl
  where
    g : Bytes
    g = take tree_size h

    little : (j : ℕ) → get_or g j 0 < 256
    little j = small_take tree_size h j small

    passed : leb tree_size (length h) && (is_exact g && is_tree (nodes_in g)) ≡ true → (q : Query) × (held_tree h ≡ Some q)
    passed t =
        let l = and_true (leb tree_size (length h)) _ t in
        let e = and_true (is_exact g) (is_tree (nodes_in g)) l.1 in
        let long : length g ≡ tree_size = length-take-le tree_size h (leb-true tree_size (length h) l.0) in
        let p = passes_tree (nodes_in g) e.1 in
        (p.query, held_is h p.query (record { has = p.has; bytes = exact_bytes g long little e.0 ∙ ap node_bytes (sym p.is) ∙ form p.query }))

    held : (q : Query) → held_tree h ≡ Some q → leb tree_size (length h) && (is_exact g && is_tree (nodes_in g)) ≡ true
    held q e =
        let d = is_held h q e in
        let f = text_fits q d.has in
        let long : length g ≡ tree_size = ap length d.bytes ∙ length_tree q d.has in
        both_true (le-leb tree_size (length h) (omega (arith, long, length-take tree_size h)))
        (both_true (bytes_exact g (tree q) f (subst (λ x. Holds x (tree q)) (sym (d.bytes ∙ sym (form q))) (bytes_hold (tree q) f)) long) (ap is_tree (ap nodes_in d.bytes ∙ tree_back q d.has) ∙ tree_passes q d.has))

    both_ways : (o : Option Query) → held_tree h ≡ o → (t : Bool) → (leb tree_size (length h) && (is_exact g && is_tree (nodes_in g))) ≡ t → found o (λ q. true) false ≡ t
    both_ways None e true i = let k = passed i in absurd (false≢true (let z : None ≡ Some k.0 = sym e ∙ k.1 in let w : false ≡ true = cc in w))
    both_ways None e false i = refl
    both_ways (Some q) e t i = sym (held q e) ∙ i

two_is : (x : Bytes) → two_at x 0 ≡ get_or x 0 0 + 256 * get_or x 1 0
unfolding two_at
two_is x = refl

-- 255 everywhere is a form of nothing.
pub all_255 : (n : ℕ) → held_tree (replicate n 255) ≡ None
all_255 n = go (held_tree l) refl
  where
    l : Bytes
    l = replicate n 255

    byte : (q : Query) → IsHeld l q → (i : ℕ) → i < 2 → get_or (tree_of q) i 0 ≡ 255
    byte q d i b =
        let long : length (take tree_size l) ≡ tree_size = ap length d.bytes ∙ length_tree q d.has in
        let most : tree_size ≤ n = omega (arith, long, length-take tree_size l, length-replicate {A = ℕ} n 255) in
        ap (λ (r : Bytes). get_or r i 0) (sym d.bytes) ∙ get_or-take tree_size l i 0 (omega (arith, b)) ∙ get_or-replicate n i 255 0 (omega (arith, b, most))

    go : (o : Option Query) → held_tree l ≡ o → o ≡ None
    go None e = refl
    go (Some q) e =
        let d = is_held l q e in
        let f = text_fits q d.has in
        let c : two_at (tree_of q) 0 ≡ length (tree q) = ap (λ (x : Bytes). two_at x 0) (sym (form q)) ∙ (bytes_hold (tree q) f).count in
        absurd (omega (arith, f.few, c, two_is (tree_of q), byte q d 0 (omega arith), byte q d 1 (omega arith)))

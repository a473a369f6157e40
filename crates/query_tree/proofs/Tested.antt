-- The exact test: bytes that pass are those of the nodes that they hold, and the bytes of nodes that fit pass.
use Prim.Native.Nat.{ℕ, zero, suc, ◌+◌, ◌*◌, ◌-◌, ◌≤◌, ◌<◌}
use mathlib.Core.Path.{◌≡◌, refl, sym, ap, subst, ◌∙◌}
use mathlib.Core.Bool.{true}
use mathlib.Core.List.{List, [], ◌∷◌, ◌++◌, append-nil}
use native.Mathlib.Omega.{arith}
use lib.Dec.{eqb, leb}
use lib.ListN.{length, get_or, take, drop, length-append, take-append-drop}
use lib.Seq.{drop-cons, take-suc, length-take-le, take_all}
use borrow.Author.Tests.{leb-true, le-leb, eq-eqb}
use Rattle.text.specs.Bytes.{Bytes, part}
use Rattle.text.specs.Table.{tabulate}
use Rattle.text.proofs.Tables.{length_tabulate}
use Rattle.buffer.specs.Numbers.{two_bytes, padded}
use Rattle.buffer.specs.Tests.{zeros_at}
use Rattle.buffer.proofs.Numbers.{two_here}
use Rattle.buffer.proofs.Parts.{both, length_part, part_add, part_part}
use Rattle.buffer.proofs.Regions.{region, zeros_region}
use Rattle.values.specs.Names.{bare, qualified}
use Rattle.language.proofs.Members.{and_true, both_true}
use Rattle.language.proofs.EachComparator.{comparator_few}
use Rattle.query_tree.specs.Nodes.{Node, string_of, strings}
use Rattle.query_tree.specs.Form.{row_at, row_bytes, rows_from, node_bytes, row_in, node_in, nodes_in, node_count, strings_in, tree_size}
use Rattle.query_tree.specs.Testing.{row_fits, string_at, rows_fit, is_exact}
use Rattle.query_tree.proofs.Counts.{strings_append}
use Rattle.query_tree.proofs.Rows.{length_rows, rows_append, Holds, Fits, texts_long, row_there}
use Rattle.query_tree.proofs.Exact.{fits_same}

-- A row's bytes are those that it was read from.
row_here : (h : Bytes) (i : ℕ) → 2 + 6 * i + 6 ≤ length h → ((j : ℕ) → get_or h j 0 < 256) → row_bytes (row_in h i) ≡ part h (2 + 6 * i) 6
unfolding row_bytes row_in
row_here h i l b =
    sym (part_add h (2 + 6 * i) 2 4 ∙ both (pair (2 + 6 * i) (3 + 6 * i) (omega arith) (omega arith)) (ap (λ (n : ℕ). part h n 4) (let z : 2 + 6 * i + 2 ≡ 4 + 6 * i = omega arith in z) ∙ part_add h (4 + 6 * i) 2 2
    ∙ both (two_here h (4 + 6 * i) (omega arith) b) (ap (λ (n : ℕ). part h n 2) (let z : 4 + 6 * i + 2 ≡ 6 + 6 * i = omega arith in z) ∙ pair (6 + 6 * i) (7 + 6 * i) (omega arith) (omega arith))))
  where
    pair : (p q : ℕ) → q ≡ suc p → q < length h → part h p 2 ≡ get_or h p 0 ∷ get_or h q 0 ∷ []
    pair p q e k = ap (take 2) (drop-cons h p 0 (omega (arith, e, k)) ∙ ap (λ (r : Bytes). get_or h p 0 ∷ r) (drop-cons h (suc p) 0 (omega (arith, e, k)))) ∙ ap (λ (n : ℕ). get_or h p 0 ∷ get_or h n 0 ∷ []) (sym e)

module _ (h : Bytes) (long : length h ≡ tree_size) (small : (j : ℕ) → get_or h j 0 < 256) where
  texts_long_here : length (strings_in h) ≡ 1024
  texts_long_here = length_part h 4088 1024 (omega (arith, long))

  -- The first i nodes, where their rows fit.
  record Front (i : ℕ) : Type 0 where
    rows : rows_from 0 (tabulate i (node_in h)) ≡ part h 2 (6 * i)
    texts : strings (tabulate i (node_in h)) ≡ part (strings_in h) 0 (string_at h i)
    most : string_at h i ≤ 1024

  front : (i : ℕ) → i ≤ 681 → rows_fit h i ≡ true → Front i
  unfolding rows_fit string_at tabulate rows_from strings node_in
  front zero b t = record { rows = refl; texts = refl; most = omega arith }
  front (suc i) b t =
      let e = and_true (rows_fit h i) (row_fits (string_at h i) (row_in h i)) t in
      let f = front i (omega (arith, b)) e.0 in
      let d = fits_same (strings_in h) texts_long_here (string_at h i) (row_in h i) e.1 in
      let l = tabulate i (node_in h) in
      let at = string_at h i in
      let n = (row_in h i).first + (row_in h i).second in
      let place : 0 + length (strings l) ≡ at = omega (arith, ap length f.texts, length_part (strings_in h) 0 at (omega (arith, f.most, texts_long_here))) in
      record {
        rows = rows_append 0 l (node_in h i ∷ []) ∙ both f.rows (append-nil (row_bytes (row_at (0 + length (strings l)) (node_in h i))) ∙ ap (λ (k : ℕ). row_bytes (row_at k (node_in h i))) place ∙ ap row_bytes d.row ∙ row_here h i (omega (arith, b, long)) small) ∙ sym (part_add h 2 (6 * i) 6) ∙ ap (part h 2) (let z : 6 * i + 6 ≡ 6 * suc i = omega arith in z);
        texts = strings_append l (node_in h i ∷ []) ∙ both f.texts (append-nil (string_of (node_in h i)) ∙ d.string ∙ ap (λ (k : ℕ). part (strings_in h) k n) (let z : at ≡ 0 + at = omega arith in z)) ∙ sym (part_add (strings_in h) 0 at n) ∙ ap (part (strings_in h) 0) (let z : at + n ≡ at + (row_in h i).first + (row_in h i).second = omega arith in z);
        most = d.room;
      }

  -- Bytes that pass are those of the nodes that they hold.
  pub exact_bytes : is_exact h ≡ true → h ≡ node_bytes (nodes_in h)
  unfolding is_exact node_bytes nodes_in
  exact_bytes t =
      let z = and_true _ (zeros_at h (4088 + string_at h (node_count h)) (1024 - string_at h (node_count h))) t in
      let y = and_true _ (zeros_at h (2 + 6 * node_count h) (4086 - 6 * node_count h)) z.0 in
      let x = and_true (leb (node_count h) 681) (rows_fit h (node_count h)) y.0 in
      let few = leb-true (node_count h) 681 x.0 in
      let f = front (node_count h) few x.1 in
      let l = tabulate (node_count h) (node_in h) in
      let rows : part h 2 4086 ≡ padded 4086 (rows_from 0 l) = region h 2 4086 (6 * node_count h) (rows_from 0 l) (ap length f.rows ∙ length_part h 2 (6 * node_count h) (omega (arith, few, long))) (omega (arith, few)) (sym f.rows) (omega (arith, long)) y.1 in
      let there : part h 4088 (string_at h (node_count h)) ≡ strings l = ap (λ (n : ℕ). part h n (string_at h (node_count h))) (let z : 4088 ≡ 4088 + 0 = omega arith in z) ∙ sym (part_part h 4088 1024 0 (string_at h (node_count h)) (omega (arith, f.most))) ∙ sym f.texts in
      let texts : part h 4088 1024 ≡ padded 1024 (strings l) = region h 4088 1024 (string_at h (node_count h)) (strings l) (ap length (sym there) ∙ length_part h 4088 (string_at h (node_count h)) (omega (arith, f.most, long))) f.most there (omega (arith, long)) z.1 in
      let count : part h 0 2 ≡ two_bytes (length l) = two_here h 0 (omega (arith, long)) small ∙ ap two_bytes (sym (length_tabulate (node_count h) (node_in h))) in
      sym (take_all 5112 h (omega (arith, long))) ∙ part_add h 0 2 5110 ∙ both count (part_add h 2 4086 1024 ∙ both rows texts)

-- The bytes of nodes that fit pass.
row_lengths : (at : ℕ) (x : Node) → (row_at at x).first + (row_at at x).second ≡ length (string_of x)
unfolding string_of
row_lengths at (Node.and n) = refl
row_lengths at (Node.or n) = refl
row_lengths at (Node.bar n) = refl
row_lengths at (Node.category x) = omega arith
row_lengths at (Node.namespace n) = omega arith
row_lengths at (Node.reference c (bare x)) = omega arith
row_lengths at (Node.reference c (qualified n x)) = sym (length-append n x)
row_lengths at Node.existence = refl
row_lengths at (Node.value c v) = omega arith
row_lengths at Node.subquery = refl
row_lengths at (Node.property x) = omega arith
row_lengths at (Node.link x) = omega arith

row_fits_lem : (at : ℕ) (x : Node) → at + length (string_of x) ≤ 1024 → row_fits at (row_at at x) ≡ true
unfolding row_fits
row_fits_lem at x b = go x (le-leb (at + (row_at at x).first + (row_at at x).second) 1024 (omega (arith, b, row_lengths at x)))
  where
    here : eqb at at ≡ true
    here = eq-eqb at at refl

    go : (x : Node) → leb (at + (row_at at x).first + (row_at at x).second) 1024 ≡ true → row_fits at (row_at at x) ≡ true
    go (Node.and n) h = h
    go (Node.or n) h = h
    go (Node.bar n) h = h
    go (Node.category x) h = rw (here, h)
    go (Node.namespace n) h = rw (here, h)
    go (Node.reference c (bare x)) h = rw (comparator_few c, here, h)
    go (Node.reference c (qualified n x)) h = rw (comparator_few c, here, h)
    go Node.existence h = h
    go (Node.value c v) h = rw (comparator_few c, here, h)
    go Node.subquery h = h
    go (Node.property x) h = rw (here, h)
    go (Node.link x) h = rw (here, h)

module _ (h : Bytes) (l : List Node) (f : Fits l) (d : Holds h l) where
  -- Node i, and those before it.
  at_node_lem : (i : ℕ) → i < length l → (string_at h i ≡ length (strings (take i l))) → (rows_fit h i ≡ true) → (string_at h (suc i) ≡ length (strings (take (suc i) l))) × (rows_fit h (suc i) ≡ true)
  unfolding string_at rows_fit strings
  at_node_lem i b e t =
      let x = get_or l i Node.existence in
      let parts : l ≡ take i l ++ (x ∷ drop (suc i) l) = sym (take-append-drop i l) ∙ ap (λ (r : List Node). take i l ++ r) (drop-cons l i Node.existence b) in
      let k : length (take i l) ≡ i = length-take-le i l (omega (arith, b)) in
      let g = subst Fits parts f in
      let row : row_in h i ≡ row_at (string_at h i) x = ap (row_in h) (sym k) ∙ row_there h (take i l) x (drop (suc i) l) g (subst (Holds h) parts d) ∙ ap (λ (n : ℕ). row_at n x) (sym e) in
      let long = texts_long h (take i l) x (drop (suc i) l) g (subst (Holds h) parts d) in
      let next : length (strings (take (suc i) l)) ≡ length (strings (take i l)) + length (string_of x) = ap (λ (r : List Node). length (strings r)) (take-suc l i Node.existence b) ∙ ap length (strings_append (take i l) (x ∷ [])) ∙ omega (arith, length-append (strings (take i l)) (string_of x ++ []), length-append (string_of x) []) in
      let room = g.short in
      (rw row (omega (arith, e, next, row_lengths (string_at h i) x)), both_true t (rw row (row_fits_lem (string_at h i) x (omega (arith, e, long, room)))))

  pub bytes_exact : length h ≡ tree_size → is_exact h ≡ true
  unfolding is_exact string_at rows_fit strings
  bytes_exact long =
      let t = all_nodes_lem (length l) (omega arith) in
      let whole : string_at h (length l) ≡ length (strings l) = t.0 ∙ ap (λ (r : List Node). length (strings r)) (take_all (length l) l (omega arith)) in
      let few = f.few in
      let rows = zeros_region h 2 4086 (rows_from 0 l) d.rows (omega (arith, length_rows 0 l, few)) (6 * length l) (length_rows 0 l) in
      let texts = zeros_region h 4088 1024 (strings l) d.texts f.short (string_at h (length l)) (sym whole) in
      let n = sym d.count in
      both_true (both_true (both_true (le-leb (node_count h) 681 (omega (arith, few, d.count))) (ap (rows_fit h) d.count ∙ t.1)) (ap (λ (k : ℕ). zeros_at h (2 + 6 * k) (4086 - 6 * k)) d.count ∙ rows)) (ap (λ (k : ℕ). zeros_at h (4088 + string_at h k) (1024 - string_at h k)) d.count ∙ texts)
    where
      all_nodes_lem : (i : ℕ) → i ≤ length l → (string_at h i ≡ length (strings (take i l))) × (rows_fit h i ≡ true)
      all_nodes_lem zero b = (refl, refl)
      all_nodes_lem (suc i) b = let t = all_nodes_lem i (omega (arith, b)) in at_node_lem i (omega (arith, b)) t.0 t.1

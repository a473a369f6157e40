-- The bytes of nodes hold those nodes: rows and strings come back.
use Prim.Native.Nat.{ℕ, suc, ◌+◌, ◌*◌, ◌≤◌, ◌<◌}
use mathlib.Core.Path.{◌≡◌, refl, sym, ap, ap₂, subst, ◌∙◌}
use mathlib.Core.Bool.{true}
use mathlib.Core.List.{List, [], ◌∷◌, ◌++◌, append_assoc}
use native.Mathlib.Nat.{add-zero}
use native.Mathlib.Omega.{arith}
use lib.ListN.{length, get_or, take, drop, length-append, take-append-drop}
use lib.Seq.{drop-cons, length-take-le, take_all}
use borrow.Author.Tests.{leb-true}
use Rattle.text.specs.Bytes.{Bytes, part, all}
use Rattle.text.specs.Table.{tabulate}
use Rattle.text.proofs.Laws.{all_append}
use Rattle.text.proofs.Tables.{is_tabulate}
use Rattle.buffer.specs.Numbers.{two_at, padded}
use Rattle.buffer.proofs.Numbers.{two_there}
use Rattle.buffer.proofs.Parts.{get_d_part, part_part, part_before, part_behind}
use Rattle.buffer.proofs.Regions.{part_region}
use Rattle.values.specs.Names.{bare, qualified}
use Rattle.language.proofs.Members.{and_true}
use Rattle.language.specs.declared.SurfaceComparator.{SurfaceComparator}
use Rattle.language.proofs.EachComparator.{comparator_coded}
use Rattle.query_tree.specs.Nodes.{Node, string_of, strings}
use Rattle.query_tree.specs.declared.Row.{Row}
use Rattle.query_tree.specs.Form.{row_of, row_at, row_bytes, rows_from, node_from, row_in, node_in, nodes_in, strings_in}
use Rattle.query_tree.proofs.Counts.{strings_append}
use Rattle.query_tree.proofs.Small.{is_small, AllSmall}

-- Rows one behind the other.
pub length_rows : (at : ℕ) (l : List Node) → length (rows_from at l) ≡ 6 * length l
unfolding rows_from row_bytes
length_rows at [] = refl
length_rows at (x ∷ l) = omega (arith, length_rows (at + length (string_of x)) l)

pub rows_append : (at : ℕ) (k l : List Node) → rows_from at (k ++ l) ≡ rows_from at k ++ rows_from (at + length (strings k)) l
unfolding rows_from strings
rows_append at [] l = ap (λ (n : ℕ). rows_from n l) (sym (add-zero at))
rows_append at (x ∷ k) l =
    let place : at + length (string_of x) + length (strings k) ≡ at + length (string_of x ++ strings k) = omega (arith, length-append (string_of x) (strings k)) in
    ap (λ (r : Bytes). row_bytes (row_at at x) ++ r) (rows_append (at + length (string_of x)) k l ∙ ap (λ (n : ℕ). rows_from (at + length (string_of x)) k ++ rows_from n l) place)
    ∙ sym (append_assoc (row_bytes (row_at at x)) (rows_from (at + length (string_of x)) k) (rows_from (at + length (string_of x ++ strings k)) l))

-- A row from its six bytes.
pub same_row_lem : {t t' c c' n n' a a' b b' : ℕ} → t ≡ t' → c ≡ c' → n ≡ n' → a ≡ a' → b ≡ b' → row_of t c n a b ≡ row_of t' c' n' a' b'
same_row_lem e f g h i = rw (e, f, g, h, i)

pub row_read : (h : Bytes) (i : ℕ) (r : Row) → r.number < 65536 → part h (2 + 6 * i) 6 ≡ row_bytes r → row_in h i ≡ r
unfolding row_in row_bytes
row_read h i r b e =
    same_row_lem (byte 0 (2 + 6 * i) (omega arith) (omega arith)) (byte 1 (3 + 6 * i) (omega arith) (omega arith))
    (two_there h (4 + 6 * i) r.number b (ap (λ (n : ℕ). part h n 2) (let z : 4 + 6 * i ≡ 2 + 6 * i + 2 = omega arith in z) ∙ sym (part_part h (2 + 6 * i) 6 2 2 (omega arith)) ∙ ap (λ (s : Bytes). part s 2 2) e))
    (byte 4 (6 + 6 * i) (omega arith) (omega arith)) (byte 5 (7 + 6 * i) (omega arith) (omega arith))
  where
    byte : (k at : ℕ) → k < 6 → at ≡ 2 + 6 * i + k → get_or h at 0 ≡ get_or (row_bytes r) k 0
    byte k at l z = ap (λ (n : ℕ). get_or h n 0) z ∙ sym (get_d_part h (2 + 6 * i) 6 k l) ∙ ap (λ (s : Bytes). get_or s k 0) e

-- A node from its row and its string.
module _ (s : Bytes) (at : ℕ) where
  behind_none : (x : Bytes) → part s at (length x) ≡ x → part s (at + 0) (length x) ≡ x
  behind_none x e = ap (λ (n : ℕ). part s n (length x)) (add-zero at) ∙ e

  first_of : (n x : Bytes) → part s at (length (n ++ x)) ≡ n ++ x → part s at (length n) ≡ n
  first_of n x e =
      let z : at ≡ at + 0 = omega arith in
      ap (λ (k : ℕ). part s k (length n)) z ∙ sym (part_part s at (length (n ++ x)) 0 (length n) (omega (arith, length-append n x))) ∙ ap (λ (r : Bytes). part r 0 (length n)) e
      ∙ part_before n x 0 (length n) (omega arith) ∙ take_all (length n) n (omega arith)

  second_of_lem : (n x : Bytes) → part s at (length (n ++ x)) ≡ n ++ x → part s (at + length n) (length x) ≡ x
  second_of_lem n x e =
      let z : length n ≡ length n + 0 = omega arith in
      sym (part_part s at (length (n ++ x)) (length n) (length x) (omega (arith, length-append n x))) ∙ ap (λ (r : Bytes). part r (length n) (length x)) e
      ∙ ap (λ (k : ℕ). part (n ++ x) k (length x)) z ∙ part_behind n x (length n) 0 (length x) refl ∙ take_all (length x) x (omega arith)

  pub node_back : (x : Node) → part s at (length (string_of x)) ≡ string_of x → node_from s (row_at at x) ≡ x
  unfolding node_from string_of
  node_back (Node.and n) e = refl
  node_back (Node.or n) e = refl
  node_back (Node.bar n) e = refl
  node_back (Node.category x) e = ap Node.category (behind_none x e)
  node_back (Node.namespace n) e = ap Node.namespace e
  node_back (Node.reference c (bare x)) e = ap₂ (λ (d : SurfaceComparator) (y : Bytes). Node.reference d (bare y)) (comparator_coded c) (behind_none x e)
  node_back (Node.reference c (qualified n x)) e = rw (comparator_coded c, first_of n x e, second_of_lem n x e)
  node_back Node.existence e = refl
  node_back (Node.value c v) e = ap₂ Node.value (comparator_coded c) (behind_none v e)
  node_back Node.subquery e = refl
  node_back (Node.property x) e = ap Node.property (behind_none x e)
  node_back (Node.link x) e = ap Node.link (behind_none x e)

-- The numbers of a small node's row.
small_number : (at : ℕ) (x : Node) → at ≤ 1024 → is_small x ≡ true → (row_at at x).number < 65536
small_number at (Node.and n) b h = omega (arith, leb-true n 681 h)
small_number at (Node.or n) b h = omega (arith, leb-true n 681 h)
small_number at (Node.bar n) b h = omega (arith, leb-true n 681 h)
small_number at (Node.category x) b h = omega (arith, b)
small_number at (Node.namespace n) b h = omega (arith, b)
small_number at (Node.reference c (bare x)) b h = omega (arith, b)
small_number at (Node.reference c (qualified n x)) b h = omega (arith, b)
small_number at Node.existence b h = omega arith
small_number at (Node.value c v) b h = omega (arith, b)
small_number at Node.subquery b h = omega arith
small_number at (Node.property x) b h = omega (arith, b)
small_number at (Node.link x) b h = omega (arith, b)

-- Bytes that hold nodes.
pub record Holds (h : Bytes) (l : List Node) : Type 0 where
  pub count : two_at h 0 ≡ length l
  pub rows : part h 2 4086 ≡ padded 4086 (rows_from 0 l)
  pub texts : strings_in h ≡ padded 1024 (strings l)

-- Nodes that 5,112 bytes can hold.
pub record Fits (l : List Node) : Type 0 where
  pub few : length l ≤ 681
  pub short : length (strings l) ≤ 1024
  pub small : AllSmall l

length_row : (r : Row) → length (row_bytes r) ≡ 6
unfolding row_bytes
length_row r = refl

-- What stands between other bytes.
middle : (a b c : Bytes) (n m : ℕ) → length a ≡ n → length b ≡ m → part (a ++ (b ++ c)) n m ≡ b
middle a b c n m e f =
    let z : n ≡ n + 0 = omega arith in
    ap (λ (k : ℕ). part (a ++ (b ++ c)) k m) z ∙ part_behind a (b ++ c) n 0 m e ∙ part_before b c 0 m (omega (arith, f)) ∙ take_all m b (omega (arith, f))

-- The row and the string of a node behind some others.
module _ (h : Bytes) (k : List Node) (x : Node) (m : List Node) (f : Fits (k ++ (x ∷ m))) (d : Holds h (k ++ (x ∷ m))) where
  texts_parts : strings (k ++ (x ∷ m)) ≡ strings k ++ (string_of x ++ strings m)
  unfolding strings
  texts_parts = strings_append k (x ∷ m)

  pub texts_long : length (strings (k ++ (x ∷ m))) ≡ length (strings k) + length (string_of x) + length (strings m)
  texts_long = omega (arith, ap length texts_parts, length-append (strings k) (string_of x ++ strings m), length-append (string_of x) (strings m))

  pub small_there : is_small x ≡ true
  unfolding AllSmall all
  small_there = (and_true (is_small x) (all is_small m) (and_true (all is_small k) (all is_small (x ∷ m)) (sym (all_append is_small k (x ∷ m)) ∙ f.small)).1).0

  rows_parts : rows_from 0 (k ++ (x ∷ m)) ≡ rows_from 0 k ++ (row_bytes (row_at (length (strings k)) x) ++ rows_from (length (strings k) + length (string_of x)) m)
  unfolding rows_from
  rows_parts = rows_append 0 k (x ∷ m) ∙ ap (λ (n : ℕ). rows_from 0 k ++ (row_bytes (row_at n x) ++ rows_from (n + length (string_of x)) m)) (let z : 0 + length (strings k) ≡ length (strings k) = omega arith in z)

  row_bytes_lem : part h (2 + 6 * length k) 6 ≡ row_bytes (row_at (length (strings k)) x)
  row_bytes_lem =
      part_region h 2 4086 (rows_from 0 (k ++ (x ∷ m))) d.rows (omega (arith, length_rows 0 (k ++ (x ∷ m)), f.few)) (6 * length k) 6 (omega (arith, length_rows 0 (k ++ (x ∷ m)), length-append k (x ∷ m)))
      ∙ ap (λ (r : Bytes). part r (6 * length k) 6) rows_parts
      ∙ middle (rows_from 0 k) (row_bytes (row_at (length (strings k)) x)) (rows_from (length (strings k) + length (string_of x)) m) (6 * length k) 6 (length_rows 0 k) (length_row (row_at (length (strings k)) x))

  pub row_there : row_in h (length k) ≡ row_at (length (strings k)) x
  row_there = row_read h (length k) (row_at (length (strings k)) x) (small_number (length (strings k)) x (omega (arith, texts_long, f.short)) small_there) row_bytes_lem

  string_there : part (strings_in h) (length (strings k)) (length (string_of x)) ≡ string_of x
  unfolding padded
  string_there =
      ap (λ (r : Bytes). part r (length (strings k)) (length (string_of x))) d.texts
      ∙ part_before (strings (k ++ (x ∷ m))) _ (length (strings k)) (length (string_of x)) (omega (arith, texts_long))
      ∙ ap (λ (r : Bytes). part r (length (strings k)) (length (string_of x))) texts_parts
      ∙ middle (strings k) (string_of x) (strings m) (length (strings k)) (length (string_of x)) refl refl

  node_there : node_in h (length k) ≡ x
  unfolding node_in
  node_there = ap (node_from (strings_in h)) row_there ∙ node_back (strings_in h) (length (strings k)) x string_there

-- The nodes of bytes that hold them.
pub nodes_back : (h : Bytes) (l : List Node) → Fits l → Holds h l → nodes_in h ≡ l
unfolding nodes_in
nodes_back h l f d = ap (λ (n : ℕ). tabulate n (node_in h)) d.count ∙ sym (is_tabulate (length l) (node_in h) Node.existence l refl (λ i b. sym (at i b)))
  where
    at : (i : ℕ) → i < length l → node_in h i ≡ get_or l i Node.existence
    at i b =
        let parts : l ≡ take i l ++ (get_or l i Node.existence ∷ drop (suc i) l) = sym (take-append-drop i l) ∙ ap (λ (r : List Node). take i l ++ r) (drop-cons l i Node.existence b) in
        let k : length (take i l) ≡ i = length-take-le i l (omega (arith, b)) in
        ap (node_in h) (sym k) ∙ node_there h (take i l) (get_or l i Node.existence) (drop (suc i) l) (subst Fits parts f) (subst (Holds h) parts d)

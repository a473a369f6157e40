-- Laws of nodes laid into a tree's bytes, and the ways through the functions.
use Prim.Native.Nat.{ℕ, suc, ◌+◌, ◌*◌, ◌-◌, ◌/◌, ◌%◌, ◌≤◌, ◌<◌}
use mathlib.Core.Path.{◌≡◌, refl, sym, ap, ap₂, subst, ◌∙◌}
use mathlib.Core.Bool.{Bool, true, false, not, ◌&&◌, false≢true}
use mathlib.Core.List.{List, [], ◌∷◌, ◌++◌, append_assoc, append-nil}
use native.Mathlib.Omega.{arith}
use native.Mathlib.Nat.{zero-add}
use lib.Dec.{ltb, leb, eqb}
use lib.ListN.{length, set, length-append}
use borrow.Author.Tests.{lt-ltb, le-leb, ltb-true, leb-true, not-false, not-true}
use Rattle.text.specs.Bytes.{Bytes, all}
use Rattle.text.specs.Parts.{part_of}
use Rattle.text.proofs.Laws.{all_append}
use Rattle.buffer.specs.Numbers.{zeros, padded, two_bytes}
use Rattle.buffer.specs.Writing.{written}
use Rattle.buffer.proofs.Padding.{zeros_add}
use Rattle.buffer.proofs.Written.{written_then, written_none, length_written}
use Rattle.buffer.proofs.Regions.{length_zeros, length_padded}
use Rattle.names.specs.Names.{composed_name}
use Rattle.names.proofs.Composed.{composed_empty}
use Rattle.values.specs.Names.{bare, qualified}
use Rattle.language.proofs.Members.{and_true, both_true}
use Rattle.query_tree.specs.Nodes.{Node, join_by, string_of, strings, composed_node}
use Rattle.query_tree.specs.declared.TreeNode.{TreeNode}
use Rattle.query_tree.specs.declared.Row.{Row}
use Rattle.language.specs.Comparators.{comparator_code}
use Rattle.query_tree.specs.Form.{tree_size, row_of, row_at, row_bytes, rows_from, node_bytes}
use Rattle.query_tree.specs.Reading.{node_by}
use Rattle.query_tree.proofs.Counts.{strings_append}
use Rattle.query_tree.proofs.Small.{is_short, is_small, AllSmall}
use Rattle.query_tree.proofs.Rows.{length_rows, rows_append, Fits as FitsTree}
use Rattle.query_tree_write.specs.declared.Place.{Place}
use Rattle.query_tree_write.specs.declared.Entry.{Entry}
use Rattle.query_tree_write.specs.Laying.{entry_of, string_as, has_room, has_short, Fits, Laid, Adds}
use Rattle.query_tree_write.proofs.Regions.{written_rows, written_texts, written_front}

-- Nodes that fit.
pub fits_front : (k l : List Node) → Fits (k ++ l) → Fits k
fits_front k l f =
    record {
      few = omega (arith, f.few, length-append k l);
      short = omega (arith, f.short, ap length (strings_append k l), length-append (strings k) (strings l));
      small = (and_true (all has_short k) (all has_short l) (sym (all_append has_short k l) ∙ f.small)).0;
    }

short_node : (x : Node) → is_small x ≡ true → has_short x ≡ true
unfolding is_short
short_node (Node.and n) h = refl
short_node (Node.or n) h = refl
short_node (Node.bar n) h = refl
short_node (Node.category x) h = h
short_node (Node.namespace n) h = both_true h refl
short_node (Node.reference c (bare x)) h = h
short_node (Node.reference c (qualified n x)) h = h
short_node Node.existence h = refl
short_node (Node.value c v) h = h
short_node Node.subquery h = refl
short_node (Node.property x) h = h
short_node (Node.link x) h = h

pub fits_laid : (l : List Node) → FitsTree l → Fits l
unfolding AllSmall all
fits_laid l f = record { few = f.few; short = f.short; small = go l f.small }
  where
    go : (l : List Node) → all is_small l ≡ true → all has_short l ≡ true
    go [] h = refl
    go (x ∷ l) h = let k = and_true (is_small x) (all is_small l) h in both_true (short_node x k.0) (go l k.1)

-- What is put of a node with its names composed is its row and its string.
pub record Tells (x : TreeNode) (s : Bytes) (end : ℕ) (e : Entry) (a b : Bytes) : Type 0 where
  pub row : row_of e.tag (comparator_code e.comparator) e.number (length a) (length b) ≡ row_at end (composed_node (node_by s x))
  pub short : (leb (length a) 64 && leb (length b) 64) ≡ has_short (composed_node (node_by s x))
  pub string : a ++ b ≡ string_of (composed_node (node_by s x))

-- The second string of an entry, as it is put.
abbrev second_of : Bytes → Entry → Bytes
second_of s e = string_as (eqb e.tag 8) (part_of s e.second)

-- A string as it is put: a value as typed, a name composed.
module _ (b : Bool) (s : Bytes) where
  abbrev Written : Bytes → ℕ → Bytes → ℕ → Type 0
  Written h at h' n = (n ≡ length (string_as b s)) × (h' ≡ written h at (string_as b s))

  pub empty_put : (h : Bytes) (at : ℕ) → length s ≡ 0 → Written h at h 0
  unfolding string_as
  empty_put h at e = let k = go b s e in (sym (ap length k), sym (ap (written h at) k ∙ written_none h at))
    where
      go : (b : Bool) (s : Bytes) → length s ≡ 0 → string_as b s ≡ []
      go true [] l = refl
      go false [] l = composed_empty
      go b (x ∷ s) l = absurd (omega arith)

  pub typed_put : (h h' : Bytes) (at : ℕ) → b ≡ true → h' ≡ written h at s → Written h at h' (length s)
  unfolding string_as
  typed_put h h' at e k = (rw e, rw e k)

  pub name_put : (h h' : Bytes) (at n : ℕ) → b ≡ false → (n ≡ length (composed_name s)) × (h' ≡ written h at (composed_name s)) → Written h at h' n
  unfolding string_as
  name_put h h' at n e k = (rw e k.0, rw e k.1)

pub name_is : (s h h' : Bytes) (at n : ℕ) → (n ≡ length (string_as false s)) × (h' ≡ written h at (string_as false s)) → (n ≡ length (composed_name s)) × (h' ≡ written h at (composed_name s))
unfolding string_as
name_is s h h' at n k = k

-- A string that a node does not have is empty, composed too.
module _ (x : TreeNode) (s : Bytes) (end : ℕ) (e : Entry) where
  first_none : (b : Bytes) → Tells x s end e [] b → Tells x s end e (composed_name []) b
  first_none b t = subst (λ (a : Bytes). Tells x s end e a b) (sym composed_empty) t

  second_none : (a : Bytes) → Tells x s end e a [] → Tells x s end e a (composed_name [])
  second_none a t = subst (λ (b : Bytes). Tells x s end e a b) (sym composed_empty) t

  both_none : Tells x s end e [] [] → Tells x s end e (composed_name []) (composed_name [])
  both_none t = first_none (composed_name []) (second_none [] t)

entry_tells : (s : Bytes) (end : ℕ) (x : TreeNode) → Tells x s end (entry_of end x) (composed_name (part_of s (entry_of end x).first)) (second_of s (entry_of end x))
unfolding string_of composed_node string_as
entry_tells s end (TreeNode.And n) = both_none _ _ _ _ (record { row = refl; short = refl; string = refl })
entry_tells s end (TreeNode.Or n) = both_none _ _ _ _ (record { row = refl; short = refl; string = refl })
entry_tells s end (TreeNode.Bar n) = both_none _ _ _ _ (record { row = refl; short = refl; string = refl })
entry_tells s end (TreeNode.Category p) = first_none _ _ _ _ _ (record { row = refl; short = refl; string = refl })
entry_tells s end (TreeNode.Namespace p) = second_none _ _ _ _ _ (record { row = refl; short = refl; string = append-nil _ })
entry_tells s end (TreeNode.Bare c p) = first_none _ _ _ _ _ (record { row = refl; short = refl; string = refl })
entry_tells s end (TreeNode.Qualified c p q) = record { row = refl; short = refl; string = refl }
entry_tells s end TreeNode.Existence = both_none _ _ _ _ (record { row = refl; short = refl; string = refl })
entry_tells s end (TreeNode.Value c p) = first_none _ _ _ _ _ (record { row = refl; short = refl; string = refl })
entry_tells s end TreeNode.Subquery = both_none _ _ _ _ (record { row = refl; short = refl; string = refl })
entry_tells s end (TreeNode.Property p) = first_none _ _ _ _ _ (record { row = refl; short = refl; string = refl })
entry_tells s end (TreeNode.Link p) = first_none _ _ _ _ _ (record { row = refl; short = refl; string = refl })

-- One node more.
module _ (l : List Node) (x : Node) where
  one_more : length (l ++ (x ∷ [])) ≡ length l + 1
  one_more = length-append l (x ∷ [])

  strings_more : strings (l ++ (x ∷ [])) ≡ strings l ++ string_of x
  unfolding strings
  strings_more = strings_append l (x ∷ []) ∙ ap (λ (r : Bytes). strings l ++ r) (append-nil (string_of x))

  rows_more : rows_from 0 (l ++ (x ∷ [])) ≡ rows_from 0 l ++ row_bytes (row_at (length (strings l)) x)
  unfolding rows_from row_bytes
  rows_more = rows_append 0 l (x ∷ []) ∙ ap (λ (n : ℕ). rows_from 0 l ++ row_bytes (row_at n x)) (zero-add (length (strings l)))

  length_more : length (strings (l ++ (x ∷ []))) ≡ length (strings l) + length (string_of x)
  length_more = ap length strings_more ∙ length-append (strings l) (string_of x)

-- A row has the lowest 16 bits of a number.
row_narrow : (t c n a b : ℕ) → row_bytes (row_of t c (n % 65536) a b) ≡ row_bytes (row_of t c n a b)
unfolding row_bytes
row_narrow t c n a b =
    let low : n % 65536 % 256 ≡ n % 256 = omega arith in
    let high : n % 65536 / 256 % 256 ≡ n / 256 % 256 = omega arith in
    rw (low, high)

length_row : (r : Row) → length (row_bytes r) ≡ 6
unfolding row_bytes
length_row r = refl

-- There is room where the nodes fit, with the one that is put.
module _ (s t : Bytes) (p : Place) (x : TreeNode) (e : Entry) (u v : Bytes) (g : e ≡ entry_of p.end x) (eu : u ≡ part_of s e.first) (ev : v ≡ part_of s e.second) where
  abbrev a : Bytes
  a = composed_name u

  abbrev b : Bytes
  b = string_as (eqb e.tag 8) v

  abbrev y : Node
  y = composed_node (node_by s x)

  tells : Tells x s p.end e a b
  tells =
      let told : Tells x s p.end e (composed_name (part_of s e.first)) (second_of s e) =
      subst (λ (f : Entry). Tells x s p.end f (composed_name (part_of s f.first)) (second_of s f)) (sym g) (entry_tells s p.end x) in
      subst (λ (w : Bytes). Tells x s p.end e a (string_as (eqb e.tag 8) w)) (sym ev) (subst (λ (w : Bytes). Tells x s p.end e (composed_name w) (second_of s e)) (sym eu) told)

  record Roomy : Type 0 where
    few : p.count < 681
    short : p.end ≤ 1024
    first : length a ≤ 64
    second : length b ≤ 64

  room_there : (l : List Node) → Fits (l ++ (y ∷ [])) → Laid t p l → Roomy
  unfolding all
  room_there l f d =
      let k = (and_true (has_short y) true (and_true (all has_short l) (all has_short (y ∷ [])) (sym (all_append has_short l (y ∷ [])) ∙ f.small)).1).0 in
      let h = and_true (leb (length a) 64) (leb (length b) 64) (tells.short ∙ k) in
      record { few = omega (arith, d.count, one_more l y, f.few); short = omega (arith, d.end, length_more l y, f.short); first = leb-true (length a) 64 h.0; second = leb-true (length b) 64 h.1 }

  abbrev AddsNode : Bytes → Place → Type 0
  AddsNode t' p' = Adds (composed_node (node_by s x) ∷ []) t p t' p'

  unput : (t' : Bytes) → length t' ≡ length t → (Roomy → ⊥) → AddsNode t' p
  unput t' h n = record { long = h; laid = λ l f d. absurd (n (room_there l f d)) }

  pub put_full : (r : Bool) → r ≡ has_room p → not r ≡ true → AddsNode t p
  unfolding has_room
  put_full r h n = unput t refl (λ q. false≢true (sym (not-true r n) ∙ h ∙ both_true (lt-ltb p.count 681 q.few) (le-leb p.end 1024 q.short)))

  module _ (t₁ : Bytes) (i : ℕ) (w : (i ≡ length (composed_name u)) × (t₁ ≡ written t (4088 + p.end) (composed_name u))) where
    pub put_long : 64 < i → AddsNode t₁ p
    put_long l = unput t₁ (rw w.1 (length_written t (4088 + p.end) a)) (λ q. omega (arith, q.first, w.0))

    module _ (t₂ : Bytes) (j : ℕ) (z : (j ≡ length (string_as (eqb e.tag 8) v)) × (t₂ ≡ written t₁ (4088 + p.end + i) (string_as (eqb e.tag 8) v))) where
      strung : t₂ ≡ written t (4088 + p.end) (a ++ b)
      strung = z.1 ∙ ap₂ (λ (r : Bytes) (n : ℕ). written r (4088 + p.end + n) b) w.1 w.0 ∙ written_then a b t (4088 + p.end)

      pub same_long : length t₂ ≡ length t
      same_long = ap length strung ∙ length_written t (4088 + p.end) (a ++ b)

      pub put_longer : 64 < j → AddsNode t₂ p
      put_longer l = unput t₂ same_long (λ q. omega (arith, q.second, z.0))

      pub put_is : (t₃ : Bytes) (c d : ℕ) → c ≡ comparator_code e.comparator → d ≡ e.number % 65536 → t₃ ≡ written t₂ (2 + 6 * p.count) (row_bytes (row_of e.tag c d i j)) → AddsNode t₃ (record { count = p.count + 1; end = p.end + i + j })
      put_is t₃ c d ec ed e₃ =
          record {
            long = ap length e₃ ∙ length_written t₂ (2 + 6 * p.count) _ ∙ same_long;
            laid = λ l f d. record { bytes = bytes l f d; count = omega (arith, d.count, one_more l y); end = omega (arith, d.end, length_more l y, ap length tells.string, length-append a b, w.0, z.0) };
          }
        where
          row_is : row_of e.tag c e.number i j ≡ row_at p.end y
          row_is = rw (ec, w.0, z.0) tells.row

          bytes : (l : List Node) → Fits (l ++ (y ∷ [])) → Laid t p l → t₃ ≡ zeros 2 ++ (padded 4086 (rows_from 0 (l ++ (y ∷ []))) ++ padded 1024 (strings (l ++ (y ∷ []))))
          bytes l f d =
              let row = row_bytes (row_at (length (strings l)) y) in
              let few = f.few in
              let n = one_more l y in
              let long = length_rows 0 l in
              let six = length_row (row_at (length (strings l)) y) in
              let first : t₂ ≡ zeros 2 ++ (padded 4086 (rows_from 0 l) ++ padded 1024 (strings l ++ string_of y)) =
              strung ∙ ap₂ (λ (h w : Bytes). written h (4088 + p.end) w) d.bytes tells.string
              ∙ written_texts (rows_from 0 l) (strings l) (string_of y) (4088 + p.end) (omega (arith, d.end)) (omega (arith, long, n, few)) (omega (arith, length_more l y, f.short)) in
              let second : t₃ ≡ zeros 2 ++ (padded 4086 (rows_from 0 l ++ row) ++ padded 1024 (strings l ++ string_of y)) =
              e₃ ∙ ap (written t₂ (2 + 6 * p.count)) (ap (λ (n : ℕ). row_bytes (row_of e.tag c n i j)) ed ∙ row_narrow e.tag c e.number i j) ∙ ap₂ (λ (h : Bytes) (r : Row). written h (2 + 6 * p.count) (row_bytes r)) first (row_is ∙ ap (λ (m : ℕ). row_at m y) d.end)
              ∙ written_rows (rows_from 0 l) (strings l ++ string_of y) row (2 + 6 * p.count) (omega (arith, d.count, long)) (omega (arith, long, six, n, few)) in
              second ∙ ap₂ (λ (r w : Bytes). zeros 2 ++ (padded 4086 r ++ padded 1024 w)) (sym (rows_more l y)) (sym (strings_more l y))

-- What the room allows.
pub in_room : (p : Place) (r : Bool) → r ≡ has_room p → not r ≡ false → (p.count < 681) × (p.end ≤ 1024)
unfolding has_room
in_room p r h k = let a = and_true (ltb p.count 681) (leb p.end 1024) (sym h ∙ not-false r k) in (ltb-true p.count 681 a.0, leb-true p.end 1024 a.1)

-- A row, byte by byte.
pub row_written : (h : Bytes) (at : ℕ) (r : Row) → r.number < 65536 → set (set (set (set (set (set h at r.tag) (at + 1) r.comparator) (at + 2) (r.number % 256)) (at + 3) (r.number / 256)) (at + 4) r.first) (at + 5) r.second ≡ written h at (row_bytes r)
unfolding row_bytes written
row_written h at r small =
    let one : at + 1 ≡ suc at = omega arith in
    let two : at + 2 ≡ suc (suc at) = omega arith in
    let three : at + 3 ≡ suc (suc (suc at)) = omega arith in
    let four : at + 4 ≡ suc (suc (suc (suc at))) = omega arith in
    let five : at + 5 ≡ suc (suc (suc (suc (suc at)))) = omega arith in
    let high : r.number / 256 ≡ r.number / 256 % 256 = omega (arith, small) in
    rw (one, two, three, four, five, ← high)

-- No nodes are laid into fewer bytes than a tree has.
pub put_short : (y : Node) (t : Bytes) (p : Place) → length t < 5112 → Adds (y ∷ []) t p t p
put_short y t p o =
    record {
      long = refl;
      laid = λ l f d.
          let rows = length_padded 4086 (rows_from 0 l) (omega (arith, length_rows 0 l, one_more l y, f.few)) in
          let texts = length_padded 1024 (strings l) (omega (arith, length_more l y, f.short)) in
          let both = length-append (padded 4086 (rows_from 0 l)) (padded 1024 (strings l)) in
          let all = length-append (zeros 2) (padded 4086 (rows_from 0 l) ++ padded 1024 (strings l)) in
          absurd (omega (arith, o, ap length d.bytes, rows, texts, both, all, length_zeros 2));
    }

-- Nodes laid one list behind the other.
module _ (t t₁ t₂ : Bytes) (p p₁ p₂ : Place) (k m : List Node) where
  pub adds_then : Adds k t p t₁ p₁ → Adds m t₁ p₁ t₂ p₂ → Adds (k ++ m) t p t₂ p₂
  adds_then a b =
      record {
        long = b.long ∙ a.long;
        laid = λ l f d.
            let e = append_assoc l k m in
            let g : Fits (l ++ k ++ m) = subst Fits (sym e) f in
            subst (Laid t₂ p₂) e (b.laid (l ++ k) g (a.laid l (fits_front (l ++ k) m g) d));
      }

  -- Two lists joined: the number of a connective is how many nodes were laid for the second.
  pub adds_joined : (g : ℕ → Node) (t₃ : Bytes) (p₃ : Place) → Adds k t p t₁ p₁ → Adds m t₁ p₁ t₂ p₂ → Adds (g (p₂.count - p₁.count) ∷ []) t₂ p₂ t₃ p₃ → Adds (join_by g k m) t p t₃ p₃
  adds_joined g t₃ p₃ a b c =
      record {
        long = c.long ∙ b.long ∙ a.long;
        laid = λ l f d.
            let x = g (length m) in
            let e : l ++ (k ++ m ++ (x ∷ [])) ≡ l ++ k ++ m ++ (x ∷ []) = sym (append_assoc l (k ++ m) (x ∷ [])) ∙ ap (λ (r : List Node). r ++ (x ∷ [])) (sym (append_assoc l k m)) in
            let h : Fits (l ++ k ++ m ++ (x ∷ [])) = subst Fits e f in
            let i = fits_front (l ++ k ++ m) (x ∷ []) h in
            let d₁ = a.laid l (fits_front (l ++ k) m i) d in
            let d₂ = b.laid (l ++ k) i d₁ in
            let n : p₂.count - p₁.count ≡ length m = omega (arith, d₁.count, d₂.count, length-append (l ++ k) m) in
            let c' : Adds (x ∷ []) t₂ p₂ t₃ p₃ = subst (λ (j : ℕ). Adds (g j ∷ []) t₂ p₂ t₃ p₃) n c in
            subst (Laid t₃ p₃) (sym e) (c'.laid (l ++ k ++ m) h d₂);
      }

pub adds_none : (t : Bytes) (p : Place) → Adds [] t p t p
adds_none t p = record { long = refl; laid = λ l f d. subst (Laid t p) (sym (append-nil l)) d }

-- No node, and all.
pub laid_none : Laid (zeros tree_size) (record { count = 0; end = 0 }) []
unfolding padded rows_from strings
laid_none = record { bytes = zeros_add 2 5110 ∙ ap (λ (r : Bytes). zeros 2 ++ r) (zeros_add 4086 1024); count = refl; end = refl }

pub finished : (t : Bytes) (p : Place) (l : List Node) → Laid t p l → written t 0 (two_bytes p.count) ≡ node_bytes l
unfolding node_bytes
finished t p l d = ap₂ (λ (h : Bytes) (n : ℕ). written h 0 (two_bytes n)) d.bytes d.count ∙ written_front (rows_from 0 l) (strings l) (length l)

pub ruleset putting = (put_short, put_full)

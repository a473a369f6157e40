-- Bytes are those of the nodes that they hold, exactly where the test of each row says so.
use Prim.Native.Nat.{ℕ, zero, suc, ◌+◌, ◌≤◌}
use mathlib.Core.Path.{◌≡◌, refl, sym, ap, ap₂, ◌∙◌}
use mathlib.Core.Bool.{true, cond, ◌||◌}
use mathlib.Core.List.{[]}
use native.Mathlib.Omega.{arith}
use lib.Dec.{eqb, leb}
use lib.ListN.{length}
use borrow.Author.Tests.{eqb-true, leb-true}
use Rattle.text.specs.Bytes.{Bytes, part}
use Rattle.buffer.proofs.Parts.{length_part, part_add}
use Rattle.values.specs.Names.{bare}
use Rattle.language.proofs.Members.{and_true}
use Rattle.language.specs.Comparators.{comparator_from, last_comparator}
use Rattle.language.proofs.EachComparator.{comparator_told}
use Rattle.query_tree.specs.Nodes.{Node, string_of}
use Rattle.query_tree.specs.declared.Row.{Row}
use Rattle.query_tree.specs.Form.{row_of, row_at, node_from}
use Rattle.query_tree.specs.Testing.{uses_comparator, uses_first, uses_second, number_fits, row_fits}

-- What a row that fits tells.
record Fitting (at t c n a b : ℕ) : Type 0 where
  comparator : c ≤ cond (uses_comparator t) last_comparator 0
  number : number_fits t at n ≡ true
  first : uses_first t || eqb a 0 ≡ true
  second : uses_second t || eqb b 0 ≡ true
  room : at + a + b ≤ 1024

-- A node's row and string, by the row that it was read from.
pub record Same (s : Bytes) (at : ℕ) (r : Row) : Type 0 where
  pub row : row_at at (node_from s r) ≡ r
  pub string : string_of (node_from s r) ≡ part s at (r.first + r.second)
  pub room : at + r.first + r.second ≤ 1024

below : {c : ℕ} → c ≤ 0 → c ≡ 0
below h = omega (arith, h)

module _ (s : Bytes) (long : length s ≡ 1024) (at : ℕ) where
  -- a string of b bytes at the place
  second_long : (b : ℕ) → at + 0 + b ≤ 1024 → length (part s (at + 0) b) ≡ b
  second_long b h = length_part s (at + 0) b (omega (arith, h, long))

  second_part_lem : (b : ℕ) → part s (at + 0) b ≡ part s at (0 + b)
  second_part_lem b = ap₂ (λ (i m : ℕ). part s i m) (let z : at + 0 ≡ at = omega arith in z) (let z : b ≡ 0 + b = omega arith in z)

  first_part_lem : (a : ℕ) → part s at a ≡ part s at (a + 0)
  first_part_lem a = ap (part s at) (let z : a ≡ a + 0 = omega arith in z)

  no_part : [] ≡ part s at (0 + 0)
  no_part = refl

  -- the row of a node with nothing, with a second string, with a first one, with both
  alone : (t n : ℕ) (x : Node) → node_from s (row_of t 0 n 0 0) ≡ x → row_at at x ≡ row_of t 0 n 0 0 → string_of x ≡ [] → at + 0 + 0 ≤ 1024 → Same s at (row_of t 0 n 0 0)
  alone t n x e f g h = record { row = ap (row_at at) e ∙ f; string = ap string_of e ∙ g; room = h }

  with_second : (t c b : ℕ) (x : Bytes → Node) → node_from s (row_of t c at 0 b) ≡ x (part s (at + 0) b) → ((y : Bytes) → row_at at (x y) ≡ row_of t c at 0 (length y)) → ((y : Bytes) → string_of (x y) ≡ y) → at + 0 + b ≤ 1024 → Same s at (row_of t c at 0 b)
  with_second t c b x e f g h = record { row = ap (row_at at) e ∙ f (part s (at + 0) b) ∙ ap (row_of t c at 0) (second_long b h); string = ap string_of e ∙ g (part s (at + 0) b) ∙ second_part_lem b; room = h }

  fitting_same : (t c n a b : ℕ) → t ≤ 11 → Fitting at t c n a b → Same s at (row_of t c n a b)
  unfolding node_from string_of
  fitting_same zero c n a b l f = rw (below f.comparator, eqb-true a 0 f.first, eqb-true b 0 f.second) (alone 0 n (Node.and n) refl refl refl (omega (arith, f.room)))
  fitting_same (suc zero) c n a b l f = rw (below f.comparator, eqb-true a 0 f.first, eqb-true b 0 f.second) (alone 1 n (Node.or n) refl refl refl (omega (arith, f.room)))
  fitting_same (suc (suc zero)) c n a b l f = rw (below f.comparator, eqb-true a 0 f.first, eqb-true b 0 f.second) (alone 2 n (Node.bar n) refl refl refl (omega (arith, f.room)))
  fitting_same (suc (suc (suc zero))) c n a b l f = let i = eqb-true a 0 f.first in rw (below f.comparator, eqb-true n at f.number, i) (with_second 3 0 b Node.category refl (λ y. refl) (λ y. refl) (omega (arith, f.room, i)))
  fitting_same (suc (suc (suc (suc zero)))) c n a b l f = let i = eqb-true b 0 f.second in rw (below f.comparator, eqb-true n at f.number, i) (record { row = ap (λ (k : ℕ). row_of 4 0 at k 0) (length_part s at a (omega (arith, f.room, long))); string = first_part_lem a; room = omega (arith, f.room, i) })
  fitting_same (suc (suc (suc (suc (suc zero))))) c n a b l f = let i = eqb-true a 0 f.first in rw (eqb-true n at f.number, i) (with_second 5 c b (λ y. Node.reference (comparator_from c) (bare y)) refl (λ y. ap (λ (k : ℕ). row_of 5 k at 0 (length y)) (comparator_told c f.comparator)) (λ y. refl) (omega (arith, f.room, i)))
  fitting_same (suc (suc (suc (suc (suc (suc zero)))))) c n a b l f = rw (eqb-true n at f.number) (record { row = rw (comparator_told c f.comparator, length_part s at a (omega (arith, f.room, long)), length_part s (at + a) b (omega (arith, f.room, long))); string = sym (part_add s at a b); room = f.room })
  fitting_same (suc (suc (suc (suc (suc (suc (suc zero))))))) c n a b l f = rw (below f.comparator, eqb-true n 0 f.number, eqb-true a 0 f.first, eqb-true b 0 f.second) (alone 7 0 Node.existence refl refl refl (omega (arith, f.room)))
  fitting_same (suc (suc (suc (suc (suc (suc (suc (suc zero)))))))) c n a b l f = let i = eqb-true a 0 f.first in rw (eqb-true n at f.number, i) (with_second 8 c b (λ y. Node.value (comparator_from c) y) refl (λ y. ap (λ (k : ℕ). row_of 8 k at 0 (length y)) (comparator_told c f.comparator)) (λ y. refl) (omega (arith, f.room, i)))
  fitting_same (suc (suc (suc (suc (suc (suc (suc (suc (suc zero))))))))) c n a b l f = rw (below f.comparator, eqb-true n 0 f.number, eqb-true a 0 f.first, eqb-true b 0 f.second) (alone 9 0 Node.subquery refl refl refl (omega (arith, f.room)))
  fitting_same (suc (suc (suc (suc (suc (suc (suc (suc (suc (suc zero)))))))))) c n a b l f = let i = eqb-true a 0 f.first in rw (below f.comparator, eqb-true n at f.number, i) (with_second 10 0 b Node.property refl (λ y. refl) (λ y. refl) (omega (arith, f.room, i)))
  fitting_same (suc (suc (suc (suc (suc (suc (suc (suc (suc (suc (suc zero))))))))))) c n a b l f = let i = eqb-true a 0 f.first in rw (below f.comparator, eqb-true n at f.number, i) (with_second 11 0 b Node.link refl (λ y. refl) (λ y. refl) (omega (arith, f.room, i)))
  fitting_same (suc (suc (suc (suc (suc (suc (suc (suc (suc (suc (suc (suc t)))))))))))) c n a b l f = absurd (omega (arith, l))

  pub fits_same : (r : Row) → row_fits at r ≡ true → Same s at r
  unfolding row_fits
  fits_same r h =
      let e = and_true _ (leb (at + r.first + r.second) 1024) h in
      let d = and_true _ (uses_second r.tag || eqb r.second 0) e.0 in
      let k = and_true _ (uses_first r.tag || eqb r.first 0) d.0 in
      let n = and_true _ (number_fits r.tag at r.number) k.0 in
      let c = and_true (leb r.tag 11) (leb r.comparator (cond (uses_comparator r.tag) last_comparator 0)) n.0 in
      fitting_same r.tag r.comparator r.number r.first r.second (leb-true r.tag 11 c.0)
      (record { comparator = leb-true r.comparator _ c.1; number = n.1; first = k.1; second = d.1; room = leb-true _ 1024 e.1 })

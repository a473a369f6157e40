-- Laws of places in lists of numbers.
use Prim.Native.Nat.{ℕ, suc, ◌<◌}
use mathlib.Core.Path.{◌≡◌, sym, ap}
use mathlib.Core.Bool.{true, not}
use mathlib.Core.List.{List, [], ◌∷◌, map, Memᴰ}
use native.Mathlib.Omega.{arith}
use lib.ListN.{length, get_or}
use borrow.Author.Tests.{not-true, eq-eqb}
use Rattle.text.specs.Bytes.{any}
use Rattle.language.specs.Register.{distinct}
use Rattle.language.proofs.Members.{and_true, any_at}
use Rattle.register_form.specs.Dictionary.{PropertyRow}
use Rattle.register_join_draft.specs.Joined.{same_row, name_in, place_in}

-- A row that no other is like stands in the place of its name.
pub record Stands (l : List PropertyRow) (r : PropertyRow) : Type 0 where
  pub place : ℕ
  pub is : place_in (map name_in l) r.name ≡ suc place
  pub below : place < length l
  pub row : (z : PropertyRow) → get_or l place z ≡ r

pub stands : (l : List PropertyRow) → distinct same_row l ≡ true → {r : PropertyRow} → Memᴰ r l → Stands l r
unfolding distinct place_in
stands [] h {r = r} x' = elim x' [ ]
stands (x ∷ l) h {r} (Memᴰ.head e) =
    record { place = 0; is = rw (eq-eqb x.name r.name (ap name_in (sym e))); below = omega arith; row = λ z. sym e }
stands (x ∷ l) h {r} (Memᴰ.tail m) =
    let t = and_true (not (any (same_row x) l)) (distinct same_row l) h in
    let s = stands l t.1 m in
    let b = s.below in
    record { place = suc s.place; is = rw (any_at (same_row x) (not-true _ t.0) m, s.is); below = omega arith; row = s.row }

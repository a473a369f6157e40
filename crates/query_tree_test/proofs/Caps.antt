-- Counts that stop at the first that is too large.
use Rattle.std.specs.Prelude.{Some}
use Rattle.std.specs.Bool.{then_some}
use Prim.Native.Nat.{ℕ, suc, ◌+◌, ◌≤◌}
use mathlib.Core.Path.{◌≡◌, refl, ap}
use mathlib.Core.Bool.{Bool, true, false, ◌&&◌}
use native.Mathlib.Numerals.{add-one}
use native.Mathlib.Omega.{arith}
use lib.Dec.{leb}
use lib.ListN.{length}
use Rattle.text.specs.Bytes.{Bytes}
use Rattle.names.specs.Names.{is_composed_property_name}
use Rattle.language.specs.Answer.{only_if}
use Rattle.query_tree.specs.declared.Shape.{Shape}
use Rattle.query_tree.specs.declared.Item.{Item}
use Rattle.query_tree.specs.Pass.{is_property, is_alternatives, bracket, up_to_bytes, up_to_levels, item_of, leaf_item, property_item, link_item}

-- What is made where a test passes.
pub told : {A : Type 0} (b : Bool) (x : A) → then_some b x ≡ only_if b (Some x)
told true x = refl
told false x = refl

pub bracket_most : (s : Shape) → bracket s ≤ 13
bracket_most Shape.Categories = omega arith
bracket_most Shape.Identifiers = omega arith
bracket_most Shape.Alternatives = omega arith
bracket_most Shape.Property = omega arith
bracket_most Shape.Disjunction = omega arith
bracket_most Shape.Conjunction = omega arith

-- A part whose bytes are counted from a text's length as far as it counts.
abbrev sized : Shape → ℕ → ℕ → Bool → Bool → Bool → ℕ → ℕ → Item
sized s at m o l k d b = record { shape = s; from = at; names = m; one = o; leads = l; kept = k; bytes = b; depth = d }

pub leaf_sized : (s : Shape) (at : ℕ) (l k : Bool) (a b : ℕ) → up_to_bytes a ≡ up_to_bytes b → leaf_item s at l k a ≡ leaf_item s at l k b
unfolding leaf_item
leaf_sized s at l k a b e = ap (sized s at 0 true l k 0) e

pub property_is : (x : Bytes) (i : Item) (n : ℕ) → n ≡ up_to_bytes (length x) → only_if (is_alternatives i.shape) (Some (item_of Shape.Property i.from 1 true false (is_composed_property_name x && i.kept) (6 + n + i.bytes) i.depth)) ≡ property_item x i
unfolding property_item
property_is x i n e =
    let z : up_to_bytes (6 + n + i.bytes) ≡ up_to_bytes (6 + length x + i.bytes) = omega (arith, e) in
    ap (λ (b : ℕ). only_if (is_alternatives i.shape) (Some (sized Shape.Property i.from 1 true false (is_composed_property_name x && i.kept) (up_to_levels i.depth) b))) z

pub link_is : (x : Bytes) (i : Item) (n : ℕ) → n ≡ up_to_bytes (length x) → only_if (is_property i.shape) (Some (item_of Shape.Property i.from (i.names + 1) true false (is_composed_property_name x && (leb (i.names + 1) 8 && i.kept)) (i.bytes + (n + 1)) i.depth)) ≡ link_item x i
unfolding link_item
link_is x i n e =
    let z : up_to_bytes (i.bytes + (n + 1)) ≡ up_to_bytes (i.bytes + suc (length x)) = omega (arith, e) in
    rw (add-one i.names)
    (ap (λ (b : ℕ). only_if (is_property i.shape) (Some (sized Shape.Property i.from (up_to_levels (suc i.names)) true false (is_composed_property_name x && (leb (suc i.names) 8 && i.kept)) (up_to_levels i.depth) b))) z)

-- A sum with a length that is cut as one with the whole length.
pub plus_cut : (k n : ℕ) → up_to_bytes (k + up_to_bytes n) ≡ up_to_bytes (k + n)
plus_cut k n = omega arith

pub cut_plus : (n k : ℕ) → up_to_bytes (up_to_bytes n + k) ≡ up_to_bytes (n + k)
cut_plus n k = omega arith

pub cuts_plus : (k m n : ℕ) → up_to_bytes (k + (up_to_bytes m + (up_to_bytes n + 1))) ≡ up_to_bytes (k + (m + suc n))
cuts_plus k m n = omega arith

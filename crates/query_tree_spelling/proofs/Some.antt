-- Some text is accepted as a surface query where the query passes one test; its shortest text is then one.
use Rattle.std.specs.Prelude.{Option, Some, None}
use Prim.Native.Nat.{ℕ, ◌≤◌, max}
use mathlib.Core.Path.{◌≡◌, refl, subst}
use mathlib.Core.Bool.{Bool, true, false, cond, false≢true}
use mathlib.Core.Logic.{◌↔◌}
use mathlib.Core.List.{[], ◌∷◌}
use native.Mathlib.Omega.{arith}
use lib.Dec.{ltb}
use lib.ListN.{length}
use borrow.Author.Tests.{le-leb, ltb-false}
use Rattle.text.specs.Bytes.{Bytes}
use Rattle.language.specs.Answer.{refused, accepted, ◌if◌, judge, found}
use Rattle.language.specs.Surface.{Query}
use Rattle.language.specs.RawQuery.{RawQuery, read_whole}
use Rattle.language.specs.QueryText.{depth, longest, breaks, breaks_value, checks, read_text}
use Rattle.language.proofs.Members.{both_true}
use Rattle.language.proofs.Options.{OnSome}
use Rattle.query_tree_spelling.specs.Spelled.{is_spelled, cost, deep, has_text}
use Rattle.query_tree_spelling.specs.Spelling.{spell}
use Rattle.query_tree_spelling.proofs.Spells.{spell_length, round_trip}
use Rattle.query_tree_spelling.proofs.Laying.{size, Laid, whole_takes}
use Rattle.query_tree_spelling.proofs.Cheapest.{made, cheap}

-- What an accepted text says of its surface query.
pub record Spelled (s : Bytes) (q : Query) : Type 0 where
  pub is : is_spelled q ≡ true
  pub costs : cost q ≤ length s
  pub fits : length s ≤ 1024
  pub deepness : deep q ≤ 8

judged : (a b c : Bool) (x q : Query) → judge (14 if a ∷ 15 if b ∷ 16 if c ∷ []) x ≡ accepted q → (a ≡ false) × (b ≡ false) × (c ≡ false) × (x ≡ q)
unfolding judge
judged true b c x q h = (cc, cc, cc, cc)
judged false true c x q h = (cc, cc, cc, cc)
judged false false true x q h = (cc, cc, cc, cc)
judged false false false x q h = (refl, refl, refl, cc)

pub accepted_spelled : (s : Bytes) (q : Query) → read_text s ≡ accepted q → Spelled s q
unfolding read_text
accepted_spelled s q = long (ltb 1024 (length s)) refl
  where
    good : (r : RawQuery) → Laid r × (size r ≤ length s) → length s ≤ 1024 → judge (checks r) (made r) ≡ accepted q → Spelled s q
    good r l f h =
        let j = judged (ltb 8 (max (depth r) (longest r))) (breaks r) (breaks_value r) (made r) q h in
        let m = ltb-false 8 (max (depth r) (longest r)) j.0 in
        let t = cheap r l.0 j.1 j.2 (omega (arith, m)) in
        subst (Spelled s) j.3 (record { is = t.is; costs = omega (arith, t.costs, l.1); fits = f; deepness = omega (arith, t.deepness, m) })

    no : (n : ℕ) → refused n ≡ accepted q → ⊥
    no n h = false≢true (let e : false ≡ true = cc in e)

    whole : (o : Option RawQuery) → OnSome (λ r. Laid r × (size r ≤ length s)) o → length s ≤ 1024 → found o (λ r. judge (checks r) (made r)) (refused 13) ≡ accepted q → Spelled s q
    whole None l f h = absurd (no 13 h)
    whole (Some r) l f h = good r l f h

    long : (t : Bool) → ltb 1024 (length s) ≡ t → cond t (refused 12) (found (read_whole s) (λ r. judge (checks r) (made r)) (refused 13)) ≡ accepted q → Spelled s q
    long true e h = absurd (no 12 h)
    long false e h = whole (read_whole s) (whole_takes s) (ltb-false 1024 (length s) e) h

-- The shortest text is no longer than any other.
pub shortest : (s : Bytes) (q : Query) → read_text s ≡ accepted q → length (spell q) ≤ length s
shortest s q h = let t = accepted_spelled s q h in omega (arith, spell_length q t.is, t.costs)

pub accepted_has_text : (s : Bytes) (q : Query) → read_text s ≡ accepted q → has_text q ≡ true
unfolding has_text
accepted_has_text s q h = let t = accepted_spelled s q h in both_true t.is (both_true (le-leb (cost q) 1024 (omega (arith, t.costs, t.fits))) (le-leb (deep q) 8 t.deepness))

-- The test is whether some text is accepted as the query.
pub has_text_lem : (q : Query) → (has_text q ≡ true) ↔ ((s : Bytes) × (read_text s ≡ accepted q))
has_text_lem q = (λ h. (spell q, round_trip q h), λ t. accepted_has_text t.0 q t.1)

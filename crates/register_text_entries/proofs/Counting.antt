-- A text has at most one entry for every six bytes: the head of a page has four bytes more than that, and its end four fewer.
use Rattle.std.specs.Prelude.{Option}
use Prim.Native.Nat.{ℕ, zero, suc, ◌+◌, ◌*◌, ◌≤◌}
use mathlib.Core.List.{List, [], ◌∷◌}
use native.Mathlib.Omega.{arith}
use lib.ListN.{length}
use Rattle.text.specs.Bytes.{Bytes}
use Rattle.language.specs.Answer.{◌>>=◌}
use Rattle.language.specs.RegisterText.{Entry, Place, line, inner, Read, next_entry, entries_within, entries_from}
use Rattle.language.proofs.Options.{OnSome, on_bind}
use Rattle.language.proofs.Entries.{owed, Six, six_next, with_rest}

-- How many entries there are from a place of kind p on.
abbrev pub Few : Place → Bytes → List Entry → Type 0
Few p s l = 6 * length l ≤ length s + owed p

few_more : (p : Place) (s : Bytes) (o : Option Read) (f : Place → Bytes → Option (List Entry)) → OnSome (Six p s) o → ((q : Place) (r : Bytes) → OnSome (Few q r) (f q r)) → OnSome (Few p s) (o >>= with_rest f)
few_more p s o f h k =
    on_bind (Six p s) (Few p s) o _ h (λ e m.
    on_bind (Few e.place e.rest) (Few p s) (f e.place e.rest) _ (k e.place e.rest) (λ l n. omega (arith, m.spent)))

few_within : (n : ℕ) (p : Place) (s : Bytes) → OnSome (Few p s) (entries_within n p s)
unfolding entries_within
few_within zero line [] = omega arith
few_within zero line (b ∷ s) = tt
few_within zero inner s = tt
few_within (suc n) line [] = omega arith
few_within (suc n) line (b ∷ s) = few_more line (b ∷ s) (next_entry line (b ∷ s)) (entries_within n) (six_next (b ∷ s) line) (few_within n)
few_within (suc n) inner s = few_more inner s (next_entry inner s) (entries_within n) (six_next s inner) (few_within n)

pub few : (p : Place) (s : Bytes) → OnSome (Few p s) (entries_from p s)
unfolding entries_from
few p s = few_within (length s) p s

-- What a call answers, and how a refusal's number is chosen. Document 01, "What each call turns away".
use Rattle.std.specs.Prelude.{ℕ, ◌≡◌, Bool, true, false, cond, List, [], ◌∷◌, Option, Some, None}

-- "A refusal returns only its number"
pub data Answer (A : Type 0) : Type 0 where
  refused : ℕ → Answer A
  accepted : A → Answer A

-- The number that a call returns: 0 where it is accepted.
abbrev pub number_of : {A : Type 0} → Answer A → ℕ
number_of (refused n) = n
number_of (accepted a) = 0

-- What was accepted, and what a call refuses by n where there is nothing.
abbrev pub accepted_of : {A : Type 0} → Answer A → Option A
accepted_of (refused n) = None
accepted_of (accepted a) = Some a

abbrev pub or_refuse : {A : Type 0} → ℕ → Option A → Answer A
or_refuse n None = refused n
or_refuse n (Some a) = accepted a

-- The buffer b behind a call whose answer is what it leaves there: as it was where the call is refused.
abbrev pub left_in : {A : Type 0} → A → Answer A → A
left_in b (refused n) = b
left_in b (accepted a) = a

-- What such a call answers inside, where no number is negative: its number r, and the buffer behind it.
pub record Answered {A : Type 0} (a : Answer A) (b : A) (r : ℕ) (after : A) : Type 0 where
  pub number : r ≡ number_of a
  pub bytes : after ≡ left_in b a

-- A number of the table, and whether its condition holds.
infix 75 ◌if◌
pub data Check : Type 0 where
  ◌if◌ : ℕ → Bool → Check

-- "the lowest number whose condition holds is returned": the checks stand in the order of their numbers.
module _ {A : Type 0} where
  unfoldable pub judge : List Check → A → Answer A
  judge [] a = accepted a
  judge (n if b ∷ l) a = cond b (refused n) (judge l a)

-- What was read, where the test passes.
abbrev pub only_if : {A : Type 0} → Bool → Option A → Option A
only_if true o = o
only_if false o = None

module _ {A B : Type 0} where
  -- What was read, read on; nothing where nothing was read.
  infixl 10 ◌>>=◌
  abbrev pub ◌>>=◌ : Option A → (A → Option B) → Option B
  None >>= f = None
  Some a >>= f = f a

  -- What f makes of what was read, else y.
  abbrev pub found : Option A → (A → B) → B → B
  found None f y = y
  found (Some a) f y = f a

  -- An accepted answer, answered on.
  abbrev pub and_then : Answer A → (A → Answer B) → Answer B
  and_then (refused n) f = refused n
  and_then (accepted a) f = f a

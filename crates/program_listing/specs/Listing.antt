-- What asklist writes. Document 01, "The sample register and its lists".
use Rattle.std.specs.Prelude.{ℕ, zero, suc, ◌+◌, ◌/◌, ◌%◌, ◌≤◌, ◌≡◌, Bool, false, cond, List, [], ◌∷◌, ◌++◌, ltb, length, get_or, take}
use Rattle.text.specs.Bytes.{Bytes, bytes}
use Rattle.language.specs.Answer.{Answer, refused, accepted, and_then}
use Rattle.language.specs.Register.{Page, Register}
use Rattle.language.specs.RegisterText.{read_register}
use Rattle.language.specs.Semantics.{run}
use Rattle.language.specs.Calls.{core_of}
use Rattle.register_form.specs.Opened.{page_in}
use Rattle.call_answers.specs.Calls.{marked}
use Rattle.program_listing.specs.Appends.{Appends}

-- A number below 1,000 in decimal: places, counts and refusals are.
unfoldable pub decimal : ℕ → Bytes
decimal n =
    cond (ltb n 10) ((48 + n) ∷ [])
    (cond (ltb n 100) ((48 + n / 10) ∷ (48 + n % 10) ∷ []) ((48 + n / 100) ∷ (48 + n / 10 % 10) ∷ (48 + n % 10) ∷ []))

-- "Then place, space, namespace, colon, article name."
unfoldable pub name_line : ℕ → Bytes → Bytes → Bytes
name_line i namespace article = decimal i ++ (32 ∷ []) ++ namespace ++ (58 ∷ []) ++ article ++ (10 ∷ [])

abbrev pub line_of : ℕ → Page → Bytes
line_of i p = name_line i p.identifier.namespace p.identifier.article

-- The lines of the marked pages among the first n.
unfoldable pub lines_to : ℕ → (ℕ → Bool) → (ℕ → Page) → Bytes
lines_to zero mark page = []
lines_to (suc n) mark page = lines_to n mark page ++ cond (mark n) (line_of n (page n)) []

-- "First line: the word and the count."
unfoldable pub listing : Register → List Bool → Bytes
listing R m = bytes "pages " ++ decimal (marked m) ++ (10 ∷ []) ++ lines_to (length R.pages) (λ i. get_or m i false) (page_in R)

-- "A refusal by the earliest call is one line, `refused 18`."
abbrev pub outcome : Answer Bytes → Bytes
outcome (refused n) = bytes "refused " ++ decimal n ++ (10 ∷ [])
outcome (accepted b) = b

-- All that is written for a register text and a query text.
unfoldable pub asklist : Bytes → Bytes → Bytes
asklist t s =
    outcome (and_then (read_register t) (λ R. and_then (core_of R s) (λ c. and_then (run c R) (λ m. accepted (listing R m)))))

-- What is written into a buffer: all of it where there are 34,314 bytes, else as much as there is room for. r is the place behind.
pub record Lists (t s before after : Bytes) (r : ℕ) : Type 0 where
  pub appends : Appends before 0 (asklist t s) after r
  pub whole : 34314 ≤ length before → take r after ≡ asklist t s

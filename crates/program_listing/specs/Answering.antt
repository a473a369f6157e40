-- Working definitions: what each step of the answer writes.
use Rattle.std.specs.Prelude.{ℕ, ◌≤◌, ◌<◌, ◌≡◌, Bool, cond, [], ◌∷◌, ◌++◌, eqb, length, get_or, Some}
use Rattle.text.specs.Bytes.{Bytes, bytes}
use Rattle.language.specs.Answer.{refused, accepted, and_then}
use Rattle.language.specs.Register.{Register}
use Rattle.language.specs.Core.{Core}
use Rattle.language.specs.Semantics.{run}
use Rattle.language.specs.Calls.{core_of}
use Rattle.register_form.specs.Form.{register_in, held_register}
use Rattle.register_form.specs.Opened.{page_in}
use Rattle.query_core.specs.Held.{held_query}
use Rattle.program_listing.specs.Listing.{decimal, line_of, lines_to, listing, outcome}
use Rattle.program_listing.specs.Appends.{Appends}

-- What is written for a core query, and for a query text, on a register.
unfoldable pub of_core : Register → Core → Bytes
of_core R c = outcome (and_then (run c R) (λ m. accepted (listing R m)))

unfoldable pub of_text : Register → Bytes → Bytes
of_text R s = outcome (and_then (core_of R s) (λ c. and_then (run c R) (λ m. accepted (listing R m))))

-- The page in place i is marked: its byte is 1.
abbrev pub is_marked : Bytes → ℕ → Bool
is_marked marks i = eqb (get_or marks i 0) 1

-- The line of the page in place i whose byte is `mark`, of the register that the bytes h describe.
unfoldable pub AppendsPage : Bytes → ℕ → ℕ → Bytes → ℕ → Bytes → ℕ → Type 0
AppendsPage h i mark b at after r = i < 1000 → Appends b at (cond (eqb mark 1) (line_of i (page_in (register_in h) i)) []) after r

-- The lines of the first n pages.
unfoldable pub AppendsLines : Bytes → Bytes → ℕ → Bytes → ℕ → Bytes → ℕ → Type 0
AppendsLines h marks n b at after r = n ≤ 1000 → Appends b at (lines_to n (is_marked marks) (page_in (register_in h))) after r

-- The list of the register in h, with a count of marked pages.
unfoldable pub AppendsList : Bytes → ℕ → Bytes → Bytes → Bytes → ℕ → Type 0
AppendsList h count marks b after r =
    (R : Register) → held_register h ≡ Some R → count < 1000
    → Appends b 0 (bytes "pages " ++ decimal count ++ (10 ∷ []) ++ lines_to (length R.pages) (is_marked marks) (page_in R)) after r

unfoldable pub AppendsRefusal : ℕ → Bytes → Bytes → ℕ → Type 0
AppendsRefusal n b after r = n < 1000 → Appends b 0 (outcome (refused n)) after r

-- The answer to a held query, and to a query text, on the register in h.
unfoldable pub AnswersCore : Bytes → Bytes → Bytes → Bytes → ℕ → Type 0
AnswersCore q h b after r = (c : Core) (R : Register) → held_query q ≡ Some c → held_register h ≡ Some R → Appends b 0 (of_core R c) after r

unfoldable pub AnswersText : Bytes → Bytes → Bytes → Bytes → ℕ → Type 0
AnswersText h s b after r = (R : Register) → held_register h ≡ Some R → Appends b 0 (of_text R s) after r

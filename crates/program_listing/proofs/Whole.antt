-- No answer is longer than 34,314 bytes: 256 lines of 134 bytes behind a first one of 10.
use Prim.Native.Nat.{ℕ, zero, suc, ◌+◌, ◌*◌, ◌/◌, ◌%◌, ◌≤◌, ◌<◌}
use mathlib.Core.Path.{◌≡◌, refl, ap, ap₂, ◌∙◌}
use mathlib.Core.Bool.{Bool, true, false, cond, ◌||◌}
use mathlib.Core.List.{List, [], ◌∷◌, ◌++◌}
use native.Mathlib.Omega.{arith}
use borrow.Author.Tests.{eqb-true}
use lib.Dec.{ltb, eqb}
use lib.ListN.{length, get_or, take, drop, length-append}
use lib.Seq.{take_at, sets-eq}
use Rattle.text.specs.Bytes.{Bytes, bytes}
use Rattle.names.specs.Names.{is_composed_name, is_composed_namespace}
use Rattle.names.proofs.Composed.{composed_named}
use Rattle.language.specs.Answer.{Answer, refused, accepted, and_then}
use Rattle.language.specs.Register.{Page, Register}
use Rattle.language.specs.RegisterText.{empty_page, read_register}
use Rattle.language.specs.Rules.{is_identifier, is_page, is_register}
use Rattle.language.specs.Semantics.{run}
use Rattle.language.specs.Calls.{core_of}
use Rattle.language.proofs.Members.{and_true, all_at}
use Rattle.language.proofs.Accepted.{accepted_register}
use Rattle.language.proofs.Rules.{register_rules, page_rules}
use Rattle.register_form.specs.Opened.{page_in}
use Rattle.register_form.proofs.Lists.{mem_at}
use Rattle.register_form.proofs.Rules.{within}
use Rattle.buffer.specs.Writing.{written}
use Rattle.call_answers.specs.Calls.{marked}
use Rattle.program_listing.specs.Listing.{decimal, name_line, line_of, lines_to, listing, outcome, asklist, Lists}
use Rattle.program_listing.specs.Appends.{Appends}

decimal_most : (n : ℕ) → length (decimal n) ≤ 3
unfolding decimal
decimal_most n = go (ltb n 10) (ltb n 100) (48 + n) (48 + n / 10) (48 + n % 10) (48 + n / 100) (48 + n / 10 % 10)
  where
    go : (a b : Bool) (p q r s t : ℕ) → length (cond a (p ∷ []) (cond b (q ∷ r ∷ []) (s ∷ t ∷ r ∷ []))) ≤ 3
    go true b p q r s t = omega arith
    go false true p q r s t = omega arith
    go false false p q r s t = omega arith

length_line : (i : ℕ) (n x : Bytes) → length n ≤ 64 → length x ≤ 64 → length (name_line i n x) ≤ 134
unfolding name_line
length_line i n x a b =
    omega (
      arith,
      decimal_most i,
      length-append (decimal i ++ (32 ∷ []) ++ n ++ (58 ∷ []) ++ x) (10 ∷ []),
      length-append (decimal i ++ (32 ∷ []) ++ n ++ (58 ∷ [])) x,
      length-append (decimal i ++ (32 ∷ []) ++ n) (58 ∷ []),
      length-append (decimal i ++ (32 ∷ [])) n,
      length-append (decimal i) (32 ∷ []),
    )

-- The names of an accepted text's pages have at most 64 bytes.
record Short (p : Page) : Type 0 where
  namespace : length p.identifier.namespace ≤ 64
  article : length p.identifier.article ≤ 64

short_page : (p : Page) → is_identifier p.identifier ≡ true → Short p
unfolding is_identifier is_composed_namespace
short_page p h =
    let t = and_true (is_composed_namespace p.identifier.namespace) (is_composed_name p.identifier.article) h in
    record { namespace = spaced p.identifier.namespace t.0; article = (composed_named p.identifier.article t.1).short }
  where
    spaced : (s : Bytes) → (eqb (length s) 0 || is_composed_name s) ≡ true → length s ≤ 64
    spaced s h = go (eqb (length s) 0) refl h
      where
        go : (b : Bool) → eqb (length s) 0 ≡ b → (b || is_composed_name s) ≡ true → length s ≤ 64
        go true e h = omega (arith, eqb-true (length s) 0 e)
        go false e h = (composed_named s h).short

short_at : (R : Register) → is_register R ≡ true → (i : ℕ) → i < length R.pages → Short (page_in R i)
unfolding page_in
short_at R r i l =
    let p = get_or R.pages i (empty_page [] []) in
    short_page p (page_rules p (all_at is_page (register_rules R r).pages (mem_at R.pages i (empty_page [] []) l))).identifier

lines_most : (n : ℕ) (mark : ℕ → Bool) (page : ℕ → Page) → ((i : ℕ) → i < n → Short (page i)) → length (lines_to n mark page) ≤ n * 134
unfolding lines_to
lines_most zero mark page s = omega arith
lines_most (suc n) mark page s =
    omega (arith, length-append (lines_to n mark page) (cond (mark n) (line_of n (page n)) []), lines_most n mark page (λ i l. s i (omega arith)), one (mark n))
  where
    one : (b : Bool) → length (cond b (line_of n (page n)) []) ≤ 134
    one true = let p = s n (omega arith) in length_line n (page n).identifier.namespace (page n).identifier.article p.namespace p.article
    one false = omega arith

listing_most : (R : Register) (m : List Bool) → is_register R ≡ true → length (listing R m) ≤ 34314
unfolding listing
listing_most R m r =
    let few = (within R (register_rules R r).limits).pages in
    let lines = lines_most (length R.pages) (λ i. get_or m i false) (page_in R) (short_at R r) in
    omega (
      arith,
      decimal_most (marked m),
      length-append (bytes "pages " ++ decimal (marked m) ++ (10 ∷ [])) (lines_to (length R.pages) (λ i. get_or m i false) (page_in R)),
      length-append (bytes "pages " ++ decimal (marked m)) (10 ∷ []),
      length-append (bytes "pages ") (decimal (marked m)),
    )

refusal_most : (n : ℕ) → length (outcome (refused n)) ≤ 34314
refusal_most n = omega (arith, decimal_most n, length-append (bytes "refused " ++ decimal n) (10 ∷ []), length-append (bytes "refused ") (decimal n))

then_most : {A : Type 0} (a : Answer A) (f : A → Answer Bytes) → ((x : A) → a ≡ accepted x → length (outcome (f x)) ≤ 34314) → length (outcome (and_then a f)) ≤ 34314
then_most (refused n) f h = refusal_most n
then_most (accepted x) f h = h x refl

pub asklist_most : (t s : Bytes) → length (asklist t s) ≤ 34314
unfolding asklist
asklist_most t s =
    then_most (read_register t) (λ R. and_then (core_of R s) (λ c. and_then (run c R) (λ m. accepted (listing R m))))
    (λ R e. then_most (core_of R s) (λ c. and_then (run c R) (λ m. accepted (listing R m)))
    (λ c f. then_most (run c R) (λ m. accepted (listing R m)) (λ m g. listing_most R m (accepted_register t R e))))

written_front : (x h : Bytes) → length x ≤ length h → take (length x) (written h 0 x) ≡ x
unfolding written
written_front x h l = ap (take (length x)) (sets-eq x h 0 (omega arith)) ∙ take_at x (drop (0 + length x) h) (length x) refl

-- So a buffer of that size takes all of it.
pub lists : (t s before after : Bytes) (r : ℕ) → Appends before 0 (asklist t s) after r → Lists t s before after r
lists t s before after r p = record { appends = p; whole = λ l. whole l }
  where
    whole : 34314 ≤ length before → take r after ≡ asklist t s
    whole l =
        let x = asklist t s in
        let most = asklist_most t s in
        let place : r ≡ length x = p.place (omega arith) ∙ omega arith in
        let bytes = p.bytes (omega arith) in
        ap₂ take place bytes ∙ written_front x before (omega arith)

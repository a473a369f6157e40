-- The reader of the register text without its bound, and the equations that its definition writes.
use Rattle.std.specs.Prelude.{Option, Some, None}
use Prim.Native.Nat.{ℕ, zero, suc, ◌+◌, ◌≤◌, ◌<◌}
use mathlib.Core.Path.{◌≡◌, refl, sym, ap, ◌∙◌}
use mathlib.Core.List.{List, [], ◌∷◌}
use native.Mathlib.Omega.{arith}
use lib.ListN.{length, drop, length-take, length-drop}
use Rattle.text.specs.Bytes.{Bytes, bytes, span, behind, starts, after}
use Rattle.text.specs.Class.{is_quotable}
use Rattle.values.specs.declared.Kind.{Kind}
use Rattle.values.specs.Values.{kind_word}
use Rattle.values.specs.Answers.{kind_at}
use Rattle.values.proofs.AllKinds.{kind_stands}
use Rattle.values.proofs.EachKind.{word_filled}
use Rattle.text.proofs.Laws.{starts_fits, span_le}
use Rattle.language.specs.Answer.{◌>>=◌, found}
use Rattle.language.specs.RegisterText.{Entry, prop, page, cat, val, close, Place, line, inner, Read, quoted, kind_word_at, prop_form, page_form, cat_form, val_form, closing, next_entry, entries_within, entries_from}
use Rattle.language.specs.Rules.{total}
use Rattle.language.proofs.Options.{OnSome, on_bind, on_found, same_bind, settled}
use Rattle.language.proofs.Shorter.{Less, after_leaves}

-- the two quotation marks, and what they hold
abbrev Unquoted : Bytes → Bytes × Bytes → Type 0
Unquoted s x = length x.0 + length x.1 + 2 ≤ length s

quoted_leaves : (s : Bytes) → OnSome (Unquoted s) (quoted s)
unfolding quoted
quoted_leaves s =
    on_bind _ (Unquoted s) (after (bytes "\"") s) _ (after_leaves (bytes "\"") s)
    (λ r l. on_bind _ (Unquoted s) (after (bytes "\"") (behind is_quotable r)) _ (after_leaves (bytes "\"") (behind is_quotable r))
    (λ e m. omega (arith, span_le is_quotable r, length-take (span is_quotable r) r, length-drop (span is_quotable r) r)))

kind_leaves : (s : Bytes) → OnSome (Less s) (kind_word_at s)
unfolding kind_word_at
kind_leaves s = go (kind_at s) refl
  where
    go : (o : Option Kind) → kind_at s ≡ o → OnSome (Less s) (o >>= λ k. Some (k, drop (length (kind_word k)) s))
    go None e = tt
    go (Some k) e =
        let h = starts_fits (kind_word k) s (kind_stands k s e) in
        let w = word_filled k in omega (arith, length-drop (length (kind_word k)) s)

-- What the end of the page form that a place is in has too few.
abbrev pub owed : Place → ℕ
owed line = 0
owed inner = 4

-- The bytes of an entry's names and value, the four by which `false` is longer than `0`, and the three of `" "` behind what is declared.
abbrev pub weight : Entry → ℕ
weight (prop x k) = length x + 3
weight (page n x) = length n + length x + 3
weight (cat x) = length x
weight (val x v) = length x + length v + 4
weight close = 0

-- An entry at a place of kind p.
pub record Six (p : Place) (s : Bytes) (e : Read) : Type 0 where
  pub spent : length e.rest + 6 + owed e.place ≤ length s + owed p
  pub shorter : length e.rest < length s
  pub weighed : weight e.entry + length e.rest ≤ length s

module _ (p : Place) (s : Bytes) where
  on_word : (w r : Bytes) (f : Bytes → Option Read) → ((e : Bytes) → length e + length w ≤ length r → OnSome (Six p s) (f e)) → OnSome (Six p s) (after w r >>= f)
  on_word w r f k = on_bind _ (Six p s) (after w r) f (after_leaves w r) k

  on_quoted : (r : Bytes) (f : Bytes × Bytes → Option Read) → ((x : Bytes × Bytes) → Unquoted r x → OnSome (Six p s) (f x)) → OnSome (Six p s) (quoted r >>= f)
  on_quoted r f k = on_bind (Unquoted r) (Six p s) (quoted r) f (quoted_leaves r) k

  first_of : (a b : Option Read) → OnSome (Six p s) a → OnSome (Six p s) b → OnSome (Six p s) (found a Some b)
  first_of a b h k = on_found (Six p s) (Six p s) a Some b h (λ x l. l) k

module _ (s : Bytes) where
  six_prop : OnSome (Six line s) (prop_form s)
  unfolding prop_form
  six_prop =
      on_word line s (bytes "(prop ") s _ λ r₁ l₁.
      on_quoted line s r₁ _ λ r₂ l₂.
      on_word line s (bytes " ") r₂.1 _ λ r₃ l₃.
      on_bind (Less r₃) (Six line s) (kind_word_at r₃) _ (kind_leaves r₃) λ r₄ l₄.
      on_word line s (bytes ")\n") r₄.1 _ λ r₅ l₅. record { spent = omega arith; shorter = omega arith; weighed = omega arith }

  six_page : OnSome (Six line s) (page_form s)
  unfolding page_form
  six_page =
      on_word line s (bytes "(page ") s _ λ r₁ l₁.
      on_quoted line s r₁ _ λ r₂ l₂.
      on_word line s (bytes " ") r₂.1 _ λ r₃ l₃.
      on_quoted line s r₃ _ λ r₄ l₄. record { spent = omega arith; shorter = omega arith; weighed = omega arith }

  six_cat : OnSome (Six inner s) (cat_form s)
  unfolding cat_form
  six_cat =
      on_word inner s (bytes " (cat ") s _ λ r₁ l₁.
      on_quoted inner s r₁ _ λ r₂ l₂.
      on_word inner s (bytes ")") r₂.1 _ λ r₃ l₃. record { spent = omega arith; shorter = omega arith; weighed = omega arith }

  six_val : OnSome (Six inner s) (val_form s)
  unfolding val_form
  six_val =
      on_word inner s (bytes " (val ") s _ λ r₁ l₁.
      on_quoted inner s r₁ _ λ r₂ l₂.
      on_word inner s (bytes " ") r₂.1 _ λ r₃ l₃.
      on_quoted inner s r₃ _ λ r₄ l₄.
      on_word inner s (bytes ")") r₄.1 _ λ r₅ l₅. record { spent = omega arith; shorter = omega arith; weighed = omega arith }

  six_close : OnSome (Six inner s) (closing s)
  unfolding closing
  six_close = on_word inner s (bytes ")\n") s _ λ r₁ l₁. record { spent = omega arith; shorter = omega arith; weighed = omega arith }

  pub six_next : (p : Place) → OnSome (Six p s) (next_entry p s)
  unfolding next_entry
  six_next line = first_of line s (prop_form s) (page_form s) six_prop six_page
  six_next inner = first_of inner s (cat_form s) _ six_cat (first_of inner s (val_form s) (closing s) six_val six_close)

-- an entry, then the others
abbrev pub with_rest : (Place → Bytes → Option (List Entry)) → Read → Option (List Entry)
with_rest more e = more e.place e.rest >>= λ l. Some (e.entry ∷ l)

entries_step : (n : ℕ) (p : Place) (s : Bytes) → length s ≤ n → entries_within (suc n) p s ≡ entries_within n p s
unfolding entries_within next_entry cat_form val_form closing after starts
entries_step zero line [] h = refl
entries_step zero line (b ∷ s) h = absurd (omega arith)
entries_step zero inner [] h = refl
entries_step zero inner (b ∷ s) h = absurd (omega arith)
entries_step (suc n) line [] h = refl
entries_step (suc n) line (b ∷ s) h =
    same_bind (Six line (b ∷ s)) (next_entry line (b ∷ s)) _ _ (six_next (b ∷ s) line)
    (λ e l. ap (λ o. o >>= λ l. Some (e.entry ∷ l)) (entries_step n e.place e.rest (omega (arith, l.shorter))))
entries_step (suc n) inner s h =
    same_bind (Six inner s) (next_entry inner s) _ _ (six_next s inner)
    (λ e l. ap (λ o. o >>= λ l. Some (e.entry ∷ l)) (entries_step n e.place e.rest (omega (arith, l.shorter))))

entries_settled : (n : ℕ) (p : Place) (s : Bytes) → length s ≤ n → entries_within n p s ≡ entries_from p s
unfolding entries_from
entries_settled n p s h = settled (λ m. entries_within m p s) _ (λ m. entries_step m p s) n _ h (omega arith)

-- the equations
pub entries_end : entries_from line [] ≡ Some []
unfolding entries_from entries_within
entries_end = refl

pub entries_line : (b : ℕ) (s : Bytes) → entries_from line (b ∷ s) ≡ (next_entry line (b ∷ s) >>= with_rest entries_from)
unfolding entries_within
entries_line b s =
    sym (entries_settled (suc (length (b ∷ s))) line (b ∷ s) (omega arith))
    ∙ same_bind (Six line (b ∷ s)) (next_entry line (b ∷ s)) _ _ (six_next (b ∷ s) line)
    (λ e l. ap (λ o. o >>= λ l. Some (e.entry ∷ l)) (entries_settled (length (b ∷ s)) e.place e.rest (omega (arith, l.shorter))))

pub entries_inner : (s : Bytes) → entries_from inner s ≡ (next_entry inner s >>= with_rest entries_from)
unfolding entries_within
entries_inner s =
    sym (entries_settled (suc (length s)) inner s (omega arith))
    ∙ same_bind (Six inner s) (next_entry inner s) _ _ (six_next s inner)
    (λ e l. ap (λ o. o >>= λ l. Some (e.entry ∷ l)) (entries_settled (length s) e.place e.rest (omega (arith, l.shorter))))

-- the entries weigh no more than the text has bytes
entries_within_weigh : (n : ℕ) (p : Place) (s : Bytes) → OnSome (λ l. total weight l ≤ length s) (entries_within n p s)
unfolding entries_within total
entries_within_weigh zero line [] = omega arith
entries_within_weigh zero line (b ∷ s) = tt
entries_within_weigh zero inner s = tt
entries_within_weigh (suc n) line [] = omega arith
entries_within_weigh (suc n) line (b ∷ s) =
    on_bind (Six line (b ∷ s)) _ (next_entry line (b ∷ s)) _ (six_next (b ∷ s) line)
    (λ e t. on_bind _ _ (entries_within n e.place e.rest) _ (entries_within_weigh n e.place e.rest) (λ l h. omega (arith, t.weighed)))
entries_within_weigh (suc n) inner s =
    on_bind (Six inner s) _ (next_entry inner s) _ (six_next s inner)
    (λ e t. on_bind _ _ (entries_within n e.place e.rest) _ (entries_within_weigh n e.place e.rest) (λ l h. omega (arith, t.weighed)))

pub entries_weigh : (p : Place) (s : Bytes) → OnSome (λ l. total weight l ≤ length s) (entries_from p s)
unfolding entries_from
entries_weigh p s = entries_within_weigh (length s) p s

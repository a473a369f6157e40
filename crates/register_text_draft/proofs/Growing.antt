-- What an entry adds leaves in place what was there.
use Rattle.std.specs.Prelude.{Option, Some, None}
use Prim.Native.Nat.{ℕ, suc, ◌≤◌, ◌<◌}
use mathlib.Core.Path.{◌≡◌, refl, ◌∙◌}
use mathlib.Core.List.{List, [], ◌∷◌, ◌++◌, Memᴰ}
use native.Mathlib.Nat.{le_refl}
use native.Mathlib.Omega.{arith}
use lib.ListN.{length, get_or, length-append, get_or-append}
use lib.Seq.{get_or-append_seam}
use Rattle.text.specs.Bytes.{Bytes}
use Rattle.values.specs.Values.{Value}
use Rattle.language.specs.Answer.{found}
use Rattle.language.specs.Register.{Property}
use Rattle.language.specs.RegisterText.{Entry, prop, page, cat, val, close, value_of}
use Rattle.register_form.specs.Dictionary.{Dictionary}
use Rattle.register_form.specs.Encoding.{place_among}
use Rattle.register_text_draft.specs.Drafting.{with_value, added, draft_from}

-- The list l stands at the front of m.
pub record Front (l m : List Bytes) : Type 0 where
  pub count : length l ≤ length m
  pub at : (i : ℕ) → i < length l → get_or m i [] ≡ get_or l i []

pub front_self : (l : List Bytes) → Front l l
front_self l = record { count = le_refl _; at = λ i b. refl }

pub front_append : (l m : List Bytes) → Front l (l ++ m)
front_append l m = record { count = omega (arith, length-append l m); at = λ i b. get_or-append l m [] i b }

pub front_trans : {l m n : List Bytes} → Front l m → Front m n → Front l n
front_trans a b = record { count = omega (arith, a.count, b.count); at = λ i c. b.at i (omega (arith, a.count)) ∙ a.at i c }

-- A string behind a list that stands at the front.
module _ (l n : List Bytes) (t : Bytes) {m : List Bytes} (f : Front (l ++ (t ∷ n)) m) where
  pub front_there : length l < length m
  front_there = omega (arith, f.count, length-append l (t ∷ n))

  pub front_at : get_or m (length l) [] ≡ t
  front_at = f.at (length l) (omega (arith, length-append l (t ∷ n))) ∙ get_or-append_seam l t n []

-- The texts and the terms of d stand at the front of those of e.
pub record Grows (d e : Dictionary) : Type 0 where
  pub texts : Front d.texts e.texts
  pub terms : Front d.terms e.terms

pub grows_self : (d : Dictionary) → Grows d d
grows_self d = record { texts = front_self d.texts; terms = front_self d.terms }

pub grows_trans : {d e f : Dictionary} → Grows d e → Grows e f → Grows d f
grows_trans a b = record { texts = front_trans a.texts b.texts; terms = front_trans a.terms b.terms }

module _ (ps : List Property) where
  pub grows_added : (d : Dictionary) (e : Entry) → Grows d (added ps d e)
  unfolding added
  grows_added d (prop x k) = record { texts = front_append d.texts _; terms = front_self d.terms }
  grows_added d (page n x) = record { texts = front_append d.texts _; terms = front_self d.terms }
  grows_added d (cat x) = record { texts = front_append d.texts _; terms = front_append d.terms _ }
  grows_added d (val x v) = go (value_of ps x v)
    where
      go : (o : Option Value) → Grows d (found o (λ w. with_value (suc (place_among ps x)) w d) d)
      go None = grows_self d
      go (Some w) = record { texts = front_append d.texts _; terms = front_append d.terms _ }
  grows_added d close = grows_self d

  pub grows_from : (d : Dictionary) (l : List Entry) → Grows d (draft_from ps d l)
  unfolding draft_from
  grows_from d [] = grows_self d
  grows_from d (e ∷ l) = grows_trans (grows_added d e) (grows_from (added ps d e) l)

  -- What each entry keeps, of which it is known what it grows to at last, all keep.
  pub kept : (P : Dictionary → Type 0) (l : List Entry) (d : Dictionary)
      → ((e : Entry) → Memᴰ e l → (c : Dictionary) → Grows (added ps c e) (draft_from ps d l) → P c → P (added ps c e))
      → P d → P (draft_from ps d l)
  unfolding draft_from
  kept P [] d step h = h
  kept P (e ∷ l) d step h =
      kept P l (added ps d e) (λ f m. step f (Memᴰ.tail m)) (step e (Memᴰ.head refl) d (grows_from (added ps d e) l) h)

  pub draft_more : (d : Dictionary) (l : List Entry) (e : Entry) → draft_from ps d (l ++ (e ∷ [])) ≡ added ps (draft_from ps d l) e
  unfolding draft_from
  draft_more d [] e = refl
  draft_more d (f ∷ l) e = draft_more (added ps d f) l e

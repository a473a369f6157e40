-- The ways through the readers of the forms: what each answers, from what its calls gave.
use Rattle.std.specs.Prelude.{Option, Some, None}
use Prim.Native.Nat.{ℕ, ◌+◌, ◌-◌, ◌≤◌, ◌<◌}
use mathlib.Core.Path.{◌≡◌, refl, sym, ◌∙◌}
use mathlib.Core.Bool.{Bool, true, false, not}
use native.Mathlib.Omega.{arith}
use lib.ListN.{length, drop, length-drop, drop_of_length-le}
use lib.Seq.{drop-drop, drop-length, drop-nil}
use borrow.Author.Tests.{not-true, not-false}
use Rattle.text.specs.Bytes.{Bytes, bytes, starts, after, span, behind}
use Rattle.text.specs.Class.{is_quotable}
use Rattle.text.specs.Parts.{Within}
use Rattle.text.specs.declared.Span.{Span}
use Rattle.text.proofs.Laws.{starts_fits, span_le}
use Rattle.values.specs.Values.{kind_word}
use Rattle.values.specs.Answers.{kind_at}
use Rattle.values.specs.declared.Kind.{Kind}
use Rattle.values.proofs.AllKinds.{kind_stands}
use Rattle.language.specs.Answer.{◌>>=◌, found}
use Rattle.language.specs.RegisterText.{Read, prop, page, cat, val, line, inner, quoted, kind_word_at, prop_form, page_form, cat_form, val_form, closing, next_entry}
use Rattle.register_text_entries.specs.declared.Tag.{Tag}
use Rattle.register_text_entries.specs.declared.Item.{Item}
use Rattle.register_text_entries.specs.Items.{Finds, quoted_in, Quotes, framed, kind_in, place_of, ReadsEntry, nowhere}

-- A word.
module _ (s w : Bytes) (at : ℕ) (b : Bool) (p : b ≡ starts w (drop at s)) where
  pub word_absent : not b ≡ true → Finds s at w None
  unfolding after
  word_absent h = record { is = rw (← p, not-true b h); within = tt }

  module _ (h : not b ≡ false) where
    pub word_fits : at ≤ length s → at + length w ≤ length s
    word_fits l = omega (arith, starts_fits w (drop at s) (sym p ∙ not-false b h), length-drop at s)

    pub word_stands : at ≤ length s → Finds s at w (Some (at + length w))
    unfolding after
    word_stands l = record { is = rw (← p, not-false b h, drop-drop); within = word_fits l }

    pub word_past : length s < at → Finds s at w (Some (length s))
    unfolding after
    word_past l =
        let k : length s ≤ at = omega arith in
        record { is = rw (← p, not-false b h, drop_of_length-le s k, drop-length, drop-nil); within = omega arith }

pub ruleset words = (word_absent, word_stands, word_past)

-- A quoted text.
module _ (s : Bytes) (at : ℕ) (f : Option ℕ) (p : Finds s at (bytes "\"") f) where
  pub quote_absent : f ≡ None → Quotes s (quoted (drop at s)) None
  unfolding quoted
  quote_absent e = record { is = rw (← p.is, e); within = tt }

  module _ (start end : ℕ) (e : f ≡ Some start) (q : end ≡ start + span is_quotable (drop start s)) (g : Option ℕ) (o : Finds s end (bytes "\"") g) where
    rest : behind is_quotable (drop start s) ≡ drop end s
    rest = drop-drop (span is_quotable (drop start s)) start s ∙ rw (← q)

    pub quote_open : g ≡ None → Quotes s (quoted (drop at s)) None
    unfolding quoted
    quote_open h = record { is = rw (← p.is, e, rest, ← o.is, h); within = tt }

    pub quote_stands : (next : ℕ) → g ≡ Some next → Quotes s (quoted (drop at s)) (Some (record { start = start; len = end - start }, next))
    unfolding quoted
    quote_stands next h =
        let k : end - start ≡ span is_quotable (drop start s) = omega arith in
        let l : start ≤ length s = rw e at p.within in
        record {
          is = rw (← p.is, e, rest, ← o.is, h, k);
          within = omega (arith, span_le is_quotable (drop start s), length-drop start s);
        }

pub ruleset quotes = (quote_absent, quote_open, quote_stands)

-- A quoted text between two words.
module _ (s w v : Bytes) (at : ℕ) (f : Option ℕ) (p : Finds s at w f) where
  pub frame_absent : f ≡ None → Quotes s (framed w v (drop at s)) None
  unfolding framed
  frame_absent h = record { is = rw (← p.is, h); within = tt }

  module _ (a : ℕ) (e : f ≡ Some a) (q : Option (Span × ℕ)) (p₂ : Quotes s (quoted (drop a s)) q) where
    pub frame_empty : q ≡ None → Quotes s (framed w v (drop at s)) None
    unfolding framed
    frame_empty h = record { is = rw (← p.is, e, ← p₂.is, h); within = tt }

    module _ (x : Span × ℕ) (e₂ : q ≡ Some x) (g : Option ℕ) (p₃ : Finds s x.1 v g) where
      pub frame_open : g ≡ None → Quotes s (framed w v (drop at s)) None
      unfolding framed
      frame_open h = record { is = rw (← p.is, e, ← p₂.is, e₂, ← p₃.is, h); within = tt }

      pub frame_stands : (n : ℕ) → g ≡ Some n → Quotes s (framed w v (drop at s)) (Some (x.0, n))
      unfolding framed
      frame_stands n h = record { is = rw (← p.is, e, ← p₂.is, e₂, ← p₃.is, h); within = rw e₂ at p₂.within }

pub ruleset frames = (frame_absent, frame_empty, frame_open, frame_stands)

-- A kind word.
read_one : (o q : Option Kind) → o ≡ q → o ≡ q
read_one None None e = refl
read_one None (Some k) e = cc
read_one (Some j) None e = cc
read_one (Some j) (Some k) e = cc

module _ (s : Bytes) (at : ℕ) (r : Option Kind) (p : r ≡ (kind_at (drop at s))) where
  pub kind_absent : r ≡ None → kind_in s None ≡ kind_word_at (drop at s)
  unfolding kind_word_at
  kind_absent e = rw (read_one (kind_at (drop at s)) None (sym p ∙ e))

  module _ (k : Kind) (e : r ≡ Some k) where
    kind_is : kind_at (drop at s) ≡ Some k
    kind_is = read_one (kind_at (drop at s)) (Some k) (sym p ∙ e)

    pub kind_fits : length (kind_word k) ≤ length s - at
    kind_fits = omega (arith, starts_fits (kind_word k) (drop at s) (kind_stands k (drop at s) kind_is), length-drop at s)

    pub kind_found : (n : ℕ) → n ≡ length (kind_word k) → kind_in s (Some (k, at + n)) ≡ kind_word_at (drop at s)
    unfolding kind_word_at
    kind_found n h = rw (kind_is, h, drop-drop)

pub ruleset kinds = (kind_absent, kind_found)

-- The forms. Where a part is missing, there is no entry.
stops : (s : Bytes) (o : Option Read) → o ≡ None → ReadsEntry s o None
stops s o e = record { is = rw e; within = tt }

-- Each form but one begins with a framed text.
abbrev behind_it : Bytes → Bytes → Option (Bytes × Bytes)
behind_it x r = Some (x, r)

module _ (v : Bytes) (f : Bytes → Bytes → Option Read) where
  frame_end : (x : Bytes) (o : Option Bytes) → ((o >>= behind_it x) >>= λ y. f y.0 y.1) ≡ (o >>= f x)
  frame_end x None = refl
  frame_end x (Some r) = refl

  frame_text : (o : Option (Bytes × Bytes)) → ((o >>= λ x. after v x.1 >>= behind_it x.0) >>= λ y. f y.0 y.1) ≡ (o >>= λ x. after v x.1 >>= f x.0)
  frame_text None = refl
  frame_text (Some x) = frame_end x.0 (after v x.1)

  frame_word : (o : Option Bytes) → ((o >>= λ r. quoted r >>= λ x. after v x.1 >>= behind_it x.0) >>= λ y. f y.0 y.1) ≡ (o >>= λ r. quoted r >>= λ x. after v x.1 >>= f x.0)
  frame_word None = refl
  frame_word (Some r) = frame_text (quoted r)

  frame_first : (w s : Bytes) → (framed w v s >>= λ x. f x.0 x.1) ≡ (after w s >>= λ r. quoted r >>= λ x. after v x.1 >>= f x.0)
  unfolding framed
  frame_first w s = frame_word (after w s)

module _ (s : Bytes) (at : ℕ) (q : Option (Span × ℕ)) where
  module _ (p : Quotes s (framed (bytes "(prop ") (bytes " ") (drop at s)) q) where
    prop_is : prop_form (drop at s) ≡ (quoted_in s q >>= λ x. kind_word_at x.1 >>= λ k. after (bytes ")\n") k.1 >>= λ r. Some (record { entry = prop x.0 k.0; place = line; rest = r }))
    unfolding prop_form
    prop_is = rw p.is (sym (frame_first (bytes " ") _ (bytes "(prop ") (drop at s)))

    pub prop_1 : q ≡ None → ReadsEntry s (prop_form (drop at s)) None
    prop_1 h = stops s _ (rw (prop_is, h))

    module _ (x : Span × ℕ) (e : q ≡ Some x) (r : Option (Kind × ℕ)) (p₂ : kind_in s r ≡ kind_word_at (drop x.1 s)) where
      pub prop_2 : r ≡ None → ReadsEntry s (prop_form (drop at s)) None
      prop_2 h = stops s _ (rw (prop_is, e, ← p₂, h))

      module _ (k : Kind × ℕ) (e₂ : r ≡ Some k) (f : Option ℕ) (p₃ : Finds s k.1 (bytes ")\n") f) where
        pub prop_3 : f ≡ None → ReadsEntry s (prop_form (drop at s)) None
        prop_3 h = stops s _ (rw (prop_is, e, ← p₂, e₂, ← p₃.is, h))

        pub prop_4 : (n : ℕ) → f ≡ Some n → ReadsEntry s (prop_form (drop at s)) (Some (record { tag = Tag.Prop; kind = k.0; first = x.0; second = x.0; inner = false; next = n }))
        prop_4 n h =
            let l : Within s x.0 = rw e at p.within in
            record { is = rw (prop_is, e, ← p₂, e₂, ← p₃.is, h); within = (l, l) }

  module _ (p : Quotes s (framed (bytes "(page ") (bytes " ") (drop at s)) q) where
    page_is : page_form (drop at s) ≡ (quoted_in s q >>= λ x. quoted x.1 >>= λ y. Some (record { entry = page x.0 y.0; place = inner; rest = y.1 }))
    unfolding page_form
    page_is = rw p.is (sym (frame_first (bytes " ") _ (bytes "(page ") (drop at s)))

    pub page_1 : q ≡ None → ReadsEntry s (page_form (drop at s)) None
    page_1 h = stops s _ (rw (page_is, h))

    module _ (x : Span × ℕ) (e : q ≡ Some x) (r : Option (Span × ℕ)) (p₂ : Quotes s (quoted (drop x.1 s)) r) where
      pub page_2 : r ≡ None → ReadsEntry s (page_form (drop at s)) None
      page_2 h = stops s _ (rw (page_is, e, ← p₂.is, h))

      pub page_3 : (y : Span × ℕ) → r ≡ Some y → ReadsEntry s (page_form (drop at s)) (Some (record { tag = Tag.Page; kind = Kind.Page; first = x.0; second = y.0; inner = true; next = y.1 }))
      page_3 y h =
          let l : Within s x.0 = rw e at p.within in
          let m : Within s y.0 = rw h at p₂.within in
          record { is = rw (page_is, e, ← p₂.is, h); within = (l, m) }

  module _ (p : Quotes s (framed (bytes " (cat ") (bytes ")") (drop at s)) q) where
    cat_is : cat_form (drop at s) ≡ (quoted_in s q >>= λ x. Some (record { entry = cat x.0; place = inner; rest = x.1 }))
    unfolding cat_form
    cat_is = rw p.is (sym (frame_first (bytes ")") _ (bytes " (cat ") (drop at s)))

    pub cat_1 : q ≡ None → ReadsEntry s (cat_form (drop at s)) None
    cat_1 h = stops s _ (rw (cat_is, h))

    pub cat_2 : (x : Span × ℕ) → q ≡ Some x → ReadsEntry s (cat_form (drop at s)) (Some (record { tag = Tag.Cat; kind = Kind.Page; first = x.0; second = x.0; inner = true; next = x.1 }))
    cat_2 x h =
        let l : Within s x.0 = rw h at p.within in
        record { is = rw (cat_is, h); within = (l, l) }

  module _ (p : Quotes s (framed (bytes " (val ") (bytes " ") (drop at s)) q) where
    val_is : val_form (drop at s) ≡ (quoted_in s q >>= λ x. quoted x.1 >>= λ y. after (bytes ")") y.1 >>= λ r. Some (record { entry = val x.0 y.0; place = inner; rest = r }))
    unfolding val_form
    val_is = rw p.is (sym (frame_first (bytes " ") _ (bytes " (val ") (drop at s)))

    pub val_1 : q ≡ None → ReadsEntry s (val_form (drop at s)) None
    val_1 h = stops s _ (rw (val_is, h))

    module _ (x : Span × ℕ) (e : q ≡ Some x) (r : Option (Span × ℕ)) (p₂ : Quotes s (quoted (drop x.1 s)) r) where
      pub val_2 : r ≡ None → ReadsEntry s (val_form (drop at s)) None
      val_2 h = stops s _ (rw (val_is, e, ← p₂.is, h))

      module _ (y : Span × ℕ) (e₂ : r ≡ Some y) (f : Option ℕ) (p₃ : Finds s y.1 (bytes ")") f) where
        pub val_3 : f ≡ None → ReadsEntry s (val_form (drop at s)) None
        val_3 h = stops s _ (rw (val_is, e, ← p₂.is, e₂, ← p₃.is, h))

        pub val_4 : (n : ℕ) → f ≡ Some n → ReadsEntry s (val_form (drop at s)) (Some (record { tag = Tag.Val; kind = Kind.Page; first = x.0; second = y.0; inner = true; next = n }))
        val_4 n h =
            let l : Within s x.0 = rw e at p.within in
            let m : Within s y.0 = rw e₂ at p₂.within in
            record { is = rw (val_is, e, ← p₂.is, e₂, ← p₃.is, h); within = (l, m) }

module _ (s : Bytes) (at : ℕ) (f : Option ℕ) (p : Finds s at (bytes ")\n") f) where
  pub close_1 : f ≡ None → ReadsEntry s (closing (drop at s)) None
  unfolding closing
  close_1 h = stops s (closing (drop at s)) (rw (← p.is, h))

  pub close_2 : (n : ℕ) → f ≡ Some n → ReadsEntry s (closing (drop at s)) (Some (record { tag = Tag.Close; kind = Kind.Page; first = nowhere; second = nowhere; inner = false; next = n }))
  unfolding closing
  close_2 n h = record { is = rw (← p.is, h); within = (omega arith, omega arith) }

pub ruleset forms = (prop_1, prop_2, prop_3, prop_4, page_1, page_2, page_3, cat_1, cat_2, val_1, val_2, val_3, val_4, close_1, close_2)

-- The next entry: the first form that stands.
module _ (s : Bytes) (a b : Option Read) (r : Option Item) (k : ReadsEntry s a r) where
  first_stands : (x : Item) → r ≡ Some x → ReadsEntry s (found a Some b) (Some x)
  first_stands x h = record { is = rw (← k.is, h); within = rw h at k.within }

  first_none : r ≡ None → (q : Option Item) → ReadsEntry s b q → ReadsEntry s (found a Some b) q
  first_none h q l = rw (← k.is, h) l

module _ (s : Bytes) (at : ℕ) (t : Bool) where
  module _ (e : t ≡ true) (x : Option Item) (k : ReadsEntry s (cat_form (drop at s)) x) where
    pub next_cat : (i : Item) → x ≡ Some i → ReadsEntry s (next_entry (place_of t) (drop at s)) (Some i)
    unfolding next_entry
    next_cat i h = rw e (first_stands s _ _ x k i h)

    module _ (l : x ≡ None) (y : Option Item) (k₂ : ReadsEntry s (val_form (drop at s)) y) where
      pub next_val : (i : Item) → y ≡ Some i → ReadsEntry s (next_entry (place_of t) (drop at s)) (Some i)
      unfolding next_entry
      next_val i h = rw e (first_none s _ _ x k l _ (first_stands s _ _ y k₂ i h))

      pub next_close : y ≡ None → (z : Option Item) → ReadsEntry s (closing (drop at s)) z → ReadsEntry s (next_entry (place_of t) (drop at s)) z
      unfolding next_entry
      next_close h z k₃ = rw e (first_none s _ _ x k l z (first_none s _ _ y k₂ h z k₃))

  module _ (e : t ≡ false) (x : Option Item) (k : ReadsEntry s (prop_form (drop at s)) x) where
    pub next_prop : (i : Item) → x ≡ Some i → ReadsEntry s (next_entry (place_of t) (drop at s)) (Some i)
    unfolding next_entry
    next_prop i h = rw e (first_stands s _ _ x k i h)

    pub next_page : x ≡ None → (y : Option Item) → ReadsEntry s (page_form (drop at s)) y → ReadsEntry s (next_entry (place_of t) (drop at s)) y
    unfolding next_entry
    next_page h y l = rw e (first_none s _ _ x k h y l)

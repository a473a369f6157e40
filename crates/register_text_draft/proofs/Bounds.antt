-- How large a draft is.
use Rattle.std.specs.Prelude.{Some}
use Prim.Native.Nat.{ℕ, suc, ◌+◌, ◌≤◌}
use mathlib.Core.Path.{◌≡◌, refl, ap, ◌∙◌, subst}
use mathlib.Core.Bool.{Bool, true, false, cond, ◌||◌}
use mathlib.Core.List.{List, [], ◌∷◌, ◌++◌, flat_map, append-nil}
use native.Mathlib.Omega.{arith}
use lib.Dec.{ltb, eqb}
use lib.ListN.{length, length-append}
use borrow.Author.Tests.{ltb-false, eqb-true}
use Rattle.text.specs.Bytes.{Bytes}
use Rattle.values.specs.declared.Kind.{Kind}
use Rattle.values.specs.Names.{Identifier}
use Rattle.values.specs.Values.{string, Value, plain, read_value}
use Rattle.values.specs.Spelling.{spell_identifier}
use Rattle.values.proofs.Spelled.{of_read, spelled_link_le}
use Rattle.language.specs.Register.{Property}
use Rattle.language.specs.RegisterText.{Entry, prop, page, cat, val, close, line, properties, value_of, is_page, is_inner, count_of, over_limits}
use Rattle.language.specs.Rules.{total}
use Rattle.language.proofs.Options.{OnSome}
use Rattle.language.proofs.Members.{or_false}
use Rattle.language.proofs.Adding.{total_append}
use Rattle.language.proofs.Entries.{weight, entries_weigh}
use Rattle.language.proofs.Accepted.{on_value, weigh_composed}
use Rattle.language.proofs.Shorter.{of_found}
use Rattle.language.proofs.Registers.{Passed}
use Rattle.register_text_verdict.specs.Rows.{is_prop}
use Rattle.register_form.specs.Dictionary.{PageRow, Dictionary, labelled, term_of}
use Rattle.register_form.specs.Encoding.{plain_text, identifier_text, value_texts, place_among}
use Rattle.register_form.specs.Form.{joined}
use Rattle.buffer.proofs.Parts.{flat_append}
use Rattle.register_text_draft.specs.Drafting.{no_draft, on_last, code_in, with_value, added, draft_from, draft_of}
use Rattle.register_text_draft.specs.Sizes.{Sized, Fits}

sized_more : {d : Dictionary} {p g f b : ℕ} {q h k c : ℕ} → Sized d p g f b → p ≤ q → g ≤ h → f ≤ k → b ≤ c → Sized d q h k c
sized_more t i j m n =
    record {
      properties = omega (arith, t.properties);
      pages = omega (arith, t.pages);
      terms = omega (arith, t.terms);
      texts = omega (arith, t.texts);
      bytes = omega (arith, t.bytes);
    }

pub length_last : (f : ℕ) (l : List PageRow) → length (on_last f l) ≡ length l
unfolding on_last
length_last f [] = refl
length_last f (r ∷ []) = refl
length_last f (r ∷ q ∷ l) = ap suc (length_last f (q ∷ l))

pub length_labelled : (n x : Bytes) → length (labelled n x) ≡ suc (length n + length x)
unfolding labelled
length_labelled n x = ap suc (length-append n x)

pub joined_more : (l : List Bytes) (t : Bytes) → joined (l ++ (t ∷ [])) ≡ joined l ++ t
unfolding flat_map
joined_more l t = flat_append (λ t. t) l (t ∷ []) ∙ ap (λ (r : Bytes). joined l ++ r) (append-nil t)

-- One text more.
text_more : (l : List Bytes) (t : Bytes) (b w : ℕ) → length (joined l) ≤ b + length l → length t ≤ suc w → length (joined (l ++ (t ∷ []))) ≤ b + w + length (l ++ (t ∷ []))
text_more l t b w h k = rw (joined_more l t, length-append (joined l) t, length-append l (t ∷ [])) (omega arith)

-- A value's text is no longer than what writes it.
link_le : (i : Identifier) → length i.namespace + length i.article ≤ length (spell_identifier i)
unfolding spell_identifier
link_le i = go (eqb (length i.namespace) 0) refl
  where
    go : (t : Bool) → eqb (length i.namespace) 0 ≡ t → length i.namespace + length i.article ≤ length (cond t i.article (i.namespace ++ (58 ∷ i.article)))
    go true e = omega (arith, eqb-true (length i.namespace) 0 e)
    go false e = omega (arith, length-append i.namespace (58 ∷ i.article))

-- It has at most one, and not more than w bytes in it.
pub record Short (w : ℕ) (l : List Bytes) : Type 0 where
  pub count : length l ≤ 1
  pub bytes : length (joined l) ≤ w + length l

short_one : (w : ℕ) (t : Bytes) → length t ≤ suc w → Short w (t ∷ [])
unfolding flat_map
short_one w t h = record { count = omega arith; bytes = rw (append-nil t) (omega arith) }

short_none : (w : ℕ) → Short w []
unfolding flat_map
short_none w = record { count = omega arith; bytes = omega arith }

value_short : (k : Kind) (s : Bytes) (v : Value) → read_value k s ≡ Some v → Short (length s + 4) (value_texts v)
unfolding value_texts
value_short k s v h =
    of_read (λ v. Short (length s + 4) (value_texts v)) s
    (λ i e. short_one _ (identifier_text i) (omega (arith, length_labelled i.namespace i.article, link_le i, spelled_link_le s i e)))
    (λ j c e. short_none _)
    (short_one _ (plain_text s) (omega (arith, length_labelled [] s)))
    k v h

module _ (ps : List Property) (d : Dictionary) {p g f b : ℕ} (h : Sized d p g f b) where
  sized_value : (q : ℕ) (v : Value) (w : ℕ) → Short w (value_texts v) → Sized (with_value q v d) p g (f + 1) (b + w)
  sized_value q v w t =
      let l = value_texts v in
      let n = length-append d.texts l in
      record {
        properties = h.properties;
        pages = omega (arith, length_last (length d.terms) d.pages, h.pages);
        terms = omega (arith, length-append d.terms (term_of q (code_in (length d.texts) v) ∷ []), h.terms);
        texts = omega (arith, h.texts, t.count);
        bytes = rw (flat_append (λ (t : Bytes). t) d.texts l, length-append (joined d.texts) (joined l)) (omega (arith, h.bytes, t.bytes));
      }

  -- what an entry adds
  abbrev one : Bool → ℕ
  one b = cond b 1 0

  sized_added : (e : Entry) → Sized (added ps d e) (p + one (is_prop e)) (g + one (is_page e)) (f + one (is_inner e)) (b + weight e)
  unfolding added value_texts
  sized_added (prop x k) =
      let n = length-append d.texts (plain_text x ∷ []) in
      record {
        properties = omega (arith, length-append d.properties (record { kind = k; name = length d.texts } ∷ []), h.properties);
        pages = omega (arith, h.pages);
        terms = omega (arith, h.terms);
        texts = omega (arith, h.texts);
        bytes = let t = text_more d.texts (plain_text x) b (length x) h.bytes (omega (arith, length_labelled [] x)) in omega (arith, t);
      }
  sized_added (page n x) =
      let m = length-append d.texts (labelled n x ∷ []) in
      record {
        properties = omega (arith, h.properties);
        pages = omega (arith, length-append d.pages (record { identifier = length d.texts; forms = [] } ∷ []), h.pages);
        terms = omega (arith, h.terms);
        texts = omega (arith, h.texts);
        bytes = let t = text_more d.texts (labelled n x) b (length n + length x) h.bytes (omega (arith, length_labelled n x)) in omega (arith, t);
      }
  sized_added (cat x) =
      sized_more (sized_value 0 (plain (string x)) (length x) (short_one _ (plain_text x) (omega (arith, length_labelled [] x)))) (omega arith) (omega arith) (omega arith) (omega arith)
  sized_added (val x v) =
      of_found (λ c. Sized c (p + 0) (g + 0) (f + 1) (b + (length x + length v + 4))) (value_of ps x v) (λ w. with_value (suc (place_among ps x)) w d) d
      (on_value _ ps x v λ k w e. sized_more (sized_value (suc (place_among ps x)) w (length v + 4) (value_short k v w e)) (omega arith) (omega arith) (omega arith) (omega arith))
      (sized_more h (omega arith) (omega arith) (omega arith) (omega arith))
  sized_added close = sized_more h (omega arith) (omega arith) (omega arith) (omega arith)

abbrev counts : (Entry → Bool) → Entry → ℕ
counts p e = cond (p e) 1 0

sized_from : (ps : List Property) (l : List Entry) (d : Dictionary) {p g f b : ℕ} → Sized d p g f b
    → Sized (draft_from ps d l) (p + total (counts is_prop) l) (g + total (counts is_page) l) (f + total (counts is_inner) l) (b + total weight l)
unfolding draft_from total
sized_from ps [] d h = sized_more h (omega arith) (omega arith) (omega arith) (omega arith)
sized_from ps (e ∷ l) d h = sized_more (sized_from ps l (added ps d e) (sized_added ps d h e)) (omega arith) (omega arith) (omega arith) (omega arith)

-- The counts of an accepted text.
count_total : (p : Entry → Bool) (l : List Entry) → count_of p l ≡ total (counts p) l
unfolding count_of total
count_total p [] = refl
count_total p (e ∷ l) = rw (count_total p l)

properties_total : (l : List Entry) → length (properties l) ≡ total (counts is_prop) l
unfolding properties total
properties_total [] = refl
properties_total (prop x k ∷ l) = omega (arith, properties_total l)
properties_total (page n x ∷ l) = omega (arith, properties_total l)
properties_total (cat x ∷ l) = omega (arith, properties_total l)
properties_total (val x v ∷ l) = omega (arith, properties_total l)
properties_total (close ∷ l) = omega (arith, properties_total l)

pub passed_fits : (s : Bytes) (k a b : List Entry) → Passed s k (a ++ b) → (ps : List Property) → Fits (draft_of ps a)
unfolding draft_of over_limits flat_map
passed_fits s k a b t ps =
    let l = a ++ b in
    let i = or_false (ltb 64 (length (properties l)) || ltb 256 (count_of is_page l)) (ltb 2048 (count_of is_inner l)) t.few in
    let j = or_false (ltb 64 (length (properties l))) (ltb 256 (count_of is_page l)) i.0 in
    let v : total weight k ≤ length s = subst (OnSome (λ l. total weight l ≤ length s)) t.read (entries_weigh line s) in
    let w : total weight l ≤ total weight k = rw t.composed at (weigh_composed k) in
    let None : Sized no_draft 0 0 0 0 = record { properties = omega arith; pages = omega arith; terms = omega arith; texts = omega arith; bytes = omega arith } in
    sized_more (sized_from ps a no_draft None)
    (omega (arith, ltb-false 64 (length (properties l)) j.0, properties_total l, total_append (counts is_prop) a b))
    (omega (arith, ltb-false 256 (count_of is_page l) j.1, count_total is_page l, total_append (counts is_page) a b))
    (omega (arith, ltb-false 2048 (count_of is_inner l) i.1, count_total is_inner l, total_append (counts is_inner) a b))
    (omega (arith, t.short, total_append weight a b))

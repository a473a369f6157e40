-- The ranges that the functions answer, for opened bytes.
use Rattle.std.specs.Prelude.{Option, Some, None}
use Prim.Native.Nat.{ℕ, suc, ◌+◌, ◌≤◌, ◌<◌}
use mathlib.Core.Path.{◌≡◌, sym, ap, ◌∙◌, subst}
use mathlib.Core.Bool.{Bool, true, not, ◌&&◌}
use mathlib.Core.List.{List, [], ◌∷◌, Memᴰ}
use native.Mathlib.Omega.{arith}
use lib.Dec.{ltb}
use lib.ListN.{length, get_or}
use Rattle.text.specs.Bytes.{Bytes, order_of}
use Rattle.values.specs.Values.{same_kind}
use Rattle.values.specs.declared.Kind.{Kind}
use Rattle.language.specs.Register.{Register}
use Rattle.language.specs.Semantics.{some_other}
use Rattle.sorting.specs.Ascending.{ascends, rank}
use Rattle.register_form.specs.Dictionary.{PropertyRow, term_of}
use Rattle.register_form.specs.Encoding.{plain_text, texts_of, place_among, terms_of, encode_property}
use Rattle.register_form.specs.Form.{property_count, property_at, dictionary_in, register_in}
use Rattle.register_form.specs.Opened.{Opened}
use Rattle.register_form.proofs.Decoded.{texts_up, terms_up_lem}
use Rattle.register_form_view.specs.Ranges.{term_number, Ranked, Located, CategoryRange, PropertyRange}
use Rattle.register_form_view.specs.declared.Index.{Index}
use Rattle.register_form_view.specs.declared.TermRange.{TermRange}
use Rattle.register_form_view.proofs.Names.{property_total}
use Rattle.register_form_view.proofs.Opening.{Known, known, property_row, terms_are, texts_are}
use Rattle.register_form_view.proofs.Covering.{undeclared, none_declared, property_terms, no_text_lem, no_term, category_found, other_is}

-- category_range
module _ (h x : Bytes) where
  module _ (text : Option ℕ) (is : Located h Index.Names x text) where
    pub range_no_text : (z : TermRange) → text ≡ None → (z.low ≡ 0) × (z.high ≡ 0) → (places : List ℕ) (R : Register) → Opened h places R → CategoryRange R x z
    unfolding Located
    range_no_text z e empty places R o =
        let d = known o in
        let absent : ascends order_of (texts_of R) ≡ true → Memᴰ (plain_text x) (texts_of R) → ⊥ = subst (λ (l : List Bytes). ascends order_of l ≡ true → Memᴰ (plain_text x) l → ⊥) (texts_are d) (subst (Located h Index.Names x) e is) in
        no_text_lem R d.keeps d.limits x z (absent (texts_up R)) empty.0 empty.1

    module _ (k : ℕ) (e : text ≡ Some k) where
      text_found : (R : Register) → Known h R → (k < length (texts_of R)) × (get_or (texts_of R) k [] ≡ plain_text x)
      unfolding Located
      text_found R d = subst (λ (l : List Bytes). (k < length l) × (get_or l k [] ≡ plain_text x)) (texts_are d) (subst (Located h Index.Names x) e is)

      module _ (term : Option ℕ) (at : Located h Index.Terms (term_of 0 k) term) where
        pub range_no_term : (z : TermRange) → term ≡ None → (z.low ≡ 0) × (z.high ≡ 0) → (places : List ℕ) (R : Register) → Opened h places R → CategoryRange R x z
        unfolding Located
        range_no_term z g empty places R o =
            let d = known o in
            let t = text_found R d in
            let absent : ascends order_of (terms_of R) ≡ true → Memᴰ (term_of 0 k) (terms_of R) → ⊥ = subst (λ (l : List Bytes). ascends order_of l ≡ true → Memᴰ (term_of 0 k) l → ⊥) (terms_are d) (subst (Located h Index.Terms (term_of 0 k)) g at) in
            no_term R d.keeps d.limits x k t.0 t.1 z (absent (terms_up_lem R)) empty.0 empty.1

        pub range_category : (f : ℕ) (z : TermRange) → term ≡ Some f → z.low ≡ f → z.high ≡ f + 1 → (places : List ℕ) (R : Register) → Opened h places R → CategoryRange R x z
        unfolding Located
        range_category f z g low high places R o =
            let d = known o in
            let t = text_found R d in
            let u : (f < length (terms_of R)) × (get_or (terms_of R) f [] ≡ term_of 0 k) = subst (λ (l : List Bytes). (f < length l) × (get_or l f [] ≡ term_of 0 k)) (terms_are d) (subst (Located h Index.Terms (term_of 0 k)) g at) in
            category_found R d.keeps d.limits x k t.0 t.1 f u.0 u.1 z low high

  -- property_range, other_kind
  module _ (p n : ℕ) (at : p ≡ place_among (register_in h).properties x) (c : n ≡ property_count h) where
    place_in : (R : Register) → register_in h ≡ R → p ≡ place_among R.properties x
    place_in R e = at ∙ ap (λ (S : Register). place_among S.properties x) e

    count_in_lem : (R : Register) → register_in h ≡ R → n ≡ length R.properties
    count_in_lem R e = c ∙ sym (property_total h) ∙ ap (λ (S : Register). length S.properties) e

    pub range_undeclared : (z : TermRange) → (n ≤ 64 → n ≤ p) → (z.low ≡ 0) × (z.high ≡ 0) → (places : List ℕ) (R : Register) → Opened h places R → PropertyRange R x z
    range_undeclared z past empty places R o =
        let d = known o in
        let count = count_in_lem R o.register in
        none_declared R d.keeps d.limits x z (omega (arith, past (omega (arith, d.limits.properties)), place_in R o.register)) empty.0 empty.1

    pub range_property : (z : TermRange) → p < n → Ranked h Index.Terms ((p + 1) ∷ []) z.low → Ranked h Index.Terms ((p + 2) ∷ []) z.high → z.kind ≡ (property_at h p).kind → (places : List ℕ) (R : Register) → Opened h places R → PropertyRange R x z
    unfolding Ranked encode_property
    range_property z inside low high kind places R o =
        let d = known o in
        let e = place_in R o.register in
        let b : p < length R.properties = omega (arith, count_in_lem R o.register) in
        property_terms R d.keeps d.limits x z (subst (λ (j : ℕ). j < length R.properties) e b)
        (first R d z.low (p + 1) (suc (place_among R.properties x)) (omega (arith, e)) low)
        (first R d z.high (p + 2) (suc (suc (place_among R.properties x))) (omega (arith, e)) high)
        (kind ∙ ap (λ (r : PropertyRow). r.kind) (property_row d p undeclared b) ∙ ap (λ (j : ℕ). (get_or R.properties j undeclared).kind) e)
      where
        first : (R : Register) → Known h R → (r g k : ℕ) → g ≡ k → (ascends order_of (dictionary_in h).terms ≡ true → r ≡ rank order_of (g ∷ []) (dictionary_in h).terms) → r ≡ term_number R (k ∷ [])
        first R d r g k e f =
            (subst (λ (l : List Bytes). ascends order_of l ≡ true → r ≡ rank order_of (g ∷ []) l) (terms_are d) f) (terms_up_lem R)
            ∙ ap (λ (j : ℕ). term_number R (j ∷ [])) e

  pub range_other : (kind : Kind) (z : TermRange) (b : Bool) → ((places : List ℕ) (R : Register) → Opened h places R → PropertyRange R x z) → b ≡ not (same_kind z.kind kind) → (places : List ℕ) (R : Register) → Opened h places R → (b && ltb z.low z.high) ≡ some_other R x kind
  range_other kind z b f e places R o =
      let d = known o in
      rw e (other_is R d.keeps d.limits x kind z (f places R o))

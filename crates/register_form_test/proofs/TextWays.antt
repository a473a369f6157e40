-- What the functions on texts and properties answer, by what they called.
use Prim.Native.Nat.{ℕ, zero, suc, ◌+◌, ◌-◌, ◌*◌, ◌≤◌}
use mathlib.Core.Path.{◌≡◌, refl, ap, sym, ◌∙◌}
use Rattle.std.specs.Prelude.{Some, None}
use mathlib.Core.Bool.{Bool, true, false, cond, ◌&&◌, ◌||◌, and_assoc}
use mathlib.Core.List.{List}
use native.Mathlib.Omega.{arith}
use lib.Dec.{ltb, eqb}
use lib.ListN.{length, get_or}
use borrow.Author.Tests.{eq-eqb, ne_eqb, ltb-true}
use Rattle.text.specs.Bytes.{Bytes, order_of, all}
use Rattle.text.specs.Class.{is_other}
use Rattle.std.specs.Ordering.{is_lt}
use Rattle.std.specs.declared.cmp.Ordering.{Ordering}
use Rattle.names.specs.Names.{is_composed_name, is_composed_namespace, is_composed_property_name}
use Rattle.values.specs.ByteRules.{name_class}
use Rattle.values.proofs.Ruling.{class_two}
use Rattle.language.specs.Rules.{is_identifier}
use Rattle.sorting.specs.Ascending.{is_less}
use Rattle.sorting.proofs.Canonical.{less_is_lt}
use Rattle.register_form.specs.Dictionary.{space_of, name_of, identifier_of}
use Rattle.register_form.specs.Form.{property_count, text_count, text_at}
use Rattle.register_form.specs.Tests.{is_plain}
use Rattle.buffer.specs.Tests.{all_to}
use Rattle.register_form_test.specs.Loops.{sum_to, climbs}
use Rattle.register_form_test.specs.Stages.{class_of, Classed, PropertiesTested, text_length, name_number, property_ok, names_to, property_test, property_length}
use Rattle.buffer.proofs.Testing.{all_more}
use Rattle.register_form_test.proofs.Loops.{sum_more}

module _ (f : ℕ → Bytes) where
  pub climbs_first : (i : ℕ) → i ≡ 0 → true ≡ climbs f i
  unfolding climbs
  climbs_first i e = rw (e, climbs)

  climbs_at : (i : ℕ) → (i ≡ 0 → ⊥) → is_less (order_of (f (i - 1)) (f i)) ≡ climbs f i
  unfolding climbs
  climbs_at zero n = absurd (n refl)
  climbs_at (suc i) n = let m : suc i - 1 ≡ i = omega arith in rw m

  pub climbs_on : (i : ℕ) (s t : Bytes) (o : Ordering) (r : Bool) → (i ≡ 0 → ⊥) → s ≡ f (i - 1) → t ≡ f i → o ≡ order_of s t → r ≡ is_lt o → r ≡ climbs f i
  climbs_on i s t o r n e k m q = q ∙ less_is_lt o ∙ rw (m, e, k) (climbs_at i n)

module _ (t n : Bytes) (z a : ℕ) (e : n ≡ name_of t) (f : z ≡ get_or t 0 0) (g : a ≡ name_class n) where
  pub class_plain : z ≡ 0 → a ≡ class_of t
  unfolding class_of
  class_plain k = rw (← f, eq-eqb z 0 k, g, e)

  module _ (s : Bytes) (b : ℕ) (k : z ≡ 0 → ⊥) (l : s ≡ space_of t) (m : b ≡ name_class s) where
    names_told : (q : Bool) → ((eqb (length s) 0 || eqb b 2) && eqb a 2) ≡ q → is_identifier (identifier_of t) ≡ q
    unfolding is_identifier is_composed_namespace
    names_told q r = rw (← l, ← e, ← class_two s, ← class_two n, ← m, ← g) r

    pub class_spaced : ((eqb (length s) 0 || eqb b 2) && eqb a 2) ≡ true → 3 ≡ class_of t
    unfolding class_of
    class_spaced q = rw (← f, ne_eqb z 0 k, names_told true q)

    pub class_other : ((eqb (length s) 0 || eqb b 2) && eqb a 2) ≡ false → 0 ≡ class_of t
    unfolding class_of
    class_other q = rw (← f, ne_eqb z 0 k, names_told false q)

module _ (h : Bytes) (x : ℕ) where
  -- A text of class 2 is a name without a namespace.
  class_name : eqb (class_of (text_at h x)) 2 ≡ (is_plain (text_at h x) && is_composed_name (name_of (text_at h x)))
  unfolding class_of
  class_name = go (is_plain (text_at h x)) (is_identifier (identifier_of (text_at h x)))
    where
      go : (p q : Bool) → eqb (cond p (name_class (name_of (text_at h x))) (cond q 3 0)) 2 ≡ (p && is_composed_name (name_of (text_at h x)))
      go true q = class_two (name_of (text_at h x))
      go false true = refl
      go false false = refl

  pub property_is : (classes used : List ℕ) (n w u w' u' : ℕ) (m : Bytes) (d : Bool) → Classed h classes → n ≡ text_count h → w ≡ x → u ≡ get_or classes w 0 → m ≡ name_of (text_at h x) → d ≡ all (is_other 46) m → w' ≡ x → u' ≡ get_or used w' 0 → (ltb x n && eqb u 2 && d && eqb u' 0) ≡ property_ok h used x
  unfolding property_ok is_composed_property_name
  property_is classes used n w u w' u' m d right e f g i j k l = rw (e, l, k, j, i, g, f) (go (ltb x (text_count h)) refl)
    where
      t : Bytes
      t = text_at h x

      dotless : Bool
      dotless = all (is_other 46) (name_of t)

      go : (b : Bool) → ltb x (text_count h) ≡ b → (ltb x (text_count h) && eqb (get_or classes x 0) 2 && dotless && eqb (get_or used x 0) 0) ≡ (ltb x (text_count h) && is_plain t && (is_composed_name (name_of t) && dotless) && eqb (get_or used x 0) 0)
      go true b = rw (b, right x (ltb-true x (text_count h) b), class_name) (ap (λ (r : Bool). r && eqb (get_or used x 0) 0) (and_assoc (is_plain t) (is_composed_name (name_of t)) dotless))
      go false b = rw b

module _ (h : Bytes) (p x : ℕ) (e : x ≡ name_number h p) where
  pub property_more : (used u : List ℕ) (ok t : Bool) → ok ≡ all_to p (property_test h used) → u ≡ names_to h p used → t ≡ property_ok h u x → (ok && t) ≡ all_to (p + 1) (property_test h used)
  unfolding property_test
  property_more used u ok t f g k = all_more (property_test h used) p ok t f (k ∙ rw (g, e))

  pub property_sum : (n w s : ℕ) → s ≡ sum_to p (property_length h) → n ≡ text_length h x - 1 → w ≡ n → s + w ≡ sum_to (p + 1) (property_length h)
  unfolding property_length
  property_sum n w s f g k = sum_more (property_length h) p s w f (k ∙ g ∙ rw e)

-- where the loop over properties ends
module _ (h : Bytes) (used u : List ℕ) (i n b : ℕ) (ok : Bool) (e : ok ≡ all_to i (property_test h used)) (p : u ≡ names_to h i used) (a : i ≤ n) (z : n ≤ i) (m : n ≡ property_count h) where
  pub properties_end : ok ≡ true → b ≡ sum_to i (property_length h) → b ≤ 65535 * i → n ≤ 65535 → PropertiesTested h used u (Some b)
  properties_end t sum few l =
      let k : i ≡ property_count h = omega arith in
      record {
        ok = sym t ∙ e ∙ rw k;
        bytes = sum ∙ rw k;
        marks = p ∙ rw k;
        most = omega arith;
      }

  pub properties_fail : ok ≡ false → PropertiesTested h used u None
  properties_fail t =
      let k : i ≡ property_count h = omega arith in
      record { ok = sym t ∙ e ∙ rw k; bytes = tt; marks = p ∙ rw k; most = tt }

pub ruleset texts =
    (climbs_first, climbs_on, property_is, property_more, property_sum)

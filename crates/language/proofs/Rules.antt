-- The rules of a page and of a register, one by one.
use mathlib.Core.Path.{◌≡◌, refl}
use mathlib.Core.Bool.{Bool, true, false, ◌&&◌, false≢true}
use Rattle.text.specs.Bytes.{same, all}
use Rattle.names.specs.Names.{is_composed_name, is_composed_property_name}
use Rattle.language.specs.Register.{Page, Register, kinds_hold, distinct, same_property, same_page}
use Rattle.language.specs.RegisterText.{same_held}
use Rattle.language.specs.Rules.{is_identifier, is_storable, is_page, is_within_limits, is_register}
use Rattle.language.proofs.Members.{and_true, both_true}

-- the parts of a true `&&` of five
five_true : (a b c d e : Bool) → a && b && c && d && e ≡ true → (a ≡ true) × (b ≡ true) × (c ≡ true) × (d ≡ true) × (e ≡ true)
five_true true true true true e h = (refl, refl, refl, refl, h)
five_true true true true false e h = absurd (false≢true h)
five_true true true false d e h = absurd (false≢true h)
five_true true false c d e h = absurd (false≢true h)
five_true false b c d e h = absurd (false≢true h)

pub record RuledPage (p : Page) : Type 0 where
  pub identifier : is_identifier p.identifier ≡ true
  pub categories : all is_composed_name p.categories ≡ true
  pub categories_once : distinct same p.categories ≡ true
  pub values : all (λ h. is_storable h.value) p.values ≡ true
  pub values_once : distinct same_held p.values ≡ true

pub record Ruled (R : Register) : Type 0 where
  pub properties : all (λ p. is_composed_property_name p.name) R.properties ≡ true
  pub pages : all is_page R.pages ≡ true
  pub properties_once : distinct same_property R.properties ≡ true
  pub pages_once : distinct same_page R.pages ≡ true
  pub kinds : kinds_hold R ≡ true
  pub limits : is_within_limits R ≡ true

-- The rules from the test, and the test from the rules.
pub page_rules : (p : Page) → is_page p ≡ true → RuledPage p
unfolding is_page
page_rules p h =
    let t = five_true (is_identifier p.identifier) (all is_composed_name p.categories) (distinct same p.categories) (all (λ h. is_storable h.value) p.values) (distinct same_held p.values) h in
    record { identifier = t.0; categories = t.1; categories_once = t.2; values = t.3; values_once = t.4 }

pub rules_page : (p : Page) → RuledPage p → is_page p ≡ true
unfolding is_page
rules_page p r = both_true (both_true (both_true (both_true r.identifier r.categories) r.categories_once) r.values) r.values_once

pub register_rules : (R : Register) → is_register R ≡ true → Ruled R
unfolding is_register
register_rules R h =
    let u = and_true (all (λ p. is_composed_property_name p.name) R.properties && all is_page R.pages && distinct same_property R.properties && distinct same_page R.pages && kinds_hold R) (is_within_limits R) h in
    let t = five_true (all (λ p. is_composed_property_name p.name) R.properties) (all is_page R.pages) (distinct same_property R.properties) (distinct same_page R.pages) (kinds_hold R) u.0 in
    record { properties = t.0; pages = t.1; properties_once = t.2; pages_once = t.3; kinds = t.4; limits = u.1 }

pub rules_register : (R : Register) → Ruled R → is_register R ≡ true
unfolding is_register
rules_register R r =
    both_true (both_true (both_true (both_true (both_true r.properties r.pages) r.properties_once) r.pages_once) r.kinds) r.limits

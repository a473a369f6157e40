-- What is the same is equal: values under their properties; and the tests of sameness in a register.
use mathlib.Core.Path.{◌≡◌}
use mathlib.Core.Bool.{true}
use Rattle.text.specs.Bytes.{same}
use Rattle.text.proofs.Laws.{same_eq, same_refl}
use Rattle.values.specs.Names.{same_identifier}
use Rattle.values.specs.Values.{same_value}
use Rattle.values.proofs.Sameness.{identifier_eq, identifier_refl, value_eq, value_refl}
use Rattle.language.specs.Register.{Property, Held, Page, same_property, same_page}
use Rattle.language.specs.RegisterText.{same_held}
use Rattle.language.proofs.Members.{and_true, both_true}
use Rattle.language.proofs.Unions.{Decides, Likeness, by_key}

pub held_eq : (a b : Held) → same_held a b ≡ true → a ≡ b
held_eq a b h =
    let t = and_true (same a.property b.property) (same_value a.value b.value) h in
    λ k. record { property = same_eq a.property b.property t.0 k; value = value_eq a.value b.value t.1 k }

pub held_refl : (a : Held) → same_held a a ≡ true
held_refl a = both_true (same_refl a.property) (value_refl a.value)

-- the tests of sameness in a register
pub same_decides : Decides same
same_decides = record { equal = same_eq; itself = same_refl }

pub same_identifier_decides : Decides same_identifier
same_identifier_decides = record { equal = identifier_eq; itself = identifier_refl }

pub same_held_decides : Decides same_held
same_held_decides = record { equal = held_eq; itself = held_refl }

pub same_likeness : Likeness same
same_likeness = by_key same_decides (λ x. x)

pub same_held_likeness : Likeness same_held
same_held_likeness = by_key same_held_decides (λ h. h)

pub same_property_likeness : Likeness same_property
same_property_likeness = by_key same_decides (λ (p : Property). p.name)

pub same_page_likeness : Likeness same_page
same_page_likeness = by_key same_identifier_decides (λ (p : Page). p.identifier)

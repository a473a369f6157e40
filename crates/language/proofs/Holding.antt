-- Laws of `holds` and `leads`.
use mathlib.Core.Path.{◌≡◌, refl, sym, ap, ◌∙◌}
use mathlib.Core.Bool.{Bool, true, false, not, ◌&&◌, ◌||◌}
use mathlib.Core.List.{Memᴰ}
use Rattle.text.specs.Bytes.{Bytes, same}
use Rattle.values.specs.declared.Kind.{Kind}
use Rattle.values.specs.Names.{same_identifier}
use Rattle.values.specs.Values.{Value, plain, link, kind_of, same_kind}
use Rattle.language.specs.Register.{Held, Page, Register, holds, leads}
use Rattle.language.specs.Semantics.{some_other}
use Rattle.language.proofs.Members.{any_at, any_same, any_none, any_or}

-- two tests that answer alike on the values that a page holds under x
pub holds_same : (x : Bytes) (f g : Value → Bool) (p : Page)
    → ((h : Held) → Memᴰ h p.values → same h.property x ≡ true → f h.value ≡ g h.value) → holds x f p ≡ holds x g p
unfolding holds
holds_same x f g p r =
    any_same _ _ p.values (λ h m. go (same h.property x) (f h.value) (g h.value) (r h m))
  where
    go : (b c d : Bool) → (b ≡ true → c ≡ d) → b && c ≡ b && d
    go true c d e = e refl
    go false c d e = refl

pub holds_none : (x : Bytes) (f : Value → Bool) (p : Page)
    → ((h : Held) → Memᴰ h p.values → same h.property x ≡ true → f h.value ≡ false) → holds x f p ≡ false
unfolding holds
holds_none x f p r =
    any_none _ p.values (λ h m. go (same h.property x) (f h.value) (r h m))
  where
    go : (b c : Bool) → (b ≡ true → c ≡ false) → b && c ≡ false
    go true c e = e refl
    go false c e = refl

-- a test that no value under x passes
pub holds_at : (x : Bytes) (f : Value → Bool) (p : Page) (h : Held) → holds x f p ≡ false → Memᴰ h p.values → same h.property x ≡ true → f h.value ≡ false
unfolding holds
holds_at x f p h e m s = ap (λ b. b && f h.value) (sym s) ∙ any_at (λ h. same h.property x && f h.value) e m

pub holds_or : (x : Bytes) (f g : Value → Bool) (p : Page) → holds x f p || holds x g p ≡ holds x (λ v. f v || g v) p
unfolding holds
holds_or x f g p =
    any_or _ _ p.values
    ∙ any_same _ _ p.values (λ h m. go (same h.property x) (f h.value) (g h.value))
  where
    go : (b c d : Bool) → b && c || b && d ≡ b && (c || d)
    go true c d = refl
    go false c d = refl

-- two tests that answer alike on the register's pages
pub leads_same : (R : Register) (f g : Page → Bool) → ((p : Page) → Memᴰ p R.pages → f p ≡ g p) → (v : Value) → leads R f v ≡ leads R g v
unfolding leads
leads_same R f g r (plain c) = refl
leads_same R f g r (link i) = any_same _ _ R.pages (λ p m. ap (λ b. same_identifier p.identifier i && b) (r p m))

-- where no page holds another kind under x, every value there has the kind
pub kind_there : (R : Register) (x : Bytes) (k : Kind) → some_other R x k ≡ false
    → (p : Page) → Memᴰ p R.pages → (h : Held) → Memᴰ h p.values → same h.property x ≡ true → same_kind (kind_of h.value) k ≡ true
unfolding some_other
kind_there R x k e p m h n s =
    go (same_kind (kind_of h.value) k) (holds_at x (λ v. not (same_kind (kind_of v) k)) p h (any_at (holds x (λ v. not (same_kind (kind_of v) k))) e m) n s)
  where
    go : (b : Bool) → not b ≡ false → b ≡ true
    go true e = refl
    go false e = sym e

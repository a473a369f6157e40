-- One law for each way through a function.
use Rattle.std.specs.Prelude.{Option, Some, None, unwrap_or}
use Prim.Native.Nat.{ℕ}
use mathlib.Core.Path.{◌≡◌, ap, ◌∙◌}
use native.Mathlib.Omega.{arith}
use Rattle.text.specs.Bytes.{Bytes}
use Rattle.values.specs.declared.Kind.{Kind}
use Rattle.values.specs.declared.Scalar.{Scalar}
use Rattle.values.specs.Values.{map_option, scalar, string, Value, plain, link, read_scalar, read_link, read_value}
use Rattle.values.specs.Names.{Identifier}
use Rattle.register_text_draft.specs.Drafting.{code_in}

-- The code of a value.
code_link : (o : Option Identifier) (n : ℕ) (w : Value) → map_option link o ≡ Some w → n ≡ code_in n w
code_link None n w h = absurd (let z : ◌≡◌ {A = ℕ} 0 1 = cc in omega arith)
code_link (Some i) n w h = let e : link i ≡ w = cc in ap (code_in n) e

code_of_scalar : (k : Scalar) (o : Option ℕ) (n : ℕ) (w : Value) → map_option plain (map_option (scalar k) o) ≡ Some w → unwrap_or o 0 ≡ code_in n w
code_of_scalar k None n w h = absurd (let z : ◌≡◌ {A = ℕ} 0 1 = cc in omega arith)
code_of_scalar k (Some y) n w h = let f : plain (scalar k y) ≡ w = cc in ap (code_in n) f

module _ (k : Kind) (v : Bytes) (n : ℕ) (w : Value) (h : read_value k v ≡ Some w) where
  pub code_page : k ≡ Kind.Page → (c : ℕ) → c ≡ n → c ≡ code_in n w
  code_page e c f = f ∙ code_link (read_link v) n w (rw e at h)

  pub code_string : k ≡ Kind.String → (c : ℕ) → c ≡ n → c ≡ code_in n w
  code_string e c f = let q : plain (string v) ≡ w = (let g : read_value Kind.String v ≡ Some w = rw e at h in cc) in f ∙ ap (code_in n) q

  pub code_scalar : (j : Scalar) → k ≡ Kind.Scalar j → (r : Option ℕ) → r ≡ read_scalar j v → (c : ℕ) → c ≡ unwrap_or r 0 → c ≡ code_in n w
  code_scalar j e r f c g = g ∙ ap (λ o. unwrap_or o 0) f ∙ code_of_scalar j (read_scalar j v) n w (rw e at h)

-- What opening the first bytes of an input tells of the register that it holds.
use Rattle.std.specs.Prelude.{Some, None}
use Prim.Native.Nat.{ℕ}
use mathlib.Core.Path.{◌≡◌, sym, ap, ◌∙◌}
use mathlib.Core.Bool.{Bool, true, false, not}
use mathlib.Core.List.{List}
use borrow.Author.Tests.{not-true, not-false}
use lib.ListN.{take}
use Rattle.text.specs.Bytes.{Bytes, part}
use Rattle.register_form.specs.Form.{register_size, register_in, is_form, held_register}
use Rattle.register_form_test.specs.Opening.{Opens}

module _ (h g : Bytes) (e : g ≡ part h 0 register_size) (before after : List ℕ) (r : Bool) (o : Opens g before after r) where
  form_is : is_form (take register_size h) ≡ r
  form_is = ap is_form (sym e) ∙ sym o.is

  pub held_none : not r ≡ true → held_register h ≡ None
  unfolding held_register
  held_none n = rw (form_is ∙ not-true r n)

  pub held_some : not r ≡ false → held_register h ≡ Some (register_in g)
  unfolding held_register
  held_some n = rw (form_is ∙ not-false r n, ← e)

  pub held_form : not r ≡ false → is_form g ≡ true
  held_form n = sym o.is ∙ not-false r n

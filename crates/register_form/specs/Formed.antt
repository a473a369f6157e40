-- Working definitions: what is known of bytes that are the form of a register.
use Rattle.std.specs.Prelude.{ℕ, ◌<◌, ◌≡◌, true, get_or}
use Rattle.text.specs.Bytes.{Bytes}
use Rattle.language.specs.Rules.{is_register}
use Rattle.register_form.specs.Form.{dictionary_in, register_in}
use Rattle.register_form.specs.Tests.{is_laid, is_canonical}

pub record Formed (h : Bytes) : Type 0 where
  pub laid : is_laid h ≡ true
  pub canonical : is_canonical (dictionary_in h) ≡ true
  pub small : (i : ℕ) → get_or h i 0 < 256
  pub register : is_register (register_in h) ≡ true

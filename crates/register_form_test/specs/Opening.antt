-- What opening a held register answers.
use Rattle.std.specs.Prelude.{◌≡◌, Bool, true, List, ℕ, length, replicate}
use Rattle.text.specs.Bytes.{Bytes}
use Rattle.register_form.specs.Form.{dictionary_in, is_form}
use Rattle.register_form.specs.Tests.{tested}
use Rattle.register_form.specs.Opened.{Places}

-- The answer tells whether the bytes are the form of a register; a table of 2,368 numbers, where they are, has the places of its
-- pages.
pub record Opens (h : Bytes) (before after : List ℕ) (r : Bool) : Type 0 where
  pub is : r ≡ is_form h
  pub places : length before ≡ 2368 → r ≡ true → Places (dictionary_in h) after
  pub size : length after ≡ length before

-- The same over a table that is all 0.
pub record Tries (h : Bytes) (before after : List ℕ) (r : Bool) : Type 0 where
  pub is : before ≡ replicate 2368 0 → r ≡ tested h
  pub places : before ≡ replicate 2368 0 → r ≡ true → Places (dictionary_in h) after
  pub size : length after ≡ length before

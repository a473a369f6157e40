-- Working definitions: what loops leave behind.
use Rattle.std.specs.Prelude.{ℕ, ◌≤◌, ◌≡◌, Option, Some}
use Rattle.std.specs.Option.{is_some}
use Rattle.text.specs.Bytes.{Bytes}
use Rattle.query_tree.specs.Testing.{string_at, rows_fit}

-- What testing the first n rows answers: where their strings end, where they fit.
pub record RowsTested (h : Bytes) (n : ℕ) (r : Option ℕ) : Type 0 where
  pub is : is_some r ≡ rows_fit h n
  pub ends : (end : ℕ) → r ≡ Some end → (end ≡ string_at h n) × (end ≤ 1024)

-- Working definitions: a property looked up by its name among rows.
use Rattle.std.specs.Prelude.{ℕ, suc, ◌%◌, ◌≤◌, ◌≡◌, List, [], ◌∷◌, length, take, Option, Some, None}
use Rattle.text.specs.Bytes.{Bytes}
use Rattle.values.specs.declared.Kind.{Kind}
use Rattle.language.specs.Answer.{found, ◌>>=◌}
use Rattle.language.specs.Register.{Property, kind_among}
use Rattle.register_text_entries.specs.Table.{entry_at}
use Rattle.register_text_verdict.specs.Rows.{declared_kind}
use Rattle.register_form.specs.Encoding.{place_among}

-- The first kind that is found in a list of rows, and its place, counted from k on.
unfoldable pub found_from : (ℕ → Option Kind) → ℕ → List ℕ → Option (Kind × ℕ)
found_from g k [] = None
found_from g k (i ∷ l) = found (g i) (λ j. Some (j, k)) (found_from g (suc k) l)

-- The kind that the first m of a list of rows declare x with, and the place of the row that does.
unfoldable pub found_in : Bytes → List ℕ → List ℕ → ℕ → Bytes → Option (Kind × ℕ)
found_in s t rows m x = found_from (λ i. declared_kind x (entry_at s t i)) 0 (take m rows)

-- The place, in two bytes.
abbrev pub property_found : Option (Kind × ℕ) → Option (Kind × ℕ)
property_found None = None
property_found (Some x) = Some (x.0, x.1 % 65536)

-- The rows are those of the properties ps.
pub record Lists (s : Bytes) (t rows : List ℕ) (m : ℕ) (ps : List Property) : Type 0 where
  pub few : length ps ≤ 64
  pub found : (x : Bytes) → found_in s t rows m x ≡ (kind_among ps x >>= λ k. Some (k, place_among ps x))

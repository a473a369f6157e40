-- Working definitions: the texts of two dictionaries as one list, and the items that their numbers have in it.
use Rattle.std.specs.Prelude.{ℕ, ◌≤◌, ◌<◌, ◌≡◌, true, List, [], ◌⊎◌, length, get_or}
use Rattle.text.specs.Bytes.{Bytes, order_of}
use Rattle.sorting.specs.Ascending.{ascends}
use Rattle.register_form.specs.Dictionary.{Dictionary, text_in}

-- The item of each number names the same text.
pub record Itemed (d : Dictionary) (texts : List Bytes) (item : ℕ → ℕ) : Type 0 where
  pub below : (x : ℕ) → x < length d.texts → item x < length texts
  pub text : (x : ℕ) → x < length d.texts → get_or texts (item x) [] ≡ text_in d x

-- i is the item of some number.
pub record Names (d : Dictionary) (item : ℕ → ℕ) (i : ℕ) : Type 0 where
  pub number : ℕ
  pub below : number < length d.texts
  pub is : item number ≡ i

-- The texts of both, each once, in ascending order.
pub record Merged (d e : Dictionary) (texts : List Bytes) (item1 item2 : ℕ → ℕ) : Type 0 where
  pub first : Itemed d texts item1
  pub second : Itemed e texts item2
  pub up : ascends order_of texts ≡ true
  pub each : (i : ℕ) → i < length texts → Names d item1 i ⊎ Names e item2 i
  pub few : length texts ≤ 4736

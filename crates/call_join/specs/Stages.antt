-- Working definitions: the stages of the join call, over two forms.
use Rattle.std.specs.Prelude.{ℕ, ◌≡◌, false, List, Result}
use Rattle.text.specs.Bytes.{Bytes}
use Rattle.text.specs.Table.{tabulate}
use Rattle.language.specs.Answer.{Answered}
use Rattle.language.specs.Joining.{kinds_clash}
use Rattle.language.specs.Refusals.{number_of}
use Rattle.language.specs.declared.refusals.Refusal.{Refusal}
use Rattle.dictionary.specs.Items.{text_at}
use Rattle.register_form.specs.Form.{dictionary_in, register_in}
use Rattle.register_form.specs.Formed.{Formed}
use Rattle.register_join_merge.specs.Merged.{Merged}
use Rattle.register_join_draft.specs.Drafting.{items_in}
use Rattle.call_answers.specs.Calls.{joined}

-- Joining two forms answers as joining their registers does.
pub record Joins (h g b : Bytes) (r : Result (Unit {0}) Refusal) (after : Bytes) : Type 0 where
  pub is : Formed h → Formed g → Answered (joined (register_in h) (register_in g) b) b (number_of r) after

-- The same of two forms whose texts are items of a heap, and whose kinds do not clash.
pub record Writes (h g heap : Bytes) (starts lens : List ℕ) (m : ℕ) (items1 items2 : List ℕ) (b : Bytes) (r : Result (Unit {0}) Refusal) (after : Bytes) : Type 0 where
  pub is : Formed h → Formed g
      → Merged (dictionary_in h) (dictionary_in g) (tabulate m (text_at heap starts lens)) (items_in items1) (items_in items2)
      → kinds_clash (register_in h) (register_in g) ≡ false
      → Answered (joined (register_in h) (register_in g) b) b (number_of r) after

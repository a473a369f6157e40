-- The ways through the join call.
use Rattle.std.specs.Prelude.{Some, None, Result, Err}
use Prim.Native.Nat.{ℕ, ◌<◌}
use mathlib.Core.Path.{◌≡◌, refl, sym, ap, ◌∙◌}
use mathlib.Core.Bool.{Bool, true, false, not, cond}
use mathlib.Core.List.{List}
use native.Mathlib.Omega.{arith}
use lib.ListN.{length, get_or, replicate, length-replicate}
use Rattle.text.specs.Bytes.{Bytes, part}
use Rattle.text.specs.Table.{tabulate}
use Rattle.language.specs.Answer.{refused, Answered}
use Rattle.language.specs.Refusals.{number_of}
use Rattle.language.specs.declared.refusals.Refusal.{Refusal}
use Rattle.language.specs.Register.{Register}
use Rattle.language.specs.Rules.{is_within_limits}
use Rattle.language.specs.Joining.{join, kinds_clash}
use Rattle.dictionary.specs.Items.{text_at}
use Rattle.register_form.specs.Form.{stored, dictionary_in, register_in, is_form, held_register}
use Rattle.register_form.specs.Formed.{Formed}
use Rattle.register_form.specs.Draft.{write_into}
use Rattle.register_form.specs.Tables.{tables_of}
use Rattle.register_form.proofs.Forms.{part_bytes, form_formed}
use Rattle.register_form_write.specs.Writer.{Capacity, OrderedWritten}
use Rattle.register_join_merge.specs.Merged.{Merged}
use Rattle.register_join_merge.specs.Merging.{Room, Merger}
use Rattle.register_join_draft.specs.Drafting.{items_in, TableRoom, JoinPut, Clashed}
use Rattle.register_join_draft.proofs.Whole.{held_draft, held_drafted, held_texts, held_terms}
use Rattle.call_answers.specs.Calls.{joined, join_call}
use Rattle.call_answers.proofs.Answers.{as_told}
use Rattle.call_join.specs.Stages.{Joins, Writes}

-- Tables of zeros have room.
zeros_many : (n : ℕ) → length (replicate {A = ℕ} n 0) ≡ n
zeros_many n = length-replicate n 0

zeros_space : TableRoom (replicate 128 0) (replicate 128 0) (replicate 512 0) (replicate 513 0) (replicate 4096 0) (replicate 4096 0) (replicate 4096 0)
zeros_space =
    record {
      kinds_size = omega (arith, zeros_many 128);
      names_size = omega (arith, zeros_many 128);
      identifiers_size = omega (arith, zeros_many 512);
      firsts_size = omega (arith, zeros_many 513);
      uses_size = omega (arith, zeros_many 4096);
      groups_size = omega (arith, zeros_many 4096);
      codes_size = omega (arith, zeros_many 4096);
    }

zeros_room : Room (replicate 70272 0) (replicate 4736 0) (replicate 4736 0) (replicate 2368 0) (replicate 2368 0)
zeros_room =
    record {
      heap_size = omega (arith, zeros_many 70272);
      starts_size = omega (arith, zeros_many 4736);
      lens_size = omega (arith, zeros_many 4736);
      items1_size = omega (arith, zeros_many 2368);
      items2_size = omega (arith, zeros_many 2368);
    }

-- Where the kinds do not clash, joining is writing the join.
joined_clear : (R S : Register) (b : Bytes) → kinds_clash R S ≡ false → joined R S b ≡ write_into (join R S) b
unfolding joined write_into
joined_clear R S b e = rw e (go (is_within_limits (join R S)))
  where
    go : (l : Bool) → cond (not l) (refused 7) (stored (join R S) b) ≡ cond l (stored (join R S) b) (refused 7)
    go true = refl
    go false = refl

module _ (h g b : Bytes) where
  joined_clash : kinds_clash (register_in h) (register_in g) ≡ true → Answered (joined (register_in h) (register_in g) b) b 32 b
  unfolding joined
  joined_clash e = record { number = rw e; bytes = rw e }

  -- The draft of the join, written.
  pub join_written : (heap : Bytes) (starts lens items1 items2 : List ℕ) (m : ℕ) (ks ns is fs us gs cs : List ℕ) (np ng nt : ℕ) (after : Bytes) (r : Result (Unit {0}) Refusal)
      → JoinPut h g items1 items2 (replicate 128 0) (replicate 128 0) (replicate 512 0) (replicate 513 0) (replicate 4096 0) (replicate 4096 0) (replicate 4096 0) ks ns is fs us gs cs np ng nt
      → OrderedWritten (tables_of heap starts lens m ks ns np is fs ng us gs cs nt) b (number_of r) after
      → Writes h g heap starts lens m items1 items2 b r after
  join_written heap starts lens items1 items2 m ks ns is fs us gs cs np ng nt after r put w =
      record {
        is = λ fh fg merged clear.
            let T = tables_of heap starts lens m ks ns np is fs ng us gs cs nt in
            let room : Capacity T = record {
              texts = held_texts h g heap starts lens items1 items2 m fh fg merged clear (replicate 128 0) (replicate 128 0) (replicate 512 0) (replicate 513 0) (replicate 4096 0) (replicate 4096 0) (replicate 4096 0) ks ns is fs us gs cs np ng nt put zeros_space;
              terms = held_terms h g heap starts lens items1 items2 m fh fg merged clear (replicate 128 0) (replicate 128 0) (replicate 512 0) (replicate 513 0) (replicate 4096 0) (replicate 4096 0) (replicate 4096 0) ks ns is fs us gs cs np ng nt put zeros_space;
            } in
            let draft = held_draft h g heap starts lens items1 items2 m fh fg merged clear (replicate 128 0) (replicate 128 0) (replicate 512 0) (replicate 513 0) (replicate 4096 0) (replicate 4096 0) (replicate 4096 0) ks ns is fs us gs cs np ng nt put zeros_space in
            let told = held_drafted h g heap starts lens items1 items2 m fh fg merged clear (replicate 128 0) (replicate 128 0) (replicate 512 0) (replicate 513 0) (replicate 4096 0) (replicate 4096 0) (replicate 4096 0) ks ns is fs us gs cs np ng nt put zeros_space in
            as_told (joined_clear (register_in h) (register_in g) b clear ∙ ap (λ (R : Register). write_into R b) (sym told)) (w.is draft room merged.up);
      }

  -- Two forms: their texts are merged, and the kinds clash or do not.
  module _ (heap : Bytes) (starts lens items1 items2 : List ℕ) (m : ℕ) (clash : Bool)
      (merger : Merger h g (replicate 70272 0) (replicate 4736 0) (replicate 4736 0) (replicate 2368 0) (replicate 2368 0) heap starts lens items1 items2 m) (told : Clashed h g items1 items2 clash)
    where
      merged : Formed h → Formed g → Merged (dictionary_in h) (dictionary_in g) (tabulate m (text_at heap starts lens)) (items_in items1) (items_in items2)
      merged fh fg = merger.merged fh fg zeros_room

      clash_is : Formed h → Formed g → clash ≡ kinds_clash (register_in h) (register_in g)
      clash_is fh fg = told.is fh fg (tabulate m (text_at heap starts lens)) (merged fh fg)

      pub forms_clash : clash ≡ true → Joins h g b (Err Refusal.KindsClash) b
      forms_clash e = record { is = λ fh fg. joined_clash (sym (clash_is fh fg) ∙ e) }

      pub forms_joined : (r : Result (Unit {0}) Refusal) (after : Bytes) → clash ≡ false → Writes h g heap starts lens m items1 items2 b r after → Joins h g b r after
      forms_joined r after e w = record { is = λ fh fg. w.is fh fg (merged fh fg) (sym (clash_is fh fg) ∙ e) }

-- One of the inputs is none, or both are.
module _ (first second b : Bytes) where
  pub join_no_first : held_register first ≡ None → Answered (join_call first second b) b 22 b
  unfolding join_call
  join_no_first e = record { number = rw e; bytes = rw e }

  pub join_no_second : (R : Register) → held_register first ≡ Some R → held_register second ≡ None → Answered (join_call first second b) b 22 b
  unfolding join_call
  join_no_second R e f = record { number = rw (e, f); bytes = rw (e, f) }

  -- h and g are the first bytes of the inputs
  pub join_both : (h g : Bytes) (n : ℕ) (r : Result (Unit {0}) Refusal) (after : Bytes) → held_register first ≡ Some (register_in h) → held_register second ≡ Some (register_in g)
      → is_form h ≡ true → is_form g ≡ true → h ≡ part first 0 n → g ≡ part second 0 n → ((i : ℕ) → get_or first i 0 < 256) → ((i : ℕ) → get_or second i 0 < 256)
      → Joins h g b r after → Answered (join_call first second b) b (number_of r) after
  unfolding join_call
  join_both h g n r after e f ih ig eh eg s1 s2 w =
      let fh = form_formed h (λ i. rw eh (part_bytes first s1 0 n i)) ih in
      let fg = form_formed g (λ i. rw eg (part_bytes second s2 0 n i)) ig in
      rw (e, f) (w.is fh fg)

-- The answers of a whole text, and the ways through its reader.
use Rattle.std.specs.Prelude.{Some, None, Option, Result, Ok, Err}
use Prim.Native.Nat.{ℕ, ◌+◌, ◌-◌, ◌≤◌, ◌<◌, max}
use mathlib.Core.Path.{◌≡◌, refl, sym, ap, ◌∙◌}
use mathlib.Core.Bool.{Bool, true, false, cond}
use mathlib.Core.List.{[], ◌∷◌}
use native.Mathlib.Omega.{arith}
use native.Mathlib.Nat.{zero-add}
use lib.Dec.{ltb, eqb}
use lib.ListN.{length, drop, length-drop}
use lib.Seq.{drop-drop}
use borrow.Author.Tests.{lt-ltb, le-ltb, eq-eqb, ne_eqb}
use Rattle.text.specs.Bytes.{Bytes, is_blank, span, behind}
use Rattle.buffer.specs.Numbers.{two_bytes}
use Rattle.buffer.specs.Writing.{written}
use Rattle.buffer.proofs.Written.{length_written}
use Rattle.language.specs.Answer.{refused, accepted, number_of as answered, ◌if◌, judge}
use Rattle.language.specs.Refusals.{number_of}
use Rattle.language.specs.declared.refusals.Refusal.{Refusal}
use Rattle.language.specs.RawQuery.{RawQuery, read_query, read_whole}
use Rattle.language.specs.QueryText.{depth, longest, surface, checks, read_text}
use Rattle.query_text_pieces.specs.Places.{from}
use Rattle.query_tree_spelling.proofs.Some.{accepted_has_text}
use Rattle.language.specs.Surface.{composed_query}
use Rattle.query_tree.specs.Nodes.{tree, composed_nodes}
use Rattle.query_tree.specs.Form.{tree_of, node_bytes}
use Rattle.query_tree.proofs.Composing.{tree_composed}
use Rattle.query_tree.proofs.Held.{text_fits}
use Rattle.query_tree_write.specs.Laying.{Fits}
use Rattle.query_tree_write.proofs.Laws.{fits_laid, laid_none, finished}
use Rattle.query_text_heads.specs.Effects.{ReadsPart}
use Rattle.query_text_heads.specs.Trees.{effect}
use Rattle.query_text_heads.specs.declared.Seen.{Seen}
use Rattle.query_text_read.specs.Answers.{verdict_of, ReadsText}

-- A refused text has no accepted reading to speak of.
text_refused : (s t t' : Bytes) (r : Result Unit Refusal) → read_text s ≡ refused (number_of r) → length t' ≡ length t → ReadsText s t t' r
text_refused s t t' r h l =
    record {
      number = rw h;
      tree = λ q e z. let y : ◌≡◌ {A = ℕ} 0 1 = cc in absurd (omega arith);
      long = l;
    }

pub text_long : (s t : Bytes) → 1024 < length s → ReadsText s t t (Err Refusal.QueryTooLong)
unfolding read_text
text_long s t h = text_refused s t t (Err Refusal.QueryTooLong) (rw (lt-ltb 1024 (length s) h)) refl

-- The conditions of 14, 15 and 16.
judged : (d n v : Bool) {A : Type 0} (a : A) → number_of {A = Unit} (cond d (Err Refusal.TooDeep) (cond n (Err Refusal.BadName) (cond v (Err Refusal.BadPiece) (Ok tt)))) ≡ answered (judge (14 if d ∷ 15 if n ∷ 16 if v ∷ []) a)
unfolding judge
judged true n v a = refl
judged false true v a = refl
judged false false true a = refl
judged false false false a = refl

judge_accepted : (d n v : Bool) {A : Type 0} (a b : A) → judge (14 if d ∷ 15 if n ∷ 16 if v ∷ []) a ≡ accepted b → a ≡ b
unfolding judge
judge_accepted true n v a b h = cc
judge_accepted false true v a b h = cc
judge_accepted false false true a b h = cc
judge_accepted false false false a b h = cc

-- Nothing but blanks is left behind a query.
left_over : (s : Bytes) (next end : ℕ) → end ≡ next + span is_blank (drop next s) → length (behind is_blank (from s next)) ≡ length s - end
unfolding from
left_over s next end e = rw (drop-drop (span is_blank (drop next s)) next s, ← e) (length-drop end s)

-- What was seen at first.
abbrev nothing : Seen
nothing = record { place = record { count = 0; end = 0 }; deep = false; name = false; value = false }

module _ (s : Bytes) (short : length s ≤ 1024) where
  no_reading : read_whole s ≡ None → read_text s ≡ refused 13
  unfolding read_text
  no_reading e = rw (le-ltb 1024 (length s) short, e)

  a_reading : (q : RawQuery) → read_whole s ≡ Some q → read_text s ≡ judge (checks q) (composed_query (surface q))
  unfolding read_text
  a_reading q e = rw (le-ltb 1024 (length s) short, e)

  module _ (t t' : Bytes) (x : Option (ℕ × Seen)) (k : ReadsPart s (effect 0) t nothing (read_query (from s 0)) x t') where
    pub text_none : x ≡ None → ReadsText s t t' (Err Refusal.QueryUnread)
    unfolding ReadsPart read_whole from
    text_none g =
        let z = rw g at k in
        text_refused s t t' (Err Refusal.QueryUnread) (no_reading (rw z.0)) z.1

    module _ (next end : ℕ) (n' : Seen) (g : x ≡ Some (next, n')) (e : end ≡ next + span is_blank (drop next s)) where
      pub text_tail : end < length s → ReadsText s t t' (Err Refusal.QueryUnread)
      unfolding ReadsPart read_whole from
      text_tail l =
          let z = rw g at k in
          let o : eqb (length (behind is_blank (from s next))) 0 ≡ false = ap (λ m. eqb m 0) (left_over s next end e) ∙ ne_eqb (length s - end) 0 (λ u. omega arith) in
          text_refused s t t' (Err Refusal.QueryUnread) (no_reading (rw (z.1, o))) z.2.adds.long

      read_whole_lem : (q : RawQuery) → length s ≤ end → read_query (from s 0) ≡ Some (q, from s next) → read_whole s ≡ Some q
      unfolding read_whole from
      read_whole_lem q l u =
          let o : eqb (length (behind is_blank (from s next))) 0 ≡ true = ap (λ m. eqb m 0) (left_over s next end e) ∙ eq-eqb (length s - end) 0 (omega arith) in
          rw (u, o)

      pub text_read : (t'' : Bytes) (r : Result Unit Refusal) → length s ≤ end → t'' ≡ written t' 0 (two_bytes n'.place.count) → r ≡ verdict_of n' → ReadsText s t t'' r
      unfolding ReadsPart effect verdict_of tree_of
      text_read t'' r l w u =
          let z = rw g at k in
          let q = z.0 in
          let a = a_reading q (read_whole_lem q l z.1) in
          let deep : n'.deep ≡ ltb 8 (max (depth q) (longest q)) = z.2.deep ∙ rw zero-add in
          record {
            number = rw (a, u, deep, z.2.name, z.2.value) (judged _ _ _ (composed_query (surface q)));
            tree = λ p h i.
                let j : composed_query (surface q) ≡ p = judge_accepted _ _ _ (composed_query (surface q)) p (sym a ∙ h) in
                let k : composed_nodes (tree (surface q)) ≡ tree p = sym (tree_composed (surface q)) ∙ ap tree j in
                let f : Fits (composed_nodes (tree (surface q))) = rw k (fits_laid (tree p) (text_fits p (accepted_has_text s p h))) in
                let d = z.2.adds.laid [] f (rw i laid_none) in
                w ∙ finished t' n'.place (composed_nodes (tree (surface q))) d ∙ ap node_bytes k;
            long = ap length w ∙ length_written t' 0 _ ∙ z.2.adds.long;
          }

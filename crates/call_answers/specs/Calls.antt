-- What each call answers. Document 01, "What each call turns away", 1 to 24; request 9 for the join, request 10 for reading and fitting.
use Rattle.std.specs.Prelude.{ℕ, ◌+◌, ◌≡◌, Bool, cond, not, List, [], ◌∷◌, ◌++◌, map, ltb, ℤ, pos, neg_ℤ, length, drop}
use Rattle.text.specs.Bytes.{Bytes}
use Rattle.text.specs.Table.{bit}
use Rattle.language.specs.Answer.{Answer, refused, accepted, or_refuse, left_in, and_then}
use Rattle.language.specs.Register.{Register, kinds_of}
use Rattle.language.specs.RegisterText.{read_register}
use Rattle.language.specs.Rules.{is_within_limits}
use Rattle.language.specs.Joining.{join, kinds_clash}
use Rattle.language.specs.QueryText.{read_text}
use Rattle.language.specs.Elaboration.{fit}
use Rattle.language.specs.Semantics.{run}
use Rattle.language.specs.Calls.{core_of}
use Rattle.register_form.specs.Form.{stored, held_register}
use Rattle.query_tree.specs.Form.{tree_size, tree_of, held_tree}
use Rattle.query_core.specs.Held.{query_size, held_query}
use Rattle.query_core.specs.Form.{query_of}

-- The register call: the bytes that it leaves in the buffer b, or the lowest of 1 to 8.
unfoldable pub register_call : Bytes → Bytes → Answer Bytes
register_call t b = and_then (read_register t) (λ R. stored R b)

-- The join call: h and k are the held registers, b the buffer. "22 for either input; then 32, a property has two kinds; then 7,
-- now with the new limit, over the joined sets with repeats dropped; then 8."
unfoldable pub joined : Register → Register → Bytes → Answer Bytes
joined R S b = cond (kinds_clash R S) (refused 32) (cond (not (is_within_limits (join R S))) (refused 7) (stored (join R S) b))

unfoldable pub join_call : Bytes → Bytes → Bytes → Answer Bytes
join_call h k b = and_then (or_refuse 22 (held_register h)) (λ R. and_then (or_refuse 22 (held_register k)) (λ S. joined R S b))

-- A form of that size at the front of the buffer b, with the bytes behind it as before, or n where b is too short.
unfoldable pub written_in : ℕ → ℕ → Bytes → Bytes → Answer Bytes
written_in n size form b = cond (ltb (length b) size) (refused n) (accepted (form ++ drop size b))

-- The query call: the bytes that it leaves in the buffer b, or the lowest of 11 to 20. h is the held register, s the query text.
unfoldable pub query_call : Bytes → Bytes → Bytes → Answer Bytes
query_call h s b =
    and_then (or_refuse 11 (held_register h)) (λ R. and_then (core_of R s) (λ c. written_in 20 query_size (query_of c) b))

-- The read call: "Reading gives 12 to 16, then 33, tree buffer too short". s is the query text, b the buffer.
unfoldable pub read_call : Bytes → Bytes → Answer Bytes
read_call s b = and_then (read_text s) (λ q. written_in 33 tree_size (tree_of q) b)

-- The fit call: "fitting gives 11, then 34, the tree is the form of no text that reading accepts, then 17 to 20". t is the held tree,
-- h the held register, b the buffer.
unfoldable pub fit_call : Bytes → Bytes → Bytes → Answer Bytes
fit_call t h b =
    and_then (or_refuse 11 (held_register h)) (λ R.
    and_then (or_refuse 34 (held_tree t)) (λ q.
    and_then (fit (kinds_of R) q) (λ c. written_in 20 query_size (query_of c) b)))

-- The ask call: the marks of the run, a truth value a page in place order, or the lowest of 21 to 24. q is the held query, h the
-- held register, b the buffer.
unfoldable pub ask_call : Bytes → Bytes → Bytes → Answer (List Bool)
ask_call q h b =
    and_then (or_refuse 21 (held_query q)) (λ c.
    and_then (or_refuse 22 (held_register h)) (λ R.
    and_then (run c R) (λ marks. cond (ltb (length b) (length R.pages)) (refused 24) (accepted marks))))

-- "marks pages and returns how many are marked"
unfoldable pub marked : List Bool → ℕ
marked [] = 0
marked (m ∷ l) = bit m + marked l

-- "one byte per page, in place order (1 marked, 0 not); later bytes of the buffer are unchanged"; refused: as before.
abbrev pub marks_in : Bytes → Answer (List Bool) → Bytes
marks_in b (refused n) = b
marks_in b (accepted m) = map bit m ++ drop (length m) b

-- "A refusal returns only its number (to C made negative, since 0 or the ask call's count means accepted), and every lent byte is as
-- before."
abbrev pub returned : {A : Type 0} → (A → ℕ) → Answer A → ℤ
returned f (refused n) = neg_ℤ (pos n)
returned f (accepted a) = pos (f a)

-- What the calls promise to C: the number returned, and every byte of the buffer that is lent to be written.
-- t is the register text, b the buffer before the call.
pub record RegisterCall (t b after : Bytes) (r : ℤ) : Type 0 where
  pub number : r ≡ returned (λ a. 0) (register_call t b)
  pub buffer : after ≡ left_in b (register_call t b)

-- h and k are the held registers, b the buffer before the call.
pub record JoinCall (h k b after : Bytes) (r : ℤ) : Type 0 where
  pub number : r ≡ returned (λ a. 0) (join_call h k b)
  pub buffer : after ≡ left_in b (join_call h k b)

-- h is the held register, s the query text, b the buffer before the call.
pub record QueryCall (h s b after : Bytes) (r : ℤ) : Type 0 where
  pub number : r ≡ returned (λ a. 0) (query_call h s b)
  pub buffer : after ≡ left_in b (query_call h s b)

-- s is the query text, b the buffer before the call.
pub record ReadCall (s b after : Bytes) (r : ℤ) : Type 0 where
  pub number : r ≡ returned (λ a. 0) (read_call s b)
  pub buffer : after ≡ left_in b (read_call s b)

-- t is the held tree, h the held register, b the buffer before the call.
pub record FitCall (t h b after : Bytes) (r : ℤ) : Type 0 where
  pub number : r ≡ returned (λ a. 0) (fit_call t h b)
  pub buffer : after ≡ left_in b (fit_call t h b)

-- q is the held query, h the held register, b the buffer before the call.
pub record AskCall (q h b after : Bytes) (r : ℤ) : Type 0 where
  pub number : r ≡ returned marked (ask_call q h b)
  pub buffer : after ≡ marks_in b (ask_call q h b)

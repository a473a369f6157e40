use native.Mathlib.Omega.{arith}
use Rattle.values.proofs.Ruling.{class_unfit, class_plain, class_paired, class_unpaired, class_value, class_neither}
use Rattle.values.proofs.rules.name_class.Goals as goal

-- src/rules.rt:37:9
pub returns-then-not-fit : goal.returns-then-not-fit
returns-then-not-fit c = λ p. class_unfit c.args.s.now _ _ c.is_sized.ensures c.has_bare_ends.ensures c.if-not-fit.true-raw

-- src/rules.rt:43:9
pub returns-then-begun-out : goal.returns-then-begun-out
returns-then-begun-out c = λ p. class_plain c.args.s.now _ _ c.is_sized.ensures c.has_bare_ends.ensures c.get_or-first.result c.ruled_out-out.result c.if-not-fit.false-raw c.get_or-first.ensures (λ i. omega (arith, c.shared_slice_known-2-1.given i)) c.args.rules.now c.ruled_out-out.ensures p c.if-begun-out.true

-- src/rules.rt:47:13
pub returns-then-all_paired : goal.returns-then-all_paired
returns-then-all_paired c = λ p. class_paired c.args.s.now _ _ c.is_sized.ensures c.has_bare_ends.ensures c.get_or-first.result c.ruled_out-out.result c.if-not-fit.false-raw c.get_or-first.ensures (λ i. omega (arith, c.shared_slice_known-2-1.given i)) c.args.rules.now c.ruled_out-out.ensures p c.if-begun-out-2.true _ c.all_paired.ensures c.if-all_paired.true

-- src/rules.rt:49:9
pub returns-then-begun-out-2 : goal.returns-then-begun-out-2
returns-then-begun-out-2 c = λ p. class_unpaired c.args.s.now _ _ c.is_sized.ensures c.has_bare_ends.ensures c.get_or-first.result c.ruled_out-out.result c.if-not-fit.false-raw c.get_or-first.ensures (λ i. omega (arith, c.shared_slice_known-2-1.given i)) c.args.rules.now c.ruled_out-out.ensures p c.if-begun-out-2.true _ c.all_paired.ensures c.if-all_paired.false

-- src/rules.rt:32:1
pub returns-then-out-first : goal.returns-then-out-first
returns-then-out-first c = λ p. class_value c.args.s.now _ _ c.is_sized.ensures c.has_bare_ends.ensures c.get_or-first.result c.ruled_out-out.result c.if-not-fit.false-raw c.get_or-first.ensures (λ i. omega (arith, c.shared_slice_known-2-1.given i)) c.args.rules.now c.ruled_out-out.ensures p c.if-begun-out-2.false c.if-out-first.true

-- src/rules.rt:32:1
pub returns-else-out-first : goal.returns-else-out-first
returns-else-out-first c = λ p. class_neither c.args.s.now _ _ c.is_sized.ensures c.has_bare_ends.ensures c.get_or-first.result c.ruled_out-out.result c.if-not-fit.false-raw c.get_or-first.ensures (λ i. omega (arith, c.shared_slice_known-2-1.given i)) c.args.rules.now c.ruled_out-out.ensures p c.if-begun-out-2.false c.if-out-first.false

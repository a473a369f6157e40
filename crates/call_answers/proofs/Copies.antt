-- "A held input is its first bytes of that size, and a shorter one is a form of nothing"; "Docs/ must make 255 in every byte a form of
-- nothing". Of held registers both are in register_form; here of held queries.
use Rattle.std.specs.Prelude.{Some}
use Prim.Native.Nat.{ℕ, zero, suc, ◌+◌, ◌*◌, ◌≤◌, ◌<◌}
use mathlib.Core.Path.{◌≡◌, refl, sym, ap, ap₂, ◌∙◌}
use mathlib.Core.Bool.{Bool, true, false, ◌&&◌}
use mathlib.Core.List.{◌++◌}
use native.Mathlib.Omega.{arith}
use borrow.Author.Tests.{leb-true, le-leb}
use lib.Dec.{leb}
use lib.ListN.{length, replicate, length-append, length-replicate, get_or-replicate, get_or-append}
use Rattle.text.specs.Bytes.{Bytes}
use Rattle.buffer.specs.Numbers.{two_at}
use Rattle.buffer.proofs.Parts.{part_before}
use Rattle.language.specs.Answer.{◌>>=◌, only_if}
use Rattle.language.specs.Core.{Core}
use Rattle.language.proofs.Members.{and_true}
use Rattle.query_core.specs.Held.{query_size, heap_in, count_in, slot, slot_in, slot_from, node_in, nodes_to, has_sizes, held_query}
use Rattle.query_core.specs.Postfix.{read_back}
use Rattle.query_core.specs.Stack.{HoldsCore}
use Rattle.query_core.proofs.Stacks.{held_holds}

module _ (h z : Bytes) (long : query_size ≤ length h) where
  two_before : (i : ℕ) → i + 2 ≤ query_size → two_at (h ++ z) i ≡ two_at h i
  unfolding two_at
  two_before i l = ap₂ (λ a b. a + 256 * b) (get_or-append h z 0 i (omega arith)) (get_or-append h z 0 (i + 1) (omega arith))

  node_before : (i : ℕ) → i < 256 → node_in (h ++ z) i ≡ node_in h i
  unfolding node_in
  node_before i l =
      let heap : heap_in (h ++ z) ≡ heap_in h = part_before h z 5122 24672 (omega arith) in
      let row : slot_in (h ++ z) i ≡ slot_in h i = ap slot_from (part_before h z (slot i) 20 (omega arith)) in
      rw (heap, row)

  nodes_before : (n : ℕ) → n ≤ 256 → nodes_to (h ++ z) n ≡ nodes_to h n
  unfolding nodes_to
  nodes_before zero l = refl
  nodes_before (suc n) l = rw (nodes_before n (omega arith), node_before n (omega arith))

  sizes_before : has_sizes (h ++ z) ≡ has_sizes h
  sizes_before =
      let a : leb query_size (length (h ++ z)) ≡ leb query_size (length h) = le-leb query_size (length (h ++ z)) (omega (arith, length-append h z)) ∙ sym (le-leb query_size (length h) long) in
      rw (a, two_before 0 (omega arith))

  -- Only the first bytes of that size count.
  pub query_first_bytes : held_query (h ++ z) ≡ held_query h
  unfolding held_query
  query_first_bytes = ap (λ b. only_if b (nodes_to (h ++ z) (count_in (h ++ z)) >>= read_back)) sizes_before ∙ go (has_sizes h) refl
    where
      go : (b : Bool) → has_sizes h ≡ b → only_if b (nodes_to (h ++ z) (count_in (h ++ z)) >>= read_back) ≡ only_if b (nodes_to h (count_in h) >>= read_back)
      go false e = refl
      go true e =
          let few = leb-true (count_in h) 256 (and_true (leb query_size (length h) && leb 1 (count_in h)) (leb (count_in h) 256) e).1 in
          ap (λ o. o >>= read_back) (ap (nodes_to (h ++ z)) (two_before 0 (omega arith)) ∙ nodes_before (count_in h) few)

-- 255 everywhere is no query.
pub query_255 : (n : ℕ) (q : Core) → held_query (replicate n 255) ≡ Some q → ⊥
unfolding two_at
query_255 n q e = omega (arith, held.few, count)
  where
    held : HoldsCore (replicate n 255) q
    held = held_holds (replicate n 255) q e

    long : query_size ≤ n
    long = let y = held.long in let z = length-replicate {A = ℕ} n 255 in omega (arith, y, z)

    count : count_in (replicate n 255) ≡ 65535
    count = ap₂ (λ a b. a + 256 * b) (get_or-replicate n 0 255 0 (omega (arith, long))) (get_or-replicate n 1 255 0 (omega (arith, long)))

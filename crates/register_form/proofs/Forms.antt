-- The form of a register: it reads back as that register, only it does, and the test of bytes tells it.
use Rattle.std.specs.Prelude.{Option, Some, None}
use Prim.Native.Nat.{ℕ, ◌+◌, ◌*◌, ◌≤◌, ◌<◌}
use mathlib.Core.Path.{◌≡◌, refl, sym, ap, ◌∙◌}
use mathlib.Core.Bool.{Bool, true, false, ◌&&◌}
use mathlib.Core.List.{[], ◌∷◌, ◌++◌, append-nil}
use native.Mathlib.Omega.{arith}
use lib.Dec.{ltb}
use lib.ListN.{length, get_or, take, drop, replicate, length-take, length-replicate, get_or-replicate, get_or-eq_default}
use lib.Seq.{take_at, take-append-le, get_or-take}
use borrow.Author.Tests.{ltb-true, ltb-false}
use Rattle.text.specs.Bytes.{Bytes, part, same}
use Rattle.text.proofs.Laws.{same_eq, same_refl}
use Rattle.text.proofs.Tables.{length_tabulate, get_d_tabulate}
use Rattle.language.specs.Answer.{only_if}
use Rattle.language.specs.Register.{Register}
use Rattle.language.specs.Rules.{is_register}
use Rattle.language.proofs.Members.{and_true, both_true, by_test}
use Rattle.language.proofs.Rules.{register_rules}
use Rattle.sorting.proofs.Canonical.{same_truth}
use Rattle.buffer.specs.Numbers.{two_at}
use Rattle.register_form.specs.Dictionary.{Dictionary, decode}
use Rattle.register_form.specs.Encoding.{encode}
use Rattle.register_form.specs.Form.{register_size, bytes_of, form_of, property_at, term_at, dictionary_in, register_in, is_form, held_register}
use Rattle.register_form.specs.Tests.{is_laid, is_canonical, keeps_rules, tested}
use Rattle.register_form.specs.Formed.{Formed}
use Rattle.register_form.proofs.Truths.{each}
use Rattle.buffer.proofs.Parts.{get_d_part}
use Rattle.register_form.proofs.Numbers.{term_back}
use Rattle.register_form.proofs.Lists.{mem_place}
use Rattle.register_form.proofs.Holding.{length_bytes}
use Rattle.register_form.proofs.ReadBack.{read_back_lem}
use Rattle.register_form.proofs.Tested.{laid}
use Rattle.register_form.proofs.Rewritten.{rewritten, bounded_in}
use Rattle.register_form.proofs.Rules.{within}
use Rattle.register_form.proofs.Decoded.{decoded}
use Rattle.register_form.proofs.Canonical.{canonical}
use Rattle.register_form.proofs.Described.{canon, Shaped}
use Rattle.register_form.proofs.Encoded.{encoded}
use Rattle.register_form.proofs.Ruled.{rules_kept}
use Rattle.register_form.proofs.Bounds.{bounded}

-- What is written of a register.
module _ (R : Register) (r : is_register R ≡ true) where
  described : decode (encode R) ≡ R
  described = let k = register_rules R r in decoded R k (within R k.limits)

  dictionary_there : dictionary_in (form_of R) ≡ encode R
  unfolding form_of
  dictionary_there = rw append-nil at (read_back_lem (encode R) [] (bounded R r))

  register_there : register_in (form_of R) ≡ R
  unfolding register_in
  register_there = ap decode dictionary_there ∙ described

  -- Every form has the one size.
  pub form_length_lem : length (form_of R) ≡ register_size
  unfolding form_of
  form_length_lem = length_bytes (encode R) (bounded R r)

  -- It is a form.
  pub form_is : is_form (form_of R) ≡ true
  unfolding is_form
  form_is = both_true (ap is_register register_there ∙ r) (ap (λ (S : Register). same (form_of R) (form_of S)) register_there ∙ same_refl (form_of R))

  -- What is written reads back, whatever stands behind it.
  pub reads_back : (z : Bytes) → held_register (form_of R ++ z) ≡ Some R
  unfolding held_register
  reads_back z =
      ap (λ (k : Bytes). only_if (is_form k) (Some (register_in k))) (take_at (form_of R) z register_size form_length_lem)
      ∙ ap (λ (b : Bool). only_if b (Some (register_in (form_of R)))) form_is
      ∙ ap Some register_there

-- Two registers with one form are one.
pub one_form : (R S : Register) → is_register R ≡ true → is_register S ≡ true → form_of R ≡ form_of S → R ≡ S
one_form R S r s e = sym (register_there R r) ∙ ap register_in e ∙ register_there S s

-- Bytes that hold a register begin with its form.
pub held_is : (h : Bytes) (R : Register) → held_register h ≡ Some R → (is_register R ≡ true) × (take register_size h ≡ form_of R)
unfolding held_register is_form
held_is h R e =
    let k = take register_size h in
    let t = passed (is_register (register_in k) && same k (form_of (register_in k))) (register_in k) e in
    let u = and_true (is_register (register_in k)) (same k (form_of (register_in k))) t.0 in
    (ap is_register (sym t.1) ∙ u.0, same_eq k (form_of (register_in k)) u.1 ∙ ap form_of t.1)
  where
    passed : (b : Bool) (S : Register) → only_if b (Some S) ≡ Some R → (b ≡ true) × (S ≡ R)
    passed true S e = (refl, cc)
    passed false S e = let z : ◌≡◌ {A = ℕ} 0 1 = cc in absurd (omega arith)

-- Only the first bytes of that size count.
pub first_bytes : (h z : Bytes) → register_size ≤ length h → held_register (h ++ z) ≡ held_register h
unfolding held_register
first_bytes h z b = rw (take-append-le register_size h z b)

nothing : {A : Type 0} (o : Option A) → ((a : A) → o ≡ Some a → ⊥) → o ≡ None
nothing None h = refl
nothing (Some a) h = absurd (h a refl)

-- Fewer bytes hold nothing.
pub short : (h : Bytes) → length h < register_size → held_register h ≡ None
short h b =
    nothing (held_register h)
    (λ R e.
    let q = held_is h R e in
    let size : length (take register_size h) ≡ register_size = ap length q.1 ∙ form_length_lem R q.0 in
    omega (arith, length-take register_size h))

-- The count of properties, which stands at the front of a form, is small.
count_few : (R : Register) → is_register R ≡ true → two_at (form_of R) 0 ≤ 64
unfolding dictionary_in
count_few R r =
    let e : length (dictionary_in (form_of R)).properties ≡ length (encode R).properties = ap (λ (d : Dictionary). length d.properties) (dictionary_there R r) in
    omega (arith, length_tabulate (two_at (form_of R) 0) (property_at (form_of R)), (bounded R r).properties)

-- 255 everywhere is nothing.
pub all_255 : (n : ℕ) → held_register (replicate n 255) ≡ None
unfolding two_at
all_255 n =
    let l : Bytes = replicate n 255 in
    nothing (held_register l)
    (λ R e.
    let q = held_is l R e in
    let size : length (take register_size l) ≡ register_size = ap length q.1 ∙ form_length_lem R q.0 in
    let long : register_size ≤ n = omega (arith, length-take register_size l, length-replicate {A = ℕ} n 255) in
    let byte : (i : ℕ) → i < 2 → get_or (form_of R) i 0 ≡ 255 = λ i b. ap (λ (k : Bytes). get_or k i 0) (sym q.1) ∙ get_or-take register_size l i 0 (omega arith) ∙ get_or-replicate n i 255 0 (omega arith) in
    omega (arith, count_few R q.0, byte 0 (omega arith), byte 1 (omega arith)))

-- A part of bytes is bytes; the terms that stand there are made of their groups and codes.
pub part_bytes : (h : Bytes) → ((i : ℕ) → get_or h i 0 < 256) → (at n i : ℕ) → get_or (part h at n) i 0 < 256
part_bytes h s at n i =
    by_test (ltb i n)
    (λ e. rw (get_d_part h at n i (ltb-true i n e)) (s (at + i)))
    (λ e. rw (get_or-eq_default (part h at n) 0 {n = i} (omega (arith, ltb-false i n e, length-take n (drop at h)))) (omega arith))

pub shaped_in : (h : Bytes) → is_laid h ≡ true → ((i : ℕ) → get_or h i 0 < 256) → Shaped (dictionary_in h)
unfolding dictionary_in term_at
shaped_in h l s t m =
    let q = mem_place [] m in
    let b : q.0 < two_at h 4 = rw length_tabulate at q.1 in
    let e : t ≡ term_at h q.0 = sym q.2 ∙ get_d_tabulate (two_at h 4) (term_at h) [] q.0 b in
    term_back t (ap length (sym q.2) ∙ (bounded_in h l s).sized q.0 q.1) (λ i. rw e (part_bytes h s (5322 + 9 * q.0) 9 i))

module _ (h : Bytes) (s : (i : ℕ) → get_or h i 0 < 256) where
  tested_form : tested h ≡ true → is_form h ≡ true
  unfolding tested is_form register_in form_of
  tested_form t =
      let d = dictionary_in h in
      let k = each (is_laid h) (is_canonical d ∷ keeps_rules d ∷ []) t in
      let b = bounded_in h (k 0) s in
      let shaped = shaped_in h (k 0) s in
      let c = canon d (k 1) in
      let r : is_register (decode d) ≡ true = sym (rules_kept d c shaped b.properties b.pages b.forms) ∙ k 2 in
      let e : bytes_of (encode (decode d)) ≡ h = ap bytes_of (encoded d c (register_rules (decode d) r).properties_once shaped) ∙ rewritten h (k 0) s in
      both_true r (ap (same h) e ∙ same_refl h)

  form_tested : (R : Register) → is_register R ≡ true → h ≡ form_of R → tested h ≡ true
  unfolding tested form_of
  form_tested R r e =
      let w = register_rules R r in
      let d : dictionary_in h ≡ encode R = ap dictionary_in e ∙ dictionary_there R r in
      let l : is_laid h ≡ true = ap is_laid e ∙ laid (encode R) (bounded R r) in
      let c : is_canonical (dictionary_in h) ≡ true = ap is_canonical d ∙ canonical R w (within R w.limits) in
      let b = bounded_in h l s in
      let k : keeps_rules (dictionary_in h) ≡ true = rules_kept (dictionary_in h) (canon (dictionary_in h) c) (shaped_in h l s) b.properties b.pages b.forms ∙ ap is_register (ap decode d ∙ described R r) ∙ r in
      both_true (both_true l c) k

  -- The test is exact: it passes the forms of registers, and nothing else.
  pub tested_is : tested h ≡ is_form h
  unfolding is_form
  tested_is =
      same_truth (tested h) (is_form h) tested_form
      (λ t. let u = and_true (is_register (register_in h)) (same h (form_of (register_in h))) t in form_tested (register_in h) u.0 (same_eq h (form_of (register_in h)) u.1))

  -- What is known of a form.
  pub form_formed : is_form h ≡ true → Formed h
  unfolding is_form tested
  form_formed f =
      let k = each (is_laid h) (is_canonical (dictionary_in h) ∷ keeps_rules (dictionary_in h) ∷ []) (tested_is ∙ f) in
      record { laid = k 0; canonical = k 1; small = s; register = (and_true (is_register (register_in h)) (same h (form_of (register_in h))) f).0 }

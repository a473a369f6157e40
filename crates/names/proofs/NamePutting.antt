-- Judging a name and writing its composed form.
use Rattle.std.specs.Prelude.{Some, None}
use Prim.Native.Nat.{ℕ, ◌+◌, ◌≤◌, ◌<◌}
use mathlib.Core.Path.{◌≡◌, refl, sym, ap, ◌∙◌}
use mathlib.Core.Bool.{Bool, true, false, cond, not}
use mathlib.Core.List.{[], ◌∷◌, ◌++◌, append-nil, append_assoc}
use mathlib.Core.Logic.{◌⊎◌, inl, inr}
use native.Mathlib.Nat.{add-zero, zero-add}
use native.Mathlib.Omega.{arith}
use lib.Dec.{ltb}
use lib.ListN.{length, get_or, take, drop, length-append, length-drop, drop_of_length-le}
use lib.Seq.{drop-drop, length-take-le}
use borrow.Author.Tests.{lt-ltb, eq-eqb, ne_eqb, not-false}
use Rattle.text.specs.Bytes.{Bytes}
use Rattle.buffer.specs.Writing.{written}
use Rattle.buffer.proofs.Written.{length_written, written_none, written_past, written_then, written_longer, next}
use Rattle.names.specs.Codes.{encode}
use Rattle.names.specs.Names.{composed, composed_name, is_form, has_name_shape, is_name, is_namespace}
use Rattle.names.specs.Steps.{letter_at, length_after, name_length, prepend, LetterTold, Front, OwnFront, FormPut, NamePut}
use Rattle.names.specs.declared.Letter.{Letter}
use Rattle.names.proofs.Letters.{Sizes, of_sizes}
use Rattle.names.proofs.Walking.{composed_nothing, composed_none, composed_more}
use Rattle.names.proofs.Fronts.{prepend_then}
use Rattle.names.proofs.Naming.{shaped, composed_long, name_none, name_long, own_has, walked_has, shaped_name}
use Rattle.names.proofs.Composed.{name_keeps, filled, name_composed, composed_empty, on_form, own_fixed, own_length, none_fixed}

-- What has no name's length is a namespace only where it is empty.
nothing_else : (s : Bytes) → is_namespace s ≡ true → 0 ≡ name_length s → s ≡ []
unfolding is_namespace name_length
nothing_else [] h z = refl
nothing_else (b ∷ s) h z =
    let n : is_name (b ∷ s) ≡ true = rw (filled b s) at h in
    let k = name_composed (b ∷ s) n in
    absurd (omega (arith, composed_long (b ∷ s) (composed_name (b ∷ s)) k (omega arith), (rw (n, k) at z)))

unchanged : (s b : Bytes) (at : ℕ) → is_namespace s ≡ true → 0 ≡ name_length s → b ≡ written b at (composed_name s)
unchanged s b at h z = rw (nothing_else s h z, composed_empty) (sym (written_none b at))

-- How long a namespace is, and whether a length is that of a name.
pub namespace_length : (s : Bytes) → is_namespace s ≡ true → name_length s ≡ length (composed_name s)
unfolding is_namespace name_length is_name has_name_shape
namespace_length [] h = sym (ap length composed_empty)
namespace_length (b ∷ s) h =
    let n : is_name (b ∷ s) ≡ true = rw (filled b s) at h in
    rw (n, name_composed (b ∷ s) n) (zero-add (length (composed_name (b ∷ s))))

pub length_name : (s : Bytes) (n : ℕ) → n ≡ name_length s → ltb 0 n ≡ is_name s
unfolding name_length
length_name s n e = rw e (go (is_name s) refl)
  where
    go : (p : Bool) → is_name s ≡ p → ltb 0 (cond p (length_after 0 (composed s)) 0) ≡ p
    go true h = let k = name_composed s h in lt-ltb 0 (length_after 0 (composed s)) (rw k (omega (arith, composed_long s (composed_name s) k (name_keeps s h).filled)))
    go false h = refl

-- A text that is its own composed form.
module _ (s : Bytes) (i : ℕ) (r : OwnFront s i) where
  pub all_own : i ≡ length s → true ≡ is_form s (composed s)
  all_own e = sym (eq-eqb i (length s) e) ∙ r.whole

  pub not_all : (i ≡ length s → ⊥) → false ≡ is_form s (composed s)
  not_all n = sym (ne_eqb i (length s) n) ∙ r.whole

-- Letters behind the front, up to a place, by the table T: k is what was there behind the front was written.
pub record Putting (T : Type 0) (s k : Bytes) (at front : ℕ) (h : Bytes) (n i : ℕ) : Type 0 where
  pub rest : Bytes
  pub long : front + length rest ≡ n
  pub shorter : n ≤ i
  pub put : h ≡ written k (at + front) rest
  pub is : T → composed s ≡ prepend (take front s ++ rest) (composed (drop i s))

pub letter_sizes : (s : Bytes) (x : Letter) → x ≡ letter_at s → Sizes x
letter_sizes s x f = rw f (of_sizes (get_or s 0 0) (get_or s 1 0) (get_or s 2 0))

module _ (T : Type 0) (s k : Bytes) (at front : ℕ) where
  pub put_front : Front s front → Putting T s k at front k front front
  put_front r =
      record {
        rest = [];
        long = add-zero front;
        shorter = omega arith;
        put = sym (written_none k (at + front));
        is = λ t. rw (append-nil (take front s)) r.is;
      }

  pub put_next : (h : Bytes) (n i : ℕ) → Putting T s k at front h n i → (x : Letter) → LetterTold T x (letter_at (drop i s)) → (x.width ≡ 0 → ⊥) → (g : Bytes) (z : ℕ) → g ≡ written h (at + n) (encode x.code) → z ≡ length (encode x.code)
      → Putting T s k at front g (n + z) (i + x.width)
  put_next h n i r x f w g z e q =
      let v = encode x.code in
      let u : at + n ≡ at + front + length r.rest = omega (arith, r.long) in
      record {
        rest = r.rest ++ v;
        long = omega (arith, length-append r.rest v, r.long, q);
        shorter = omega (arith, r.shorter, q, f.shorter w);
        put = e ∙ rw (u, r.put) (written_then r.rest v k (at + front));
        is = λ t.
            let y = f.is t in
            let m : composed (drop i s) ≡ prepend v (composed (drop (i + x.width) s)) = rw (composed_more (drop i s) (rw y at w), ← y, drop-drop x.width i s) in
            r.is t ∙ ap (prepend (take front s ++ r.rest)) m ∙ prepend_then (take front s ++ r.rest) v (composed (drop (i + x.width) s)) ∙ rw (append_assoc (take front s) r.rest v);
      }

-- What was there before.
module _ (T : Type 0) (s b : Bytes) (at front : ℕ) (o : Front s front) (v k : Bytes) (d : v ≡ take front s) (c : k ≡ written b at v) where
  module _ (h : Bytes) (n i : ℕ) (r : Putting T s k at front h n i) where
    abbrev text : Bytes
    text = take front s ++ r.rest

    taken : length (take front s) ≡ front
    taken = length-take-le front s o.most

    long : length text ≡ n
    long = omega (arith, length-append (take front s) r.rest, taken, r.long)

    put : h ≡ written b at text
    put = r.put ∙ next b at (take front s) r.rest (c ∙ ap (written b at) d) (ap (λ (m : ℕ). written k (at + m) r.rest) (sym taken))

    pub put_size : length h ≡ length b
    put_size = rw put (length_written b at text)

    over : length text ≤ length s → written h at s ≡ written b at s
    over l = rw put (written_longer text s b at l)

    pub put_stopped : (x : Letter) → LetterTold T x (letter_at (drop i s)) → i < length s → x.width ≡ 0 → T → FormPut s b at h 0
    put_stopped x f l w t =
        record {
          size = put_size;
          count = rw nothing;
          bytes = λ u e. let z : ◌≡◌ {A = ℕ} 0 1 = (let k = sym nothing ∙ e in cc) in absurd (omega arith);
          over = λ e. over (omega (arith, long, r.shorter));
        }
      where
        nothing : composed s ≡ None
        nothing = r.is t ∙ ap (prepend text) (composed_none (drop i s) (omega (arith, length-drop i s)) (rw (f.is t) at w))

    pub put_done : length s ≤ i → T → FormPut s b at h n
    put_done l t =
        record {
          size = put_size;
          count = rw form (omega (arith, long));
          bytes = λ u e. let k : text ≡ u = (let q = sym form ∙ e in cc) in rw (← k) put;
          over = λ e. over (omega (arith, long));
        }
      where
        form : composed s ≡ Some text
        form = let m : composed (drop i s) ≡ Some [] = rw (drop_of_length-le s l) composed_nothing in r.is t ∙ ap (prepend text) m ∙ ap Some (append-nil text)

-- A name judged and composed.
module _ (s b : Bytes) (at : ℕ) (p : Bool) (f : p ≡ has_name_shape s) where
  pub put_unshaped : not p ≡ true → NamePut s b at b 0
  put_unshaped t = record { size = refl; count = name_none s p f t; bytes = λ z. unchanged s b at z (name_none s p f t) }

  module _ (o : not p ≡ false) (to : ℕ) (k : to ≡ at) where
    pub put_whole : (i : ℕ) → OwnFront s i → i ≡ length s → (g : Bytes) → g ≡ written b to s → NamePut s b at g i
    put_whole i r e g w =
        let q = all_own s i r e in
        record { size = rw w (length_written b to s); count = e ∙ name_long s p f o (length s) (own_length s true q refl); bytes = λ z. rw (own_fixed s true q refl, ← k) w }

    pub put_form : (g : Bytes) (n : ℕ) → FormPut s b to g n → NamePut s b at g n
    unfolding is_namespace
    put_form g n r = record { size = r.size; count = name_long s p f o n r.count; bytes = λ z. rw (← k) (r.bytes (composed_name s) (name_composed s (named s z (shaped s (sym f ∙ not-false p o)).least))) }
      where
        named : (s : Bytes) → is_namespace s ≡ true → 1 ≤ length s → is_name s ≡ true
        named [] z l = absurd (omega arith)
        named (a ∷ s) z l = rw (filled a s) at z

-- Lengths that fit into a number: a name has at most 64 bytes.
module _ (s : Bytes) (p : Bool) (f : p ≡ has_name_shape s) (o : not p ≡ false) where
  pub short_name : length s ≤ 64
  short_name = (shaped s (sym f ∙ not-false p o)).most

  -- Whether it is a name.
  pub own_name : (i : ℕ) → OwnFront s i → i ≡ length s → true ≡ is_name s
  own_name i r e = shaped_name s p f o true (own_has s true (all_own s i r e) refl)

  pub walked_name : (i : ℕ) → OwnFront s i → (i ≡ length s → ⊥) → (n : ℕ) → n ≡ length_after 0 (composed s) → ltb 0 n ≡ is_name s
  walked_name i r e n q = shaped_name s p f o (ltb 0 n) (walked_has s false (not_all s i r e) refl n q)

-- The composed form of any text.
abbrev pub ComposedPut : Bytes → Bytes → ℕ → Bytes → ℕ → Type 0
ComposedPut s b at g n = (n ≡ length (composed_name s)) × (g ≡ written b at (composed_name s))

module _ (s b : Bytes) (at : ℕ) where
  pub put_own : (i : ℕ) → OwnFront s i → i ≡ length s → (g : Bytes) → g ≡ written b at s → ComposedPut s b at g i
  put_own i r e g w = let q = own_fixed s true (all_own s i r e) refl in (e ∙ sym (ap length q), rw q w)

  -- A place behind the end is as good as the end.
  module _ (to : ℕ) (m : (to ≤ at) × (to ≤ length b) × ((at ≤ to) ⊎ (length b ≤ to))) where
    same_place : (v : Bytes) → written b to v ≡ written b at v
    same_place v = go m.2
      where
        go : (at ≤ to) ⊎ (length b ≤ to) → written b to v ≡ written b at v
        go (inl l) = let e : to ≡ at = omega (arith, m.0) in rw e
        go (inr l) = sym (written_past v b to l) ∙ written_past v b at (omega (arith, m.0))

    module _ (g : Bytes) (n : ℕ) (r : FormPut s b to g n) where
      pub put_typed : n ≡ 0 → (k : Bytes) → k ≡ written g to s → ComposedPut s b at k (length s)
      put_typed e k w = let q = none_fixed s n r.count e in (sym (ap length q), rw q (w ∙ r.over e ∙ same_place s))

      pub put_some : (n ≡ 0 → ⊥) → ComposedPut s b at g n
      put_some z = on_form (λ u. (n ≡ length u) × (g ≡ written b at u)) s (λ e. absurd (z (r.count ∙ rw e))) (λ u e. (r.count ∙ rw e (zero-add (length u)), r.bytes u e ∙ same_place u))

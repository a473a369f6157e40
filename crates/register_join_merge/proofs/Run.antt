-- A run of the merge: what holds after each text.
use Prim.Native.Nat.{ℕ, ◌+◌, ◌-◌, ◌%◌, ◌≤◌, ◌<◌}
use mathlib.Core.Path.{◌≡◌, refl, sym, ap, ap₂, ◌∙◌}
use mathlib.Core.Bool.{Bool, true, false, cond}
use mathlib.Core.Logic.{◌⊎◌, inl, inr, ⊎_elim}
use mathlib.Core.List.{List, []}
use native.Mathlib.Nat.{mod-eq_of_lt}
use native.Mathlib.Omega.{arith}
use native.Mathlib.Decide.{ℕ_discrete}
use lib.ListN.{length, get_or, set, length-set}
use Rattle.text.specs.Bytes.{Bytes, order_of}
use Rattle.text.specs.Table.{tabulate, bit}
use Rattle.text.proofs.Tables.{length_tabulate, get_d_tabulate}
use Rattle.std.specs.declared.cmp.Ordering.{Ordering}
use Rattle.std.specs.declared.cmp.Ordering.TheVariants.{Less}
use Rattle.language.proofs.Members.{by_test}
use Rattle.sorting.proofs.Orders.{bytes_total}
use Rattle.dictionary.specs.Items.{text_at as item_at}
use Rattle.register_form.specs.Form.{text_count, text_start, text_at, dictionary_in}
use Rattle.register_form.specs.Formed.{Formed}
use Rattle.register_join_merge.specs.Merged.{Itemed, Names, Merged}
use Rattle.register_join_merge.specs.Merging.{next_order, takes_first, takes_second, next_text, Added, Noted, Room, Merger}
use Rattle.register_join_merge.proofs.Stored.{text_new, text_old, within_more}
use Rattle.register_join_merge.proofs.Orders.{Next, next_is}
use Rattle.register_join_merge.proofs.Halves.{Half, Has, half_none, half_next, has_old, has_new}
use Rattle.register_join_merge.proofs.Sides.{ascends_table, texts_few, texts_up, start_most, text_length_lem, start_next}

pub record State (h g heap : Bytes) (starts lens items1 items2 : List ℕ) (i j k end : ℕ) : Type 0 where
  pub first : Half (text_at h) (text_count h) i k (item_at heap starts lens) items1
  pub second : Half (text_at g) (text_count g) j k (item_at heap starts lens) items2
  pub up : (a b : ℕ) → a < b → b < k → order_of (item_at heap starts lens a) (item_at heap starts lens b) ≡ Less
  pub each : (a : ℕ) → a < k → Has items1 i a ⊎ Has items2 j a
  pub within : (a : ℕ) → a < k → get_or starts a 0 + get_or lens a 0 ≤ end
  pub bound : end ≤ text_start h i + text_start g j
  pub count : k ≤ i + j

bit_most : (b : Bool) → bit b ≤ 1
bit_most true = omega arith
bit_most false = omega arith

-- The next number, where i is one below n if it is taken.
module _ (n : ℕ) (items is : List ℕ) (i k p : ℕ) (f : Bool) (small : n < 65536) (most : i ≤ n) (below : f ≡ true → i < n) (noted : Noted items i k f is p) where
  next_number : p ≡ i + bit f
  next_number = noted.next (by_test f (λ e. omega (arith, below e, bit_most f)) (λ e. omega (arith, ap bit e)))

  next_most : p ≤ n
  next_most = by_test f (λ e. omega (arith, below e, bit_most f, next_number)) (λ e. omega (arith, ap bit e, next_number))

-- One text more.
module _ (h g heap : Bytes) (starts lens items1 items2 : List ℕ) (i j k end : ℕ) (o : Ordering)
    (u : Bytes) (ss ls is js : List ℕ) (p q l r : ℕ) (hb : text_count h < 65536) (gb : text_count g < 65536)
    (fh : Formed h) (fg : Formed g) (room : Room heap starts lens items1 items2) (st : State h g heap starts lens items1 items2 i j k end)
    (i_most : i ≤ text_count h) (j_most : j ≤ text_count g) (nx : Next h g i j o)
    (added : Added heap starts lens k end (next_text o (text_at h i) (text_at g j)) u ss ls r)
    (noted1 : Noted items1 i k (takes_first o) is p) (noted2 : Noted items2 j k (takes_second o) js q) (more : l ≡ (k + 1) % 65536) where
  w : Bytes
  w = next_text o (text_at h i) (text_at g j)

  p_is : p ≡ i + bit (takes_first o)
  p_is = next_number (text_count h) items1 is i k p (takes_first o) hb i_most nx.below1 noted1

  q_is : q ≡ j + bit (takes_second o)
  q_is = next_number (text_count g) items2 js j k q (takes_second o) gb j_most nx.below2 noted2

  -- By the register that it is taken from.
  by : {A : Type 0} → (takes_first o ≡ true → A) → (takes_second o ≡ true → A) → A
  by f s = by_test (takes_first o) f (λ e. s (nx.some e))

  p_most : p ≤ text_count h
  p_most = next_most (text_count h) items1 is i k p (takes_first o) hb i_most nx.below1 noted1

  q_most : q ≤ text_count g
  q_most = next_most (text_count g) items2 js j k q (takes_second o) gb j_most nx.below2 noted2

  -- The length of the text, and where it ends.
  weight : end + length w ≤ text_start h p + text_start g q
  unfolding w
  weight =
      let a = start_next h fh i p (takes_first o) nx.below1 p_is in
      let b = start_next g fg j q (takes_second o) nx.below2 q_is in
      let c = st.bound in
      by
      (λ e. let s : text_start h p ≡ text_start h i + length (text_at h i) = ap (text_start h) (p_is ∙ ap (λ (t : Bool). i + bit t) e) ∙ text_length_lem h fh i (nx.below1 e) in omega (arith, ap length (nx.is1 e)))
      (λ e. let s : text_start g q ≡ text_start g j + length (text_at g j) = ap (text_start g) (q_is ∙ ap (λ (t : Bool). j + bit t) e) ∙ text_length_lem g fg j (nx.below2 e) in omega (arith, ap length (nx.is2 e)))

  ends : end + length w ≤ 70272
  ends = omega (arith, weight, start_most h fh p p_most, start_most g fg q q_most)

  fits : end + length w ≤ length heap
  fits = omega (arith, ends, room.heap_size)

  short : length w < 65536
  unfolding w
  short =
      by
      (λ e. let b = nx.below1 e in omega (arith, ap length (nx.is1 e), text_length_lem h fh i b, start_most h fh (i + 1) (omega arith)))
      (λ e. let b = nx.below2 e in omega (arith, ap length (nx.is2 e), text_length_lem g fg j b, start_most g fg (j + 1) (omega arith)))

  few : k < 4736
  few = by (λ e. omega (arith, st.count, nx.below1 e, texts_few h fh, texts_few g fg)) (λ e. omega (arith, st.count, nx.below2 e, texts_few h fh, texts_few g fg))

  l_is : l ≡ k + 1
  l_is = more ∙ mod-eq_of_lt (omega (arith, few))

  low : end < 4294967296
  low = omega (arith, ends)

  rs : k < length starts
  rs = omega (arith, few, room.starts_size)

  rl : k < length lens
  rl = omega (arith, few, room.lens_size)

  new : item_at u ss ls k ≡ w
  unfolding w
  new = text_new heap starts lens k end _ u ss ls r added fits low short rs rl

  old : (a : ℕ) → a < k → item_at u ss ls a ≡ item_at heap starts lens a
  unfolding w
  old a b = text_old heap starts lens k end _ u ss ls r added fits low short rs rl a b (st.within a b)

  first_more : Half (text_at h) (text_count h) p l (item_at u ss ls) is
  unfolding w
  first_more =
      half_next (text_at h) (text_count h) (texts_up h fh) i k (item_at heap starts lens) (item_at u ss ls) items1 is w new old st.first (takes_first o) p l nx.below1 nx.is1 nx.less1 (omega (arith, texts_few h fh, room.items1_size)) noted1.is p_is l_is

  second_more : Half (text_at g) (text_count g) q l (item_at u ss ls) js
  unfolding w
  second_more =
      half_next (text_at g) (text_count g) (texts_up g fg) j k (item_at heap starts lens) (item_at u ss ls) items2 js w new old st.second (takes_second o) q l nx.below2 nx.is2 nx.less2 (omega (arith, texts_few g fg, room.items2_size)) noted2.is q_is l_is

  last_above : (a : ℕ) → a < k → order_of (item_at heap starts lens a) w ≡ Less
  unfolding w
  last_above a b =
      by
      (λ e. ap (order_of (item_at heap starts lens a)) (nx.is1 e) ∙ st.first.above a b (nx.below1 e))
      (λ e. ap (order_of (item_at heap starts lens a)) (nx.is2 e) ∙ st.second.above a b (nx.below2 e))

  up_more : (a b : ℕ) → a < b → b < l → order_of (item_at u ss ls a) (item_at u ss ls b) ≡ Less
  up_more a b x y = go (ℕ_discrete b k)
    where
      go : Dec (b ≡ k) → order_of (item_at u ss ls a) (item_at u ss ls b) ≡ Less
      go (yes e) = let z : a < k = omega arith in ap₂ order_of (old a z) (ap (item_at u ss ls) e ∙ new) ∙ last_above a z
      go (no e) = let z : b < k = omega (arith, e, l_is) in ap₂ order_of (old a (omega arith)) (old b z) ∙ st.up a b x z

  each_more : (a : ℕ) → a < l → Has is p a ⊎ Has js q a
  each_more a b = go (ℕ_discrete a k)
    where
      kept : Has items1 i a ⊎ Has items2 j a → Has is p a ⊎ Has js q a
      kept (inl x) = inl (has_old items1 is i p k a (takes_first o) noted1.is p_is x)
      kept (inr x) = inr (has_old items2 js j q k a (takes_second o) noted2.is q_is x)

      go : Dec (a ≡ k) → Has is p a ⊎ Has js q a
      go (yes e) =
          rw e (by
          (λ t. inl (has_new items1 is i p k (takes_first o) t (let z = nx.below1 t in omega (arith, texts_few h fh, room.items1_size)) noted1.is p_is))
          (λ t. inr (has_new items2 js j q k (takes_second o) t (let z = nx.below2 t in omega (arith, texts_few g fg, room.items2_size)) noted2.is q_is)))
      go (no e) = kept (st.each a (omega (arith, e, l_is)))

  pub state_more : State h g u ss ls is js p q l r
  unfolding w
  state_more =
      record {
        first = first_more;
        second = second_more;
        up = up_more;
        each = each_more;
        within = λ a b. within_more heap starts lens k end _ u ss ls r added fits low short rs rl st.within a (omega (arith, l_is));
        bound = omega (arith, weight, added.pasted.end fits);
        count = by (λ e. omega (arith, st.count, l_is, p_is, q_is, ap bit e)) (λ e. omega (arith, st.count, l_is, p_is, q_is, ap bit e));
      }

-- What a run keeps, from the tables that it began with.
pub record Run (h g heap₀ : Bytes) (starts₀ lens₀ items1₀ items2₀ : List ℕ) (heap : Bytes) (starts lens items1 items2 : List ℕ) (i j k end : ℕ) : Type 0 where
  pub heap_size : length heap ≡ length heap₀
  pub starts_size : length starts ≡ length starts₀
  pub lens_size : length lens ≡ length lens₀
  pub items1_size : length items1 ≡ length items1₀
  pub items2_size : length items2 ≡ length items2₀
  pub i_most : i ≤ text_count h
  pub j_most : j ≤ text_count g
  pub state : Formed h → Formed g → Room heap₀ starts₀ lens₀ items1₀ items2₀ → State h g heap starts lens items1 items2 i j k end

module _ (h g heap₀ : Bytes) (starts₀ lens₀ items1₀ items2₀ : List ℕ) where
  pub run_none : Run h g heap₀ starts₀ lens₀ items1₀ items2₀ heap₀ starts₀ lens₀ items1₀ items2₀ 0 0 0 0
  run_none =
      record {
        heap_size = refl;
        starts_size = refl;
        lens_size = refl;
        items1_size = refl;
        items2_size = refl;
        i_most = omega arith;
        j_most = omega arith;
        state = λ fh fg room.
            record {
              first = half_none (text_at h) (text_count h) (item_at heap₀ starts₀ lens₀) items1₀;
              second = half_none (text_at g) (text_count g) (item_at heap₀ starts₀ lens₀) items2₀;
              up = λ a b x y. absurd (omega arith);
              each = λ a b. absurd (omega arith);
              within = λ a b. absurd (omega arith);
              bound = omega arith;
              count = omega arith;
            };
      }

  module _ (heap : Bytes) (starts lens items1 items2 : List ℕ) (i j k end : ℕ) (run : Run h g heap₀ starts₀ lens₀ items1₀ items2₀ heap starts lens items1 items2 i j k end) where
    room_kept : Room heap₀ starts₀ lens₀ items1₀ items2₀ → Room heap starts lens items1 items2
    room_kept m =
        record {
          heap_size = omega (arith, m.heap_size, run.heap_size);
          starts_size = omega (arith, m.starts_size, run.starts_size);
          lens_size = omega (arith, m.lens_size, run.lens_size);
          items1_size = omega (arith, m.items1_size, run.items1_size);
          items2_size = omega (arith, m.items2_size, run.items2_size);
        }

    set_size : (f : Bool) (l u : List ℕ) (x v : ℕ) → u ≡ cond f (set l x v) l → length u ≡ length l
    set_size true l u x v e = ap length e ∙ length-set l x v
    set_size false l u x v e = ap length e

    -- One turn.
    module _ (o : Ordering) (t u : Bytes) (ss ls is js : List ℕ) (f s : Bool) (p q l r : ℕ) (hb : text_count h < 65536) (gb : text_count g < 65536)
        (more : (i < text_count h) ⊎ (j < text_count g)) (oe : o ≡ next_order h g i j) (te : t ≡ next_text o (text_at h i) (text_at g j))
        (added : Added heap starts lens k end t u ss ls r) (fe : f ≡ takes_first o) (noted1 : Noted items1 i k f is p) (se : s ≡ takes_second o) (noted2 : Noted items2 j k s js q) (le : l ≡ (k + 1) % 65536) where
      nx : Next h g i j o
      nx = next_is h g i j o oe more

      n1 : Noted items1 i k (takes_first o) is p
      n1 = rw (← fe) noted1

      n2 : Noted items2 j k (takes_second o) js q
      n2 = rw (← se) noted2

      pub run_less : (text_count h - p) + (text_count g - q) < (text_count h - i) + (text_count g - j)
      run_less =
          let a = next_number (text_count h) items1 is i k p (takes_first o) hb run.i_most nx.below1 n1 in
          let b = next_number (text_count g) items2 js j k q (takes_second o) gb run.j_most nx.below2 n2 in
          by_test (takes_first o)
          (λ e. omega (arith, nx.below1 e, ap bit e, run.j_most))
          (λ e. omega (arith, nx.below2 (nx.some e), ap bit (nx.some e), ap bit e, run.i_most))

      pub run_next : Run h g heap₀ starts₀ lens₀ items1₀ items2₀ u ss ls is js p q l r
      run_next =
          record {
            heap_size = added.pasted.size ∙ run.heap_size;
            starts_size = ap length added.starts_are ∙ length-set starts k _ ∙ run.starts_size;
            lens_size = ap length added.lens_are ∙ length-set lens k _ ∙ run.lens_size;
            items1_size = set_size f items1 is i k noted1.is ∙ run.items1_size;
            items2_size = set_size s items2 js j k noted2.is ∙ run.items2_size;
            i_most = next_most (text_count h) items1 is i k p (takes_first o) hb run.i_most nx.below1 n1;
            j_most = next_most (text_count g) items2 js j k q (takes_second o) gb run.j_most nx.below2 n2;
            state = λ fh fg room.
                state_more h g heap starts lens items1 items2 i j k end o u ss ls is js p q l r hb gb fh fg (room_kept room) (run.state fh fg room) run.i_most run.j_most nx (rw te at added) n1 n2 le;
          }

    -- At the end the texts are merged.
    pub run_all : text_count h ≤ i → text_count g ≤ j → Merger h g heap₀ starts₀ lens₀ items1₀ items2₀ heap starts lens items1 items2 k
    unfolding dictionary_in
    run_all a b = record { sizes = (run.heap_size, run.starts_size, run.lens_size, run.items1_size, run.items2_size); merged = λ fh fg room. merged fh fg (run.state fh fg room) }
      where
        out : ℕ → Bytes
        out = item_at heap starts lens

        side : (x : Bytes) (y : ℕ) (items : List ℕ) → Half (text_at x) (text_count x) y k out items → text_count x ≤ y → Itemed (dictionary_in x) (tabulate k out) (λ z. get_or items z 0)
        side x y items m n =
            record {
              below = λ z e. rw length_tabulate (m.below z (let w : z < text_count x = rw length_tabulate at e in omega arith));
              text = λ z e.
                  let w : z < text_count x = rw length_tabulate at e in
                  get_d_tabulate k out [] (get_or items z 0) (m.below z (omega arith)) ∙ m.is z (omega arith) ∙ sym (get_d_tabulate (text_count x) (text_at x) [] z w);
            }

        has : (x : Bytes) (y z : ℕ) (items : List ℕ) → y ≤ text_count x → Has items y z → Names (dictionary_in x) (λ v. get_or items v 0) z
        has x y z items m n = let v = n.below in record { number = n.number; below = rw length_tabulate (omega arith); is = n.is }

        merged : Formed h → Formed g → State h g heap starts lens items1 items2 i j k end → Merged (dictionary_in h) (dictionary_in g) (tabulate k out) (λ x. get_or items1 x 0) (λ y. get_or items2 y 0)
        merged fh fg s =
            record {
              first = side h i items1 s.first a;
              second = side g j items2 s.second b;
              up = ascends_table order_of bytes_total k out s.up;
              each = λ z e. ⊎_elim (λ n. inl (has h i z items1 run.i_most n)) (λ n. inr (has g j z items2 run.j_most n)) (s.each z (rw length_tabulate at e));
              few = rw length_tabulate (omega (arith, s.count, run.i_most, run.j_most, texts_few h fh, texts_few g fg));
            }

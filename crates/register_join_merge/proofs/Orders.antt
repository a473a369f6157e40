-- Which text is next.
use Prim.Native.Nat.{ℕ, ◌≤◌, ◌<◌}
use mathlib.Core.Path.{◌≡◌, refl, sym}
use mathlib.Core.Bool.{Bool, true, false, cond, ◌||◌, true≢false, false≢true}
use mathlib.Core.Logic.{◌⊎◌, inl, inr, ⊎_elim}
use native.Mathlib.Omega.{arith}
use lib.Dec.{leb, ltb}
use borrow.Author.Tests.{leb-true, leb-false, ltb-true, ltb-false}
use Rattle.text.specs.Bytes.{Bytes, order_of}
use Rattle.text.proofs.Laws.{order_eq}
use Rattle.std.specs.declared.cmp.Ordering.{Ordering}
use Rattle.std.specs.declared.cmp.Ordering.TheVariants.{Less, Equal, Greater}
use Rattle.sorting.proofs.Orders.{bytes_total}
use Rattle.language.proofs.Members.{or_false}
use Rattle.register_form.specs.Form.{text_count, text_at}
use Rattle.register_join_merge.specs.Merging.{next_order, takes_first, takes_second, next_text}

-- What the next text is, by which register it is taken from.
pub record Next (h g : Bytes) (i j : ℕ) (o : Ordering) : Type 0 where
  pub below1 : takes_first o ≡ true → i < text_count h
  pub below2 : takes_second o ≡ true → j < text_count g
  pub is1 : takes_first o ≡ true → next_text o (text_at h i) (text_at g j) ≡ text_at h i
  pub is2 : takes_second o ≡ true → next_text o (text_at h i) (text_at g j) ≡ text_at g j
  pub less1 : takes_first o ≡ false → i < text_count h → order_of (next_text o (text_at h i) (text_at g j)) (text_at h i) ≡ Less
  pub less2 : takes_second o ≡ false → j < text_count g → order_of (next_text o (text_at h i) (text_at g j)) (text_at g j) ≡ Less
  pub some : takes_first o ≡ false → takes_second o ≡ true

module _ (h g : Bytes) (i j : ℕ) where
  both : i < text_count h → j < text_count g → (o : Ordering) → o ≡ order_of (text_at h i) (text_at g j) → Next h g i j o
  both a b Less e =
      record { below1 = λ t. a; below2 = λ t. b; is1 = λ t. refl; is2 = λ t. absurd (false≢true t); less1 = λ t l. absurd (true≢false t); less2 = λ t l. sym e; some = λ t. absurd (true≢false t) }
  both a b Equal e =
      record { below1 = λ t. a; below2 = λ t. b; is1 = λ t. refl; is2 = λ t. order_eq (text_at h i) (text_at g j) (sym e); less1 = λ t l. absurd (true≢false t); less2 = λ t l. absurd (true≢false t); some = λ t. refl }
  both a b Greater e =
      record { below1 = λ t. a; below2 = λ t. b; is1 = λ t. absurd (false≢true t); is2 = λ t. refl; less1 = λ t l. bytes_total.turn (text_at h i) (text_at g j) (sym e); less2 = λ t l. absurd (true≢false t); some = λ t. refl }

  only1 : i < text_count h → text_count g ≤ j → Next h g i j Less
  only1 a b =
      record { below1 = λ t. a; below2 = λ t. absurd (false≢true t); is1 = λ t. refl; is2 = λ t. absurd (false≢true t); less1 = λ t l. absurd (true≢false t); less2 = λ t l. absurd (omega arith); some = λ t. absurd (true≢false t) }

  only2 : text_count h ≤ i → j < text_count g → Next h g i j Greater
  only2 a b =
      record { below1 = λ t. absurd (false≢true t); below2 = λ t. b; is1 = λ t. absurd (false≢true t); is2 = λ t. refl; less1 = λ t l. absurd (omega arith); less2 = λ t l. absurd (true≢false t); some = λ t. refl }

  pub next_is : (o : Ordering) → o ≡ next_order h g i j → (i < text_count h) ⊎ (j < text_count g) → Next h g i j o
  unfolding next_order
  next_is o e some = second (leb (text_count g) j) refl e
    where
      first : (c : Bool) → leb (text_count h) i ≡ c → j < text_count g → o ≡ cond c Greater (order_of (text_at h i) (text_at g j)) → Next h g i j o
      first true a b f = rw f (only2 (leb-true (text_count h) i a) b)
      first false a b f = both (leb-false (text_count h) i a) b o f

      second : (c : Bool) → leb (text_count g) j ≡ c → o ≡ cond c Less (cond (leb (text_count h) i) Greater (order_of (text_at h i) (text_at g j))) → Next h g i j o
      second true b f = let l = leb-true (text_count g) j b in rw f (only1 (⊎_elim (λ (k : i < text_count h). k) (λ (k : j < text_count g). absurd (omega arith)) some) l)
      second false b f = first (leb (text_count h) i) refl (leb-false (text_count g) j b) f

-- A test that some text is left.
pub left_over : (h g : Bytes) (i j n m : ℕ) → n ≡ text_count h → m ≡ text_count g → (ltb i n || ltb j m) ≡ true → (i < text_count h) ⊎ (j < text_count g)
left_over h g i j n m e f t = go (ltb i n) refl t
  where
    go : (c : Bool) → ltb i n ≡ c → (c || ltb j m) ≡ true → (i < text_count h) ⊎ (j < text_count g)
    go true a b = inl (omega (arith, ltb-true i n a))
    go false a b = inr (omega (arith, ltb-true j m b))

pub none_left : (h g : Bytes) (i j n m : ℕ) → n ≡ text_count h → m ≡ text_count g → (ltb i n || ltb j m) ≡ false → (text_count h ≤ i) × (text_count g ≤ j)
none_left h g i j n m e f t =
    let r = or_false (ltb i n) (ltb j m) t in
    (omega (arith, ltb-false i n r.0), omega (arith, ltb-false j m r.1))

-- Names in the order of their texts' numbers.
use Prim.Native.Nat.{ℕ, ◌+◌, ◌*◌, ◌≤◌, ◌<◌}
use mathlib.Core.Path.{◌≡◌, refl, sym, ap, ◌∙◌}
use mathlib.Core.Bool.{Bool, true, false, cond, true≢false}
use mathlib.Core.List.{List, [], ◌∷◌, Memᴰ}
use native.Mathlib.Omega.{arith}
use borrow.Author.Tests.{lt-ltb, le-ltb, ltb-true, ltb-false}
use lib.Dec.{ltb}
use lib.ListN.{length, get_or}
use Rattle.text.specs.Bytes.{Bytes, part, numbers, order_of}
use Rattle.std.specs.Ordering.{is_eq}
use Rattle.std.specs.declared.cmp.Ordering.{Ordering}
use Rattle.std.specs.declared.cmp.Ordering.TheVariants.{Less, Equal, Greater}
use Rattle.text.specs.declared.Span.{Span}
use Rattle.text.proofs.Laws.{order_eq, numbers_less, numbers_greater, numbers_equal}
use Rattle.language.specs.Register.{Register}
use Rattle.language.proofs.Members.{by_test}
use Rattle.language.specs.declared.Comparator.{Comparator}
use Rattle.language.specs.declared.SurfaceComparator.{SurfaceComparator}
use Rattle.values.specs.declared.Scalar.{Scalar}
use Rattle.values.specs.declared.Split.{Split}
use Rattle.query_core.specs.declared.Constant.{Constant}
use Rattle.sorting.specs.Ascending.{is_less, is_equal, ascends, rank}
use Rattle.sorting.proofs.Canonical.{less_is, equal_is, equal_is_eq}
use Rattle.sorting.proofs.Orders.{bytes_total}
use Rattle.sorting.proofs.Ranks.{rank_above, rank_below, rank_at}
use Rattle.register_form.specs.Dictionary.{labelled, name_of}
use Rattle.register_form.specs.Encoding.{plain_text, texts_of}
use Rattle.register_form.specs.Form.{text_at, dictionary_in}
use Rattle.register_form.proofs.Codes.{name_back}
use Rattle.register_form.proofs.Decoded.{texts_up}
use Rattle.register_form.proofs.Lists.{number_back, number_small}
use Rattle.register_form_view.specs.Ranges.{entries_in, entry_at, Ranked, Keyed, RankOf, ConstantRank, TestRank, name_order}
use Rattle.register_form_view.specs.declared.Index.{Index}
use Rattle.register_form_view.specs.declared.Rank.{Rank}
use Rattle.register_form_view.specs.declared.ValueTest.{ValueTest}
use Rattle.register_form_view.proofs.Opening.{Known, text_row, texts_are}
use Rattle.register_form_view.proofs.Searching.{entry_in_lem}

greater_is : (r : Ordering) → is_less r ≡ false → is_equal r ≡ false → r ≡ Greater
greater_is Less l e = absurd (true≢false l)
greater_is Equal l e = absurd (true≢false e)
greater_is Greater l e = refl

-- An entry of an ascending list l beside the key x, whose rank is m.
module _ (l : List Bytes) (x : Bytes) (p : ascends order_of l ≡ true) (m : ℕ) (r : m ≡ rank order_of x l) (n : ℕ) (b : n < length l) where
  pub is_below : n < m → order_of (get_or l n []) x ≡ Less
  is_below k =
      by_test (is_less (order_of (get_or l n []) x))
      (λ t. less_is _ t)
      (λ t. absurd (omega (arith, rank_below order_of bytes_total x l n [] p b t)))

  not_less : m ≤ n → is_less (order_of (get_or l n []) x) ≡ false
  not_less k =
      by_test (is_less (order_of (get_or l n []) x))
      (λ t. absurd (omega (arith, rank_above order_of bytes_total x l n [] p b t)))
      (λ t. t)

  is_there : is_equal (order_of (get_or l n []) x) ≡ true → n ≡ m
  is_there t =
      sym (rank_at order_of bytes_total l n [] p b) ∙ ap (λ (z : Bytes). rank order_of z l) (order_eq _ _ (equal_is _ t)) ∙ sym r

  is_above : m < n → order_of (get_or l n []) x ≡ Greater
  is_above k =
      greater_is _ (not_less (omega arith))
      (by_test (is_equal (order_of (get_or l n []) x)) (λ t. absurd (omega (arith, is_there t))) (λ t. t))

  is_behind : m ≤ n → is_equal (order_of (get_or l n []) x) ≡ false → order_of (get_or l n []) x ≡ Greater
  is_behind k e = greater_is _ (not_less k) e

-- name_key: past the last text, at a text that is the name's, at another
module _ (h x : Bytes) (m w n : ℕ) (f : Ranked h Index.Names x m) (long : w ≡ m) (c : n ≡ length (entries_in h Index.Names)) where
  abbrev texts : List Bytes
  texts = (dictionary_in h).texts

  -- a key that is right at the name's rank is right
  keyed : (k : ℕ) → 2 * m ≤ k → k ≤ 1 + 2 * m → (ascends order_of texts ≡ true → m < length texts → numbers (1 + 2 * m) k ≡ order_of (get_or texts m []) (plain_text x)) → Keyed h x k
  unfolding Keyed Ranked
  keyed k low high here p j b = go (ltb j m) refl (ltb m j) refl
    where
      go : (s : Bool) → ltb j m ≡ s → (t : Bool) → ltb m j ≡ t → numbers (1 + 2 * j) k ≡ order_of (get_or texts j []) (plain_text x)
      go true s t u =
          let less = ltb-true j m s in
          numbers_less (1 + 2 * j) k (omega arith) ∙ sym (is_below texts (plain_text x) p m (f p) j b less)
      go false s true u =
          let less = ltb-true m j u in
          numbers_greater (1 + 2 * j) k (omega arith) ∙ sym (is_above texts (plain_text x) p m (f p) j b less)
      go false s false u =
          let e : j ≡ m = omega (arith, ltb-false j m s, ltb-false m j u) in
          rw e (here p (omega arith))

  pub key_past : n ≤ m → Keyed h x (2 * w)
  key_past l = rw long (keyed (2 * m) (omega arith) (omega arith) (λ p b. absurd (omega arith)))

  module _ (l : m < n) (r : Ordering) (e : r ≡ order_of (entry_at h Index.Names m) (plain_text x)) (b : Bool) (g : b ≡ is_eq r) where
    there : is_equal (order_of (get_or texts m []) (plain_text x)) ≡ b
    there = rw (entry_in_lem h Index.Names m (omega arith)) (sym (g ∙ equal_is_eq r ∙ ap is_equal e))

    pub key_at_lem : b ≡ true → Keyed h x (2 * w + 1)
    key_at_lem t =
        rw long (keyed (2 * m + 1) (omega arith) (omega arith) (λ p k. numbers_equal (1 + 2 * m) (2 * m + 1) (omega arith) (omega arith) ∙ sym (equal_is _ (there ∙ t))))

    pub key_none : b ≡ false → Keyed h x (2 * w)
    unfolding Ranked
    key_none t =
        rw long (keyed (2 * m) (omega arith) (omega arith) (λ p k. numbers_greater (1 + 2 * m) (2 * m) (omega arith) ∙ sym (is_behind texts (plain_text x) p m (f p) m k (omega arith) (there ∙ t))))

-- A text that is less than the byte 1 has no namespace.
no_space : (s y : Bytes) → is_less (order_of (labelled s y) (1 ∷ [])) ≡ true → s ≡ []
unfolding order_of labelled
no_space [] y t = refl
no_space (a ∷ s) y t = absurd (true≢false (sym t ∙ rw (le-ltb (length (a ∷ s)) 1 (omega arith)) (go (ltb 1 (length (a ∷ s))))))
  where
    go : (b : Bool) → is_less (cond b Greater Greater) ≡ false
    go true = refl
    go false = refl

-- Names with no namespace stand as their texts do.
plain_order : (y x : Bytes) → order_of (plain_text y) (plain_text x) ≡ order_of y x
unfolding order_of labelled
plain_order y x = refl

-- rank_of
module _ (h x : Bytes) where
  pub rank_few : (r : Rank) → r.plain ≡ 0 → RankOf h x r
  unfolding RankOf
  rank_few r e p n b k = absurd (omega arith)

  pub rank_many : (plain key : ℕ) → Ranked h Index.Texts (1 ∷ []) plain → Keyed h x key → RankOf h x (record { plain = plain; key = key })
  unfolding RankOf Ranked Keyed
  rank_many plain key f g p n b k s y e =
      let less : is_less (order_of (labelled s y) (1 ∷ [])) ≡ true = ap (λ (t : Bytes). is_less (order_of t (1 ∷ []))) (sym e) ∙ ap is_less (is_below (dictionary_in h).texts (1 ∷ []) p plain (f p) n b k) in
      let bare : labelled s y ≡ plain_text y = ap (λ (z : Bytes). labelled z y) (no_space s y less) in
      g p n b ∙ ap (λ (t : Bytes). order_of t (plain_text x)) (e ∙ bare) ∙ plain_order y x

-- constant_rank
module _ (h q : Bytes) (w : Constant) (r : Rank) where
  pub rank_scalar : (k : Scalar) (n : ℕ) → w ≡ Constant.Scalar k n → ConstantRank h q w r
  unfolding ConstantRank
  rank_scalar k n e = rw e tt

  pub rank_string : (p : Span) (x : Bytes) → w ≡ Constant.String p → x ≡ part q p.start p.len → RankOf h x r → ConstantRank h q w r
  unfolding ConstantRank
  rank_string p x e lies f = rw (e, ← lies) f

-- rank_for
module _ (h q : Bytes) (test : ValueTest) (r : Rank) where
  pub rank_constant : (c : Comparator) (w : Constant) → test ≡ ValueTest.Constant c w → ConstantRank h q w r → TestRank h q test r
  unfolding TestRank
  rank_constant c w e f = rw e f

  pub rank_reference : (c : SurfaceComparator) (s : Split) (x : Bytes) → test ≡ ValueTest.Reference c s → x ≡ part q s.article.start s.article.len → RankOf h x r → TestRank h q test r
  unfolding TestRank
  rank_reference c s x e lies f = rw (e, ← lies) f

-- By the rank, where it tells, and by the bytes
module _ (h x : Bytes) (r : Rank) (n : ℕ) (o : Ordering) where
  pub order_ranked : n < r.plain → o ≡ numbers (1 + 2 * n) r.key → o ≡ name_order h x r n
  unfolding name_order
  order_ranked l g = rw (lt-ltb n r.plain l) g

  pub order_compared : r.plain ≤ n → o ≡ order_of (name_of (text_at h n)) x → o ≡ name_order h x r n
  unfolding name_order
  order_compared l g = rw (le-ltb n r.plain l) g

pub ruleset ordering = (key_past, key_at_lem, key_none, rank_few, rank_many, rank_scalar, rank_string, rank_constant, rank_reference)

-- Of an opened register, by rank or not, the name of a text stands to x as it does.
pub name_order_lem : {h : Bytes} {R : Register} (d : Known h R) (x : Bytes) (r : Rank) → RankOf h x r → (t : Bytes) → Memᴰ t (texts_of R) → (s y : Bytes) → t ≡ labelled s y → name_order h x r (rank order_of t (texts_of R)) ≡ order_of y x
unfolding name_order RankOf
name_order_lem {h} {R} d x r f t m s y e =
    let n = rank order_of t (texts_of R) in
    let inside : n < length (texts_of R) = number_small (texts_of R) (texts_up R) t m in
    let at : get_or (texts_of R) n [] ≡ labelled s y = number_back (texts_of R) (texts_up R) t m ∙ e in
    by_test (ltb n r.plain)
    (λ b. rw b (f (rw (texts_are d) (texts_up R)) n (rw (texts_are d) inside) (ltb-true n r.plain b) s y (rw (texts_are d) at)))
    (λ b. rw b (ap (λ (z : Bytes). order_of (name_of z) x) (text_row d n inside ∙ at) ∙ ap (λ (z : Bytes). order_of z x) (name_back s y)))

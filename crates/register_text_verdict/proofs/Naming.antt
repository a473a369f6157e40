-- What rows declare, as parts of the text: entries are alike exactly where these are equal.
use Rattle.std.specs.Prelude.{Option, Some, None}
use Prim.Native.Nat.{ℕ, ◌+◌, ◌-◌, ◌%◌, ◌≤◌, ◌<◌}
use mathlib.Core.Path.{◌≡◌, refl, sym, ap, ap₂, ◌∙◌}
use mathlib.Core.Bool.{Bool, true, false, not, ◌&&◌, ◌||◌, false≢true, and-false}
use mathlib.Core.List.{List, [], ◌∷◌, ◌++◌, append_assoc}
use native.Mathlib.Nat.{mod-eq_of_lt}
use native.Mathlib.Decide.{ℕ_discrete}
use native.Mathlib.Omega.{arith}
use borrow.Author.Tests.{eqb-true, ltb-false, not-false}
use lib.Dec.{ltb, eqb}
use lib.ListN.{length, take, drop, get_or, set, length-set}
use lib.Seq.{take-add, drop-drop, get_or-set_same, get_or-set_other}
use Rattle.text.specs.Bytes.{Bytes, bytes, same, all, span, starts, order_of}
use Rattle.text.specs.Class.{is_quotable}
use Rattle.text.specs.Parts.{part_of}
use Rattle.text.specs.declared.Span.{Span}
use Rattle.text.proofs.Laws.{same_eq, same_refl, eq_order, order_eq, starts_is, word_end, all_append}
use Rattle.language.specs.RegisterText.{Entry, prop, page, cat, val, close, same_declared}
use Rattle.language.proofs.Members.{and_true, or_false, both_true}
use Rattle.sorting.specs.Ascending.{is_equal}
use Rattle.sorting.proofs.Canonical.{same_truth, equal_is}
use Rattle.dictionary.specs.Items.{text_at}
use Rattle.register_text_entries.specs.Items.{entry_in}
use Rattle.register_text_entries.specs.Table.{entry_at}
use Rattle.register_text_entries.specs.declared.Tag.{Tag}
use Rattle.register_text_entries.specs.declared.Item.{Item}
use Rattle.register_text_verdict.specs.Names.{Closed, declared, is_plain, Joins, TellsName, Pieces, Names}

-- The bytes that a scan passes pass its test.
passed : (p : ℕ → Bool) (s : Bytes) → all p (take (span p s) s) ≡ true
unfolding all span
passed p [] = refl
passed p (b ∷ s) = go (p b) refl (passed p s)
  where
    go : (t : Bool) → p b ≡ t → all p (take (span p s) s) ≡ true → all p (take (span p (b ∷ s)) (b ∷ s)) ≡ true
    go true e ih = rw (e, span, e) ih
    go false e ih = rw (e, span)

pub closed_is : (s w : Bytes) (p : Span) (end : ℕ) (b : Bool) → end ≡ p.start + span is_quotable (drop p.start s) → b ≡ starts w (drop end s) → eqb (end - p.start) p.len && b ≡ true → Closed s p w
closed_is s w p end b e f h =
    let both = and_true (eqb (end - p.start) p.len) b h in
    let l : p.len ≡ span is_quotable (drop p.start s) = omega (arith, eqb-true (end - p.start) p.len both.0) in
    let stop : p.start + p.len ≡ end = omega arith in
    record { plain = rw l (passed is_quotable (drop p.start s)); behind = rw stop (sym f ∙ both.1) }

-- The part from the start of a to the end of b.
module _ (s : Bytes) (a b : Span) (t : Bool) (k : t ≡ true → Closed s a (bytes "\" \"")) (h : not t ≡ false) where
  closed : Closed s a (bytes "\" \"")
  closed = k (not-false t h)

  pub joined_fits : a.start + a.len + 3 ≤ length s
  joined_fits = word_end (bytes "\" \"") s (a.start + a.len) (omega arith) closed.behind

  pub joined_is : b.start ≡ a.start + a.len + 3 → b.len ≤ length s - (a.start + a.len + 3) → Joins s a b (Some (record { start = a.start; len = a.len + 3 + b.len }))
  joined_is e l =
      record {
        plain = closed.plain;
        is =
            take-add (a.len + 3) b.len (drop a.start s)
            ∙ ap₂ ◌++◌
            (take-add a.len 3 (drop a.start s)
            ∙ ap (λ z. part_of s a ++ take 3 z) (drop-drop a.len a.start s)
            ∙ ap (λ z. part_of s a ++ z) (starts_is (bytes "\" \"") (drop (a.start + a.len) s) closed.behind))
            (ap (take b.len) (drop-drop (a.len + 3) a.start s ∙ ap (λ z. drop z s) place))
            ∙ append_assoc (part_of s a) (bytes "\" \"") (part_of s b);
        within = omega (arith, joined_fits);
      }
    where
      place : a.start + (a.len + 3) ≡ b.start
      place = omega arith

-- The part that says what an entry declares.
module _ (s : Bytes) (i : Item) where
  pub piece_prop : i.tag ≡ Tag.Prop → (t : Bool) → (t ≡ true → Closed s i.first (bytes "\"")) → t ≡ true → Pieces s (entry_in s i) (Some i.first)
  piece_prop e t k h =
      let c = k h in
      let l : i.first.start + i.first.len + 1 ≤ length s = word_end (bytes "\"") s (i.first.start + i.first.len) (omega arith) c.behind in
      rw e (record { plain = c.plain; is = refl; within = omega arith })

  pub piece_page : i.tag ≡ Tag.Page → (q : Option Span) → Joins s i.first i.second q → Pieces s (entry_in s i) q
  piece_page e (Some p) j = rw e (record { plain = j.plain; is = j.is; within = j.within })
  piece_page e None j = tt

pub ruleset piece = (piece_prop, piece_page)

-- The tables of the parts after k rows; o and l are what they were.
pub record Listing (s : Bytes) (t rows : List ℕ) (m : ℕ) (o l starts lens : List ℕ) (k : ℕ) : Type 0 where
  pub below : k ≤ m
  pub sizes : (length starts ≡ length o) × (length lens ≡ length l)
  pub names : Names s t rows k starts lens

pub listing_none : (s : Bytes) (t rows : List ℕ) (m : ℕ) (o l : List ℕ) → Listing s t rows m o l o l 0
listing_none s t rows m o l =
    record {
      below = omega arith;
      sizes = (refl, refl);
      names = record {
        room = omega arith;
        plain = λ j h. absurd (omega arith);
        is = λ j h. absurd (omega arith);
      };
    }

module _ (s : Bytes) (t rows : List ℕ) (m : ℕ) (o l starts lens : List ℕ) (k : ℕ) (old : Listing s t rows m o l starts lens k) where
  pub listing_all : m ≤ k → Names s t rows m starts lens
  listing_all h = let e : k ≡ m = omega (arith, old.below) in rw e at old.names

  module _ (room : ltb 65535 (length s) || ltb (length o) m || ltb (length l) m ≡ false) (lt : k < m) (row : ℕ) (e : row ≡ get_or rows k 0) (x : Item) (f : (s : Bytes) → entry_in s x ≡ entry_at s t row)
      (r : Option Span) (g : Pieces s (entry_in s x) r) (a : Span) (h : r ≡ Some a) (u v : List ℕ) (hu : u ≡ set starts k (a.start % 65536)) (hv : v ≡ set lens k (a.len % 65536)) where
    fits : (length s ≤ 65535) × (m ≤ length starts) × (m ≤ length lens)
    fits =
        let all = or_false (ltb 65535 (length s) || ltb (length o) m) (ltb (length l) m) room in
        let two = or_false (ltb 65535 (length s)) (ltb (length o) m) all.0 in
        (ltb-false 65535 (length s) two.0, omega (arith, ltb-false (length o) m two.1, old.sizes.0), omega (arith, ltb-false (length l) m all.1, old.sizes.1))

    told : TellsName s (entry_at s t (get_or rows k 0)) a
    told = rw (f s ∙ ap (entry_at s t) e, h) at g

    start_is : get_or u k 0 ≡ a.start
    start_is =
        ap (λ z. get_or z k 0) hu
        ∙ get_or-set_same starts k (a.start % 65536) 0 (omega (arith, fits.1))
        ∙ mod-eq_of_lt (omega (arith, fits.0, told.within))

    len_is : get_or v k 0 ≡ a.len
    len_is =
        ap (λ z. get_or z k 0) hv
        ∙ get_or-set_same lens k (a.len % 65536) 0 (omega (arith, fits.2))
        ∙ mod-eq_of_lt (omega (arith, fits.0, told.within))

    other : (j : ℕ) → (j ≡ k → ⊥) → text_at s u v j ≡ text_at s starts lens j
    unfolding text_at
    other j w = rw (hu, hv, get_or-set_other starts k j (a.start % 65536) 0 w, get_or-set_other lens k j (a.len % 65536) 0 w)

    this : text_at s u v k ≡ declared (entry_at s t (get_or rows k 0))
    unfolding text_at
    this = rw (start_is, len_is) told.is

    pub listing_more : Listing s t rows m o l u v (k + 1)
    listing_more =
        let p : length u ≡ length starts = ap length hu ∙ length-set starts k (a.start % 65536) in
        let q : length v ≡ length lens = ap length hv ∙ length-set lens k (a.len % 65536) in
        record {
          below = omega arith;
          sizes = (p ∙ old.sizes.0, q ∙ old.sizes.1);
          names = record {
            room = omega (arith, fits.1);
            plain = λ j b. elim (ℕ_discrete j k) [ yes w ↦ rw w told.plain | no w ↦ old.names.plain j (omega (arith, w)) ];
            is = λ j b. elim (ℕ_discrete j k) [ yes w ↦ rw w this | no w ↦ other j w ∙ old.names.is j (omega (arith, w)) ];
          };
        }

-- Two texts that a byte cuts, which the test refuses and all before it pass, are cut alike.
cut : (p : ℕ → Bool) (c : ℕ) → p c ≡ false → (n m x y : Bytes) → all p n ≡ true → all p m ≡ true → n ++ (c ∷ x) ≡ m ++ (c ∷ y) → (n ≡ m) × (x ≡ y)
unfolding all
cut p c z [] [] x y f g e = (refl, cc)
cut p c z [] (b ∷ m) x y f g e =
    let k : c ≡ b = cc in
    absurd (false≢true (sym z ∙ ap p k ∙ (and_true (p b) (all p m) g).0))
cut p c z (b ∷ n) [] x y f g e =
    let k : c ≡ b = cc in
    absurd (false≢true (sym z ∙ ap p k ∙ (and_true (p b) (all p n) f).0))
cut p c z (b ∷ n) (d ∷ m) x y f g e =
    let k : b ≡ d = cc in
    let l : n ++ (c ∷ x) ≡ m ++ (c ∷ y) = cc in
    let ih = cut p c z n m x y (and_true (p b) (all p n) f).1 (and_true (p d) (all p m) g).1 l in
    let ih₀ = ih.0 in
    (cc, ih.1)

-- A text with such a byte does not pass.
uncut : (p : ℕ → Bool) (c : ℕ) → p c ≡ false → (n x : Bytes) → all p (n ++ (c ∷ x)) ≡ false
unfolding all
uncut p c z n x = all_append p n (c ∷ x) ∙ rw z (and-false (all p n))

no_quote : is_quotable 34 ≡ false
unfolding is_quotable
no_quote = refl

same_order : (x y : Bytes) → same x y ≡ is_equal (order_of y x)
same_order x y =
    same_truth (same x y) (is_equal (order_of y x)) (λ h. ap is_equal (eq_order y x (sym (same_eq x y h))))
    (λ h. rw (order_eq y x (equal_is (order_of y x) h)) (same_refl x))

differ : (x y : Bytes) → all is_quotable x ≡ true → all is_quotable y ≡ false → (x ≡ y → ⊥)
differ x y f g e = false≢true (sym g ∙ ap (all is_quotable) (sym e) ∙ f)

unequal : (x y : Bytes) → (y ≡ x → ⊥) → false ≡ is_equal (order_of y x)
unequal x y n = same_truth false (is_equal (order_of y x)) (λ h. absurd (false≢true h)) (λ h. absurd (n (order_eq y x (equal_is (order_of y x) h))))

-- Entries are alike exactly where what they declare is one text.
pub alike_text : (d e : Entry) → is_plain d ≡ true → is_plain e ≡ true → same_declared d e ≡ is_equal (order_of (declared e) (declared d))
alike_text (prop x k) (prop y l) f g = same_order x y
alike_text (prop x k) (page m y) f g =
    unequal x (declared (page m y)) (λ q. differ x (declared (page m y)) f (uncut is_quotable 34 no_quote m (32 ∷ 34 ∷ y)) (sym q))
alike_text (prop x k) (cat y) f g = absurd (false≢true g)
alike_text (prop x k) (val y w) f g = absurd (false≢true g)
alike_text (prop x k) close f g = absurd (false≢true g)
alike_text (page n x) (prop y l) f g =
    unequal (declared (page n x)) y (differ y (declared (page n x)) g (uncut is_quotable 34 no_quote n (32 ∷ 34 ∷ x)))
alike_text (page n x) (page m y) f g =
    same_truth (same n m && same x y) (is_equal (order_of (declared (page m y)) (declared (page n x))))
    (λ h.
    let both = and_true (same n m) (same x y) h in
    ap is_equal (eq_order (declared (page m y)) (declared (page n x)) (sym (ap₂ (λ a b. declared (page a b)) (same_eq n m both.0) (same_eq x y both.1)))))
    (λ h.
    let q = cut is_quotable 34 no_quote m n (32 ∷ 34 ∷ y) (32 ∷ 34 ∷ x) g f (order_eq (declared (page m y)) (declared (page n x)) (equal_is (order_of (declared (page m y)) (declared (page n x))) h)) in
    let rest = q.1 in
    let k : y ≡ x = cc in
    both_true {a = same n m} {b = same x y} (rw q.0 (same_refl n)) (rw k (same_refl x)))
alike_text (page n x) (cat y) f g = absurd (false≢true g)
alike_text (page n x) (val y w) f g = absurd (false≢true g)
alike_text (page n x) close f g = absurd (false≢true g)
alike_text (cat x) e f g = absurd (false≢true f)
alike_text (val x v) e f g = absurd (false≢true f)
alike_text close e f g = absurd (false≢true f)

-- Texts, terms and codes come back from what they are made of.
use Prim.Native.Nat.{ℕ, suc, ◌<◌, ◌^◌}
use mathlib.Core.Path.{◌≡◌, refl, sym, ap, ap₂}
use mathlib.Core.Bool.{true}
use mathlib.Core.List.{List, [], ◌∷◌, ◌++◌, Memᴰ}
use native.Mathlib.Omega.{arith}
use lib.ListN.{length, take, drop, take-append-drop}
use lib.Seq.{take-append_seam, drop-append_seam, length-take-le}
use borrow.Author.Tests.{ltb-true, eqb-true, lt-ltb}
use Rattle.text.specs.Bytes.{Bytes, order_of}
use Rattle.values.specs.Values.{scalar, string, Value, plain, link, kind_of}
use Rattle.values.proofs.AllKinds.{range_small}
use Rattle.language.specs.Rules.{is_storable}
use Rattle.sorting.specs.Ascending.{ascends}
use Rattle.register_form.specs.Dictionary.{labelled, space_of, name_of, value_from}
use Rattle.register_form.specs.Encoding.{plain_text, identifier_text, value_texts, value_code}
use Rattle.register_form.specs.Tests.{is_labelled, is_plain}
use Rattle.register_form.proofs.Lists.{number_back, number_small}

-- Texts.
pub space_back : (n x : Bytes) → space_of (labelled n x) ≡ n
unfolding space_of labelled
space_back n x = take-append_seam n x

pub name_back : (n x : Bytes) → name_of (labelled n x) ≡ x
unfolding name_of labelled
name_back n x = drop-append_seam n x

pub text_back : (t : Bytes) → is_labelled t ≡ true → labelled (space_of t) (name_of t) ≡ t
unfolding is_labelled labelled space_of name_of
text_back [] h = absurd (omega (arith, ltb-true 0 0 h))
text_back (b ∷ s) h =
    let e : length (take b s) ≡ b = length-take-le b s (omega (arith, ltb-true b (suc (length s)) h)) in
    ap₂ (λ (n : ℕ) (l : Bytes). n ∷ l) e (take-append-drop b s)

pub plain_back : (t : Bytes) → is_labelled t ≡ true → is_plain t ≡ true → plain_text (name_of t) ≡ t
unfolding is_labelled labelled name_of
plain_back [] h p = absurd (omega (arith, ltb-true 0 0 h))
plain_back (b ∷ s) h p =
    let e : b ≡ 0 = eqb-true b 0 p in
    ap₂ (λ (n : ℕ) (l : Bytes). n ∷ l) (sym e) (ap (λ (n : ℕ). drop n s) e)

pub plain_plain : (x : Bytes) → is_plain (plain_text x) ≡ true
unfolding labelled
plain_plain x = refl

pub labelled_is : (n x : Bytes) → is_labelled (labelled n x) ≡ true
unfolding labelled is_labelled
labelled_is n x = lt-ltb (length n) (suc (length (n ++ x))) (omega (arith, lib.ListN.length-append n x))

-- Values, by an ascending list that has their texts.
module _ (l : List Bytes) (up : ascends order_of l ≡ true) where
  pub value_back : (v : Value) → is_storable v ≡ true → ((t : Bytes) → Memᴰ t (value_texts v) → Memᴰ t l) → value_from l (kind_of v) (value_code l v) ≡ v
  unfolding value_code value_texts is_storable
  value_back (plain (scalar j c)) s k = refl
  value_back (plain (string x)) s k = rw (number_back l up (plain_text x) (k (plain_text x) (Memᴰ.head refl)), name_back [] x)
  value_back (link i) s k =
      rw (number_back l up (identifier_text i) (k (identifier_text i) (Memᴰ.head refl)), space_back i.namespace i.article, name_back i.namespace i.article)

  pub code_small : (v : Value) → is_storable v ≡ true → length l < 65536 → ((t : Bytes) → Memᴰ t (value_texts v) → Memᴰ t l) → value_code l v < 2 ^ 64
  unfolding value_code value_texts is_storable
  code_small (plain (scalar j c)) s few k = range_small j c s
  code_small (plain (string x)) s few k = omega (arith, number_small l up (plain_text x) (k (plain_text x) (Memᴰ.head refl)))
  code_small (link i) s few k = omega (arith, number_small l up (identifier_text i) (k (identifier_text i) (Memᴰ.head refl)))

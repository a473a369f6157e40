-- Names, references, values and heads as they are written are clean, and read back as what they are.
use Prim.Native.Nat.{ℕ, suc, ◌+◌, ◌<◌}
use mathlib.Core.Path.{◌≡◌, refl, ap, ap₂, ◌∙◌}
use mathlib.Core.Bool.{Bool, true, false, not, ◌&&◌, ◌||◌, true≢false, false≢true}
use mathlib.Core.List.{[], ◌∷◌, ◌++◌, append_assoc}
use native.Mathlib.Omega.{arith}
use lib.Dec.{eqb, eqb-suc-zero}
use lib.ListN.{length, length-append}
use lib.Seq.{take-append_seam, drop-append-add}
use borrow.Author.Tests.{lt-ltb, le-ltb}
use Rattle.text.specs.Bytes.{Bytes, bytes, any, all, same, is_blank, span, trim_end, trim}
use Rattle.text.specs.Class.{one_of, is_free, is_name_byte, is_value_byte, is_other}
use Rattle.text.proofs.Laws.{all_append, all_span}
use Rattle.names.specs.Names.{is_sized, last, is_name, is_property_name, is_namespace}
use Rattle.names.proofs.Composed.{name_keeps}
use Rattle.values.specs.Names.{Reference, bare, qualified, reference, is_reference, is_value}
use Rattle.language.specs.Comparators.{word, is_equal}
use Rattle.language.specs.Surface.{Chain, single, chain}
use Rattle.language.specs.RawQuery.{split_dots, trim_names}
use Rattle.language.specs.QueryText.{breaks_names}
use Rattle.language.proofs.EachComparator.{word_no_colon}
use Rattle.language.proofs.Members.{and_true, or_false, both_true}
use Rattle.language.specs.declared.SurfaceComparator.{SurfaceComparator}
use Rattle.query_tree_spelling.specs.Spelled.{spelled_value}
use Rattle.query_tree_spelling.specs.Spelling.{compared, reference_text, unread_piece, unread_chain}
use Rattle.query_tree_spelling.proofs.Texts.{all_in, not_not, name_free, value_free, name_colon, span_part, trim_end_none, trim_end_behind, trim_none, no_head, no_head_colon, head_reads}
use Rattle.query_tree_spelling.proofs.Reading.{CleanText, CleanHead, CleanFirst}

-- What a name is.
pub record Named (b : ℕ) (t : Bytes) : Type 0 where
  pub bytes : all is_name_byte (b ∷ t) ≡ true
  pub no_mark : one_of "!~+" b ≡ false
  pub no_blank : is_blank b ≡ false
  pub ends : trim_end (b ∷ t) ≡ b ∷ t

pub no_name : is_name [] ≡ true → ⊥
no_name h = omega (arith, (name_keeps [] h).filled)

pub named : (b : ℕ) (t : Bytes) → is_name (b ∷ t) ≡ true → Named b t
named b t h =
    let n = name_keeps (b ∷ t) h in
    record { bytes = n.among; no_mark = n.unmarked; no_blank = n.begun; ends = trim_end_none (b ∷ t) n.ended }

pub no_bang : (b : ℕ) → one_of "!~+" b ≡ false → (eqb b 33 ≡ false) × (eqb b 43 ≡ false)
unfolding any
no_bang b h =
    let e0 = or_false (eqb b 33) _ h in
    let e1 = or_false (eqb b 126) _ e0.1 in
    let e2 = or_false (eqb b 43) _ e1.1 in
    (e0.0, e2.0)

pub name_clean : (c : SurfaceComparator) (x : Bytes) → is_name x ≡ true → CleanText c x
name_clean c [] h = no_name h
name_clean c (b ∷ t) h = let n = named b t h in (n.no_blank, all_in name_free (b ∷ t) n.bytes, n.ends, λ e. (no_bang b n.no_mark).0)

pub name_trims : (x : Bytes) → is_name x ≡ true → trim x ≡ x
name_trims [] h = absurd (no_name h)
name_trims (b ∷ t) h = let n = named b t h in trim_none b t n.no_blank n.ends

pub name_no_colon : (x : Bytes) → is_name x ≡ true → all (is_other 58) x ≡ true
name_no_colon [] h = absurd (no_name h)
name_no_colon (b ∷ t) h = all_in name_colon (b ∷ t) (named b t h).bytes

pub name_no_plus : (x : Bytes) → is_name x ≡ true → same x (bytes "+") ≡ false
unfolding same
name_no_plus [] h = absurd (no_name h)
name_no_plus (b ∷ t) h = rw (no_bang b (named b t h).no_mark).1

-- Namespaces.
pub namespace_is : (b : ℕ) (n : Bytes) → is_namespace (b ∷ n) ≡ true → is_name (b ∷ n) ≡ true
unfolding is_namespace
namespace_is b n h = rw (eqb-suc-zero (length n)) at h

pub namespace_trims : (n : Bytes) → is_namespace n ≡ true → trim n ≡ n
unfolding trim trim_end span
namespace_trims [] h = refl
namespace_trims (b ∷ n) h = name_trims (b ∷ n) (namespace_is b n h)

pub namespace_no_colon : (n : Bytes) → is_namespace n ≡ true → all (is_other 58) n ≡ true
unfolding all
namespace_no_colon [] h = refl
namespace_no_colon (b ∷ n) h = name_no_colon (b ∷ n) (namespace_is b n h)

-- A namespace, a colon and a text.
module _ (c : SurfaceComparator) (n : Bytes) (h : is_namespace n ≡ true) (b : ℕ) (x : Bytes) where
  pub colon_clean : all is_free (b ∷ x) ≡ true → trim_end (b ∷ x) ≡ b ∷ x → CleanText c (n ++ (58 ∷ b ∷ x))
  unfolding all is_free any
  colon_clean f e = go n h
    where
      tail : trim_end (58 ∷ b ∷ x) ≡ 58 ∷ b ∷ x
      tail = trim_end_behind (58 ∷ []) b x e

      go : (n : Bytes) → is_namespace n ≡ true → CleanText c (n ++ (58 ∷ b ∷ x))
      go [] h = (refl, f, tail, λ e. refl)
      go (y ∷ n) h =
          let k = named y n (namespace_is y n h) in
          (k.no_blank, all_append is_free (y ∷ n) (58 ∷ b ∷ x) ∙ both_true (all_in name_free (y ∷ n) k.bytes) f, trim_end_behind (y ∷ n) 58 (b ∷ x) tail, λ e. (no_bang y k.no_mark).0)

pub plain_first : (c : SurfaceComparator) (x : Bytes) → all (is_other 58) x ≡ true → CleanFirst (compared c x)
unfolding unread_piece compared
plain_first c x h = record { headless = λ s e. no_head (word c) (x ++ s) (word_no_colon c) (no_head x s h e) }

pub colon_first : (c : SurfaceComparator) (n : Bytes) (b : ℕ) (x : Bytes) → all (is_other 58) n ≡ true → all (is_other 58) (b ∷ x) ≡ true → CleanFirst (compared c (n ++ (58 ∷ b ∷ x)))
unfolding unread_piece compared all
colon_first c n b x h k =
    record {
      headless = λ s e.
          rw (append_assoc n (58 ∷ b ∷ x) s)
          (no_head (word c) (n ++ (58 ∷ b ∷ (x ++ s))) (word_no_colon c)
          (no_head n (58 ∷ b ∷ (x ++ s)) h
          (no_head_colon b (x ++ s) (not_not (eqb b 58) (and_true (is_other 58 b) (all (is_other 58) x) k).0) (no_head (b ∷ x) s k e))));
    }

-- How references read.
pub reads_qualified : (n x : Bytes) → all (is_other 58) n ≡ true → reference (n ++ (58 ∷ x)) ≡ qualified (trim n) (trim x)
unfolding reference span
reads_qualified n x h =
    let s = n ++ (58 ∷ x) in
    let e : span (is_other 58) s ≡ length n = span_part (is_other 58) n (58 ∷ x) h refl in
    let l : length n < length s = omega (arith, length-append n (58 ∷ x)) in
    let k : suc (length n) ≡ length n + 1 = omega arith in
    rw (e, lt-ltb (length n) (length s) l, take-append_seam n (58 ∷ x), k, drop-append-add n (58 ∷ x) 1)

pub reads_bare : (x : Bytes) → all (is_other 58) x ≡ true → reference x ≡ bare (trim x)
unfolding reference
reads_bare x h = rw (all_span (is_other 58) x h, le-ltb (length x) (length x) (omega arith))

pub reads_reference : (r : Reference) → is_reference r ≡ true → reference (reference_text r) ≡ r
unfolding reference_text
reads_reference (bare x) h = reads_bare x (name_no_colon x h) ∙ ap bare (name_trims x h)
reads_reference (qualified n x) h =
    let k = and_true (is_namespace n) (is_name x) h in
    reads_qualified n x (namespace_no_colon n k.0) ∙ ap₂ qualified (namespace_trims n k.0) (name_trims x k.1)

pub reads_plus : (n : Bytes) → is_namespace n ≡ true → reference (n ++ bytes ":+") ≡ qualified n (bytes "+")
unfolding trim trim_end span
reads_plus n h = reads_qualified n (bytes "+") (namespace_no_colon n h) ∙ ap (λ (m : Bytes). qualified m (bytes "+")) (namespace_trims n h)

-- Values.
pub value_clean : (c : SurfaceComparator) (v : Bytes) → spelled_value c v ≡ true → CleanText c v
unfolding spelled_value is_value all
value_clean c [] h = false≢true h
value_clean c (b ∷ t) h =
    let s = b ∷ t in
    let k = and_true (is_value s) (not (is_equal c && (eqb b 33 || same s (bytes "+")))) h in
    let e0 = and_true (is_sized s && all is_value_byte s && not (eqb b 126) && not (is_blank b)) (not (is_blank (last s))) k.0 in
    let e1 = and_true (is_sized s && all is_value_byte s && not (eqb b 126)) (not (is_blank b)) e0.0 in
    let e2 = and_true (is_sized s && all is_value_byte s) (not (eqb b 126)) e1.0 in
    let e3 = and_true (is_sized s) (all is_value_byte s) e2.0 in
    (not_not (is_blank b) e1.1, all_in value_free s e3.1, trim_end_none s (not_not (is_blank (last s)) e0.1), λ e. (or_false (eqb b 33) (same s (bytes "+")) (rw e at (not_not (is_equal c && (eqb b 33 || same s (bytes "+"))) k.1))).0)

-- Heads.
property_name : (x : Bytes) → not (is_property_name x) ≡ false → (is_name x ≡ true) × (all (is_other 46) x ≡ true)
unfolding is_property_name
property_name x h = go (is_name x) (all (is_other 46) x) h
  where
    go : (a b : Bool) → not (a && b) ≡ false → (a ≡ true) × (b ≡ true)
    go true true h = (refl, refl)
    go true false h = absurd (true≢false h)
    go false b h = absurd (true≢false h)

split_last : (x : Bytes) → all (is_other 46) x ≡ true → split_dots x ≡ single x
unfolding split_dots all
split_last [] h = refl
split_last (b ∷ x) h = let k = and_true (is_other 46 b) (all (is_other 46) x) h in rw (not_not (eqb b 46) k.0, split_last x k.1)

split_dot : (x r : Bytes) → all (is_other 46) x ≡ true → split_dots (x ++ (46 ∷ r)) ≡ chain x (split_dots r)
unfolding split_dots all
split_dot [] r h = refl
split_dot (b ∷ x) r h = let k = and_true (is_other 46 b) (all (is_other 46) x) h in rw (not_not (eqb b 46) k.0, split_dot x r k.1)

chain_all : (p : ℕ → Bool) → p 46 ≡ true → ((x : Bytes) → is_name x ≡ true → all p x ≡ true) → (c : Chain) → breaks_names c ≡ false → all p (unread_chain c) ≡ true
unfolding unread_chain breaks_names all
chain_all p d f (single x) h = f x (property_name x h).0
chain_all p d f (chain x c) h =
    let k = or_false (not (is_property_name x)) (breaks_names c) h in
    all_append p x (46 ∷ unread_chain c) ∙ both_true (f x (property_name x k.0).0) (both_true d (chain_all p d f c k.1))

chain_splits : (c : Chain) → breaks_names c ≡ false → trim_names (split_dots (unread_chain c)) ≡ c
unfolding unread_chain breaks_names trim_names
chain_splits (single x) h = let k = property_name x h in ap trim_names (split_last x k.1) ∙ ap single (name_trims x k.0)
chain_splits (chain x c) h =
    let k = or_false (not (is_property_name x)) (breaks_names c) h in
    let e = property_name x k.0 in
    ap trim_names (split_dot x (unread_chain c) e.1) ∙ ap₂ chain (name_trims x e.0) (chain_splits c k.1)

name_is_free : (x : Bytes) → is_name x ≡ true → all is_free x ≡ true
name_is_free [] h = absurd (no_name h)
name_is_free (b ∷ t) h = all_in name_free (b ∷ t) (named b t h).bytes

pub head_clean : (c : Chain) → breaks_names c ≡ false → CleanHead c
unfolding is_free any
head_clean c h =
    let f = chain_all is_free refl name_is_free c h in
    record { head = λ s. head_reads (unread_chain c) s f (chain_all (is_other 58) refl name_no_colon c h); free = f; names = chain_splits c h }

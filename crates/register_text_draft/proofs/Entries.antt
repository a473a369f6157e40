-- The entries of an accepted text: inner forms stand inside pages, and each val's value is one of its property's kind.
use Rattle.std.specs.Prelude.{Option, Some, None}
use Prim.Native.Nat.{ℕ, zero, suc, ◌≤◌}
use mathlib.Core.Path.{◌≡◌, refl, sym, ap, ◌∙◌, subst}
use mathlib.Core.Bool.{Bool, true, false, ◌&&◌, ◌||◌, true≢false}
use mathlib.Core.List.{List, [], ◌∷◌, Memᴰ}
use native.Mathlib.Omega.{arith}
use lib.Dec.{eqb}
use lib.ListN.{length}
use borrow.Author.Tests.{eqb-true, not-false}
use Rattle.text.specs.Bytes.{Bytes, bytes, after}
use Rattle.values.specs.declared.Kind.{Kind}
use Rattle.names.specs.Names.{is_composed_name, is_composed_property_name, is_composed_namespace}
use Rattle.values.specs.Names.{is_value}
use Rattle.values.specs.Values.{Value, read_value}
use Rattle.values.proofs.Laws.{read_kind}
use Rattle.names.proofs.Composed.{composed_named}
use Rattle.language.specs.Answer.{◌>>=◌, found}
use Rattle.language.specs.Register.{Property, kind_among}
use Rattle.language.specs.RegisterText.{Entry, prop, page, cat, val, close, Place, line, inner, Read, quoted, kind_word_at, prop_form, page_form, cat_form, val_form, closing, next_entry, entries_within, entries_from, entries, composed_entries, properties, value_of, is_unfit}
use Rattle.language.proofs.Options.{OnSome, on_bind, on_found}
use Rattle.language.proofs.Members.{and_true, any_at}
use Rattle.language.proofs.Accepted.{read_storable, breaks_composed, rule_composed}
use Rattle.language.proofs.Registers.{Passed}
use Rattle.register_text_draft.specs.Sizes.{Valued, Good}

-- Entries from a place of kind p on.
pub data Placed : Place → List Entry → Type 0 where
  done : Placed line []
  a_prop : {x : Bytes} {k : Kind} {l : List Entry} → Placed line l → Placed line (prop x k ∷ l)
  a_page : {n x : Bytes} {l : List Entry} → Placed inner l → Placed line (page n x ∷ l)
  a_cat : {x : Bytes} {l : List Entry} → Placed inner l → Placed inner (cat x ∷ l)
  a_val : {x v : Bytes} {l : List Entry} → Placed inner l → Placed inner (val x v ∷ l)
  a_close : {l : List Entry} → Placed line l → Placed inner (close ∷ l)

-- An entry that may stand before others.
abbrev Leads : Place → Read → Type 0
Leads p r = (l : List Entry) → Placed r.place l → Placed p (r.entry ∷ l)

-- Whatever is read first.
module _ (p : Place) where
  after_any : {A : Type 0} (o : Option A) (f : A → Option Read) → ((a : A) → OnSome (Leads p) (f a)) → OnSome (Leads p) (o >>= f)
  after_any None f h = tt
  after_any (Some a) f h = h a

  after_word_lem : (w s : Bytes) (f : Bytes → Option Read) → ((r : Bytes) → OnSome (Leads p) (f r)) → OnSome (Leads p) (after w s >>= f)
  after_word_lem w s f h = after_any (after w s) f h

  after_quoted : (s : Bytes) (f : Bytes × Bytes → Option Read) → ((r : Bytes × Bytes) → OnSome (Leads p) (f r)) → OnSome (Leads p) (quoted s >>= f)
  after_quoted s f h = after_any (quoted s) f h

leads_prop : (s : Bytes) → OnSome (Leads line) (prop_form s)
unfolding prop_form
leads_prop s =
    after_word_lem line (bytes "(prop ") s _ λ r₁.
    after_quoted line r₁ _ λ r₂.
    after_word_lem line (bytes " ") r₂.1 _ λ r₃.
    after_any line (kind_word_at r₃) _ λ r₄.
    after_word_lem line (bytes ")\n") r₄.1 _ λ r₅. λ l m. a_prop m

leads_page : (s : Bytes) → OnSome (Leads line) (page_form s)
unfolding page_form
leads_page s =
    after_word_lem line (bytes "(page ") s _ λ r₁.
    after_quoted line r₁ _ λ r₂.
    after_word_lem line (bytes " ") r₂.1 _ λ r₃.
    after_quoted line r₃ _ λ r₄. λ l m. a_page m

leads_cat : (s : Bytes) → OnSome (Leads inner) (cat_form s)
unfolding cat_form
leads_cat s =
    after_word_lem inner (bytes " (cat ") s _ λ r₁.
    after_quoted inner r₁ _ λ r₂.
    after_word_lem inner (bytes ")") r₂.1 _ λ r₃. λ l m. a_cat m

leads_val : (s : Bytes) → OnSome (Leads inner) (val_form s)
unfolding val_form
leads_val s =
    after_word_lem inner (bytes " (val ") s _ λ r₁.
    after_quoted inner r₁ _ λ r₂.
    after_word_lem inner (bytes " ") r₂.1 _ λ r₃.
    after_quoted inner r₃ _ λ r₄.
    after_word_lem inner (bytes ")") r₄.1 _ λ r₅. λ l m. a_val m

leads_close : (s : Bytes) → OnSome (Leads inner) (closing s)
unfolding closing
leads_close s = after_word_lem inner (bytes ")\n") s _ λ r₁. λ l m. a_close m

leads : (p : Place) (s : Bytes) → OnSome (Leads p) (next_entry p s)
unfolding next_entry
leads line s = on_found (Leads line) (Leads line) (prop_form s) Some (page_form s) (leads_prop s) (λ r h. h) (leads_page s)
leads inner s =
    on_found (Leads inner) (Leads inner) (cat_form s) Some _ (leads_cat s) (λ r h. h)
    (on_found (Leads inner) (Leads inner) (val_form s) Some (closing s) (leads_val s) (λ r h. h) (leads_close s))

placed_within : (n : ℕ) (p : Place) (s : Bytes) → OnSome (Placed p) (entries_within n p s)
unfolding entries_within
placed_within zero line [] = done
placed_within zero line (b ∷ s) = tt
placed_within zero inner s = tt
placed_within (suc n) line [] = done
placed_within (suc n) line (b ∷ s) =
    on_bind (Leads line) (Placed line) (next_entry line (b ∷ s)) _ (leads line (b ∷ s))
    (λ e h. on_bind (Placed e.place) (Placed line) (entries_within n e.place e.rest) _ (placed_within n e.place e.rest) (λ l m. h l m))
placed_within (suc n) inner s =
    on_bind (Leads inner) (Placed inner) (next_entry inner s) _ (leads inner s)
    (λ e h. on_bind (Placed e.place) (Placed inner) (entries_within n e.place e.rest) _ (placed_within n e.place e.rest) (λ l m. h l m))

placed : (s : Bytes) (l : List Entry) → entries s ≡ Some l → Placed line l
unfolding entries_from
placed s l e = subst (OnSome (Placed line)) e (placed_within (length s) line s)

placed_composed : {p : Place} {l : List Entry} → Placed p l → Placed p (composed_entries l)
unfolding composed_entries
placed_composed done = done
placed_composed (a_prop h) = a_prop (placed_composed h)
placed_composed (a_page h) = a_page (placed_composed h)
placed_composed (a_cat h) = a_cat (placed_composed h)
placed_composed (a_val h) = a_val (placed_composed h)
placed_composed (a_close h) = a_close (placed_composed h)

pub passed_placed : (s : Bytes) (k l : List Entry) → Passed s k l → Placed line l
passed_placed s k l t = subst (Placed line) t.composed (placed_composed (placed s k t.read))

valued : (ps : List Property) (x v : Bytes) → is_value v ≡ true → found (value_of ps x v) (λ w. false) true ≡ false → Valued ps x v
unfolding value_of
valued ps x v h f = go (kind_among ps x) refl f
  where
    read : (k : Kind) → kind_among ps x ≡ Some k → (o : Option Value) → read_value k v ≡ o → found o (λ w. false) true ≡ false → Valued ps x v
    read k e None q f = absurd (true≢false f)
    read k e (Some w) q f = record { value = w; read = rw e q; kind = e ∙ ap Some (sym (read_kind k v w q)); storable = read_storable k v w h q }

    go : (o : Option Kind) → kind_among ps x ≡ o → found (o >>= λ k. read_value k v) (λ w. false) true ≡ false → Valued ps x v
    go None e f = absurd (true≢false f)
    go (Some k) e f = read k e (read_value k v) refl f

pub namespace_short : (n : Bytes) → is_composed_namespace n ≡ true → length n ≤ 64
unfolding is_composed_namespace
namespace_short n h = go (eqb (length n) 0) refl h
  where
    go : (b : Bool) → eqb (length n) 0 ≡ b → (b || is_composed_name n) ≡ true → length n ≤ 64
    go true e h = omega (arith, eqb-true (length n) 0 e)
    go false e h = (composed_named n h).short

good : (ps : List Property) (e : Entry) → breaks_composed e ≡ false → is_unfit ps e ≡ false → Good ps e
good ps (prop x k) r f = tt
good ps (page n x) r f = namespace_short n (and_true (is_composed_namespace n) (is_composed_name x) (not-false (is_composed_namespace n && is_composed_name x) r)).0
good ps (cat x) r f = tt
good ps (val x v) r f = valued ps x v (and_true (is_composed_property_name x) (is_value v) (not-false (is_composed_property_name x && is_value v) r)).1 f
good ps close r f = tt

pub passed_good : (s : Bytes) (k l : List Entry) → Passed s k l → {e : Entry} → Memᴰ e l → Good (properties l) e
passed_good s k l t {e} m = good (properties l) e (any_at breaks_composed (rw t.composed at (rule_composed k t.ruled)) m) (any_at (is_unfit (properties l)) t.fit m)

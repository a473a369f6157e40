-- The ways through the functions that read a node: what the calls gave, and what the answer then is.
use Rattle.std.specs.Prelude.{Option, Some, None}
use Rattle.std.specs.Bool.{then_some}
use Prim.Native.Nat.{ℕ, suc, ◌-◌, ◌/◌, ◌≤◌, ◌<◌}
use mathlib.Core.Path.{◌≡◌, refl, sym, ap, subst, ◌∙◌}
use mathlib.Core.List.{[]}
use mathlib.Core.Bool.{Bool, true, false, ◌&&◌, and_assoc, and-eq-true_iff}
use native.Mathlib.Omega.{arith}
use lib.ListN.{length, get_or, drop_of_length-le}
use lib.Seq.{take-nil}
use borrow.Author.Tests.{ne_eqb, lt-ltb, le-ltb}
use Rattle.text.specs.Bytes.{Bytes, part}
use Rattle.text.specs.Parts.{part_of}
use Rattle.text.specs.declared.Span.{Span}
use Rattle.names.specs.Names.{is_composed_name, is_composed_property_name, is_composed_namespace}
use Rattle.values.specs.Names.{bare, qualified, is_composed_reference, is_value}
use Rattle.values.specs.Answers.{reference_at, split_of}
use Rattle.values.specs.declared.Split.{Split}
use Rattle.values.specs.Values.{kind_count, kind_from, in_range}
use Rattle.values.specs.declared.Kind.{Kind}
use Rattle.values.specs.declared.Scalar.{Scalar}
use lib.Dec.{leb}
use Rattle.language.specs.Answer.{◌>>=◌, only_if}
use Rattle.language.specs.Comparators.{last_comparator, comparator_from as comparator_of}
use Rattle.language.specs.declared.SurfaceComparator.{SurfaceComparator}
use Rattle.language.proofs.Members.{both_true}
use Rattle.language.specs.declared.Comparator.{Comparator}
use Rattle.query_core.specs.declared.Constant.{Constant}
use Rattle.query_core.specs.declared.Selector.{Selector}
use Rattle.query_core.specs.declared.Connective.{Connective}
use Rattle.query_core.specs.declared.Slot.{Slot}
use Rattle.query_core.specs.declared.Node.{Node as DeclaredNode}
use Rattle.query_core.specs.Postfix.{Node}
use Rattle.query_core.specs.Held.{slot, heap_in, comparator_from, constant_of_kind, constant_from, constant_of, node_from, before, behind, link_from, link_by, node_of, slot_from, slot_in, node_in}
use Rattle.query_core.specs.Reading.{is_spaced, constant_by, selector_by, keeps_constant, keeps_selector, ConstantReads, selected, joining, ReadsNode}

-- The constant of a slot, by its kind.
module _ (s : Bytes) (x : Slot) where
  pub constant_unknown : kind_count ≤ x.kind → ConstantReads s x None
  unfolding constant_of constant_from
  constant_unknown l = record { is = rw (le-ltb x.kind kind_count l); keeps = refl }

  module _ (below : x.kind < kind_count) (k : Kind) (told : k ≡ kind_from x.kind) where
    constant_known : constant_of s x ≡ constant_of_kind k x.number (part_of s x.second)
    unfolding constant_of constant_from
    constant_known = rw (← told, lt-ltb x.kind kind_count below)

    pub page_reads : k ≡ Kind.Page → ConstantReads s x None
    page_reads e = record { is = constant_known ∙ rw e; keeps = refl }

    module _ (r : Option Constant) (fit : Bool) where
      chosen_reads : (c : Constant) → constant_of s x ≡ only_if fit (Some (constant_by s c)) → (fit ≡ true → keeps_constant s c ≡ true) → r ≡ then_some fit c → ConstantReads s x r
      chosen_reads c e f g = go fit e f g
        where
          go : (b : Bool) → constant_of s x ≡ only_if b (Some (constant_by s c)) → (b ≡ true → keeps_constant s c ≡ true) → r ≡ then_some b c → ConstantReads s x r
          go true e f g = record { is = rw g e; keeps = rw g (f refl) }
          go false e f g = record { is = rw g e; keeps = rw g }

      pub scalar_reads : (j : Scalar) → k ≡ Kind.Scalar j → fit ≡ in_range j x.number → r ≡ then_some fit (Constant.Scalar j x.number) → ConstantReads s x r
      scalar_reads j e q g = chosen_reads (Constant.Scalar j x.number) (constant_known ∙ rw (e, q)) (λ h. rw (← q) h) g

      pub string_reads : (t : Bytes) → k ≡ Kind.String → t ≡ part_of s x.second → fit ≡ is_value t → r ≡ then_some fit (Constant.String x.second) → ConstantReads s x r
      string_reads t e p q g = chosen_reads (Constant.String x.second) (constant_known ∙ rw (e, q, p)) (λ h. rw (← p, ← q) h) g

pub ruleset constants = (constant_unknown, page_reads, scalar_reads, string_reads)

only_none : (b : Bool) → ◌≡◌ {A = Option Node} (only_if b None) None
only_none true = refl
only_none false = refl

-- A selector whose name was tested.
selected_reads : (s : Bytes) (r : Option DeclaredNode) (o : Option Node) (b : Bool) (y : Selector) → o ≡ only_if b (Some (selector_by s y)) → (b ≡ true → keeps_selector s y ≡ true) → r ≡ selected b y → ReadsNode s o r
selected_reads s r o true y e f g = record { is = rw g e; keeps = rw g (f refl) }
selected_reads s r o false y e f g = record { is = rw g e; keeps = rw g }

-- Article comparisons, by the slot's bytes.
module _ (s b : Bytes) (k : ℕ) (q : Option Comparator) (w : k ≡ get_or b 1 0) (e : q ≡ comparator_from k) where
  pub article_none : q ≡ None → ReadsNode s (node_of s 6 (slot_from b)) None
  unfolding node_of node_from slot_from
  article_none f = record { is = rw (← w, ← e, f) (only_none (is_composed_name (part_of s (slot_from b).second))); keeps = refl }

  pub article_reads : (c : Comparator) (x : Span) (t : Bytes) (fit : Bool) (r : Option DeclaredNode) → q ≡ Some c → x ≡ (slot_from b).second → t ≡ part_of s x → fit ≡ is_composed_name t → r ≡ selected fit (Selector.Article c x) → ReadsNode s (node_of s 6 (slot_from b)) r
  unfolding node_of node_from slot_from
  article_reads c x t fit r f l p j g =
      selected_reads s r _ fit _ (rw (← w, ← e, f, j, p, l)) (λ h. rw (← p, ← j) h) g

-- Value comparisons.
module _ (s : Bytes) (x : Slot) (q : Option Comparator) (e : q ≡ comparator_from x.comparator) where
  pub value_none : q ≡ None → ReadsNode s (node_of s 7 x) None
  unfolding node_of node_from
  value_none f = record { is = rw (← e, f) (only_none (is_composed_property_name (part_of s x.first))); keeps = refl }

  module _ (c : Comparator) (f : q ≡ Some c) where
    module _ (v : Option Constant) (u : ConstantReads s x v) where
      pub constant_missing : v ≡ None → ReadsNode s (node_of s 7 x) None
      unfolding node_of node_from
      constant_missing g =
          record { is = rw (← e, f, u.is, g) (only_none (is_composed_property_name (part_of s x.first))); keeps = refl }

      pub value_reads : (k : Constant) (t : Bytes) (b : Bool) (r : Option DeclaredNode) → v ≡ Some k → t ≡ part_of s x.first → b ≡ is_composed_property_name t → r ≡ selected b (Selector.Value x.first c k) → ReadsNode s (node_of s 7 x) r
      unfolding node_of node_from
      value_reads k t b r g p w l =
          selected_reads s r _ b _ (rw (← e, f, u.is, g, w, p)) (λ h. rw (← p, ← w, h) (rw g at u.keeps)) l

-- Links.
split_told : (s : Bytes) (r : Split) (a : Bytes) (spaced named : Bool) → a ≡ part_of s r.article → spaced ≡ is_spaced s r.namespace → named ≡ is_composed_name a → (spaced && named) ≡ is_composed_reference (split_of s r)
split_told s r a spaced named ea es em = rw (es, em, ea) (go r.namespace)
  where
    go : (o : Option Span) → (is_spaced s o && is_composed_name (part_of s r.article)) ≡ is_composed_reference (reference_at s o r.article)
    go None = refl
    go (Some n) = refl

link_is : (s : Bytes) (code : ℕ) (name : Span) (r : Split) (p q l : Bool) → p ≡ is_composed_property_name (part_of s name) → q ≡ is_composed_reference (split_of s r) → l ≡ leb code last_comparator
    → link_from code (part_of s name) (split_of s r) ≡ only_if (p && q && l) (Some (selector_by s (Selector.Link name (comparator_of code) r)))
unfolding link_from
link_is s code name r p q l ep eq el = rw (← ep, ← eq, ← el) (go p q l)
  where
    go : (p q l : Bool) → ◌≡◌ {A = Option Node} (only_if (p && q) (only_if l (Some (comparator_of code)) >>= λ d. Some (Node.link (part_of s name) d (split_of s r)))) (only_if (p && q && l) (Some (Node.link (part_of s name) (comparator_of code) (split_of s r))))
    go true true true = refl
    go true true false = refl
    go true false l = refl
    go false q l = refl

pub link_reads : (s : Bytes) (code : ℕ) (name : Span) (r : Split) (c : SurfaceComparator) (a x : Bytes) (named spaced owned : Bool) (k : Option DeclaredNode) → c ≡ comparator_of code → a ≡ part_of s r.article → named ≡ is_composed_name a
    → spaced ≡ is_spaced s r.namespace → x ≡ part_of s name → owned ≡ is_composed_property_name x
    → k ≡ selected (owned && spaced && named && leb code last_comparator) (Selector.Link name c r) → ReadsNode s (link_from code (part_of s name) (split_of s r)) k
link_reads s code name r c a x named spaced owned k ec ea em es ex eo g =
    let q = split_told s r a spaced named ea es em in
    let p : owned ≡ is_composed_property_name (part_of s name) = eo ∙ rw ex in
    let e : (owned && spaced && named && leb code last_comparator) ≡ (owned && (spaced && named) && leb code last_comparator) = ap (λ (t : Bool). t && leb code last_comparator) (and_assoc owned spaced named) in
    selected_reads s k _ (owned && (spaced && named) && leb code last_comparator) (Selector.Link name (comparator_of code) r) (link_is s code name r owned _ _ p q refl)
    (λ h. let t = (and-eq-true_iff _ _).0 h in let u = (and-eq-true_iff _ _).0 t.0 in both_true (sym p ∙ u.0) (sym q ∙ u.1)) (g ∙ rw (e, ec))

module _ (s b : Bytes) (mark : ℕ) (w : mark ≡ get_or b 2 0) (code : ℕ) (v : code ≡ get_or b 1 0) (y : Span) (z : y ≡ (slot_from b).second) (r : Option DeclaredNode) where
  pub bare_link : mark ≡ 0 → (x : Span) → x ≡ (slot_from b).first → ReadsNode s (link_from code (part_of s x) (split_of s (record { namespace = None; article = y }))) r → ReadsNode s (node_of s 8 (slot_from b)) r
  unfolding node_of link_by slot_from
  bare_link e x f h =
      let q : node_of s 8 (slot_from b) ≡ link_from code (part_of s x) (bare (part_of s y)) = ap (λ (k : ℕ). link_by s k (slot_from b)) (sym w ∙ e) ∙ rw (v, f, z) in
      rw q h

  pub qualified_link : (mark ≡ 0 → ⊥) → (k : ℕ) → k ≡ mark - 1 → (x n : Span) → x ≡ before k (slot_from b).first → n ≡ behind k (slot_from b).first → ReadsNode s (link_from code (part_of s x) (split_of s (record { namespace = Some n; article = y }))) r → ReadsNode s (node_of s 8 (slot_from b)) r
  unfolding node_of link_by slot_from
  qualified_link o k e x n f g h =
      let m : mark ≡ suc k = omega (arith, e) in
      let q : node_of s 8 (slot_from b) ≡ link_from code (part_of s x) (qualified (part_of s n) (part_of s y)) = ap (λ (k : ℕ). link_by s k (slot_from b)) (sym w ∙ m) ∙ rw (v, f, g, z) in
      rw q h

-- The node of a slot's bytes, by its tag.
module _ (s b : Bytes) (r : Option DeclaredNode) (tag : ℕ) where
  pub and_reads : tag ≡ 0 → r ≡ joining Connective.And → ReadsNode s (node_of s tag (slot_from b)) r
  unfolding node_of node_from
  and_reads e g = record { is = rw (e, g); keeps = rw g }

  pub or_reads : tag ≡ 1 → r ≡ joining Connective.Or → ReadsNode s (node_of s tag (slot_from b)) r
  unfolding node_of node_from
  or_reads e g = record { is = rw (e, g); keeps = rw g }

  module _ (x : Span) (w : x ≡ (slot_from b).first) (t : Bytes) (fit : Bool) (p : t ≡ part_of s x) where
    pub category_reads : tag ≡ 2 → fit ≡ is_composed_name t → r ≡ selected fit (Selector.Category x) → ReadsNode s (node_of s tag (slot_from b)) r
    unfolding node_of node_from
    category_reads e k g = selected_reads s r _ fit _ (rw (e, k, p, w)) (λ h. rw (← p, ← k) h) g

    pub namespace_reads : tag ≡ 3 → fit ≡ is_composed_namespace t → r ≡ selected fit (Selector.Namespace x) → ReadsNode s (node_of s tag (slot_from b)) r
    unfolding node_of node_from
    namespace_reads e k g = selected_reads s r _ fit _ (rw (e, k, p, w)) (λ h. rw (← p, ← k) h) g

    pub existence_reads : tag ≡ 4 → fit ≡ is_composed_property_name t → r ≡ selected fit (Selector.Existence x) → ReadsNode s (node_of s tag (slot_from b)) r
    unfolding node_of node_from
    existence_reads e k g = selected_reads s r _ fit _ (rw (e, k, p, w)) (λ h. rw (← p, ← k) h) g

    pub subquery_reads : tag ≡ 5 → fit ≡ is_composed_property_name t → r ≡ selected fit (Selector.Subquery x) → ReadsNode s (node_of s tag (slot_from b)) r
    unfolding node_of node_from
    subquery_reads e k g = selected_reads s r _ fit _ (rw (e, k, p, w)) (λ h. rw (← p, ← k) h) g

  pub article_tag : tag ≡ 6 → ReadsNode s (node_of s 6 (slot_from b)) r → ReadsNode s (node_of s tag (slot_from b)) r
  article_tag e h = rw e h

  pub value_tag : (x : Slot) → tag ≡ 7 → x ≡ slot_from b → ReadsNode s (node_of s 7 x) r → ReadsNode s (node_of s tag (slot_from b)) r
  value_tag x e w h = rw (e, ← w) h

pub link_tag : (s b : Bytes) (r : Option DeclaredNode) (tag : ℕ) → tag ≡ 8 → ReadsNode s (node_of s 8 (slot_from b)) r → ReadsNode s (node_of s tag (slot_from b)) r
link_tag s b r tag e h = rw e h

pub no_tag : (s : Bytes) (x : Slot) (tag : ℕ) → (tag ≡ 0 → ⊥) × (tag ≡ 1 → ⊥) × (tag ≡ 2 → ⊥) × (tag ≡ 3 → ⊥) × (tag ≡ 4 → ⊥) × (tag ≡ 5 → ⊥) × (tag ≡ 6 → ⊥) × (tag ≡ 7 → ⊥) × (tag ≡ 8 → ⊥) → ReadsNode s (node_of s tag x) None
unfolding node_of node_from
no_tag s x tag n =
    record {
      is = rw (ne_eqb tag 0 n.0, ne_eqb tag 1 n.1, ne_eqb tag 2 n.2, ne_eqb tag 3 n.3, ne_eqb tag 4 n.4, ne_eqb tag 5 n.5, ne_eqb tag 6 n.6, ne_eqb tag 7 n.7, ne_eqb tag 8 n.8);
      keeps = refl;
    }

pub ruleset ways = (article_none, article_reads, value_none, constant_missing, value_reads, and_reads, or_reads, category_reads, namespace_reads, existence_reads, subquery_reads)

-- The bytes of a place past the end, and the node in a place.
pub slot_past : (h : Bytes) (i : ℕ) → length h / 20 < i → [] ≡ part h (slot i) 20
slot_past h i l =
    let k : length h ≤ slot i = omega arith in
    rw (drop_of_length-le h k, take-nil)

tag_of : (b : Bytes) → get_or b 0 0 ≡ (slot_from b).tag
unfolding slot_from
tag_of b = refl

pub in_place : (h t b : Bytes) (i tag : ℕ) (r : Option DeclaredNode) → t ≡ heap_in h → b ≡ part h (slot i) 20 → tag ≡ get_or b 0 0 → ReadsNode t (node_of t tag (slot_from b)) r → ReadsNode (heap_in h) (node_in h i) r
unfolding node_in
in_place h t b i tag r f g k u =
    let e : tag ≡ (slot_in h i).tag = k ∙ tag_of b ∙ ap (λ (z : Bytes). (slot_from z).tag) g in
    subst (λ (m : ℕ). ReadsNode (heap_in h) (node_of (heap_in h) m (slot_in h i)) r) e (rw (← f, ← g) u)

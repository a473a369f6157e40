-- The surface query of what was read is spelled, and its shortest text is no longer and no deeper.
use Prim.Native.Nat.{ℕ, suc, ◌+◌, ◌≤◌, max}
use mathlib.Core.Path.{◌≡◌, refl, sym, ap, ◌∙◌}
use mathlib.Core.Bool.{Bool, true, false, cond, not, ◌&&◌, ◌||◌, true≢false, false≢true}
use mathlib.Core.List.{List, [], ◌∷◌}
use native.Mathlib.Omega.{arith}
use lib.Dec.{eqb, ltb}
use lib.ListN.{length, take, drop, length-drop, length-take}
use borrow.Author.Tests.{le-leb, ltb-true}
use Rattle.text.specs.Bytes.{Bytes, bytes, any, same, span, trim}
use Rattle.text.specs.Class.{is_other}
use Rattle.text.proofs.Laws.{same_eq}
use Rattle.text.proofs.Trim.{trim_le}
use Rattle.names.specs.Names.{composed_name, is_name, is_namespace, first}
use Rattle.names.proofs.Composed.{composed_le, composed_is_name, composed_is_namespace}
use Rattle.values.specs.Names.{Reference, bare, qualified, reference, is_reference, composed_reference, is_value}
use Rattle.values.proofs.Spelled.{composed_is_reference}
use Rattle.language.specs.Surface.{Chain, Categories, Identifiers, Alternatives, Query, composed_chain, composed_categories, composed_identifiers, composed_in, composed_query}
use Rattle.language.specs.RawQuery.{Piece, RawQuery, RawAlternatives}
use Rattle.language.specs.QueryText.{is_plain, is_category, is_category_of, article_of, is_plus_of, is_namespace_piece, namespace_of, is_existence, names_in, depth_in, depth, longest_in, longest, breaks_names, breaks_category, breaks_reference, breaks_pieces, breaks_in, breaks, breaks_value_in, breaks_value, categories_from, identifier_of, identifiers_from, pieces_query, surface_in, surface}
use Rattle.language.proofs.Members.{and_true, or_false, both_true, both_false}
use Rattle.query_tree_spelling.specs.Spelled.{is_one_identifier, is_one_alternative, is_disjunction, is_joined, spelled_categories, spelled_identifiers, reads_as_category, spelled_value, spelled_chain, spelled_in, is_spelled, cost_categories, cost_reference, cost_identifiers, wrapped, under, cost_in, cost, deep_in, deep}
use Rattle.query_tree_spelling.proofs.Reading.{is_raw_disjunction, is_raw_joined, is_raw_either}
use Rattle.query_tree_spelling.proofs.Composed.{names_composed, names_count, chain_cost, reference_cost, category_kept}
use Rattle.query_tree_spelling.proofs.Spells.{size_piece, size_pieces}
use Rattle.query_tree_spelling.proofs.Laying.{size_in, size, LaidIn, Laid}

-- Truth values.
not_yes : (a : Bool) → not a ≡ false → a ≡ true
not_yes true h = refl
not_yes false h = sym h

yes_not : {a : Bool} → a ≡ false → not a ≡ true
yes_not e = rw e

-- References.
reference_takes : (t : Bytes) → cost_reference (reference t) ≤ length t
unfolding reference cost_reference
reference_takes t = go (ltb k (length t)) refl
  where
    k : ℕ
    k = span (is_other 58) t

    go : (b : Bool) → ltb k (length t) ≡ b → cost_reference (cond b (qualified (trim (take k t)) (trim (drop (suc k) t))) (bare (trim t))) ≤ length t
    go true e = omega (arith, ltb-true k (length t) e, trim_le (take k t), trim_le (drop (suc k) t), length-take k t, length-drop (suc k) t)
    go false e = trim_le t

-- Categories.
article_takes : (r : Reference) → is_category_of r ≡ true → 9 + length (article_of r) ≤ cost_reference r
unfolding cost_reference
article_takes (bare x) h = absurd (false≢true h)
article_takes (qualified n x) h = omega (arith, ap length (same_eq n (bytes "Category") h))

categories_spelled : (c : Categories) (l : List Piece) → spelled_categories (composed_categories c) ≡ true → any breaks_category l ≡ false → spelled_categories (composed_categories (categories_from c l)) ≡ true
unfolding categories_from composed_categories spelled_categories any
categories_spelled c [] h e = h
categories_spelled c (p ∷ l) h e =
    let k = or_false (breaks_category p) (any breaks_category l) e in
    let j = and_true (is_plain p) (is_name p.text) (not_yes (is_plain p && is_name p.text) k.0) in
    categories_spelled (Categories.either c (Categories.one p.text)) l (both_true h (composed_is_name p.text j.1)) k.1

categories_cost : (c : Categories) (l : List Piece) → cost_categories (composed_categories (categories_from c l)) ≤ cost_categories (composed_categories c) + size_pieces l
unfolding categories_from composed_categories cost_categories size_pieces size_piece
categories_cost c [] = omega arith
categories_cost c (p ∷ l) = omega (arith, composed_le p.text, categories_cost (Categories.either c (Categories.one p.text)) l)

-- Identifiers.
record Leaf (p : Piece) : Type 0 where
  is : spelled_identifiers (composed_identifiers (identifier_of p)) ≡ true
  one : is_one_identifier (composed_identifiers (identifier_of p)) ≡ true
  costs : cost_identifiers (composed_identifiers (identifier_of p)) ≤ size_piece p
  leads : is_category p ≡ false → reads_as_category (composed_identifiers (identifier_of p)) ≡ false

plus_takes : (r : Reference) → is_plus_of r ≡ true → length (namespace_of r) + 2 ≤ cost_reference r
unfolding cost_reference
plus_takes (bare x) h = absurd (false≢true h)
plus_takes (qualified n x) h = omega (arith, ap length (same_eq x (bytes "+") h))

plus_leads : (r : Reference) → is_plus_of r ≡ true → same (composed_name (namespace_of r)) (bytes "Category") ≡ is_category_of r
plus_leads (bare x) h = absurd (false≢true h)
plus_leads (qualified n x) h = category_kept n

category_composed : (r : Reference) → is_category_of (composed_reference r) ≡ is_category_of r
category_composed (bare x) = refl
category_composed (qualified n x) = category_kept n

leaf : (p : Piece) → breaks_reference p ≡ false → Leaf p
unfolding spelled_identifiers composed_identifiers cost_identifiers reads_as_category size_piece
leaf p = go (is_namespace_piece p) refl
  where
    r : Reference
    r = reference p.text

    plus : is_namespace_piece p ≡ true → not (is_namespace (namespace_of r)) ≡ false → identifier_of p ≡ Identifiers.namespace (namespace_of r) → Leaf p
    plus e h i =
        let k = and_true (is_plain p) (is_plus_of r) e in
        record {
          is = rw i (composed_is_namespace (namespace_of r) (not_yes (is_namespace (namespace_of r)) h));
          one = rw i;
          costs = rw i (omega (arith, composed_le (namespace_of r), plus_takes r k.1, reference_takes p.text));
          leads = λ c. rw i (plus_leads r k.1 ∙ (rw k.0 at c));
        }

    other : is_namespace_piece p ≡ false → not (is_reference r) ≡ false → identifier_of p ≡ Identifiers.reference p.comparator r → Leaf p
    other e h i =
        record {
          is = rw i (composed_is_reference r (not_yes (is_reference r) h));
          one = rw i;
          costs = rw i (omega (arith, reference_cost r, reference_takes p.text));
          leads = λ c. rw (i, category_composed r) c;
        }

    go : (t : Bool) → is_namespace_piece p ≡ t → breaks_reference p ≡ false → Leaf p
    go true e h = plus e (rw e at h) (rw e)
    go false e h = other e (rw e at h) (rw e)

record Some (i j : Identifiers) (n : ℕ) : Type 0 where
  is : spelled_identifiers (composed_identifiers j) ≡ true
  costs : cost_identifiers (composed_identifiers j) ≤ cost_identifiers (composed_identifiers i) + n
  leads : reads_as_category (composed_identifiers j) ≡ reads_as_category (composed_identifiers i)

identifiers_some : (i : Identifiers) (l : List Piece) → spelled_identifiers (composed_identifiers i) ≡ true → any breaks_reference l ≡ false → Some i (identifiers_from i l) (size_pieces l)
unfolding identifiers_from composed_identifiers spelled_identifiers cost_identifiers reads_as_category size_pieces any
identifiers_some i [] h e = record { is = h; costs = omega arith; leads = refl }
identifiers_some i (p ∷ l) h e =
    let k = or_false (breaks_reference p) (any breaks_reference l) e in
    let f = leaf p k.0 in
    let t = identifiers_some (Identifiers.either i (identifier_of p)) l (both_true h (both_true f.one f.is)) k.1 in
    record { is = t.is; costs = omega (arith, t.costs, f.costs); leads = t.leads }

-- The surface query of what was read, its names composed.
abbrev pub made : RawQuery → Query
made r = composed_query (surface r)

abbrev pub made_in : RawAlternatives → Alternatives
made_in r = composed_in (surface_in r)

-- What is said of it.
pub record Cheap (r : RawQuery) : Type 0 where
  pub is : is_spelled (made r) ≡ true
  pub costs : cost (made r) ≤ size r
  pub deepness : deep (made r) ≤ depth r
  pub operand_costs : is_raw_disjunction r ≡ false → wrapped (is_disjunction (made r)) (cost (made r)) ≤ size r
  pub operand_deepness : is_raw_disjunction r ≡ false → under (is_disjunction (made r)) (deep (made r)) ≤ depth r
  pub term_costs : is_raw_joined r ≡ false → wrapped (is_joined (made r)) (cost (made r)) ≤ size r
  pub term_deepness : is_raw_joined r ≡ false → under (is_joined (made r)) (deep (made r)) ≤ depth r

pub record CheapIn (r : RawAlternatives) : Type 0 where
  pub is : spelled_in (made_in r) ≡ true
  pub costs : cost_in (made_in r) ≤ size_in r
  pub deepness : deep_in (made_in r) ≤ depth_in r

-- A query that is no disjunction and no conjunction.
single_cheap : (r : RawQuery) → is_disjunction (made r) ≡ false → is_joined (made r) ≡ false → is_spelled (made r) ≡ true → cost (made r) ≤ size r → deep (made r) ≤ depth r → Cheap r
single_cheap r d j h c e =
    record { is = h; costs = c; deepness = e; operand_costs = λ x. rw d c; operand_deepness = λ x. rw d e; term_costs = λ x. rw j c; term_deepness = λ x. rw j e }

-- A bracket of pieces.
record Bracket (q : Query) (n : ℕ) : Type 0 where
  is : is_spelled q ≡ true
  costs : cost q ≤ n
  deepness : deep q ≤ 0
  no_disjunction : is_disjunction q ≡ false
  no_join : is_joined q ≡ false

bracket : (p : Piece) (l : List Piece) → breaks_pieces p l ≡ false → Bracket (composed_query (pieces_query p l)) (4 + size_piece p + size_pieces l)
unfolding composed_query composed_categories is_spelled cost deep spelled_categories cost_categories size_piece any
bracket p l = go (is_category p) refl
  where
    x : Bytes
    x = article_of (reference p.text)

    go : (t : Bool) → is_category p ≡ t → cond t (not (is_name x) || any breaks_category l) (any breaks_reference (p ∷ l)) ≡ false → Bracket (composed_query (cond t (Query.category (categories_from (Categories.one x) l)) (Query.identifier (identifiers_from (identifier_of p) l)))) (4 + size_piece p + size_pieces l)
    go true e h =
        let k = or_false (not (is_name x)) (any breaks_category l) h in
        let c = and_true (is_plain p) (is_category_of (reference p.text)) e in
        record {
          is = categories_spelled (Categories.one x) l (composed_is_name x (not_yes (is_name x) k.0)) k.1;
          costs = omega (arith, categories_cost (Categories.one x) l, composed_le x, article_takes (reference p.text) c.1, reference_takes p.text);
          deepness = omega arith;
          no_disjunction = refl;
          no_join = refl;
        }
    go false e h =
        let k = or_false (breaks_reference p) (any breaks_reference l) h in
        let f = leaf p k.0 in
        let t = identifiers_some (identifier_of p) l f.is k.1 in
        record {
          is = both_true t.is (yes_not (t.leads ∙ f.leads e));
          costs = omega (arith, t.costs, f.costs);
          deepness = omega arith;
          no_disjunction = refl;
          no_join = refl;
        }

wrapped_le : (t : Bool) (c n : ℕ) → c ≤ n → wrapped t c ≤ 7 + n
wrapped_le true c n h = omega arith
wrapped_le false c n h = omega arith

under_le : (t : Bool) (c n : ℕ) → c ≤ n → under t c ≤ suc n
under_le true c n h = omega arith
under_le false c n h = omega arith

-- One alternative.
one_surface : (r : RawAlternatives) → is_raw_either r ≡ false → is_one_alternative (made_in r) ≡ true
unfolding surface composed_query
one_surface (RawAlternatives.piece p) h = go (is_existence p)
  where
    go : (t : Bool) → is_one_alternative (composed_in (cond t Alternatives.existence (Alternatives.value p.comparator p.text))) ≡ true
    go true = refl
    go false = refl
one_surface (RawAlternatives.subquery q) h = refl
one_surface (RawAlternatives.either a b) h = absurd (true≢false h)

piece_cheap : (p : Piece) → is_plain p && eqb (first p.text) 33 ≡ false → not (is_value p.text) ≡ false → CheapIn (RawAlternatives.piece p)
unfolding surface composed_query is_spelled cost deep depth size size_piece spelled_value
piece_cheap p h v = go (is_existence p) refl
  where
    value : Alternatives
    value = Alternatives.value p.comparator p.text

    joined : (a b c : Bool) → a && b ≡ false → a && c ≡ false → a && (b || c) ≡ false
    joined true b c h k = both_false h k
    joined false b c h k = refl

    go : (t : Bool) → is_existence p ≡ t → CheapIn (RawAlternatives.piece p)
    go true e =
        let k : made_in (RawAlternatives.piece p) ≡ Alternatives.existence = rw e in
        let m = and_true (is_plain p) (same p.text (bytes "+")) e in
        record { is = rw k; costs = rw k (omega (arith, ap length (same_eq p.text (bytes "+") m.1))); deepness = rw k (omega arith) }
    go false e =
        let k : made_in (RawAlternatives.piece p) ≡ value = rw e in
        let m = joined (is_plain p) (eqb (first p.text) 33) (same p.text (bytes "+")) h e in
        record { is = rw k (both_true (not_yes (is_value p.text) v) (yes_not m)); costs = rw k (omega arith); deepness = rw k (omega arith) }

head_spelled : (c : Chain) → breaks_names c ≡ false → names_in c ≤ 8 → spelled_chain (composed_chain c) ≡ true
unfolding spelled_chain
head_spelled c h k = both_true (names_composed c h) (rw (names_count c) (le-leb (names_in c) 8 k))

mutual
  unfolding surface composed_query is_spelled cost deep depth longest breaks breaks_value size

  pub cheap_in : (r : RawAlternatives) → LaidIn r → breaks_in r ≡ false → breaks_value_in r ≡ false → longest_in r ≤ 8 → CheapIn r
  cheap_in (RawAlternatives.piece p) h n v l = piece_cheap p h v
  cheap_in (RawAlternatives.subquery q) h n v l =
      let t = cheap q h n v l in
      record { is = t.is; costs = omega (arith, t.costs); deepness = omega (arith, t.deepness) }
  cheap_in (RawAlternatives.either a b) h n v l =
      let m = or_false (breaks_in a) (breaks_in b) n in
      let w = or_false (breaks_value_in a) (breaks_value_in b) v in
      let t = cheap_in a h.0 m.0 w.0 (omega (arith, l)) in
      let u = cheap_in b h.1 m.1 w.1 (omega (arith, l)) in
      record { is = both_true t.is (both_true (one_surface b h.2) u.is); costs = omega (arith, t.costs, u.costs); deepness = omega (arith, t.deepness, u.deepness) }

  pub cheap : (r : RawQuery) → Laid r → breaks r ≡ false → breaks_value r ≡ false → longest r ≤ 8 → Cheap r
  cheap (RawQuery.pieces p l) h n v k =
      let b = bracket p l n in
      single_cheap (RawQuery.pieces p l) b.no_disjunction b.no_join b.is b.costs b.deepness
  cheap (RawQuery.property c a) h n v k =
      let m = or_false (breaks_names c) (breaks_in a) n in
      let t = cheap_in a h m.1 v (omega (arith, k)) in
      single_cheap (RawQuery.property c a) refl refl (both_true (head_spelled c m.0 (omega (arith, k))) t.is) (omega (arith, t.costs, chain_cost c)) t.deepness
  cheap (RawQuery.group q) h n v k =
      let t = cheap q h n v k in
      record {
        is = t.is;
        costs = omega (arith, t.costs);
        deepness = omega (arith, t.deepness);
        operand_costs = λ e. wrapped_le (is_disjunction (made q)) (cost (made q)) (size q) t.costs;
        operand_deepness = λ e. under_le (is_disjunction (made q)) (deep (made q)) (depth q) t.deepness;
        term_costs = λ e. wrapped_le (is_joined (made q)) (cost (made q)) (size q) t.costs;
        term_deepness = λ e. under_le (is_joined (made q)) (deep (made q)) (depth q) t.deepness;
      }
  cheap (RawQuery.disjunction a b) h n v k =
      let m = or_false (breaks a) (breaks b) n in
      let w = or_false (breaks_value a) (breaks_value b) v in
      let t = cheap a h.0 m.0 w.0 (omega (arith, k)) in
      let u = cheap b h.1 m.1 w.1 (omega (arith, k)) in
      record {
        is = both_true t.is u.is;
        costs = omega (arith, t.costs, u.operand_costs h.2);
        deepness = omega (arith, t.deepness, u.operand_deepness h.2);
        operand_costs = λ e. absurd (true≢false e);
        operand_deepness = λ e. absurd (true≢false e);
        term_costs = λ e. absurd (true≢false e);
        term_deepness = λ e. absurd (true≢false e);
      }
  cheap (RawQuery.conjunction a b) h n v k =
      let m = or_false (breaks a) (breaks b) n in
      let w = or_false (breaks_value a) (breaks_value b) v in
      let t = cheap a h.0 m.0 w.0 (omega (arith, k)) in
      let u = cheap b h.1 m.1 w.1 (omega (arith, k)) in
      let q = made (RawQuery.conjunction a b) in
      let c : cost q ≤ size a + size b = omega (arith, t.operand_costs h.2, u.term_costs h.3) in
      let d : deep q ≤ max (depth a) (depth b) = omega (arith, t.operand_deepness h.2, u.term_deepness h.3) in
      record {
        is = both_true t.is u.is;
        costs = c;
        deepness = d;
        operand_costs = λ e. c;
        operand_deepness = λ e. d;
        term_costs = λ e. absurd (true≢false e);
        term_deepness = λ e. absurd (true≢false e);
      }

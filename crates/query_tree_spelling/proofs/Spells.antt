-- The raw query of a surface query that is spelled: it is read back, judged good, and has the cost and depth that are said.
use Prim.Native.Nat.{ℕ, suc, ◌+◌, ◌≤◌, max}
use mathlib.Core.Path.{◌≡◌, refl, ap, ap₂, subst, ◌∙◌}
use mathlib.Core.Bool.{Bool, true, false, cond, not, ◌&&◌, ◌||◌, false≢true}
use mathlib.Core.List.{List, [], ◌∷◌, ◌++◌}
use native.Mathlib.Omega.{arith}
use lib.Dec.{eqb, leb}
use lib.ListN.{length, length-append}
use borrow.Author.Tests.{leb-true, le-ltb}
use Rattle.text.specs.Bytes.{Bytes, bytes, any, all, same, trim_end}
use Rattle.text.specs.Class.{one_of, is_free, is_name_byte, is_other}
use Rattle.names.specs.Codes.{is_plain as is_plain_code}
use Rattle.names.specs.Names.{has_name_shape, first, is_name, is_namespace, is_composed_name}
use Rattle.names.proofs.Ascii.{plain_composed}
use Rattle.names.proofs.Composed.{composed_typed, namespace_typed}
use Rattle.values.specs.Names.{Reference, bare, qualified, reference, is_reference, is_value}
use Rattle.values.proofs.Spelled.{reference_typed}
use Rattle.language.specs.Answer.{accepted, judge}
use Rattle.language.specs.Comparators.{word, is_equal}
use Rattle.language.specs.Surface.{Chain, single, chain, Categories, Identifiers, Alternatives, Query}
use Rattle.language.specs.RawQuery.{Piece, RawQuery, RawAlternatives}
use Rattle.language.specs.QueryText.{is_plain, is_category, is_category_of, article_of, is_plus_of, is_namespace_piece, is_existence, names_in, depth_in, depth, longest_in, longest, breaks_names, breaks_category, breaks_reference, breaks_pieces, breaks_in, breaks, breaks_value_in, breaks_value, categories_from, identifier_of, identifiers_from, pieces_query, surface_in, surface, read_text}
use Rattle.language.proofs.Members.{and_true, or_false, both_true, both_false}
use Rattle.language.specs.declared.SurfaceComparator.{SurfaceComparator}
use Rattle.query_tree_spelling.specs.Spelled.{is_one_identifier, is_one_alternative, is_disjunction, is_joined, spelled_categories, spelled_identifiers, reads_as_category, spelled_value, spelled_names, spelled_chain, spelled_in, is_spelled, cost_categories, cost_reference, cost_identifiers, cost_chain, wrapped, under, cost_in, cost, deep_in, deep, has_text}
use Rattle.query_tree_spelling.specs.Spelling.{plain, compared, reference_text, category_piece, identifier_piece, raw_categories, raw_identifiers, group_if, raw_in, raw, unread_piece, unread_pieces, unread_chain, unread_in, unread, spell}
use Rattle.query_tree_spelling.proofs.Texts.{not_not}
use Rattle.query_tree_spelling.proofs.Reading.{Clean, AllClean, CleanFirst, is_raw_disjunction, is_raw_joined, is_raw_either, ProperIn, Proper, whole_reads}
use Rattle.query_tree_spelling.proofs.Composed.{names_typed, query_fixed}
use Rattle.query_tree_spelling.proofs.Cleaning.{no_name, name_clean, name_no_colon, name_no_plus, namespace_no_colon, colon_clean, plain_first, colon_first, reads_reference, reads_plus, value_clean, head_clean}

-- What is said of a raw query: the surface query that it is, its depth d, its length n.
pub record Spells (q : Query) (r : RawQuery) (d n : ℕ) : Type 0 where
  pub is : surface r ≡ q
  pub names : breaks r ≡ false
  pub values : breaks_value r ≡ false
  pub deepness : depth r ≡ d
  pub chains : longest r ≤ 8
  pub proper : Proper r
  pub size : (s : Bytes) → length (unread r s) ≡ n + length s

pub record SpellsIn (a : Alternatives) (r : RawAlternatives) (d n : ℕ) : Type 0 where
  pub is : surface_in r ≡ a
  pub names : breaks_in r ≡ false
  pub values : breaks_value_in r ≡ false
  pub deepness : depth_in r ≡ d
  pub chains : longest_in r ≤ 8
  pub proper : ProperIn r
  pub size : (s : Bytes) → length (unread_in r s) ≡ n + length s

-- Lengths.
unfoldable pub size_piece : Piece → ℕ
size_piece p = length (word p.comparator) + length p.text

unfoldable pub size_pieces : List Piece → ℕ
size_pieces [] = 0
size_pieces (p ∷ l) = 2 + size_piece p + size_pieces l

piece_length : (p : Piece) (s : Bytes) → length (unread_piece p s) ≡ size_piece p + length s
unfolding unread_piece size_piece
piece_length p s = omega (arith, length-append (word p.comparator) (p.text ++ s), length-append p.text s)

pieces_length : (l : List Piece) (s : Bytes) → length (unread_pieces l s) ≡ 2 + size_pieces l + length s
unfolding unread_pieces size_pieces
pieces_length [] s = omega arith
pieces_length (p ∷ l) s = omega (arith, piece_length p (unread_pieces l s), pieces_length l s)

-- A bracket of pieces.
bracket_spells : (p : Piece) (l : List Piece) (q : Query) → pieces_query p l ≡ q → breaks_pieces p l ≡ false → CleanFirst p → Clean p → AllClean l → Spells q (RawQuery.pieces p l) 0 (4 + size_piece p + size_pieces l)
unfolding surface breaks breaks_value depth longest unread
bracket_spells p l q e f g h k = record { is = e; names = f; values = refl; deepness = refl; chains = omega arith; proper = (g, h, k); size = λ s. omega (arith, piece_length p (unread_pieces l s), pieces_length l s) }

-- Categories.
category_word : is_namespace (bytes "Category") ≡ true
unfolding is_namespace is_name has_name_shape is_plain_code all is_name_byte any
category_word = rw (plain_composed (bytes "Category") refl)

pub respell : {q : Query} {r : RawQuery} {d n m : ℕ} → n ≡ m → Spells q r d n → Spells q r d m
respell {q = q} {r = r} {d = d} e t = subst (λ (k : ℕ). Spells q r d k) e t

category_first : (x : Bytes) → is_name x ≡ true → (l : List Piece) → AllClean l → any breaks_category l ≡ false → Spells (Query.category (categories_from (Categories.one x) l)) (RawQuery.pieces (plain (bytes "Category:" ++ x)) l) 0 (13 + length x + size_pieces l)
unfolding plain compared same reference_text size_piece
category_first [] h l k e = absurd (no_name h)
category_first (b ∷ t) h l k e =
    let x = b ∷ t in
    let r : reference (bytes "Category:" ++ x) ≡ qualified (bytes "Category") x = reads_reference (qualified (bytes "Category") x) (both_true category_word h) in
    let n = name_clean SurfaceComparator.Equal x h in
    respell (omega arith)
    (bracket_spells (plain (bytes "Category:" ++ x)) l (Query.category (categories_from (Categories.one x) l)) (rw r) (rw (r, h, e))
    (colon_first SurfaceComparator.Equal (bytes "Category") b t (namespace_no_colon (bytes "Category") category_word) (name_no_colon x h))
    (colon_clean SurfaceComparator.Equal (bytes "Category") category_word b t n.1 n.2) k)

pub categories_spell : (c : Categories) (l : List Piece) → spelled_categories c ≡ true → AllClean l → any breaks_category l ≡ false → Spells (Query.category (categories_from c l)) (raw_categories c l) 0 (13 + cost_categories c + size_pieces l)
unfolding spelled_categories raw_categories cost_categories categories_from plain size_pieces size_piece any
categories_spell (Categories.one x) l h k e = category_first x (composed_typed x h) l k e
categories_spell (Categories.either a (Categories.one y)) l h k e =
    let f = and_true (spelled_categories a) (is_composed_name y) h in
    let n = composed_typed y f.1 in
    respell (omega arith) (categories_spell a (plain y ∷ l) f.0 (name_clean SurfaceComparator.Equal y n, k) (rw n e))
categories_spell (Categories.either a (Categories.either b c)) l h k e = absurd (false≢true (and_true (spelled_categories a) false h).1)

-- Identifiers: what is said of one alternative.
record Leaf (i : Identifiers) : Type 0 where
  clean : Clean (identifier_piece i)
  leads : CleanFirst (identifier_piece i)
  is : identifier_of (identifier_piece i) ≡ i
  names : breaks_reference (identifier_piece i) ≡ false
  category : is_category (identifier_piece i) ≡ reads_as_category i
  size : size_piece (identifier_piece i) ≡ cost_identifiers i

leaf_namespace : (n : Bytes) → is_namespace n ≡ true → Leaf (Identifiers.namespace n)
unfolding plain compared same reads_as_category size_piece cost_identifiers is_free any all trim_end
leaf_namespace n h =
    let r = reads_plus n h in
    record {
      clean = colon_clean SurfaceComparator.Equal n h 43 [] refl refl;
      leads = colon_first SurfaceComparator.Equal n 43 [] (namespace_no_colon n h) refl;
      is = rw r;
      names = rw (r, h);
      category = rw r;
      size = omega (arith, length-append n (bytes ":+"));
    }

reference_clean : (c : SurfaceComparator) (r : Reference) → is_reference r ≡ true → Clean (compared c (reference_text r)) × CleanFirst (compared c (reference_text r))
unfolding compared reference_text
reference_clean c (bare x) h = (name_clean c x h, plain_first c x (name_no_colon x h))
reference_clean c (qualified n []) h = absurd (no_name (and_true (is_namespace n) (is_name []) h).1)
reference_clean c (qualified n (b ∷ x)) h =
    let k = and_true (is_namespace n) (is_name (b ∷ x)) h in
    let m = name_clean c (b ∷ x) k.1 in
    (colon_clean c n k.0 b x m.1 m.2, colon_first c n b x (namespace_no_colon n k.0) (name_no_colon (b ∷ x) k.1))

reference_length : (r : Reference) → length (reference_text r) ≡ cost_reference r
unfolding reference_text cost_reference
reference_length (bare x) = refl
reference_length (qualified n x) = length-append n (58 ∷ x)

no_plus : (r : Reference) → is_reference r ≡ true → is_plus_of r ≡ false
no_plus (bare x) h = refl
no_plus (qualified n x) h = name_no_plus x (and_true (is_namespace n) (is_name x) h).1

and_no : (a : Bool) → a && false ≡ false
and_no true = refl
and_no false = refl

leaf_reference : (c : SurfaceComparator) (r : Reference) → is_reference r ≡ true → Leaf (Identifiers.reference c r)
unfolding compared reads_as_category size_piece cost_identifiers
leaf_reference c r h =
    let e = reads_reference r h in
    let p = compared c (reference_text r) in
    let k = reference_clean c r h in
    let m : is_namespace_piece p ≡ false = rw (e, no_plus r h) (and_no (is_plain p)) in
    record {
      clean = k.0;
      leads = k.1;
      is = rw (m, e);
      names = rw (m, e, h);
      category = ap (λ (b : Bool). is_equal c && b) (ap is_category_of e);
      size = ap (λ (j : ℕ). length (word c) + j) (reference_length r);
    }

leaf : (i : Identifiers) → is_one_identifier i ≡ true → spelled_identifiers i ≡ true → Leaf i
unfolding spelled_identifiers
leaf (Identifiers.namespace n) e h = leaf_namespace n (namespace_typed n h)
leaf (Identifiers.reference c r) e h = leaf_reference c r (reference_typed r h)
leaf (Identifiers.either a b) e h = absurd (false≢true e)

first_spells : (i : Identifiers) (l : List Piece) → Leaf i → reads_as_category i ≡ false → AllClean l → any breaks_reference l ≡ false → Spells (Query.identifier (identifiers_from i l)) (RawQuery.pieces (identifier_piece i) l) 0 (4 + cost_identifiers i + size_pieces l)
unfolding any
first_spells i l f h k e =
    let p = identifier_piece i in
    let m : is_category p ≡ false = f.category ∙ h in
    respell (omega (arith, f.size))
    (bracket_spells p l (Query.identifier (identifiers_from i l))
    (ap (λ (b : Bool). cond b (Query.category (categories_from (Categories.one (article_of (reference p.text))) l)) (Query.identifier (identifiers_from (identifier_of p) l))) m ∙ ap (λ (j : Identifiers). Query.identifier (identifiers_from j l)) f.is)
    (ap (λ (b : Bool). cond b (not (is_name (article_of (reference p.text))) || any breaks_category l) (breaks_reference p || any breaks_reference l)) m ∙ both_false f.names e)
    f.leads f.clean k)

pub identifiers_spell : (i : Identifiers) (l : List Piece) → spelled_identifiers i ≡ true → reads_as_category i ≡ false → AllClean l → any breaks_reference l ≡ false → Spells (Query.identifier (identifiers_from i l)) (raw_identifiers i l) 0 (4 + cost_identifiers i + size_pieces l)
unfolding spelled_identifiers reads_as_category raw_identifiers cost_identifiers identifiers_from size_pieces any
identifiers_spell (Identifiers.namespace n) l h g k e = first_spells (Identifiers.namespace n) l (leaf_namespace n (namespace_typed n h)) g k e
identifiers_spell (Identifiers.reference c r) l h g k e = first_spells (Identifiers.reference c r) l (leaf_reference c r (reference_typed r h)) g k e
identifiers_spell (Identifiers.either a b) l h g k e =
    let f = and_true (spelled_identifiers a) (is_one_identifier b && spelled_identifiers b) h in
    let j = and_true (is_one_identifier b) (spelled_identifiers b) f.1 in
    let m = leaf b j.0 j.1 in
    let t = respell {m = 4 + (cost_identifiers a + (2 + cost_identifiers b)) + size_pieces l} (omega (arith, m.size)) (identifiers_spell a (identifier_piece b ∷ l) f.0 g (m.clean, k) (both_false m.names e)) in
    subst (λ (i : Identifiers). Spells (Query.identifier (identifiers_from (Identifiers.either a i) l)) (raw_identifiers a (identifier_piece b ∷ l)) 0 (4 + (cost_identifiers a + (2 + cost_identifiers b)) + size_pieces l)) m.is t

-- Groups, where one is needed.
grouped : {q : Query} {r : RawQuery} {d n : ℕ} (t : Bool) → Spells q r d n → Spells q (group_if t r) (under t d) (wrapped t n)
unfolding surface breaks breaks_value depth longest unread
grouped true h = record { is = h.is; names = h.names; values = h.values; deepness = ap suc h.deepness; chains = h.chains; proper = h.proper; size = λ s. omega (arith, h.size (bytes "</q>" ++ s)) }
grouped false h = h

categories_single : (c : Categories) (l : List Piece) → (is_raw_disjunction (raw_categories c l) ≡ false) × (is_raw_joined (raw_categories c l) ≡ false)
unfolding raw_categories
categories_single (Categories.one x) l = (refl, refl)
categories_single (Categories.either a b) l = categories_single a (category_piece b ∷ l)

identifiers_single : (i : Identifiers) (l : List Piece) → (is_raw_disjunction (raw_identifiers i l) ≡ false) × (is_raw_joined (raw_identifiers i l) ≡ false)
unfolding raw_identifiers
identifiers_single (Identifiers.namespace n) l = (refl, refl)
identifiers_single (Identifiers.reference c r) l = (refl, refl)
identifiers_single (Identifiers.either a b) l = identifiers_single a (identifier_piece b ∷ l)

raw_level : (q : Query) → (is_raw_disjunction (raw q) ≡ is_disjunction q) × (is_raw_joined (raw q) ≡ is_joined q)
unfolding raw
raw_level (Query.category c) = categories_single c []
raw_level (Query.identifier i) = identifiers_single i []
raw_level (Query.property p a) = (refl, refl)
raw_level (Query.disjunction a b) = (refl, refl)
raw_level (Query.conjunction a b) = (refl, refl)

-- What is grouped is no disjunction, and no conjunction.
level_kept : (f : RawQuery → Bool) → ((q : RawQuery) → f (RawQuery.group q) ≡ false) → (r : RawQuery) (t : Bool) → f r ≡ t → f (group_if t r) ≡ false
level_kept f g r true e = g r
level_kept f g r false e = e

raw_either : (a : Alternatives) → is_one_alternative a ≡ true → is_raw_either (raw_in a) ≡ false
unfolding raw
raw_either Alternatives.existence h = refl
raw_either (Alternatives.value c v) h = refl
raw_either (Alternatives.subquery q) h = refl
raw_either (Alternatives.either a b) h = absurd (false≢true h)

existence_spells : SpellsIn Alternatives.existence (RawAlternatives.piece (plain (bytes "+"))) 0 1
unfolding surface breaks breaks_value depth longest unread unread_piece plain same is_value all any trim_end Rattle.text.specs.Class.is_value_byte is_free
existence_spells = record { is = refl; names = refl; values = refl; deepness = refl; chains = omega arith; proper = (refl, refl, refl, λ e. refl); size = λ s. omega arith }

value_spells : (c : SurfaceComparator) (v : Bytes) → spelled_value c v ≡ true → SpellsIn (Alternatives.value c v) (RawAlternatives.piece (compared c v)) 0 (length (word c) + length v)
unfolding surface breaks breaks_value depth longest unread compared size_piece spelled_value
value_spells c v h =
    let k = and_true (is_value v) _ h in
    let e = not_not (is_equal c && (eqb (first v) 33 || same v (bytes "+"))) k.1 in
    let m : is_existence (compared c v) ≡ false = go (is_equal c) (eqb (first v) 33) (same v (bytes "+")) e in
    record { is = rw m; names = refl; values = rw k.0; deepness = refl; chains = omega arith; proper = value_clean c v h; size = piece_length (compared c v) }
  where
    go : (a b d : Bool) → a && (b || d) ≡ false → a && d ≡ false
    go true b d h = (or_false b d h).1
    go false b d h = refl

chain_spelled : (p : Chain) → spelled_chain p ≡ true → (breaks_names p ≡ false) × (names_in p ≤ 8)
unfolding spelled_chain
chain_spelled p h = let k = and_true (spelled_names p) (leb (names_in p) 8) h in (names_typed p k.0, leb-true (names_in p) 8 k.1)

chain_length : (p : Chain) → length (unread_chain p) ≡ cost_chain p
unfolding unread_chain cost_chain
chain_length (single x) = refl
chain_length (chain x p) = length-append x (46 ∷ unread_chain p) ∙ ap (λ (n : ℕ). length x + suc n) (chain_length p)

categories_alone : (c : Categories) → spelled_categories c ≡ true → Spells (Query.category c) (raw_categories c []) 0 (13 + cost_categories c)
unfolding categories_from any size_pieces
categories_alone c h = respell (omega arith) (categories_spell c [] h tt refl)

identifiers_alone : (i : Identifiers) → spelled_identifiers i && not (reads_as_category i) ≡ true → Spells (Query.identifier i) (raw_identifiers i []) 0 (4 + cost_identifiers i)
unfolding identifiers_from any size_pieces
identifiers_alone i h =
    let k = and_true (spelled_identifiers i) (not (reads_as_category i)) h in
    respell (omega arith) (identifiers_spell i [] k.0 (not_not (reads_as_category i) k.1) tt refl)

mutual
  unfolding raw is_spelled cost deep surface breaks breaks_value depth longest unread

  pub spells_in : (a : Alternatives) → spelled_in a ≡ true → SpellsIn a (raw_in a) (deep_in a) (cost_in a)
  spells_in Alternatives.existence h = existence_spells
  spells_in (Alternatives.value c v) h = value_spells c v h
  spells_in (Alternatives.subquery q) h =
      let t = spells q h in
      record { is = ap Alternatives.subquery t.is; names = t.names; values = t.values; deepness = ap suc t.deepness; chains = t.chains; proper = t.proper; size = λ s. omega (arith, t.size (bytes "</q>" ++ s)) }
  spells_in (Alternatives.either a b) h =
      let k = and_true (spelled_in a) (is_one_alternative b && spelled_in b) h in
      let j = and_true (is_one_alternative b) (spelled_in b) k.1 in
      let t = spells_in a k.0 in
      let u = spells_in b j.1 in
      record {
        is = ap₂ Alternatives.either t.is u.is;
        names = both_false t.names u.names;
        values = both_false t.values u.values;
        deepness = ap₂ max t.deepness u.deepness;
        chains = omega (arith, t.chains, u.chains);
        proper = (t.proper, u.proper, raw_either b j.0);
        size = λ s. omega (arith, t.size (bytes "||" ++ unread_in (raw_in b) s), u.size s);
      }

  pub spells : (q : Query) → is_spelled q ≡ true → Spells q (raw q) (deep q) (cost q)
  spells (Query.category c) h = categories_alone c h
  spells (Query.identifier i) h = identifiers_alone i h
  spells (Query.property p a) h =
      let k = and_true (spelled_chain p) (spelled_in a) h in
      let c = chain_spelled p k.0 in
      let t = spells_in a k.1 in
      record {
        is = ap (Query.property p) t.is;
        names = both_false c.0 t.names;
        values = t.values;
        deepness = t.deepness;
        chains = omega (arith, t.chains, c.1);
        proper = (head_clean p c.0, t.proper);
        size = λ s. omega (arith, length-append (unread_chain p) (bytes "::" ++ unread_in (raw_in a) (bytes "]]" ++ s)), t.size (bytes "]]" ++ s), chain_length p);
      }
  spells (Query.disjunction a b) h =
      let k = and_true (is_spelled a) (is_spelled b) h in
      let t = spells a k.0 in
      let u = grouped (is_disjunction b) (spells b k.1) in
      record {
        is = ap₂ Query.disjunction t.is u.is;
        names = both_false t.names u.names;
        values = both_false t.values u.values;
        deepness = ap₂ max t.deepness u.deepness;
        chains = omega (arith, t.chains, u.chains);
        proper = (t.proper, u.proper, level_kept is_raw_disjunction (λ q. refl) (raw b) (is_disjunction b) (raw_level b).0);
        size = λ s. omega (arith, t.size (bytes "OR" ++ unread (group_if (is_disjunction b) (raw b)) s), u.size s);
      }
  spells (Query.conjunction a b) h =
      let k = and_true (is_spelled a) (is_spelled b) h in
      let t = grouped (is_disjunction a) (spells a k.0) in
      let u = grouped (is_joined b) (spells b k.1) in
      record {
        is = ap₂ Query.conjunction t.is u.is;
        names = both_false t.names u.names;
        values = both_false t.values u.values;
        deepness = ap₂ max t.deepness u.deepness;
        chains = omega (arith, t.chains, u.chains);
        proper = (t.proper, u.proper, level_kept is_raw_disjunction (λ q. refl) (raw a) (is_disjunction a) (raw_level a).0, level_kept is_raw_joined (λ q. refl) (raw b) (is_joined b) (raw_level b).1);
        size = λ s. omega (arith, t.size (unread (group_if (is_joined b) (raw b)) s), u.size s);
      }

-- The shortest text has the length that is said.
pub spell_length : (q : Query) → is_spelled q ≡ true → length (spell q) ≡ cost q
unfolding spell
spell_length q h = omega (arith, (spells q h).size [])

-- The round trip.
pub round_trip : (q : Query) → has_text q ≡ true → read_text (spell q) ≡ accepted q
unfolding has_text spell read_text judge
round_trip q h =
    let k = and_true (is_spelled q) (leb (cost q) 1024 && leb (deep q) 8) h in
    let j = and_true (leb (cost q) 1024) (leb (deep q) 8) k.1 in
    let t = spells q k.0 in
    let l : length (unread (raw q) []) ≤ 1024 = omega (arith, t.size [], leb-true (cost q) 1024 j.0) in
    let m : max (depth (raw q)) (longest (raw q)) ≤ 8 = omega (arith, t.deepness, t.chains, leb-true (deep q) 8 j.1) in
    rw (le-ltb 1024 (length (unread (raw q) [])) l, whole_reads (raw q) t.proper, le-ltb 8 (max (depth (raw q)) (longest (raw q))) m, t.names, t.values, t.is, query_fixed q k.0)

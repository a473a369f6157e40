-- Laws of heads, pieces and brackets without `::`, and the ways through their functions.
use Rattle.std.specs.Prelude.{Option, Some, None}
use Prim.Native.Nat.{ℕ, ◌+◌, ◌-◌, ◌≤◌, ◌<◌, max}
use mathlib.Core.Path.{◌≡◌, refl, sym, ap, ◌∙◌}
use mathlib.Core.Bool.{Bool, true, false, cond, not, ◌&&◌, ◌||◌, or-false}
use mathlib.Core.List.{List, [], ◌∷◌, ◌++◌, append_assoc, append-nil}
use native.Mathlib.Omega.{arith}
use Rattle.language.specs.declared.SurfaceComparator.{SurfaceComparator}
use lib.Dec.{ltb, leb}
use lib.ListN.{length}
use borrow.Author.Tests.{lt-ltb, le-ltb, leb-true, leb-false}
use Rattle.text.specs.Bytes.{Bytes, bytes, any, same, after, span, part}
use Rattle.text.specs.Class.{is_other}
use Rattle.text.specs.Parts.{part_of, Trimmed}
use Rattle.text.specs.declared.Span.{Span}
use Rattle.names.specs.Names.{is_name, is_property_name}
use Rattle.values.specs.Names.{bare, is_value, reference}
use Rattle.values.specs.Answers.{reference_at, split_of}
use Rattle.values.specs.declared.Split.{Split}
use Rattle.language.specs.Answer.{◌>>=◌, found, only_if}
use Rattle.language.specs.Comparators.{is_equal}
use Rattle.language.specs.Surface.{Chain, single, chain, Categories, Identifiers, Alternatives}
use Rattle.language.specs.RawQuery.{Piece, RawQuery, RawAlternatives, piece_at, read_pieces, bracket_of, plain_body}
use Rattle.language.specs.QueryText.{names_in, depth, depth_in, longest, longest_in, breaks, breaks_in, breaks_value, breaks_value_in, breaks_names, breaks_category, breaks_reference, is_category, is_namespace_piece, namespace_of, article_of, is_existence, categories_from, identifiers_from, identifier_of, surface, surface_in}
use Rattle.language.proofs.Options.{OnSome}
use Rattle.language.proofs.Shorter.{after_leaves}
use Rattle.language.proofs.Leaving.{piece_leaves}
use Rattle.language.proofs.Readers.{pieces_eq}
use Rattle.query_text_pieces.specs.Places.{from, rest_of, head_of, piece_of, category_told, read_told}
use Rattle.query_text_pieces.specs.declared.Placed.{Placed}
use Rattle.query_text_pieces.specs.declared.Read.{Read}
use Rattle.query_text_pieces.proofs.Laws.{head_last, head_dot}
use Rattle.query_tree.specs.Nodes.{Node, tree, tree_in, tree_categories, tree_identifiers}
use Rattle.query_tree.specs.Reading.{node_by}
use Rattle.query_tree.specs.declared.TreeNode.{TreeNode}
use Rattle.query_text_heads.specs.Effects.{Effect, noded, one, met, ◌then◌, flagged, After, ReadsPart}
use Rattle.std.specs.Result.{is_err}
use Rattle.query_text_heads.specs.Trees.{read_refusal, number_of_read, deeper, effect, effect_in, chain_nodes, chain_effect, value_node, node_of_piece, piece_effect, rest_effect, tail_pieces}
use Rattle.query_text_heads.specs.declared.Seen.{Seen}
use Rattle.query_text_heads.proofs.Following.{after_then, after_met, nothing_met, after_noded}
use Rattle.query_text_heads.proofs.Readings.{same_effect, or_comm, same_test, one_deeper, reads_map}

-- Heads.
deep_last : (n : ℕ) → ltb 8 (n + 1) ≡ leb 8 n
deep_last n = go (leb 8 n) refl
  where
    go : (t : Bool) → leb 8 n ≡ t → ltb 8 (n + 1) ≡ t
    go true e = lt-ltb 8 (n + 1) (omega (arith, leb-true 8 n e))
    go false e = le-ltb 8 (n + 1) (omega (arith, leb-false 8 n e))

chain_single : (n : ℕ) (x : Bytes) → chain_effect n (single x) ≡ noded (Node.property x) (leb 8 n) (not (is_property_name x)) false
unfolding chain_effect chain_nodes names_in breaks_names noded
chain_single n x = same_effect refl (deep_last n) refl refl

chain_more : (n : ℕ) (x : Bytes) (p : Chain) → chain_effect n (chain x p) ≡ chain_effect (deeper n) p then noded (Node.link x) false (not (is_property_name x)) false
unfolding chain_effect chain_nodes names_in breaks_names noded ◌then◌
chain_more n x p =
    same_effect refl (one_deeper n (names_in p) ∙ sym (or-false _)) (or_comm (not (is_property_name x)) (breaks_names p)) refl

module _ (s h : Bytes) (at len dot names : ℕ) (t : Bytes) (n r : Seen) (x : Span) (y : Bytes) (b : Bool) (p : h ≡ part s at len) (q : dot ≡ 0 + span (is_other 46) h) (e : y ≡ part_of s x) (f : b ≡ is_property_name y) where
  pub chain_last : (t' : Bytes) (n' : Seen) → length h ≤ dot → Trimmed s at len x → After t n (one (Node.property (part_of s x))) t' n' → r ≡ flagged n' (leb 8 names) (not b) false → After t n (chain_effect names (head_of s at len)) t' r
  chain_last t' n' l z a g =
      rw (head_last s h at len dot p q l, chain_single, ← z.is, ← e, ← f) (rw (← e) at (after_noded t t' n n' r (Node.property (part_of s x)) (leb 8 names) (not b) false a g))

  pub chain_on : (t' t'' : Bytes) (n' n'' : Seen) (deep : ℕ) → deep ≡ deeper names → dot < length h → After t n (chain_effect deep (head_of s (at + dot + 1) (len - dot - 1))) t' n' → Trimmed s at dot x → After t' n' (one (Node.link (part_of s x))) t'' n'' → r ≡ flagged n'' false (not b) false → After t n (chain_effect names (head_of s at len)) t'' r
  chain_on t' t'' n' n'' deep d l a z w g =
      let c = after_noded t' t'' n' n'' r (Node.link (part_of s x)) false (not b) false w g in
      rw (head_dot s h at len dot p q l, chain_more, ← d, ← z.is, ← e, ← f) (rw (← e) at (after_then t t' t'' n n' r _ _ a c))

-- A property piece.
value_node_lem : (s : Bytes) (b : Bool) (p : Placed) → node_by s (value_node b p) ∷ [] ≡ tree_in (cond b Alternatives.existence (Alternatives.value p.comparator (part_of s p.text)))
unfolding value_node tree_in
value_node_lem s true p = refl
value_node_lem s false p = refl

pub value_is : (s : Bytes) (p : Placed) (d : ℕ) (t t' : Bytes) (n n' r : Seen) (b v : Bool) (y : Bytes) (x : TreeNode) → b ≡ is_existence (piece_of s p) → x ≡ value_node b p → After t n (one (node_by s x)) t' n' → y ≡ part_of s p.text → v ≡ is_value y → r ≡ flagged n' (ltb 8 d) false (not v)
    → After t n (effect_in d (RawAlternatives.piece (piece_of s p))) t' r
unfolding effect_in surface_in depth_in longest_in breaks_in breaks_value_in noded
value_is s p d t t' n n' r b v y x e f a g h k =
    rw same_as (after_noded t t' n n' r (node_by s x) (ltb 8 d) false (not v) a k)
  where
    same_as : effect_in d (RawAlternatives.piece (piece_of s p)) ≡ noded (node_by s x) (ltb 8 d) false (not v)
    same_as =
        same_effect (rw (← e, f) (sym (value_node_lem s b p)))
        (same_test 8 (max (d + 0) 0) 8 d (λ h. omega arith) (λ h. omega arith)) refl (rw (h, g))

-- The node of a piece that is `namespace:+` or a reference, by how its reference is split.
module _ (s : Bytes) (p : Placed) (r : Split) (e : split_of s r ≡ reference (part_of s p.text)) where
  split_as : (o : Option Span) → r.namespace ≡ o → reference (part_of s p.text) ≡ reference_at s o r.article
  split_as o q = sym e ∙ ap (λ (o : Option Span). reference_at s o r.article) q

  pub node_bare : r.namespace ≡ None → node_by s (TreeNode.Bare p.comparator r.article) ≡ node_of_piece (piece_of s p)
  unfolding node_of_piece
  node_bare q = rw (split_as None q) (go (is_equal p.comparator))
    where
      go : (b : Bool) → Node.reference p.comparator (bare (part_of s r.article)) ≡ cond (b && false) (Node.namespace []) (Node.reference p.comparator (bare (part_of s r.article)))
      go true = refl
      go false = refl

  module _ (n : Span) (q : r.namespace ≡ Some n) (b m : Bool) (f : b ≡ is_equal p.comparator) (y : Bytes) (k : y ≡ part_of s r.article) (g : m ≡ same y (bytes "+")) where
    pub node_namespace : (b && m) ≡ true → node_by s (TreeNode.Namespace n) ≡ node_of_piece (piece_of s p)
    unfolding node_of_piece
    node_namespace h = rw (split_as (Some n) q, ← f, ← k, ← g, h) refl

    pub node_qualified : (b && m) ≡ false → node_by s (TreeNode.Qualified p.comparator n r.article) ≡ node_of_piece (piece_of s p)
    unfolding node_of_piece
    node_qualified h = rw (split_as (Some n) q, ← f, ← k, ← g, h) refl

-- Whether it breaks a rule: it reads as neither, and is refused.
pub broken_is : (s : Bytes) (i : Identifiers) (b r : Bool) (p : Option Read) → read_told s p ≡ only_if (not b) (Some i) → r ≡ is_err (read_refusal p) → r ≡ b
unfolding read_told
broken_is s i true r None h e = e
broken_is s i false r None h e = cc
broken_is s i true r (Some (Read.Namespace x)) h e = cc
broken_is s i true r (Some (Read.Reference c x)) h e = cc
broken_is s i false r (Some (Read.Namespace x)) h e = e
broken_is s i false r (Some (Read.Reference c x)) h e = e

-- The number of a piece that is neither.
pub number_left : (o : Option Read) → ((x : Span) → o ≡ Some (Read.Namespace x) → ⊥) → ((c : SurfaceComparator) (x : Span) → o ≡ Some (Read.Reference c x) → ⊥) → 15 ≡ number_of_read o
number_left (Some (Read.Namespace x)) h k = absurd (h x refl)
number_left (Some (Read.Reference c x)) h k = absurd (k c x refl)
number_left None h k = refl

-- A piece outside property bodies has one node.
one_node : (p : Piece) → tree_identifiers (identifier_of p) ≡ node_of_piece p ∷ []
unfolding tree_identifiers node_of_piece
one_node p = go (is_namespace_piece p)
  where
    go : (b : Bool) → tree_identifiers (cond b (Identifiers.namespace (namespace_of (reference p.text))) (Identifiers.reference p.comparator (reference p.text))) ≡ cond b (Node.namespace (namespace_of (reference p.text))) (Node.reference p.comparator (reference p.text)) ∷ []
    go true = refl
    go false = refl

pub identifier_is : (s : Bytes) (p : Placed) (t t' : Bytes) (n n' r : Seen) (x : TreeNode) (b : Bool) → node_by s x ≡ node_of_piece (piece_of s p) → After t n (one (node_by s x)) t' n' → b ≡ breaks_reference (piece_of s p) → r ≡ flagged n' false b false → After t n (piece_effect false (piece_of s p)) t' r
unfolding piece_effect
identifier_is s p t t' n n' r x b e a f g = rw (← e, ← f) (after_noded t t' n n' r (node_by s x) false b false a g)

pub category_is : (s : Bytes) (x : Span) (t t' : Bytes) (n n' r : Seen) (b m : Bool) (y : Bytes) → After t n (one (Node.category (part_of s x))) t' n' → y ≡ part_of s x → m ≡ is_name y → r ≡ flagged n' false (not (b && m)) false
    → After t n (noded (Node.category (part_of s x)) false (not (b && is_name (part_of s x))) false) t' r
category_is s x t t' n n' r b m y a e f g = rw (← e, ← f) (rw (← e) at (after_noded t t' n n' r (Node.category (part_of s x)) false (not (b && m)) false a g))

module _ (s : Bytes) (p : Placed) (t t' : Bytes) (n r : Seen) (cats : Bool) where
  pub piece_category : (b : Bool) → cats ≡ true → b ≡ is_equal p.comparator → After t n (noded (Node.category (part_of s p.text)) false (not (b && is_name (part_of s p.text))) false) t' r → After t n (piece_effect cats (piece_of s p)) t' r
  unfolding piece_effect
  piece_category b e f a = rw (e, ← f) a

  pub piece_identifier : cats ≡ false → After t n (piece_effect false (piece_of s p)) t' r → After t n (piece_effect cats (piece_of s p)) t' r
  piece_identifier e a = rw e a

-- The pieces behind a first one.
abbrev headed : Piece → Option (List Piece × Bytes) → Option (List Piece × Bytes)
headed p o = o >>= λ l. Some (p ∷ l.0, l.1)

abbrev ended : List Piece → Option Bytes → Option (List Piece × Bytes)
ended l o = o >>= λ r. Some (l, r)

pieces_tail : (s : Bytes) → read_pieces s ≡ headed (piece_at s).0 (tail_pieces (piece_at s).1)
unfolding tail_pieces
pieces_tail s = pieces_eq s ∙ go (after (bytes "||") (piece_at s).1) (after (bytes "]]") (piece_at s).1)
  where
    go : (o w : Option Bytes) → found o (λ r. headed (piece_at s).0 (read_pieces r)) (ended ((piece_at s).0 ∷ []) w) ≡ headed (piece_at s).0 (found o read_pieces (ended [] w))
    go (Some r) w = refl
    go None (Some r) = refl
    go None None = refl

tail_some : (x y : Bytes) → after (bytes "||") x ≡ Some y → tail_pieces x ≡ read_pieces y
unfolding tail_pieces
tail_some x y h = rw h

module _ (s : Bytes) (at i : ℕ) (a : Option ℕ) (cats : Bool) (t t₁ t₂ t₃ : Bytes) (n n₁ n₂ : Seen) (r : Option (ℕ × Seen)) (p : Placed) (next : ℕ) (e : rest_of s a ≡ after (bytes "||") (from s at)) where
  pub pieces_on : a ≡ Some i → piece_at (from s i) ≡ (piece_of s p, from s next) → After t n (piece_effect cats (piece_of s p)) t₁ n₁ → After t₁ n₁ (one (Node.bar 1)) t₂ n₂ → ReadsPart s (rest_effect cats) t₂ n₂ (tail_pieces (from s next)) r t₃ → ReadsPart s (rest_effect cats) t n (tail_pieces (from s at)) r t₃
  unfolding rest_of rest_effect
  pieces_on g f h k l =
      let q = piece_of s p in
      let m : tail_pieces (from s at) ≡ headed q (tail_pieces (from s next)) = tail_some (from s at) (from s i) (sym e ∙ rw g) ∙ pieces_tail (from s i) ∙ rw f in
      rw m
      (reads_map s (rest_effect cats) t₂ t₃ n₂ (tail_pieces (from s next)) (rest_effect cats) t n (λ x. q ∷ x) r (k.adds.long ∙ h.adds.long)
      (λ x n' z. after_then t t₂ t₃ n n₂ n' _ _ (after_then t t₁ t₂ n n₁ n₂ _ _ h k) z) l)

module _ (s : Bytes) (at : ℕ) (a b : Option ℕ) (cats : Bool) (t : Bytes) (n : Seen) (e : rest_of s a ≡ after (bytes "||") (from s at)) (g : a ≡ None) (f : rest_of s b ≡ after (bytes "]]") (from s at)) where
  pub pieces_end : (i : ℕ) → b ≡ Some i → ReadsPart s (rest_effect cats) t n (tail_pieces (from s at)) (Some (i, n)) t
  unfolding rest_of tail_pieces rest_effect ReadsPart met flagged
  pieces_end i h = ([], rw (← e, g, ← f, h), nothing_met t n)

  pub pieces_not : b ≡ None → ReadsPart s (rest_effect cats) t n (tail_pieces (from s at)) None t
  unfolding rest_of tail_pieces ReadsPart
  pieces_not h = (rw (← e, g, ← f, h), refl)

pub ruleset pieces = (pieces_end, pieces_not)

-- What the pieces behind a first one add.
pub categories_tree : (c : Categories) (l : List Piece) → tree_categories (categories_from c l) ≡ tree_categories c ++ (rest_effect true l).nodes
unfolding tree_categories categories_from rest_effect piece_effect noded one met ◌then◌
categories_tree c [] = sym (append-nil (tree_categories c))
categories_tree c (p ∷ l) = categories_tree (Categories.either c (Categories.one p.text)) l ∙ simp append_assoc

pub identifiers_tree : (i : Identifiers) (l : List Piece) → tree_identifiers (identifiers_from i l) ≡ tree_identifiers i ++ (rest_effect false l).nodes
unfolding tree_identifiers identifiers_from rest_effect piece_effect noded one met ◌then◌
identifiers_tree i [] = sym (append-nil (tree_identifiers i))
identifiers_tree i (p ∷ l) = identifiers_tree (Identifiers.either i (identifier_of p)) l ∙ rw (one_node p) (simp append_assoc)

rest_deep : (b : Bool) (l : List Piece) → (rest_effect b l).deep ≡ false
unfolding rest_effect piece_effect noded one met ◌then◌
rest_deep b [] = refl
rest_deep true (p ∷ l) = rest_deep true l
rest_deep false (p ∷ l) = rest_deep false l

rest_value : (b : Bool) (l : List Piece) → (rest_effect b l).value ≡ false
unfolding rest_effect piece_effect noded one met ◌then◌
rest_value b [] = refl
rest_value true (p ∷ l) = rest_value true l
rest_value false (p ∷ l) = rest_value false l

rest_categories : (l : List Piece) → any breaks_category l ≡ (rest_effect true l).name
unfolding any rest_effect piece_effect noded one met ◌then◌
rest_categories [] = refl
rest_categories (p ∷ l) = rw (rest_categories l, or-false)

rest_references : (l : List Piece) → any breaks_reference l ≡ (rest_effect false l).name
unfolding any rest_effect piece_effect noded one met ◌then◌
rest_references [] = refl
rest_references (p ∷ l) = rw (rest_references l, or-false)

-- A bracket without `::`.
plain_tail : (s : Bytes) → plain_body s ≡ (tail_pieces (piece_at s).1 >>= λ l. Some (RawQuery.pieces (piece_at s).0 l.0, l.1))
unfolding plain_body
plain_tail s = rw (pieces_tail s) (go (tail_pieces (piece_at s).1))
  where
    go : (o : Option (List Piece × Bytes)) → ◌>>=◌ {B = RawQuery × Bytes} (headed (piece_at s).0 o) (λ x. bracket_of x.0 >>= λ q. Some (q, x.1)) ≡ (o >>= λ l. Some (RawQuery.pieces (piece_at s).0 l.0, l.1))
    go None = refl
    go (Some x) = refl

shallow : (d : ℕ) (b : Bool) (l : List Piece) → ltb 8 (max (d + 0) 0) ≡ (ltb 8 d || false || (rest_effect b l).deep)
shallow d b l = rw (rest_deep b l, or-false (ltb 8 d || false), or-false (ltb 8 d)) (same_test 8 (max (d + 0) 0) 8 d (λ h. omega arith) (λ h. omega arith))

module _ (d : ℕ) (p : Piece) (l : List Piece) where
  categories_effect : is_category p ≡ true → effect d (RawQuery.pieces p l) ≡ met (ltb 8 d) false false then noded (Node.category (article_of (reference p.text))) false (not (true && is_name (article_of (reference p.text)))) false then rest_effect true l
  unfolding effect surface depth longest breaks breaks_value met noded ◌then◌ tree tree_categories
  categories_effect e =
      let a = article_of (reference p.text) in
      same_effect (rw e (categories_tree (Categories.one a) l)) (shallow d true l) (rw (e, rest_categories l)) (sym (rest_value true l))

  identifiers_effect : is_category p ≡ false → effect d (RawQuery.pieces p l) ≡ met (ltb 8 d) false false then piece_effect false p then rest_effect false l
  unfolding effect surface depth longest breaks breaks_value met piece_effect ◌then◌ noded tree any
  identifiers_effect e =
      same_effect (rw e (identifiers_tree (identifier_of p) l ∙ rw (one_node p))) (shallow d false l) (rw (e, rest_references l)) (sym (rest_value false l))

only_some : {A : Type 0} (b : Bool) (x y : A) → Some x ≡ only_if b (Some y) → (b ≡ true) × (x ≡ y)
only_some true x y h = (refl, cc)
only_some false x y h = let z : ◌≡◌ {A = ℕ} 0 1 = cc in absurd (omega arith)

only_none : {A : Type 0} (b : Bool) (y : A) → None ≡ only_if b (Some y) → b ≡ false
only_none true y h = let z : ◌≡◌ {A = ℕ} 0 1 = cc in absurd (omega arith)
only_none false y h = refl

module _ (s : Bytes) (at d : ℕ) (t t₁ t₂ : Bytes) (n n₁ n₂ : Seen) (r : Option (ℕ × Seen)) (p : Placed) (next : ℕ) (f : Option Span) (h : piece_at (from s at) ≡ (piece_of s p, from s next)) (k : n₁ ≡ flagged n (ltb 8 d) false false)
    (c : category_told s f ≡ only_if (is_category (piece_of s p)) (Some (article_of (reference (part_of s p.text))))) where
  begun : (b : Bool) (e : Effect) → After t n₁ e t₁ n₂ → ((l : List Piece) → effect d (RawQuery.pieces (piece_of s p) l) ≡ met (ltb 8 d) false false then e then rest_effect b l)
      → ReadsPart s (rest_effect b) t₁ n₂ (tail_pieces (from s next)) r t₂ → ReadsPart s (effect d) t n (plain_body (from s at)) r t₂
  begun b e a g q =
      let m = after_then t t t₁ n n₁ n₂ (met (ltb 8 d) false false) e (rw k (after_met t n (ltb 8 d) false false)) a in
      rw (plain_tail, h)
      (reads_map s (rest_effect b) t₁ t₂ n₂ (tail_pieces (from s next)) (effect d) t n (RawQuery.pieces (piece_of s p)) r a.adds.long
      (λ l n' z. rw (g l) (after_then t t₁ t₂ n n₂ n' _ (rest_effect b l) m z)) q)

  pub plain_categories : (x : Span) → f ≡ Some x → After t n₁ (noded (Node.category (part_of s x)) false (not (true && is_name (part_of s x))) false) t₁ n₂ → ReadsPart s (rest_effect true) t₁ n₂ (tail_pieces (from s next)) r t₂ → ReadsPart s (effect d) t n (plain_body (from s at)) r t₂
  unfolding category_told
  plain_categories x e a q =
      let o = only_some _ _ _ (rw e at c) in
      begun true _ a (λ l. rw o.1 (categories_effect d (piece_of s p) l o.0)) q

  pub plain_identifiers : f ≡ None → After t n₁ (piece_effect false (piece_of s p)) t₁ n₂ → ReadsPart s (rest_effect false) t₁ n₂ (tail_pieces (from s next)) r t₂ → ReadsPart s (effect d) t n (plain_body (from s at)) r t₂
  unfolding category_told
  plain_identifiers e a q =
      let o = only_none _ _ (rw e at c) in
      begun false _ a (λ l. identifiers_effect d (piece_of s p) l o) q

-- Less text is left behind each piece.
pub fall_pieces : (s : Bytes) (at i k next : ℕ) (a : Option ℕ) (p : Placed) → rest_of s a ≡ after (bytes "||") (from s at) → a ≡ Some i → piece_at (from s i) ≡ (piece_of s p, from s next) → length (from s at) ≡ k → length (from s next) < k
unfolding rest_of
fall_pieces s at i k next a p e g f h =
    let o : OnSome (λ r. length r + 2 ≤ length (from s at)) (rest_of s a) = rw e (after_leaves (bytes "||") (from s at)) in
    let l : length (from s i) + 2 ≤ length (from s at) = rw g at o in
    let m : length (from s next) ≤ length (from s i) = rw f at (piece_leaves (from s i)) in
    omega arith

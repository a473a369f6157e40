-- 17: a property of the tree that is not declared.
use Rattle.std.specs.Prelude.{Option, Some, None}
use Rattle.std.specs.Option.{is_none}
use Prim.Native.Nat.{ℕ, zero, suc, ◌+◌}
use mathlib.Core.Path.{◌≡◌, refl, sym, ap, ap₂, ◌∙◌}
use mathlib.Core.Bool.{Bool, true, false, ◌||◌, or-false, or_assoc}
use mathlib.Core.List.{List, [], ◌∷◌, ◌++◌}
use native.Mathlib.Nat.{add-zero}
use native.Mathlib.Omega.{arith}
use lib.ListN.{length}
use Rattle.std.specs.List.{list_any, range_with_len}
use Rattle.text.specs.Bytes.{Bytes, any}
use Rattle.text.specs.Table.{tabulate}
use Rattle.text.proofs.Laws.{any_append}
use Rattle.values.specs.declared.Kind.{Kind}
use Rattle.language.specs.Answer.{found}
use Rattle.language.specs.Register.{Typing}
use Rattle.language.specs.Surface.{Chain, single, chain, Categories, Identifiers, Alternatives, Query, names_of, properties_in, properties_of}
use Rattle.language.specs.Elaboration.{is_undeclared}
use Rattle.query_tree.specs.Nodes.{Node, tree_categories, tree_identifiers, tree_chain, tree_in, tree}
use Rattle.query_core_fit.specs.Fitting.{node_undeclared}

-- The first nodes of a tree, one after the other.
any_one : {A : Type 0} (p : A → Bool) (x : A) → any p (x ∷ []) ≡ p x
unfolding any
any_one p x = or-false (p x)

-- A test of the things that f gives below n, by the library's words for a range.
range_last : (g : ℕ → Bool) (a n : ℕ) → list_any g (range_with_len a (suc n)) ≡ list_any g (range_with_len a n) || g (a + n)
range_last g a zero = rw add-zero (or-false (g a))
range_last g a (suc n) =
    let k : a + 1 + n ≡ a + suc n = omega arith in
    ap (λ b. g a || b) (range_last g (a + 1) n ∙ ap (λ i. list_any g (range_with_len (a + 1) n) || g i) k) ∙ sym (or_assoc (g a) (list_any g (range_with_len (a + 1) n)) (g (a + suc n)))

pub any_range : {A : Type 0} (p : A → Bool) (f : ℕ → A) (n : ℕ) → list_any (λ i. p (f i)) (range_with_len 0 n) ≡ any p (tabulate n f)
unfolding any tabulate
any_range p f zero = refl
any_range p f (suc n) =
    let k : 0 + n ≡ n = omega arith in
    range_last (λ i. p (f i)) 0 n ∙ ap₂ ◌||◌ (any_range p f n) (ap (λ i. p (f i)) k ∙ sym (any_one p (f n))) ∙ sym (any_append p (tabulate n f) (f n ∷ []))

-- The nodes of a query name its properties.
module _ (Γ : Typing) where
  abbrev some17 : List Node → Bool
  some17 l = any (node_undeclared Γ) l

  abbrev names17 : List Bytes → Bool
  names17 l = any (is_undeclared Γ) l

  name17 : (x : Bytes) → is_none (Γ x) ≡ is_undeclared Γ x
  name17 x = go (Γ x)
    where
      go : (k : Option Kind) → is_none k ≡ found k (λ a. false) true
      go None = refl
      go (Some k) = refl

  two17 : (l m : List Node) (y : Node) → node_undeclared Γ y ≡ false → some17 (l ++ m ++ (y ∷ [])) ≡ some17 l || some17 m
  two17 l m y e =
      any_append (node_undeclared Γ) (l ++ m) (y ∷ []) ∙ rw (any_append (node_undeclared Γ) l m, any_one (node_undeclared Γ) y, e) (or-false _)

  categories17 : (c : Categories) → some17 (tree_categories c) ≡ false
  unfolding tree_categories any
  categories17 (Categories.one x) = refl
  categories17 (Categories.either a b) = two17 (tree_categories a) (tree_categories b) (Node.bar (length (tree_categories b))) refl ∙ rw (categories17 a, categories17 b)

  identifiers17 : (i : Identifiers) → some17 (tree_identifiers i) ≡ false
  unfolding tree_identifiers any
  identifiers17 (Identifiers.namespace n) = refl
  identifiers17 (Identifiers.reference c r) = refl
  identifiers17 (Identifiers.either a b) = two17 (tree_identifiers a) (tree_identifiers b) (Node.bar (length (tree_identifiers b))) refl ∙ rw (identifiers17 a, identifiers17 b)

  -- a name behind what it is about
  behind17 : (l : List Node) (y : Node) (x : Bytes) → node_undeclared Γ y ≡ is_none (Γ x) → some17 (l ++ (y ∷ [])) ≡ is_undeclared Γ x || some17 l
  behind17 l y x e = any_append (node_undeclared Γ) l (y ∷ []) ∙ rw (any_one (node_undeclared Γ) y, e, name17 x) (swap (some17 l) (is_undeclared Γ x))
    where
      swap : (a b : Bool) → a || b ≡ b || a
      swap true true = refl
      swap true false = refl
      swap false true = refl
      swap false false = refl

  chain17 : (p : Chain) (l : List Node) → some17 (tree_chain p l) ≡ names17 (names_of p) || some17 l
  unfolding tree_chain names_of any
  chain17 (single x) l = behind17 l (Node.property x) x refl ∙ ap (λ b. b || some17 l) (sym (or-false (is_undeclared Γ x)))
  chain17 (chain x p) l = behind17 (tree_chain p l) (Node.link x) x refl ∙ rw (chain17 p l) (sym (assoc (is_undeclared Γ x) (names17 (names_of p)) (some17 l)))
    where
      assoc : (a b c : Bool) → (a || b) || c ≡ a || (b || c)
      assoc true b c = refl
      assoc false b c = refl

  mutual
    unfolding tree properties_of any

    in17 : (a : Alternatives) → some17 (tree_in a) ≡ names17 (properties_in a)
    in17 Alternatives.existence = refl
    in17 (Alternatives.value c v) = refl
    in17 (Alternatives.subquery q) = any_append (node_undeclared Γ) (tree q) (Node.subquery ∷ []) ∙ rw (query17 q) (or-false _)
    in17 (Alternatives.either a b) = two17 (tree_in a) (tree_in b) (Node.bar (length (tree_in b))) refl ∙ rw (in17 a, in17 b) (sym (any_append (is_undeclared Γ) (properties_in a) (properties_in b)))

    pub query17 : (q : Query) → some17 (tree q) ≡ names17 (properties_of q)
    query17 (Query.category c) = categories17 c
    query17 (Query.identifier i) = identifiers17 i
    query17 (Query.property p a) = chain17 p (tree_in a) ∙ rw (in17 a) (sym (any_append (is_undeclared Γ) (names_of p) (properties_in a)))
    query17 (Query.disjunction a b) = two17 (tree a) (tree b) (Node.or (length (tree b))) refl ∙ rw (query17 a, query17 b) (sym (any_append (is_undeclared Γ) (properties_of a) (properties_of b)))
    query17 (Query.conjunction a b) = two17 (tree a) (tree b) (Node.and (length (tree b))) refl ∙ rw (query17 a, query17 b) (sym (any_append (is_undeclared Γ) (properties_of a) (properties_of b)))

-- The two meanings of a query are one: the theorem behind demand 3.
use Rattle.std.specs.Prelude.{Option, Some, None}
use mathlib.Core.Path.{◌≡◌, refl, sym, ap, ap₂, ◌∙◌, subst}
use mathlib.Core.Bool.{Bool, true, false, cond, not, ◌&&◌, ◌||◌, false≢true}
use mathlib.Core.List.{List, [], ◌++◌, map, Memᴰ}
use Rattle.text.specs.Bytes.{Bytes, bytes, order_of, same, all}
use Rattle.std.specs.declared.cmp.Ordering.{Ordering}
use Rattle.text.proofs.Laws.{same_eq, all_append}
use Rattle.values.specs.declared.Kind.{Kind}
use Rattle.values.specs.Names.{Reference, bare, qualified, reference, is_reference, composed_reference}
use Rattle.values.specs.Values.{Constant, Value, plain, link, kind_of, kind_of_constant, order_constants, map_option, read_constant, same_kind}
use Rattle.language.specs.Answer.{accepted, ◌>>=◌, found, only_if}
use Rattle.language.specs.Comparators.{word, is_equal, strictly, or_equal}
use Rattle.language.specs.Register.{Held, Page, Register, Typing, kinds_of, holds, leads, has_kind, kinds_hold}
use Rattle.language.specs.Surface.{Chain, single, chain, Categories, Identifiers, Alternatives, Query, names_of, properties_in, properties_of}
use Rattle.language.specs.Core.{Selector, Core}
use Rattle.language.specs.Elaboration.{strict_or_equal, compared, article_stands, within, elaborate_reference, elaborate_identifiers, elaborate_categories, elaborate_constant, elaborate_value, inside, joined, along, elaborate_in, elaborate}
use Rattle.language.specs.Semantics.{stands, no_mixed, Ca, Cv, Cl, follows, Q, selects, some_other, mismatch, run}
use Rattle.language.specs.References.{stands_as, namespace_meant, is_meant}
use Rattle.language.specs.Direct.{means_reference, means_identifiers, means_categories, stands_to, means_link, means_value, means_chain, means_in, means}
use Rattle.language.specs.Agreement.{agree, kinds_agree}
use Rattle.language.specs.declared.Comparator.{Comparator}
use Rattle.language.specs.declared.SurfaceComparator.{SurfaceComparator}
use Rattle.language.proofs.AllComparators.{of_cond, by_core}
use Rattle.language.proofs.EachComparator.{mark_word, stands_each}
use Rattle.language.proofs.Options.{OnSome}
use Rattle.language.proofs.Members.{and_true, both_false, all_at, any_none, map_same}
use Rattle.language.proofs.Holding.{holds_same, holds_none, holds_or, leads_same}
use Rattle.values.proofs.Sameness.{kind_eq, kind_refl}
use Rattle.language.proofs.Typed.{constant_kind}

by_false : (c : SurfaceComparator) → by_core (λ d. false) c ≡ false
by_false c = of_cond (λ b. b ≡ false) (or_equal c) (false || false) false refl refl

by_value : (c : SurfaceComparator) (v : Constant) (a : Value) → by_core (λ d. Cv no_mixed d v a) c ≡ stands_to c v a
unfolding Cv stands_to
by_value c v (plain w) = go (order_constants w v)
  where
    go : (o : Option Ordering) → by_core (λ d. found o (stands d) false) c ≡ found o (stands_as c) false
    go None = by_false c
    go (Some o) = stands_each c o
by_value c v (link i) = by_false c

by_holds : (x : Bytes) (f : Comparator → Value → Bool) (p : Page) (c : SurfaceComparator) → by_core (λ d. holds x (f d) p) c ≡ holds x (λ a. by_core (λ d. f d a) c) p
by_holds x f p c = go (or_equal c)
  where
    go : (t : Bool) → cond t (holds x (f (strictly c)) p || holds x (f Comparator.Equal) p) (holds x (f (strictly c)) p) ≡ holds x (λ a. cond t (f (strictly c) a || f Comparator.Equal a) (f (strictly c) a)) p
    go true = holds_or x (f (strictly c)) (f Comparator.Equal) p
    go false = refl

module _ (R : Register) where
  -- What is said of a core query beside a meaning m: its run has no mismatch, and selects what m does.
  pub record Means (m : Page → Bool) (c : Core) : Type 0 where
    pub unmixed : mismatch c R ≡ false
    pub alike : (p : Page) → Memᴰ p R.pages → selects c R p ≡ m p

  means_same : (m n : Page → Bool) (c : Core) → Means m c → ((p : Page) → Memᴰ p R.pages → m p ≡ n p) → Means n c
  means_same m n c h e = record { unmixed = h.unmixed; alike = λ p i. h.alike p i ∙ e p i }

  -- the connectives
  or_means : (m n : Page → Bool) (a b : Core) → Means m a → Means n b → Means (λ p. m p || n p) (Core.disjunction a b)
  unfolding mismatch Q
  or_means m n a b h i =
      record { unmixed = both_false h.unmixed i.unmixed; alike = λ p e. ap₂ ◌||◌ (h.alike p e) (i.alike p e) }

  and_means : (m n : Page → Bool) (a b : Core) → Means m a → Means n b → Means (λ p. m p && n p) (Core.conjunction a b)
  unfolding mismatch Q
  and_means m n a b h i =
      record { unmixed = both_false h.unmixed i.unmixed; alike = λ p e. ap₂ ◌&&◌ (h.alike p e) (i.alike p e) }

  joined_means : (k : Core → Core → Core) (op : Bool → Bool → Bool) (m n : Page → Bool)
      → ((a b : Core) → Means m a → Means n b → Means (λ p. op (m p) (n p)) (k a b))
      → (a b : Option Core) → OnSome (Means m) a → OnSome (Means n) b → OnSome (Means (λ p. op (m p) (n p))) (joined k a b)
  unfolding joined
  joined_means k op m n law None b h i = tt
  joined_means k op m n law (Some a) None h i = tt
  joined_means k op m n law (Some a) (Some b) h i = law a b h i

  -- a comparison as written
  compared_means : (f : Comparator → Core) (g : Comparator → Page → Bool) (c : SurfaceComparator) → ((d : Comparator) → Means (g d) (f d)) → Means (λ p. by_core (λ d. g d p) c) (compared f c)
  unfolding compared
  compared_means f g c h = go (or_equal c)
    where
      go : (t : Bool) → Means (λ p. cond t (g (strictly c) p || g Comparator.Equal p) (g (strictly c) p)) (cond t (strict_or_equal f (strictly c)) (f (strictly c)))
      go true = or_means _ _ _ _ (h (strictly c)) (h Comparator.Equal)
      go false = h (strictly c)

  -- references, 5.3.1
  article_means : (x : Bytes) (c : SurfaceComparator) → Means (λ p. stands_as c (order_of p.identifier.article x)) (compared (λ d. Core.select (Selector.article d x)) c)
  unfolding mismatch Q Ca
  article_means x c =
      means_same _ _ _ (compared_means _ (λ d p. stands d (order_of p.identifier.article x)) c one)
      (λ p e. stands_each c (order_of p.identifier.article x))
    where
      one : (d : Comparator) → Means (λ p. stands d (order_of p.identifier.article x)) (Core.select (Selector.article d x))
      one d = record { unmixed = refl; alike = λ p e. refl }

  namespace_means : (n : Bytes) → Means (λ p. same p.identifier.namespace n) (Core.select (Selector.namespace n))
  unfolding mismatch Q
  namespace_means n = record { unmixed = refl; alike = λ p e. refl }

  within_means : (n x : Bytes) (c : SurfaceComparator)
      → Means (λ p. same p.identifier.namespace n && stands_as c (order_of p.identifier.article x)) (Core.conjunction (Core.select (Selector.namespace n)) (compared (λ d. Core.select (Selector.article d x)) c))
  within_means n x c = and_means _ _ _ _ (namespace_means n) (article_means x c)

  reference_means : (c : SurfaceComparator) (r : Reference) → Means (means_reference c r) (elaborate_reference c r)
  unfolding elaborate_reference is_meant namespace_meant
  reference_means c (bare x) = go (is_equal c)
    where
      go : (t : Bool) → Means (λ p. found (only_if t (Some [])) (λ n. same p.identifier.namespace n) true && stands_as c (order_of p.identifier.article x)) (cond t (within [] (article_stands x c)) (article_stands x c))
      go true = within_means [] x c
      go false = article_means x c
  reference_means c (qualified n x) = rw (← mark_word c) (go (same (word c) (bytes "!")))
    where
      go : (t : Bool) → Means (λ p. found (only_if (not t) (Some n)) (λ n. same p.identifier.namespace n) true && stands_as c (order_of p.identifier.article x)) (cond t (article_stands x c) (within n (article_stands x c)))
      go true = article_means x c
      go false = within_means n x c

  identifiers_means : (i : Identifiers) → Means (means_identifiers i) (elaborate_identifiers i)
  unfolding elaborate_identifiers means_identifiers
  identifiers_means (Identifiers.namespace n) = namespace_means n
  identifiers_means (Identifiers.reference c r) = reference_means c r
  identifiers_means (Identifiers.either a b) = or_means _ _ _ _ (identifiers_means a) (identifiers_means b)

  -- categories, 5.3.2
  categories_means : (c : Categories) → Means (means_categories c) (elaborate_categories c)
  unfolding elaborate_categories means_categories mismatch Q
  categories_means (Categories.one x) = record { unmixed = refl; alike = λ p e. refl }
  categories_means (Categories.either a b) = or_means _ _ _ _ (categories_means a) (categories_means b)

  existence_means : (x : Bytes) → Means (holds x (λ v. true)) (Core.select (Selector.existence x))
  unfolding mismatch Q
  existence_means x = record { unmixed = refl; alike = λ p e. refl }

  -- subqueries
  subquery_means : (x : Bytes) (m : Page → Bool) (c : Core) → some_other R x Kind.Page ≡ false → Means m c → Means (holds x (leads R m)) (Core.select (Selector.subquery x c))
  unfolding mismatch Q follows leads
  subquery_means x m c o h =
      record {
        unmixed = both_false o h.unmixed;
        alike = λ p e. holds_same x _ _ p (λ a n s. follow a.value);
      }
    where
      follow : (a : Value) → follows no_mixed R (λ p. Q c no_mixed R p) a ≡ leads R m a
      follow (plain v) = refl
      follow (link i) = leads_same R _ m h.alike (link i)

  -- links, page or no page
  link_means : (x : Bytes) (c : SurfaceComparator) (r : Reference) → some_other R x Kind.Page ≡ false → Means (holds x (means_link c r)) (Core.select (Selector.link x c r))
  unfolding mismatch Q Cl means_link
  link_means x c r o = record { unmixed = o; alike = λ p e. holds_same x _ _ p (λ a n s. alike a.value) }
    where
      alike : (a : Value) → Cl no_mixed c r a ≡ means_link c r a
      alike (plain v) = refl
      alike (link i) = refl

  -- values, 5.3.3
  constant_means : (x : Bytes) (c : SurfaceComparator) (v : Constant) → some_other R x (kind_of_constant v) ≡ false → Means (holds x (stands_to c v)) (elaborate_constant x c v)
  unfolding elaborate_constant mismatch Q
  constant_means x c v o =
      means_same _ _ _ (compared_means _ (λ d. holds x (Cv no_mixed d v)) c one)
      (λ p e. by_holds x (λ d. Cv no_mixed d v) p c ∙ holds_same x _ _ p (λ a n s. by_value c v a.value))
    where
      one : (d : Comparator) → Means (holds x (Cv no_mixed d v)) (Core.select (Selector.value x d v))
      one d = record { unmixed = o; alike = λ p e. refl }

-- Where the values of a register have their properties' kinds, and its kinds agree with those that a query was fitted to.
module _ (Γ : Typing) (R : Register) (kinds : kinds_hold R ≡ true) where
  abbrev Agree : Bytes → Type 0
  Agree x = agree (Γ x) (kinds_of R x) ≡ true

  rightly : (p : Page) → Memᴰ p R.pages → (h : Held) → Memᴰ h p.values → has_kind (kinds_of R h.property) (kind_of h.value) ≡ true
  unfolding kinds_hold
  rightly p m h n = all_at (λ h. has_kind (kinds_of R h.property) (kind_of h.value)) (all_at _ kinds m) n

  -- every value under x has the kind that x was fitted with
  fitted : (x : Bytes) (k : Kind) → Agree x → Γ x ≡ Some k → (p : Page) → Memᴰ p R.pages → (h : Held) → Memᴰ h p.values → same h.property x ≡ true → same_kind (kind_of h.value) k ≡ true
  fitted x k g e p m h n s =
      go (kinds_of R x) (subst (λ k. agree k (kinds_of R x) ≡ true) e g) (subst (λ y. has_kind (kinds_of R y) (kind_of h.value) ≡ true) (same_eq h.property x s) (rightly p m h n))
    where
      go : (o : Option Kind) → agree (Some k) o ≡ true → has_kind o (kind_of h.value) ≡ true → same_kind (kind_of h.value) k ≡ true
      go None a b = absurd (false≢true b)
      go (Some l) a b = rw (← kind_eq l (kind_of h.value) b, ← kind_eq k l a) (kind_refl k)

  none_other : (x : Bytes) (k : Kind) → Agree x → Γ x ≡ Some k → some_other R x k ≡ false
  unfolding some_other
  none_other x k g e =
      any_none _ R.pages (λ p m. holds_none x (λ v. not (same_kind (kind_of v) k)) p (λ h n s. ap not (fitted x k g e p m h n s)))

  -- under a property that the register does not declare nothing is held
  nothing_held : (x : Bytes) → kinds_of R x ≡ None → (f : Value → Bool) (p : Page) → Memᴰ p R.pages → holds x f p ≡ false
  nothing_held x e f p m =
      holds_none x f p (λ h n s. absurd (false≢true (subst (λ k. has_kind k (kind_of h.value) ≡ true) (ap (kinds_of R) (same_eq h.property x s) ∙ e) (rightly p m h n))))

  none_of : (x : Bytes) → kinds_of R x ≡ None → (c : SurfaceComparator) (p : Page) → Memᴰ p R.pages → (o : Option Constant) → found o (λ w. holds x (stands_to c w) p) false ≡ false
  none_of x e c p m None = refl
  none_of x e c p m (Some w) = nothing_held x e (stands_to c w) p m

  nothing_meant : (x : Bytes) → kinds_of R x ≡ None → (c : SurfaceComparator) (v : Bytes) (k : Kind) (p : Page) → Memᴰ p R.pages → means_value x c v (Some k) p ≡ false
  unfolding means_value
  nothing_meant x e c v Kind.Page p m = go (is_reference (reference v))
    where
      go : (b : Bool) → cond b (holds x (means_link c (composed_reference (reference v))) p) false ≡ false
      go true = nothing_held x e _ p m
      go false = refl
  nothing_meant x e c v (Kind.Scalar k) p m = none_of x e c p m (read_constant (Kind.Scalar k) v)
  nothing_meant x e c v Kind.String p m = none_of x e c p m (read_constant Kind.String v)

  constants : (x : Bytes) (c : SurfaceComparator) (k : Kind) → some_other R x k ≡ false → (o : Option Constant) → OnSome (λ v. kind_of_constant v ≡ k) o → OnSome (Means R (λ p. found o (λ w. holds x (stands_to c w) p) false)) (map_option (elaborate_constant x c) o)
  constants x c k h None e = tt
  constants x c k h (Some v) e = constant_means R x c v (rw e h)

  -- a piece, where the register declares its property with the kind fitted
  value_means : (x : Bytes) (c : SurfaceComparator) (v : Bytes) (k : Kind) → some_other R x k ≡ false → OnSome (Means R (means_value x c v (Some k))) (elaborate_value x c v k)
  unfolding elaborate_value means_value
  value_means x c v Kind.Page o = go (is_reference (reference v))
    where
      go : (b : Bool) → OnSome (Means R (λ p. cond b (holds x (means_link c (composed_reference (reference v))) p) false)) (cond b (Some (Core.select (Selector.link x c (composed_reference (reference v))))) None)
      go true = link_means R x c (composed_reference (reference v)) o
      go false = tt
  value_means x c v (Kind.Scalar k) o = constants x c (Kind.Scalar k) o (read_constant (Kind.Scalar k) v) (constant_kind (Kind.Scalar k) v)
  value_means x c v Kind.String o = constants x c Kind.String o (read_constant Kind.String v) (constant_kind Kind.String v)

  -- and where it does not
  piece_means : (x : Bytes) (c : SurfaceComparator) (v : Bytes) → Agree x → OnSome (Means R (means_value x c v (kinds_of R x))) (Γ x >>= elaborate_value x c v)
  unfolding means_value
  piece_means x c v g = fit (Γ x) refl
    where
      declared : (k : Kind) → Γ x ≡ Some k → (o : Option Kind) → kinds_of R x ≡ o → (q : Option Core) → OnSome (Means R (means_value x c v (Some k))) q → OnSome (Means R (means_value x c v o)) q
      declared k e o f None h = tt
      declared k e None f (Some d) h = means_same R _ _ d h (λ p m. nothing_meant x f c v k p m)
      declared k e (Some l) f (Some d) h = subst (λ l. Means R (means_value x c v (Some l)) d) (kind_eq k l (subst (λ j. agree j (Some l) ≡ true) e (subst (λ o. agree (Γ x) o ≡ true) f g))) h

      fit : (o : Option Kind) → Γ x ≡ o → OnSome (Means R (means_value x c v (kinds_of R x))) (o >>= elaborate_value x c v)
      fit None e = tt
      fit (Some k) e = declared k e (kinds_of R x) refl (elaborate_value x c v k) (value_means x c v k (none_other x k g e))

  inside_means : (x : Bytes) (m : Page → Bool) → Agree x → (q : Option Core) → OnSome (Means R m) q → OnSome (Means R (holds x (leads R m))) (inside x (Γ x) q)
  unfolding inside
  inside_means x m g q h = go (Γ x) refl q h
    where
      go : (o : Option Kind) → Γ x ≡ o → (q : Option Core) → OnSome (Means R m) q → OnSome (Means R (holds x (leads R m))) (inside x o q)
      go None e q h = tt
      go (Some Kind.Page) e None h = tt
      go (Some Kind.Page) e (Some c) h = subquery_means R x m c (none_other x Kind.Page g e) h
      go (Some (Kind.Scalar k)) e q h = tt
      go (Some Kind.String) e q h = tt

  along_means : (c : Chain) (f : Bytes → Option Core) (m : Bytes → Page → Bool) → all (λ x. agree (Γ x) (kinds_of R x)) (names_of c) ≡ true
      → ((x : Bytes) → Agree x → OnSome (Means R (m x)) (f x)) → OnSome (Means R (means_chain R c m)) (along Γ c f)
  unfolding along means_chain names_of all
  along_means (single x) f m g h = h x (and_true _ true g).0
  along_means (chain x c) f m g h =
      let t = and_true (agree (Γ x) (kinds_of R x)) (all (λ x. agree (Γ x) (kinds_of R x)) (names_of c)) g in
      inside_means x (means_chain R c m) t.0 (along Γ c f) (along_means c f m t.1 h)

  abbrev Agreeing : List Bytes → Type 0
  Agreeing l = all (λ x. agree (Γ x) (kinds_of R x)) l ≡ true

  agreeing_parts : (l k : List Bytes) → Agreeing (l ++ k) → Agreeing l × Agreeing k
  agreeing_parts l k g = and_true _ _ (sym (all_append (λ x. agree (Γ x) (kinds_of R x)) l k) ∙ g)

  -- 5.3.4
  mutual
    unfolding elaborate means properties_of

    alternatives_mean : (a : Alternatives) (x : Bytes) → Agreeing (properties_in a) → Agree x → OnSome (Means R (means_in a R x)) (elaborate_in a Γ x)
    alternatives_mean Alternatives.existence x g h = existence_means R x
    alternatives_mean (Alternatives.value c v) x g h = piece_means x c v h
    alternatives_mean (Alternatives.subquery q) x g h = inside_means x (λ p. means q R p) h (elaborate q Γ) (query_means q g)
    alternatives_mean (Alternatives.either a b) x g h =
        let t = agreeing_parts (properties_in a) (properties_in b) g in
        joined_means R Core.disjunction ◌||◌ _ _ (or_means R _ _) (elaborate_in a Γ x) (elaborate_in b Γ x) (alternatives_mean a x t.0 h) (alternatives_mean b x t.1 h)

    query_means : (q : Query) → Agreeing (properties_of q) → OnSome (Means R (means q R)) (elaborate q Γ)
    query_means (Query.category c) g = categories_means R c
    query_means (Query.identifier i) g = identifiers_means R i
    query_means (Query.property c a) g =
        let t = agreeing_parts (names_of c) (properties_in a) g in
        along_means c (λ x. elaborate_in a Γ x) (λ x p. means_in a R x p) t.0 (λ x h. alternatives_mean a x t.1 h)
    query_means (Query.disjunction a b) g =
        let t = agreeing_parts (properties_of a) (properties_of b) g in
        joined_means R Core.disjunction ◌||◌ _ _ (or_means R _ _) (elaborate a Γ) (elaborate b Γ) (query_means a t.0) (query_means b t.1)
    query_means (Query.conjunction a b) g =
        let t = agreeing_parts (properties_of a) (properties_of b) g in
        joined_means R Core.conjunction ◌&&◌ _ _ (and_means R _ _) (elaborate a Γ) (elaborate b Γ) (query_means a t.0) (query_means b t.1)

-- The theorem. A query that elaborates by the kinds Γ, run on a register whose kinds agree where it declares a property that
-- the query names: the run has no mismatch, and its marks are those of the direct meaning.
pub agreement : (q : Query) (Γ : Typing) (c : Core) (R : Register) → elaborate q Γ ≡ Some c → kinds_hold R ≡ true → kinds_agree Γ R q ≡ true
    → run c R ≡ accepted (map (means q R) R.pages)
unfolding kinds_agree run
agreement q Γ c R e k g =
    let h = subst (OnSome (Means R (means q R))) e (query_means Γ R k q g) in
    rw (h.unmixed, map_same (selects c R) (means q R) R.pages h.alike)

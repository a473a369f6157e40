-- Two sides joined, and a query inside a property: what is emitted, by what was emitted of the parts.
use Rattle.std.specs.Prelude.{Option, Some, None}
use Prim.Native.Nat.{ℕ, ◌+◌, ◌<◌}
use mathlib.Core.Path.{◌≡◌, refl, sym, ◌∙◌}
use mathlib.Core.Bool.{Bool, true, false}
use mathlib.Core.List.{List, [], ◌∷◌, ◌++◌, append_assoc}
use native.Mathlib.Omega.{arith}
use lib.ListN.{length, length-append}
use Rattle.text.specs.Bytes.{Bytes}
use Rattle.values.specs.declared.Kind.{Kind}
use Rattle.language.specs.Core.{Core}
use Rattle.language.specs.Core as Core
use Rattle.language.specs.Elaboration.{inside, joined}
use Rattle.query_core.specs.declared.Place.{Place}
use Rattle.query_core.specs.Postfix as Postfix
use Rattle.query_core.specs.Postfix.{post}
use Rattle.query_core_emit.specs.Emission.{Adds, Emits, connective_node}
use Rattle.query_core_emit.proofs.Adding.{adds_then, disjunction_adds, conjunction_adds}
use Rattle.query_tree.specs.Nodes.{Node}
use Rattle.query_core_fit.specs.Fitting.{join_core, Fits, FitsTwo, Wraps}

-- Two sides.
join_adds : (or : Bool) (a b : Core) {h h₁ h₂ h₃ : Bytes} {p p₁ p₂ p₃ : Place} → Adds (post a) h p h₁ p₁ → Adds (post b) h₁ p₁ h₂ p₂ → Adds (connective_node or ∷ []) h₂ p₂ h₃ p₃ → Adds (post (join_core or a b)) h p h₃ p₃
join_adds true a b f g d = disjunction_adds a b f g d
join_adds false a b f g d = conjunction_adds a b f g d

joined_none : (k : Core → Core → Core) (a : Option Core) → joined k a None ≡ None
unfolding joined
joined_none k None = refl
joined_none k (Some c) = refl

module _ {A : Type 0} (t : A → List Node) (e : A → Option Core) (or : Bool) (l : List Node) (n i j : ℕ) (h : Bytes) (p : Place) where
  -- there are not as many nodes
  pub two_short : j < n → FitsTwo t e or l n j h p None h
  two_short s = record { is = λ k m a b f g d. absurd (omega (arith, s, g, d)) }

  module _ (at : i + n ≡ j) where
    -- where the first side ends
    first_ends : (k m : List Node) (a b : A) → n ≡ length (t b) → j ≡ length k + (length (t a) + length (t b)) → i ≡ length k + length (t a)
    first_ends k m a b g d = omega (arith, at, g, d)

    second_there : (k m : List Node) (a b : A) → l ≡ k ++ (t a ++ (t b ++ m)) → l ≡ (k ++ t a) ++ (t b ++ m)
    second_there k m a b f = f ∙ sym (append_assoc k (t a) (t b ++ m))

    second_ends : (k : List Node) (a b : A) → j ≡ length k + (length (t a) + length (t b)) → j ≡ length (k ++ t a) + length (t b)
    second_ends k a b d = omega (arith, d, length-append k (t a))

    pub two_first : (h₁ : Bytes) → Fits t e l i h p None h₁ → FitsTwo t e or l n j h p None h₁
    unfolding Emits joined
    two_first h₁ x = record { is = λ k m a b f g d. let z : e a ≡ None = x.is k (t b ++ m) a f (first_ends k m a b g d) in rw z }

    pub two_second : (h₁ h₂ : Bytes) (p₁ : Place) → Fits t e l i h p (Some p₁) h₁ → Fits t e l j h₁ p₁ None h₂ → FitsTwo t e or l n j h p None h₂
    unfolding Emits
    two_second h₁ h₂ p₁ x y = record { is = λ k m a b f g d. let z : e b ≡ None = y.is (k ++ t a) m b (second_there k m a b f) (second_ends k a b d) in rw z (joined_none (join_core or) (e a)) }

    pub two_both : (h₁ h₂ h₃ : Bytes) (p₁ p₂ p₃ : Place) → Fits t e l i h p (Some p₁) h₁ → Fits t e l j h₁ p₁ (Some p₂) h₂ → Adds (connective_node or ∷ []) h₂ p₂ h₃ p₃ → FitsTwo t e or l n j h p (Some p₃) h₃
    unfolding Emits joined
    two_both h₁ h₂ h₃ p₁ p₂ p₃ x y z =
        record {
          is =
              λ k m a b f g d.
              let u = x.is k (t b ++ m) a f (first_ends k m a b g d) in
              let v = y.is (k ++ t a) m b (second_there k m a b f) (second_ends k a b d) in
              (join_core or u.0 v.0, rw (u.1, v.1), join_adds or u.0 v.0 u.2 v.2 z);
        }

-- A query inside a property.
inside_none : (x : Bytes) (k : Option Kind) → inside x k None ≡ None
unfolding inside
inside_none x None = refl
inside_none x (Some Kind.Page) = refl
inside_none x (Some (Kind.Scalar j)) = refl
inside_none x (Some Kind.String) = refl

module _ {A : Type 0} (t : A → List Node) (e : A → Option Core) (l : List Node) (i : ℕ) (x : Bytes) (k : Option Kind) (h h₁ : Bytes) (p : Place) where
  pub wrap_unfit : Fits t e l i h p None h₁ → Fits t (λ a. inside x k (e a)) l i h p None h₁
  unfolding Emits
  wrap_unfit d = record { is = λ f m a g n. let z : e a ≡ None = d.is f m a g n in rw z (inside_none x k) }

  pub wrap_at : (r : Option Place) (p₁ : Place) (h₂ : Bytes) → Fits t e l i h p (Some p₁) h₁ → Wraps x k h₁ p₁ r h₂ → Fits t (λ a. inside x k (e a)) l i h p r h₂
  unfolding Emits inside post
  wrap_at None p₁ h₂ d w = record { is = λ f m a g n. w (e a) }
  wrap_at (Some p₂) p₁ h₂ d w =
      record {
        is =
            λ f m a g n.
            let u = d.is f m a g n in
            (Core.select (Core.subquery x u.0), rw (w.0, u.1), adds_then (post u.0) (Postfix.subquery x ∷ []) u.2 w.1);
      }

-- What the class of a text tells, and how long its names are.
use Prim.Native.Nat.{ℕ, ◌+◌, ◌-◌, ◌<◌}
use mathlib.Core.Path.{◌≡◌, refl, ap, sym, ◌∙◌}
use mathlib.Core.Bool.{Bool, true, false, cond, not, ◌&&◌}
use mathlib.Core.List.{[], ◌∷◌}
use native.Mathlib.Omega.{arith}
use lib.Dec.{leb, eqb}
use lib.ListN.{length, get_or, drop, length-append, length-drop}
use lib.Seq.{length-take-le}
use borrow.Author.Tests.{eqb-true, eqb-false, ltb-true, leb-true, ne_eqb, le-leb}
use Rattle.text.specs.Bytes.{Bytes}
use Rattle.names.specs.Names.{is_composed_name, is_composed_namespace}
use Rattle.values.specs.Names.{is_value, Identifier}
use Rattle.values.specs.Values.{link}
use Rattle.values.specs.Spelling.{spell_identifier, spelling}
use Rattle.values.proofs.Spelled.{value_short, composed_is_value, spelled_is_value}
use Rattle.language.specs.Rules.{is_identifier, is_storable}
use Rattle.sorting.proofs.Canonical.{same_truth}
use Rattle.register_form.specs.Dictionary.{space_of, name_of, identifier_of}
use Rattle.register_form.specs.Tests.{is_labelled, is_plain}
use Rattle.register_form_test.specs.Stages.{class_of}

-- The class by what a text is: plain, a name, a value, an identifier.
abbrev class_by : Bool → Bool → Bool → Bool → ℕ
class_by p n v i = cond p (cond n 2 (cond v 1 0)) (cond i 3 0)

by_identifier : (p n v i : Bool) → (p ≡ true → i ≡ n) → leb 2 (class_by p n v i) ≡ i
by_identifier true true v i h = sym (h refl)
by_identifier true false true i h = sym (h refl)
by_identifier true false false i h = sym (h refl)
by_identifier false n v true h = refl
by_identifier false n v false h = refl

by_link : (p n v i : Bool) → (leb 2 (class_by p n v i) && leb (class_by p n v i) 3) ≡ leb 2 (class_by p n v i)
by_link true true v i = refl
by_link true false true i = refl
by_link true false false i = refl
by_link false n v true = refl
by_link false n v false = refl

by_category : (p n v i : Bool) → (leb 2 (class_by p n v i) && leb (class_by p n v i) 2) ≡ (p && n)
by_category true true v i = refl
by_category true false true i = refl
by_category true false false i = refl
by_category false n v true = refl
by_category false n v false = refl

by_string : (p n v i : Bool) → (n ≡ true → v ≡ true) → (leb 1 (class_by p n v i) && leb (class_by p n v i) 2) ≡ (p && v)
by_string true true v i h = sym (h refl)
by_string true false true i h = refl
by_string true false false i h = refl
by_string false n v true h = refl
by_string false n v false h = refl

by_spaced : (p n v i : Bool) → eqb (class_by p n v i) 3 ≡ (not p && i)
by_spaced true true v i = refl
by_spaced true false true i = refl
by_spaced true false false i = refl
by_spaced false n v true = refl
by_spaced false n v false = refl

-- A plain text has no namespace.
module _ (t : Bytes) (p : is_plain t ≡ true) where
  plain_space : space_of t ≡ []
  unfolding space_of
  plain_space = rw (eqb-true (get_or t 0 0) 0 p)

  pub plain_identifier : is_identifier (identifier_of t) ≡ is_composed_name (name_of t)
  unfolding is_identifier is_composed_namespace
  plain_identifier = rw plain_space

module _ (t : Bytes) where
  pub class_identifier : leb 2 (class_of t) ≡ is_identifier (identifier_of t)
  unfolding class_of
  class_identifier = by_identifier (is_plain t) (is_composed_name (name_of t)) (is_value (name_of t)) (is_identifier (identifier_of t)) (plain_identifier t)

  pub class_link : (leb 2 (class_of t) && leb (class_of t) 3) ≡ is_identifier (identifier_of t)
  unfolding class_of
  class_link = by_link (is_plain t) (is_composed_name (name_of t)) (is_value (name_of t)) (is_identifier (identifier_of t)) ∙ class_identifier

  pub class_category : (leb 2 (class_of t) && leb (class_of t) 2) ≡ (is_plain t && is_composed_name (name_of t))
  unfolding class_of
  class_category = by_category (is_plain t) (is_composed_name (name_of t)) (is_value (name_of t)) (is_identifier (identifier_of t))

  pub class_string : (leb 1 (class_of t) && leb (class_of t) 2) ≡ (is_plain t && is_value (name_of t))
  unfolding class_of
  class_string = by_string (is_plain t) (is_composed_name (name_of t)) (is_value (name_of t)) (is_identifier (identifier_of t)) (composed_is_value (name_of t))

  pub class_spaced : eqb (class_of t) 3 ≡ (not (is_plain t) && is_identifier (identifier_of t))
  unfolding class_of
  class_spaced = by_spaced (is_plain t) (is_composed_name (name_of t)) (is_value (name_of t)) (is_identifier (identifier_of t))

-- How long the names in a text are.
module _ (t : Bytes) (l : is_labelled t ≡ true) where
  label_within : get_or t 0 0 < length t
  unfolding is_labelled
  label_within = ltb-true (get_or t 0 0) (length t) l

  length_space : length (space_of t) ≡ get_or t 0 0
  unfolding space_of
  length_space = length-take-le (get_or t 0 0) (drop 1 t) (omega (arith, label_within, length-drop 1 t))

  pub length_names : length (space_of t) + length (name_of t) ≡ length t - 1
  unfolding name_of
  length_names = omega (arith, length_space, label_within, length-drop (get_or t 0 0) (drop 1 t), length-drop 1 t)

  pub length_name : is_plain t ≡ true → length (name_of t) ≡ length t - 1
  length_name p = omega (arith, length_names, ap length (plain_space t p))

  -- how long an identifier is, spelled
  pub length_spelled : is_identifier (identifier_of t) ≡ true → length (spell_identifier (identifier_of t)) ≡ cond (eqb (class_of t) 3) (length t) (length t - 1)
  unfolding spell_identifier
  length_spelled i = go (is_plain t) refl
    where
      go : (b : Bool) → is_plain t ≡ b → length (spell_identifier (identifier_of t)) ≡ cond (eqb (class_of t) 3) (length t) (length t - 1)
      go true p = rw (class_spaced t, p, plain_space t p, spell_identifier) (length_name p)
      go false p =
          let k : get_or t 0 0 ≡ 0 → ⊥ = eqb-false (get_or t 0 0) 0 p in
          rw (class_spaced t, p, i, ne_eqb (length (space_of t)) 0 (λ e. k (sym length_space ∙ e)))
          (omega (arith, length-append (space_of t) (58 ∷ name_of t), length_names, length_space, k, label_within))

names_of : (i : Identifier) → is_identifier i ≡ true → (is_composed_namespace i.namespace && is_composed_name i.article) ≡ true
unfolding is_identifier
names_of i e = e

-- A link keeps its rule where its names do and it is short.
pub storable_link : (t : Bytes) → is_storable (link (identifier_of t)) ≡ (is_identifier (identifier_of t) && leb (length (spell_identifier (identifier_of t))) 64)
unfolding is_storable spelling
storable_link t = go (is_identifier (identifier_of t)) refl
  where
    go : (b : Bool) → is_identifier (identifier_of t) ≡ b → (is_identifier (identifier_of t) && is_value (spell_identifier (identifier_of t))) ≡ (is_identifier (identifier_of t) && leb (length (spell_identifier (identifier_of t))) 64)
    go true e = rw e (same_truth (is_value (spell_identifier (identifier_of t))) (leb (length (spell_identifier (identifier_of t))) 64)
        (λ v. le-leb (length (spell_identifier (identifier_of t))) 64 (value_short (spell_identifier (identifier_of t)) v))
        (λ v. spelled_is_value (identifier_of t) (names_of (identifier_of t) e) (leb-true (length (spell_identifier (identifier_of t))) 64 v)))
    go false e = rw e

-- Two registers as one. Request 9, "Two regions join".
use Rattle.std.specs.Prelude.{Bool, false, cond, not, List, [], ◌∷◌, ◌++◌, map, Option, Some, None}
use Rattle.text.specs.Bytes.{same, any}
use Rattle.values.specs.declared.Kind.{Kind}
use Rattle.language.specs.Answer.{found}
use Rattle.values.specs.Values.{same_kind}
use Rattle.language.specs.Register.{Page, Register, kinds_of, same_property, same_page}
use Rattle.language.specs.RegisterText.{same_held}

-- The register with no properties and no pages.
abbrev pub empty_register : Register
empty_register = record { properties = []; pages = [] }

module _ {A : Type 0} (alike : A → A → Bool) where
  -- Those of the second list that are like none of the first, in their order.
  unfoldable pub only_in : List A → List A → List A
  only_in l [] = []
  only_in l (b ∷ m) = cond (any (alike b) l) (only_in l m) (b ∷ only_in l m)

  -- The first list, then what is only in the second.
  abbrev pub union : List A → List A → List A
  union l m = l ++ only_in l m

  -- The first of the list that is like a.
  unfoldable pub like_in : A → List A → Option A
  like_in a [] = None
  like_in a (b ∷ m) = cond (alike a b) (Some b) (like_in a m)

-- "A page in both has the categories and values of both."
abbrev pub join_page : Page → Page → Page
join_page p q =
    record {
      identifier = p.identifier;
      categories = union same p.categories q.categories;
      values = union same_held p.values q.values;
    }

-- A page of the first register, with what the second has of it.
unfoldable pub joined_with : List Page → Page → Page
joined_with m p = found (like_in same_page p m) (join_page p) p

-- "Pages of the first keep their places and those only in the second follow in its order; properties, and a page's categories and
-- values, likewise."
unfoldable pub join : Register → Register → Register
join R S =
    record {
      properties = union same_property R.properties S.properties;
      pages = map (joined_with S.pages) R.pages ++ only_in same_page R.pages S.pages;
    }

-- 32: "a property has two kinds"
abbrev pub is_other_kind : Kind → Option Kind → Bool
is_other_kind k None = false
is_other_kind k (Some l) = not (same_kind k l)

unfoldable pub kinds_clash : Register → Register → Bool
kinds_clash R S = any (λ p. is_other_kind p.kind (kinds_of S p.name)) R.properties

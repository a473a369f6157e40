-- One law for each way through a function over one row, or two.
use Rattle.std.specs.Prelude.{Option, Some, None}
use Prim.Native.Nat.{ℕ, ◌+◌, ◌≤◌, ◌<◌}
use mathlib.Core.Path.{◌≡◌, refl, sym, ap, ◌∙◌}
use mathlib.Core.Bool.{Bool, true, false, cond, ◌&&◌}
use mathlib.Core.List.{List}
use native.Mathlib.Numerals.{add-one}
use native.Mathlib.Omega.{arith}
use lib.ListN.{length, get_or, take, drop, length-take, drop_of_length-le}
use lib.Seq.{drop-cons, get_or-take}
use Rattle.text.specs.Bytes.{Bytes, same, part}
use Rattle.values.specs.declared.Kind.{Kind}
use Rattle.values.specs.Names.{is_reference, reference, composed_reference, identifier}
use Rattle.values.specs.Values.{map_option, link, read_link, read_value}
use Rattle.language.specs.Answer.{found}
use Rattle.language.specs.RegisterText.{breaks_rule}
use Rattle.register_text_entries.specs.Items.{entry_by, entry_in}
use Rattle.register_text_entries.specs.Table.{entry_at}
use Rattle.register_text_entries.specs.declared.Tag.{Tag}
use Rattle.register_text_entries.specs.declared.Item.{Item}
use Rattle.register_text_verdict.specs.Rows.{declared_kind, first_in}
use Rattle.register_text_verdict.specs.Checks.{declares_tag, kinds_in, fails}
use Rattle.register_text_verdict.specs.declared.Declared.{Declared}
use Rattle.register_text_verdict.specs.declared.Check.{Check}

-- A value of a kind.
some_map : {A B : Type 0} (f : A → B) (o : Option A) → found o (λ w. true) false ≡ found (map_option f o) (λ w. true) false
some_map f None = refl
some_map f (Some a) = refl

some_cond : {A : Type 0} (b : Bool) (a : A) → b ≡ found (cond b (Some a) None) (λ w. true) false
some_cond true a = refl
some_cond false a = refl

module _ (v : Bytes) (k : Kind) where
  pub fits_page : (r : Bool) → k ≡ Kind.Page → r ≡ is_reference (reference v) → r ≡ found (read_value k v) (λ w. true) false
  unfolding read_link
  fits_page r h e = rw h (e ∙ some_cond (is_reference (reference v)) (identifier (composed_reference (reference v))) ∙ some_map link (read_link v))

-- The kind of a property.
module _ (x : Bytes) where
  pub kind_by : (g : Tag) (k : Kind) (a b : Bytes) → declared_kind x (entry_by g k a b) ≡ cond (declares_tag Declared.Property g && same a x) (Some k) None
  kind_by Tag.Prop k a b = refl
  kind_by Tag.Page k a b = refl
  kind_by Tag.Cat k a b = refl
  kind_by Tag.Val k a b = refl
  kind_by Tag.Close k a b = refl

module _ (s : Bytes) (t rows : List ℕ) (m : ℕ) (x : Bytes) (k : ℕ) (inv : kinds_in s t rows m x ≡ first_in (λ i. declared_kind x (entry_at s t i)) (drop k (take m rows))) where
  none_left : length (take m rows) ≤ k → None ≡ (kinds_in s t rows m x)
  unfolding first_in
  none_left h =
      (sym (inv ∙ ap (first_in (λ i. declared_kind x (entry_at s t i))) (drop_of_length-le (take m rows) h)))

  pub kind_past : length rows ≤ k → None ≡ (kinds_in s t rows m x)
  kind_past h = none_left (simp length-take (omega arith))

  pub kind_none : m ≤ k → None ≡ (kinds_in s t rows m x)
  kind_none h = none_left (simp length-take (omega arith))

  module _ (below : k < m) (within : k < length rows) (n : ℕ) (e : n ≡ get_or rows k 0) (i : Item) (f : (u : Bytes) → entry_in u i ≡ entry_at u t n)
      (b : Bool) (hb : b ≡ declares_tag Declared.Property i.tag) (y : Bytes) (hy : y ≡ part s i.first.start i.first.len) (r : Bool) (hr : r ≡ same y x) where
    kind_row : declared_kind x (entry_at s t (get_or rows k 0)) ≡ cond (b && r) (Some i.kind) None
    kind_row =
        ap (declared_kind x) (ap (entry_at s t) (sym e) ∙ sym (f s)) ∙ kind_by x i.tag i.kind _ _ ∙ rw (hb, hr, hy)

    kind_step : kinds_in s t rows m x ≡ found (cond (b && r) (Some i.kind) None) Some (first_in (λ j. declared_kind x (entry_at s t j)) (drop (k + 1) (take m rows)))
    unfolding first_in
    kind_step =
        let l : k < length (take m rows) = simp length-take (omega arith) in
        inv ∙ rw (add-one k, drop-cons (take m rows) k 0 l, get_or-take m rows k 0 below, kind_row)

    pub kind_here : b && r ≡ true → Some i.kind ≡ (kinds_in s t rows m x)
    kind_here h = let e' : kinds_in s t rows m x ≡ Some i.kind = kind_step ∙ rw h in (sym e')

    pub kind_later : b && r ≡ false → kinds_in s t rows m x ≡ first_in (λ j. declared_kind x (entry_at s t j)) (drop (k + 1) (take m rows))
    kind_later h = kind_step ∙ rw h

-- A check of a row is that check of its item.
module _ (s : Bytes) (t props : List ℕ) (m i : ℕ) (check : Check) (x : Item) (f : (u : Bytes) → entry_in u x ≡ entry_at u t i) (r : Bool) where
  pub row_rule : check ≡ Check.Rule → r ≡ breaks_rule (entry_in s x) → r ≡ fails check (kinds_in s t props m) (entry_at s t i)
  row_rule h e = rw h (e ∙ ap breaks_rule (f s))

  pub row_undeclared : check ≡ Check.Undeclared → r ≡ fails Check.Undeclared (kinds_in s t props m) (entry_in s x) → r ≡ fails check (kinds_in s t props m) (entry_at s t i)
  row_undeclared h e = rw h (e ∙ ap (fails Check.Undeclared (kinds_in s t props m)) (f s))

  pub row_unfit : check ≡ Check.Unfit → r ≡ fails Check.Unfit (kinds_in s t props m) (entry_in s x) → r ≡ fails check (kinds_in s t props m) (entry_at s t i)
  row_unfit h e = rw h (e ∙ ap (fails Check.Unfit (kinds_in s t props m)) (f s))

pub ruleset row = (row_rule, row_undeclared, row_unfit)

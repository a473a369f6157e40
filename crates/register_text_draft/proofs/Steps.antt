-- The entry of a row, by what the row is; and the loop over the rows.
use Rattle.std.specs.Prelude.{Some}
use Prim.Native.Nat.{◌≤◌}
use mathlib.Core.Path.{◌≡◌, refl, sym, subst}
use mathlib.Core.List.{List}
use lib.ListN.{length}
use Rattle.text.specs.Bytes.{Bytes, part}
use Rattle.values.specs.declared.Kind.{Kind}
use Rattle.values.specs.Values.{string, Value, plain, read_value}
use Rattle.language.specs.Register.{Property}
use Rattle.language.specs.RegisterText.{Entry, prop, page, cat, val, close}
use Rattle.register_text_entries.specs.Items.{entry_in}
use Rattle.register_text_entries.specs.declared.Tag.{Tag}
use Rattle.register_text_entries.specs.declared.Item.{Item}
use Rattle.register_text_draft.specs.declared.DraftTables.{DraftTables}
use Rattle.register_text_draft.specs.Drafting.{with_value, added}
use Rattle.register_text_draft.specs.Sizes.{Good, Valued, Spaced}
use Rattle.register_text_draft.specs.Tables.{Extends}

module _ (s : Bytes) (i : Item) (ps : List Property) (A B : DraftTables) (x : Bytes) (ex : x ≡ part s i.first.start i.first.len) where
  abbrev Does : Entry → Type 0
  Does e = Extends A B (λ d. added ps d e)

  -- an entry that is known
  by_entry : (e : Entry) → entry_in s i ≡ e → (Good ps e → Does e) → Good ps (entry_in s i) → Does (entry_in s i)
  by_entry e q f = subst (λ (z : Entry). Good ps z → Does z) (sym q) f

  pub entry_prop : i.tag ≡ Tag.Prop → Does (prop x i.kind) → Good ps (entry_in s i) → Does (entry_in s i)
  entry_prop h f = by_entry (prop x i.kind) (rw (h, ex)) (λ g. f)

  pub entry_cat : i.tag ≡ Tag.Cat → ((w : Value) → read_value Kind.String x ≡ Some w → Spaced w → Extends A B (with_value 0 w)) → Good ps (entry_in s i) → Does (entry_in s i)
  unfolding added
  entry_cat h f = by_entry (cat x) (rw (h, ex)) (λ g. f (plain (string x)) refl tt)

  module _ (y : Bytes) (ey : y ≡ part s i.second.start i.second.len) where
    pub entry_page : i.tag ≡ Tag.Page → (length x ≤ 64 → Does (page x y)) → Good ps (entry_in s i) → Does (entry_in s i)
    entry_page h f = by_entry (page x y) (rw (h, ex, ey)) f

    pub entry_val : i.tag ≡ Tag.Val → (Valued ps x y → Does (val x y)) → Good ps (entry_in s i) → Does (entry_in s i)
    entry_val h f = by_entry (val x y) (rw (h, ex, ey)) f

module _ (s : Bytes) (i : Item) (ps : List Property) (A : DraftTables) where
  no_entry : entry_in s i ≡ close → Extends A A (λ d. added ps d (entry_in s i))
  unfolding added
  no_entry q = subst (λ (e : Entry). Extends A A (λ d. added ps d e)) (sym q) (record { held = λ d fit h. h })

  pub entry_close : i.tag ≡ Tag.Close → Extends A A (λ d. added ps d (entry_in s i))
  entry_close h = no_entry (rw h)

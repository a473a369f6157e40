-- Slices that are lent in the tables of a draft.
use Rattle.std.specs.Prelude.{ℕ, ◌≡◌, List, length}
use Rattle.std.specs.Borrow.{MutBor}
use Rattle.register_text_draft.specs.declared.TextTable.{TextTable}
use Rattle.register_text_draft.specs.declared.PropertyTable.{PropertyTable}
use Rattle.register_text_draft.specs.declared.PageTable.{PageTable}
use Rattle.register_text_draft.specs.declared.TermTable.{TermTable}
use Rattle.register_text_draft.specs.declared.DraftTables.{DraftTables}

-- The same slice is lent, as long as it was: whoever lent it knows what it holds by what the table shows.
pub record SameSlice (a b : MutBor (List ℕ)) : Type 0 where
  pub reference : b.ghost_name ≡ a.ghost_name
  pub size : length b.now ≡ length a.now

-- The same of each slice of a table.
pub record SameTexts (a b : TextTable) : Type 0 where
  pub heap : SameSlice a.heap b.heap
  pub starts : SameSlice a.starts b.starts
  pub lens : SameSlice a.lens b.lens

pub record SameProperties (a b : PropertyTable) : Type 0 where
  pub kinds : SameSlice a.kinds b.kinds
  pub names : SameSlice a.names b.names

pub record SamePages (a b : PageTable) : Type 0 where
  pub identifiers : SameSlice a.identifiers b.identifiers
  pub firsts : SameSlice a.firsts b.firsts

pub record SameTerms (a b : TermTable) : Type 0 where
  pub groups : SameSlice a.groups b.groups
  pub codes : SameSlice a.codes b.codes

-- The same of all tables.
pub record SameTables (a b : DraftTables) : Type 0 where
  pub texts : SameTexts a.texts b.texts
  pub properties : SameProperties a.properties b.properties
  pub pages : SamePages a.pages b.pages
  pub terms : SameTerms a.terms b.terms

-- Tables that are lent one by one, as those of a draft.
abbrev pub together : TextTable → PropertyTable → PageTable → TermTable → DraftTables
together t p g v = record { texts = t; properties = p; pages = g; terms = v }

-- Pages with other identifiers: adding a value doesn't ask for any.
abbrev pub identified : MutBor (List ℕ) → PageTable → PageTable
identified i g = record { identifiers = i; firsts = g.firsts; count = g.count }

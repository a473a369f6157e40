-- Working definitions: tables that hold a draft.
use Rattle.std.specs.Prelude.{ℕ, suc, ◌+◌, ◌-◌, ◌%◌, ◌≤◌, ◌<◌, ◌≡◌, List, [], ◌∷◌, ◌++◌, length, get_or, take, set}
use Rattle.text.specs.Bytes.{Bytes, part}
use Rattle.text.specs.Table.{tabulate}
use Rattle.values.specs.Values.{kind_from}
use Rattle.language.specs.Answer.{number_of}
use Rattle.language.specs.RegisterText.{read_register}
use Rattle.register_text_verdict.specs.Checks.{rows_that, Prepared}
use Rattle.register_text_verdict.specs.declared.Declared.{Declared}
use Rattle.register_form.specs.Dictionary.{PropertyRow, PageRow, Dictionary, term_of}
use Rattle.register_form.specs.Form.{joined}
use Rattle.register_form.specs.Tables.{Tables, tables_of}
use Rattle.register_text_draft.specs.declared.TextTable.{TextTable}
use Rattle.register_text_draft.specs.declared.PageTable.{PageTable}
use Rattle.register_text_draft.specs.declared.TermTable.{TermTable}
use Rattle.register_text_draft.specs.declared.DraftTables.{DraftTables}
use Rattle.register_text_draft.specs.Drafting.{on_last}
use Rattle.register_text_draft.specs.Sizes.{Fits}

-- What copying s to a place of b answers.
pub record Copied (b : List ℕ) (at : ℕ) (s b' : List ℕ) : Type 0 where
  pub size : length b' ≡ length b
  pub is : at + length s ≤ length b → take (at + length s) b' ≡ take at b ++ s

-- The text t lies in s at a place.
pub record Lies (s : Bytes) (start len : ℕ) (t : Bytes) : Type 0 where
  pub within : start + len ≤ length s
  pub is : part s start len ≡ t

-- The heap holds the m texts l one behind the other, up to a place.
pub record Texts (heap starts lens : List ℕ) (m at : ℕ) (l : List Bytes) : Type 0 where
  pub count : m ≡ length l
  pub end : at ≡ length (joined l)
  pub bytes : take at heap ≡ joined l
  pub lies : (i : ℕ) → i < length l → Lies (joined l) (get_or starts i 0) (get_or lens i 0) (get_or l i [])
  pub heap_room : 35136 ≤ length heap
  pub starts_room : 2368 ≤ length starts
  pub lens_room : 2368 ≤ length lens

-- The tables hold the n properties l, the n pages l with their first f forms, and the n terms l.
abbrev pub property_in : List ℕ → List ℕ → ℕ → PropertyRow
property_in kinds names p = record { kind = kind_from (get_or kinds p 0); name = get_or names p 0 }

pub record Properties (kinds names : List ℕ) (n : ℕ) (l : List PropertyRow) : Type 0 where
  pub rows : tabulate n (property_in kinds names) ≡ l
  pub kinds_room : 64 ≤ length kinds
  pub names_room : 64 ≤ length names

abbrev pub page_in : List ℕ → List ℕ → ℕ → PageRow
page_in identifiers firsts i = record { identifier = get_or identifiers i 0; forms = tabulate (get_or firsts (suc i) 0 - get_or firsts i 0) (λ j. get_or firsts i 0 + j) }

pub record Pages (identifiers firsts : List ℕ) (n f : ℕ) (l : List PageRow) : Type 0 where
  pub rows : tabulate n (page_in identifiers firsts) ≡ l
  pub last : get_or firsts n 0 ≡ f
  pub most : (i : ℕ) → i ≤ n → get_or firsts i 0 ≤ f
  pub identifiers_room : 256 ≤ length identifiers
  pub firsts_room : 257 ≤ length firsts

abbrev pub term_in : List ℕ → List ℕ → ℕ → Bytes
term_in groups codes f = term_of (get_or groups f 0) (get_or codes f 0)

pub record Terms (groups codes : List ℕ) (n : ℕ) (l : List Bytes) : Type 0 where
  pub rows : tabulate n (term_in groups codes) ≡ l
  pub groups_room : 2048 ≤ length groups
  pub codes_room : 2048 ≤ length codes

-- The tables hold the draft d.
pub record Holding (t : DraftTables) (d : Dictionary) : Type 0 where
  pub texts : Texts t.texts.heap.now t.texts.starts.now t.texts.lens.now t.texts.count t.texts.end d.texts
  pub properties : Properties t.properties.kinds.now t.properties.names.now t.properties.count d.properties
  pub pages : Pages t.pages.identifiers.now t.pages.firsts.now t.pages.count t.terms.count d.pages
  pub terms : Terms t.terms.groups.now t.terms.codes.now t.terms.count d.terms

-- The same tables as those that a draft is written from, uses being the term of each form.
abbrev pub tables_in : DraftTables → List ℕ → Tables
tables_in t uses =
    tables_of t.texts.heap.now t.texts.starts.now t.texts.lens.now t.texts.count t.properties.kinds.now t.properties.names.now t.properties.count t.pages.identifiers.now t.pages.firsts.now t.pages.count uses t.terms.groups.now t.terms.codes.now t.terms.count

-- What ending a text answers, a and b being how long its namespace and its name are.
pub record Ended (t : TextTable) (a b : ℕ) (u : TextTable) : Type 0 where
  pub heap : u.heap.now ≡ t.heap.now
  pub start : u.starts.now ≡ set t.starts.now t.count t.end
  pub len : u.lens.now ≡ set t.lens.now t.count ((1 + a + b) % 65536)
  pub texts : u.count ≡ (t.count + 1) % 65536
  pub bytes : u.end ≡ (t.end + 1 + a + b) % 65536

-- What adding the texts l behind others answers, where they fit.
pub record Pushed (t : TextTable) (l : List Bytes) (u : TextTable) : Type 0 where
  pub texts : (k : List Bytes) → Texts t.heap.now t.starts.now t.lens.now t.count t.end k → length (k ++ l) ≤ 2368 → length (joined (k ++ l)) ≤ 35136 → Texts u.heap.now u.starts.now u.lens.now u.count u.end (k ++ l)

-- What adding a form answers, on the last page.
pub record FormsPushed (g : PageTable) (v : TermTable) (group code : ℕ) (h : PageTable) (w : TermTable) : Type 0 where
  pub pages : (l : List PageRow) → Pages g.identifiers.now g.firsts.now g.count v.count l → g.count ≤ 256 → v.count < 2048 → Pages h.identifiers.now h.firsts.now h.count w.count (on_last v.count l)
  pub terms : (l : List Bytes) → Terms v.groups.now v.codes.now v.count l → v.count < 2048 → Terms w.groups.now w.codes.now w.count (l ++ (term_of group code ∷ []))

-- Each of the first n forms is a term of its own.
abbrev pub Own : ℕ → List ℕ → Type 0
Own n uses = (f : ℕ) → f < n → get_or uses f 0 ≡ f

-- Tables with room for any draft.
pub record Roomy (t : DraftTables) : Type 0 where
  pub heap_room : 35136 ≤ length t.texts.heap.now
  pub starts_room : 2368 ≤ length t.texts.starts.now
  pub lens_room : 2368 ≤ length t.texts.lens.now
  pub kinds_room : 64 ≤ length t.properties.kinds.now
  pub names_room : 64 ≤ length t.properties.names.now
  pub identifiers_room : 256 ≤ length t.pages.identifiers.now
  pub firsts_room : 257 ≤ length t.pages.firsts.now
  pub groups_room : 2048 ≤ length t.terms.groups.now
  pub codes_room : 2048 ≤ length t.terms.codes.now

-- The tables t and props hold the n entries, over the text c, and the np properties of an accepted text s.
pub record Accepted (s c : Bytes) (t props : List ℕ) (n np : ℕ) : Type 0 where
  pub answer : number_of (read_register s) ≡ 0
  pub rows : Prepared s c t n
  pub properties : take np props ≡ rows_that Declared.Property t n

-- What a function does to the tables a: they are then b, and hold f d where that fits and they held d.
pub record Extends (a b : DraftTables) (f : Dictionary → Dictionary) : Type 0 where
  pub held : (d : Dictionary) → Fits (f d) → Holding a d → Holding b (f d)

-- Working definitions: the dictionary that the writer's tables tell, and what writing a dictionary answers.
use Rattle.std.specs.Prelude.{ℕ, ◌+◌, ◌≤◌, ◌≡◌, Bool, true, cond, ◌&&◌, leb, length, get_or}
use mathlib.Core.List.{List, [], ◌∷◌, flat_map}
use Rattle.text.specs.Bytes.{Bytes, order_of}
use Rattle.text.specs.Table.{tabulate}
use Rattle.language.specs.Answer.{Answer, refused, Answered}
use Rattle.language.specs.Rules.{total}
use Rattle.sorting.specs.Ascending.{ascends}
use Rattle.sorting.specs.Listing.{listed, Numbered}
use Rattle.dictionary.specs.Items.{text_at, texts_in}
use Rattle.dictionary.specs.declared.Texts.{Texts}
use Rattle.buffer.specs.Numbers.{starts_from}
use Rattle.register_form.specs.Dictionary.{PageRow, Dictionary}
use Rattle.register_form.specs.Form.{joined, property_bytes, number_bytes, bytes_of, placed}
use Rattle.register_form.specs.Tests.{term_uses, counted_bytes, Bounded}
use Rattle.register_form.specs.Draft.{Draft, assembled, drafted, write_into}
use Rattle.register_form_bytes.specs.Writing.{picked, first_of, rows_of, four_bytes, Region, regions_of}
use Rattle.register_form.specs.Tables.{Tables, draft_in}
use Rattle.register_form_assembly.specs.declared.Order.{Order}
use Rattle.register_form_assembly.specs.Keeping.{kept_on, kept_up_to, Within}
use Rattle.register_form_assembly.specs.Counting.{text_bytes, term_bytes_by}

-- A dictionary within the limits: 64 properties, 256 pages, 2,048 forms, 32,768 bytes.
unfoldable pub fits_limits : Dictionary → Bool
fits_limits e = leb (length e.properties) 64 && leb (length e.pages) 256 && leb (length (term_uses e)) 2048 && leb (counted_bytes e) 32768

-- What writing a dictionary that is within the limits into a buffer answers, and any dictionary.
unfoldable pub fitted : Dictionary → Bytes → Answer Bytes
fitted e h = placed (bytes_of e) h

unfoldable pub write_dictionary : Dictionary → Bytes → Answer Bytes
write_dictionary e h = cond (fits_limits e) (fitted e h) (refused 7)

-- The tables hold what they have room for.
pub record Capacity (t : Tables) : Type 0 where
  pub texts : t.m ≤ 4736
  pub terms : t.nt ≤ 4096

-- What numbering the texts and the terms of a draft found.
pub record Found : Type 0 where
  pub refs : List ℕ
  pub nx : ℕ
  pub numbers : List ℕ
  pub table : Bytes
  pub term_starts : List ℕ
  pub term_lens : List ℕ
  pub term_refs : List ℕ
  pub nt : ℕ
  pub term_numbers : List ℕ

module _ (t : Tables) (v : Found) where
  abbrev pub page_by : ℕ → PageRow
  page_by i = record { identifier = get_or v.numbers (get_or t.identifiers i 0) 0; forms = kept_on t.groups v.term_numbers t.uses t.firsts i }

  unfoldable pub tabled : Dictionary
  tabled =
      record {
        properties = rows_of t.kinds v.numbers t.names t.np;
        pages = tabulate t.ng page_by;
        terms = listed (text_at v.table v.term_starts v.term_lens) v.term_refs v.nt;
        texts = listed (text_at t.s t.starts t.lens) v.refs v.nx;
      }

  abbrev pub kept_all : List ℕ
  kept_all = kept_up_to t.groups v.term_numbers t.uses t.firsts t.ng

  -- The bytes of its names and values.
  unfoldable pub counted_by : ℕ
  counted_by =
      total (text_bytes t.s t.starts t.lens) (first_of t.names t.np)
      + total (text_bytes t.s t.starts t.lens) (first_of t.identifiers t.ng)
      + total (term_bytes_by t.s t.starts t.lens t.kinds t.groups t.codes v.term_refs) kept_all

  unfoldable pub fits_counted : Bool
  fits_counted = leb (length kept_all) 2048 && leb counted_by 32768

  unfoldable pub write_counted : Bytes → Answer Bytes
  write_counted h = cond fits_counted (fitted tabled h) (refused 7)

-- The regions of rows: counts, properties, identifiers, where each page's forms begin, forms.
abbrev pub row_regions : List ℕ → List ℕ → List ℕ → ℕ → List ℕ → ℕ → ℕ → ℕ → List ℕ → ℕ → List ℕ → ℕ → List Region
row_regions kinds numbers names np identifiers ng nt nx begins nb kept n =
    record { size = 8; bytes = four_bytes np ng nt nx }
    ∷ record { size = 192; bytes = flat_map property_bytes (rows_of kinds numbers names np) }
    ∷ record { size = 512; bytes = number_bytes (picked numbers identifiers ng) }
    ∷ record { size = 514; bytes = number_bytes (first_of begins nb) }
    ∷ record { size = 4096; bytes = number_bytes (first_of kept n) }
    ∷ []

-- The regions of strings: terms, where each text begins, texts.
abbrev pub list_regions : List Bytes → List Bytes → List Region
list_regions terms texts =
    record { size = 18432; bytes = joined terms }
    ∷ record { size = 4738; bytes = number_bytes (starts_from 0 texts) }
    ∷ record { size = 35136; bytes = joined texts }
    ∷ []

abbrev pub found_of : List ℕ → ℕ → List ℕ → Bytes → List ℕ → List ℕ → List ℕ → ℕ → List ℕ → Found
found_of refs nx numbers table term_starts term_lens term_refs nt term_numbers =
    record { refs = refs; nx = nx; numbers = numbers; table = table; term_starts = term_starts; term_lens = term_lens; term_refs = term_refs; nt = nt; term_numbers = term_numbers }

-- The same by the structs that functions have: texts, terms as spelled, terms; and the texts of items in their order.
abbrev pub found_in : Order → Texts → Order → Found
found_in x t o = found_of x.refs.now x.count x.numbers.now t.bytes.now t.starts.now t.lens.now o.refs.now o.count o.numbers.now

abbrev pub ordered_in : Texts → Order → List Bytes
ordered_in t o = listed (texts_in t) o.refs.now o.count

-- What writing regions that are a dictionary's answers.
pub record FittedWritten (l : List Region) (h : Bytes) (r : ℕ) (g : Bytes) : Type 0 where
  pub is : (e : Dictionary) → l ≡ regions_of e → Bounded e → Answered (fitted e h) h r g

-- What writing the forms that are kept, and all else, answers.
pub record KeptWritten (t : Tables) (v : Found) (h : Bytes) (r : ℕ) (g : Bytes) : Type 0 where
  pub is : Within v.term_numbers t.uses t.firsts t.ng 4096 → t.ng ≤ 256 → (fits_counted t v ≡ true → Bounded (tabled t v)) → Answered (write_counted t v h) h r g

-- What the writer asks of a draft in tables.
pub record Writable (t : Tables) : Type 0 where
  pub draft : Draft (draft_in t)
  pub capacity : Capacity t
  pub bounded : fits_limits (assembled (draft_in t)) ≡ true → Bounded (assembled (draft_in t))

-- What writing the terms, and all else, answers, where the texts are numbered and properties and pages are few.
pub record TermsWritten (t : Tables) (refs : List ℕ) (nx : ℕ) (numbers : List ℕ) (h : Bytes) (r : ℕ) (g : Bytes) : Type 0 where
  pub is : Writable t → Numbered order_of (text_at t.s t.starts t.lens) t.m refs nx numbers → t.np ≤ 64 → t.ng ≤ 256 → Answered (write_dictionary (assembled (draft_in t)) h) h r g

-- The same of any draft whose texts are numbered.
pub record NumberedWritten (t : Tables) (refs : List ℕ) (nx : ℕ) (numbers : List ℕ) (h : Bytes) (r : ℕ) (g : Bytes) : Type 0 where
  pub is : Writable t → Numbered order_of (text_at t.s t.starts t.lens) t.m refs nx numbers → Answered (write_dictionary (assembled (draft_in t)) h) h r g

-- What writing a draft answers: the register that it describes. Texts may come in any order, or in ascending order alone.
pub record DraftWritten (t : Tables) (h : Bytes) (r : ℕ) (g : Bytes) : Type 0 where
  pub is : Draft (draft_in t) → Capacity t → Answered (write_into (drafted (draft_in t)) h) h r g

pub record OrderedWritten (t : Tables) (h : Bytes) (r : ℕ) (g : Bytes) : Type 0 where
  pub is : Draft (draft_in t) → Capacity t → ascends order_of (tabulate t.m (text_at t.s t.starts t.lens)) ≡ true → Answered (write_into (drafted (draft_in t)) h) h r g

-- The register text: bytes to a register, or the lowest of 1 to 7. Document 01, "The register text".
use Rattle.std.specs.Prelude.{ℕ, zero, suc, ◌+◌, Bool, true, false, cond, not, ◌&&◌, ◌||◌, List, [], ◌∷◌, map, ltb, length, drop, Option, Some, None}
use Rattle.text.specs.Bytes.{Bytes, bytes, same, any, front, behind, after}
use Rattle.text.specs.Class.{is_quotable}
use Rattle.values.specs.declared.Kind.{Kind}
use Rattle.names.specs.Names.{composed_name, is_name, is_property_name, is_namespace}
use Rattle.values.specs.Names.{is_value}
use Rattle.values.specs.Answers.{kind_at}
use Rattle.values.specs.Values.{Value, kind_word, read_value, same_value}
use Rattle.language.specs.Answer.{Answer, refused, Check, ◌if◌, judge, ◌>>=◌, found}
use Rattle.language.specs.Register.{Property, Held, Page, Register, kind_among}

-- The parts of the text in their order. A page form is `page`, its inner forms, `close`.
pub data Entry : Type 0 where
  prop : Bytes → Kind → Entry
  page : Bytes → Bytes → Entry
  cat : Bytes → Entry
  val : Bytes → Bytes → Entry
  close : Entry

-- Where an entry may stand: at the start of a line, or inside a page form.
pub data Place : Type 0 where
  line inner : Place

-- An entry, the place behind it, and the text behind it.
pub record Read : Type 0 where
  pub entry : Entry
  pub place : Place
  pub rest : Bytes

-- A text between quotation marks, and what is behind it.
unfoldable pub quoted : Bytes → Option (Bytes × Bytes)
quoted s = do
  r ← after (bytes "\"") s
  e ← after (bytes "\"") (behind is_quotable r)
  Some (front is_quotable r, e)

-- One of the four kind words, and what is behind it.
unfoldable pub kind_word_at : Bytes → Option (Kind × Bytes)
kind_word_at s = do
  k ← kind_at s
  Some (k, drop (length (kind_word k)) s)

-- `(prop "Lot" string)` and byte 10
unfoldable pub prop_form : Bytes → Option Read
prop_form s = do
  r ← after (bytes "(prop ") s
  (x, r) ← quoted r
  r ← after (bytes " ") r
  (k, r) ← kind_word_at r
  r ← after (bytes ")\n") r
  Some (record { entry = prop x k; place = line; rest = r })

-- `(page "Talk" "D1"`
unfoldable pub page_form : Bytes → Option Read
page_form s = do
  r ← after (bytes "(page ") s
  (n, r) ← quoted r
  r ← after (bytes " ") r
  (x, r) ← quoted r
  Some (record { entry = page n x; place = inner; rest = r })

-- ` (cat "Note")`
unfoldable pub cat_form : Bytes → Option Read
cat_form s = do
  r ← after (bytes " (cat ") s
  (x, r) ← quoted r
  r ← after (bytes ")") r
  Some (record { entry = cat x; place = inner; rest = r })

-- ` (val "Lot" "A7")`
unfoldable pub val_form : Bytes → Option Read
val_form s = do
  r ← after (bytes " (val ") s
  (x, r) ← quoted r
  r ← after (bytes " ") r
  (v, r) ← quoted r
  r ← after (bytes ")") r
  Some (record { entry = val x v; place = inner; rest = r })

-- `)` and byte 10
unfoldable pub closing : Bytes → Option Read
closing s = do
  r ← after (bytes ")\n") s
  Some (record { entry = close; place = line; rest = r })

-- The entry at the front.
unfoldable pub next_entry : Place → Bytes → Option Read
next_entry line s = found (prop_form s) Some (page_form s)
next_entry inner s = found (cat_form s) Some (found (val_form s) Some (closing s))

-- The entries of a text, or none: it is not lines of the two forms. The number bounds how many are read.
unfoldable pub entries_within : ℕ → Place → Bytes → Option (List Entry)
entries_within zero line [] = Some []
entries_within zero line (b ∷ s) = None
entries_within zero inner s = None
entries_within (suc n) line [] = Some []
entries_within (suc n) line (b ∷ s) = next_entry line (b ∷ s) >>= λ e. entries_within n e.place e.rest >>= λ l. Some (e.entry ∷ l)
entries_within (suc n) inner s = next_entry inner s >>= λ e. entries_within n e.place e.rest >>= λ l. Some (e.entry ∷ l)

-- Every entry has a byte, so a text has no more entries than bytes.
unfoldable pub entries_from : Place → Bytes → Option (List Entry)
entries_from place s = entries_within (length s) place s

abbrev pub entries : Bytes → Option (List Entry)
entries s = entries_from line s

-- 3: "a name, namespace or value breaks its rule"
abbrev pub breaks_rule : Entry → Bool
breaks_rule (prop x k) = not (is_property_name x)
breaks_rule (page n x) = not (is_namespace n && is_name x)
breaks_rule (cat x) = not (is_name x)
breaks_rule (val x v) = not (is_property_name x && is_value v)
breaks_rule close = false

-- Names are composed once they are read (document 02, "Accented names typed two ways"), and all below goes by composed names. What a val
-- writes stays as typed: whether that is a name or a string is its property's affair.
abbrev pub composed_entry : Entry → Entry
composed_entry (prop x k) = prop (composed_name x) k
composed_entry (page n x) = page (composed_name n) (composed_name x)
composed_entry (cat x) = cat (composed_name x)
composed_entry (val x v) = val (composed_name x) v
composed_entry close = close

unfoldable pub composed_entries : List Entry → List Entry
composed_entries l = map composed_entry l

-- 4: "a property or a page (namespace and name) declared twice"
abbrev pub same_declared : Entry → Entry → Bool
same_declared (prop x k) (prop y l) = same x y
same_declared (prop x k) (page m y) = false
same_declared (prop x k) (cat y) = false
same_declared (prop x k) (val y w) = false
same_declared (prop x k) close = false
same_declared (page n x) (prop y l) = false
same_declared (page n x) (page m y) = same n m && same x y
same_declared (page n x) (cat y) = false
same_declared (page n x) (val y w) = false
same_declared (page n x) close = false
same_declared (cat x) e = false
same_declared (val x v) e = false
same_declared close e = false

unfoldable pub some_twice : List Entry → Bool
some_twice [] = false
some_twice (e ∷ l) = any (same_declared e) l || some_twice l

-- The prop lines, wherever they stand.
unfoldable pub properties : List Entry → List Property
properties [] = []
properties (prop x k ∷ l) = record { name = x; kind = k } ∷ properties l
properties (page n x ∷ l) = properties l
properties (cat x ∷ l) = properties l
properties (val x v ∷ l) = properties l
properties (close ∷ l) = properties l

-- 5: "a val names a property with no prop line anywhere"
abbrev pub is_undeclared : List Property → Entry → Bool
is_undeclared ps (prop x k) = false
is_undeclared ps (page n x) = false
is_undeclared ps (cat x) = false
is_undeclared ps (val x v) = found (kind_among ps x) (λ k. false) true
is_undeclared ps close = false

-- The value that a val form writes, by its property's kind.
unfoldable pub value_of : List Property → Bytes → Bytes → Option Value
value_of ps x v = kind_among ps x >>= λ k. read_value k v

-- 6: "a value unfit for its kind"
abbrev pub is_unfit : List Property → Entry → Bool
is_unfit ps (prop x k) = false
is_unfit ps (page n x) = false
is_unfit ps (cat x) = false
is_unfit ps (val x v) = found (value_of ps x v) (λ w. false) true
is_unfit ps close = false

-- 7: "over 64, 256 or 2,048": properties, pages, and cat and val forms together, repeats too.
abbrev pub is_page : Entry → Bool
is_page (prop x k) = false
is_page (page n x) = true
is_page (cat x) = false
is_page (val x v) = false
is_page close = false

abbrev pub is_inner : Entry → Bool
is_inner (prop x k) = false
is_inner (page n x) = false
is_inner (cat x) = true
is_inner (val x v) = true
is_inner close = false

unfoldable pub count_of : (Entry → Bool) → List Entry → ℕ
count_of p [] = 0
count_of p (e ∷ l) = cond (p e) 1 0 + count_of p l

unfoldable pub over_limits : List Entry → Bool
over_limits l = ltb 64 (length (properties l)) || ltb 256 (count_of is_page l) || ltb 2048 (count_of is_inner l)

-- "Categories and values of a page are sets: a repeat counts to the limit but changes no meaning." The first stays.
unfoldable pub add_category : Bytes → List Bytes → List Bytes
add_category x [] = x ∷ []
add_category x (y ∷ l) = cond (same x y) (y ∷ l) (y ∷ add_category x l)

abbrev pub same_held : Held → Held → Bool
same_held a b = same a.property b.property && same_value a.value b.value

unfoldable pub add_held : Held → List Held → List Held
add_held h [] = h ∷ []
add_held h (g ∷ l) = cond (same_held h g) (g ∷ l) (g ∷ add_held h l)

abbrev pub with_category : Bytes → Page → Page
with_category x p = record { identifier = p.identifier; categories = add_category x p.categories; values = p.values }

abbrev pub with_value : Bytes → Value → Page → Page
with_value x v p =
    record {
      identifier = p.identifier;
      categories = p.categories;
      values = add_held (record { property = x; value = v }) p.values;
    }

abbrev pub empty_page : Bytes → Bytes → Page
empty_page n x = record { identifier = record { namespace = n; article = x }; categories = []; values = [] }

-- The page p with the inner forms up to its `close`.
unfoldable pub filled : List Property → Page → List Entry → Page
filled ps p [] = p
filled ps p (prop x k ∷ l) = p
filled ps p (page n x ∷ l) = p
filled ps p (cat x ∷ l) = filled ps (with_category x p) l
filled ps p (val x v ∷ l) = filled ps (found (value_of ps x v) (λ w. with_value x w p) p) l
filled ps p (close ∷ l) = p

-- The pages, in line order.
unfoldable pub pages_of : List Property → List Entry → List Page
pages_of ps [] = []
pages_of ps (prop x k ∷ l) = pages_of ps l
pages_of ps (page n x ∷ l) = filled ps (empty_page n x) l ∷ pages_of ps l
pages_of ps (cat x ∷ l) = pages_of ps l
pages_of ps (val x v ∷ l) = pages_of ps l
pages_of ps (close ∷ l) = pages_of ps l

unfoldable pub register_of : List Entry → Register
register_of l = record { properties = properties l; pages = pages_of (properties l) l }

abbrev pub checks_composed : List Entry → List Check
checks_composed l =
    4 if some_twice l
    ∷ 5 if any (is_undeclared (properties l)) l
    ∷ 6 if any (is_unfit (properties l)) l
    ∷ 7 if over_limits l
    ∷ []

-- 3 goes by names as typed: "Length is counted as typed."
abbrev pub checks : List Entry → List Check
checks l = 3 if any breaks_rule l ∷ checks_composed (composed_entries l)

-- The register that a text gives, or the lowest of 1 to 7.
unfoldable pub read_register : Bytes → Answer Register
read_register s =
    cond (ltb 32768 (length s)) (refused 1)
    (found (entries s) (λ l. judge (checks l) (register_of (composed_entries l))) (refused 2))

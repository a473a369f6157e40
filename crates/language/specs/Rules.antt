-- What a register is; its names are composed. Request 9: "From now on a register is anything that keeps the rules behind 3 to 6 and is within the limits,
-- whether or not one text gives it, and counts as accepted".
use Rattle.std.specs.Prelude.{ℕ, ◌+◌, Bool, ◌&&◌, List, [], ◌∷◌, leb, length}
use Rattle.text.specs.Bytes.{same, all}
use Rattle.names.specs.Names.{is_composed_name, is_composed_property_name, is_composed_namespace}
use Rattle.values.specs.Names.{Identifier, is_value}
use Rattle.values.specs.Values.{scalar, string, Value, plain, link, in_range}
use Rattle.values.specs.Spelling.{spelling}
use Rattle.language.specs.Register.{Page, Register, kinds_hold, distinct, same_property, same_page}
use Rattle.language.specs.RegisterText.{same_held}

unfoldable pub is_identifier : Identifier → Bool
is_identifier i = is_composed_namespace i.namespace && is_composed_name i.article

-- A value keeps its rule. A link does so at its shortest spelling.
unfoldable pub is_storable : Value → Bool
is_storable (plain (scalar k c)) = in_range k c
is_storable (plain (string s)) = is_value s
is_storable (link i) = is_identifier i && is_value (spelling (link i))

-- A page's names, categories and values keep their rules, and no category and no value is there twice.
unfoldable pub is_page : Page → Bool
is_page p =
    is_identifier p.identifier
    && all is_composed_name p.categories
    && distinct same p.categories
    && all (λ h. is_storable h.value) p.values
    && distinct same_held p.values

-- The sum of a number for each element.
unfoldable pub total : {A : Type 0} → (A → ℕ) → List A → ℕ
total f [] = 0
total f (a ∷ l) = f a + total f l

abbrev pub forms_on : Page → ℕ
forms_on p = length p.categories + length p.values

abbrev pub bytes_on : Page → ℕ
bytes_on p =
    length p.identifier.namespace + length p.identifier.article
    + total length p.categories
    + total (λ h. length (spelling h.value)) p.values

-- The bytes "for all its names and values, property names counted once"; the others at each occurrence.
unfoldable pub bytes_in : Register → ℕ
bytes_in R = total (λ p. length p.name) R.properties + total bytes_on R.pages

-- "At most 64 properties, 256 pages and 2,048 cat and val forms", and "32,768 bytes for all its names and values".
unfoldable pub is_within_limits : Register → Bool
is_within_limits R =
    leb (length R.properties) 64
    && leb (length R.pages) 256
    && leb (total forms_on R.pages) 2048
    && leb (bytes_in R) 32768

-- Names and values keep their rules (3), no property and no page is there twice (4), and every value has a declared property (5)
-- of its kind (6).
unfoldable pub is_register : Register → Bool
is_register R =
    all (λ p. is_composed_property_name p.name) R.properties
    && all is_page R.pages
    && distinct same_property R.properties
    && distinct same_page R.pages
    && kinds_hold R
    && is_within_limits R

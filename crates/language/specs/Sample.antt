-- The sample register and the lettered cases. Document 01, "The sample register and its lists".
use Rattle.std.specs.Prelude.{ℕ, zero, suc, ◌≡◌, Bool, List, [], ◌∷◌, ◌++◌, eqb}
use Rattle.text.specs.Bytes.{Bytes, bytes, any}
use Rattle.language.specs.Answer.{Answer, accepted, and_then}
use Rattle.language.specs.RegisterText.{read_register}
use Rattle.language.specs.Direct.{direct_marks}
use Rattle.language.specs.Calls.{run_text}

-- The register text.
unfoldable pub sample_text : Bytes
sample_text =
    bytes "(prop \"Brought by\" page)\n"
    ++ bytes "(prop \"In region\" page)\n"
    ++ bytes "(prop \"Crates\" number)\n"
    ++ bytes "(prop \"Chilled\" boolean)\n"
    ++ bytes "(prop \"Lot\" string)\n"
    ++ bytes "(page \"\" \"Bakery Noor\" (cat \"Supplier\") (val \"In region\" \"North\"))\n"
    ++ bytes "(page \"\" \"Mill Oost\" (cat \"Supplier\") (val \"In region\" \"East\"))\n"
    ++ bytes "(page \"\" \"North\" (cat \"Region\"))\n"
    ++ bytes "(page \"\" \"D1\" (cat \"Delivery\") (val \"Brought by\" \"Bakery Noor\") (val \"Crates\" \"12\") (val \"Chilled\" \"no\") (val \"Lot\" \"A7\") (val \"Lot\" \"A9\"))\n"
    ++ bytes "(page \"\" \"D2\" (cat \"Delivery\") (val \"Brought by\" \"Mill Oost\") (val \"Crates\" \"-3\") (val \"Chilled\" \"Yes\") (val \"Lot\" \"A7\"))\n"
    ++ bytes "(page \"Talk\" \"D1\" (cat \"Note\"))\n"

-- A query and the places of the pages that it selects.
pub record Case : Type 0 where
  pub query : Bytes
  pub places : List ℕ

infix 75 ◌gives◌
abbrev ◌gives◌ : Bytes → List ℕ → Case
q gives l = record { query = q; places = l }

-- a to n
unfoldable pub cases : List Case
cases =
    bytes "[[Lot::A7]] [[Lot::!A7]]" gives (3 ∷ [])
    ∷ bytes "[[Lot::A7]] OR [[Lot::!A7]]" gives (3 ∷ 4 ∷ [])
    ∷ bytes "[[Crates::>12]]" gives (3 ∷ [])
    ∷ bytes "[[Crates::>>12]]" gives []
    ∷ bytes "[[Crates::<0]]" gives (4 ∷ [])
    ∷ bytes "[[D1]]" gives (3 ∷ [])
    ∷ bytes "[[>D1]]" gives (1 ∷ 2 ∷ 3 ∷ 4 ∷ 5 ∷ [])
    ∷ bytes "[[!Talk:D1]]" gives (0 ∷ 1 ∷ 2 ∷ 4 ∷ [])
    ∷ bytes "[[Talk:+]]" gives (5 ∷ [])
    ∷ bytes "[[Brought by.In region::North]]" gives (3 ∷ [])
    ∷ bytes "[[In region::East]]" gives (1 ∷ [])
    ∷ bytes "[[Category:Region]] OR [[Category:Supplier]] AND [[In region::North]]" gives (0 ∷ 2 ∷ [])
    ∷ bytes "[[Crates::-0||-3]]" gives (4 ∷ [])
    ∷ bytes "[[Chilled::>no]]" gives (3 ∷ 4 ∷ [])
    ∷ []

-- The marks of n pages, those at the places marked.
unfoldable pub marks_at : ℕ → List ℕ → List Bool
marks_at zero l = []
marks_at (suc n) l = marks_at n l ++ (any (eqb n) l ∷ [])

-- What a text's run on the sample answers, through the core and by the direct meaning.
unfoldable pub core_answer : Bytes → Answer (List Bool)
core_answer s = and_then (read_register sample_text) (run_text s)

unfoldable pub direct_answer : Bytes → Answer (List Bool)
direct_answer s = and_then (read_register sample_text) (λ R. accepted (direct_marks s R))

-- A case holds: both answers are its places, of 6 pages.
pub record CaseHolds (c : Case) : Type 0 where
  pub core : core_answer c.query ≡ accepted (marks_at 6 c.places)
  pub direct : direct_answer c.query ≡ accepted (marks_at 6 c.places)

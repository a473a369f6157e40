-- Worked examples, computed: "Bäckerei" in both spellings, and what breaks the rule.
use mathlib.Core.Path.{◌≡◌, refl}
use mathlib.Core.Bool.{true, ◌&&◌, not}
use mathlib.Core.List.{List, [], ◌∷◌, ◌++◌}
use Rattle.text.specs.Bytes.{Bytes, bytes, any, all, same}
use Rattle.text.specs.Class.{is_name_byte}
use Rattle.names.specs.Table.{table, find, composition}
use Rattle.names.specs.Codes.{is_mark, is_plain, is_wide, is_pair, pair_code, read, encode, write}
use Rattle.names.specs.Names.{compose, composed, is_form, has_name_shape, is_name}

-- U+00E4, and U+0061 with U+0308 behind it.
abbrev one_letter : Bytes
one_letter = bytes "B" ++ (195 ∷ 164 ∷ []) ++ bytes "ckerei"

abbrev letter_and_mark : Bytes
letter_and_mark = bytes "Ba" ++ (204 ∷ 136 ∷ []) ++ bytes "ckerei"

-- The last is U+00A0, which is no blank.
abbrev names : List Bytes
names = one_letter ∷ letter_and_mark ∷ (194 ∷ 160 ∷ []) ∷ []

-- A second mark, a mark first, a mark behind a letter that does not compose with it, U+0080, an overlong pair, a pair cut off, a mark
-- behind a composed letter, U+0305, U+0180.
abbrev broken : List Bytes
broken =
    (97 ∷ 204 ∷ 136 ∷ 204 ∷ 136 ∷ [])
    ∷ (204 ∷ 136 ∷ [])
    ∷ (98 ∷ 204 ∷ 136 ∷ [])
    ∷ (194 ∷ 128 ∷ [])
    ∷ (193 ∷ 161 ∷ [])
    ∷ (97 ∷ 195 ∷ [])
    ∷ (195 ∷ 164 ∷ 204 ∷ 129 ∷ [])
    ∷ (97 ∷ 204 ∷ 133 ∷ [])
    ∷ (198 ∷ 128 ∷ [])
    ∷ []

examples : (is_form one_letter (composed letter_and_mark) && is_form one_letter (composed one_letter) && all is_name names && all (λ s. not (is_name s)) broken) ≡ true
unfolding composed read compose write encode composition find table all any same is_mark is_plain is_wide is_pair pair_code is_name_byte is_name has_name_shape
examples = refl

-- The bytes of a dictionary region by region, and that regions that hold it are its bytes.
use Prim.Native.Nat.{ℕ, suc, ◌+◌, ◌*◌, ◌<◌}
use mathlib.Core.Path.{◌≡◌, refl, sym, ◌∙◌}
use mathlib.Core.List.{List, [], ◌∷◌, ◌++◌, map, flat_map, append-nil}
use native.Mathlib.Omega.{arith}
use lib.ListN.{length, get_or, drop, length-append, length-drop, length-map}
use lib.Seq.{take_all}
use Rattle.text.specs.Bytes.{Bytes, part}
use Rattle.buffer.specs.Numbers.{padded, starts_from}
use Rattle.register_form.specs.Dictionary.{Dictionary, no_property}
use Rattle.register_form.specs.Form.{register_size, forms_of, joined, count_bytes, property_bytes, number_bytes, bytes_of}
use Rattle.register_form.specs.Tests.{Bounded, term_uses}
use Rattle.buffer.proofs.Parts.{both, part_rest}
use Rattle.buffer.proofs.Regions.{length_padded}
use Rattle.register_form.proofs.Rows.{length_rows, length_numbers}
use Rattle.register_form.proofs.Starts.{length_starts, piece_before}

-- The bytes hold the dictionary, each part in its region.
pub record Holds (h : Bytes) (d : Dictionary) : Type 0 where
  pub counts : part h 0 8 ≡ count_bytes d
  pub properties : part h 8 192 ≡ padded 192 (flat_map property_bytes d.properties)
  pub identifiers : part h 200 512 ≡ padded 512 (number_bytes (map (λ p. p.identifier) d.pages))
  pub form_starts : part h 712 514 ≡ padded 514 (number_bytes (starts_from 0 (map forms_of d.pages)))
  pub forms : part h 1226 4096 ≡ padded 4096 (number_bytes (flat_map forms_of d.pages))
  pub terms : part h 5322 18432 ≡ padded 18432 (joined d.terms)
  pub text_starts : part h 23754 4738 ≡ padded 4738 (number_bytes (starts_from 0 d.texts))
  pub texts : part h 28492 35136 ≡ padded 35136 (joined d.texts)

-- How long what each region holds is.
pub record Lengths (d : Dictionary) : Type 0 where
  pub properties : length (flat_map property_bytes d.properties) ≡ 3 * length d.properties
  pub identifiers : length (number_bytes (map (λ p. p.identifier) d.pages)) ≡ 2 * length d.pages
  pub form_starts : length (number_bytes (starts_from 0 (map forms_of d.pages))) ≡ 2 * suc (length d.pages)
  pub forms : length (number_bytes (term_uses d)) ≡ 2 * length (term_uses d)
  pub terms : length (joined d.terms) ≡ 9 * length d.terms
  pub text_starts : length (number_bytes (starts_from 0 d.texts)) ≡ 2 * suc (length d.texts)

pub lengths : (d : Dictionary) → Bounded d → Lengths d
unfolding property_bytes
lengths d b =
    record {
      properties = length_rows property_bytes 3 (no_property d) d.properties (λ i k. refl);
      identifiers = length_numbers (map (λ p. p.identifier) d.pages) ∙ rw length-map;
      form_starts = length_numbers (starts_from 0 (map forms_of d.pages)) ∙ rw (length_starts 0 (map forms_of d.pages), length-map);
      forms = length_numbers (term_uses d);
      terms = length_rows (λ t. t) 9 [] d.terms b.sized;
      text_starts = length_numbers (starts_from 0 d.texts) ∙ rw (length_starts 0 d.texts);
    }

-- The regions, one behind the other, and their sizes.
abbrev regions_of : Dictionary → List Bytes
regions_of d =
    count_bytes d
    ∷ padded 192 (flat_map property_bytes d.properties)
    ∷ padded 512 (number_bytes (map (λ p. p.identifier) d.pages))
    ∷ padded 514 (number_bytes (starts_from 0 (map forms_of d.pages)))
    ∷ padded 4096 (number_bytes (flat_map forms_of d.pages))
    ∷ padded 18432 (joined d.terms)
    ∷ padded 4738 (number_bytes (starts_from 0 d.texts))
    ∷ padded 35136 (joined d.texts)
    ∷ []

bytes_regions : (d : Dictionary) → bytes_of d ≡ joined (regions_of d)
unfolding bytes_of flat_map
bytes_regions d = rw append-nil

record Sized (d : Dictionary) : Type 0 where
  counts : length (count_bytes d) ≡ 8
  properties : length (get_or (regions_of d) 1 []) ≡ 192
  identifiers : length (get_or (regions_of d) 2 []) ≡ 512
  form_starts : length (get_or (regions_of d) 3 []) ≡ 514
  forms : length (get_or (regions_of d) 4 []) ≡ 4096
  terms : length (get_or (regions_of d) 5 []) ≡ 18432
  text_starts : length (get_or (regions_of d) 6 []) ≡ 4738
  texts : length (get_or (regions_of d) 7 []) ≡ 35136

sized : (d : Dictionary) → Bounded d → Sized d
unfolding count_bytes
sized d b =
    let l : Lengths d = lengths d b in
    record {
      counts = refl;
      properties = length_padded 192 (flat_map property_bytes d.properties) (omega arith);
      identifiers = length_padded 512 (number_bytes (map (λ p. p.identifier) d.pages)) (omega arith);
      form_starts = length_padded 514 (number_bytes (starts_from 0 (map forms_of d.pages))) (omega arith);
      forms = length_padded 4096 (number_bytes (flat_map forms_of d.pages)) (omega arith);
      terms = length_padded 18432 (joined d.terms) (omega arith);
      text_starts = length_padded 4738 (number_bytes (starts_from 0 d.texts)) (omega arith);
      texts = length_padded 35136 (joined d.texts) (omega arith);
    }

pub length_bytes : (d : Dictionary) → Bounded d → length (bytes_of d) ≡ register_size
unfolding bytes_of
length_bytes d b = let s : Sized d = sized d b in simp length-append (omega arith)

-- whatever stands behind them
pub holds_bytes : (d : Dictionary) (z : Bytes) → Bounded d → Holds (bytes_of d ++ z) d
unfolding starts_from
holds_bytes d z b =
    let s : Sized d = sized d b in
    record {
      counts = at 0 0 8 (omega arith) refl s.counts;
      properties = at 1 8 192 (omega arith) (omega arith) s.properties;
      identifiers = at 2 200 512 (omega arith) (omega arith) s.identifiers;
      form_starts = at 3 712 514 (omega arith) (omega arith) s.form_starts;
      forms = at 4 1226 4096 (omega arith) (omega arith) s.forms;
      terms = at 5 5322 18432 (omega arith) (omega arith) s.terms;
      text_starts = at 6 23754 4738 (omega arith) (omega arith) s.text_starts;
      texts = at 7 28492 35136 (omega arith) (omega arith) s.texts;
    }
  where
    at : (i base n : ℕ) → i < 8 → get_or (starts_from 0 (regions_of d)) i 0 ≡ base → length (get_or (regions_of d) i []) ≡ n → part (bytes_of d ++ z) base n ≡ get_or (regions_of d) i []
    at i base n l p q = rw (bytes_regions d, ← p, ← q) (piece_before (regions_of d) i l z)

-- From the regions back to the bytes: a region before the rest.
again : (h a s : Bytes) (base n : ℕ) → part h base n ≡ a → drop (base + n) h ≡ s → drop base h ≡ a ++ s
again h a s base n e l = part_rest h base n ∙ both e l

pub bytes_held : (h : Bytes) (d : Dictionary) → length h ≡ register_size → Holds h d → bytes_of d ≡ h
unfolding bytes_of
bytes_held h d l e =
    let r₇ = sym (take_all 35136 (drop 28492 h) (omega (arith, length-drop 28492 h))) ∙ e.texts in
    let r₆ = again h _ _ 23754 4738 e.text_starts r₇ in
    let r₅ = again h _ _ 5322 18432 e.terms r₆ in
    let r₄ = again h _ _ 1226 4096 e.forms r₅ in
    let r₃ = again h _ _ 712 514 e.form_starts r₄ in
    let r₂ = again h _ _ 200 512 e.identifiers r₃ in
    let r₁ = again h _ _ 8 192 e.properties r₂ in
    sym (again h _ _ 0 8 e.counts r₁)

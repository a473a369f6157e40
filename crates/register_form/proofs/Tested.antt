-- The bytes of a dictionary pass the test of the layout.
use Prim.Native.Nat.{suc, ◌*◌, ◌<◌}
use mathlib.Core.Path.{◌≡◌, ap, sym, ◌∙◌}
use mathlib.Core.Bool.{true}
use mathlib.Core.List.{[], map, flat_map, append-nil}
use native.Mathlib.Omega.{arith}
use lib.ListN.{length, length-map}
use Rattle.text.specs.Bytes.{Bytes}
use Rattle.buffer.specs.Numbers.{two_at, starts_from}
use Rattle.register_form.specs.Dictionary.{Dictionary, property_in}
use Rattle.register_form.specs.Form.{register_size, forms_of, joined, property_bytes, number_bytes, bytes_of, form_start, text_start}
use Rattle.register_form.specs.Tests.{is_laid, Bounded, term_uses}
use Rattle.buffer.proofs.Parts.{flat_map_lem}
use Rattle.buffer.proofs.Regions.{zeros_one_more, zeros_region}
use Rattle.register_form.proofs.Starts.{table_last, table_rises}
use Rattle.register_form.proofs.Laying.{Padded, Laid, facts_laid}
use Rattle.register_form.proofs.Holding.{Holds, Lengths, lengths, holds_bytes, length_bytes}
use Rattle.values.proofs.EachKind.{code_below}
use Rattle.register_form.proofs.ReadBack.{count_properties, count_pages, count_terms, count_texts, kind_there, form_start_lem, text_start_lem}

module _ (h : Bytes) (d : Dictionary) (e : Holds h d) (b : Bounded d) where
  joined_forms : length (joined (map forms_of d.pages)) ≡ length (term_uses d)
  joined_forms = ap length (flat_map_lem forms_of d.pages)

  last_form : form_start h (two_at h 2) ≡ length (term_uses d)
  last_form = rw (count_pages h d e b, ← length-map d.pages forms_of) (table_last (form_start h) (map forms_of d.pages) (form_start_lem h d e b) ∙ joined_forms)

  last_text : text_start h (two_at h 6) ≡ length (joined d.texts)
  last_text = rw (count_texts h d e b) (table_last (text_start h) d.texts (text_start_lem h d e b))

  padding_there : Padded h
  padding_there =
      let l : Lengths d = lengths d b in
      let c₀ = count_properties h d e b in
      let c₂ = count_pages h d e b in
      let c₄ = count_terms h d e b in
      let c₆ = count_texts h d e b in
      let forms = last_form in
      let texts = last_text in
      record {
        properties = zeros_region h 8 192 (flat_map property_bytes d.properties) e.properties (omega arith) (3 * two_at h 0) (omega arith);
        identifiers = zeros_region h 200 512 (number_bytes (map (λ p. p.identifier) d.pages)) e.identifiers (omega arith) (2 * two_at h 2) (omega arith);
        form_starts = sym (zeros_one_more h 712 514 (two_at h 2)) ∙ zeros_region h 712 514 (number_bytes (starts_from 0 (map forms_of d.pages))) e.form_starts (omega arith) (2 * suc (two_at h 2)) (omega arith);
        forms = zeros_region h 1226 4096 (number_bytes (term_uses d)) e.forms (omega arith) (2 * form_start h (two_at h 2)) (omega arith);
        terms = zeros_region h 5322 18432 (joined d.terms) e.terms (omega arith) (9 * two_at h 4) (omega arith);
        text_starts = sym (zeros_one_more h 23754 4738 (two_at h 6)) ∙ zeros_region h 23754 4738 (number_bytes (starts_from 0 d.texts)) e.text_starts (omega arith) (2 * suc (two_at h 6)) (omega arith);
        texts = zeros_region h 28492 35136 (joined d.texts) e.texts (omega arith) (text_start h (two_at h 6)) (omega arith);
      }

  pub laid_there : length h ≡ register_size → Laid h
  laid_there size =
      let c₀ = count_properties h d e b in
      let c₂ = count_pages h d e b in
      let c₄ = count_terms h d e b in
      let c₆ = count_texts h d e b in
      record {
        size = size;
        counted = omega arith;
        kinds = λ i l. let k : i < length d.properties = omega arith in rw (kind_there h d e b i k) (code_below (property_in d i).kind);
        forms = table_rises (form_start h) (map forms_of d.pages) (form_start_lem h d e b) (two_at h 2) 2048 (length-map d.pages forms_of ∙ sym c₂) (omega (arith, joined_forms));
        texts = table_rises (text_start h) d.texts (text_start_lem h d e b) (two_at h 6) 35136 (sym c₆) (omega arith);
        zeros = padding_there;
      }

pub laid : (d : Dictionary) → Bounded d → is_laid (bytes_of d) ≡ true
laid d b = facts_laid (bytes_of d) (laid_there (bytes_of d) d (rw append-nil at (holds_bytes d [] b)) b (length_bytes d b))

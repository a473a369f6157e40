-- What a held register's bytes tell of its dictionary.
use Rattle.language.proofs.Rules.{register_rules}
use Prim.Native.Nat.{ℕ, ◌≤◌, ◌<◌}
use mathlib.Core.Path.{◌≡◌, subst}
use mathlib.Core.List.{[], Memᴰ}
use native.Mathlib.Omega.{arith}
use lib.ListN.{length, get_or}
use Rattle.text.specs.Bytes.{Bytes}
use Rattle.text.proofs.Tables.{length_tabulate, get_d_tabulate}
use Rattle.language.proofs.Members.{all_at}
use Rattle.register_form.specs.Dictionary.{PropertyRow, PageRow, Dictionary, term_in, property_in, no_property, decode}
use Rattle.register_form.specs.Form.{page_count, property_count, term_count, property_at, page_at, term_at, dictionary_in, register_in}
use Rattle.register_form.specs.Tests.{is_plain_number, term_uses}
use Rattle.register_form.proofs.Lists.{mem_at}
use Rattle.register_form.proofs.Laying.{Laid, laid_facts}
use Rattle.register_form.proofs.Rewritten.{bounded_in}
use Rattle.register_form.proofs.Forms.{shaped_in}
use Rattle.register_form.proofs.Described.{Canon, canon, plain_below, page_below}
use Rattle.register_form.specs.Formed.{Formed}
use Rattle.register_join_draft.specs.Joined.{no_page}
use Rattle.register_join_draft.proofs.Rows.{Proper}

module _ (h : Bytes) (f : Formed h) where
  abbrev d : Dictionary
  d = dictionary_in h

  laid : Laid h
  laid = laid_facts h f.laid

  pub held_canon : Canon d
  held_canon = canon d f.canonical

  -- How many there are.
  pub count_properties : length d.properties ≡ property_count h
  unfolding dictionary_in
  count_properties = length_tabulate (property_count h) (property_at h)

  pub count_pages : length d.pages ≡ page_count h
  unfolding dictionary_in
  count_pages = length_tabulate (page_count h) (page_at h)

  pub count_terms : length d.terms ≡ term_count h
  unfolding dictionary_in
  count_terms = length_tabulate (term_count h) (term_at h)

  pub properties_few : property_count h ≤ 64
  properties_few = laid.counted.properties

  pub pages_few : page_count h ≤ 256
  pages_few = laid.counted.pages

  pub terms_few : length d.terms ≤ 2048
  terms_few = omega (arith, laid.counted.terms, count_terms)

  pub forms_few : length (term_uses d) ≤ 2048
  forms_few = (bounded_in h f.laid f.small).forms

  -- Rows by their numbers.
  pub property_is : (q : ℕ) → q < property_count h → property_in d q ≡ property_at h q
  unfolding dictionary_in
  property_is q b = get_d_tabulate (property_count h) (property_at h) (no_property d) q b

  pub page_is : (q : ℕ) → q < page_count h → get_or d.pages q no_page ≡ page_at h q
  unfolding dictionary_in
  page_is q b = get_d_tabulate (page_count h) (page_at h) no_page q b

  pub term_is : (q : ℕ) → q < length d.terms → term_in d q ≡ term_at h q
  unfolding dictionary_in
  term_is q b = get_d_tabulate (term_count h) (term_at h) [] q (rw length_tabulate at b)

  pub name_below : (q : ℕ) → q < property_count h → (property_at h q).name < length d.texts
  name_below q b =
      let m : Memᴰ (property_in d q) d.properties = mem_at d.properties q (no_property d) (omega (arith, count_properties)) in
      subst (λ (r : PropertyRow). r.name < length d.texts) (property_is q b) (plain_below d (property_in d q).name (all_at (λ p. is_plain_number d p.name) held_canon.names m))

  pub identifier_below : (q : ℕ) → q < page_count h → (page_at h q).identifier < length d.texts
  identifier_below q b =
      let m : Memᴰ (get_or d.pages q no_page) d.pages = mem_at d.pages q no_page (omega (arith, count_pages)) in
      subst (λ (r : PageRow). r.identifier < length d.texts) (page_is q b) (page_below d held_canon m)

  pub proper : Proper d
  unfolding register_in
  proper = record { canon = held_canon; shaped = shaped_in h f.laid f.small; keeps = register_rules (decode d) f.register }

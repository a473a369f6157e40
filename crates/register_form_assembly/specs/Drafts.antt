-- A draft as functions have it: the tables that it tells, and the bytes of its texts and terms.
use Rattle.std.specs.Prelude.{ℕ, List}
use Rattle.values.specs.declared.Kind.{Kind}
use Rattle.dictionary.specs.declared.Texts.{Texts}
use Rattle.register_form.specs.Tables.{Tables, tables_of}
use Rattle.register_form_assembly.specs.declared.Draft.{Draft}
use Rattle.register_form_assembly.specs.Counting.{text_bytes, link_bytes, value_bytes, form_bytes, term_bytes_by}

abbrev pub tables_in : Draft → Tables
tables_in d =
    tables_of d.texts.bytes.now d.texts.starts.now d.texts.lens.now d.text_count d.kinds.now d.names.now d.property_count d.identifiers.now d.firsts.now d.page_count d.uses.now d.groups.now d.codes.now d.term_count

abbrev pub text_sizes : Texts → ℕ → ℕ
text_sizes t = text_bytes t.bytes.now t.starts.now t.lens.now

abbrev pub link_sizes : Texts → ℕ → ℕ
link_sizes t = link_bytes t.bytes.now t.starts.now t.lens.now

abbrev pub value_sizes : Texts → Kind → ℕ → ℕ
value_sizes t = value_bytes t.bytes.now t.starts.now t.lens.now

abbrev pub form_sizes : Draft → ℕ → ℕ → ℕ
form_sizes d = form_bytes d.texts.bytes.now d.texts.starts.now d.texts.lens.now d.kinds.now

abbrev pub term_sizes : Draft → List ℕ → ℕ → ℕ
term_sizes d = term_bytes_by d.texts.bytes.now d.texts.starts.now d.texts.lens.now d.kinds.now d.groups.now d.codes.now

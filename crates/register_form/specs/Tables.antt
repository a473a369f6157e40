-- Working definitions: a draft in tables.
use Rattle.std.specs.Prelude.{ℕ, suc, ◌+◌, ◌-◌, List, get_or}
use Rattle.text.specs.Bytes.{Bytes}
use Rattle.text.specs.Table.{tabulate}
use Rattle.values.specs.Values.{kind_from}
use Rattle.dictionary.specs.Items.{text_at}
use Rattle.register_form.specs.Dictionary.{Dictionary, term_of}

-- Text i is the part of s that starts and lens tell; property p has the kind of a byte and a text for its name; page i has a text for its
-- identifier, and the terms that uses has from firsts i up to the next; a term has a group and a code. There are m texts, np properties, ng
-- pages and nt terms, which pages may share.
pub record Tables : Type 0 where
  pub s : Bytes
  pub starts : List ℕ
  pub lens : List ℕ
  pub m : ℕ
  pub kinds : List ℕ
  pub names : List ℕ
  pub np : ℕ
  pub identifiers : List ℕ
  pub firsts : List ℕ
  pub ng : ℕ
  pub uses : List ℕ
  pub groups : List ℕ
  pub codes : List ℕ
  pub nt : ℕ

-- The tables, one by one, as functions have them.
abbrev pub tables_of : Bytes → List ℕ → List ℕ → ℕ → List ℕ → List ℕ → ℕ → List ℕ → List ℕ → ℕ → List ℕ → List ℕ → List ℕ → ℕ → Tables
tables_of s starts lens m kinds names np identifiers firsts ng uses groups codes nt =
    record { s = s; starts = starts; lens = lens; m = m; kinds = kinds; names = names; np = np; identifiers = identifiers; firsts = firsts; ng = ng; uses = uses; groups = groups; codes = codes; nt = nt }

-- What a table has from one place up to another.
unfoldable pub between : List ℕ → ℕ → ℕ → List ℕ
between uses from to = tabulate (to - from) (λ j. get_or uses (from + j) 0)

-- The forms of page i.
abbrev pub forms_at : List ℕ → List ℕ → ℕ → List ℕ
forms_at uses firsts i = between uses (get_or firsts i 0) (get_or firsts (suc i) 0)

-- The draft that tables tell.
unfoldable pub draft_in : Tables → Dictionary
draft_in t =
    record {
      properties = tabulate t.np (λ p. record { kind = kind_from (get_or t.kinds p 0); name = get_or t.names p 0 });
      pages = tabulate t.ng (λ i. record { identifier = get_or t.identifiers i 0; forms = forms_at t.uses t.firsts i });
      terms = tabulate t.nt (λ f. term_of (get_or t.groups f 0) (get_or t.codes f 0));
      texts = tabulate t.m (text_at t.s t.starts t.lens);
    }

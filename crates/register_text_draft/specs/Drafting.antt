-- The draft of a list of entries: each entry adds its texts and its row behind those of the entries before it.
use Rattle.std.specs.Prelude.{ℕ, suc, List, [], ◌∷◌, ◌++◌, length}
use Rattle.text.specs.Bytes.{Bytes}
use Rattle.values.specs.declared.Kind.{Kind}
use Rattle.values.specs.Values.{scalar, string, Value, plain, link}
use Rattle.language.specs.Answer.{found}
use Rattle.language.specs.Register.{Property}
use Rattle.language.specs.RegisterText.{Entry, prop, page, cat, val, close, value_of}
use Rattle.register_form.specs.Dictionary.{PageRow, Dictionary, labelled, term_of}
use Rattle.register_form.specs.Encoding.{plain_text, value_texts, place_among}

abbrev pub no_draft : Dictionary
no_draft = record { properties = []; pages = []; terms = []; texts = [] }

-- Texts, a property named by text x, and a page without forms whose identifier is text x, behind what is there.
abbrev pub with_texts : List Bytes → Dictionary → Dictionary
with_texts l d = record { properties = d.properties; pages = d.pages; terms = d.terms; texts = d.texts ++ l }

abbrev pub with_property : Kind → ℕ → Dictionary → Dictionary
with_property k x d = record { properties = d.properties ++ (record { kind = k; name = x } ∷ []); pages = d.pages; terms = d.terms; texts = d.texts }

abbrev pub with_page : ℕ → Dictionary → Dictionary
with_page x d = record { properties = d.properties; pages = d.pages ++ (record { identifier = x; forms = [] } ∷ []); terms = d.terms; texts = d.texts }

-- One form more on the last page.
abbrev pub with_form : ℕ → PageRow → PageRow
with_form f r = record { identifier = r.identifier; forms = r.forms ++ (f ∷ []) }

unfoldable pub on_last : ℕ → List PageRow → List PageRow
on_last f [] = []
on_last f (r ∷ []) = with_form f r ∷ []
on_last f (r ∷ q ∷ l) = r ∷ on_last f (q ∷ l)

abbrev pub with_term : ℕ → ℕ → Dictionary → Dictionary
with_term g c d = record { properties = d.properties; pages = on_last (length d.terms) d.pages; terms = d.terms ++ (term_of g c ∷ []); texts = d.texts }

-- The code of a value whose text, if it has one, is text n.
abbrev pub code_in : ℕ → Value → ℕ
code_in n (plain (scalar k c)) = c
code_in n (plain (string s)) = n
code_in n (link i) = n

-- A value in a group.
abbrev pub with_value : ℕ → Value → Dictionary → Dictionary
with_value g v d = with_term g (code_in (length d.texts) v) (with_texts (value_texts v) d)

-- One entry more. A category is coded as a string is; ps are the properties of the whole text.
unfoldable pub added : List Property → Dictionary → Entry → Dictionary
added ps d (prop x k) = with_property k (length d.texts) (with_texts (plain_text x ∷ []) d)
added ps d (page n x) = with_page (length d.texts) (with_texts (labelled n x ∷ []) d)
added ps d (cat x) = with_value 0 (plain (string x)) d
added ps d (val x v) = found (value_of ps x v) (λ w. with_value (suc (place_among ps x)) w d) d
added ps d close = d

unfoldable pub draft_from : List Property → Dictionary → List Entry → Dictionary
draft_from ps d [] = d
draft_from ps d (e ∷ l) = draft_from ps (added ps d e) l

unfoldable pub draft_of : List Property → List Entry → Dictionary
draft_of ps l = draft_from ps no_draft l

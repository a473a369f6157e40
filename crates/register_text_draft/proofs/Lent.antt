-- The slices that are lent stay the same, and as long, whatever is written behind them.
use Rattle.std.specs.Borrow.{MutBor}
use Prim.Native.Nat.{ℕ}
use denote.MutBor.{at_last}
use mathlib.Core.Path.{◌≡◌, refl, sym, ap, ◌∙◌, subst}
use mathlib.Core.List.{List}
use lib.ListN.{length, set, length-set}
use Rattle.register_form.specs.Dictionary.{Dictionary}
use Rattle.register_text_draft.specs.declared.TextTable.{TextTable}
use Rattle.register_text_draft.specs.declared.PropertyTable.{PropertyTable}
use Rattle.register_text_draft.specs.declared.PageTable.{PageTable}
use Rattle.register_text_draft.specs.declared.TermTable.{TermTable}
use Rattle.register_text_draft.specs.declared.DraftTables.{DraftTables}
use Rattle.register_text_draft.specs.Lent.{SameSlice, SameTexts, SameProperties, SamePages, SameTerms, SameTables, together, identified}
use Rattle.register_text_draft.specs.Tables.{Extends}

same_slice : (a : MutBor (List ℕ)) → SameSlice a a
same_slice a = record { reference = refl; size = refl }

same_then : (a b c : MutBor (List ℕ)) → SameSlice a b → SameSlice b c → SameSlice a c
same_then a b c p q = record { reference = q.reference ∙ p.reference; size = q.size ∙ p.size }

same_size : (a : MutBor (List ℕ)) (l : List ℕ) → length l ≡ length a.now → SameSlice a (at_last a l)
same_size a l e = record { reference = refl; size = e }

pub set_size : (a : List ℕ) (i v : ℕ) (l : List ℕ) → l ≡ set a i v → length l ≡ length a
set_size a i v l e = ap length e ∙ length-set a i v

same_set : (a : MutBor (List ℕ)) (i v : ℕ) (l : List ℕ) → l ≡ set a.now i v → SameSlice a (at_last a l)
same_set a i v l e = same_size a l (set_size a.now i v l e)

-- Where nothing is written.
pub same_texts : (t : TextTable) → SameTexts t t
same_texts t = record { heap = same_slice t.heap; starts = same_slice t.starts; lens = same_slice t.lens }

pub same_properties : (p : PropertyTable) → SameProperties p p
same_properties p = record { kinds = same_slice p.kinds; names = same_slice p.names }

pub same_pages : (g : PageTable) → SamePages g g
same_pages g = record { identifiers = same_slice g.identifiers; firsts = same_slice g.firsts }

pub same_terms : (v : TermTable) → SameTerms v v
same_terms v = record { groups = same_slice v.groups; codes = same_slice v.codes }

pub same_tables : (a : DraftTables) → SameTables a a
same_tables a = record { texts = same_texts a.texts; properties = same_properties a.properties; pages = same_pages a.pages; terms = same_terms a.terms }

-- Where rows are written.
pub texts_ended : (t : TextTable) (i v : ℕ) (s : List ℕ) → s ≡ set t.starts.now i v → (j w : ℕ) (l : List ℕ) → l ≡ set t.lens.now j w → (n e : ℕ) → SameTexts t (record { heap = t.heap; starts = at_last t.starts s; lens = at_last t.lens l; count = n; end = e })
texts_ended t i v s es j w l el n e = record { heap = same_slice t.heap; starts = same_set t.starts i v s es; lens = same_set t.lens j w l el }

pub texts_behind : (t : TextTable) (h : List ℕ) → length h ≡ length t.heap.now → (u : TextTable) → SameTexts (record { heap = at_last t.heap h; starts = t.starts; lens = t.lens; count = t.count; end = t.end }) u → SameTexts t u
texts_behind t h e u s = record { heap = same_then t.heap (at_last t.heap h) u.heap (same_size t.heap h e) s.heap; starts = s.starts; lens = s.lens }

pub properties_written : (p : PropertyTable) (i v : ℕ) (k : List ℕ) → k ≡ set p.kinds.now i v → (j w : ℕ) (l : List ℕ) → l ≡ set p.names.now j w → (n : ℕ) → SameProperties p (record { kinds = at_last p.kinds k; names = at_last p.names l; count = n })
properties_written p i v k ek j w l el n = record { kinds = same_set p.kinds i v k ek; names = same_set p.names j w l el }

pub pages_written : (g : PageTable) (i v : ℕ) (k : List ℕ) → k ≡ set g.identifiers.now i v → (j w : ℕ) (l : List ℕ) → l ≡ set g.firsts.now j w → (n : ℕ) → SamePages g (record { identifiers = at_last g.identifiers k; firsts = at_last g.firsts l; count = n })
pages_written g i v k ek j w l el n = record { identifiers = same_set g.identifiers i v k ek; firsts = same_set g.firsts j w l el }

pub firsts_written : (g : PageTable) (j w : ℕ) (l : List ℕ) → l ≡ set g.firsts.now j w → (n : ℕ) → SamePages g (record { identifiers = g.identifiers; firsts = at_last g.firsts l; count = n })
firsts_written g j w l el n = record { identifiers = same_slice g.identifiers; firsts = same_set g.firsts j w l el }

pub terms_written : (v : TermTable) (i x : ℕ) (k : List ℕ) → k ≡ set v.groups.now i x → (j w : ℕ) (l : List ℕ) → l ≡ set v.codes.now j w → (n : ℕ) → SameTerms v (record { groups = at_last v.groups k; codes = at_last v.codes l; count = n })
terms_written v i x k ek j w l el n = record { groups = same_set v.groups i x k ek; codes = same_set v.codes j w l el }

-- Where all rows are taken away.
pub tables_cleared : (a : DraftTables) (j w : ℕ) (l : List ℕ) → l ≡ set a.pages.firsts.now j w → (m e p g n : ℕ)
    → SameTables a (record {
      texts = record { heap = a.texts.heap; starts = a.texts.starts; lens = a.texts.lens; count = m; end = e };
      properties = record { kinds = a.properties.kinds; names = a.properties.names; count = p };
      pages = record { identifiers = a.pages.identifiers; firsts = at_last a.pages.firsts l; count = g };
      terms = record { groups = a.terms.groups; codes = a.terms.codes; count = n };
    })
tables_cleared a j w l el m e p g n =
    record {
      texts = record { heap = same_slice a.texts.heap; starts = same_slice a.texts.starts; lens = same_slice a.texts.lens };
      properties = record { kinds = same_slice a.properties.kinds; names = same_slice a.properties.names };
      pages = firsts_written a.pages j w l el g;
      terms = record { groups = same_slice a.terms.groups; codes = same_slice a.terms.codes };
    }

-- From step to step.
pub tables_then : (a b c : DraftTables) → SameTables a b → SameTables b c → SameTables a c
tables_then a b c p q =
    record {
      texts = record { heap = same_then a.texts.heap b.texts.heap c.texts.heap p.texts.heap q.texts.heap; starts = same_then a.texts.starts b.texts.starts c.texts.starts p.texts.starts q.texts.starts; lens = same_then a.texts.lens b.texts.lens c.texts.lens p.texts.lens q.texts.lens };
      properties = record { kinds = same_then a.properties.kinds b.properties.kinds c.properties.kinds p.properties.kinds q.properties.kinds; names = same_then a.properties.names b.properties.names c.properties.names p.properties.names q.properties.names };
      pages = record { identifiers = same_then a.pages.identifiers b.pages.identifiers c.pages.identifiers p.pages.identifiers q.pages.identifiers; firsts = same_then a.pages.firsts b.pages.firsts c.pages.firsts p.pages.firsts q.pages.firsts };
      terms = record { groups = same_then a.terms.groups b.terms.groups c.terms.groups p.terms.groups q.terms.groups; codes = same_then a.terms.codes b.terms.codes c.terms.codes p.terms.codes q.terms.codes };
    }

-- What holds whatever the identifiers are holds of those that are there, where they stay.
pub own_identifiers : (a b : PageTable) → b.identifiers ≡ a.identifiers → (t u : TextTable) (p : PropertyTable) (v w : TermTable) (f : Dictionary → Dictionary) → ((i : MutBor (List ℕ)) → Extends (together t p (identified i a) v) (together u p (identified i b) w) f)
    → Extends (together t p a v) (together u p b w) f
own_identifiers a b e t u p v w f h = subst (λ (i : MutBor (List ℕ)). Extends (together t p a v) (together u p (identified i b) w) f) (sym e) (h a.identifiers)

-- Two registers whose kinds do not clash: the draft of their join describes it. For registers, and for held registers by the calls.
use Rattle.language.proofs.Rules.{Ruled, register_rules}
use Prim.Native.Nat.{ℕ, ◌≤◌}
use mathlib.Core.Path.{◌≡◌, sym, ap, ap₂, ◌∙◌, subst}
use mathlib.Core.Bool.{true, false}
use mathlib.Core.List.{List, flat_map, Memᴰ}
use native.Mathlib.Omega.{arith}
use lib.ListN.{length}
use Rattle.text.specs.Bytes.{Bytes}
use Rattle.text.specs.Table.{tabulate}
use Rattle.text.proofs.Tables.{length_tabulate}
use Rattle.language.specs.Register.{Held, Page, Register}
use Rattle.language.specs.Rules.{is_register}
use Rattle.language.specs.Joining.{join, kinds_clash}
use Rattle.dictionary.specs.Items.{text_at as item_at}
use Rattle.register_form.specs.Dictionary.{Dictionary, term_of, group_of, term_code, decode}
use Rattle.register_form.specs.Encoding.{category_term, value_term, page_terms, terms_of, encode}
use Rattle.register_form.specs.Form.{dictionary_in, register_in}
use Rattle.register_form.specs.Draft.{Draft, drafted}
use Rattle.register_form.specs.Tables.{tables_of, draft_in}
use Rattle.register_form.proofs.Lists.{of_flat, of_sorted}
use Rattle.register_form.proofs.Rules.{Limits, within}
use Rattle.register_form.proofs.Decoded.{category_code, value_code_lem, decoded}
use Rattle.register_form.proofs.Canonical.{TermFrom, term_from_lem, canonical}
use Rattle.register_form.proofs.Described.{Shaped, canon}
use Rattle.register_form.specs.Formed.{Formed}
use Rattle.register_join_merge.specs.Merged.{Merged}
use Rattle.register_join_draft.specs.Joined.{join_draft}
use Rattle.register_join_draft.specs.Drafting.{items_in, TableRoom, JoinPut}
use Rattle.register_join_draft.proofs.Rows.{Proper, Joint}
use Rattle.register_join_draft.proofs.Drafted.{terms_many, join_draft_lem, join_drafted}
use Rattle.register_join_draft.proofs.Held.{proper, terms_few}

-- The dictionary of a register.
module _ (R : Register) (h : is_register R ≡ true) where
  k : Ruled R
  k = register_rules R h

  w : Limits R
  w = within R k.limits

  category_shaped : {p : Page} {x : Bytes} → Memᴰ p R.pages → Memᴰ x p.categories → term_of (group_of (category_term R x)) (term_code (category_term R x)) ≡ category_term R x
  unfolding category_term
  category_shaped m n = ap (term_of 0) (category_code R k w m n)

  value_shaped : {p : Page} {v : Held} → Memᴰ p R.pages → Memᴰ v p.values → term_of (group_of (value_term R v)) (term_code (value_term R v)) ≡ value_term R v
  unfolding value_term
  value_shaped {p} {v} m n = ap (term_of _) (value_code_lem R k w m n)

  shaped : Shaped (encode R)
  unfolding encode terms_of
  shaped t m = let q = of_flat (page_terms R) R.pages (of_sorted (flat_map (page_terms R) R.pages) m) in go q.1 (term_from_lem R q.0 q.2)
    where
      go : {p : Page} → Memᴰ p R.pages → TermFrom R p t → term_of (group_of t) (term_code t) ≡ t
      go n (TermFrom.category c e) = ap (λ (u : Bytes). term_of (group_of u) (term_code u)) e ∙ category_shaped n c ∙ sym e
      go n (TermFrom.value c e) = ap (λ (u : Bytes). term_of (group_of u) (term_code u)) e ∙ value_shaped n c ∙ sym e

  encoded_proper : Proper (encode R)
  encoded_proper = record { canon = canon (encode R) (canonical R k w); shaped = shaped; keeps = subst Ruled (sym (decoded R k w)) k }

-- Of registers: any list that has the texts of both serves.
module _ (R S : Register) (r : is_register R ≡ true) (s : is_register S ≡ true) (clear : kinds_clash R S ≡ false)
    (item1 item2 : ℕ → ℕ) (texts : List Bytes) (merged : Merged (encode R) (encode S) texts item1 item2) where
  back1 : decode (encode R) ≡ R
  back1 = decoded R (k R r) (w R r)

  back2 : decode (encode S) ≡ S
  back2 = decoded S (k S s) (w S s)

  joint : Joint (encode R) (encode S) item1 item2 texts
  joint = record { first = encoded_proper R r; second = encoded_proper S s; merged = merged; clear = ap₂ kinds_clash back1 back2 ∙ clear }

  pub registers_draft : Draft (join_draft (encode R) (encode S) item1 item2 texts)
  registers_draft = join_draft_lem (encode R) (encode S) item1 item2 texts joint

  pub registers_drafted : drafted (join_draft (encode R) (encode S) item1 item2 texts) ≡ join R S
  registers_drafted = join_drafted (encode R) (encode S) item1 item2 texts joint ∙ ap₂ join back1 back2

-- Of held registers: what `draft_join` leaves in the tables, where the texts are merged and the kinds do not clash.
module _ (h g u : Bytes) (ss ls items1 items2 : List ℕ) (n : ℕ) (fh : Formed h) (fg : Formed g)
    (merged : Merged (dictionary_in h) (dictionary_in g) (tabulate n (item_at u ss ls)) (items_in items1) (items_in items2)) (clear : kinds_clash (register_in h) (register_in g) ≡ false)
    (kinds names identifiers firsts uses groups codes ks ns is fs us gs cs : List ℕ) (np ng nt : ℕ) (put : JoinPut h g items1 items2 kinds names identifiers firsts uses groups codes ks ns is fs us gs cs np ng nt)
    (space : TableRoom kinds names identifiers firsts uses groups codes)
  where
    abbrev texts : List Bytes
    texts = tabulate n (item_at u ss ls)

    abbrev made : Dictionary
    made = join_draft (dictionary_in h) (dictionary_in g) (items_in items1) (items_in items2) texts

    pub held_is_join : draft_in (tables_of u ss ls n ks ns np is fs ng us gs cs nt) ≡ made
    held_is_join = put.draft fh fg texts merged space u ss ls n

    held_joint : Joint (dictionary_in h) (dictionary_in g) (items_in items1) (items_in items2) texts
    unfolding register_in
    held_joint = record { first = proper h fh; second = proper g fg; merged = merged; clear = clear }

    pub held_draft : Draft (draft_in (tables_of u ss ls n ks ns np is fs ng us gs cs nt))
    held_draft = rw held_is_join (join_draft_lem (dictionary_in h) (dictionary_in g) (items_in items1) (items_in items2) texts held_joint)

    pub held_drafted : drafted (draft_in (tables_of u ss ls n ks ns np is fs ng us gs cs nt)) ≡ join (register_in h) (register_in g)
    unfolding register_in
    held_drafted = ap drafted held_is_join ∙ join_drafted (dictionary_in h) (dictionary_in g) (items_in items1) (items_in items2) texts held_joint

    -- How many texts and terms there are.
    pub held_texts : n ≤ 4736
    held_texts = omega (arith, merged.few, length_tabulate n (item_at u ss ls))

    made_terms : length made.terms ≤ 4096
    made_terms = omega (arith, terms_many (dictionary_in h) (dictionary_in g) (items_in items1) (items_in items2) texts held_joint, terms_few h fh, terms_few g fg)

    draft_terms : length (draft_in (tables_of u ss ls n ks ns np is fs ng us gs cs nt)).terms ≡ nt
    unfolding draft_in
    draft_terms = length_tabulate nt _

    pub held_terms : nt ≤ 4096
    held_terms = omega (arith, draft_terms, ap (λ (d : Dictionary). length d.terms) held_is_join, made_terms)

-- The regions that the writer writes are those of the dictionary that its tables tell.
use Prim.Native.Nat.{ℕ, suc, ◌+◌, ◌≤◌}
use mathlib.Core.Path.{◌≡◌, refl, sym, ap, ◌∙◌}
use mathlib.Core.List.{List, [], ◌∷◌, ◌++◌, map, flat_map}
use native.Mathlib.Omega.{arith}
use lib.ListN.{length, get_or, length-append}
use Rattle.text.specs.Bytes.{Bytes}
use Rattle.text.specs.Table.{tabulate}
use Rattle.text.proofs.Tables.{length_tabulate, is_tabulate}
use Rattle.sorting.specs.Listing.{listed}
use Rattle.sorting.proofs.Listings.{length_listed}
use Rattle.dictionary.specs.Items.{text_at}
use Rattle.buffer.specs.Numbers.{starts_from}
use Rattle.register_form.specs.Form.{forms_of, joined, count_bytes, property_bytes, number_bytes}
use Rattle.buffer.proofs.Parts.{map_tabulate, flat_more}
use Rattle.register_form.proofs.Laying.{rises_to}
use Rattle.register_form.proofs.Starts.{starts_tabulate}
use Rattle.buffer.specs.Writing.{written}
use Rattle.register_form_bytes.specs.Writing.{picked, first_of, rows_of, four_bytes, Region, put_regions, regions_of}
use Rattle.register_form.specs.Tables.{Tables}
use Rattle.register_form_assembly.specs.Keeping.{kept_on, kept_up_to, PagesKept}
use Rattle.register_form_write.specs.Writer.{Found, page_by, tabled, row_regions, list_regions}
use Rattle.register_form_write.proofs.Counted.{uses_are}

-- Regions one behind the other.
module _ (a b c d e : Bytes) where
  pub rows_put : (h k l m o q : Bytes) → k ≡ written h 0 a → l ≡ written k 8 b → m ≡ written l 200 c → o ≡ written m 712 d → q ≡ written o 1226 e → q ≡ put_regions 0 (record { size = 8; bytes = a } ∷ record { size = 192; bytes = b } ∷ record { size = 512; bytes = c } ∷ record { size = 514; bytes = d } ∷ record { size = 4096; bytes = e } ∷ []) h
  unfolding put_regions
  rows_put h k l m o q f g i j n = n ∙ rw (j, i, g, f)

pub lists_put : (terms texts : List Bytes) (h k l m : Bytes) → k ≡ written h 5322 (joined terms) → l ≡ written k 23754 (number_bytes (starts_from 0 texts)) → m ≡ written l 28492 (joined texts) → m ≡ put_regions 5322 (list_regions terms texts) h
unfolding put_regions
lists_put terms texts h k l m f g i = i ∙ rw (g, f)

pub all_put : (kinds numbers names : List ℕ) (np : ℕ) (identifiers : List ℕ) (ng nt nx : ℕ) (begins : List ℕ) (nb : ℕ) (kept : List ℕ) (n : ℕ) (terms texts : List Bytes) (h k l : Bytes)
    → k ≡ put_regions 0 (row_regions kinds numbers names np identifiers ng nt nx begins nb kept n) h
    → l ≡ put_regions 5322 (list_regions terms texts) k
    → l ≡ put_regions 0 (row_regions kinds numbers names np identifiers ng nt nx begins nb kept n ++ list_regions terms texts) h
unfolding put_regions
all_put kinds numbers names np identifiers ng nt nx begins nb kept n terms texts h k l f g = g ∙ rw f

-- What pages keep, up to each page.
module _ (groups numbers uses firsts : List ℕ) where
  up_to_none : length (kept_up_to groups numbers uses firsts 0) ≡ 0
  unfolding kept_up_to tabulate flat_map
  up_to_none = refl

  up_to_more : (i : ℕ) → length (kept_up_to groups numbers uses firsts (suc i)) ≡ length (kept_up_to groups numbers uses firsts i) + length (kept_on groups numbers uses firsts i)
  unfolding kept_up_to
  up_to_more i = ap length (flat_more (λ (t : Bytes). t) i (kept_on groups numbers uses firsts)) ∙ length-append (kept_up_to groups numbers uses firsts i) (kept_on groups numbers uses firsts i)

  module _ (n : ℕ) (table begins : List ℕ) (r : ℕ) (p : PagesKept groups numbers uses firsts n table begins r) (few : r ≤ 2048) where
    count_is : r ≡ length (kept_up_to groups numbers uses firsts n)
    count_is = omega (arith, p.listed.count)

    up_to_few : (j : ℕ) → j ≤ n → length (kept_up_to groups numbers uses firsts j) ≤ 2048
    up_to_few j b =
        omega (arith, count_is, rises_to (λ i. length (kept_up_to groups numbers uses firsts i)) n (λ i c. omega (arith, up_to_more i)) j b)

    begin_is : (j : ℕ) → j ≤ n → get_or begins j 0 ≡ length (kept_up_to groups numbers uses firsts j)
    begin_is j b = omega (arith, p.begins j b, up_to_few j b)

    pub begins_are : starts_from 0 (tabulate n (kept_on groups numbers uses firsts)) ≡ first_of begins (suc n)
    unfolding first_of
    begins_are =
        starts_tabulate (λ j. get_or begins j 0) (omega (arith, begin_is 0 (omega arith), up_to_none)) n (kept_on groups numbers uses firsts)
        (λ i b. omega (arith, begin_is i (omega arith), begin_is (suc i) b, up_to_more i))

    pub kept_are : kept_up_to groups numbers uses firsts n ≡ first_of table r
    unfolding first_of
    kept_are = is_tabulate r (λ j. get_or table j 0) 0 (kept_up_to groups numbers uses firsts n) (sym count_is) (λ j b. sym (p.listed.at j (omega (arith, count_is)) (omega arith)))

-- The regions of the dictionary.
module _ (t : Tables) (v : Found) (table begins : List ℕ) (r nb : ℕ) (p : PagesKept t.groups v.term_numbers t.uses t.firsts t.ng table begins r) (few : r ≤ 2048) (after : nb ≡ suc t.ng) where
  counts_are : four_bytes t.np t.ng v.nt v.nx ≡ count_bytes (tabled t v)
  unfolding count_bytes tabled rows_of
  counts_are = sym (rw (length_tabulate, length_tabulate, length_listed, length_listed))

  identifiers_are : picked v.numbers t.identifiers t.ng ≡ map (λ q. q.identifier) (tabled t v).pages
  unfolding picked tabled
  identifiers_are = sym (map_tabulate (λ q. q.identifier) t.ng (page_by t v))

  starts_are : first_of begins nb ≡ starts_from 0 (map forms_of (tabled t v).pages)
  unfolding tabled
  starts_are = ap (first_of begins) after ∙ sym (begins_are t.groups v.term_numbers t.uses t.firsts t.ng table begins r p few) ∙ ap (starts_from 0) (sym (map_tabulate forms_of t.ng (page_by t v)))

  forms_are : first_of table r ≡ flat_map forms_of (tabled t v).pages
  forms_are = sym (kept_are t.groups v.term_numbers t.uses t.firsts t.ng table begins r p few) ∙ sym (uses_are t v)

  region : (n : ℕ) {a b : Bytes} → a ≡ b → ◌≡◌ {A = Region} (record { size = n; bytes = a }) (record { size = n; bytes = b })
  region n e = λ j. record { size = n; bytes = e j }

  pub regions_are : row_regions t.kinds v.numbers t.names t.np t.identifiers t.ng v.nt v.nx begins nb table r ++ list_regions (listed (text_at v.table v.term_starts v.term_lens) v.term_refs v.nt) (listed (text_at t.s t.starts t.lens) v.refs v.nx) ≡ regions_of (tabled t v)
  unfolding tabled
  regions_are =
      λ j.
      region 8 counts_are j
      ∷ record { size = 192; bytes = flat_map property_bytes (rows_of t.kinds v.numbers t.names t.np) }
      ∷ region 512 (ap number_bytes identifiers_are) j
      ∷ region 514 (ap number_bytes starts_are) j
      ∷ region 4096 (ap number_bytes forms_are) j
      ∷ list_regions (listed (text_at v.table v.term_starts v.term_lens) v.term_refs v.nt) (listed (text_at t.s t.starts t.lens) v.refs v.nx)

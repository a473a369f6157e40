-- The table of places has the place of each text that is a page's identifier.
use Prim.Native.Nat.{ℕ, zero, suc, ◌+◌, ◌≤◌, ◌<◌}
use mathlib.Core.Path.{◌≡◌, refl, ap, sym, ◌∙◌}
use mathlib.Core.Bool.{Bool, true, false, cond, ◌&&◌}
use mathlib.Core.List.{List, [], ◌∷◌, ◌++◌}
use native.Mathlib.Decide.{ℕ_discrete}
use native.Mathlib.Omega.{arith}
use lib.Dec.{ltb, leb, eqb}
use lib.ListN.{length, get_or, set, replicate, length-replicate, get_or-replicate}
use lib.Seq.{get_or-set_same, get_or-set_other}
use borrow.Author.Tests.{eqb-true, eq-eqb, ne_eqb}
use Rattle.text.specs.Bytes.{Bytes}
use Rattle.text.specs.Table.{tabulate}
use Rattle.text.proofs.Tables.{length_tabulate}
use Rattle.sorting.proofs.Canonical.{left_of, right_of}
use Rattle.register_form.specs.Dictionary.{PageRow}
use Rattle.register_form.specs.Form.{page_count, text_count, page_at, dictionary_in}
use Rattle.buffer.specs.Tests.{all_to}
use Rattle.register_form.specs.Opened.{next, place_of, Places}
use Rattle.register_form.proofs.Laying.{Laid}
use Rattle.buffer.proofs.Regions.{all_to_lem}
use Rattle.register_form_test.specs.Loops.{written}
use Rattle.register_form_test.specs.Stages.{form_count, form_test, identifier_at, last_to, places_to, page_ok, page_test}
use Rattle.register_form_test.proofs.Loops.{length_written}
use Rattle.register_form_test.proofs.Known.{text_count_lem}
use Rattle.register_form_test.proofs.PagesTold.{pages_are}

-- The place of a number in rows with one more at the end.
abbrev found : ℕ → Bool → ℕ → ℕ
found p e n = cond (eqb p 0) (cond e (suc n) 0) p

found_next : (p : ℕ) (e : Bool) (n : ℕ) → next (found p e n) ≡ found (next p) e (suc n)
found_next zero true n = refl
found_next zero false n = refl
found_next (suc p) e n = rw (ne_eqb (suc p) 0 (λ k. let m : suc p ≡ 0 = k in omega arith), ne_eqb (suc (suc p)) 0 (λ k. let m : suc (suc p) ≡ 0 = k in omega arith))

place_snoc : (l : List PageRow) (r : PageRow) (x : ℕ) → place_of (l ++ (r ∷ [])) x ≡ found (place_of l x) (eqb r.identifier x) (length l)
unfolding place_of
place_snoc [] r x = refl
place_snoc (s ∷ l) r x = go (eqb s.identifier x) (place_snoc l r x)
  where
    go : (b : Bool) → place_of (l ++ (r ∷ [])) x ≡ found (place_of l x) (eqb r.identifier x) (length l) → cond b 1 (next (place_of (l ++ (r ∷ [])) x)) ≡ found (cond b 1 (next (place_of l x))) (eqb r.identifier x) (suc (length l))
    go true ih = refl
    go false ih = ap next ih ∙ found_next (place_of l x) (eqb r.identifier x) (length l)

found_not : (p n : ℕ) → found p false n ≡ p
found_not zero n = refl
found_not (suc p) n = rw (ne_eqb (suc p) 0 (λ k. let m : suc p ≡ 0 = k in omega arith))

module _ (h : Bytes) (classes last : List ℕ) (ok : all_to (page_count h) (page_test h classes last (replicate 2368 0)) ≡ true) where
  -- no page before page i has its identifier
  fresh : (i : ℕ) → i < page_count h → get_or (places_to h i (replicate 2368 0)) (identifier_at h i) 0 ≡ 0
  unfolding page_test page_ok
  fresh i b =
      let x = identifier_at h i in
      let places = places_to h i (replicate 2368 0) in
      eqb-true (get_or places x 0) 0
      (right_of (ltb x (text_count h) && leb 2 (get_or classes x 0)) (eqb (get_or places x 0) 0)
      (left_of (ltb x (text_count h) && leb 2 (get_or classes x 0) && eqb (get_or places x 0) 0) (all_to (form_count h i) (form_test h (i + 1) (last_to h i last) i))
      (all_to_lem (page_count h) (page_test h classes last (replicate 2368 0)) ok i b)))

  placed : (x : ℕ) → x < 2368 → (n : ℕ) → n ≤ page_count h → get_or (places_to h n (replicate 2368 0)) x 0 ≡ place_of (tabulate n (page_at h)) x
  unfolding written tabulate place_of
  placed x b zero l = get_or-replicate {A = ℕ} 2368 x 0 0 b
  placed x b (suc n) l = go (ℕ_discrete x (identifier_at h n)) (placed x b n (omega arith)) ∙ sym (place_snoc (tabulate n (page_at h)) (page_at h n) x)
    where
      places : List ℕ
      places = places_to h n (replicate 2368 0)

      room : identifier_at h n ≡ x → identifier_at h n < length places
      room e = omega (arith, length_written (identifier_at h) (λ i. i + 1) (replicate 2368 0) n, length-replicate {A = ℕ} 2368 0)

      go : Dec (x ≡ identifier_at h n) → get_or places x 0 ≡ place_of (tabulate n (page_at h)) x → get_or (set places (identifier_at h n) (n + 1)) x 0 ≡ found (place_of (tabulate n (page_at h)) x) (eqb (identifier_at h n) x) (length (tabulate n (page_at h)))
      go (yes e) ih =
          let none : place_of (tabulate n (page_at h)) x ≡ 0 = sym ih ∙ rw e (fresh n (omega arith)) in
          let here : get_or (set places (identifier_at h n) (n + 1)) x 0 ≡ n + 1 = rw e (get_or-set_same places (identifier_at h n) (n + 1) 0 (room (sym e))) in
          here ∙ rw (none, eq-eqb (identifier_at h n) x (sym e), length_tabulate n (page_at h)) (omega arith)
      go (no e) ih =
          get_or-set_other places (identifier_at h n) x (n + 1) 0 e
          ∙ ih
          ∙ rw (ne_eqb (identifier_at h n) x (λ k. e (sym k))) (sym (found_not (place_of (tabulate n (page_at h)) x) (length (tabulate n (page_at h)))))

  pub places_right : Laid h → Places (dictionary_in h) (places_to h (page_count h) (replicate 2368 0))
  unfolding Places
  places_right laid x b = placed x (omega (arith, text_count_lem h, laid.counted.texts)) (page_count h) (omega arith) ∙ rw (pages_are h)

-- What fitting a tree answers, by what was called.
use Rattle.std.specs.Prelude.{Option, Some, None, Ok, Err}
use Prim.Native.Nat.{ℕ, ◌+◌, ◌≤◌, ◌<◌, min}
use mathlib.Core.Path.{◌≡◌, refl, sym, ap, subst, ◌∙◌}
use mathlib.Core.Bool.{Bool, true, false, cond}
use mathlib.Core.List.{[], append-nil}
use native.Mathlib.Omega.{arith}
use borrow.Author.Tests.{lt-ltb, le-ltb}
use lib.Dec.{ltb}
use lib.ListN.{length}
use Rattle.text.specs.Bytes.{Bytes, any}
use Rattle.text.specs.Table.{tabulate}
use Rattle.text.proofs.Tables.{length_tabulate}
use Rattle.buffer.specs.Numbers.{zeros, two_at}
use Rattle.language.specs.Answer.{Answer, refused, accepted, found}
use Rattle.language.specs.Register.{Typing, kinds_of}
use Rattle.language.specs.Surface.{Query, properties_of}
use Rattle.language.specs.Core.{Core, nodes}
use Rattle.language.specs.Elaboration.{elaborate, fit, is_undeclared}
use Rattle.register_form.specs.Form.{register_in}
use Rattle.query_core.specs.declared.Place.{Place}
use Rattle.query_core.specs.Held.{query_size}
use Rattle.query_core.specs.Form.{query_of}
use Rattle.query_core.specs.Postfix.{post}
use Rattle.query_core.specs.Writing.{count_of, Laid, Finishes}
use Rattle.query_core.proofs.Postfix.{length_post}
use Rattle.query_core.proofs.Counts.{few_strings}
use Rattle.query_core.proofs.Laying.{laid_none}
use Rattle.query_core_emit.specs.Emission.{Emits}
use Rattle.query_tree_spelling.specs.Spelled.{is_spelled}
use Rattle.query_tree.specs.Nodes.{tree}
use Rattle.query_tree.specs.Form.{node_count, node_in, nodes_in}
use Rattle.language.specs.declared.refusals.Refusal.{Refusal}
use Rattle.query_core_fit.specs.Answers.{FitsTree}
use Rattle.query_core_fit.specs.Fitting.{node_undeclared, Fits, core_of_query}
use Rattle.query_core_fit.proofs.Undeclared.{query17}
use Rattle.query_core.proofs.Elaborated.{elaborated_keeps}

-- What fitting answers where every property is declared.
abbrev elaborated : Option Core → Answer Core
elaborated o = found o (λ c. cond (ltb 256 (nodes c)) (refused 19) (accepted c)) (refused 18)

abbrev start : Place
start = record { code = 0 }

module _ (t g : Bytes) (n w : ℕ) (u : Bool) (there : w ≡ two_at t 0) (wide : n ≡ w) (is : u ≡ any (node_undeclared (kinds_of (register_in g))) (tabulate n (node_in t))) where
  abbrev Γ : Typing
  Γ = kinds_of (register_in g)

  counted : n ≡ node_count t
  counted = wide ∙ there

  named : (q : Query) → nodes_in t ≡ tree q → u ≡ any (is_undeclared Γ) (properties_of q)
  unfolding nodes_in
  named q e = is ∙ ap (λ (k : ℕ). any (node_undeclared Γ) (tabulate k (node_in t))) counted ∙ ap (any (node_undeclared Γ)) e ∙ query17 Γ q

  pub fit_undeclared : (h : Bytes) → u ≡ true → FitsTree t (kinds_of (register_in g)) h (Err Refusal.Undeclared) h
  unfolding fit
  fit_undeclared h f =
      record {
        number = λ q e s z. rw (sym (named q e) ∙ f);
        bytes = λ q c e s z a. absurd (let y : refused 17 ≡ accepted c = sym (let b : fit Γ q ≡ refused 17 = rw (sym (named q e) ∙ f) in b) ∙ a in let x : ◌≡◌ {A = ℕ} 0 1 = cc in omega arith);
        among = refl;
      }

  module _ (no : u ≡ false) (h h₁ : Bytes) (v : Option Place) (put : Fits tree (core_of_query (kinds_of (register_in g))) (nodes_in t) n h start v h₁) where
    declared_is : (q : Query) → nodes_in t ≡ tree q → fit Γ q ≡ elaborated (elaborate q Γ)
    unfolding fit
    declared_is q e = rw (sym (named q e) ∙ no)

    emitted : (q : Query) → nodes_in t ≡ tree q → Emits (elaborate q Γ) h start v h₁
    unfolding nodes_in
    emitted q e =
        put.is [] [] q (e ∙ sym (append-nil (tree q))) (counted ∙ sym (length_tabulate (node_count t) (node_in t)) ∙ ap length e ∙ (let z : length (tree q) ≡ 0 + length (tree q) = omega arith in z))

    pub fit_unfit : v ≡ None → FitsTree t (kinds_of (register_in g)) h (Err Refusal.UnfitPiece) h₁
    unfolding Emits
    fit_unfit f =
        record {
          number = λ q e s z. rw (declared_is q e, none_there q e);
          bytes = λ q c e s z a. absurd (let y : refused 18 ≡ accepted c = sym (let b : fit Γ q ≡ refused 18 = rw (declared_is q e, none_there q e) in b) ∙ a in let x : ◌≡◌ {A = ℕ} 0 1 = cc in omega arith);
          among = refl;
        }
      where
        none_there : (q : Query) → nodes_in t ≡ tree q → elaborate q Γ ≡ None
        none_there q e = subst (λ (x : Option Place). Emits (elaborate q Γ) h start x h₁) f (emitted q e)

    module _ (p : Place) (f : v ≡ Some p) where
      -- the core query whose nodes are laid
      record CoreLaid (q : Query) : Type 0 where
        core : Core
        says : elaborate q Γ ≡ Some core
        laid : Laid h₁ p (post core)
        count : count_of p ≡ min 257 (nodes core)

      laid_core : (q : Query) → nodes_in t ≡ tree q → h ≡ zeros query_size → CoreLaid q
      unfolding Emits
      laid_core q e z =
          let d = subst (λ (x : Option Place). Emits (elaborate q Γ) h start x h₁) f (emitted q e) in
          let l : Laid h₁ p (post d.0) = d.2.laid [] (subst (λ (x : Bytes). Laid x start []) (sym z) laid_none) in
          record { core = d.0; says = d.1; laid = l; count = l.count ∙ ap (min 257) (length_post d.0) }

      pub fit_many : (k : ℕ) → k ≡ count_of p → 256 < k → FitsTree t (kinds_of (register_in g)) h (Err Refusal.TooManyNodes) h₁
      fit_many k i m =
          record {
            number = λ q e s z. rw (many q e z);
            bytes = λ q c e s z a. absurd (let y : refused 19 ≡ accepted c = sym (many q e z) ∙ a in let x : ◌≡◌ {A = ℕ} 0 1 = cc in omega arith);
            among = refl;
          }
        where
          many : (q : Query) → nodes_in t ≡ tree q → h ≡ zeros query_size → fit Γ q ≡ refused 19
          many q e z = let d = laid_core q e z in rw (declared_is q e, d.says, lt-ltb 256 (nodes d.core) (omega (arith, i, m, d.count)))

      pub fit_accepted : (h₂ : Bytes) (k : ℕ) → k ≡ count_of p → k ≤ 256 → Finishes h₁ p h₂ → FitsTree t (kinds_of (register_in g)) h (Ok tt) h₂
      unfolding Finishes query_of
      fit_accepted h₂ k i m done =
          record {
            number = λ q e s z. rw (accepts q e z);
            bytes =
                λ q c e s z a.
                let d = laid_core q e z in
                let same : d.core ≡ c = (let y : accepted d.core ≡ accepted c = sym (accepts q e z) ∙ a in cc) in
                written q s d ∙ ap query_of same;
            among = refl;
          }
        where
          accepts : (q : Query) (e : nodes_in t ≡ tree q) (z : h ≡ zeros query_size) → fit Γ q ≡ accepted (laid_core q e z).core
          accepts q e z = let d = laid_core q e z in rw (declared_is q e, d.says, le-ltb 256 (nodes d.core) (omega (arith, i, m, d.count)))

          written : (q : Query) → is_spelled q ≡ true → (d : CoreLaid q) → h₂ ≡ query_of d.core
          written q s d =
              let few : nodes d.core ≤ 256 = omega (arith, i, m, d.count) in
              done (post d.core) d.laid (omega (arith, few, length_post d.core), omega (arith, few, few_strings d.core (elaborated_keeps Γ q d.core s d.says)))

pub ruleset fitted = (fit_undeclared, fit_unfit, fit_many, fit_accepted)

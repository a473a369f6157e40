-- A reference's names, composed into a table and put from there.
use Rattle.std.specs.Prelude.{Option, Some, None}
use Prim.Native.Nat.{ℕ, ◌≤◌}
use mathlib.Core.Path.{◌≡◌, refl, ap, ap₂, ◌∙◌}
use mathlib.Core.Bool.{true}
use mathlib.Core.List.{[], ◌∷◌, replicate}
use native.Mathlib.Omega.{arith}
use lib.ListN.{length, length-replicate}
use Rattle.text.specs.Bytes.{Bytes, part}
use Rattle.text.specs.Parts.{part_of}
use Rattle.buffer.specs.Writing.{written}
use Rattle.buffer.proofs.Written.{length_written}
use Rattle.buffer.proofs.Joined.{part_below, part_there}
use Rattle.names.specs.Names.{composed_name, is_name, is_namespace}
use Rattle.names.proofs.Composed.{composed_le, name_keeps, namespace_short}
use Rattle.values.specs.Names.{is_reference, composed_reference}
use Rattle.std.specs.Option.{unwrap_or, option_and}
use Rattle.text.specs.declared.Span.{Span}
use Rattle.values.specs.Answers.{reference_at, split_of}
use Rattle.values.specs.declared.Split.{Split}
use Rattle.language.proofs.Members.{and_true}
use Rattle.language.specs.declared.SurfaceComparator.{SurfaceComparator}
use Rattle.query_core.specs.declared.Place.{Place}
use Rattle.query_core.specs.Form.{no_span}
use Rattle.query_core.specs.Postfix.{Node}
use Rattle.query_core_emit.specs.Emission.{Adds}

module _ (s : Bytes) (r : Split) (m : Span) (em : m ≡ unwrap_or r.namespace no_span) (x y t u : Bytes) (i j : ℕ) (ex : x ≡ part_of s m) (ey : y ≡ part_of s r.article)
    (n : (i ≡ length (composed_name x)) × (t ≡ written (replicate 128 0) 0 (composed_name x))) (a : (j ≡ length (composed_name y)) × (u ≡ written t 64 (composed_name y))) where
  long : length t ≡ 128
  long = ap length n.1 ∙ length_written (replicate 128 0) 0 (composed_name x) ∙ length-replicate {A = ℕ} 128 0

  article_there : length y ≤ 64 → part u 64 j ≡ composed_name y
  article_there l = ap₂ (λ (b : Bytes) (m : ℕ). part b 64 m) a.1 a.0 ∙ part_there t (composed_name y) 64 (omega (arith, long, composed_le y))

  namespace_there : length x ≤ 64 → part u 0 i ≡ composed_name x
  namespace_there l =
      ap₂ (λ (b : Bytes) (m : ℕ). part b 0 m) a.1 n.0
      ∙ part_below t (composed_name y) 64 (omega (arith, long)) 0 (length (composed_name x)) (omega (arith, composed_le x))
      ∙ ap (λ (b : Bytes). part b 0 (length (composed_name x))) n.1
      ∙ part_there (replicate 128 0) (composed_name x) 0 (omega (arith, composed_le x, length-replicate {A = ℕ} 128 0))

  abbrev place : Span
  place = record { start = 0; len = i }

  abbrev article : Span
  article = record { start = 64; len = j }

  there : (q : Option Span) → r.namespace ≡ q → is_reference (reference_at s q r.article) ≡ true → reference_at u (option_and q (Some place)) article ≡ composed_reference (reference_at s q r.article)
  there (Some k) e h =
      let w : x ≡ part_of s k = ex ∙ ap (part_of s) (rw e at em) in
      let z : (is_namespace x ≡ true) × (is_name y ≡ true) = and_true (is_namespace x) (is_name y) (rw (w, ey) h) in
      rw (namespace_there (namespace_short x z.0), article_there (name_keeps y z.1).short, w, ey)
  there None e h =
      let z : is_name y ≡ true = rw ey h in
      rw (article_there (name_keeps y z).short, ey)

  pub typed_adds : (o : Option Span) → o ≡ option_and r.namespace (Some place) → (v : Bytes) (c : SurfaceComparator) (h h' : Bytes) (p p' : Place) → Adds (Node.link v c (split_of u (record { namespace = o; article = article })) ∷ []) h p h' p'
      → is_reference (split_of s r) ≡ true → Adds (Node.link v c (composed_reference (split_of s r)) ∷ []) h p h' p'
  typed_adds o eo v c h h' p p' d k = rw (← there r.namespace refl k, ← eo) d

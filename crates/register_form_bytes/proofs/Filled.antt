-- Regions written over zeros hold their bytes and zeros behind them, and a dictionary's regions are its bytes.
use Prim.Native.Nat.{ℕ, ◌+◌, ◌-◌, ◌≤◌}
use mathlib.Core.Path.{◌≡◌, refl, sym, ap, ◌∙◌}
use mathlib.Core.List.{List, [], ◌∷◌, ◌++◌, append_assoc, append-nil}
use native.Mathlib.Nat.{add-zero}
use native.Mathlib.Omega.{arith}
use lib.ListN.{length, take, drop, length-append, replicate-append-replicate, take-append-drop}
use lib.Seq.{length-take-le}
use Rattle.text.specs.Bytes.{Bytes}
use Rattle.buffer.specs.Numbers.{zeros, padded}
use Rattle.register_form.specs.Dictionary.{Dictionary}
use Rattle.register_form.specs.Form.{register_size, count_bytes, bytes_of}
use Rattle.register_form.specs.Tests.{Bounded}
use Rattle.buffer.proofs.Regions.{length_zeros, length_padded}
use Rattle.register_form.proofs.Holding.{Lengths, lengths}
use Rattle.buffer.specs.Writing.{written}
use Rattle.register_form_bytes.specs.Writing.{Region, put_regions, regions_of}
use Rattle.buffer.proofs.Written.{written_here, written_skip, written_over}

zeros_add : (n m : ℕ) → zeros (n + m) ≡ zeros n ++ zeros m
unfolding zeros
zeros_add n m = sym (replicate-append-replicate n m 0)

-- bytes over zeros
over_zeros : (size : ℕ) (v s : Bytes) → length v ≤ size → written (zeros size ++ s) 0 v ≡ padded size v ++ s
unfolding padded
over_zeros size v s h =
    let cut : zeros size ≡ zeros (length v) ++ zeros (size - length v) = ap zeros (let e : size ≡ length v + (size - length v) = omega arith in e) ∙ zeros_add (length v) (size - length v) in
    written_here v (zeros size) s 0 (omega (arith, length_zeros size))
    ∙ ap (λ (r : Bytes). r ++ s)
    (ap (λ (z : Bytes). written z 0 v) cut
    ∙ written_here v (zeros (length v)) (zeros (size - length v)) 0 (omega (arith, length_zeros (length v)))
    ∙ ap (λ (r : Bytes). r ++ zeros (size - length v)) (written_over v (zeros (length v)) (length_zeros (length v))))

pub region_filled : (size : ℕ) (v : Bytes) → length v ≤ size → written (zeros size) 0 v ≡ padded size v
region_filled size v h = rw (append-nil, append-nil) at (over_zeros size v [] h)

-- Regions that have room.
abbrev pub Roomy : List Region → Type 0
Roomy [] = Unit
Roomy (r ∷ l) = (length r.bytes ≤ r.size) × Roomy l

sizes : List Region → ℕ
sizes [] = 0
sizes (r ∷ l) = r.size + sizes l

-- what stands behind the regions, zeros and then the regions before it
zeros_before : List Region → Bytes → Bytes
zeros_before [] s = s
zeros_before (r ∷ l) s = zeros r.size ++ zeros_before l s

regions_before : List Region → Bytes → Bytes
regions_before [] s = s
regions_before (r ∷ l) s = padded r.size r.bytes ++ regions_before l s

zeros_before_lem : (l : List Region) (s : Bytes) → zeros (sizes l) ++ s ≡ zeros_before l s
unfolding sizes zeros_before zeros
zeros_before_lem [] s = refl
zeros_before_lem (r ∷ l) s = ap (λ (z : Bytes). z ++ s) (zeros_add r.size (sizes l)) ∙ append_assoc (zeros r.size) (zeros (sizes l)) s ∙ ap (λ (z : Bytes). zeros r.size ++ z) (zeros_before_lem l s)

filled_behind : (l : List Region) → Roomy l → (a s : Bytes) (at : ℕ) → length a ≡ at → put_regions at l (a ++ zeros_before l s) ≡ a ++ regions_before l s
unfolding put_regions zeros_before regions_before
filled_behind [] f a s at e = refl
filled_behind (r ∷ l) f a s at e =
    let put : written (a ++ (zeros r.size ++ zeros_before l s)) at r.bytes ≡ (a ++ padded r.size r.bytes) ++ zeros_before l s =
    ap (λ (k : ℕ). written (a ++ (zeros r.size ++ zeros_before l s)) k r.bytes) (sym (add-zero at))
    ∙ written_skip a (zeros r.size ++ zeros_before l s) r.bytes at 0 e
    ∙ ap (λ (z : Bytes). a ++ z) (over_zeros r.size r.bytes (zeros_before l s) f.0)
    ∙ sym (append_assoc a (padded r.size r.bytes) (zeros_before l s)) in
    ap (put_regions (at + r.size) l) put
    ∙ filled_behind l f.1 (a ++ padded r.size r.bytes) s (at + r.size) (omega (arith, length-append a (padded r.size r.bytes), length_padded r.size r.bytes f.0))
    ∙ append_assoc a (padded r.size r.bytes) (regions_before l s)

-- zeros at the front of a buffer
cleared : (h : Bytes) (n : ℕ) → n ≤ length h → written h 0 (zeros n) ≡ zeros n ++ drop n h
cleared h n b =
    let size : length (take n h) ≡ n = length-take-le n h b in
    ap (λ (g : Bytes). written g 0 (zeros n)) (sym (take-append-drop n h))
    ∙ written_here (zeros n) (take n h) (drop n h) 0 (omega (arith, length_zeros n))
    ∙ ap (λ (g : Bytes). g ++ drop n h) (written_over (zeros n) (take n h) (omega (arith, length_zeros n)))

filled : (l : List Region) → Roomy l → (h : Bytes) → sizes l ≤ length h → put_regions 0 l (written h 0 (zeros (sizes l))) ≡ regions_before l (drop (sizes l) h)
filled l f h b = ap (put_regions 0 l) (cleared h (sizes l) b ∙ zeros_before_lem l (drop (sizes l) h)) ∙ filled_behind l f [] (drop (sizes l) h) 0 refl

counts_fill : (d : Dictionary) → (length (count_bytes d) ≤ 8) × (padded 8 (count_bytes d) ≡ count_bytes d)
unfolding count_bytes padded zeros
counts_fill d = (omega arith, refl)

pub dictionary_written : (d : Dictionary) → Bounded d → (h : Bytes) → register_size ≤ length h → put_regions 0 (regions_of d) (written h 0 (zeros register_size)) ≡ bytes_of d ++ drop register_size h
unfolding sizes regions_before bytes_of
dictionary_written d b h room =
    let l : Lengths d = lengths d b in
    let c = counts_fill d in
    let roomy : Roomy (regions_of d) = (c.0, (omega arith, (omega arith, (omega arith, (omega arith, (omega arith, (omega arith, (omega arith, tt)))))))) in
    filled (regions_of d) roomy h room ∙ rw c.1 (sym (simp append_assoc))

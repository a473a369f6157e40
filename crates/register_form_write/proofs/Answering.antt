-- What the writer answers, by what it called.
use Prim.Native.Nat.{ℕ, ◌+◌, ◌%◌, ◌≤◌, ◌<◌, min}
use mathlib.Core.Path.{◌≡◌, ap₂, ◌∙◌}
use mathlib.Core.Bool.{true, false}
use mathlib.Core.List.{List, ◌++◌}
use native.Mathlib.Nat.{mod-eq_of_lt}
use native.Mathlib.Omega.{arith}
use lib.Dec.{ltb, leb}
use lib.ListN.{length, replicate, length-replicate}
use borrow.Author.Tests.{lt-ltb, le-ltb, le-leb, lt-leb}
use Rattle.text.specs.Bytes.{Bytes}
use Rattle.language.specs.Answer.{Answered}
use Rattle.language.specs.Rules.{total}
use Rattle.sorting.specs.Listing.{listed}
use Rattle.dictionary.specs.Items.{text_at}
use Rattle.buffer.specs.Numbers.{zeros}
use Rattle.register_form.specs.Form.{register_size, placed}
use Rattle.buffer.specs.Writing.{written}
use Rattle.register_form_bytes.specs.Writing.{first_of, Region, put_regions}
use Rattle.register_form_bytes.proofs.Filled.{dictionary_written}
use Rattle.register_form.specs.Tables.{Tables}
use Rattle.register_form_assembly.proofs.Keepings.{zeros_at_lem}
use Rattle.register_form_assembly.specs.Keeping.{PagesKept, Fresh, Within}
use Rattle.register_form_assembly.specs.Counting.{text_bytes, term_bytes_by}
use Rattle.register_form_write.specs.Writer.{fitted, Found, tabled, kept_all, counted_by, fits_counted, write_counted, row_regions, list_regions, FittedWritten, KeptWritten}
use Rattle.register_form_write.proofs.Placing.{kept_are, regions_are}

-- Writing what is within the limits.
module _ (l : List Region) (h : Bytes) where
  pub fitted_short : length h < register_size → FittedWritten l h 8 h
  unfolding fitted placed
  fitted_short s =
      record {
        is = λ e q b.
            let short : ltb (length h) register_size ≡ true = lt-ltb (length h) register_size s in
            record { number = rw short; bytes = rw short };
      }

  pub fitted_written : (k g : Bytes) → register_size ≤ length h → k ≡ written h 0 (zeros register_size) → g ≡ put_regions 0 l k → FittedWritten l h 0 g
  unfolding fitted placed
  fitted_written k g s d f =
      record {
        is = λ e q b.
            let long : ltb (length h) register_size ≡ false = le-ltb (length h) register_size s in
            record { number = rw long; bytes = rw long (f ∙ ap₂ (put_regions 0) q d ∙ dictionary_written e b h s) };
      }

-- Tables of zeros are fresh.
pub zeros_fresh : (n : ℕ) → n ≤ 256 → Fresh n (replicate 2048 0) (replicate 257 0)
zeros_fresh n b =
    record {
      room = omega (arith, length-replicate {A = ℕ} 2048 0);
      first = zeros_at_lem 257 0;
      starts_room_lem = omega (arith, length-replicate {A = ℕ} 257 0);
    }

-- Writing the forms that are kept.
module _ (t : Tables) (v : Found) (h : Bytes) where
  over : fits_counted t v ≡ false → Answered (write_counted t v h) h 7 h
  unfolding write_counted
  over e = record { number = rw e; bytes = rw e }

  module _ (table₀ begins₀ table begins : List ℕ) (n : ℕ) (f : t.ng ≤ 256 → Fresh t.ng table₀ begins₀)
      (p : Fresh t.ng table₀ begins₀ → Within v.term_numbers t.uses t.firsts t.ng 4096 → PagesKept t.groups v.term_numbers t.uses t.firsts t.ng table begins n)
    where
      pages : Within v.term_numbers t.uses t.firsts t.ng 4096 → t.ng ≤ 256 → PagesKept t.groups v.term_numbers t.uses t.firsts t.ng table begins n
      pages w g = p (f g) w

      pub kept_many : 2048 < n → KeptWritten t v h 7 h
      unfolding fits_counted
      kept_many b =
          record {
            is = λ w g q.
                let k = pages w g in
                over (rw (lt-leb (length (kept_all t v)) 2048 (omega (arith, k.listed.count))));
          }

      module _ (few : n ≤ 2048) (c : ℕ)
          (e : c ≡ min (total (text_bytes t.s t.starts t.lens) (first_of t.names t.np) + total (text_bytes t.s t.starts t.lens) (first_of t.identifiers t.ng) + total (term_bytes_by t.s t.starts t.lens t.kinds t.groups t.codes v.term_refs) (first_of table n)) 32769)
        where
          counted : Within v.term_numbers t.uses t.firsts t.ng 4096 → t.ng ≤ 256 → c ≡ min (counted_by t v) 32769
          unfolding counted_by
          counted w g = rw (kept_are t.groups v.term_numbers t.uses t.firsts t.ng table begins n (pages w g) few) e

          forms_fit : Within v.term_numbers t.uses t.firsts t.ng 4096 → t.ng ≤ 256 → leb (length (kept_all t v)) 2048 ≡ true
          forms_fit w g = let k = pages w g in le-leb (length (kept_all t v)) 2048 (omega (arith, k.listed.count))

          pub kept_long : 32768 < c → KeptWritten t v h 7 h
          unfolding fits_counted
          kept_long b = record { is = λ w g q. over (rw (forms_fit w g, lt-leb (counted_by t v) 32768 (omega (arith, counted w g)))) }

          pub kept_written : (nb r : ℕ) (o : Bytes)
              → c ≤ 32768
              → nb ≡ (t.ng + 1) % 65536
              → FittedWritten (row_regions t.kinds v.numbers t.names t.np t.identifiers t.ng v.nt v.nx begins nb table n ++ list_regions (listed (text_at v.table v.term_starts v.term_lens) v.term_refs v.nt) (listed (text_at t.s t.starts t.lens) v.refs v.nx)) h r o
              → KeptWritten t v h r o
          unfolding fits_counted write_counted
          kept_written nb r o b d q =
              record {
                is = λ w g k.
                    let fits : fits_counted t v ≡ true = rw (forms_fit w g, le-leb (counted_by t v) 32768 (omega (arith, counted w g))) in
                    let answer = q.is (tabled t v) (regions_are t v table begins n nb (pages w g) few (let e : nb ≡ t.ng + 1 = d ∙ mod-eq_of_lt (omega arith) in omega arith)) (k fits) in
                    rw (forms_fit w g, le-leb (counted_by t v) 32768 (omega (arith, counted w g))) answer;
              }

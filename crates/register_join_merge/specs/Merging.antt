-- Working definitions: merging the ascending texts of two held registers.
use Rattle.std.specs.Prelude.{ℕ, ◌+◌, ◌<◌, ◌≤◌, ◌%◌, ◌≡◌, Bool, true, false, cond, List, leb, length, get_or, set}
use Rattle.std.proofs.Math.Seq.{paste}
use Rattle.text.specs.Bytes.{Bytes, order_of}
use Rattle.text.specs.Table.{tabulate, bit}
use Rattle.std.specs.declared.cmp.Ordering.{Ordering}
use Rattle.std.specs.declared.cmp.Ordering.TheVariants.{Less, Equal, Greater}
use Rattle.dictionary.specs.Items.{text_at as item_at}
use Rattle.register_form.specs.Form.{text_count, text_at, dictionary_in}
use Rattle.register_form.specs.Formed.{Formed}
use Rattle.register_join_merge.specs.Merged.{Merged}
use Rattle.register_join_merge.specs.declared.Heap.{Heap}

-- How the next texts stand to one another; a register with no text left stands behind.
unfoldable pub next_order : Bytes → Bytes → ℕ → ℕ → Ordering
next_order h g i j = cond (leb (text_count g) j) Less (cond (leb (text_count h) i) Greater (order_of (text_at h i) (text_at g j)))

-- Whether the next text is one of the first register, of the second, and which it is.
abbrev pub takes_first : Ordering → Bool
takes_first Less = true
takes_first Equal = true
takes_first Greater = false

abbrev pub takes_second : Ordering → Bool
takes_second Less = false
takes_second Equal = true
takes_second Greater = true

abbrev pub next_text : Ordering → Bytes → Bytes → Bytes
next_text Less a b = a
next_text Equal a b = a
next_text Greater a b = b

-- u is d with t at a place, where there is room; r is where it ends.
pub record Pasted (d : Bytes) (at : ℕ) (t u : Bytes) (r : ℕ) : Type 0 where
  pub size : length u ≡ length d
  pub end : at + length t ≤ length d → r ≡ at + length t
  pub is : at + length t ≤ length d → u ≡ paste d at t (length t)

-- Text t is item k, behind those before it.
pub record Added (heap : Bytes) (starts lens : List ℕ) (k end : ℕ) (t u : Bytes) (ss ls : List ℕ) (r : ℕ) : Type 0 where
  pub pasted : Pasted heap end t u r
  pub starts_are : ss ≡ set starts k (end % 4294967296)
  pub lens_are : ls ≡ set lens k (length t % 65536)

-- The same slices are lent: whoever lent them knows what they hold by what the heap shows.
pub record SameSlices (a b : Heap) : Type 0 where
  pub bytes : b.bytes.ghost_name ≡ a.bytes.ghost_name
  pub starts : b.starts.ghost_name ≡ a.starts.ghost_name
  pub lens : b.lens.ghost_name ≡ a.lens.ghost_name

-- The number i, and one more where it is taken, which is noted as item k.
pub record Noted (l : List ℕ) (i k : ℕ) (taken : Bool) (u : List ℕ) (r : ℕ) : Type 0 where
  pub is : u ≡ cond taken (set l i k) l
  pub next : i + bit taken < 65536 → r ≡ i + bit taken

-- Room for the texts of two registers.
pub record Room (heap : Bytes) (starts lens items1 items2 : List ℕ) : Type 0 where
  pub heap_size : 70272 ≤ length heap
  pub starts_size : 4736 ≤ length starts
  pub lens_size : 4736 ≤ length lens
  pub items1_size : 2368 ≤ length items1
  pub items2_size : 2368 ≤ length items2

-- The texts in the tables are those of both registers, where there was room.
pub record Merger (h g heap : Bytes) (starts lens items1 items2 : List ℕ) (u : Bytes) (ss ls is js : List ℕ) (n : ℕ) : Type 0 where
  pub sizes : (length u ≡ length heap) × (length ss ≡ length starts) × (length ls ≡ length lens) × (length is ≡ length items1) × (length js ≡ length items2)
  pub merged : Formed h → Formed g → Room heap starts lens items1 items2 → Merged (dictionary_in h) (dictionary_in g) (tabulate n (item_at u ss ls)) (λ x. get_or is x 0) (λ y. get_or js y 0)

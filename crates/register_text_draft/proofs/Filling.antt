-- One text, property, page or form more in the tables.
use Rattle.std.specs.Prelude.{Option, Some, None}
use Prim.Native.Nat.{ℕ, suc, ◌+◌, ◌%◌, ◌≤◌, ◌<◌}
use denote.MutBor.{at_last}
use mathlib.Core.Path.{◌≡◌, refl, sym, ap, ap₂, ◌∙◌, subst}
use mathlib.Core.List.{List, [], ◌∷◌, ◌++◌, append_assoc, append-nil}
use native.Mathlib.Nat.{mod-eq_of_lt}
use native.Mathlib.Numerals.{add-one}
use native.Mathlib.Omega.{arith}
use lib.Dec.{ltb}
use lib.ListN.{length, get_or, take, drop, set, length-append, length-set, get_or-append}
use lib.Seq.{sets-eq, take_at, take-suc-set, take-length, drop-append_seam, get_or-append_seam, get_or-set_same, get_or-set_other, length-take-le}
use borrow.Author.Tests.{ltb-true, ltb-false}
use Rattle.text.specs.Bytes.{Bytes, part}
use Rattle.values.specs.declared.Kind.{Kind}
use Rattle.values.specs.declared.Scalar.{Scalar}
use Rattle.values.specs.declared.Split.{Split}
use Rattle.names.specs.Names.{composed_name}
use Rattle.names.proofs.Composed.{composed_empty}
use Rattle.values.specs.Names.{Reference, Identifier, reference, composed_reference, identifier}
use Rattle.values.specs.Values.{map_option, Constant, scalar, string, Value, plain, link, read_scalar, read_link, read_value}
use Rattle.values.specs.Answers.{Splits}
use Rattle.values.proofs.Spelled.{link_read}
use Rattle.language.proofs.Members.{by_test}
use Rattle.register_form.specs.Dictionary.{labelled}
use Rattle.register_form.specs.Encoding.{identifier_text, value_texts}
use Rattle.register_form.specs.Form.{joined}
use Rattle.buffer.specs.Writing as Buffers
use Rattle.buffer.proofs.Parts.{part_before}
use Rattle.buffer.proofs.Written.{length_written, byte_before}
use Rattle.register_text_draft.specs.declared.TextTable.{TextTable}
use Rattle.register_text_draft.specs.Sizes.{Spaced}
use Rattle.register_text_draft.specs.Tables.{Copied, Ended, Lies, Texts, Pushed}
use Rattle.register_text_draft.proofs.Bounds.{length_labelled, joined_more}

mod_is : (n m k : ℕ) → n ≡ m → m < k → n % k ≡ m
mod_is n m k e l = ap (λ (i : ℕ). i % k) e ∙ mod-eq_of_lt l

-- A text more.
module _ (heap starts lens : List ℕ) (m at : ℕ) (k : List Bytes) (t : Texts heap starts lens m at k) where
  module _ (x : Bytes) (few : length k < 2368) (heap' : List ℕ) (size : length heap' ≡ length heap) (bytes : take (at + length x) heap' ≡ take at heap ++ x) where
    abbrev starts' : List ℕ
    starts' = set starts m at

    abbrev lens' : List ℕ
    lens' = set lens m (length x)

    old : (i : ℕ) → i < length k → Lies (joined (k ++ (x ∷ []))) (get_or starts' i 0) (get_or lens' i 0) (get_or (k ++ (x ∷ [])) i [])
    old i b =
        let l = t.lies i b in
        let other : i ≡ m → ⊥ = λ e. omega (arith, t.count) in
        rw (joined_more k x, get_or-set_other starts m i at 0 other, get_or-set_other lens m i (length x) 0 other, get_or-append k (x ∷ []) [] i b)
        (record { within = omega (arith, l.within, length-append (joined k) x); is = part_before (joined k) x (get_or starts i 0) (get_or lens i 0) l.within ∙ l.is })

    new : Lies (joined (k ++ (x ∷ []))) (get_or starts' m 0) (get_or lens' m 0) (get_or (k ++ (x ∷ [])) m [])
    new =
        rw (joined_more k x, get_or-set_same starts m at 0 (omega (arith, t.count, t.starts_room)), get_or-set_same lens m (length x) 0 (omega (arith, t.count, t.lens_room)), t.count, get_or-append_seam k x [] [], t.end)
        (record { within = omega (arith, length-append (joined k) x); is = ap (take (length x)) (drop-append_seam (joined k) x) ∙ take-length x })

    text_more : Texts heap' starts' lens' (m + 1) (at + length x) (k ++ (x ∷ []))
    text_more =
        record {
          count = omega (arith, t.count, length-append k (x ∷ []));
          end = rw (joined_more k x, length-append (joined k) x, t.end);
          bytes = bytes ∙ rw t.bytes (sym (joined_more k x));
          lies = λ i b. by_test (ltb i (length k)) (λ e. old i (ltb-true i (length k) e))
              (λ e. let q : i ≡ m = omega (arith, ltb-false i (length k) e, t.count, length-append k (x ∷ [])) in rw q new);
          heap_room = omega (arith, t.heap_room, size);
          starts_room = omega (arith, t.starts_room, length-set starts m at);
          lens_room = omega (arith, t.lens_room, length-set lens m (length x));
        }

-- Its bytes are written one after the other.
module _ (heap : List ℕ) (at : ℕ) (space name : Bytes) (h1 h2 h3 : List ℕ)
    (fit : at + suc (length space + length name) ≤ length heap) (e : h1 ≡ set heap at (length space))
    (f : Copied h1 (at + 1) space h2) (g : Copied h2 (at + 1 + length space) name h3)
  where
    written_size : length h3 ≡ length heap
    written_size = g.size ∙ f.size ∙ ap length e ∙ length-set heap at (length space)

    first : take (at + 1) h1 ≡ take at heap ++ (length space ∷ [])
    first = rw (e, add-one at) (take-suc-set heap at (length space) (omega arith))

    second : take (at + 1 + length space) h2 ≡ take (at + 1) h1 ++ space
    second = f.is (omega (arith, ap length e, length-set heap at (length space)))

    third : take (at + 1 + length space + length name) h3 ≡ take (at + 1 + length space) h2 ++ name
    third = g.is (omega (arith, ap length e, length-set heap at (length space), f.size))

    written : take (at + length (labelled space name)) h3 ≡ take at heap ++ labelled space name
    unfolding labelled
    written =
        let n : at + length (length space ∷ (space ++ name)) ≡ at + 1 + length space + length name = omega (arith, length-append space name) in
        ap (λ (i : ℕ). take i h3) n ∙ third
        ∙ rw (second, first, append_assoc (take at heap) (length space ∷ []) space, append_assoc (take at heap) (length space ∷ space) name)

-- A text ended.
pub ended : (t : TextTable) (a b i x : ℕ) → i ≡ t.count → x ≡ t.end → (s : List ℕ) → s ≡ set t.starts.now i x → (w : ℕ) → w ≡ (1 + a + b) % 65536 → (n : List ℕ) → n ≡ set t.lens.now i w
    → (count first end : ℕ) → count ≡ (t.count + 1) % 65536 → first ≡ t.end → end ≡ (first + 1 + a + b) % 65536 → Ended t a b (record { heap = t.heap; starts = at_last t.starts s; lens = at_last t.lens n; count = count; end = end })
ended t a b i x ei ex s es w ew n en count first end ec ef ee =
    record { heap = refl; start = es ∙ ap₂ (set t.starts.now) ei ex; len = en ∙ ap₂ (set t.lens.now) ei ew; texts = ec; bytes = rw (← ef) ee }

-- The numbers that are written are those meant, where they fit.
abbrev with_heap : TextTable → List ℕ → TextTable
with_heap t h = record { heap = at_last t.heap h; starts = t.starts; lens = t.lens; count = t.count; end = t.end }

module _ (t : TextTable) (space name : Bytes)
    (first : ℕ) (ef : first ≡ t.end) (a₀ a b₀ b : ℕ) (ea₀ : a₀ ≡ length space % 65536) (ea : a ≡ a₀) (eb₀ : b₀ ≡ length name % 65536) (eb : b ≡ b₀)
    (v : ℕ) (ev : v ≡ a % 256) (h1 h2 h3 : List ℕ) (e : h1 ≡ set t.heap.now first v) (f : Copied h1 (first + 1) space h2) (g : Copied h2 (first + 1 + a) name h3)
    (u : TextTable) (z : Ended (with_heap t h3) a b u)
  where
    pushed : length space ≤ 64 → (k : List Bytes) → Texts t.heap.now t.starts.now t.lens.now t.count t.end k → length (k ++ (labelled space name ∷ [])) ≤ 2368 → length (joined (k ++ (labelled space name ∷ []))) ≤ 35136
        → Texts u.heap.now u.starts.now u.lens.now u.count u.end (k ++ (labelled space name ∷ []))
    pushed short k x few fit =
        let y = labelled space name in
        let lz = length_labelled space name in
        let below : length k < 2368 = omega (arith, length-append k (y ∷ [])) in
        let all : t.end + length y ≤ 35136 = omega (arith, ap length (joined_more k y), length-append (joined k) y, x.end) in
        let qa : a ≡ length space = ea ∙ ea₀ ∙ mod-eq_of_lt (omega arith) in
        let qb : b ≡ length name = eb ∙ eb₀ ∙ mod-eq_of_lt (omega arith) in
        let qv : v ≡ length space = ev ∙ mod_is a (length space) 256 qa (omega arith) in
        let qw : (1 + a + b) % 65536 ≡ length y = mod_is (1 + a + b) (length y) 65536 (omega arith) (omega arith) in
        let qm : u.count ≡ t.count + 1 = z.texts ∙ mod-eq_of_lt (omega (arith, x.count)) in
        let qe : u.end ≡ t.end + length y = z.bytes ∙ mod_is (t.end + 1 + a + b) (t.end + length y) 65536 (omega arith) (omega arith) in
        let e' : h1 ≡ set t.heap.now t.end (length space) = e ∙ ap₂ (set t.heap.now) ef qv in
        let f' : Copied h1 (t.end + 1) space h2 = subst (λ (i : ℕ). Copied h1 (i + 1) space h2) ef f in
        let g' : Copied h2 (t.end + 1 + length space) name h3 = subst (λ (i : ℕ). Copied h2 (i + 1 + length space) name h3) ef (subst (λ (i : ℕ). Copied h2 (first + 1 + i) name h3) qa g) in
        let n' : u.lens.now ≡ set t.lens.now t.count (length y) = z.len ∙ ap (set t.lens.now t.count) qw in
        let room : t.end + suc (length space + length name) ≤ length t.heap.now = omega (arith, x.heap_room) in
        rw (z.heap, qm, qe, z.start, n') (text_more t.heap.now t.starts.now t.lens.now t.count t.end k x y below h3 (written_size t.heap.now t.end space name h1 h2 h3 room e' f' g') (written t.heap.now t.end space name h1 h2 h3 room e' f' g'))

    pub text_pushed : length space ≤ 64 → Pushed t (labelled space name ∷ []) u
    text_pushed short = record { texts = pushed short }

-- Names composed where they lie: the length before the first is written behind it.
pub written_copied : (b v b' : Bytes) (at : ℕ) → b' ≡ Buffers.written b at v → Copied b at v b'
unfolding Buffers.written
written_copied b v b' at e =
    record {
      size = rw e (length_written b at v);
      is = λ l.
          let k : at + length v ≡ length (take at b ++ v) = omega (arith, length-append (take at b) v, length-take-le at b (let z : at ≤ length b = omega arith in z)) in
          rw (e, sets-eq v b at l) (take_at (take at b ++ v) (drop (at + length v) b) (at + length v) (sym k));
    }

module _ (t : TextTable) (space name : Bytes)
    (first : ℕ) (ef : first ≡ t.end) (x : ℕ) (h1 : List ℕ) (p : (x ≡ length (composed_name space)) × (h1 ≡ Buffers.written t.heap.now (first + 1) (composed_name space)))
    (a₀ a : ℕ) (ea₀ : a₀ ≡ x % 65536) (ea : a ≡ a₀) (v : ℕ) (ev : v ≡ a % 256) (h2 : List ℕ) (e : h2 ≡ set h1 first v)
    (y : ℕ) (h3 : List ℕ) (q : (y ≡ length (composed_name name)) × (h3 ≡ Buffers.written h2 (first + 1 + a) (composed_name name)))
    (b₀ b : ℕ) (eb₀ : b₀ ≡ y % 65536) (eb : b ≡ b₀) (u : TextTable) (z : Ended (with_heap t h3) a b u)
  where
    pub names_pushed : length (composed_name space) ≤ 64 → Pushed t (labelled (composed_name space) (composed_name name) ∷ []) u
    names_pushed =
        text_pushed t (composed_name space) (composed_name name) first ef a₀ a b₀ b (ea₀ ∙ ap (λ (k : ℕ). k % 65536) p.0) ea (eb₀ ∙ ap (λ (k : ℕ). k % 65536) q.0) eb v ev (set t.heap.now first v) h2 h3 refl
        (written_copied (set t.heap.now first v) (composed_name space) h2 (first + 1) (e ∙ ap (λ (h : Bytes). set h first v) p.1 ∙ byte_before (composed_name space) t.heap.now (first + 1) first v (omega arith)))
        (written_copied h2 (composed_name name) h3 (first + 1 + a) q.1) u z

-- The text of a link, and of a value.
module _ (t u : TextTable) where
  abbrev Pushes : List Bytes → Type 0
  Pushes l = Pushed t l u

  abbrev link_of : Bytes → Identifier
  link_of v = identifier (composed_reference (reference v))

  abbrev Named : Bytes → Bytes → Type 0
  Named space name = length (composed_name space) ≤ 64 → Pushes (labelled (composed_name space) (composed_name name) ∷ [])

  module _ (v : Bytes) (i : Split) (p : Splits v i) (name : Bytes) (en : name ≡ part v i.article.start i.article.len) where
    by_split : (space : Bytes) → link_of v ≡ record { namespace = composed_name space; article = composed_name name } → Named space name → Spaced (link (link_of v)) → Pushes (identifier_text (link_of v) ∷ [])
    by_split space is f short =
        let near : (length (composed_name space) ≤ 64) × (length (composed_name name) ≤ 64) = subst (λ (j : Identifier). Spaced (link j)) is short in
        rw is (f near.0)

    pub link_bare : i.namespace ≡ None → (space : Bytes) → space ≡ [] → Named space name → Spaced (link (link_of v)) → Pushes (identifier_text (link_of v) ∷ [])
    link_bare e space es = by_split space (ap (λ (r : Reference). identifier (composed_reference r)) (sym p.is) ∙ rw (e, es, en, composed_empty))

  module _ (k : Kind) (v : Bytes) (w : Value) (e : read_value k v ≡ Some w) (short : Spaced w) where
    pub value_page : k ≡ Kind.Page → (Spaced (link (link_of v)) → Pushes (identifier_text (link_of v) ∷ [])) → Pushes (value_texts w)
    unfolding value_texts
    value_page q f = go (read_link v) refl (rw q at e)
      where
        go : (o : Option Identifier) → read_link v ≡ o → map_option link o ≡ Some w → Pushes (value_texts w)
        go None g h = absurd (let z : ◌≡◌ {A = ℕ} 0 1 = cc in omega arith)
        go (Some j) g h =
            let is : link j ≡ w = cc in
            let same : link_of v ≡ j = (link_read v j g).1 in
            subst (λ (u : Value). Pushes (value_texts u)) is (subst (λ (i : Identifier). Pushes (identifier_text i ∷ [])) same (f (subst (λ (i : Identifier). Spaced (link i)) (sym same) (subst Spaced (sym is) short))))

    pub value_string : k ≡ Kind.String → (space : Bytes) → space ≡ [] → (length space ≤ 64 → Pushes (labelled space v ∷ [])) → Pushes (value_texts w)
    unfolding value_texts
    value_string q space es f =
        let g : read_value Kind.String v ≡ Some w = rw q at e in
        let is : plain (string v) ≡ w = cc in
        subst (λ (u : Value). Pushes (value_texts u)) is (subst (λ (z : Bytes). Pushes (labelled z v ∷ [])) es (f (omega (arith, ap length es))))

-- A value without a text.
no_texts : {A : Type 0} (f : A → Constant) (o : Option A) (w : Value) → ((a : A) → value_texts (plain (f a)) ≡ []) → map_option plain (map_option f o) ≡ Some w → value_texts w ≡ []
no_texts f None w n h = absurd (let z : ◌≡◌ {A = ℕ} 0 1 = cc in omega arith)
no_texts f (Some a) w n h = let is : plain (f a) ≡ w = cc in ap value_texts (sym is) ∙ n a

module _ (t : TextTable) (k : Kind) (v : Bytes) (w : Value) (e : read_value k v ≡ Some w) where
  none_pushed : value_texts w ≡ [] → Pushed t (value_texts w) t
  none_pushed n = record { texts = λ l x few fit. rw (n, append-nil l) x }

  pub value_scalar : (j : Scalar) → k ≡ Kind.Scalar j → Pushed t (value_texts w) t
  unfolding value_texts
  value_scalar j q = none_pushed (no_texts (scalar j) (read_scalar j v) w (λ c. refl) (rw q at e))

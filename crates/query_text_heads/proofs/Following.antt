-- Laws of effects one after the other.
use Prim.Native.Nat.{ℕ, ◌-◌}
use mathlib.Core.Path.{◌≡◌, refl, ap, sym, subst, ◌∙◌}
use mathlib.Core.Bool.{Bool, ◌||◌, false, or_assoc, or-false}
use mathlib.Core.List.{List, [], ◌∷◌, map-append}
use lib.ListN.{length}
use Rattle.text.specs.Bytes.{Bytes}
use Rattle.query_tree.specs.Nodes.{Node, composed_node, composed_nodes}
use Rattle.query_tree.specs.Reading.{node_by}
use Rattle.query_tree.specs.declared.TreeNode.{TreeNode}
use Rattle.query_tree.proofs.Composing.{joined_composed}
use Rattle.query_tree_write.specs.declared.Place.{Place}
use Rattle.query_tree_write.specs.Laying.{Adds}
use Rattle.query_tree_write.proofs.Laws.{adds_none, adds_then, adds_joined}
use Rattle.query_text_heads.specs.Effects.{Effect, one, met, noded, ◌then◌, flagged, After, join_node, connective}
use Rattle.query_text_heads.specs.declared.Seen.{Seen}
use Rattle.query_text_heads.specs.declared.Connective.{Connective}

-- No node, and conditions.
pub after_met : (t : Bytes) (n : Seen) (d m v : Bool) → After t n (met d m v) t (flagged n d m v)
unfolding met flagged
after_met t n d m v = record { adds = adds_none t n.place; deep = refl; name = refl; value = refl }

pub nothing_met : (t : Bytes) (n : Seen) → After t n (met false false false) t n
unfolding met
nothing_met t n = record { adds = adds_none t n.place; deep = sym (or-false n.deep); name = sym (or-false n.name); value = sym (or-false n.value) }

-- A condition that was met before, by the first effect or by the second.
both : {z y : Bool} (x p q : Bool) → y ≡ (x || p) → z ≡ (y || q) → z ≡ (x || (p || q))
both x p q u v = v ∙ ap (λ w. w || q) u ∙ or_assoc x p q

module _ (t t' t'' : Bytes) (n n' n'' : Seen) (e f : Effect) where
  pub after_then : After t n e t' n' → After t' n' f t'' n'' → After t n (e then f) t'' n''
  unfolding ◌then◌
  after_then a b =
      record {
        adds =
            subst (λ (l : List Node). Adds l t n.place t'' n''.place) (sym (map-append composed_node e.nodes f.nodes))
            (adds_then t t' t'' n.place n'.place n''.place (composed_nodes e.nodes) (composed_nodes f.nodes) a.adds b.adds);
        deep = both n.deep e.deep f.deep a.deep b.deep;
        name = both n.name e.name f.name a.name b.name;
        value = both n.value e.value f.value a.value b.value;
      }

-- A connective has no names.
pub connective_plain : (kind : Connective) (k : ℕ) → composed_node (connective kind k) ≡ connective kind k
unfolding composed_node
connective_plain Connective.And k = refl
connective_plain Connective.Or k = refl
connective_plain Connective.Bar k = refl

-- Two effects and a connective: its number is how many nodes the second has.
module _ (t t₁ t₂ t₃ : Bytes) (n n₁ n₂ n₃ : Seen) (e f : Effect) (g : ℕ → Node) (plain : (k : ℕ) → composed_node (g k) ≡ g k) where
  pub joined : After t n e t₁ n₁ → After t₁ n₁ f t₂ n₂ → After t₂ n₂ (one (g (n₂.place.count - n₁.place.count))) t₃ n₃ → After t n (e then f then one (g (length f.nodes))) t₃ n₃
  unfolding one ◌then◌
  joined a b c =
      let h = after_then t t₂ t₃ n n₂ n₃ (e then f) (one (g (n₂.place.count - n₁.place.count))) (after_then t t₁ t₂ n n₁ n₂ e f a b) c in
      record {
        adds =
            subst (λ (l : List Node). Adds l t n.place t₃ n₃.place) (sym (joined_composed g plain e.nodes f.nodes))
            (adds_joined t t₁ t₂ n.place n₁.place n₂.place (composed_nodes e.nodes) (composed_nodes f.nodes) g t₃ n₃.place a.adds b.adds
            (subst (λ (x : Node). Adds (x ∷ []) t₂ n₂.place t₃ n₃.place) (plain _) c.adds));
        deep = h.deep;
        name = h.name;
        value = h.value;
      }

-- A node, and conditions behind it.
pub after_noded : (t t' : Bytes) (n n' r : Seen) (x : Node) (d m v : Bool) → After t n (one x) t' n' → r ≡ flagged n' d m v → After t n (noded x d m v) t' r
unfolding one met ◌then◌ noded
after_noded t t' n n' r x d m v a e = rw e (after_then t t' t' n n' (flagged n' d m v) (one x) (met d m v) a (after_met t' n' d m v))

-- A node that is put.
pub added : (t t' : Bytes) (n : Seen) (p : Place) (x : Node) → Adds (composed_node x ∷ []) t n.place t' p → After t n (one x) t' (record { place = p; deep = n.deep; name = n.name; value = n.value })
unfolding one
added t t' n p x a = record { adds = a; deep = sym (or-false n.deep); name = sym (or-false n.name); value = sym (or-false n.value) }

join_is : (s : Bytes) (kind : Connective) (m : ℕ) → node_by s (join_node kind m) ≡ connective kind m
join_is s Connective.And m = refl
join_is s Connective.Or m = refl
join_is s Connective.Bar m = refl

pub connected : (s t t' : Bytes) (n r : Seen) (kind : Connective) (x : TreeNode) (a b m : ℕ) → m ≡ b - a → x ≡ join_node kind m → After t n (one (node_by s x)) t' r → After t n (one (connective kind (b - a))) t' r
connected s t t' n r kind x a b m e f h = rw (← e, ← join_is s kind m, ← f) h

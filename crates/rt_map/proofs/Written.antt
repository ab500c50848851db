-- The bytes of a tree, written by noted numbers.
use Rattle.std.proofs.Common.{◌≡◌, ℕ, ◌+◌, ◌<◌, List, ◌++◌, length, map, take, get_or, Contains, ap, ◌∙◌, sym, subst}
use Rattle.std.specs.List.{All}
use Rattle.std.proofs.lemmas.List.{map_more}
use Rattle.std.proofs.lemmas.List.Elements.{All-push}
use Rattle.std.specs.List.{flat_map}
use Rattle.slab.specs.Slab.{get}
use Rattle.rt_check.specs.declared.node.NodeRow.{NodeRow}
use Rattle.rt_tree_node.specs.declared.arena.Arena.{Arena}
use Rattle.rt_tree_walk.specs.Preorder.{tree_keys, number_in}
use Rattle.rt_tree_outside.specs.Outside.{noted, node_row, outside}
use Rattle.rt_tree_walk.proofs.Progress.{IsSettled}
use Rattle.rt_tree_outside.proofs.Numbered.{nodes-agree}
use Rattle.rt_map.specs.Written.{IsNodeWritten}
use Rattle.rt_map.specs.TreeBytes.{node_bytes, head_bytes, tree_bytes}

-- what holds of the images so far, and of the next
pub all-mapped-more : {X Y : Type 0} (P : Y → Type 0) (f : X → Y) (xs : List X) (i : ℕ) (d : X) → i < length xs → All P (map f (take i xs)) → P (f (get_or xs i d)) →
    All P (map f (take (i + 1) xs))
all-mapped-more P f xs i d within all here = subst (All P) (sym (map_more f xs i d within)) (All-push P (map f (take i xs)) (f (get_or xs i d)) all here)

module _ {D : ℕ} (t : Arena D) (s : IsSettled t) (numbers : List ℕ) (same : (key : ℕ) → Contains (tree_keys t) key → noted numbers key ≡ number_in (tree_keys t) key) where
  pub written : (ns order before after : List ℕ) → ns ≡ numbers → order ≡ tree_keys t → before ≡ head_bytes D t.capacity →
      after ≡ before ++ flat_map node_bytes (map (λ k. node_row (noted ns) k (get t.nodes k)) order) → after ≡ tree_bytes (outside t)
  written ns order before after en eo eb e =
      let rows : List ℕ → List ℕ → List (NodeRow D) = λ ms ks. map (λ k. node_row (noted ms) k (get t.nodes k)) ks in
      e ∙ ap (λ ms. before ++ flat_map node_bytes (rows ms order)) en ∙ ap (λ ks. before ++ flat_map node_bytes (rows numbers ks)) eo
      ∙ ap (λ b. b ++ flat_map node_bytes (rows numbers (tree_keys t))) eb
      ∙ ap (λ nodes. head_bytes D t.capacity ++ flat_map node_bytes nodes) (nodes-agree t s numbers same)

  -- the numbers of each node fit
  pub all-written : (ns order : List ℕ) → ns ≡ numbers → order ≡ tree_keys t → All IsNodeWritten (map (λ k. node_row (noted ns) k (get t.nodes k)) order) →
      All IsNodeWritten (outside t).nodes
  all-written ns order en eo all =
      let rows : List ℕ → List ℕ → List (NodeRow D) = λ ms ks. map (λ k. node_row (noted ms) k (get t.nodes k)) ks in
      subst (All IsNodeWritten) (ap (λ ms. rows ms order) en ∙ ap (λ ks. rows numbers ks) eo ∙ nodes-agree t s numbers same) all

-- The way up: who stands on it doesn't wait, and it stays where what changes lies below.
use Rattle.std.proofs.Common.{◌≡◌, ◌≢◌, ℕ, zero, suc, ◌<◌, ◌≤◌, List, Some, length, get_or, eq-eqb, arith, ap, ◌∙◌, sym, subst}
use Rattle.std.specs.List.{All}
use Rattle.std.proofs.lemmas.Option.{none-some, same_Some}
use Rattle.std.proofs.lemmas.List.Elements.{All-weaker}
use Rattle.slab.specs.Slab.{Slab}
use Rattle.rt_tree_node.specs.declared.cell.Cell.{Cell}
use Rattle.rt_tree_node.specs.declared.cell.Pending.{Pending}
use Rattle.rt_tree_node.specs.Node.{NodeCells}
use Rattle.rt_tree_node.specs.Places.{key_of, times_named, cells_at, inner_cells_at, level_at, parent_at, pending_nodes}
use Rattle.rt_tree_node.specs.Sound.{NamesChild, IsLinked}
use Rattle.rt_tree_node.proofs.Counts.{count-some}
use Rattle.rt_tree_node.proofs.Places.{inner-all, inner-at_inner, named-find, names_key}
use Rattle.rt_tree_node.proofs.Links.{above-some}
use Rattle.rt_tree_place.specs.Way.{LeadsUp}

module _ {D : ℕ} (a : Slab (NodeCells D)) (root level : ℕ) (ws : List (Pending D)) (linked : IsLinked a root level ws) where
  -- a node on the way waits for nothing
  pub way-settled : (n key l : ℕ) → LeadsUp a root n key → level_at a key ≡ Some l → times_named key (pending_nodes ws) ≡ 0
  way-settled zero key l way e = subst (λ k. times_named k (pending_nodes ws) ≡ 0) (sym way) linked.root_waits_not
  way-settled (suc n) key l way e =
      let not_root : key ≢ root = λ same. none-some way.0 (sym linked.root_parent ∙ ap (parent_at a) (sym same) ∙ way.1) in
      let one = linked.named key l e not_root in
      let above = ap (times_named key) (above-some a key way.0 way.1) in
      let named = way.2 in
      omega arith

  -- the level of what names a node is one more
  pub level-above : (p key l : ℕ) → level_at a key ≡ Some l → 0 < times_named key (inner_cells_at a p) → level_at a p ≡ Some (suc l)
  level-above p key l e named =
      let every : All (λ c. (i : ℕ) × (level_at a p ≡ Some (suc i)) × NamesChild a i p c) (inner_cells_at a p) =
      inner-all (λ c. (i : ℕ) × (level_at a p ≡ Some (suc i)) × NamesChild a i p c) a p
      (λ i is. All-weaker (NamesChild a i p) (λ c. (j : ℕ) × (level_at a p ≡ Some (suc j)) × NamesChild a j p c) (λ c child. (i, is, child)) (cells_at a p) (linked.children p i is)) in
      let found = named-find key (λ c. (i : ℕ) × (level_at a p ≡ Some (suc i)) × NamesChild a i p c) (inner_cells_at a p) every named in
      let at = found.2 in
      let same : at.0 ≡ l = same_Some at.0 l (sym at.2.names.level_is ∙ ap (level_at a) found.1 ∙ e) in
      at.1 ∙ ap (λ i. Some (suc i)) same

  -- the way stays where parents from its first node on, and cells above that node, stay
  pub way-kept : (b : Slab (NodeCells D)) (low n key l : ℕ) → LeadsUp a root n key → level_at a key ≡ Some l → low ≤ l →
      ((x i : ℕ) → level_at a x ≡ Some i → low ≤ i → parent_at b x ≡ parent_at a x) →
      ((x i z : ℕ) → level_at a x ≡ Some i → low < i → times_named z (inner_cells_at b x) ≡ times_named z (inner_cells_at a x)) → LeadsUp b root n key
  way-kept b low zero key l way e within parents cells = way
  way-kept b low (suc n) key l way e within parents cells =
      let up = level-above way.0 key l e way.2 in
      let named = way.2 in
      let same = cells way.0 (suc l) key up (omega arith) in
      (way.0, parents key l e within ∙ way.1, omega arith, way-kept b low n way.0 (suc l) way.3 up (omega arith) parents cells)

  -- one step further down
  pub way-down : (n key l at : ℕ) (c : Cell D) → LeadsUp a root n key → level_at a key ≡ Some (suc l) → at < length (cells_at a key) → c ≡ get_or (cells_at a key) at c →
      LeadsUp a root (suc n) (key_of c)
  way-down n key l at c way e within read =
      let child : NamesChild a l key c = subst (NamesChild a l key) (sym read) (linked.children key l e at c within) in
      let counted : 0 < times_named (key_of c) (cells_at a key) = count-some (names_key (key_of c)) (cells_at a key) at c within (eq-eqb _ _ (ap key_of (sym read))) in
      let same = ap (times_named (key_of c)) (inner-at_inner a key l e) in
      (key, child.parent_is, omega arith, way)

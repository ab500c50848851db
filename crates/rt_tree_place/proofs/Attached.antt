-- An arena after a pending cell was appended to an odd node.
use Rattle.std.proofs.Common.{◌≡◌, ◌≢◌, ◌⊎◌, ℕ, zero, suc, ◌+◌, ◌<◌, ◌≤◌, Bool, List, [], ◌∷◌, ◌++◌, Some, count_by, arith, refl, ap, ◌∙◌, sym, subst}
use Rattle.std.specs.Ordering.{int_eq}
use Rattle.std.proofs.lemmas.Option.{same_Some}
use Rattle.indexmap.specs.IndexMap.{get as leaf_of}
use Rattle.slab.specs.Slab.{Slab, get, Updates}
use Rattle.rt_tree_node.specs.declared.arena.Arena.{Arena}
use Rattle.rt_tree_node.specs.declared.cell.Cell.{Cell}
use Rattle.rt_tree_node.specs.declared.cell.Pending.{Pending}
use Rattle.rt_tree_node.specs.Node.{NodeCells}
use Rattle.rt_tree_node.specs.Places.{key_of, times_named, times_listed, leaf_part, inner_part, leaf_cells_of, level_of, parent_of, level_at, pending_rows, pending_nodes, count_rows}
use Rattle.rt_tree_node.specs.Sound.{Names, IsLinked, HasHomes}
use Rattle.rt_tree_node.specs.Open.{IsFittedBut, IsOpen}
use Rattle.rt_tree_node.proofs.Places.{nodes-middle, rows-middle, count-leaf_push, names_key, has_id, named-one}
use Rattle.rt_tree_node.proofs.Links.{same-at, All-at, appended, reparented}
use Rattle.rt_tree_node.proofs.Fitted.{fitted-appended, fitted-reparented}
use Rattle.rt_tree_node.proofs.Homes.{homes-same, homes-pending, homes-appended}
use Rattle.rt_tree_node.proofs.Sums.{sum_over-updated}
use Rattle.rt_tree_place.specs.Steps.{Attaches}
use Rattle.rt_tree_place.proofs.WayDown.{node-from_level}

module _ {D : ℕ} where
  pub leaf-none : (l : ℕ) (cells : List (Cell D)) → 1 ≤ l → leaf_part l cells ≡ []
  leaf-none zero cells some = absurd (omega arith)
  leaf-none (suc l) cells some = refl

  -- how a change of one node shows in the count of rows
  pub rows-updated : (test : Cell D → Bool) (a b : Slab (NodeCells D)) (k : ℕ) (n m : NodeCells D) → get a k ≡ Some n → Updates a b k (Some m) → (ws vs : List (Pending D)) →
      count_by test (leaf_part n.level n.cells) + count_by test (pending_rows ws) ≡ count_by test (leaf_part m.level m.cells) + count_by test (pending_rows vs) →
      count_rows test b vs ≡ count_rows test a ws
  rows-updated test a b k n m has u ws vs same =
      let step = sum_over-updated (λ place. count_by test (leaf_cells_of place)) refl a b k (Some m) u in
      let old = ap (count_by test) (ap leaf_cells_of has) in
      omega (arith, step, old, same)

  module _ (E : ℕ → Type 0) (decide : (x : ℕ) → E x ⊎ (E x → ⊥)) (old new : Arena D) (key : ℕ) (n : NodeCells D)
      (xs : List (Pending D)) (w : Pending D) (ys : List (Pending D)) (was : IsOpen E old (xs ++ w ∷ ys)) (odd : E key)
      (has : get old.nodes key ≡ Some n) (at_level : w.level ≡ n.level) (at : Attaches old new key w) where
    attached-row : w.level ≡ 0 → IsOpen E new (xs ++ ys)
    attached-row row =
        let both = at.row row in
        let u = (both.1 n has).updates in
        let leaf : n.level ≡ 0 = omega arith in
        record {
          linked = subst (λ t. IsLinked new.nodes t.root t.level (xs ++ ys)) (sym at.rest)
              (appended old.nodes new.nodes old.root old.level xs w ys key n was.linked has at_level (λ l e. absurd (omega arith)) u);
          fitted = subst (λ t. IsFittedBut E t.capacity new.nodes t.root (xs ++ ys)) (sym at.rest)
              (fitted-appended E old.capacity old.nodes new.nodes old.root xs w ys key n decide was.fitted odd has at_level u);
          homes = homes-appended (leaf_of int_eq old.leaves) (leaf_of int_eq new.leaves) old.nodes new.nodes xs w ys key n was.homes has leaf row
              both.0.here both.0.others u;
        }

    attached-child : (l : ℕ) → w.level ≡ suc l → IsOpen E new (xs ++ ys)
    attached-child l inner =
        let parts = at.child (omega arith) in
        let mid = parts.1 in
        let named : Names old.nodes l w.cell = All-at (λ v. (i : ℕ) → v.level ≡ suc i → Names old.nodes i v.cell) xs w ys was.linked.pending_named l inner in
        let child = node-from_level old.nodes (key_of w.cell) l named.level_is in
        let m = child.0 in
        let first = (parts.2 m child.1).updates in
        let apart : key ≢ key_of w.cell = λ e. let same = same_Some n.level l (sym (ap level_of has) ∙ ap (level_at old.nodes) e ∙ named.level_is) in omega arith in
        let has_mid : get mid key ≡ Some n = first.others key apart ∙ has in
        let u = (parts.3 n has_mid).updates in
        let waits : 0 < times_named (key_of w.cell) (pending_nodes (xs ++ w ∷ ys)) =
        (let step = nodes-middle (names_key (key_of w.cell)) xs w ys in let one = named-one (key_of w.cell) w.cell refl in
        let part = ap (λ i. times_named (key_of w.cell) (inner_part i (w.cell ∷ []))) inner in omega arith) in
        let linked_mid : IsLinked mid old.root old.level (xs ++ w ∷ ys) =
        reparented old.nodes old.root old.level (xs ++ w ∷ ys) was.linked mid (key_of w.cell) l m (Some key) child.1 waits first in
        let fitted_mid = fitted-reparented E old.capacity old.nodes mid old.root (xs ++ w ∷ ys) (key_of w.cell) m (Some key) was.fitted child.1 first in
        let leaf_mid = same-at leaf_cells_of old.nodes mid (key_of w.cell) m (record m { parent = Some key }) child.1 first refl in
        let leaf_new = same-at leaf_cells_of mid new.nodes key n (record n { cells = n.cells ++ w.cell ∷ [] }) has_mid u
        (leaf-none n.level (n.cells ++ w.cell ∷ []) (omega arith) ∙ sym (leaf-none n.level n.cells (omega arith))) in
        record {
          linked = subst (λ t. IsLinked new.nodes t.root t.level (xs ++ ys)) (sym at.rest)
              (appended mid new.nodes old.root old.level xs w ys key n linked_mid has_mid at_level (λ i e. ap parent_of first.changed) u);
          fitted = subst (λ t. IsFittedBut E t.capacity new.nodes t.root (xs ++ ys)) (sym at.rest)
              (fitted-appended E old.capacity mid new.nodes old.root xs w ys key n decide fitted_mid odd has_mid at_level u);
          homes = subst (λ m. HasHomes (leaf_of int_eq m) new.nodes (xs ++ ys)) (sym parts.0)
              (homes-pending (leaf_of int_eq old.leaves) new.nodes (xs ++ w ∷ ys) (xs ++ ys)
              (λ id. let step = rows-middle (has_id id) xs w ys in let none = ap (λ cs. times_listed id cs) (leaf-none w.level (w.cell ∷ []) (omega arith)) in omega arith)
              (homes-same (leaf_of int_eq old.leaves) old.nodes new.nodes (xs ++ w ∷ ys)
              (λ k id. ap (times_listed id) (leaf_new k ∙ leaf_mid k)) was.homes));
        }

    pub attached : IsOpen E new (xs ++ ys)
    attached = by w.level refl
      where
        by : (l : ℕ) → w.level ≡ l → IsOpen E new (xs ++ ys)
        by zero e = attached-row e
        by (suc l) e = attached-child l e

    rows-row : (test : Cell D → Bool) → w.level ≡ 0 → count_rows test new.nodes (xs ++ ys) ≡ count_rows test old.nodes (xs ++ w ∷ ys)
    rows-row test row =
        let u = ((at.row row).1 n has).updates in
        let step = rows-middle test xs w ys in
        let push = count-leaf_push test n.level n.cells w.cell in
        let part = ap (λ l. count_by test (leaf_part l (w.cell ∷ []))) at_level in
        rows-updated test old.nodes new.nodes key n (record n { cells = n.cells ++ w.cell ∷ [] }) has u (xs ++ w ∷ ys) (xs ++ ys) (omega arith)

    rows-child : (test : Cell D → Bool) (l : ℕ) → w.level ≡ suc l → count_rows test new.nodes (xs ++ ys) ≡ count_rows test old.nodes (xs ++ w ∷ ys)
    rows-child test l inner =
        let parts = at.child (omega arith) in
        let mid = parts.1 in
        let named : Names old.nodes l w.cell = All-at (λ v. (i : ℕ) → v.level ≡ suc i → Names old.nodes i v.cell) xs w ys was.linked.pending_named l inner in
        let child = node-from_level old.nodes (key_of w.cell) l named.level_is in
        let m = child.0 in
        let first = (parts.2 m child.1).updates in
        let apart : key ≢ key_of w.cell = λ e. let same = same_Some n.level l (sym (ap level_of has) ∙ ap (level_at old.nodes) e ∙ named.level_is) in omega arith in
        let has_mid : get mid key ≡ Some n = first.others key apart ∙ has in
        let u = (parts.3 n has_mid).updates in
        let step = rows-middle test xs w ys in
        let push = count-leaf_push test n.level n.cells w.cell in
        let part = ap (λ i. count_by test (leaf_part i (w.cell ∷ []))) at_level in
        rows-updated test mid new.nodes key n (record n { cells = n.cells ++ w.cell ∷ [] }) has_mid u (xs ++ w ∷ ys) (xs ++ ys) (omega arith)
        ∙ rows-updated test old.nodes mid (key_of w.cell) m (record m { parent = Some key }) child.1 first (xs ++ w ∷ ys) (xs ++ w ∷ ys) refl

    pub rows-attached : (test : Cell D → Bool) → count_rows test new.nodes (xs ++ ys) ≡ count_rows test old.nodes (xs ++ w ∷ ys)
    rows-attached test = by w.level refl
      where
        by : (l : ℕ) → w.level ≡ l → count_rows test new.nodes (xs ++ ys) ≡ count_rows test old.nodes (xs ++ w ∷ ys)
        by zero e = rows-row test e
        by (suc l) e = rows-child test l e

-- An arena after a node gave up some of its cells.
use Rattle.std.proofs.Common.{◌≡◌, ◌≢◌, ◌⊎◌, ℕ, zero, suc, ◌+◌, ◌<◌, Bool, cond, ℤ, List, [], ◌++◌, get_or, Option, Some, count_by, is_some, arith, refl, ap, ◌∙◌, sym, subst}
use Rattle.std.specs.List.{All}
use Rattle.std.specs.List.Sorted.{IsPermutation}
use Rattle.std.proofs.lemmas.Option.{same_Some}
use Rattle.std.proofs.lemmas.List.{map-append}
use Rattle.std.proofs.lemmas.List.Sorted.{All-permutation, sum_by-IsPermutation}
use Rattle.std.proofs.lemmas.Bool.Decides.{Decides-int_eq}
use Rattle.slab.specs.Slab.{Slab, get, Updates, with_value}
use Rattle.slab.proofs.SlabLemmas.{Updates-with_value}
use Rattle.rt_tree_node.specs.declared.cell.Cell.{Cell}
use Rattle.rt_tree_node.specs.declared.cell.Pending.{Pending}
use Rattle.rt_tree_node.specs.Node.{NodeCells}
use Rattle.rt_tree_node.specs.Places.{key_of, times_listed, cells_of, leaf_part, leaf_cells_of, level_of, parent_of, level_at, pending_rows, count_rows, pending_at}
use Rattle.rt_tree_node.specs.Sound.{NamesChild, IsLinked, HasHomes}
use Rattle.rt_tree_node.specs.Open.{IsFittedBut}
use Rattle.rt_tree_node.proofs.Counts.{count-append, count-some}
use Rattle.rt_tree_node.proofs.Places.{rows-joined, has_id}
use Rattle.rt_tree_node.proofs.Links.{same-at, cleared, All-left}
use Rattle.rt_tree_node.proofs.Fitted.{fitted-cleared}
use Rattle.rt_tree_node.proofs.Homes.{homes-cleared, homes-pending, homes-same}
use Rattle.rt_tree_node.proofs.Many.{linked-reordered, linked-more, fitted-reordered, fitted-more, homes-reordered, homes-more}
use Rattle.rt_tree_place.proofs.Attached.{rows-updated}

module _ {D : ℕ} (a b : Slab (NodeCells D)) (root level : ℕ) (ws : List (Pending D)) (k : ℕ) (n : NodeCells D) (near far : List (Cell D))
    (moved : IsPermutation n.cells (near ++ far)) (has : get a k ≡ Some n) (u : Updates a b k (Some (record n { cells = near }))) where
  empty : NodeCells D
  empty = record n { cells = [] }

  mid : Slab (NodeCells D)
  mid = with_value a k (record n { cells = [] })

  first : Updates a mid k (Some (record n { cells = [] }))
  unfolding mid
  first = Updates-with_value a k (record n { cells = [] }) (ap is_some has)

  second : Updates mid b k (Some (record n { cells = [] ++ near }))
  second = record { changed = u.changed; others = λ x other. u.others x other ∙ sym (first.others x other) }

  split-pending : ws ++ pending_at n.level (near ++ far) ≡ ws ++ (pending_at n.level near ++ pending_at n.level far)
  split-pending = ap (λ vs. ws ++ vs) (map-append (λ c. record { level = n.level; cell = c }) near far)

  pub regrouped-linked : IsLinked a root level ws → IsLinked b root level (ws ++ pending_at n.level far)
  regrouped-linked linked =
      let out = cleared a mid root level ws k n linked has first in
      let order = linked-reordered mid root level ws n.level n.cells (near ++ far) moved out in
      let shaped = subst (IsLinked mid root level) split-pending order in
      linked-more mid b root level ws near (pending_at n.level far) k (record n { cells = [] }) shaped first.changed
      (λ l e j d within.
      let level_k : level_at a k ≡ Some (suc l) = ap level_of has ∙ ap Some e in
      let children = subst (All (NamesChild a l k)) (ap cells_of has) (linked.children k l level_k) in
      let is = All-left (NamesChild a l k) near far (All-permutation (NamesChild a l k) n.cells (near ++ far) moved children) j d within in
      let c = get_or near j d in
      let apart : key_of c ≢ k = λ same. let differ = same_Some l (suc l) (sym is.names.level_is ∙ ap (level_at a) same ∙ level_k) in absurd (omega arith) in
      (apart, same-at parent_of a mid k n (record n { cells = [] }) has first refl (key_of c) ∙ is.parent_is))
      second

  pub regrouped-fitted : (E : ℕ → Type 0) (M : ℕ) → ((x : ℕ) → E x ⊎ (E x → ⊥)) → E k → IsFittedBut E M a root ws →
      IsFittedBut E M b root (ws ++ pending_at n.level far)
  regrouped-fitted E M decide odd fitted =
      let out = fitted-cleared E M a mid root ws k n decide fitted odd has first in
      let order = fitted-reordered E M mid root ws n.level n.cells (near ++ far) moved out in
      let shaped = subst (IsFittedBut E M mid root) split-pending order in
      fitted-more E M mid b root ws near (pending_at n.level far) k (record n { cells = [] }) decide shaped odd first.changed second

  pub regrouped-homes : (f : ℤ → Option ℕ) → HasHomes f a ws → HasHomes f b (ws ++ pending_at n.level far)
  regrouped-homes f homes = by n.level refl
    where
      shaped : HasHomes f mid (ws ++ (pending_at n.level near ++ pending_at n.level far))
      shaped = subst (HasHomes f mid) split-pending (homes-reordered f mid ws n.level n.cells (near ++ far) moved (homes-cleared f a mid ws k n homes has first))

      by : (l : ℕ) → n.level ≡ l → HasHomes f b (ws ++ pending_at n.level far)
      by zero e = homes-more f f mid b ws near (pending_at n.level far) k (record n { cells = [] }) shaped first.changed e
          (λ j d within.
          let c = get_or near j d in
          let listed : 0 < count_by (has_id c.number) near = count-some (has_id c.number) near j d within ((Decides-int_eq c.number c.number).1 refl) in
          let more = count-append (has_id c.number) near far in
          let same = sum_by-IsPermutation (λ q. cond (has_id c.number q) 1 0) n.cells (near ++ far) moved in
          let here = ap (times_listed c.number) (ap leaf_cells_of has) in
          let part = ap (λ i. times_listed c.number (leaf_part i n.cells)) e in
          homes.home k c.number (omega arith))
          (λ id apart. refl) second
      by (suc l) e = homes-pending f b (ws ++ (pending_at n.level near ++ pending_at n.level far)) (ws ++ pending_at n.level far)
          (λ id.
          let p = ap (λ vs. count_by (has_id id) (pending_rows vs)) (sym split-pending) in
          let q = rows-joined (has_id id) ws n.level (near ++ far) in
          let r = rows-joined (has_id id) ws n.level far in
          let s = ap (λ i. count_by (has_id id) (leaf_part i (near ++ far))) e in
          let t = ap (λ i. count_by (has_id id) (leaf_part i far)) e in omega arith)
          (homes-same f mid b (ws ++ (pending_at n.level near ++ pending_at n.level far))
          (λ key id. ap (times_listed id) (same-at leaf_cells_of mid b k (record n { cells = [] }) (record n { cells = [] ++ near }) first.changed second
          (ap (λ i. leaf_part i near) e ∙ sym (ap (λ i. leaf_part i []) e)) key)) shaped)

  pub regrouped-rows : (test : Cell D → Bool) → count_rows test b (ws ++ pending_at n.level far) ≡ count_rows test a ws
  regrouped-rows test =
      let step = rows-joined test ws n.level far in
      let same = leaf-perm test n.level in
      rows-updated test a b k n (record n { cells = near }) has u ws (ws ++ pending_at n.level far) (omega arith)
    where
      leaf-perm : (t : Cell D → Bool) (l : ℕ) → count_by t (leaf_part l n.cells) ≡ count_by t (leaf_part l near) + count_by t (leaf_part l far)
      leaf-perm t zero = sym (sum_by-IsPermutation (λ q. cond (t q) 1 0) n.cells (near ++ far) moved) ∙ count-append t near far
      leaf-perm t (suc l) = refl

-- Nodes that get another parent, and rows that get another leaf, one after another.
use Rattle.std.proofs.Common.{◌≡◌, ◌≢◌, ℕ, ◌+◌, ◌<◌, ℤ, List, [], ◌∷◌, ◌++◌, length, get_or, take, Option, Some, None, is_some, IsSome, arith, refl, ap, ◌∙◌, sym, subst, inl, inr}
use Rattle.std.specs.Ordering.{int_eq}
use Rattle.std.specs.List.{All}
use Rattle.std.proofs.lemmas.Bool.{cases_eq, true≢false}
use Rattle.std.proofs.lemmas.Option.{none-some}
use Rattle.std.proofs.lemmas.List.{map_more, get_or_read, get_or-map, length-map}
use Rattle.std.proofs.lemmas.List.Elements.{All-push, All-weaker}
use Rattle.indexmap.specs.IndexMap.{IndexMap, get as leaf_of}
use Rattle.slab.specs.Slab.{Slab, get}
use Rattle.rt_tree_node.specs.declared.cell.Cell.{Cell}
use Rattle.rt_tree_node.specs.Node.{NodeCells}
use Rattle.rt_tree_node.specs.Places.{key_of, picked, no_cell, times_named, cells_of, level_of, parent_of, parent_at, pending_nodes}
use Rattle.rt_tree_node.specs.Changes.{Puts}
use Rattle.rt_tree_node.specs.Homes.{Moves}
use Rattle.rt_tree_node.proofs.Links.{same-at, reparented, All-left, All-right}
use Rattle.rt_tree_node.proofs.Homes.{same-id}
use Rattle.rt_tree_place.specs.Steps.{Adopts, Rehouses}

module _ {D : ℕ} where
  pub picked-more : (cells : List (Cell D)) (ps : List ℕ) (i : ℕ) (c : Cell D) → i < length ps → All (λ p. p < length cells) ps →
      c ≡ get_or cells (get_or ps i 0) c → picked cells (take (i + 1) ps) ≡ picked cells (take i ps) ++ c ∷ []
  picked-more cells ps i c within all read =
      let f : ℕ → Cell D = λ p. get_or cells p no_cell in
      map_more f ps i 0 within ∙ ap (λ q. picked cells (take i ps) ++ q ∷ []) (sym (get_or_read cells (get_or ps i 0) c (all i 0 within) read no_cell))

  pub picked-at : (cells : List (Cell D)) (ps : List ℕ) (i : ℕ) (c d : Cell D) → i < length ps → All (λ p. p < length cells) ps →
      c ≡ get_or cells (get_or ps i 0) c → get_or (picked cells ps) i d ≡ c
  picked-at cells ps i c d within all read =
      get_or-map (λ p. get_or cells p no_cell) ps i 0 d within ∙ sym (get_or_read cells (get_or ps i 0) c (all i 0 within) read no_cell)

  pub at-picked : (P : Cell D → Type 0) (cells : List (Cell D)) (ps : List ℕ) (i : ℕ) (c : Cell D) → i < length ps → All (λ p. p < length cells) ps →
      c ≡ get_or cells (get_or ps i 0) c → All P (picked cells ps) → P c
  at-picked P cells ps i c within all read every =
      subst P (picked-at cells ps i c c within all read) (every i c (omega (arith, length-map ps (λ p. get_or cells p no_cell))))

  kept-some : (s t : Option (NodeCells D)) → level_of s ≡ level_of t → IsSome t → IsSome s
  kept-some s None e some = absurd (true≢false (sym some))
  kept-some None (Some n) e some = absurd (none-some n.level e)
  kept-some (Some m) (Some n) e some = refl

  pub kept-present : (a b : Slab (NodeCells D)) (x : ℕ) → level_of (get b x) ≡ level_of (get a x) → IsSome (get a x) → IsSome (get b x)
  kept-present a b x e some = kept-some (get b x) (get a x) e some

  pub some-node : (s : Option (NodeCells D)) → IsSome s → (n : NodeCells D) × (s ≡ Some n)
  some-node None some = absurd (true≢false (sym some))
  some-node (Some n) some = (n, refl)

  pub last-of : (P : Cell D → Type 0) (cs : List (Cell D)) (c : Cell D) → All P (cs ++ c ∷ []) → P c
  last-of P cs c all = All-right P cs (c ∷ []) all 0 c (omega arith)

  pub adopts-none : (a : Slab (NodeCells D)) (key : ℕ) → Adopts a a key []
  adopts-none a key = record {
    parents = λ k d within. absurd (omega arith);
    levels = λ x. refl;
    cells = λ x. refl;
    others = λ x all. refl;
    linked = λ root level ws linked waits. linked;
    len = refl;
    room = refl;
  }

  pub adopts-more : (a mid b : Slab (NodeCells D)) (key : ℕ) (cs : List (Cell D)) (c : Cell D) (n : NodeCells D) → get mid (key_of c) ≡ Some n →
      Adopts a mid key cs → Puts mid b (key_of c) (record n { parent = Some key }) → Adopts a b key (cs ++ c ∷ [])
  adopts-more a mid b key cs c n has so_far step =
      let u = step.updates in
      let m = record n { parent = Some key } in
      record {
        parents = All-push (λ q. parent_at b (key_of q) ≡ Some key) cs c
            (All-weaker (λ q. parent_at mid (key_of q) ≡ Some key) (λ q. parent_at b (key_of q) ≡ Some key)
            (λ q is. elim (cases_eq (key_of q) (key_of c)) [
              | inl same ↦ ap (parent_at b) same ∙ ap parent_of u.changed
              | inr other ↦ ap parent_of (u.others (key_of q) other) ∙ is
            ]) cs so_far.parents) (ap parent_of u.changed);
        levels = λ x. same-at level_of mid b (key_of c) n m has u refl x ∙ so_far.levels x;
        cells = λ x. same-at cells_of mid b (key_of c) n m has u refl x ∙ so_far.cells x;
        others = λ x all.
            let apart : x ≢ key_of c = λ e. last-of (λ q. key_of q ≢ x) cs c all (sym e) in
            u.others x apart ∙ so_far.others x (All-left (λ q. key_of q ≢ x) cs (c ∷ []) all);
        linked = λ root level ws linked waits.
            reparented mid root level ws (so_far.linked root level ws linked (All-left (λ q. 0 < times_named (key_of q) (pending_nodes ws)) cs (c ∷ []) waits))
            b (key_of c) n.level n (Some key) has (last-of (λ q. 0 < times_named (key_of q) (pending_nodes ws)) cs c waits) u;
        len = step.len ∙ so_far.len;
        room = step.room ∙ so_far.room;
      }

module _ {D : ℕ} {S : Type 0} where
  pub rehouses-none : (a : IndexMap ℤ ℕ S) (leaf : ℕ) → Rehouses {D = D} a a leaf []
  rehouses-none a leaf = record { keeps = record { ids = refl; len = refl; room = refl }; here = λ k d within. absurd (omega arith); known = λ id some. some; others = λ id all. refl }

  pub rehouses-more : (a mid b : IndexMap ℤ ℕ S) (leaf : ℕ) (cs : List (Cell D)) (c : Cell D) → Rehouses a mid leaf cs → Moves mid b c.number leaf → Rehouses a b leaf (cs ++ c ∷ [])
  rehouses-more a mid b leaf cs c so_far step = record {
    keeps = record { ids = step.keeps.ids ∙ so_far.keeps.ids; len = step.keeps.len ∙ so_far.keeps.len; room = step.keeps.room ∙ so_far.keeps.room };
    here = All-push (λ q. leaf_of int_eq b q.number ≡ Some leaf) cs c
        (All-weaker (λ q. leaf_of int_eq mid q.number ≡ Some leaf) (λ q. leaf_of int_eq b q.number ≡ Some leaf)
        (λ q is. elim (same-id q.number c.number) [
          | inl same ↦ ap (leaf_of int_eq b) same ∙ step.here
          | inr other ↦ step.others q.number other ∙ is
        ]) cs so_far.here) step.here;
    known = λ id some. elim (same-id id c.number) [
      | inl same ↦ ap is_some (ap (leaf_of int_eq b) same ∙ step.here)
      | inr other ↦ ap is_some (step.others id other) ∙ so_far.known id some
    ];
    others = λ id all.
        step.others id (last-of (λ q. id ≢ q.number) cs c all) ∙ so_far.others id (All-left (λ q. id ≢ q.number) cs (c ∷ []) all);
  }

-- A tree after a new root was made above the old one.
use Rattle.std.proofs.Common.{◌≡◌, ◌≢◌, ℕ, suc, ◌+◌, ◌<◌, ◌≤◌, Bool, pos, unsigned_abs, List, [], ◌∷◌, ◌++◌, length, None, Some, arith, refl, ap, ◌∙◌, sym, subst, inl, inr}
use Rattle.std.specs.Ordering.{int_eq}
use Rattle.std.specs.List.{All}
use Rattle.std.proofs.lemmas.Bool.{cases_eq}
use Rattle.std.proofs.lemmas.Option.{none-some, same_Some}
use Rattle.std.proofs.lemmas.List.{append-nil}
use Rattle.std.proofs.lemmas.List.Elements.{All-nil, All-cons, All-append}
use Rattle.indexmap.specs.IndexMap.{get as leaf_of}
use Rattle.slab.specs.Slab.{Slab, get, Updates, slab_len}
use Rattle.rt_box.specs.Capacity.{least_fill}
use Rattle.rt_box.specs.Rect.{IsBox}
use Rattle.rt_tree_node.specs.declared.arena.Arena.{Arena}
use Rattle.rt_tree_node.specs.declared.cell.Cell.{Cell}
use Rattle.rt_tree_node.specs.declared.cell.Pending.{Pending}
use Rattle.rt_tree_node.specs.Node.{NodeCells}
use Rattle.rt_tree_node.specs.Places.{key_of, times_named, times_listed, cells_of, leaf_cells_of, level_of, parent_of, cells_at, level_at, parent_at, inner_cells_at, pending_nodes, count_rows}
use Rattle.rt_tree_node.specs.Changes.{Puts}
use Rattle.rt_tree_node.specs.Open.{HasHull, IsFittedBut, IsOpen}
use Rattle.rt_tree_node.proofs.Places.{inner-at_inner, rows-joined, has_id, named-one}
use Rattle.rt_tree_node.proofs.Links.{new-at, above-some, crowned}
use Rattle.rt_tree_node.proofs.Fitted.{fitted-weaker, fitted-moved, opened}
use Rattle.rt_tree_node.proofs.Homes.{homes-same, homes-pending}
use Rattle.rt_tree_place.specs.Rise.{Raises}
use Rattle.rt_tree_place.specs.Steps.{Attaches, IsRising}
use Rattle.rt_tree_place.proofs.Attached.{attached, rows-attached}
use Rattle.rt_tree_place.proofs.Closed.{closed}
use Rattle.rt_tree_place.proofs.Created.{rows-created}
use Rattle.rt_tree_place.proofs.Divides.{either_key, decide-either}
use Rattle.rt_tree_place.proofs.WayDown.{node-from_level}

module _ {D : ℕ} (t : Arena D) (rising : IsRising t t.root) (b : Slab (NodeCells D)) (k : ℕ) (c : Cell D) (vacant : get t.nodes k ≡ None)
    (u : Updates t.nodes b k (Some record { level = suc t.level; parent = None; cells = [] })) (number_is : c.number ≡ pos t.root) (box : IsBox D c.rect) where
  abbrev E : ℕ → Type 0
  E = either_key t.root k

  abbrev ws : List (Pending D)
  ws = t.pending.items

  abbrev w : Pending D
  w = record { level = suc t.level; cell = c }

  abbrev mid : Arena D
  mid = record t { nodes = b; root = k; level = suc t.level }

  abbrev empty : NodeCells D
  empty = record { level = suc t.level; parent = None; cells = [] }

  key_is : key_of c ≡ t.root
  key_is = ap unsigned_abs number_is

  pub root-apart : t.root ≢ k
  root-apart e = none-some t.level (sym (ap level_of vacant) ∙ ap (level_at t.nodes) (sym e) ∙ rising.sound.linked.root_level)

  fitted-mid : IsFittedBut E t.capacity b k (ws ++ w ∷ [])
  fitted-mid =
      let wide = fitted-weaker (λ x. Some t.root ≡ Some x) E (λ x e. inl (sym (same_Some t.root x e))) t.capacity t.nodes t.root ws
      (opened t.capacity t.nodes t.root ws (Some t.root) rising.sound.fitted) in
      let other : (x : ℕ) → (E x → ⊥) → x ≢ k = λ x fine e. fine (inr e) in
      fitted-moved E t.capacity t.nodes b t.root k ws (ws ++ w ∷ []) wide
      (λ x i fine e. sym (ap level_of (u.others x (other x fine))) ∙ e)
      (λ x fine. ap cells_of (u.others x (other x fine)))
      (λ x fine away e. fine (inl e)) (decide-either t.root k)
      (λ x here. elim (cases_eq x k) [
        | inl at ↦ subst (λ y. All (λ q. IsBox D q.rect) (cells_at b y)) (sym at) (subst (All (λ q. IsBox D q.rect)) (sym (ap cells_of u.changed)) (All-nil (λ q. IsBox D q.rect)))
        | inr differs ↦ subst (All (λ q. IsBox D q.rect)) (sym (ap cells_of (u.others x differs))) (wide.boxes x)
      ])
      (λ x i here e. elim (cases_eq x k) [
        | inl at ↦ subst (λ y. All (HasHull E t.nodes) (cells_at b y)) (sym at) (subst (All (HasHull E t.nodes)) (sym (ap cells_of u.changed)) (All-nil (HasHull E t.nodes)))
        | inr differs ↦ subst (All (HasHull E t.nodes)) (sym (ap cells_of (u.others x differs))) (wide.hulls x i (sym (ap level_of (u.others x differs)) ∙ e))
      ])
      (All-append (λ v. IsBox D v.cell.rect) ws (w ∷ []) wide.pending_boxes (All-cons (λ v. IsBox D v.cell.rect) w [] box (All-nil (λ v. IsBox D v.cell.rect))))
      (All-append (λ v. (i : ℕ) → v.level ≡ suc i → HasHull E t.nodes v.cell) ws (w ∷ []) wide.pending_hulls
      (All-cons (λ v. (i : ℕ) → v.level ≡ suc i → HasHull E t.nodes v.cell) w [] (λ i e fine. absurd (fine (inl key_is)))
      (All-nil (λ v. (i : ℕ) → v.level ≡ suc i → HasHull E t.nodes v.cell))))

  leaves-same : (x : ℕ) → leaf_cells_of (get b x) ≡ leaf_cells_of (get t.nodes x)
  leaves-same = new-at leaf_cells_of t.nodes b k empty vacant u refl

  mid-open : IsOpen E mid (ws ++ w ∷ [])
  mid-open = record {
    linked = crowned t.nodes b t.root t.level ws k c rising.sound.linked vacant number_is key_is u;
    fitted = fitted-mid;
    homes = homes-pending (leaf_of int_eq t.leaves) b ws (ws ++ w ∷ [])
        (λ id. let step = rows-joined (has_id id) ws (suc t.level) (c ∷ []) in omega arith)
        (homes-same (leaf_of int_eq t.leaves) t.nodes b ws (λ x id. ap (times_listed id) (leaves-same x)) rising.sound.homes);
  }

  mid-rows : (test : Cell D → Bool) → count_rows test b (ws ++ w ∷ []) ≡ count_rows test t.nodes ws
  mid-rows test =
      let made = rows-created test t.nodes b k (suc t.level) None vacant u in
      let step = rows-joined test ws (suc t.level) (c ∷ []) in
      omega (arith, made, step)

  module _ (new : Arena D) (at : Attaches mid new k w) (len : slab_len b ≡ slab_len t.nodes + 1) (room : b.capacity ≡ t.nodes.capacity) where
    here : (n : NodeCells D) × (get t.nodes t.root ≡ Some n) × (n.level ≡ t.level)
    here = node-from_level t.nodes t.root t.level rising.sound.linked.root_level

    abbrev n : NodeCells D
    n = here.0

    child-is : get b (key_of c) ≡ Some n
    child-is = ap (get b) key_is ∙ u.others t.root root-apart ∙ here.1

    apart-cell : k ≢ key_of c
    apart-cell e = root-apart (sym key_is ∙ sym e)

    first : Puts b ((at.child (omega arith)).1) (key_of c) (record n { parent = Some k })
    first = (at.child (omega arith)).2 n child-is

    second : Puts ((at.child (omega arith)).1) new.nodes k (record empty { cells = [] ++ c ∷ [] })
    second = (at.child (omega arith)).3 empty (first.updates.others k apart-cell ∙ u.changed)

    old-root : get new.nodes t.root ≡ Some (record n { parent = Some k })
    old-root = second.updates.others t.root root-apart ∙ ap (get ((at.child (omega arith)).1)) (sym key_is) ∙ first.updates.changed

    root-is : new.root ≡ k
    root-is = ap (λ a. a.root) at.rest

    pending-is : new.pending ≡ t.pending
    pending-is = ap (λ a. a.pending) at.rest

    capacity-is : new.capacity ≡ t.capacity
    capacity-is = ap (λ a. a.capacity) at.rest

    items-are : ws ++ [] ≡ new.pending.items
    items-are = append-nil ws ∙ ap (λ v. v.items) (sym pending-is)

    new-open : IsOpen E new new.pending.items
    new-open = subst (IsOpen E new) items-are (attached E (decide-either t.root k) mid new k empty ws w [] mid-open (inr refl) u.changed refl at)

    root-level : level_at new.nodes t.root ≡ Some t.level
    root-level = ap level_of old-root ∙ ap Some here.2

    top-level : level_at new.nodes k ≡ Some (suc t.level)
    top-level = ap level_of second.updates.changed

    top-cells : cells_at new.nodes k ≡ c ∷ []
    top-cells = ap cells_of second.updates.changed

    root-up : parent_at new.nodes t.root ≡ Some k
    root-up = ap parent_of old-root

    root-cells : cells_at new.nodes t.root ≡ cells_at t.nodes t.root
    root-cells = ap cells_of old-root ∙ sym (ap cells_of here.1)

    root-named : times_named t.root (inner_cells_at new.nodes k) ≡ 1
    root-named = ap (times_named t.root) (inner-at_inner new.nodes k t.level top-level ∙ top-cells) ∙ named-one t.root c key_is

    root-waits_not : times_named t.root (pending_nodes new.pending.items) ≡ 0
    root-waits_not =
        let one = new-open.linked.named t.root t.level root-level (λ e. root-apart (e ∙ root-is)) in
        let above = ap (times_named t.root) (above-some new.nodes t.root k root-up) in
        let named = root-named in
        omega arith

    new-rising : t.capacity < length (cells_at t.nodes t.root) → IsRising new t.root
    new-rising full =
        let cap = rising.sound.fitted.cap in
        let long = ap length root-cells in
        let one = ap length top-cells in
        let c = capacity-is in
        let some : 1 ≤ length (cells_at new.nodes t.root) = omega arith in
        let named = root-named in
        record {
          sound = closed E (decide-either t.root k) new t.root new-open
              (λ x odd. elim odd [
                | inl e ↦ inl e
                | inr e ↦ inr (e ∙ sym root-is, (let same = ap (λ y. length (cells_at new.nodes y)) e in omega arith), (let same = ap (λ y. length (cells_at new.nodes y)) e in omega arith))
              ]) some root-waits_not;
          level = t.level;
          here = root-level;
          steps = 1;
          way = (k, root-up, omega arith, sym root-is);
          some = some;
          filled = λ away. subst (λ m. least_fill m ≤ length (cells_at new.nodes t.root)) (sym capacity-is) (omega arith);
          most = let most = rising.most in omega arith;
        }

    -- other nodes stay
    below-same : (x l : ℕ) → level_at t.nodes x ≡ Some l → x ≢ t.root → (level_at new.nodes x ≡ Some l) × (cells_at new.nodes x ≡ cells_at t.nodes x)
    below-same x l e away =
        let fresh : x ≢ k = λ same. none-some l (sym (ap level_of vacant) ∙ ap (level_at t.nodes) (sym same) ∙ e) in
        let same = second.updates.others x fresh ∙ first.updates.others x (λ is. away (is ∙ key_is)) ∙ u.others x fresh in
        (ap level_of same ∙ e, ap cells_of same)

    pub raised : t.capacity < length (cells_at t.nodes t.root) → Raises t new
    raised full = record {
      rising = new-rising full;
      up = root-up ∙ ap Some (sym root-is);
      cell = c;
      alone = ap (cells_at new.nodes) root-is ∙ top-cells;
      names = number_is;
      cells = root-cells;
      others = below-same;
      rows = λ test. ap (count_rows test new.nodes) (sym items-are)
          ∙ rows-attached E (decide-either t.root k) mid new k empty ws w [] mid-open (inr refl) u.changed refl at test ∙ mid-rows test;
      level = ap (λ a. a.level) at.rest;
      pending = pending-is;
      leaves = (at.child (omega arith)).0;
      capacity = capacity-is;
      len = second.len ∙ first.len ∙ len;
      room = second.room ∙ first.room ∙ room;
    }

-- A row that is pending.
use Rattle.std.proofs.Common.{◌≡◌, ◌≢◌, ℕ, suc, ◌+◌, ◌≤◌, Bool, true, false, cond, ℤ, List, [], ◌∷◌, ◌++◌, length, map, drop, get_or, Option, Some, None, is_some, vec_len, arith, refl, ap, sym, subst, ◌∙◌, inl, inr}
use Rattle.std.specs.List.{count_by}
use Rattle.std.specs.Map.{lookup}
use Rattle.std.specs.Ordering.{int_eq}
use Rattle.std.proofs.lemmas.Bool.{true≢false, cases_eq}
use Rattle.std.proofs.lemmas.Option.{none-some}
use Rattle.std.proofs.lemmas.List.Elements.{All-nil, All-cons}
use Rattle.slab.specs.Slab.{Slab}
use Rattle.indexmap.specs.IndexMap.{IndexMap, get as leaf_of}
use Rattle.rt_box.specs.Rect.{IsBox}
use Rattle.rt_tree_node.specs.declared.arena.Arena.{Arena}
use Rattle.rt_tree_node.specs.declared.cell.Cell.{Cell}
use Rattle.rt_tree_node.specs.declared.cell.Pending.{Pending}
use Rattle.rt_tree_node.specs.Node.{NodeCells}
use Rattle.rt_tree_node.specs.Homes.{KeepsIds}
use Rattle.rt_tree_node.specs.Places.{key_of, times_listed, leaf_cells_at, hull_at, pending_rows, count_rows}
use Rattle.rt_tree_node.specs.Sound.{Names, IsLinked, IsFitted, HasHomes}
use Rattle.rt_tree_node.specs.Whole.{IsWhole, HasRoom, row_count}
use Rattle.rt_tree_node.proofs.Counts.{count-cons}
use Rattle.rt_tree_node.proofs.Homes.{same-id, listed-one, listed-other}
use Rattle.rt_tree_place.specs.NewRow.{pending_row, Learns, AwaitsLeaf}
use Rattle.rt_tree_place.specs.Insertion.{GainsId}

module _ {D : ℕ} where
  abbrev alone : Cell D → List (Pending D)
  alone c = pending_row c ∷ []

  linked-awaiting : (a : Slab (NodeCells D)) (root level : ℕ) (c : Cell D) → IsLinked a root level [] → IsLinked a root level (alone c)
  linked-awaiting a root level c linked = record {
    root_level = linked.root_level;
    root_parent = linked.root_parent;
    root_waits_not = refl;
    levels = linked.levels;
    children = linked.children;
    named = linked.named;
    pending_levels = All-cons (λ w. w.level ≤ level) (pending_row c) [] (omega arith) (All-nil (λ w. w.level ≤ level));
    pending_named = All-cons (λ w. (l : ℕ) → w.level ≡ suc l → Names a l w.cell) (pending_row c) [] (λ l e. absurd (omega arith))
        (All-nil (λ w. (l : ℕ) → w.level ≡ suc l → Names a l w.cell));
  }

  fitted-awaiting : (M : ℕ) (a : Slab (NodeCells D)) (root : ℕ) (c : Cell D) → IsBox D c.rect → IsFitted M a root [] None → IsFitted M a root (alone c) None
  fitted-awaiting M a root c box fitted = record {
    cap = fitted.cap;
    some = fitted.some;
    least = fitted.least;
    most = fitted.most;
    boxes = fitted.boxes;
    hulls = fitted.hulls;
    pending_boxes = All-cons (λ w. IsBox D w.cell.rect) (pending_row c) [] box (All-nil (λ w. IsBox D w.cell.rect));
    pending_hulls = All-cons (λ w. (l : ℕ) → w.level ≡ suc l → w.cell.rect ≡ hull_at a (key_of w.cell)) (pending_row c) [] (λ l e. absurd (omega arith))
        (All-nil (λ w. (l : ℕ) → w.level ≡ suc l → w.cell.rect ≡ hull_at a (key_of w.cell)));
  }

  homes-awaiting : (f g : ℤ → Option ℕ) (a : Slab (NodeCells D)) (c : Cell D) (leaf : ℕ) → f c.number ≡ None → g c.number ≡ Some leaf →
      ((id : ℤ) → id ≢ c.number → g id ≡ f id) → HasHomes f a [] → HasHomes g a (alone c)
  homes-awaiting f g a c leaf absent here others homes = record {
    home = λ key id some. elim (same-id id c.number) [
      | inl same ↦ absurd (none-some key (sym absent ∙ ap f (sym same) ∙ homes.home key id some))
      | inr differs ↦ others id differs ∙ homes.home key id some
    ];
    there = λ key id is. elim (same-id id c.number) [
      | inl same ↦
          let one = listed-one id c same in
          elim (cases_eq (times_listed id (leaf_cells_at a key)) 0) [
            | inl none ↦ omega arith
            | inr some ↦ absurd (none-some key (sym absent ∙ ap f (sym same) ∙ homes.home key id (omega arith)))
          ]
      | inr differs ↦
          let old = homes.there key id (sym (others id differs) ∙ is) in
          let none = listed-other id c differs in
          omega arith
    ];
    pending = λ id some. elim (same-id id c.number) [
      | inl same ↦ ap is_some (ap g same ∙ here)
      | inr differs ↦ let none = listed-other id c differs in absurd (omega arith)
    ];
  }

  module _ (old mid : Arena D) (c : Cell D) (awaits : AwaitsLeaf old mid c) (idle : old.pending.items ≡ []) where
    -- the arena, spelled out
    abbrev pub awaiting_arena : Arena D
    awaiting_arena = record old { leaves = mid.leaves; pending = mid.pending }

    pub waits-alone : mid.pending.items ≡ pending_row c ∷ []
    waits-alone = awaits.pending ∙ ap (λ ws. ws ++ pending_row c ∷ []) idle

    whole-spelled : IsWhole old → leaf_of int_eq old.leaves c.number ≡ None → IsBox D c.rect → IsWhole awaiting_arena
    whole-spelled whole absent box = record {
      linked = subst (IsLinked old.nodes old.root old.level) (sym waits-alone)
          (linked-awaiting old.nodes old.root old.level c (subst (IsLinked old.nodes old.root old.level) idle whole.linked));
      fitted = subst (λ ws. IsFitted old.capacity old.nodes old.root ws None) (sym waits-alone)
          (fitted-awaiting old.capacity old.nodes old.root c box (subst (λ ws. IsFitted old.capacity old.nodes old.root ws None) idle whole.fitted));
      homes = subst (HasHomes (leaf_of int_eq mid.leaves) old.nodes) (sym waits-alone)
          (homes-awaiting (leaf_of int_eq old.leaves) (leaf_of int_eq mid.leaves) old.nodes c awaits.leaf absent awaits.learns.here awaits.learns.others
          (subst (HasHomes (leaf_of int_eq old.leaves) old.nodes) idle whole.homes));
    }

    pub whole-awaiting : IsWhole old → leaf_of int_eq old.leaves c.number ≡ None → IsBox D c.rect → IsWhole mid
    whole-awaiting whole absent box = subst IsWhole (sym awaits.rest) (whole-spelled whole absent box)

    -- one row more
    pub rows-spelled : (test : Cell D → Bool) →
        count_rows test old.nodes mid.pending.items ≡ count_rows test old.nodes old.pending.items + cond (test c) 1 0
    rows-spelled test =
        let p = ap (λ ws. count_by test (pending_rows ws)) waits-alone in
        let q = ap (λ ws. count_by test (pending_rows ws)) idle in
        let one = count-cons test c [] in
        omega (arith, p, q, one)

    pub rows-awaiting : row_count mid ≡ row_count old + 1
    rows-awaiting = ap row_count awaits.rest ∙ rows-spelled (λ x. true)

    pub room-awaiting : HasRoom old (row_count old + 1) → HasRoom mid (row_count mid)
    room-awaiting room =
        subst (λ t. HasRoom t (row_count mid)) (sym awaits.rest)
        (subst (λ n. HasRoom awaiting_arena n) (sym rows-awaiting) (record { nodes = room.nodes; keys = room.keys }))

    pub waits-one : vec_len mid.pending ≡ 1
    waits-one = omega (arith, ap length waits-alone)

-- what the keys alone tell
pub known-by_keys : {K V : Type 0} (test : K → Bool) (es fs : List (K × V)) → map (λ e. e.0) es ≡ map (λ e. e.0) fs → is_some (lookup test es) ≡ is_some (lookup test fs)
known-by_keys test [] [] same = refl
known-by_keys test [] (f ∷ fs) same = let long = ap length same in absurd (omega arith)
known-by_keys test (e ∷ es) [] same = let long = ap length same in absurd (omega arith)
known-by_keys {K} {V} test (e ∷ es) (f ∷ fs) same =
    by (test e.0) (test f.0) (ap (λ ks. test (get_or ks 0 f.0)) same) (known-by_keys test es fs (ap (drop 1) same))
  where
    by : (p q : Bool) → p ≡ q → is_some (lookup test es) ≡ is_some (lookup test fs) →
        is_some (cond p (Some e.1) (lookup test es)) ≡ is_some (cond q (Some f.1) (lookup test fs))
    by true true same_test rest = refl
    by true false same_test rest = absurd (true≢false same_test)
    by false true same_test rest = absurd (true≢false (sym same_test))
    by false false same_test rest = rest

module _ {S : Type 0} where
  -- the ids after the pending cells were placed
  pub gains-id : (old mid new : IndexMap ℤ ℕ S) (id : ℤ) (leaf : ℕ) → Learns old mid id leaf → KeepsIds mid new → GainsId old new id
  gains-id old mid new id leaf learns keeps =
      let known : (other : ℤ) → is_some (leaf_of int_eq new other) ≡ is_some (leaf_of int_eq mid other) = λ other. known-by_keys (int_eq other) new.entries mid.entries keeps.ids in
      record {
        here = known id ∙ ap is_some learns.here;
        others = λ other differs.
            let same = known other ∙ ap is_some (learns.others other differs) in
            ((λ some. sym same ∙ some), (λ some. same ∙ some));
        len = let p = learns.len in let q = keeps.len in omega arith;
        room = let p = learns.room in let q = keeps.room in omega arith;
      }

-- A tree after its root was split.
use Rattle.std.proofs.Common.{◌≡◌, ◌≢◌, ℕ, suc, ◌+◌, ◌≤◌, unsigned_abs, [], ◌∷◌, ◌++◌, length, get_or, set, Some, arith, refl, ap, ◌∙◌, sym, subst, inl, inr}
use Rattle.std.proofs.lemmas.Option.{same_Some}
use Rattle.std.proofs.lemmas.List.{get_or_default}
use Rattle.slab.specs.Slab.{Slab, get}
use Rattle.rt_tree_choice.specs.Split.{IsBestCut, first_group, second_group}
use Rattle.rt_tree_node.specs.declared.arena.Arena.{Arena}
use Rattle.rt_tree_node.specs.declared.arena.Work.{Work}
use Rattle.rt_tree_node.specs.Node.{NodeCells}
use Rattle.rt_tree_node.specs.Places.{key_of, picked, rects, times_named, no_cell, cells_of, cells_at, level_at}
use Rattle.rt_tree_node.specs.Homes.{KeepsIds}
use Rattle.rt_tree_node.specs.Whole.{IsSound, IsWhole}
use Rattle.rt_tree_place.specs.Rise.{Raises, Grows}
use Rattle.rt_tree_place.specs.Steps.{Refits, IsPair, Divides, Relieves, IsRising, Lifts}
use Rattle.rt_tree_place.proofs.Closed.{whole-at_root}
use Rattle.rt_tree_place.proofs.Lifted.{apart, rising-pair, mid-once, lifted}
use Rattle.rt_tree_place.proofs.Refitted.{named-at_once}
use Rattle.rt_tree_place.proofs.Relieved.{relieved-divided, treats-divided}

module _ {D : ℕ} (t : Arena D) (rising : IsRising t t.root) where
  pub root-stays : (work : Work) → length (cells_at t.nodes t.root) ≤ t.capacity → Grows t t work work
  root-stays work fits = record {
    whole = whole-at_root t rising.sound fits;
    rows = λ test. refl;
    ids = record { ids = refl; len = refl; room = refl };
    capacity = refl;
    room = refl;
    pending = refl;
    placements = refl;
    reinsertions = refl;
    split = inl record { fits = fits; same = refl; work_same = refl };
  }

  module _ (above : Arena D) (raises : Raises t above) (full : length (cells_at t.nodes t.root) ≡ t.capacity + 1) where
    pub above-full : length (cells_at above.nodes t.root) ≡ above.capacity + 1
    above-full = let long = ap length raises.cells in let c = raises.capacity in omega arith

    pub above-pair : IsPair above t.root above.root
    above-pair = rising-pair above t.root above.root raises.rising raises.up

    module _ (mid : Arena D) (done : Divides above mid t.root above.root) where
      pub above-relieved : Relieves above mid t.root above.root
      above-relieved = relieved-divided above mid t.root above.root above-pair above-full done

      module _ (b : Slab (NodeCells D)) (n : NodeCells D) (has : get mid.nodes above.root ≡ Some n) (fit : Refits mid.nodes b t.root above.root n) (work work1 : Work)
          (placements : work1.placements ≡ work.placements) (splits : work1.splits ≡ suc work.splits) (reinsertions : work1.reinsertions ≡ work.reinsertions) where
        abbrev new : Arena D
        new = record mid { nodes = b }

        lifts : Lifts above new t.root above.root (suc raises.rising.level) (suc raises.rising.level) work work1
        lifts = lifted above t.root above.root raises.rising raises.up mid above-relieved b n has fit (suc raises.rising.level) (suc raises.rising.level) work work1
            (treats-divided above t.root above.root above-pair mid raises.rising.level (suc raises.rising.level) work work1 (let f = above-full in omega arith) raises.rising.here (omega arith) done
            placements splits reinsertions)

        two : n.cells ≡ raises.cell ∷ done.cell ∷ []
        two = ap cells_of (sym has) ∙ done.appended ∙ ap (λ cs. cs ++ done.cell ∷ []) raises.alone

        first-key : key_of raises.cell ≡ t.root
        first-key = ap unsigned_abs raises.names

        fit-key : key_of fit.cell ≡ t.root
        fit-key = ap unsigned_abs fit.number_is

        at-first : fit.at ≡ 0
        at-first =
            let once = mid-once above t.root above.root raises.rising raises.up mid above-relieved in
            let same = ap (λ s. times_named t.root (cells_of s)) has in
            let long = ap length two in
            named-at_once t.root n.cells fit.at 0 no_cell fit.within (omega arith) (omega arith)
            (ap key_of (get_or_default n.cells fit.at no_cell fit.cell fit.within) ∙ ap unsigned_abs (sym fit.same_number) ∙ fit-key)
            (ap (λ cs. key_of (get_or cs 0 no_cell)) two ∙ first-key)

        top : cells_at b above.root ≡ fit.cell ∷ done.cell ∷ []
        top = ap cells_of fit.nodes.updates.changed ∙ ap (λ i. set n.cells i fit.cell) at-first ∙ ap (λ cs. set cs 0 fit.cell) two

        new-root : new.root ≡ above.root
        new-root = lifts.keeps.root

        new-top : cells_at b new.root ≡ fit.cell ∷ done.cell ∷ []
        new-top = ap (cells_at b) new-root ∙ top

        below-same : (x l : ℕ) → level_at t.nodes x ≡ Some l → x ≢ t.root → cells_at b x ≡ cells_at t.nodes x
        below-same x l e away =
            let kept = raises.others x l e away in
            let low = rising.sound.linked.levels x l e in
            let fresh : x ≢ above.root =
            λ same. let high = same_Some l above.level (sym kept.0 ∙ ap (level_at above.nodes) same ∙ raises.rising.sound.linked.root_level) in absurd (omega (arith, high, low, raises.level)) in
            lifts.others x l kept.0 away fresh ∙ kept.1

        new-whole : IsWhole new
        new-whole =
            let cap = lifts.next.sound.fitted.cap in
            let long = ap length new-top in
            whole-at_root new (subst (λ k. IsSound new (Some k)) (sym new-root) lifts.next.sound) (omega arith)

        pub root-split : Grows t new work work1
        root-split = record {
          whole = new-whole;
          rows = λ test. lifts.keeps.rows test ∙ raises.rows test;
          ids = subst (λ m. KeepsIds m new.leaves) raises.leaves lifts.keeps.ids;
          capacity = lifts.keeps.capacity ∙ raises.capacity;
          room = lifts.keeps.room ∙ raises.room;
          pending = done.pending ∙ raises.pending;
          placements = placements;
          reinsertions = reinsertions;
          split = inr record {
            full = omega (arith, full);
            first = fit.cell;
            second = done.cell;
            parts = record {
              cut = done.parts.cut;
              best = subst (λ m. IsBestCut D (rects (cells_at t.nodes t.root)) m done.parts.cut) raises.capacity
                  (subst (λ cs. IsBestCut D (rects cs) above.capacity done.parts.cut) raises.cells done.parts.best);
              first_is = ap (cells_at b) fit-key ∙ ap cells_of (fit.nodes.updates.others t.root (apart above t.root above.root raises.rising raises.up)) ∙ done.parts.first_is
                  ∙ ap (λ cs. picked cs (first_group (rects cs) done.parts.cut)) raises.cells;
              second_is = ap cells_of (fit.nodes.updates.others (key_of done.cell) done.apart) ∙ done.parts.second_is
                  ∙ ap (λ cs. picked cs (second_group (rects cs) done.parts.cut)) raises.cells;
            };
            height = lifts.keeps.level ∙ raises.level;
            top = new-top;
            others = below-same;
            len = let l = fit.nodes.len in let m = done.len in let k = raises.len in omega arith;
            splits = splits;
          };
        }

-- A node that overflowed, after either treatment.
use Rattle.std.proofs.Common.{◌≡◌, ◌≢◌, ℕ, suc, ◌+◌, ◌<◌, ◌≤◌, [], ◌∷◌, length, Some, vec_capacity, arith, refl, ap, ◌∙◌, sym, subst, inl, inr}
use Rattle.std.proofs.lemmas.Option.{same_Some}
use Rattle.std.proofs.lemmas.List.{map-append}
use Rattle.slab.specs.Slab.{get}
use Rattle.rt_box.specs.Capacity.{least_fill}
use Rattle.rt_tree_node.specs.declared.arena.Arena.{Arena}
use Rattle.rt_tree_node.specs.declared.arena.Work.{Work}
use Rattle.rt_tree_node.specs.Node.{NodeCells}
use Rattle.rt_tree_node.specs.Places.{times_named, numbers, cells_of, level_of, parent_of, level_at, cells_at}
use Rattle.rt_tree_node.specs.Homes.{KeepsIds}
use Rattle.rt_tree_node.proofs.Counts.{count-append}
use Rattle.rt_tree_node.proofs.Places.{names_key}
use Rattle.rt_tree_node.proofs.Links.{same-at}
use Rattle.rt_tree_place.specs.Rules.{ReInserts}
use Rattle.rt_tree_place.specs.Steps.{GivesUp, IsPair, Divides, Relieves, Treats}
use Rattle.rt_tree_place.proofs.Divides.{either_key, decide-either}
use Rattle.rt_tree_place.proofs.Positions.{reinserts-share}
use Rattle.rt_tree_place.proofs.GivenUp.{given-up, rows-given_up, filled-after}

module _ {D : ℕ} (old new : Arena D) (key parent : ℕ) (pair : IsPair old key parent) where
  pub relieved-divided : length (cells_at old.nodes key) ≡ old.capacity + 1 → Divides old new key parent → Relieves old new key parent
  relieved-divided full done = record {
    trims = done.trims;
    kept = omega (arith, done.grown);
    grown = omega (arith, done.grown);
    pending_room = let same = ap (λ w. vec_capacity w) done.pending in omega arith;
    names = λ z.
        let same = ap (times_named z) done.appended in
        omega (arith, same, count-append (names_key z) (cells_at old.nodes parent) (done.cell ∷ []));
    still = λ fits. absurd (omega (arith, full, fits));
  }

  pub relieved-given_up : (n : NodeCells D) → get old.nodes key ≡ Some n → length (cells_at old.nodes key) ≡ old.capacity + 1 → GivesUp old new key n → Relieves old new key parent
  relieved-given_up n has full done =
      let E = either_key key parent in
      let filled = filled-after E (decide-either key parent) old new key n pair.opened (inl refl) has done full in
      let u = done.nodes.updates in
      let m = record n { cells = done.near } in
      let apart : parent ≢ key = λ e. let same = same_Some pair.level (suc pair.level) (sym pair.key_level ∙ ap (level_at old.nodes) (sym e) ∙ pair.parent_level) in omega arith in
      let above = ap (λ s. length (cells_of s)) (u.others parent apart) in
      record {
        trims = record {
          opened = given-up E (decide-either key parent) old new key n pair.opened (inl refl) has done;
          rows = rows-given_up E (decide-either key parent) old new key n pair.opened (inl refl) has done;
          least = filled.0;
          most = filled.1;
          levels = λ x l e. same-at level_of old.nodes new.nodes key n m has u refl x ∙ e;
          parents = λ x l i e f upward. same-at parent_of old.nodes new.nodes key n m has u refl x;
          cells = λ x l e p q. ap cells_of (u.others x p);
          ids = subst (KeepsIds old.leaves) (sym (ap (λ t. t.leaves) done.rest)) record { ids = refl; len = refl; room = refl };
          root = ap (λ t. t.root) done.rest;
          level = ap (λ t. t.level) done.rest;
          capacity = ap (λ t. t.capacity) done.rest;
          room = done.nodes.room;
        };
        kept = omega (arith, above);
        grown = omega (arith, above);
        pending_room = done.pending_room;
        names = λ z. let same = ap (λ s. times_named z (cells_of s)) (u.others parent apart) in omega (arith, same);
        still = λ fits. absurd (omega (arith, full, fits));
      }

module _ {D : ℕ} (old : Arena D) (key parent : ℕ) (pair : IsPair old key parent) where
  -- a node that isn't overfull
  pub relieved-not : least_fill old.capacity ≤ length (cells_at old.nodes key) → length (cells_at old.nodes key) ≤ old.capacity → Relieves old old key parent
  relieved-not least most = record {
    trims = record {
      opened = pair.opened;
      rows = λ test. refl;
      least = least;
      most = most;
      levels = λ x l e. e;
      parents = λ x l i e f upward. refl;
      cells = λ x l e p q. refl;
      ids = record { ids = refl; len = refl; room = refl };
      root = refl;
      level = refl;
      capacity = refl;
      room = refl;
    };
    kept = omega arith;
    grown = omega arith;
    pending_room = omega arith;
    names = λ z. omega arith;
    still = λ fits. refl;
  }

  pub treats-not : (marks : ℕ) (work : Work) → length (cells_at old.nodes key) ≤ old.capacity → Treats old old key parent marks marks work work
  treats-not marks work fits = inl record {
    fits = fits;
    pending = refl;
    leaves = refl;
    len = refl;
    above = refl;
    marks_same = refl;
    placements = refl;
    splits = refl;
    reinsertions = refl;
  }

  pub treats-divided : (new : Arena D) (level marks : ℕ) (work work1 : Work) → old.capacity < length (cells_at old.nodes key) → level_at old.nodes key ≡ Some level → level < marks →
      Divides old new key parent → work1.placements ≡ work.placements → work1.splits ≡ suc work.splits → work1.reinsertions ≡ work.reinsertions →
      Treats old new key parent marks marks work work1
  treats-divided new level marks work work1 full here marked done placements splits reinsertions = inr (inl record {
    full = full;
    level = level;
    here = here;
    marked = marked;
    cell = done.cell;
    parts = done.parts;
    apart = done.apart;
    appended = ap numbers done.appended ∙ map-append (λ c. c.number) (cells_at old.nodes parent) (done.cell ∷ []);
    pending = done.pending;
    len = done.len;
    above = done.grown;
    marks_same = refl;
    placements = placements;
    splits = splits;
    reinsertions = reinsertions;
  })

  pub treats-given_up : (new : Arena D) (n : NodeCells D) (marks marks1 : ℕ) (work work1 : Work) → get old.nodes key ≡ Some n → old.capacity < length (cells_at old.nodes key) →
      marks ≤ n.level → marks1 ≡ suc n.level → GivesUp old new key n → work1.placements ≡ work.placements → work1.splits ≡ work.splits →
      work1.reinsertions ≡ suc work.reinsertions → Treats old new key parent marks marks1 work work1
  treats-given_up new n marks marks1 work work1 has full unmarked marked done placements splits reinsertions =
      let apart : parent ≢ key = λ e. let same = same_Some pair.level (suc pair.level) (sym pair.key_level ∙ ap (level_at old.nodes) (sym e) ∙ pair.parent_level) in omega arith in
      inr (inr record {
        full = full;
        level = n.level;
        here = ap level_of has;
        unmarked = unmarked;
        marked = marked;
        far = done.far;
        chosen = subst (λ s. ReInserts old.capacity (cells_of s) (cells_at new.nodes key) done.far) (sym has)
            (subst (λ s. ReInserts old.capacity n.cells (cells_of s) done.far) (sym done.nodes.updates.changed) done.chosen);
        share = reinserts-share old.capacity n.cells done.near done.far done.chosen (omega (arith, pair.opened.fitted.cap, ap (λ s. length (cells_of s)) has, full));
        pending = done.pending;
        beside = ap (λ s. numbers (cells_of s)) (done.nodes.updates.others parent apart);
        len = done.nodes.len;
        above = ap (λ s. length (cells_of s)) (done.nodes.updates.others parent apart);
        placements = placements;
        splits = splits;
        reinsertions = reinsertions;
      })

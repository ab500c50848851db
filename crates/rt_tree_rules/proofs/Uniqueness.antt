-- A count of placings that leaves nothing waiting gives the same tree as any other such count.
use Rattle.std.proofs.Common.{◌≡◌, ℕ, zero, suc, List, [], ◌∷◌, refl, sym, ap, ◌∙◌, subst}
use Rattle.rt_tree_rules.specs.Nested.{Tree, Waiting}
use Rattle.rt_tree_rules.specs.Placing.{Standing, place, places, start, IsInsertion}
use Rattle.rt_tree_rules.specs.Removing.{take_out, shorten, SettleInTurn}
use Rattle.rt_tree_rules.specs.Laws.{SettlingIsUnique, InsertionIsUnique, RemovalIsUnique, ReplacementIsUnique}

-- nothing happens if nothing waits
pub place_none : (axes capacity : ℕ) (s : Standing) → s.course.waiting ≡ [] → place axes capacity s ≡ s
place_none axes capacity s none = rw none

places_none : (axes capacity n : ℕ) (s : Standing) → s.course.waiting ≡ [] → places axes capacity n s ≡ s
places_none axes capacity zero s none = refl
places_none axes capacity (suc n) s none = rw (place_none axes capacity s none) (places_none axes capacity n s none)

one_end : (axes capacity n m : ℕ) (s : Standing) → (places axes capacity n s).course.waiting ≡ [] → (places axes capacity m s).course.waiting ≡ [] →
    places axes capacity n s ≡ places axes capacity m s
one_end axes capacity zero m s none none_either = sym (places_none axes capacity m s none)
one_end axes capacity (suc n) zero s none none_either = places_none axes capacity (suc n) s none_either
one_end axes capacity (suc n) (suc m) s none none_either = one_end axes capacity n m (place axes capacity s) none none_either

pub settling : SettlingIsUnique
settling axes capacity old one other new first second s t =
    let e = one_end axes capacity s.count t.count (start axes capacity old new) s.none_waits t.none_waits in (
      s.tree_is ∙ ap (λ (x : Standing). x.tree) e ∙ sym t.tree_is,
      s.work_is ∙ ap (λ (x : Standing). x.course.work) e ∙ sym t.work_is,
    )

pub insertion : InsertionIsUnique
insertion axes capacity old one other row first second s t =
    settling axes capacity old one other record { level = 0; entry = row } first second s t

in_turn : (axes capacity : ℕ) (ws : List Waiting) (old one other : Tree) → SettleInTurn axes capacity old ws one →
    SettleInTurn axes capacity old ws other → one ≡ other
in_turn axes capacity [] old one other s t = s ∙ sym t
in_turn axes capacity (w ∷ ws) old one other s t =
    let e = (settling axes capacity old s.0 t.0 w s.1 t.1 s.2 t.2).0 in
    in_turn axes capacity ws t.0 one other (subst (λ (between : Tree). SettleInTurn axes capacity between ws one) e s.3) t.3

pub removal : RemovalIsUnique
removal axes capacity old one other id s t =
    let thinned = take_out capacity old.level id old.root in
    let e = in_turn axes capacity thinned.orphans record { level = old.level; root = thinned.node } s.settled t.settled s.settle t.settle in
    s.shortened ∙ ap (λ (x : Tree). shorten x.level x.root) e ∙ sym t.shortened

pub replacement : ReplacementIsUnique
replacement axes capacity old one other row first second s t =
    let e = removal axes capacity old s.between t.between row.id s.removal t.removal in
    insertion axes capacity t.between one other row first second
    (subst (λ (between : Tree). IsInsertion axes capacity between row one first) e s.insertion) t.insertion

-- What a search finds, said of the tree from outside.
use Rattle.std.proofs.Common.{◌≡◌, ℕ, suc, ◌<◌, ℤ, List, map, get_or, Contains, Some, nat_eq, eq-eqb, ne_eqb, refl, ap, sym, ◌∙◌, subst, inl, inr}
use Rattle.std.specs.List.{count_by}
use Rattle.std.specs.Ordering.{int_eq}
use Rattle.std.proofs.lemmas.Bool.{cases_eq, cases_Bool}
use Rattle.std.proofs.lemmas.Bool.Decides.{Decides-int_eq}
use Rattle.std.proofs.lemmas.Option.{same_Some}
use Rattle.std.proofs.lemmas.List.{length-map}
use Rattle.rt_box.specs.declared.interval.Interval.{Interval}
use Rattle.rt_box.specs.Window.{MayHold}
use Rattle.rt_check.specs.declared.node.RawCell.{RawCell}
use Rattle.rt_tree_node.specs.declared.arena.Arena.{Arena}
use Rattle.rt_tree_node.specs.declared.cell.Cell.{Cell}
use Rattle.rt_tree_node.specs.Places.{key_of, cells_at, level_at}
use Rattle.rt_tree_node.specs.Sound.{NamesChild}
use Rattle.rt_tree_node.proofs.Counts.{count-some}
use Rattle.rt_tree_walk.specs.declared.searching.Row.{Row}
use Rattle.rt_tree_walk.specs.Search.{times, IsReached, Finds, Counts}
use Rattle.rt_tree_outside.specs.Outside.{cell_row, outside}
use Rattle.rt_tree_outside.specs.InOrder.{cells_of_number}
use Rattle.rt_tree_walk.proofs.Reaching.{All_contained, counted-contained}
use Rattle.rt_tree_walk.proofs.Judging.{count-mapped}
use Rattle.rt_tree_walk.proofs.Progress.{IsSettled}
use Rattle.rt_tree_outside.proofs.Flawless.{numbering}
use Rattle.rt_tree.specs.Lists.{level_of_number, box_in}
use Rattle.rt_tree.specs.Search.{IsReachedIn, FindsIn, CountsIn}
use Rattle.rt_tree.proofs.Members.{contains-map, contains-mapped}
use Rattle.rt_tree.proofs.Rows.{intervals-back, rows-counted}
use Rattle.rt_tree.proofs.Reading.{number, level-read, cells-read}

module _ {D : ℕ} (t : Arena D) (s : IsSettled t) (window : List Interval) where
  box-back : (l : ℕ) (c : Cell D) → box_in (cell_row (number t) l c) ≡ c.rect
  box-back l c = intervals-back c.rect

  reached-there : (k : ℕ) → IsReached t window k → (l : ℕ) × (level_at t.nodes k ≡ Some l)
  reached-there k IsReached.root = (t.level, s.whole.linked.root_level)
  reached-there k (IsReached.child {key = key} l up lev leads) =
      let child = All_contained (NamesChild t.nodes l key) (cells_at t.nodes key) leads.0 (s.whole.linked.children key l lev) leads.1 in
      (l, ap (level_at t.nodes) (sym leads.2) ∙ child.names.level_is)

  reached-in : (k : ℕ) → IsReached t window k → IsReachedIn (outside t) window (number t k)
  reached-in k IsReached.root = let is = numbering t s in subst (IsReachedIn (outside t) window) (sym is.first) IsReachedIn.root
  reached-in k (IsReached.child {key = key} l up lev leads) =
      let c = leads.0 in
      let there : Contains (cells_of_number (outside t).nodes (number t key)) (cell_row (number t) (suc l) c) =
      subst (λ (cs : List (RawCell D)). Contains cs (cell_row (number t) (suc l) c)) (sym (cells-read t s key (suc l) lev))
      (contains-map (cell_row (number t) (suc l)) (cells_at t.nodes key) c leads.1) in
      let may : MayHold D window (box_in (cell_row (number t) (suc l) c)) = subst (MayHold D window) (sym (box-back (suc l) c)) leads.3 in
      let next : IsReachedIn (outside t) window (number t (key_of c)) =
      IsReachedIn.child l (cell_row (number t) (suc l) c) (reached-in key up) (level-read t s key (suc l) lev) there may in
      subst (λ (j : ℕ). IsReachedIn (outside t) window (number t j)) leads.2 next

  key-reached : (n : ℤ) → IsReachedIn (outside t) window n → (k : ℕ) × IsReached t window k × (number t k ≡ n)
  key-reached n IsReachedIn.root = let is = numbering t s in (t.root, IsReached.root, is.first)
  key-reached n (IsReachedIn.child {number = m} l c up lev there may) =
      let above = key-reached m up in
      let k = above.0 in
      let node = reached-there k above.1 in
      let same : node.0 ≡ suc l = same_Some node.0 (suc l) (sym (level-read t s k node.0 node.1) ∙ ap (level_of_number (outside t)) above.2 ∙ lev) in
      let high : level_at t.nodes k ≡ Some (suc l) = node.1 ∙ ap Some same in
      let cells : cells_of_number (outside t).nodes m ≡ map (cell_row (number t) (suc l)) (cells_at t.nodes k) =
      ap (cells_of_number (outside t).nodes) (sym above.2) ∙ cells-read t s k (suc l) high in
      let found = contains-mapped (cell_row (number t) (suc l)) (cells_at t.nodes k) c (subst (λ (cs : List (RawCell D)). Contains cs c) cells there) in
      let box : box_in c ≡ found.0.rect = ap box_in (sym found.2) ∙ box-back (suc l) found.0 in
      (key_of found.0, IsReached.child l above.1 high (found.0, found.1, refl, subst (MayHold D window) box may), ap (λ (x : RawCell D). x.number) found.2)

  count-numbers : (k l : ℕ) → level_at t.nodes k ≡ Some l → (keys : List ℕ) → count_by (int_eq (number t k)) (map (number t) keys) ≡ times k keys
  count-numbers k l at keys = count-mapped (int_eq (number t k)) (number t) (λ j. nat_eq j k) keys (λ i d h. same (get_or keys i d))
    where
      same : (j : ℕ) → int_eq (number t k) (number t j) ≡ nat_eq j k
      same j = elim (cases_eq j k) [
        | inl e ↦ (Decides-int_eq (number t k) (number t j)).1 (ap (number t) (sym e)) ∙ sym (eq-eqb j k e)
        | inr ne ↦ elim (cases_Bool (int_eq (number t k) (number t j))) [
          | inl e ↦ let is = numbering t s in absurd (ne (is.apart k j (l, at) ((Decides-int_eq (number t k) (number t j)).0 e)))
          | inr e ↦ e ∙ sym (ne_eqb j k ne)
        ]
      ]

  pub finds-in : (rows : List (Row D)) (visited : ℕ) → Finds t window rows visited → FindsIn (outside t) window rows visited
  finds-in rows visited f = record {
    admitted = f.admitted;
    each = λ test asks. f.each test asks ∙ sym (rows-counted t s test);
    numbers = map (number t) f.nodes;
    once = λ n is.
        let h = key-reached n is in
        let node = reached-there h.0 h.1 in
        ap (λ m. count_by (int_eq m) (map (number t) f.nodes)) (sym h.2) ∙ count-numbers h.0 node.0 node.1 f.nodes ∙ f.once h.0 h.1;
    only = λ n some.
        let m = counted-contained (int_eq n) (map (number t) f.nodes) some in
        let k = contains-mapped (number t) f.nodes m.0 m.1 in
        let listed : 0 < times k.0 f.nodes = count-some (λ j. nat_eq j k.0) f.nodes k.1.0 k.0 k.1.1 (eq-eqb (get_or f.nodes k.1.0 k.0) k.0 k.1.2) in
        let same : number t k.0 ≡ n = k.2 ∙ sym ((Decides-int_eq n m.0).0 m.2) in
        subst (IsReachedIn (outside t) window) same (reached-in k.0 (f.only k.0 listed));
    counted = f.counted ∙ sym (length-map f.nodes (number t));
  }

  pub counts-back : (count : ℕ) → CountsIn (outside t) window count → Counts t window count
  counts-back count f = record { rows = f.rows; admitted = f.admitted; each = λ test asks. f.each test asks ∙ rows-counted t s test; counted = f.counted }

  pub counts-in : (count : ℕ) → Counts t window count → CountsIn (outside t) window count
  counts-in count f = record { rows = f.rows; admitted = f.admitted; each = λ test asks. f.each test asks ∙ sym (rows-counted t s test); counted = f.counted }

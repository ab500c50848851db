-- Where there is room for what is found and told, and how much of it an edit uses up.
use Rattle.std.proofs.Common.{◌≡◌, ℕ, zero, suc, ◌+◌, ◌<◌, ◌≤◌, Bool, true, false, cond, ◌||◌, not, ℤ, List, [], ◌∷◌, length, Option, None, Some, Result, Ok, Err, is_ok, IsOk, IsErr, OnOk, OnErr, arith, refl, ap, sym, ◌∙◌, subst, inl, inr, vec_capacity}
use Rattle.std.specs.Prelude.{◌*◌, ◌/◌, ◌-◌, int_lt, filter, min}
use Rattle.std.specs.List.{count_by}
use Rattle.std.specs.Ordering.{int_eq}
use Rattle.std.proofs.Math.Nat.{div-lt_iff_lt-mul}
use Rattle.std.proofs.lemmas.Nat.{mul-le}
use Rattle.std.proofs.lemmas.List.{length-append}
use Rattle.std.proofs.lemmas.List.Sums.{count_by-le-length}
use Rattle.rt_box.specs.Capacity.{least_fill}
use Rattle.rt_box.specs.declared.interval.Interval.{Interval}
use Rattle.rt_tree_node.proofs.Counts.{count-cons}
use Rattle.rt_check.specs.Shadow.{ShadowLists}
use Rattle.rt_tree_walk.specs.declared.searching.Row.{Row}
use Rattle.rt_tree.specs.Lists.{rows_of}
use Rattle.rt_live.specs.declared.finding.Scratch.{Scratch}
use Rattle.rt_live.specs.declared.live.Live.TheInside.{Inside}
use Rattle.rt_live.specs.Rows.{with_box, by_id}
use Rattle.rt_live.specs.Changes.{touches}
use Rattle.rt_live.specs.Finding.{is_new, Appends}
use Rattle.rt_live.specs.Live.{LiveState}
use Rattle.rt_live.specs.LiveInside.{least_of, state_of}
use Rattle.rt_live.specs.Room.{around, used, UsesRoom, Grows, HasRoomAround}
use Rattle.rt_live.proofs.Counting.{filter-long, count-whole, count-all, count-le, or-left, or-right, either-parts}
use Rattle.rt_live.proofs.Order.{lt_above, lt_same, three_ways}
use Rattle.rt_live.proofs.Found.{count-either}

-- a call that only fails for a reason succeeds without it
pub ok-without : {T E P : Type 0} (r : Result T E) → OnErr r P → (P → ⊥) → IsOk r
ok-without (Ok x) h never = refl
ok-without (Err y) h never = absurd (never h)

pub err-without : {T E P : Type 0} (r : Result T E) → IsErr r → P → OnErr r P
err-without (Ok x) e p = tt
err-without (Err y) e p = p

pub err-not-ok : {T E : Type 0} (r : Result T E) (y : E) → r ≡ Err y → IsOk r → ⊥
err-not-ok r y e ok = let bad : false ≡ true = sym (ap is_ok e) ∙ ok in let none : ⊥ = cc in none

pub when-ok : {T E P : Type 0} (r : Result T E) → OnOk r P → IsOk r → P
when-ok (Ok x) h ok = h
when-ok (Err y) h ok = absurd (let none : ⊥ = cc in none)

-- ---- the nodes that a search reaches
pub below-product : (rows reached most nodes : ℕ) → rows < reached * most → nodes ≤ 1 + rows / most → nodes ≤ reached
below-product rows reached zero nodes h few = absurd (omega (arith, h))
below-product rows reached (suc k) nodes h few =
    let less : rows / suc k < reached = (div-lt_iff_lt-mul {k = suc k} {x = rows} {y = reached} (omega arith)).1 h in
    omega (arith, less, few)

pub more-reached : (rows reached more least most : ℕ) → rows < reached * (least - 1) → reached ≤ more → least ≤ most → rows < more * (most - 1)
more-reached rows reached more least most h grows le = omega (arith, h, mul-le reached (least - 1) more (most - 1) grows (omega arith))

-- ---- a box set in a list
few-sides : (a b : Bool) → a ≡ false → ◌≤◌ (cond a 1 0 + cond b 1 0) 1
few-sides a true e = let none : ◌≡◌ {A = ℕ} (cond a 1 0) 0 = ap (λ x. cond x 1 0) e in omega (arith, none)
few-sides a false e = let none : ◌≡◌ {A = ℕ} (cond a 1 0) 0 = ap (λ x. cond x 1 0) e in omega (arith, none)

one-side : (a b : ℤ) → ◌≤◌ (cond (int_lt a b) 1 0 + cond (int_lt b a) 1 0) 1
one-side a b = elim (three_ways a b) [
  | inl below ↦ let h = few-sides (int_lt b a) (int_lt a b) (lt_above b a below) in omega (arith, h)
  | inr rest ↦ elim rest [
    | inl same ↦ few-sides (int_lt a b) (int_lt b a) (ap (λ x. int_lt a x) (sym same) ∙ lt_same a)
    | inr above ↦ few-sides (int_lt a b) (int_lt b a) (lt_above a b above)
  ]
]

count-apart : {X : Type 0} (p q : X → Bool) → ((x : X) → ◌≤◌ (cond (p x) 1 0 + cond (q x) 1 0) 1) → (xs : List X) → count_by p xs + count_by q xs ≤ length xs
count-apart p q each [] = omega arith
count-apart p q each (x ∷ xs) = omega (arith, each x, count-cons p x xs, count-cons q x xs, count-apart p q each xs)

module _ {D : ℕ} where
  -- lists that grew have room too
  pub room-grows : (s : ShadowLists D) (was is : Option (List Interval)) (old new : Scratch D) → Grows old new → HasRoomAround s was is old → HasRoomAround s was is new
  room-grows s was is old new grows room = record {
    found = omega (arith, grows.found, room.found);
    last = omega (arith, grows.last, room.last);
    reached = omega (arith, grows.reached, room.reached);
  }

  pub appended-long : (rows : List (Row D)) (pass : Row D → Bool) (old new : List (Row D)) → Appends rows pass old new → length new ≡ length old + count_by pass rows
  appended-long rows pass old new so = omega (arith, so.each (λ r. true), count-all new, count-all old, count-whole pass rows)

  module _ (was is : Option (List Interval)) (rows : List (Row D)) where
    -- those around a box, and then those around the other one alone
    pub around-parts : around was is rows ≡ count_by (is_new was None) rows + count_by (is_new is was) rows
    around-parts =
        count-either (is_new was None) (is_new is was) (λ r. touches was r.rect || touches is r.rect) rows (λ r. either-parts (touches was r.rect) (touches is r.rect))

    pub first-few : count_by (λ r. touches was r.rect) rows ≤ around was is rows
    first-few = count-le (λ r. touches was r.rect) (λ r. touches was r.rect || touches is r.rect) (λ r. or-left (touches was r.rect) (touches is r.rect)) rows

    pub second-few : count_by (λ r. touches is r.rect) rows ≤ around was is rows
    second-few = count-le (λ r. touches is r.rect) (λ r. touches was r.rect || touches is r.rect) (λ r. or-right (touches was r.rect) (touches is r.rect)) rows

  -- a list in which a box was set is one row longer at most
  pub with_box-long : (rows : List (Row D)) (id : ℤ) (is : Option (List Interval)) → length (with_box rows id is) ≤ length rows + used is
  with_box-long rows id None = let others = λ (r : Row D). not (int_eq id r.id) in omega (arith, filter-long others rows, count_by-le-length others rows)
  with_box-long rows id (Some rect) =
      let below = λ (r : Row D). int_lt r.id id in
      let above = λ (r : Row D). int_lt id r.id in
      let long = length-append (filter below rows) (record { id = id; rect = rect } ∷ filter above rows) in
      omega (arith, long, filter-long below rows, filter-long above rows, count-apart below above (λ r. one-side r.id id) rows)

  -- ---- what an edit uses up
  pub uses-room : (old new : LiveState D) (rows windows : ℕ) → old.row_room ≤ new.row_room + rows → old.window_room ≤ new.window_room + windows →
      old.change_room ≤ new.change_room → old.search_room ≤ new.search_room →
      length new.lists.rows ≤ length old.lists.rows + rows → length new.lists.windows ≤ length old.lists.windows + windows → UsesRoom old new rows windows
  uses-room old new rows windows a b c d e f = λ r w m room. record {
    rows_fit = omega (arith, a, room.rows_fit);
    windows_fit = omega (arith, b, room.windows_fit);
    changes_fit = omega (arith, c, room.changes_fit);
    rows_reached = omega (arith, d, e, room.rows_reached);
    windows_reached = omega (arith, d, f, room.windows_reached);
  }

  -- nothing was used up
  pub uses-none : (v : LiveState D) (rows windows : ℕ) → UsesRoom v v rows windows
  uses-none v rows windows = uses-room v v rows windows (omega arith) (omega arith) (omega arith) (omega arith) (omega arith) (omega arith)

  -- the lists for changes and searches have no less room, be it that the two lists of changes were swapped
  pub record GrowsInside (i j : Inside D) : Type 0 where
    pub changes : min (vec_capacity i.changes) (vec_capacity i.planned) ≤ min (vec_capacity j.changes) (vec_capacity j.planned)
    pub scratch : Grows i.scratch j.scratch
    pub rows : j.rows.lists.capacity ≡ i.rows.lists.capacity
    pub windows : j.windows.lists.capacity ≡ i.windows.lists.capacity

  searches-more : (i j : Inside D) → GrowsInside i j → (state_of i).search_room ≤ (state_of j).search_room
  searches-more i j more =
      let least : least_of i ≡ least_of j =
      ap (λ x. min (least_fill x) (least_fill i.windows.lists.capacity)) (sym more.rows) ∙ ap (λ x. min (least_fill j.rows.lists.capacity) (least_fill x)) (sym more.windows) in
      mul-le (vec_capacity i.scratch.reached) (least_of i - 1) (vec_capacity j.scratch.reached) (least_of j - 1) more.scratch.reached (omega (arith, least))

  tells-more : (i j : Inside D) → GrowsInside i j → (state_of i).change_room ≤ (state_of j).change_room
  tells-more i j more = omega (arith, more.changes, more.scratch.found, more.scratch.last)

  pub inside-uses : (i j : Inside D) (v : LiveState D) (is : state_of i ≡ v) (rows windows : ℕ) → GrowsInside i j →
      i.rows.spare ≤ j.rows.spare + rows → i.windows.spare ≤ j.windows.spare + windows →
      length (by_id (rows_of j.rows.lists)) ≤ length (by_id (rows_of i.rows.lists)) + rows →
      length (by_id (rows_of j.windows.lists)) ≤ length (by_id (rows_of i.windows.lists)) + windows → UsesRoom v (state_of j) rows windows
  inside-uses i j v is rows windows more a b c d =
      subst (λ (u : LiveState D). UsesRoom u (state_of j) rows windows) is (uses-room (state_of i) (state_of j) rows windows a b (tells-more i j more) (searches-more i j more) c d)

  -- no tree and no list has less room
  pub inside-keeps : (i j : Inside D) (v : LiveState D) (is : state_of i ≡ v) → j.rows.lists ≡ i.rows.lists → j.windows.lists ≡ i.windows.lists →
      i.rows.spare ≤ j.rows.spare → i.windows.spare ≤ j.windows.spare →
      vec_capacity i.changes ≤ vec_capacity j.changes → vec_capacity i.planned ≤ vec_capacity j.planned →
      vec_capacity i.scratch.found ≤ vec_capacity j.scratch.found → vec_capacity i.scratch.last ≤ vec_capacity j.scratch.last →
      vec_capacity i.scratch.reached ≤ vec_capacity j.scratch.reached → UsesRoom v (state_of j) 0 0
  inside-keeps i j v is rows windows a b changes planned found last reached =
      let rows_long = ap (λ (s : ShadowLists D). length (by_id (rows_of s))) rows in
      let windows_long = ap (λ (s : ShadowLists D). length (by_id (rows_of s))) windows in
      let more : GrowsInside i j = record {
        changes = omega (arith, changes, planned);
        scratch = record { found = found; last = last; reached = reached };
        rows = ap (λ (s : ShadowLists D). s.capacity) rows;
        windows = ap (λ (s : ShadowLists D). s.capacity) windows;
      } in
      inside-uses i j v is 0 0 more (omega (arith, a)) (omega (arith, b)) (omega (arith, rows_long)) (omega (arith, windows_long))

-- What a search takes from a node, cell by cell.
use Rattle.std.proofs.Common.{◌≡◌, ℕ, Bool, ◌+◌, ◌<◌, ◌≤◌, List, [], ◌∷◌, ◌++◌, length, map, get_or, take, drop, append_assoc, append-nil, arith, refl, ap, sym, ◌∙◌, subst, inl, inr}
use Rattle.std.specs.List.{All, count_by}
use Rattle.std.proofs.lemmas.Bool.{cases_Bool, cases_eq}
use Rattle.std.proofs.lemmas.List.{take_more, drop-append-le, get_or_default, get_or-map}
use Rattle.std.proofs.lemmas.List.Elements.{All-nil, All-cons, All-map, All-push}
use Rattle.slab.proofs.SlabLemmas.{Contains-cons, Contains-cons_cases}
use Rattle.rt_box.specs.declared.interval.Interval.{Interval}
use Rattle.rt_box.specs.Window.{Admits, MayHold}
use Rattle.rt_tree_node.specs.declared.cell.Cell.{Cell}
use Rattle.rt_tree_node.specs.Places.{key_of, times_named}
use Rattle.rt_tree_node.proofs.Counts.{count-append, count-cons, count-one_no}
use Rattle.rt_tree_node.proofs.Places.{names_key}
use Rattle.rt_tree_walk.specs.declared.searching.Row.{Row}
use Rattle.rt_tree_walk.specs.Search.{times, row_of, LeadsInto}
use Rattle.rt_tree_walk.specs.Visits.{TakesRows, TakesChildren}
use Rattle.rt_tree_walk.proofs.Totals.{times-cons, times-one, times-other}

module _ {D : ℕ} where
  -- the cell whose box was read
  pub record IsNext (cells : List (Cell D)) (at : ℕ) (rect : List Interval) (c : Cell D) : Type 0 where
    pub rect_is : rect ≡ c.rect
    pub read : (d : Cell D) → get_or cells at d ≡ c
    pub taken : take (at + 1) cells ≡ take at cells ++ c ∷ []

  pub cell-next : (cells : List (Cell D)) (boxes : List (List Interval)) (at : ℕ) (rect : List Interval) → boxes ≡ map (λ c. c.rect) cells →
      at < length cells → rect ≡ get_or boxes at rect → (c : Cell D) × IsNext cells at rect c
  cell-next [] boxes at rect e h r = absurd (omega arith)
  cell-next (c ∷ cs) boxes at rect e h r = (
    get_or (c ∷ cs) at c,
    record {
      rect_is = r ∙ ap (λ bs. get_or bs at rect) e ∙ get_or-map (λ x. x.rect) (c ∷ cs) at c rect h;
      read = λ d. get_or_default (c ∷ cs) at d c h;
      taken = take_more (c ∷ cs) at c h;
    },
  )

  rows-taken : (window : List Interval) (xs : List (Cell D)) (c : Cell D) (old new1 : List (Row D)) → TakesRows window xs old new1 →
      (new2 : List (Row D)) → Admits window c.rect → new2 ≡ new1 ++ row_of c ∷ [] → TakesRows window (xs ++ c ∷ []) old new2
  rows-taken window xs c old new1 so new2 admits e = record {
    more = so.more ++ row_of c ∷ [];
    is = e ∙ ap (λ rs. rs ++ row_of c ∷ []) so.is ∙ append_assoc old so.more (row_of c ∷ []);
    admitted = All-push (λ r. Admits window r.rect) so.more (row_of c) so.admitted admits;
    each = λ test asks.
        let a = count-append test so.more (row_of c ∷ []) in
        let b = count-append (λ x. test (row_of x)) xs (c ∷ []) in
        let d : count_by test (row_of c ∷ []) ≡ count_by (λ x. test (row_of x)) (c ∷ []) = refl in
        omega (arith, a, b, d, so.each test asks);
  }

  rows-kept : (window : List Interval) (xs : List (Cell D)) (c : Cell D) (old new1 : List (Row D)) → TakesRows window xs old new1 →
      (Admits window c.rect → ⊥) → TakesRows window (xs ++ c ∷ []) old new1
  rows-kept window xs c old new1 so refuses = record {
    more = so.more;
    is = so.is;
    admitted = so.admitted;
    each = λ test asks.
        let b = count-append (λ x. test (row_of x)) xs (c ∷ []) in
        let d : count_by (λ x. test (row_of x)) (c ∷ []) ≡ 0 = elim (cases_Bool (test (row_of c))) [
          | inl holds ↦ absurd (refuses (asks (row_of c) holds))
          | inr fails ↦ count-one_no (λ x. test (row_of x)) c fails
        ] in
        omega (arith, b, d, so.each test asks);
  }

  pub TakesRows-none : (window : List Interval) (old : List (Row D)) → TakesRows window [] old old
  TakesRows-none window old = record { more = []; is = sym (append-nil old); admitted = All-nil (λ r. Admits window r.rect); each = λ test asks. refl }

  pub TakesRows-takes : (window : List Interval) (cells : List (Cell D)) (at : ℕ) (rect : List Interval) (c : Cell D) (old new1 new2 : List (Row D)) →
      IsNext cells at rect c → TakesRows window (take at cells) old new1 → Admits window rect → new2 ≡ new1 ++ row_of c ∷ [] →
      TakesRows window (take (at + 1) cells) old new2
  TakesRows-takes window cells at rect c old new1 new2 next so admits e =
      let P : List (Cell D) → Type 0 = λ xs. TakesRows window xs old new2 in
      subst P (sym next.taken) (rows-taken window (take at cells) c old new1 so new2 (subst (Admits window) next.rect_is admits) e)

  pub TakesRows-keeps : (window : List Interval) (cells : List (Cell D)) (at : ℕ) (rect : List Interval) (c : Cell D) (old new1 : List (Row D)) →
      IsNext cells at rect c → TakesRows window (take at cells) old new1 → (Admits window rect → ⊥) → TakesRows window (take (at + 1) cells) old new1
  TakesRows-keeps window cells at rect c old new1 next so refuses =
      let P : List (Cell D) → Type 0 = λ xs. TakesRows window xs old new1 in
      subst P (sym next.taken) (rows-kept window (take at cells) c old new1 so (λ admits. refuses (subst (Admits window) (sym next.rect_is) admits)))

  -- a cell more in front, whose row is taken, or which the window refuses
  pub TakesRows-front : (window : List Interval) (cs : List (Cell D)) (c : Cell D) (new : List (Row D)) → TakesRows window cs [] new → Admits window c.rect →
      TakesRows window (c ∷ cs) [] (row_of c ∷ new)
  TakesRows-front window cs c new so admits = record {
    more = row_of c ∷ so.more;
    is = ap (λ rs. row_of c ∷ rs) so.is;
    admitted = All-cons (λ r. Admits window r.rect) (row_of c) so.more admits so.admitted;
    each = λ test asks. omega (arith, count-cons test (row_of c) so.more, count-cons (λ x. test (row_of x)) c cs, so.each test asks);
  }

  pub TakesRows-skips : (window : List Interval) (cs : List (Cell D)) (c : Cell D) (new : List (Row D)) → TakesRows window cs [] new →
      (Admits window c.rect → ⊥) → TakesRows window (c ∷ cs) [] new
  TakesRows-skips window cs c new so refuses = record {
    more = so.more;
    is = so.is;
    admitted = so.admitted;
    each = λ test asks.
        let none : count_by (λ x. test (row_of x)) (c ∷ []) ≡ 0 = elim (cases_Bool (test (row_of c))) [
          | inl holds ↦ absurd (refuses (asks (row_of c) holds))
          | inr fails ↦ count-one_no (λ x. test (row_of x)) c fails
        ] in
        omega (arith, none, count-append (λ x. test (row_of x)) (c ∷ []) cs, so.each test asks);
  }

  -- behind the rows that were there before
  pub TakesRows-behind : (window : List Interval) (cells : List (Cell D)) (old new more : List (Row D)) → TakesRows window cells [] more →
      new ≡ old ++ more → TakesRows window cells old new
  TakesRows-behind window cells old new more so e =
      record { more = so.more; is = e ∙ ap (λ rs. old ++ rs) so.is; admitted = so.admitted; each = so.each }

  rows-counted : (test : Row D → Bool) (cells : List (Cell D)) → count_by test (map row_of cells) ≡ count_by (λ c. test (row_of c)) cells
  rows-counted test [] = refl
  rows-counted test (c ∷ cs) =
      omega (arith, count-cons test (row_of c) (map row_of cs), count-cons (λ x. test (row_of x)) c cs, rows-counted test cs)

  -- the rows of all cells, where the window admits them all
  pub TakesRows-all : (window : List Interval) (cells : List (Cell D)) (old new : List (Row D)) → All (λ c. Admits window c.rect) cells →
      new ≡ old ++ map row_of cells → TakesRows window cells old new
  TakesRows-all window cells old new all e = record {
    more = map row_of cells;
    is = e;
    admitted = All-map (λ (r : Row D). Admits window r.rect) row_of cells all;
    each = λ test asks. rows-counted test cells;
  }

  -- ---- children
  pub TakesChildren-none : (window : List Interval) (old : List ℕ) → TakesChildren {D = D} window [] old old
  TakesChildren-none window old = record {
    more = [];
    is = sym (append-nil old);
    each = λ key. omega arith;
    named = λ key some. absurd (omega arith);
    all = λ key leads. absurd (omega (arith, leads.1.1));
  }

  leads-later : (window : List Interval) (c : Cell D) (cs : List (Cell D)) (key : ℕ) → LeadsInto window cs key → LeadsInto window (c ∷ cs) key
  leads-later window c cs key h = (h.0, Contains-cons c h.0 cs h.1, h.2, h.3)

  -- a cell more in front, whose child is taken, or in which the window can't hold a box
  pub TakesChildren-front : (window : List Interval) (cs : List (Cell D)) (c : Cell D) (new : List ℕ) → TakesChildren window cs [] new →
      MayHold D window c.rect → TakesChildren window (c ∷ cs) [] (key_of c ∷ new)
  TakesChildren-front window cs c new so may = record {
    more = key_of c ∷ so.more;
    is = ap (λ ks. key_of c ∷ ks) so.is;
    each = λ key.
        let one : times key (key_of c ∷ []) ≡ times_named key (c ∷ []) = refl in
        omega (arith, one, times-cons key (key_of c) so.more, count-append (names_key key) (c ∷ []) cs, so.each key);
    named = λ key some. elim (cases_eq (key_of c) key) [
      | inl is ↦ (c, (0, omega arith, refl), is, may)
      | inr ne ↦ leads-later window c cs key (so.named key (omega (arith, some, times-cons key (key_of c) so.more, times-other key (key_of c) ne)))
    ];
    all = λ key leads. elim (Contains-cons_cases c leads.0 cs leads.1) [
      | inl is ↦ omega (arith, times-cons key (key_of c) so.more, times-one key (key_of c) (ap key_of is ∙ leads.2))
      | inr later ↦ omega (arith, times-cons key (key_of c) so.more, so.all key (leads.0, later, leads.2, leads.3))
    ];
  }

  pub TakesChildren-skips : (window : List Interval) (cs : List (Cell D)) (c : Cell D) (new : List ℕ) → TakesChildren window cs [] new →
      (MayHold D window c.rect → ⊥) → TakesChildren window (c ∷ cs) [] new
  TakesChildren-skips window cs c new so refuses = record {
    more = so.more;
    is = so.is;
    each = λ key. omega (arith, count-append (names_key key) (c ∷ []) cs, so.each key);
    named = λ key some. leads-later window c cs key (so.named key some);
    all = λ key leads. elim (Contains-cons_cases c leads.0 cs leads.1) [
      | inl is ↦ absurd (refuses (subst (λ (x : Cell D). MayHold D window x.rect) (sym is) leads.3))
      | inr later ↦ so.all key (leads.0, later, leads.2, leads.3)
    ];
  }

  -- behind the keys that were there before
  pub TakesChildren-behind : (window : List Interval) (cells : List (Cell D)) (old new more : List ℕ) → TakesChildren window cells [] more →
      new ≡ old ++ more → TakesChildren window cells old new
  TakesChildren-behind window cells old new keys so e =
      record { more = so.more; is = e ∙ ap (λ ks. old ++ ks) so.is; each = so.each; named = so.named; all = so.all }

  -- the children come behind what is left of a list, too
  pub TakesChildren-dropped : (window : List Interval) (cells : List (Cell D)) (n : ℕ) (old new : List ℕ) → TakesChildren window cells old new →
      n ≤ length old → TakesChildren window cells (drop n old) (drop n new)
  TakesChildren-dropped window cells n old new so h =
      record { more = so.more; is = ap (drop n) so.is ∙ drop-append-le n old so.more h; each = so.each; named = so.named; all = so.all }

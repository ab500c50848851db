-- Lemmas on the levels that are drawn: each node's stands in the list once, or not at all.
use Rattle.std.proofs.Common.{◌≡◌, ◌∙◌, ap, sym, refl, ℕ, zero, suc, ◌≤◌, ◌<◌, max, Bool, true, false, cond, List, [], ◌∷◌, map, ◌==◌, arith}
use Rattle.std.specs.Prelude.{fold, filter}
use Rattle.std.specs.List.{AllByRecursion}
use Rattle.std.proofs.lemmas.Bool.Decides.{Decides-eqb}
use Rattle.rt_check.specs.declared.node.NodeRow.{NodeRow}
use Rattle.rt_check.specs.Shadow.{ShadowLists}
use Rattle.rt_check_draw.specs.declared.choice.Axes.{Axes}
use Rattle.rt_check_draw.specs.declared.choice.Choice.{Choice}
use Rattle.rt_check_draw.specs.declared.levels.LevelRow.{LevelRow}
use Rattle.rt_check_draw.specs.Boxes.{nodes_on}
use Rattle.rt_check_draw.specs.Scale.{top_of}
use Rattle.rt_check_draw.specs.Levels.{with_node, row_of, rows_of, down_from, is_drawn, levels_of}
use Rattle.rt_check_draw.specs.Laws.{times, EachLevelIsDrawnOnce}

module _ {D : ℕ} where
  fold-level : (axes : Axes) (capacity : ℕ) (row : LevelRow) (nodes : List (NodeRow D)) → (fold (with_node axes capacity) row nodes).level ≡ row.level
  fold-level axes capacity row [] = refl
  fold-level axes capacity row (n ∷ ns) = fold-level axes capacity (with_node axes capacity row n) ns

  row-level : (axes : Axes) (s : ShadowLists D) (level : ℕ) → (row_of axes s level).level ≡ level
  row-level axes s level = fold-level axes s.capacity _ (nodes_on level s.nodes)

  top-from : (start : ℕ) (nodes : List (NodeRow D)) → start ≤ fold (λ top n. max n.level top) start nodes
  top-from start [] = omega arith
  top-from start (n ∷ ns) = let h = top-from (max n.level start) ns in omega (arith, h)

  levels-within : (start : ℕ) (nodes : List (NodeRow D)) → AllByRecursion (λ n. n.level ≤ fold (λ top n. max n.level top) start nodes) nodes
  levels-within start nodes = within start nodes (fold (λ top n. max n.level top) start nodes) (omega arith)
    where
      within : (a : ℕ) (ns : List (NodeRow D)) (top : ℕ) → fold (λ top n. max n.level top) a ns ≤ top → AllByRecursion (λ n. n.level ≤ top) ns
      within a [] top h = tt
      within a (n ∷ ns) top h = let first = top-from (max n.level a) ns in (omega (arith, first, h), within (max n.level a) ns top h)

one-row : (b : Bool) (r : LevelRow) (rows : List LevelRow) → map (λ row. row.level) (cond b (r ∷ rows) rows) ≡ cond b (r.level ∷ map (λ row. row.level) rows) (map (λ row. row.level) rows)
one-row true r rows = refl
one-row false r rows = refl

module _ {D : ℕ} (axes : Axes) (s : ShadowLists D) (p : ℕ → Bool) where
  chosen : (ls : List ℕ) → map (λ row. row.level) (filter (λ row. p row.level) (map (row_of axes s) ls)) ≡ filter p ls
  chosen [] = refl
  chosen (l ∷ ls) =
      one-row (p (row_of axes s l).level) (row_of axes s l) (filter (λ row. p row.level) (map (row_of axes s) ls))
      ∙ ap (λ zs. cond (p (row_of axes s l).level) ((row_of axes s l).level ∷ zs) zs) (chosen ls)
      ∙ ap (λ k. cond (p k) (k ∷ filter p ls) (filter p ls)) (row-level axes s l)

-- a list with one number more
more : (p : ℕ → Bool) (x l : ℕ) (xs : List ℕ) (t : ℕ) → times x xs ≡ cond (p x) t 0 → (b c : Bool) → p l ≡ b → (l == x) ≡ c
    → times x (cond b (l ∷ xs) xs) ≡ cond (p x) (cond c (suc t) t) 0
more p x l xs t so_far true true e same =
    let eq : l ≡ x = (Decides-eqb l x).0 same in
    let drawn : p x ≡ true = ap p (sym eq) ∙ e in
    ap (λ c. cond c (suc (times x xs)) (times x xs)) same ∙ ap suc so_far ∙ ap (λ b. suc (cond b t 0)) drawn ∙ sym (ap (λ b. cond b (suc t) 0) drawn)
more p x l xs t so_far true false e other = ap (λ c. cond c (suc (times x xs)) (times x xs)) other ∙ so_far
more p x l xs t so_far false true e same =
    let eq : l ≡ x = (Decides-eqb l x).0 same in
    let not_drawn : p x ≡ false = ap p (sym eq) ∙ e in
    so_far ∙ ap (λ b. cond b t 0) not_drawn ∙ sym (ap (λ b. cond b (suc t) 0) not_drawn)
more p x l xs t so_far false false e other = so_far

either : (z : ℕ) (b : Bool) → z ≡ cond b z z
either z true = refl
either z false = refl

times-filter : (p : ℕ → Bool) (x : ℕ) (ls : List ℕ) → times x (filter p ls) ≡ cond (p x) (times x ls) 0
times-filter p x [] = either 0 (p x)
times-filter p x (l ∷ ls) = more p x l (filter p ls) (times x ls) (times-filter p x ls) (p l) (l == x) refl refl

differ : (a b : ℕ) → (a ≡ b → ⊥) → (a == b) ≡ false
differ a b unequal = by (a == b) refl
  where
    by : (c : Bool) → (a == b) ≡ c → (a == b) ≡ false
    by true e = absurd (unequal ((Decides-eqb a b).0 e))
    by false e = e

-- the numbers from n down to 0 have none above n
times-above : (n x : ℕ) → n < x → times x (down_from n) ≡ 0
times-above zero x h = ap (λ c. cond c 1 0) (differ 0 x (λ e. omega (arith, h, e)))
times-above (suc n) x h =
    ap (λ c. cond c (suc (times x (down_from n))) (times x (down_from n))) (differ (suc n) x (λ e. omega (arith, h, e))) ∙ times-above n x (omega (arith, h))

-- the numbers from n down to 0 have each number up to n once
times-within : (n x : ℕ) → x ≤ n → times x (down_from n) ≡ 1
times-within zero x h =
    let e : 0 ≡ x = omega (arith, h) in
    ap (λ c. cond c 1 0) ((Decides-eqb 0 x).1 e)
times-within (suc n) x h = by (λ below. times-within n x below) (suc n == x) refl
  where
    by : (x ≤ n → times x (down_from n) ≡ 1) → (c : Bool) → (suc n == x) ≡ c → cond (suc n == x) (suc (times x (down_from n))) (times x (down_from n)) ≡ 1
    by rest true e =
        let eq : suc n ≡ x = (Decides-eqb (suc n) x).0 e in
        ap (λ c. cond c (suc (times x (down_from n))) (times x (down_from n))) e ∙ ap suc (times-above n x (omega (arith, eq)))
    by rest false e =
        let other : suc n ≡ x → ⊥ = λ eq. let no : true ≡ false = sym ((Decides-eqb (suc n) x).1 eq) ∙ e in cc in
        ap (λ c. cond c (suc (times x (down_from n))) (times x (down_from n))) e ∙ rest (grind (arith, h, other))

module _ {D : ℕ} (choice : Choice) (axes : Axes) (s : ShadowLists D) where
  one-level : (x : ℕ) → x ≤ top_of s.nodes → times x (levels_of choice (rows_of axes s)) ≡ cond (is_drawn choice (rows_of axes s) x) 1 0
  one-level x h =
      ap (times x) (chosen axes s (is_drawn choice (rows_of axes s)) (down_from (top_of s.nodes)))
      ∙ times-filter (is_drawn choice (rows_of axes s)) x (down_from (top_of s.nodes))
      ∙ ap (λ t. cond (is_drawn choice (rows_of axes s) x) t 0) (times-within (top_of s.nodes) x h)

  all-levels : (ns : List (NodeRow D)) → AllByRecursion (λ n. n.level ≤ top_of s.nodes) ns
      → AllByRecursion (λ n. times n.level (levels_of choice (rows_of axes s)) ≡ cond (is_drawn choice (rows_of axes s) n.level) 1 0) ns
  all-levels [] h = tt
  all-levels (n ∷ ns) h = (one-level n.level h.0, all-levels ns h.1)

pub drawn-once : EachLevelIsDrawnOnce
drawn-once D choice axes s = all-levels choice axes s s.nodes (levels-within 0 s.nodes)

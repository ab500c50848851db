-- A whole tree has few nodes and few levels.
use Rattle.std.proofs.Common.{◌≡◌, ◌≢◌, ℕ, zero, suc, ◌+◌, ◌-◌, ◌*◌, ◌/◌, ◌^◌, ◌<◌, ◌≤◌, Bool, true, false, cond, List, [], ◌∷◌, ◌++◌, length, Option, None, Some, is_some, vec_len, nat_eq, eq-eqb, ne_eqb, arith, refl, ap, sym, subst, ◌∙◌, inl, inr}
use Rattle.std.specs.List.{count_by, All}
use Rattle.std.proofs.Math.Nat.{mul_comm, mul-add, mul-suc, suc-mul, mul-le-mul_left, le-mul_of_pos_right, le_of_mul-le-mul_left, pow-zero, pow-suc, pow-le-pow_left, mul_assoc}
use Rattle.std.proofs.Math.Pow.{pow_mono}
use Rattle.std.proofs.lemmas.Nat.{pow_below, pow_pos, le-div}
use Rattle.std.proofs.lemmas.Bool.{cases_eq, cases_lt}
use Rattle.std.proofs.lemmas.Option.{same_Some, none-some}
use Rattle.std.proofs.lemmas.List.Elements.{All-head}
use Rattle.slab.specs.Slab.{get, slab_len, HasRoomFor}
use Rattle.rt_box.specs.Capacity.{IsCapacity, least_fill}
use Rattle.rt_tree_node.specs.declared.arena.Arena.{Arena}
use Rattle.rt_tree_node.specs.declared.cell.Pending.{Pending}
use Rattle.rt_tree_node.specs.Node.{NodeCells}
use Rattle.rt_tree_node.specs.Places.{level_of, cells_of, leaf_part, inner_part, leaf_cells_of, inner_cells_of, cells_at, level_at, pending_rows, pending_nodes, sum_over}
use Rattle.rt_tree_node.specs.Whole.{IsWhole, HasRoom, row_count}
use Rattle.rt_tree_place.proofs.Sums.{sum-same, sum-added, sum-scaled, count-all, sum-each, sum-le, sum-le_but}
use Rattle.rt_tree_place.proofs.Named.{chosen_part, chosen, node_in, named-on_level, named-and_first, named-in_all}

pub least-two : (capacity : ℕ) → IsCapacity capacity → 2 ≤ least_fill capacity
least-two capacity is = let low = is.0 in omega arith

pow-one : (m : ℕ) → m ^ 1 ≡ m
pow-one m = pow-suc m 0 ∙ ap (λ n. n * m) (pow-zero m) ∙ omega arith

scaled-le : (m : ℕ) (b : Bool) → m * cond b 1 0 ≤ m
scaled-le m true = omega arith
scaled-le m false = omega arith

scaled-no : (m : ℕ) (b : Bool) → b ≡ false → m * cond b 1 0 ≡ 0
scaled-no m b fails = ap (λ c. m * cond c 1 0) fails ∙ omega arith

module _ {D : ℕ} where
  -- a node's cells are rows or name nodes
  parted : (s : Option (NodeCells D)) → length (cells_of s) ≡ length (inner_cells_of s) + length (leaf_cells_of s)
  parted None = refl
  parted (Some n) = by n.level
    where
      by : (l : ℕ) → length n.cells ≡ length (inner_part l n.cells) + length (leaf_part l n.cells)
      by zero = omega arith
      by (suc l) = omega arith

  -- what waits is a row or names a node
  pending-parted : (ws : List (Pending D)) → length ws ≡ length (pending_rows ws) + length (pending_nodes ws)
  pending-parted [] = refl
  pending-parted (w ∷ ws) = by w.level refl (pending-parted ws)
    where
      by : (l : ℕ) → w.level ≡ l → length ws ≡ length (pending_rows ws) + length (pending_nodes ws) →
          length (w ∷ ws) ≡ length (pending_rows (w ∷ ws)) + length (pending_nodes (w ∷ ws))
      by zero e rest =
          let a = ap (λ i. length (leaf_part i (w.cell ∷ []) ++ pending_rows ws)) e in
          let b = ap (λ i. length (inner_part i (w.cell ∷ []) ++ pending_nodes ws)) e in
          omega (arith, a, b, rest)
      by (suc l) e rest =
          let a = ap (λ i. length (leaf_part i (w.cell ∷ []) ++ pending_rows ws)) e in
          let b = ap (λ i. length (inner_part i (w.cell ∷ []) ++ pending_nodes ws)) e in
          omega (arith, a, b, rest)

  present : Option (NodeCells D) → ℕ
  present s = cond (is_some s) 1 0

  chosen-here : (n : NodeCells D) (l : ℕ) → n.level ≡ suc l → chosen (λ i. nat_eq i l) (Some n) ≡ n.cells
  chosen-here n l e = ap (λ i. chosen_part (λ j. nat_eq j l) i n.cells) e ∙ ap (λ b. cond b n.cells []) (eq-eqb l l refl)

  module _ (t : Arena D) (whole : IsWhole t) where
    -- the cells of all leaves
    leaf_rows : ℕ
    leaf_rows = sum_over (λ s. length (leaf_cells_of s)) t.nodes

    rows-are : row_count t ≡ leaf_rows + length (pending_rows t.pending.items)
    unfolding leaf_rows
    rows-are = omega (
      arith,
      sum-same (λ s. count_by (λ c. true) (leaf_cells_of s)) (λ s. length (leaf_cells_of s)) (λ s. count-all (leaf_cells_of s)) t.nodes.slots,
      count-all (pending_rows t.pending.items),
    )

    least-at : (k l : ℕ) → level_at t.nodes k ≡ Some l → k ≢ t.root → least_fill t.capacity ≤ length (cells_at t.nodes k)
    least-at k l e other = whole.fitted.least k l e other (none-some k)

    -- every node but the root has m cells
    filled : (m : ℕ) → m ≡ least_fill t.capacity → m * slab_len t.nodes + length (cells_at t.nodes t.root) ≤ sum_over (λ s. length (cells_of s)) t.nodes + m
    unfolding present
    filled m is =
        let step = sum-le_but (λ s. m * present s) (λ s. length (cells_of s)) (omega arith) refl t.nodes.slots t.root each in
        let top : m * present (get t.nodes t.root) ≡ m = by (get t.nodes t.root) whole.linked.root_level in
        omega (arith, step, top, sum-scaled m present t.nodes.slots)
      where
        each : (k : ℕ) → k ≢ t.root → m * present (get t.nodes k) ≤ length (cells_at t.nodes k)
        each k other = case (get t.nodes k) refl
          where
            case : (s : Option (NodeCells D)) → get t.nodes k ≡ s → m * present s ≤ length (cells_of s)
            case None e = omega arith
            case (Some n) e =
                let cells = ap (λ o. length (cells_of o)) e in
                omega (arith, is, cells, least-at k n.level (ap level_of e) other)

        by : (s : Option (NodeCells D)) → level_of s ≡ Some t.level → m * present s ≡ m
        by None e = absurd (none-some t.level e)
        by (Some n) e = omega arith

    -- each node takes up one cell less than it has, at least
    pub nodes-and_rows : (w : ℕ) → suc w ≡ least_fill t.capacity → w * slab_len t.nodes + length (cells_at t.nodes t.root) + vec_len t.pending ≤ row_count t + w
    unfolding leaf_rows
    nodes-and_rows w is =
        let named = named-in_all t.nodes t.root t.level t.pending.items whole.linked in
        let cells = sum-added (λ s. length (inner_cells_of s)) (λ s. length (leaf_cells_of s)) (λ s. length (cells_of s)) parted t.nodes.slots in
        omega (arith, named, cells, filled (suc w) is, rows-are, pending-parted t.pending.items, suc-mul w (slab_len t.nodes))

    some-node : 1 ≤ slab_len t.nodes
    some-node = omega (arith, named-in_all t.nodes t.root t.level t.pending.items whole.linked)

    pred-least : (w : ℕ) × (suc w ≡ least_fill t.capacity) × (1 ≤ w)
    pred-least = let low = least-two t.capacity whole.fitted.cap in (least_fill t.capacity - 1, omega arith, omega arith)

    others-and_rows : (w : ℕ) → suc w ≡ least_fill t.capacity → w * (slab_len t.nodes - 1) + vec_len t.pending ≤ row_count t
    others-and_rows w is =
        let some = some-node in
        let n : suc (slab_len t.nodes - 1) ≡ slab_len t.nodes = omega arith in
        let product = ap (λ k. w * k) n in
        omega (arith, nodes-and_rows w is, product, mul-suc w (slab_len t.nodes - 1))

    pub few-nodes : slab_len t.nodes ≤ 1 + row_count t / (least_fill t.capacity - 1)
    few-nodes =
        let w = pred-least in
        let is : w.0 ≡ least_fill t.capacity - 1 = omega (arith, w.1) in
        let few : slab_len t.nodes - 1 ≤ row_count t / w.0 = le-div (slab_len t.nodes - 1) (row_count t) w.0 w.2 (omega (arith, mul_comm (slab_len t.nodes - 1) w.0, others-and_rows w.0 w.1)) in
        subst (λ k. slab_len t.nodes ≤ 1 + row_count t / k) is (omega (arith, few))

    pub few-pending : vec_len t.pending ≤ row_count t
    few-pending = let w = pred-least in omega (arith, others-and_rows w.0 w.1)

    pub fewer-nodes_than_rows : slab_len t.nodes + vec_len t.pending ≤ suc (row_count t)
    fewer-nodes_than_rows =
        let w = pred-least in
        omega (arith, some-node, others-and_rows w.0 w.1, le-mul_of_pos_right (slab_len t.nodes - 1) w.2, mul_comm (slab_len t.nodes - 1) w.0)

    pub room-for : HasRoom t (row_count t) → HasRoomFor t.nodes 32
    room-for room =
        let w = pred-least in
        let is : least_fill t.capacity - 1 ≡ w.0 = omega (arith, w.1) in
        let nodes : row_count t + w.0 * 33 ≤ w.0 * t.nodes.capacity = subst (λ k. row_count t + k * 33 ≤ k * t.nodes.capacity) is room.nodes in
        le_of_mul-le-mul_left (omega (arith, nodes, nodes-and_rows w.0 w.1, mul-add w.0 (slab_len t.nodes) 32)) w.2

    -- ---- levels
    abbrev is_level : ℕ → ℕ → Bool
    is_level l i = nat_eq i l

    on_level : ℕ → ℕ
    on_level l = sum_over (node_in (is_level l)) t.nodes

    level-leaves : 1 ≤ t.level → (m : ℕ) → m ≡ least_fill t.capacity → m * on_level 0 + length (pending_rows t.pending.items) ≤ row_count t
    unfolding on_level leaf_rows
    level-leaves high m is =
        omega (
          arith,
          sum-scaled m (node_in (is_level 0)) t.nodes.slots,
          sum-le (λ s. m * node_in (is_level 0) s) (λ s. length (leaf_cells_of s)) (omega arith) refl t.nodes.slots each,
          rows-are,
        )
      where
        each : (k : ℕ) → m * node_in (is_level 0) (get t.nodes k) ≤ length (leaf_cells_of (get t.nodes k))
        each k = case (get t.nodes k) refl
          where
            case : (s : Option (NodeCells D)) → get t.nodes k ≡ s → m * node_in (is_level 0) s ≤ length (leaf_cells_of s)
            case None e = omega arith
            case (Some n) e = by n.level refl
              where
                by : (l : ℕ) → n.level ≡ l → m * cond (is_level 0 l) 1 0 ≤ length (leaf_part l n.cells)
                by zero q =
                    let here : level_at t.nodes k ≡ Some 0 = ap level_of e ∙ ap Some q in
                    let other : k ≢ t.root = λ same. let low : 0 ≡ t.level = same_Some 0 t.level (sym here ∙ ap (level_at t.nodes) same ∙ whole.linked.root_level) in absurd (omega arith) in
                    let cells = ap (λ o. length (cells_of o)) e in
                    omega (arith, is, cells, least-at k 0 here other)
                by (suc l) q = omega (arith, scaled-no m (is_level 0 (suc l)) (ne_eqb (suc l) 0 (λ f. omega arith)))

    -- the cells in nodes that name nodes of a level
    naming : ℕ → ℕ
    naming l = sum_over (λ s. length (chosen (is_level l) s)) t.nodes

    naming-on_level : (l : ℕ) → naming l ≤ on_level l
    unfolding naming on_level
    naming-on_level l = named-on_level t.nodes t.root t.level t.pending.items whole.linked l

    naming-step : (l : ℕ) → suc l < t.level → (m : ℕ) → m ≡ least_fill t.capacity → m * on_level (suc l) ≤ naming l
    unfolding naming on_level
    naming-step l high m is =
        omega (
          arith,
          sum-scaled m (node_in (is_level (suc l))) t.nodes.slots,
          sum-le (λ s. m * node_in (is_level (suc l)) s) (λ s. length (chosen (is_level l) s)) (omega arith) refl t.nodes.slots each,
        )
      where
        each : (k : ℕ) → m * node_in (is_level (suc l)) (get t.nodes k) ≤ length (chosen (is_level l) (get t.nodes k))
        each k = case (get t.nodes k) refl
          where
            case : (s : Option (NodeCells D)) → get t.nodes k ≡ s → m * node_in (is_level (suc l)) s ≤ length (chosen (is_level l) s)
            case None e = omega arith
            case (Some n) e = elim (cases_eq n.level (suc l)) [
              | inl q ↦
                  let here : level_at t.nodes k ≡ Some (suc l) = ap level_of e ∙ ap Some q in
                  let other : k ≢ t.root = λ same. let low : suc l ≡ t.level = same_Some (suc l) t.level (sym here ∙ ap (level_at t.nodes) same ∙ whole.linked.root_level) in absurd (omega arith) in
                  let cells = ap (λ o. length (cells_of o)) e in
                  let all = ap length (chosen-here n l q) in
                  let one : m * node_in (is_level (suc l)) (Some n) ≤ m = scaled-le m (is_level (suc l) n.level) in
                  omega (arith, is, cells, all, one, least-at k (suc l) here other)
              | inr ne ↦
                  omega (arith, scaled-no m (is_level (suc l) n.level) (ne_eqb n.level (suc l) ne))
            ]

    naming-top : (l : ℕ) → t.level ≡ suc l → 1 ≤ naming l
    unfolding naming
    naming-top l top =
        let here : level_at t.nodes t.root ≡ Some (suc l) = whole.linked.root_level ∙ ap Some top in
        let each = sum-each (λ s. length (chosen (is_level l) s)) refl t.nodes.slots t.root in
        omega (arith, each, at-top (get t.nodes t.root) here, whole.fitted.some t.root l here)
      where
        at-top : (s : Option (NodeCells D)) → level_of s ≡ Some (suc l) → length (chosen (is_level l) s) ≡ length (cells_of s)
        at-top None e = absurd (none-some (suc l) e)
        at-top (Some n) e = ap length (chosen-here n l (same_Some n.level (suc l) e))

    powers : (l : ℕ) → l < t.level → (m : ℕ) → m ≡ least_fill t.capacity → m ^ suc l * on_level l ≤ row_count t
    powers zero high m is =
        let one : m ^ 1 ≡ m = pow-one m in
        omega (arith, level-leaves (omega arith) m is, ap (λ n. n * on_level 0) one)
    powers (suc l) high m is =
        let wide : m * on_level (suc l) ≤ on_level l = omega (arith, naming-step l high m is, naming-on_level l) in
        let step = mul-le-mul_left (m ^ suc l) wide in
        let a = ap (λ n. n * on_level (suc l)) (pow-suc m (suc l)) ∙ mul_assoc (m ^ suc l) m (on_level (suc l)) in
        omega (arith, step, a, powers l (omega arith) m is)

    -- each level below the root's has m times as many nodes as the one above it, at least
    pub high-level : 1 ≤ t.level → least_fill t.capacity ^ t.level ≤ row_count t
    high-level high = by t.level refl high
      where
        by : (l : ℕ) → t.level ≡ l → 1 ≤ l → least_fill t.capacity ^ l ≤ row_count t
        by zero e some = absurd (omega arith)
        by (suc l) e some =
            let m = least_fill t.capacity in
            let some : 1 ≤ on_level l = omega (arith, naming-top l e, naming-on_level l) in
            let step = mul-le-mul_left (m ^ suc l) some in
            omega (arith, step, powers l (omega arith) m refl)

    pub few-levels : (n : ℕ) → row_count t ≤ 2 ^ n → t.level ≤ n
    few-levels n few = elim (cases_lt n t.level) [
      | inl high ↦
          let two = pow-le-pow_left (least-two t.capacity whole.fitted.cap) t.level in
          absurd (omega (arith, two, high-level (omega arith), pow_below n t.level high))
      | inr low ↦ low
    ]

    some-power : (l m : ℕ) → m ≡ least_fill t.capacity → 1 ≤ m ^ l
    some-power l m is =
        let two : 2 ≤ m = omega (arith, is, least-two t.capacity whole.fitted.cap) in
        omega (arith, pow_pos l, pow-le-pow_left two l)

    -- ---- levels while a cell waits: one row more
    module _ (w : Pending D) (rest : List (Pending D)) (first : t.pending.items ≡ w ∷ rest) where
      row-waits : w.level ≡ 0 → 1 ≤ length (pending_rows t.pending.items)
      row-waits e =
          let all = ap (λ ws. length (pending_rows ws)) first in
          let one = ap (λ i. length (leaf_part i (w.cell ∷ []) ++ pending_rows rest)) e in
          omega (arith, all, one)

      naming-and_first : (l : ℕ) → w.level ≡ suc l → suc (naming l) ≤ on_level l
      unfolding naming on_level
      naming-and_first l e =
          let one : length (chosen_part (is_level l) w.level (w.cell ∷ [])) ≡ 1 =
          ap (λ i. length (chosen_part (is_level l) i (w.cell ∷ []))) e ∙ ap (λ b. length (cond b (w.cell ∷ []) [])) (eq-eqb l l refl) in
          omega (arith, one, named-and_first t.nodes t.root t.level t.pending.items whole.linked l w rest first)

      powers-waiting : (l : ℕ) → l < t.level → (m : ℕ) → m ≡ least_fill t.capacity → w.level ≤ l → suc (m ^ suc l * on_level l) ≤ row_count t
      powers-waiting zero high m is low =
          let one : m ^ 1 ≡ m = pow-one m in
          omega (arith, level-leaves (omega arith) m is, ap (λ n. n * on_level 0) one, row-waits (omega arith))
      powers-waiting (suc l) high m is low =
          let a = ap (λ n. n * on_level (suc l)) (pow-suc m (suc l)) ∙ mul_assoc (m ^ suc l) m (on_level (suc l)) in
          elim (cases_eq w.level (suc l)) [
            | inl here ↦
                let wide : suc (m * on_level (suc l)) ≤ on_level l = omega (arith, naming-step l high m is, naming-and_first l here) in
                let step = mul-le-mul_left (m ^ suc l) wide in
                omega (arith, step, mul-suc (m ^ suc l) (m * on_level (suc l)), some-power (suc l) m is, a, powers l (omega arith) m is)
            | inr below ↦
                let wide : m * on_level (suc l) ≤ on_level l = omega (arith, naming-step l high m is, naming-on_level l) in
                let step = mul-le-mul_left (m ^ suc l) wide in
                omega (arith, step, a, powers-waiting l (omega arith) m is (omega (arith, low, below)))
          ]

      within : w.level ≤ t.level
      within =
          let each : Pending D → Type 0 = λ v. v.level ≤ t.level in
          All-head each w rest (subst (All each) first whole.linked.pending_levels)

      high-waiting : 1 ≤ t.level → least_fill t.capacity ^ t.level < row_count t
      high-waiting high = by t.level refl high
        where
          by : (l : ℕ) → t.level ≡ l → 1 ≤ l → least_fill t.capacity ^ l < row_count t
          by zero e some = absurd (omega arith)
          by (suc l) e some =
              let m = least_fill t.capacity in
              elim (cases_eq w.level (suc l)) [
                | inl here ↦
                    let two : 2 ≤ on_level l = omega (arith, naming-top l e, naming-and_first l here) in
                    let step = mul-le-mul_left (m ^ suc l) two in
                    omega (arith, step, some-power (suc l) m refl, powers l (omega arith) m refl)
                | inr below ↦
                    let one : 1 ≤ on_level l = omega (arith, naming-top l e, naming-on_level l) in
                    let step = mul-le-mul_left (m ^ suc l) one in
                    omega (arith, step, powers-waiting l (omega arith) m refl (omega (arith, within, e, below)))
              ]

    pub few-levels-waiting : (n : ℕ) → 1 ≤ vec_len t.pending → row_count t ≤ 2 ^ suc n → t.level ≤ n
    few-levels-waiting n waits few = by t.pending.items refl
      where
        by : (ws : List (Pending D)) → t.pending.items ≡ ws → t.level ≤ n
        by [] none = absurd (omega (arith, waits, ap length none))
        by (w ∷ rest) first = elim (cases_lt n t.level) [
          | inl high ↦
              let two = pow-le-pow_left (least-two t.capacity whole.fitted.cap) t.level in
              absurd (omega (arith, two, high-waiting w rest first (omega arith), few, pow_mono {i = suc n} {j = t.level} (omega arith)))
          | inr low ↦ low
        ]

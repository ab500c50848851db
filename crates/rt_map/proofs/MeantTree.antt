-- The levels of the nested tree that is meant, made one after the other.
use Rattle.std.proofs.Common.{◌≡◌, ◌≢◌, ℕ, zero, suc, ◌+◌, ◌-◌, ◌*◌, ◌<◌, ◌≤◌, List, [], ◌∷◌, ◌++◌, length, map, arith, refl, ap, ◌∙◌, sym, subst, inl, inr}
use Rattle.std.specs.List.{All}
use Rattle.std.proofs.Math.Nat.{mul-le-mul_left}
use Rattle.std.proofs.lemmas.Bool.{cases_lt}
use Rattle.std.proofs.lemmas.List.{append-nil, length-append, length-map, nil_from_length}
use Rattle.std.proofs.lemmas.List.Elements.{All-head, All-tail}
use Rattle.slab.specs.Slab.{Slab, slab_len}
use Rattle.rt_box.specs.Capacity.{IsCapacity, least_fill}
use Rattle.rt_tree_node.specs.declared.arena.Arena.{Arena}
use Rattle.rt_tree_node.specs.declared.cell.Cell.{Cell}
use Rattle.rt_tree_node.specs.declared.cell.Pending.{Pending}
use Rattle.rt_tree_node.specs.Node.{NodeCells}
use Rattle.rt_tree_node.specs.Places.{cells_of, cells_at, level_at, pending_at}
use Rattle.rt_tree_node.specs.Sound.{Names, IsLinked}
use Rattle.rt_tree_node.specs.Whole.{HasRoom}
use Rattle.rt_tree.specs.Bare.{IsBare}
use Rattle.rt_tree_place.proofs.Few.{least-two}
use Rattle.rt_tree_place.proofs.WayDown.{node-from_level}
use Rattle.rt_tree_walk.specs.declared.searching.Row.{Row}
use Rattle.rt_tree_rules.specs.Nested.{Row as Nested, Entry, Tree}
use Rattle.rt_tree_obeys.specs.View.{entry_in, tree_in}
use Rattle.rt_tree_obeys.proofs.Frames.{same_level, below, entries_same}
use Rattle.rt_tree_pack.specs.Steps.{Fills, LiftsRoot}
use Rattle.rt_tree_pack.proofs.NewNode.{All-pending}
use Rattle.rt_map.specs.declared.shape.Shape.{Shape}
use Rattle.rt_map.specs.PackingInside.{cell_of, IsReadyFor}
use Rattle.rt_map.specs.LevelSteps.{FitsRoot, RestoresUpTo, RestoresBelow}
use Rattle.rt_map.specs.Meant.{sizes_at, cells_in, IsNodeSize, Awaits, IsRootSize, LeadsTo, IsMeant, rows_in, IsMadeBelow, rows_among, IsListed}

-- ---- counts

-- nodes with enough cells have many
cells-many : (capacity l : ℕ) (nodes : List (Entry (suc l))) → All (λ n. IsNodeSize capacity (length {A = Entry l} n)) nodes →
    least_fill capacity * length nodes ≤ length (cells_in l nodes)
cells-many capacity l [] fit = omega arith
cells-many capacity l (n ∷ ns) fit =
    let P : Entry (suc l) → Type 0 = λ x. IsNodeSize capacity (length {A = Entry l} x) in
    let first = All-head P n ns fit in
    let rest = cells-many capacity l ns (All-tail P n ns fit) in
    let step : least_fill capacity * suc (length ns) ≡ least_fill capacity + least_fill capacity * length ns = omega arith in
    omega (arith, length-append n (cells_in l ns), first.least, rest, step)

-- a level on the way up has cells
not-empty : (capacity : ℕ) (shapes : List Shape) (tree : Tree) (steps l : ℕ) (cells : List (Entry l)) → IsCapacity capacity →
    LeadsTo capacity shapes tree (suc steps) l cells → 1 ≤ length {A = Entry l} cells
not-empty capacity shapes tree zero l cells cap leads =
    let many = cells-many capacity l leads.0 leads.3 in
    let two = leads.4.1.branched (omega arith) in
    let wide = mul-le-mul_left (least_fill capacity) two in
    omega (arith, ap length leads.1, many, wide, least-two capacity cap)
not-empty capacity shapes tree (suc steps) l cells cap leads =
    let many = cells-many capacity l leads.0 leads.3 in
    let one = not-empty capacity shapes tree steps (suc l) leads.0 cap leads.4 in
    let wide = mul-le-mul_left (least_fill capacity) one in
    omega (arith, ap length leads.1, many, wide, least-two capacity cap)

-- the nodes of a level have room
roomy : (m slots nodes cells rows room : ℕ) → 1 ≤ m → (m + 1) * nodes ≤ cells → m * slots + cells ≤ rows + m → rows + m * 33 ≤ m * room → slots + nodes ≤ room
roomy m slots nodes cells rows room some many few enough = elim (cases_lt room (slots + nodes)) [
  | inl past ↦ let wide = mul-le-mul_left m past in absurd (omega (arith, wide, many, few, enough, some))
  | inr within ↦ within
]

module _ {D : ℕ} where
  -- cells that wait for the root hold the same if nothing below changed
  entries-kept : (a b : Slab (NodeCells D)) (root top : ℕ) (cells : List (Cell D)) → IsLinked a root top (pending_at top cells) →
      ((x : ℕ) → x ≢ root → cells_at b x ≡ cells_at a x) → map (entry_in b top) cells ≡ map (entry_in a top) cells
  entries-kept a b root top cells linked kept =
      let IsNamed : Pending D → Type 0 = λ w. (i : ℕ) → w.level ≡ suc i → Names a i w.cell in
      let named = All-pending IsNamed top cells [] (subst (All IsNamed) (sym (append-nil (pending_at top cells))) linked.pending_named) in
      let low = below a b top linked.children (λ x j here less. kept x (λ e.
      let equal = same_level j top (level_at a root) (ap (level_at a) (sym e) ∙ here) linked.root_level in
      absurd (omega arith))) in
      entries_same a b top top cells low (omega arith) (λ i e k d within. (named k d within i e).level_is)

  pub none-made : (t : Arena D) (shapes : List Shape) (rows : List (Cell D)) (tree : Tree) → IsBare t → IsMeant t.capacity shapes (rows_in rows) tree →
      IsMadeBelow t shapes (length rows) rows tree
  none-made t shapes rows tree bare is =
      let one = ap (λ n. (least_fill t.capacity - 1) * n) bare.one in
      record {
        steps = tree.level;
        levels = omega (arith, bare.level);
        leads = subst (λ l. LeadsTo t.capacity shapes tree tree.level l (map (entry_in t.nodes l) rows)) (sym bare.level) is.leads;
        few = omega (arith, one);
      }

  -- the next level
  pub record Higher (t : Arena D) (shapes : List Shape) (cells : List (Cell D)) (tree : Tree) : Type 0 where
    pub steps : ℕ
    pub levels : suc t.level + steps ≡ tree.level
    pub nodes : List (Entry (suc t.level))
    pub cells_are : map (entry_in t.nodes t.level) cells ≡ cells_in t.level nodes
    pub sizes_are : sizes_at t.level shapes ≡ map (length {A = Entry t.level}) nodes
    pub fit : All (λ n. IsNodeSize t.capacity (length {A = Entry t.level} n)) nodes
    pub leads : LeadsTo t.capacity shapes tree steps (suc t.level) nodes

  higher-by : (t : Arena D) (shapes : List Shape) (cells : List (Cell D)) (tree : Tree) (steps : ℕ) → t.level + steps ≡ tree.level →
      LeadsTo t.capacity shapes tree steps t.level (map (entry_in t.nodes t.level) cells) → t.level < tree.level → Higher t shapes cells tree
  higher-by t shapes cells tree zero levels leads less = absurd (omega arith)
  higher-by t shapes cells tree (suc steps) levels leads less = record {
    steps = steps;
    levels = omega arith;
    nodes = leads.0;
    cells_are = leads.1;
    sizes_are = leads.2;
    fit = leads.3;
    leads = leads.4;
  }

  -- no level is left
  pub record Reached (t : Arena D) (cells : List (Cell D)) (tree : Tree) : Type 0 where
    pub same : record { level = t.level; root = map (entry_in t.nodes t.level) cells } ≡ tree
    pub size : IsRootSize t.capacity t.level (length {A = Entry t.level} (map (entry_in t.nodes t.level) cells))

  reached-by : (t : Arena D) (shapes : List Shape) (cells : List (Cell D)) (tree : Tree) (steps : ℕ) → steps ≡ 0 →
      LeadsTo t.capacity shapes tree steps t.level (map (entry_in t.nodes t.level) cells) → Reached t cells tree
  reached-by t shapes cells tree zero none leads = record { same = leads.0; size = leads.1 }
  reached-by t shapes cells tree (suc steps) none leads = absurd (omega arith)

  pub reached-top : (t : Arena D) (shapes : List Shape) (count : ℕ) (cells : List (Cell D)) (tree : Tree) → IsMadeBelow t shapes count cells tree →
      tree.level ≤ t.level → Reached t cells tree
  reached-top t shapes count cells tree made high = reached-by t shapes cells tree made.steps (omega (arith, made.levels)) made.leads

  none-left : (t : Arena D) (shapes : List Shape) (cells : List (Cell D)) (tree : Tree) (steps : ℕ) → IsCapacity t.capacity → length cells ≡ 0 →
      LeadsTo t.capacity shapes tree steps t.level (map (entry_in t.nodes t.level) cells) → steps ≡ 0
  none-left t shapes cells tree zero cap none leads = refl
  none-left t shapes cells tree (suc steps) cap none leads =
      let some = not-empty t.capacity shapes tree steps t.level (map (entry_in t.nodes t.level) cells) cap leads in
      absurd (omega (arith, some, length-map cells (entry_in t.nodes t.level)))

  pub reached-empty : (t : Arena D) (shapes : List Shape) (count : ℕ) (cells : List (Cell D)) (tree : Tree) → IsCapacity t.capacity →
      IsMadeBelow t shapes count cells tree → length cells ≡ 0 → Reached t cells tree
  reached-empty t shapes count cells tree cap made none =
      reached-by t shapes cells tree made.steps (none-left t shapes cells tree made.steps cap none made.leads) made.leads

  -- the root may have the cells that are left
  pub fits-top : (t : Arena D) (cells : List (Cell D)) (tree : Tree) → Reached t cells tree → FitsRoot t (length cells)
  fits-top t cells tree reached =
      let long = length-map cells (entry_in t.nodes t.level) in
      let size = reached.size in
      let many = size.branched in
      record { most = omega (arith, size.most, long); branched = λ some. omega (arith, many some, long) }

  module _ (s t : Arena D) (rows cells : List (Cell D)) (so_far : RestoresBelow s t rows cells) where
    abbrev m : ℕ
    m = least_fill t.capacity - 1

    low : 2 ≤ least_fill t.capacity
    low = least-two t.capacity so_far.opened.fitted.cap

    -- ---- a level more
    module _ (shapes : List Shape) (tree : Tree) (made : IsMadeBelow t shapes (length rows) cells tree) (less : t.level < tree.level) where
      pub higher : Higher t shapes cells tree
      higher = higher-by t shapes cells tree made.steps made.levels made.leads less

      many : (m + 1) * length higher.nodes ≤ length cells
      many =
          let all = cells-many t.capacity t.level higher.nodes higher.fit in
          let long = length-map cells (entry_in t.nodes t.level) in
          let same : m + 1 ≡ least_fill t.capacity = omega (arith, low) in
          omega (arith, all, long, ap length higher.cells_are, ap (λ n. n * length higher.nodes) same)

      module _ (v : Arena D) (lift : LiftsRoot t v) where
        lifted-capacity : v.capacity ≡ t.capacity
        lifted-capacity = ap (λ x. x.capacity) lift.rest

        pub awaits-level : HasRoom s (length rows) → Awaits v t.level (sizes_at t.level shapes) cells [] higher.nodes
        awaits-level room =
            let same : t.capacity ≡ s.capacity = ap (λ x. x.capacity) so_far.frame in
            let enough = subst (λ c. length rows + (least_fill c - 1) * 33 ≤ (least_fill c - 1) * s.nodes.capacity) (sym same) room.nodes in
            let size = ap (λ n. m * n) so_far.room in
            record {
              others = higher.nodes;
              nodes_are = refl;
              sizes_are = higher.sizes_are;
              cells_are = entries-kept t.nodes v.nodes t.root t.level cells so_far.opened.linked (λ x other. ap cells_of (lift.puts.updates.others x other)) ∙ higher.cells_are;
              fit = subst (λ c. All (λ n. IsNodeSize c (length {A = Entry t.level} n)) higher.nodes) (sym lifted-capacity) higher.fit;
              room =
                  let fits = roomy m (slab_len t.nodes) (length higher.nodes) (length cells) (length rows) t.nodes.capacity
                  (omega (arith, low)) many made.few (omega (arith, enough, size)) in
                  omega (arith, fits, lift.puts.len, lift.puts.room);
            }

        pub made-higher : (u : Arena D) (next : List (Cell D)) → RestoresUpTo v u t.level cells [] next → Awaits u t.level [] [] next higher.nodes →
            IsMadeBelow u shapes (length rows) next tree
        made-higher u next step done =
            let none : done.others ≡ [] = nil_from_length done.others (omega (arith, ap length done.sizes_are, length-map done.others (length {A = Entry t.level}))) in
            let f = entry_in u.nodes (suc t.level) in
            let same : higher.nodes ≡ map f next = done.nodes_are ∙ ap (λ xs. map f next ++ xs) none ∙ append-nil (map f next) in
            let u_level : u.level ≡ suc t.level = ap (λ x. x.level) step.frame ∙ lift.level in
            let u_capacity : u.capacity ≡ t.capacity = ap (λ x. x.capacity) step.frame ∙ lifted-capacity in
            let long : length next ≡ length higher.nodes = sym (length-map next f) ∙ ap length (sym same) in
            let slots : slab_len u.nodes ≡ slab_len t.nodes + length higher.nodes = omega (arith, step.len, lift.puts.len, long) in
            let few : m * slab_len u.nodes + length next ≤ length rows + m = omega (arith, made.few, many, long, ap (λ n. m * n) slots) in
            record {
              steps = higher.steps;
              levels = omega (arith, higher.levels, u_level);
              leads = subst (λ c. LeadsTo c shapes tree higher.steps u.level (map (entry_in u.nodes u.level) next)) (sym u_capacity)
                  (subst (λ l. LeadsTo t.capacity shapes tree higher.steps l (map (entry_in u.nodes l) next)) (sym u_level)
                  (subst (LeadsTo t.capacity shapes tree higher.steps (suc t.level)) same higher.leads));
              few = subst (λ c. (least_fill c - 1) * slab_len u.nodes + length next ≤ length rows + (least_fill c - 1)) (sym u_capacity) few;
            }

    -- ---- the root gets the cells that are left
    pub made-top : (u : Arena D) (tree : Tree) → Reached t cells tree → Fills t u t.root t.level cells → tree_in u ≡ tree
    made-top u tree reached fills =
        let top = node-from_level t.nodes t.root t.level so_far.opened.linked.root_level in
        let empty : top.0.cells ≡ [] = sym (ap cells_of top.1) ∙ so_far.empty in
        let here : cells_at u.nodes t.root ≡ cells = ap cells_of (fills.here top.0 top.1) ∙ ap (λ cs. cs ++ cells) empty in
        let level : u.level ≡ t.level = ap (λ x. x.level) fills.rest in
        let root : u.root ≡ t.root = ap (λ x. x.root) fills.rest in
        let at : ℕ → ℕ → Tree = λ l key. record { level = l; root = map (entry_in u.nodes l) (cells_at u.nodes key) } in
        let with : List (Entry t.level) → Tree = λ cs. record { level = t.level; root = cs } in
        ap (λ l. at l u.root) level ∙ ap (at t.level) root ∙ ap with (ap (map (entry_in u.nodes t.level)) here)
        ∙ ap with (entries-kept t.nodes u.nodes t.root t.level cells so_far.opened.linked fills.kept) ∙ reached.same

  -- a tree that is ready for rows is ready for the nested tree that has them
  same-rows : (rows : List (Row D)) → rows_in (map cell_of rows) ≡ rows_among rows
  same-rows [] = refl
  same-rows (r ∷ rs) = let one : Nested = record { id = r.id; rect = r.rect } in ap (λ xs. one ∷ xs) (same-rows rs)

  pub ready-meant : (t : Arena D) (capacity : ℕ) (shapes : List Shape) (rows : List (Row D)) (items : List (Cell D)) (tree : Tree) → items ≡ map cell_of rows →
      IsReadyFor t capacity items → IsListed capacity shapes rows tree → IsMeant t.capacity shapes (rows_in items) tree
  ready-meant t capacity shapes rows items tree is ready listed =
      subst (λ c. IsMeant c shapes (rows_in items) tree) (sym ready.capacity_is)
      (subst (λ rs. IsMeant capacity shapes rs tree) (sym (ap rows_in is ∙ same-rows rows)) listed.meant)

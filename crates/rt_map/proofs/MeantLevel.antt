-- A level of the nested tree that is meant, some of whose nodes are made.
use Rattle.std.proofs.Common.{◌≡◌, ◌≢◌, ℕ, suc, ◌+◌, ◌<◌, true, cond, List, [], ◌∷◌, ◌++◌, length, map, take, drop, get_or, Some, append_assoc, append-nil, arith, eq-eqb, ap, ◌∙◌, sym, subst}
use Rattle.std.specs.Prelude.{◌==◌}
use Rattle.std.specs.List.{All, filter}
use Rattle.std.proofs.lemmas.Bool.{ne_eqb}
use Rattle.std.proofs.lemmas.Option.{none-some}
use Rattle.std.proofs.lemmas.List.{take-map, drop-map, take_at, drop_at, drop_more, map_push, length-append, length-map, nil_from_length}
use Rattle.std.proofs.lemmas.List.Elements.{All-head, All-tail}
use Rattle.slab.specs.Slab.{Slab, HasRoomFor}
use Rattle.rt_tree_node.specs.declared.arena.Arena.{Arena}
use Rattle.rt_tree_node.specs.declared.cell.Cell.{Cell}
use Rattle.rt_tree_node.specs.declared.cell.Pending.{Pending}
use Rattle.rt_tree_node.specs.Node.{NodeCells}
use Rattle.rt_tree_node.specs.Places.{level_of, cells_at, level_at, pending_at}
use Rattle.rt_tree_node.specs.Sound.{Names, IsLinked}
use Rattle.rt_tree_node.proofs.Links.{All-right}
use Rattle.rt_tree_rules.specs.Nested.{Entry}
use Rattle.rt_tree_obeys.specs.View.{entry_in}
use Rattle.rt_tree_obeys.proofs.Frames.{below, entries_same}
use Rattle.rt_tree_pack.specs.Steps.{above, PacksNode}
use Rattle.rt_tree_pack.proofs.NewNode.{All-pending}
use Rattle.rt_map.specs.declared.shape.Shape.{Shape}
use Rattle.rt_map.specs.LevelSteps.{FitsNext}
use Rattle.rt_map.specs.Meant.{sizes_at, cells_in, IsNodeSize, Awaits}

-- ---- sizes

pub size-other : (level : ℕ) (s : Shape) (shapes : List Shape) → s.level ≢ level → sizes_at level (s ∷ shapes) ≡ sizes_at level shapes
size-other level s shapes other =
    let rest = filter (λ (x : Shape). x.level == level) shapes in
    ap (λ b. map (λ (x : Shape). x.cells) (cond b (s ∷ rest) rest)) (ne_eqb s.level level other)

pub size-same : (level : ℕ) (s : Shape) (shapes : List Shape) → (s.level == level) ≡ true → sizes_at level (s ∷ shapes) ≡ s.cells ∷ sizes_at level shapes
size-same level s shapes same =
    let rest = filter (λ (x : Shape). x.level == level) shapes in
    ap (λ b. map (λ (x : Shape). x.cells) (cond b (s ∷ rest) rest)) same

-- read past the end alone
abbrev pub no_shape : Shape
no_shape = record { level = 0; cells = 0 }

pub sizes-next : (level : ℕ) (shapes : List Shape) (at : ℕ) (d : Shape) → at < length shapes → (get_or shapes at d).level ≡ level →
    sizes_at level (drop at shapes) ≡ (get_or shapes at d).cells ∷ sizes_at level (drop (at + 1) shapes)
sizes-next level shapes at d within here =
    ap (sizes_at level) (drop_more shapes at d within) ∙ size-same level (get_or shapes at d) (drop (at + 1) shapes) (eq-eqb (get_or shapes at d).level level here)

-- ---- the next node

module _ {D : ℕ} where
  -- the next node has its cells among those that are left
  pub record Next (t : Arena D) (level size : ℕ) (sizes : List ℕ) (left next : List (Cell D)) (nodes : List (Entry (suc level))) : Type 0 where
    pub node : Entry (suc level)
    pub others : List (Entry (suc level))
    pub nodes_are : nodes ≡ map (entry_in t.nodes (suc level)) next ++ node ∷ others
    pub sizes_are : sizes ≡ map (length {A = Entry level}) others
    pub front : map (entry_in t.nodes level) (take size left) ≡ node
    pub back : map (entry_in t.nodes level) (drop size left) ≡ cells_in level others
    pub fit : All (λ n. IsNodeSize t.capacity (length {A = Entry level} n)) others
    pub fits : FitsNext t size (length left)
    pub room : HasRoomFor t.nodes (length others + 1)

  next-of : (t : Arena D) (level size : ℕ) (sizes : List ℕ) (left next : List (Cell D)) (nodes : List (Entry (suc level))) →
      (others : List (Entry (suc level))) → nodes ≡ map (entry_in t.nodes (suc level)) next ++ others →
      size ∷ sizes ≡ map (length {A = Entry level}) others → map (entry_in t.nodes level) left ≡ cells_in level others →
      All (λ n. IsNodeSize t.capacity (length {A = Entry level} n)) others → HasRoomFor t.nodes (length others) →
      Next t level size sizes left next nodes
  next-of t level size sizes left next nodes [] nodes_are sizes_are cells_are fit room = absurd (omega (arith, ap length sizes_are))
  next-of t level size sizes left next nodes (n ∷ ns) nodes_are sizes_are cells_are fit room =
      let f = entry_in t.nodes level in
      let P : Entry (suc level) → Type 0 = λ x. IsNodeSize t.capacity (length {A = Entry level} x) in
      let long : size ≡ length {A = Entry level} n = cc in
      let rest : sizes ≡ map (length {A = Entry level}) ns = cc in
      let first = All-head P n ns fit in
      let behind = cells_in level ns in
      let count : length (map f left) ≡ length {A = Entry level} n + length behind = ap length cells_are ∙ length-append n behind in
      record {
        node = n;
        others = ns;
        nodes_are = nodes_are;
        sizes_are = rest;
        front = sym (take-map f size left) ∙ ap (take size) cells_are ∙ take_at n behind size (sym long);
        back = sym (drop-map f size left) ∙ ap (drop size) cells_are ∙ drop_at n behind size (sym long);
        fit = All-tail P n ns fit;
        fits = record {
          least = omega (arith, first.least, long);
          most = omega (arith, first.most, long);
          within = omega (arith, count, long, length-map left f);
          room = omega (arith, room);
        };
        room = omega (arith, room);
      }

  pub next-node : (t : Arena D) (level size : ℕ) (sizes : List ℕ) (left next : List (Cell D)) (nodes : List (Entry (suc level))) →
      Awaits t level (size ∷ sizes) left next nodes → Next t level size sizes left next nodes
  next-node t level size sizes left next nodes waits =
      next-of t level size sizes left next nodes waits.others waits.nodes_are waits.sizes_are waits.cells_are waits.fit waits.room

  -- all nodes are made
  pub none-awaited : (t : Arena D) (level : ℕ) (left next : List (Cell D)) (nodes : List (Entry (suc level))) → Awaits t level [] left next nodes → left ≡ []
  none-awaited t level left next nodes waits =
      let none : waits.others ≡ [] = nil_from_length waits.others (omega (arith, ap length waits.sizes_are, length-map waits.others (length {A = Entry level}))) in
      let f = entry_in t.nodes level in
      nil_from_length left (omega (arith, length-map left f, ap length (waits.cells_are ∙ ap (cells_in level) none)))

  -- ---- a node more is made
  module _ (t u : Arena D) (level : ℕ) (run rest next : List (Cell D)) (cell : Cell D)
      (linked : IsLinked t.nodes t.root t.level (pending_at level run ++ (pending_at level rest ++ above level next))) (step : PacksNode t u level run cell) where
    abbrev a : Slab (NodeCells D)
    a = t.nodes

    abbrev b : Slab (NodeCells D)
    b = u.nodes

    kept-at : (x j : ℕ) → level_at a x ≡ Some j → cells_at b x ≡ cells_at a x
    kept-at x j here = step.kept x (λ e. none-some j (sym (ap level_of step.fresh) ∙ ap (level_at a) (sym e) ∙ here))

    abbrev IsNamed : Pending D → Type 0
    IsNamed w = (i : ℕ) → w.level ≡ suc i → Names a i w.cell

    same : (l : ℕ) (cells : List (Cell D)) → All (λ c. IsNamed record { level = l; cell = c }) cells → map (entry_in b l) cells ≡ map (entry_in a l) cells
    same l cells named =
        entries_same a b l l cells (below a b l linked.children (λ x j here less. kept-at x j here)) (omega arith)
        (λ i e k d within. (named k d within i e).level_is)

    pub run-same : map (entry_in b level) run ≡ map (entry_in a level) run
    run-same = same level run (All-pending IsNamed level run (pending_at level rest ++ above level next) linked.pending_named)

    behind : All IsNamed (pending_at level rest ++ above level next)
    behind = All-right IsNamed (pending_at level run) (pending_at level rest ++ above level next) linked.pending_named

    rest-same : map (entry_in b level) rest ≡ map (entry_in a level) rest
    rest-same = same level rest (All-pending IsNamed level rest (above level next) behind)

    next-same : map (entry_in b (suc level)) next ≡ map (entry_in a (suc level)) next
    next-same =
        let later = subst (All IsNamed) (sym (append-nil (above level next))) (All-right IsNamed (pending_at level rest) (above level next) behind) in
        same (suc level) next (All-pending IsNamed (suc level) next [] later)

    pub made-more : (size : ℕ) (sizes : List ℕ) (left : List (Cell D)) (nodes : List (Entry (suc level))) → run ≡ take size left → rest ≡ drop size left →
        Next t level size sizes left next nodes → Awaits u level sizes rest (next ++ cell ∷ []) nodes
    made-more size sizes left nodes front back found =
        let f = entry_in b (suc level) in
        let node : entry_in b (suc level) cell ≡ found.node =
        ap (map (entry_in b level)) step.made ∙ run-same ∙ ap (map (entry_in a level)) front ∙ found.front in
        let capacity : u.capacity ≡ t.capacity = ap (λ v. v.capacity) step.rest in
        record {
          others = found.others;
          nodes_are = found.nodes_are ∙ ap (λ xs. xs ++ found.node ∷ found.others) (sym next-same)
              ∙ ap (λ x. map f next ++ x ∷ found.others) (sym node) ∙ sym (append_assoc (map f next) (f cell ∷ []) found.others)
              ∙ ap (λ xs. xs ++ found.others) (sym (map_push f next cell));
          sizes_are = found.sizes_are;
          cells_are = rest-same ∙ ap (map (entry_in a level)) back ∙ found.back;
          fit = subst (λ m. All (λ n. IsNodeSize m (length {A = Entry level} n)) found.others) (sym capacity) found.fit;
          room = omega (arith, found.room, step.len, step.room);
        }

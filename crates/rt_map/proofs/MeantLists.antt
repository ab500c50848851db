-- The lists of a sound tree in preorder are those of one nested tree, which is meant by their shapes and rows.
use Rattle.std.proofs.Common.{◌≡◌, ℕ, zero, suc, ◌+◌, ◌<◌, ◌≤◌, ℤ, pos, cond, List, [], ◌∷◌, ◌++◌, length, map, Option, Some, None, append-nil, arith, refl, eq-eqb, ap, ◌∙◌, sym, subst}
use Rattle.std.specs.Prelude.{◌==◌}
use Rattle.std.specs.List.{All, filter, flat_map}
use Rattle.std.proofs.lemmas.Bool.{ne_eqb}
use Rattle.std.proofs.lemmas.List.{map-append, length-map}
use Rattle.std.proofs.lemmas.List.Concat.{flat_map-append}
use Rattle.std.proofs.lemmas.List.Elements.{All-nil, All-head, All-tail, All-append, All-filter, All-map, All-weaker, filter-append}
use Rattle.rt_box.specs.declared.interval.Interval.{Interval}
use Rattle.rt_check.specs.declared.node.NodeRow.{NodeRow}
use Rattle.rt_check.specs.declared.node.RawCell.{RawCell}
use Rattle.rt_check.specs.Shadow.{ShadowLists}
use Rattle.rt_check.specs.Conditions.{leaf_cells}
use Rattle.rt_tree.specs.Lists.{IsInShape, box_in, row_in, rows_of}
use Rattle.rt_tree.proofs.Rows.{intervals-back}
use Rattle.rt_tree_pack.proofs.NewNode.{All-unmapped}
use Rattle.rt_tree_rules.specs.Nested.{Row as Nested, Entry, Node, Tree}
use Rattle.rt_tree_rules.specs.Filled.{IsFilled, IsFilledTree}
use Rattle.rt_tree_rules.specs.Shadow.{node_count, starts, row_cell, child_cell, nodes_in, Shows}
use Rattle.rt_tree_rules.proofs.Faithful.{length_starts}
use Rattle.rt_map.specs.declared.shape.Shape.{Shape}
use Rattle.rt_map.specs.ReadingInside.{shape_in, AreParts}
use Rattle.rt_map.specs.Meant.{sizes_at, cells_in, IsNodeSize, IsRootSize, LeadsTo, top_level, IsMeant, rows_among, IsListed}
use Rattle.rt_tree_node.specs.Whole.{most_rows_of_a_tree}
use Rattle.rt_tree_walk.specs.declared.searching.Row.{Row as ListedRow}
use Rattle.rt_check.specs.Conditions.{IsSound}
use Rattle.rt_box.specs.Capacity.{IsCapacity}
use Rattle.rt_tree_one.specs.Laws.{CellsHaveAxes}
use Rattle.rt_tree_one.proofs.Nested.{nested}
use Rattle.rt_tree_one.proofs.Filled.{filled}
use Rattle.rt_map.specs.Written.{AreBytesOf}
use Rattle.rt_map.proofs.SoundLists.{few-cells, ordered-cells, no-repetition}
use Rattle.rt_map.proofs.MeantLevel.{size-other, size-same}

-- ---- the shapes of a nested node's nodes

abbrev shapes_of : (l : ℕ) → Node l → List Shape
shapes_of zero node = record { level = 0; cells = length {A = Nested} node } ∷ []
shapes_of (suc l) node = record { level = suc l; cells = length {A = Node l} node } ∷ flat_map (shapes_of l) node

-- of several nodes of a level
abbrev forest : (l : ℕ) → List (Node l) → List Shape
forest l nodes = flat_map (shapes_of l) nodes

module _ (D : ℕ) where
  shapes-below : (l : ℕ) → ((number : ℕ) (parent : Option ℤ) (node : Node l) → map shape_in (nodes_in {D = D} l number parent node) ≡ shapes_of l node) →
      (number : ℕ) (parent : Option ℤ) (nodes : List (Node l)) →
      map shape_in (flat_map (λ s. nodes_in {D = D} l s.0 parent s.1) (starts (node_count l) number nodes)) ≡ forest l nodes
  shapes-below l by number parent [] = refl
  shapes-below l by number parent (n ∷ ns) =
      let later = number + node_count l n in
      let rest = flat_map (λ s. nodes_in {D = D} l s.0 parent s.1) (starts (node_count l) later ns) in
      map-append shape_in (nodes_in l number parent n) rest ∙ ap (λ xs. xs ++ map shape_in rest) (by number parent n)
      ∙ ap (λ xs. shapes_of l n ++ xs) (shapes-below l by later parent ns)

  shapes-are : (l number : ℕ) (parent : Option ℤ) (node : Node l) → map shape_in (nodes_in {D = D} l number parent node) ≡ shapes_of l node
  shapes-are zero number parent node =
      let with : ℕ → List Shape = λ n. record { level = 0; cells = n } ∷ [] in
      ap with (length-map node (row_cell {D = D}))
  shapes-are (suc l) number parent node =
      let below = map shape_in (flat_map (λ s. nodes_in {D = D} l s.0 (Some (pos number)) s.1) (starts (node_count l) (number + 1) node)) in
      let with : ℕ → List Shape = λ n. record { level = suc l; cells = n } ∷ below in
      let under : List Shape → List Shape = λ xs. record { level = suc l; cells = length {A = Node l} node } ∷ xs in
      ap with (length_starts D l (number + 1) node) ∙ ap under (shapes-below l (shapes-are l) (number + 1) (Some (pos number)) node)

-- ---- the sizes of a level

sizes-append : (level : ℕ) (xs ys : List Shape) → sizes_at level (xs ++ ys) ≡ sizes_at level xs ++ sizes_at level ys
sizes-append level xs ys =
    let test = λ (s : Shape). s.level == level in
    let cells = λ (s : Shape). s.cells in
    ap (map cells) (filter-append test xs ys) ∙ map-append cells (filter test xs) (filter test ys)

sizes-high-below : (level l : ℕ) → ((node : Node l) → sizes_at level (shapes_of l node) ≡ []) → (nodes : List (Node l)) → sizes_at level (forest l nodes) ≡ []
sizes-high-below level l by [] = refl
sizes-high-below level l by (n ∷ ns) =
    sizes-append level (shapes_of l n) (forest l ns) ∙ ap (λ xs. xs ++ sizes_at level (forest l ns)) (by n) ∙ sizes-high-below level l by ns

sizes-high : (level l : ℕ) → l < level → (node : Node l) → sizes_at level (shapes_of l node) ≡ []
sizes-high level zero high node = size-other level record { level = 0; cells = length {A = Nested} node } [] (λ e. absurd (omega arith))
sizes-high level (suc l) high node =
    size-other level record { level = suc l; cells = length {A = Node l} node } (forest l node) (λ e. absurd (omega arith))
    ∙ sizes-high-below level l (sizes-high level l (omega arith)) node

size-of : (l : ℕ) (node : Node l) → sizes_at l (shapes_of l node) ≡ length {A = Entry l} node ∷ []
size-of zero node = refl
size-of (suc l) node =
    let n = length {A = Node l} node in
    size-same (suc l) record { level = suc l; cells = n } (forest l node) (eq-eqb (suc l) (suc l) refl)
    ∙ ap (λ xs. n ∷ xs) (sizes-high-below (suc l) l (sizes-high (suc l) l (omega arith)) node)

sizes-of : (l : ℕ) (nodes : List (Node l)) → sizes_at l (forest l nodes) ≡ map (length {A = Entry l}) nodes
sizes-of l [] = refl
sizes-of l (n ∷ ns) =
    sizes-append l (shapes_of l n) (forest l ns) ∙ ap (λ xs. xs ++ sizes_at l (forest l ns)) (size-of l n)
    ∙ ap (λ xs. length {A = Entry l} n ∷ xs) (sizes-of l ns)

-- a level below is that of the cells
sizes-under : (level l : ℕ) → level ≤ l → (nodes : List (Node (suc l))) → sizes_at level (forest (suc l) nodes) ≡ sizes_at level (forest l (cells_in (suc l) nodes))
sizes-under level l low [] = refl
sizes-under level l low (n ∷ ns) =
    sizes-append level (shapes_of (suc l) n) (forest (suc l) ns)
    ∙ ap (λ xs. xs ++ sizes_at level (forest (suc l) ns))
    (size-other level record { level = suc l; cells = length {A = Node l} n } (forest l n) (λ e. absurd (omega arith)))
    ∙ ap (λ xs. sizes_at level (forest l n) ++ xs) (sizes-under level l low ns)
    ∙ sym (sizes-append level (forest l n) (forest l (cells_in (suc l) ns)))
    ∙ ap (sizes_at level) (sym (flat_map-append (shapes_of l) n (cells_in (suc l) ns)))

-- ---- the rows

abbrev rows_under : (l : ℕ) → List (Node l) → List Nested
rows_under zero nodes = cells_in 0 nodes
rows_under (suc l) nodes = rows_under l (cells_in (suc l) nodes)

rows-append : (l : ℕ) (xs ys : List (Node l)) → rows_under l (xs ++ ys) ≡ rows_under l xs ++ rows_under l ys
rows-append zero xs ys = flat_map-append {X = List Nested} (λ n. n) xs ys
rows-append (suc l) xs ys = ap (rows_under l) (flat_map-append {X = Node (suc l)} (λ n. n) xs ys) ∙ rows-append l (cells_in (suc l) xs) (cells_in (suc l) ys)

module _ (D : ℕ) where
  abbrev as_row : RawCell D → Nested
  as_row c = record { id = c.number; rect = box_in c }

  abbrev rows_at : List (NodeRow D) → List Nested
  rows_at nodes = map as_row (leaf_cells nodes)

  rows-at-append : (xs ys : List (NodeRow D)) → rows_at (xs ++ ys) ≡ rows_at xs ++ rows_at ys
  rows-at-append xs ys =
      let of = λ (n : NodeRow D). cond (n.level == 0) n.cells [] in
      ap (map as_row) (flat_map-append of xs ys) ∙ map-append as_row (leaf_cells xs) (leaf_cells ys)

  row-back : (rows : List Nested) → map as_row (map (row_cell {D = D}) rows) ≡ rows
  row-back [] = refl
  row-back (r ∷ rs) =
      let with : List Interval → Nested = λ b. record { id = r.id; rect = b } in
      ap (λ x. x ∷ map as_row (map (row_cell {D = D}) rs)) (ap with (intervals-back r.rect)) ∙ ap (λ xs. r ∷ xs) (row-back rs)

  rows-below : (l : ℕ) → ((number : ℕ) (parent : Option ℤ) (node : Node l) → rows_at (nodes_in {D = D} l number parent node) ≡ rows_under l (node ∷ [])) →
      (number : ℕ) (parent : Option ℤ) (nodes : List (Node l)) →
      rows_at (flat_map (λ s. nodes_in {D = D} l s.0 parent s.1) (starts (node_count l) number nodes)) ≡ rows_under l nodes
  rows-below zero by number parent [] = refl
  rows-below (suc l) by number parent [] = sym (none l)
    where
      none : (k : ℕ) → rows_under k [] ≡ []
      none zero = refl
      none (suc k) = none k
  rows-below l by number parent (n ∷ ns) =
      let later = number + node_count l n in
      rows-at-append (nodes_in {D = D} l number parent n) (flat_map (λ s. nodes_in {D = D} l s.0 parent s.1) (starts (node_count l) later ns))
      ∙ ap (λ xs. xs ++ rows_at (flat_map (λ s. nodes_in {D = D} l s.0 parent s.1) (starts (node_count l) later ns))) (by number parent n)
      ∙ ap (λ xs. rows_under l (n ∷ []) ++ xs) (rows-below l by later parent ns) ∙ sym (rows-append l (n ∷ []) ns)

  rows-are : (l number : ℕ) (parent : Option ℤ) (node : Node l) → rows_at (nodes_in {D = D} l number parent node) ≡ rows_under l (node ∷ [])
  rows-are zero number parent node = ap (map as_row) (append-nil (map (row_cell {D = D}) node)) ∙ row-back node ∙ sym (append-nil node)
  rows-are (suc l) number parent node =
      let cells = map (child_cell {D = D} l) (starts (node_count l) (number + 1) node) in
      let below = flat_map (λ s. nodes_in {D = D} l s.0 (Some (pos number)) s.1) (starts (node_count l) (number + 1) node) in
      ap (λ b. map as_row (cond b cells [] ++ leaf_cells below)) (ne_eqb (suc l) 0 (λ e. absurd (omega arith)))
      ∙ rows-below l (rows-are l) (number + 1) (Some (pos number)) node ∙ ap (rows_under l) (sym (append-nil node))

-- ---- down to the rows

All-flat : {X : Type 0} (P : X → Type 0) (xss : List (List X)) → All (λ xs. All P xs) xss → All P (flat_map (λ xs. xs) xss)
All-flat {X} P [] all = All-nil P
All-flat {X} P (xs ∷ xss) all =
    let Q : List X → Type 0 = λ ys. All P ys in
    All-append P xs (flat_map (λ ys. ys) xss) (All-head Q xs xss all) (All-flat P xss (All-tail Q xs xss all))

module _ (capacity : ℕ) (shapes : List Shape) (tree : Tree) (few : All (λ (s : Shape). s.cells ≤ capacity) shapes) where
  -- a level of the shapes has no more cells a node
  small : (level : ℕ) → All (λ n. n ≤ capacity) (sizes_at level shapes)
  small level = All-map (λ n. n ≤ capacity) (λ (s : Shape). s.cells) (filter (λ (s : Shape). s.level == level) shapes) (All-filter (λ (s : Shape). s.level == level) (λ s. s.cells ≤ capacity) shapes few)

  sized : (l : ℕ) (nodes : List (Node l)) → All (IsFilled capacity (suc l)) nodes → sizes_at l shapes ≡ map (length {A = Entry l}) nodes →
      All (λ n. IsNodeSize capacity (length {A = Entry l} n)) nodes
  sized l nodes filled sizes =
      let most = All-unmapped (λ n. n ≤ capacity) (length {A = Entry l}) nodes (subst (All (λ n. n ≤ capacity)) sizes (small l)) in
      λ k d within. record { least = (filled k d within).0; most = most k d within }

  descend : (l steps total : ℕ) (nodes : List (Node l)) → total ≡ steps + suc l → ((level : ℕ) → level ≤ l → sizes_at level shapes ≡ sizes_at level (forest l nodes)) →
      All (IsFilled capacity (suc l)) nodes → LeadsTo capacity shapes tree steps (suc l) nodes → LeadsTo capacity shapes tree total 0 (rows_under l nodes)
  descend zero steps total nodes count sizes filled leads =
      let same = sizes 0 (omega arith) ∙ sizes-of 0 nodes in
      let counted : suc steps ≡ total = omega arith in
      subst (λ n. LeadsTo capacity shapes tree n 0 (cells_in 0 nodes)) counted (nodes, refl, same, sized 0 nodes filled same, leads)
  descend (suc l) steps total nodes count sizes filled leads =
      let same = sizes (suc l) (omega arith) ∙ sizes-of (suc l) nodes in
      let below = cells_in (suc l) nodes in
      descend l (suc steps) total below (omega arith)
      (λ level low. sizes level (omega arith) ∙ sizes-under level l low nodes)
      (All-flat (IsFilled capacity (suc l)) nodes (λ k d within. (filled k d within).1))
      (nodes, refl, same, sized (suc l) nodes filled same, leads)

  -- the root's shapes and rows are those of the tree
  at-root : (level : ℕ) (root : Node level) → record { level = level; root = root } ≡ tree → shapes ≡ shapes_of level root → All (IsFilled capacity level) root →
      (0 < level → 2 ≤ length {A = Entry level} root) → LeadsTo capacity shapes tree level 0 (rows_under level (root ∷ []))
  at-root level root is same filled two =
      let own = ap (sizes_at level) same ∙ size-of level root in
      let size : IsRootSize capacity level (length {A = Entry level} root) = record {
        most = All-head (λ n. n ≤ capacity) (length {A = Entry level} root) [] (subst (All (λ n. n ≤ capacity)) own (small level));
        branched = two;
      } in
      by level root is same filled size
    where
      by : (l : ℕ) (node : Node l) → record { level = l; root = node } ≡ tree → shapes ≡ shapes_of l node → All (IsFilled capacity l) node →
          IsRootSize capacity l (length {A = Entry l} node) → LeadsTo capacity shapes tree l 0 (rows_under l (node ∷ []))
      by zero node is same filled size = subst (λ xs. LeadsTo capacity shapes tree 0 0 xs) (sym (append-nil node)) (is, size)
      by (suc l) node is same filled size =
          subst (λ xs. LeadsTo capacity shapes tree (suc l) 0 (rows_under l xs)) (sym (append-nil node))
          (descend l 0 (suc l) node (omega arith)
          (λ level low. ap (sizes_at level) same ∙ size-other level record { level = suc l; cells = length {A = Node l} node } (forest l node) (λ e. absurd (omega arith)))
          filled (is, size))

top-of : (level : ℕ) (root : Node level) → top_level (shapes_of level root) ≡ level
top-of zero root = refl
top-of (suc l) root = refl

module _ {D : ℕ} where
  among : (cells : List (RawCell D)) → rows_among (map row_in cells) ≡ map (as_row D) cells
  among [] = refl
  among (c ∷ cs) = let one : Nested = as_row D c in ap (λ xs. one ∷ xs) (among cs)

  module _ (s : ShadowLists D) (tree : Tree) (nodes : s.nodes ≡ nodes_in tree.level 1 None tree.root) where
    shapes-same : map shape_in s.nodes ≡ shapes_of tree.level tree.root
    shapes-same = ap (map shape_in) nodes ∙ shapes-are D tree.level 1 None tree.root

    rows-same : rows_among (rows_of s) ≡ rows_under tree.level (tree.root ∷ [])
    rows-same = among (leaf_cells s.nodes) ∙ ap (rows_at D) nodes ∙ rows-are D tree.level 1 None tree.root

    -- the nested tree that the lists show is meant by them
    pub shown-meant : IsFilledTree s.capacity tree → All (λ (n : NodeRow D). length n.cells ≤ s.capacity) s.nodes →
        IsMeant s.capacity (map shape_in s.nodes) (rows_among (rows_of s)) tree
    shown-meant filled few = record {
      top = ap top_level shapes-same ∙ top-of tree.level tree.root;
      leads = subst (LeadsTo s.capacity (map shape_in s.nodes) tree tree.level 0) (sym rows-same)
          (at-root s.capacity (map shape_in s.nodes) tree (All-map (λ (x : Shape). x.cells ≤ s.capacity) shape_in s.nodes few) tree.level tree.root refl shapes-same filled.below filled.root);
    }

    pub shown-listed : IsSound s → IsFilledTree s.capacity tree → length (rows_of s) ≤ most_rows_of_a_tree → IsListed s.capacity (map shape_in s.nodes) (rows_of s) tree
    shown-listed sound filled most = record { meant = shown-meant filled (few-cells s sound); most = most; once = no-repetition s sound }

  -- sound lists in preorder show a nested tree
  pub shape-listed : (s : ShadowLists D) → IsCapacity s.capacity → CellsHaveAxes s → IsInShape s → length (rows_of s) ≤ most_rows_of_a_tree →
      (tree : Tree) × Shows s tree × IsListed s.capacity (map shape_in s.nodes) (rows_of s) tree
  shape-listed s capacity axes shape most =
      let found = nested D s capacity axes shape.sound shape.preorder in
      let full = filled D s found.0 shape.sound found.1 in
      (found.0, found.1, shown-listed s found.0 found.1.1 shape.sound full most)

  -- what is equal to them means the same
  pub listed-at : (s : ShadowLists D) (capacity : ℕ) (shapes : List Shape) (rows : List (ListedRow D)) (tree : Tree) →
      capacity ≡ s.capacity → shapes ≡ map shape_in s.nodes → rows ≡ rows_of s → IsListed s.capacity (map shape_in s.nodes) (rows_of s) tree → IsListed capacity shapes rows tree
  listed-at s capacity shapes rows tree same_capacity same_shapes same_rows listed =
      subst (λ c. IsListed c shapes rows tree) (sym same_capacity)
      (subst (λ (xs : List Shape). IsListed s.capacity xs rows tree) (sym same_shapes)
      (subst (λ (rs : List (ListedRow D)). IsListed s.capacity (map shape_in s.nodes) rs tree) (sym same_rows) listed))

  -- so do the lists of a tree
  pub listed-tree : (s : ShadowLists D) (bytes : List ℕ) → AreBytesOf s bytes →
      (tree : Tree) × (s.nodes ≡ nodes_in tree.level 1 None tree.root) × IsListed s.capacity (map shape_in s.nodes) (rows_of s) tree
  listed-tree s bytes are =
      let axes : CellsHaveAxes s = λ k d within j e inside. let cell = are.cells k d within j e inside in (cell.axes_lo, cell.axes_hi) in
      let found = shape-listed s are.capacity axes are.shape are.most in
      (found.0, found.1.1, found.2)

  -- and they can be read
  pub readable : (s : ShadowLists D) (bytes : List ℕ) → AreBytesOf s bytes → AreParts s
  readable s bytes are =
      let high = are.capacity.1 in
      let few = few-cells s are.shape.sound in
      let F : NodeRow D → Type 0 = λ n. length n.cells < 256 in
      let Q : NodeRow D → Type 0 = λ n. length n.cells ≤ s.capacity in
      record {
        capacity = are.capacity;
        nodes = record {
          few = All-weaker Q F (λ n small. omega arith) s.nodes few;
          written = are.cells;
          ordered = λ k d within leaf. ordered-cells s are.shape.sound k d within;
        };
      }

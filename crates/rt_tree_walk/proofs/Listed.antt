-- The keys in preorder: each node's key is listed once, and no other.
use Rattle.std.proofs.Common.{◌≡◌, ◌≢◌, ℕ, zero, suc, ◌+◌, ◌-◌, ◌<◌, ◌≤◌, List, [], ◌∷◌, Contains, Some, nat_eq, eqb-true, arith, refl, ap, sym, ◌∙◌, subst, inl, inr}
use Rattle.std.specs.List.{All, flat_map}
use Rattle.std.proofs.lemmas.Bool.{cases_eq}
use Rattle.std.proofs.lemmas.Option.{same_Some, none-some}
use Rattle.std.proofs.lemmas.List.Elements.{All-nil, All-cons, All-head, All-tail, All-append, All-weaker}
use Rattle.rt_tree_node.specs.declared.arena.Arena.{Arena}
use Rattle.rt_tree_node.specs.declared.cell.Cell.{Cell}
use Rattle.rt_tree_node.specs.Places.{key_of, times_named, cells_at, inner_cells_at, level_at, parent_at}
use Rattle.rt_tree_node.specs.Sound.{IsLinked, NamesChild}
use Rattle.rt_tree_node.proofs.Counts.{count-append}
use Rattle.rt_tree_node.proofs.Places.{inner-at_inner, names_key}
use Rattle.rt_tree_node.proofs.Links.{above-some, unnamed-elsewhere}
use Rattle.rt_tree_walk.specs.Search.{times}
use Rattle.rt_tree_walk.specs.Preorder.{keys_in, tree_keys}
use Rattle.rt_tree_walk.proofs.Totals.{times-append, times-one, times-other, times-cons}
use Rattle.rt_tree_walk.proofs.Reaching.{counted-contained, named-by}
use Rattle.rt_tree_walk.proofs.Progress.{IsSettled, settled-linked}

-- what is listed is contained
pub contained-from_times : (k : ℕ) (xs : List ℕ) → 0 < times k xs → Contains xs k
contained-from_times k xs some =
    let r = counted-contained (λ x. nat_eq x k) xs some in
    subst (Contains xs) (eqb-true r.0 k r.2) r.1

pub All-flat : {X Y : Type 0} (P : Y → Type 0) (f : X → List Y) (xs : List X) → All (λ x. All P (f x)) xs → All P (flat_map f xs)
All-flat P f [] all = All-nil P
All-flat P f (x ∷ xs) all =
    All-append P (f x) (flat_map f xs) (All-head (λ y. All P (f y)) x xs all) (All-flat P f xs (All-tail (λ y. All P (f y)) x xs all))

module _ {D : ℕ} (t : Arena D) (s : IsSettled t) where
  links : IsLinked t.nodes t.root t.level []
  links = settled-linked t s

  pub levels-below : (j l : ℕ) → level_at t.nodes j ≡ Some (suc l) → All (λ c. level_at t.nodes (key_of c) ≡ Some l) (cells_at t.nodes j)
  levels-below j l e = All-weaker (NamesChild t.nodes l j) (λ c. level_at t.nodes (key_of c) ≡ Some l) (λ c is. is.names.level_is) (cells_at t.nodes j) (links.children j l e)

  abbrev pub HasNode : ℕ → Type 0
  HasNode k = (l : ℕ) × (level_at t.nodes k ≡ Some l)

  keys-there : (l j : ℕ) → level_at t.nodes j ≡ Some l → All HasNode (keys_in t.nodes l j)
  keys-there zero j e = All-cons HasNode j [] (0, e) (All-nil HasNode)
  keys-there (suc l) j e =
      All-cons HasNode j (flat_map (λ c. keys_in t.nodes l (key_of c)) (cells_at t.nodes j)) (suc l, e)
      (All-flat HasNode (λ c. keys_in t.nodes l (key_of c)) (cells_at t.nodes j)
      (All-weaker (λ c. level_at t.nodes (key_of c) ≡ Some l) (λ c. All HasNode (keys_in t.nodes l (key_of c))) (λ c is. keys-there l (key_of c) is) (cells_at t.nodes j) (levels-below j l e)))

  -- each listed key has a node
  pub listed-there : All HasNode (tree_keys t)
  listed-there = keys-there t.level t.root links.root_level

  module _ (k p lk : ℕ) (at : level_at t.nodes k ≡ Some lk) (ne : k ≢ t.root) (up : parent_at t.nodes k ≡ Some p) (high : level_at t.nodes p ≡ Some (suc lk)) where
    -- below a node that isn't its own, a key is listed as often as its parent's
    cells-climb : (l : ℕ) → ((j : ℕ) → level_at t.nodes j ≡ Some l → times k (keys_in t.nodes l j) ≡ times k (j ∷ []) + times p (keys_in t.nodes l j)) →
        (cells : List (Cell D)) → All (λ c. level_at t.nodes (key_of c) ≡ Some l) cells →
        times k (flat_map (λ c. keys_in t.nodes l (key_of c)) cells) ≡ times_named k cells + times p (flat_map (λ c. keys_in t.nodes l (key_of c)) cells)
    cells-climb l by [] all = refl
    cells-climb l by (c ∷ cs) all =
        let rest = flat_map (λ c. keys_in t.nodes l (key_of c)) cs in
        let mine = keys_in t.nodes l (key_of c) in
        let named : times k (key_of c ∷ []) ≡ times_named k (c ∷ []) = refl in
        omega (
          arith,
          times-append k mine rest,
          times-append p mine rest,
          by (key_of c) (All-head (λ x. level_at t.nodes (key_of x) ≡ Some l) c cs all),
          cells-climb l by cs (All-tail (λ x. level_at t.nodes (key_of x) ≡ Some l) c cs all),
          count-append (names_key k) (c ∷ []) cs,
          named,
        )

    pub named-here : (j l : ℕ) → level_at t.nodes j ≡ Some (suc l) → times_named k (cells_at t.nodes j) ≡ times p (j ∷ [])
    named-here j l e = elim (cases_eq j p) [
      | inl is ↦
          let same = ap (times_named k) (above-some t.nodes k p up ∙ ap (inner_cells_at t.nodes) (sym is) ∙ inner-at_inner t.nodes j l e) in
          omega (arith, same, links.named k lk at ne, times-one p j is)
      | inr other ↦
          let none = unnamed-elsewhere t.nodes t.root t.level [] links j k (λ q. other (sym (same_Some p j (sym up ∙ q)))) in
          let same = ap (times_named k) (inner-at_inner t.nodes j l e) in
          omega (arith, none, same, times-other p j other)
    ]

    climb : (l j : ℕ) → level_at t.nodes j ≡ Some l → times k (keys_in t.nodes l j) ≡ times k (j ∷ []) + times p (keys_in t.nodes l j)
    climb zero j e =
        let low : j ≢ p = λ q. let c : 0 ≡ suc lk = same_Some 0 (suc lk) (sym e ∙ ap (level_at t.nodes) q ∙ high) in absurd (omega arith) in
        omega (arith, times-other p j low)
    climb (suc l) j e =
        let rest = flat_map (λ c. keys_in t.nodes l (key_of c)) (cells_at t.nodes j) in
        omega (arith, times-cons k j rest, times-cons p j rest, named-here j l e, cells-climb l (climb l) (cells_at t.nodes j) (levels-below j l e))

  root-cells : (l : ℕ) → ((j : ℕ) → level_at t.nodes j ≡ Some l → times t.root (keys_in t.nodes l j) ≡ times t.root (j ∷ [])) →
      (j : ℕ) (cells : List (Cell D)) → All (NamesChild t.nodes l j) cells → times t.root (flat_map (λ c. keys_in t.nodes l (key_of c)) cells) ≡ 0
  root-cells l by j [] all = refl
  root-cells l by j (c ∷ cs) all =
      let is = All-head (NamesChild t.nodes l j) c cs all in
      let ne : key_of c ≢ t.root = λ q. none-some j (sym links.root_parent ∙ ap (parent_at t.nodes) (sym q) ∙ is.parent_is) in
      omega (
        arith,
        times-append t.root (keys_in t.nodes l (key_of c)) (flat_map (λ c. keys_in t.nodes l (key_of c)) cs),
        by (key_of c) is.names.level_is,
        times-other t.root (key_of c) ne,
        root-cells l by j cs (All-tail (NamesChild t.nodes l j) c cs all),
      )

  root-once : (l j : ℕ) → level_at t.nodes j ≡ Some l → times t.root (keys_in t.nodes l j) ≡ times t.root (j ∷ [])
  root-once zero j e = refl
  root-once (suc l) j e =
      omega (
        arith,
        times-cons t.root j (flat_map (λ c. keys_in t.nodes l (key_of c)) (cells_at t.nodes j)),
        root-cells l (root-once l) j (cells_at t.nodes j) (links.children j l e),
      )

  root-listed : times t.root (tree_keys t) ≡ 1
  root-listed = root-once t.level t.root links.root_level ∙ times-one t.root t.root refl

  listed-climb : (n k l : ℕ) → level_at t.nodes k ≡ Some l → l + n ≡ t.level → times k (tree_keys t) ≡ 1
  listed-climb zero k l e up = elim (cases_eq k t.root) [
    | inl is ↦ ap (λ j. times j (tree_keys t)) is ∙ root-listed
    | inr ne ↦
        let p = named-by t.nodes t.root t.level links k l e ne in
        let high = links.levels p.0 (suc l) p.2.level_is in
        absurd (omega arith)
  ]
  listed-climb (suc n) k l e up = elim (cases_eq k t.root) [
    | inl is ↦ ap (λ j. times j (tree_keys t)) is ∙ root-listed
    | inr ne ↦
        let p = named-by t.nodes t.root t.level links k l e ne in
        let above = listed-climb n p.0 (suc l) p.2.level_is (omega arith) in
        let here = climb k p.0 l e ne p.2.parent_is p.2.level_is t.level t.root links.root_level in
        omega (arith, above, here, times-other k t.root (λ q. ne (sym q)))
  ]

  -- each node's key is listed once
  pub listed-once : (k l : ℕ) → level_at t.nodes k ≡ Some l → times k (tree_keys t) ≡ 1
  listed-once k l e = let r = lower (links.levels k l e) in listed-climb r.0 k l e r.1
    where
      lower : l ≤ t.level → (n : ℕ) × (l + n ≡ t.level)
      lower h = (t.level - l, omega arith)

  pub listed-contained : (k l : ℕ) → level_at t.nodes k ≡ Some l → Contains (tree_keys t) k
  listed-contained k l e = contained-from_times k (tree_keys t) (omega (arith, listed-once k l e))

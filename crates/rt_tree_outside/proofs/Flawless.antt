-- The shadow of a settled tree is sound.
use Rattle.std.proofs.Common.{◌≡◌, ℕ, zero, suc, ◌+◌, ◌<◌, Bool, true, not, ◌||◌, cond, ℤ, pos, List, [], ◌∷◌, ◌++◌, length, map, get_or, Contains, Some, arith, refl, ap, sym, ◌∙◌, inl, inr}
use Rattle.std.specs.List.{flat_map}
use Rattle.std.proofs.lemmas.Bool.{cases_eq}
use Rattle.slab.specs.Slab.{Slab}
use Rattle.rt_check.specs.declared.node.NodeRow.{NodeRow}
use Rattle.rt_check.specs.declared.problem.Problem.{Problem}
use Rattle.rt_check.specs.declared.problem.Condition.{Condition}
use Rattle.rt_check.specs.declared.problem.Condition.TheVariants.{HasRoot, HasPlace, NamesChild, IsOrdered, HoldsChild, FitsChild, IsFilled, HasEntry}
use Rattle.rt_check.specs.Conditions.{is_leaf, has_place, names_child, is_ordered, holds_child, fits_child, is_filled, has_entry, root_problems, node_problems, IsSound}
use Rattle.rt_tree_node.specs.declared.arena.Arena.{Arena}
use Rattle.rt_tree_node.specs.Node.{NodeCells}
use Rattle.rt_tree_node.specs.Places.{key_of, cells_at, level_at}
use Rattle.rt_tree_node.specs.Whole.{IsBranched}
use Rattle.rt_tree_walk.specs.Preorder.{keys_in, tree_keys, number_in}
use Rattle.rt_tree_outside.specs.Outside.{outside}
use Rattle.rt_tree_outside.proofs.Numbering.{place, place-here, place-later, contained-cons}
use Rattle.rt_tree_walk.proofs.Progress.{IsSettled}
use Rattle.rt_tree_walk.proofs.Listed.{listed-there, listed-once, listed-contained}
use Rattle.rt_tree_outside.proofs.Failing.{failing-none}
use Rattle.rt_tree_outside.proofs.Judged.{IsNumbering, row, lists, rows-all, rooted, placed, filled, cells-none, child-named, cells-ordered}
use Rattle.rt_tree_outside.proofs.Fitting.{children-held, children-fit, rows-entered, rows-celled}

-- ---- places in the list of keys
place-short : (key : ℕ) (xs : List ℕ) → Contains xs key → place xs key < length xs
place-short key [] h = absurd (omega (arith, h.1))
place-short key (x ∷ xs) h = elim (cases_eq x key) [
  | inl e ↦ omega (arith, place-here x key xs e)
  | inr ne ↦ let r = place-short key xs (contained-cons x key xs ne h) in omega (arith, r, place-later x key xs ne)
]

place-read : (key : ℕ) (xs : List ℕ) → place xs key < length xs → get_or xs (place xs key) 0 ≡ key
place-read key [] h = absurd (omega arith)
place-read key (x ∷ xs) h = elim (cases_eq x key) [
  | inl e ↦ ap (λ n. get_or (x ∷ xs) n 0) (place-here x key xs e) ∙ e
  | inr ne ↦
      let next : place (x ∷ xs) key ≡ suc (place xs key) = omega (arith, place-later x key xs ne) in
      ap (λ n. get_or (x ∷ xs) n 0) next ∙ place-read key xs (omega (arith, h, next))
]

same-pos : (a b : ℕ) → pos (a + 1) ≡ pos (b + 1) → a ≡ b
same-pos a b e = let h : a + 1 ≡ b + 1 = cc in omega arith

apart-in : (xs : List ℕ) (k j : ℕ) → Contains xs k → number_in xs k ≡ number_in xs j → j ≡ k
apart-in xs k j h e =
    let same = same-pos (place xs k) (place xs j) e in
    let short = place-short k xs h in
    sym (place-read j xs (omega (arith, same, short))) ∙ ap (λ n. get_or xs n 0) (sym same) ∙ place-read k xs short

joined : {X : Type 0} (xs ys : List X) → xs ≡ [] → ys ≡ [] → xs ++ ys ≡ []
joined xs ys e f = ap (λ a. a ++ ys) e ∙ f

module _ {D : ℕ} where
  keys-first : (a : Slab (NodeCells D)) (l key : ℕ) → place (keys_in a l key) key ≡ 0
  keys-first a zero key = place-here key key [] refl
  keys-first a (suc l) key = place-here key key (flat_map (λ c. keys_in a l (key_of c)) (cells_at a key)) refl

  -- the tree's keys and their places are a numbering
  pub numbering : (t : Arena D) (s : IsSettled t) → IsNumbering t s (tree_keys t) (number_in (tree_keys t))
  numbering t s = record {
    there = listed-there t s;
    once = listed-once t s;
    apart = λ k j h e. apart-in (tree_keys t) k j (listed-contained t s k h.0 h.1) e;
    first = ap (λ n. pos (n + 1)) (keys-first t.nodes t.level t.root);
  }

  module _ (t : Arena D) (s : IsSettled t) (branched : IsBranched t) (keys : List ℕ) (number : ℕ → ℤ) (is : IsNumbering t s keys number) where
    nodes-none : (condition : Condition) (test : NodeRow D → Bool) → ((k l : ℕ) → level_at t.nodes k ≡ Some l → test (row t s keys number is k) ≡ true) →
        node_problems condition test (map (row t s keys number is) keys) ≡ []
    nodes-none condition test h =
        let entry : NodeRow D → Problem = λ n. record { condition = condition; node = n.number; position = 0 } in
        failing-none test entry (map (row t s keys number is) keys) (rows-all t s keys number is (λ n. test n ≡ true) h)

    root-none : root_problems (lists t s keys number is) ≡ []
    root-none = ap (λ b. cond b [] (record { condition = HasRoot; node = pos 1; position = 0 } ∷ [])) (rooted t s keys number is)

    flawless : IsSound (lists t s keys number is)
    flawless =
        joined _ _ (joined _ _ (joined _ _ (joined _ _ (joined _ _ (joined _ _ (joined _ _ (joined _ _
        root-none
        (nodes-none HasPlace (has_place (lists t s keys number is)) (placed t s keys number is)))
        (cells-none t s keys number is NamesChild (λ n c. is_leaf n || names_child (lists t s keys number is) n c) (child-named t s keys number is)))
        (cells-none t s keys number is IsOrdered (λ n c. is_ordered c) (cells-ordered t s keys number is)))
        (cells-none t s keys number is HoldsChild (λ n c. is_leaf n || holds_child (lists t s keys number is) c) (children-held t s keys number is)))
        (cells-none t s keys number is FitsChild (λ n c. is_leaf n || fits_child (lists t s keys number is) c) (children-fit t s keys number is)))
        (nodes-none IsFilled (is_filled (lists t s keys number is)) (filled t s keys number is branched)))
        (cells-none t s keys number is HasEntry (λ n c. not (is_leaf n) || has_entry (lists t s keys number is) n c) (rows-entered t s keys number is)))
        (rows-celled t s keys number is)

  -- the shadow of a settled tree has no problem
  pub outside-sound : (t : Arena D) → IsSettled t → IsBranched t → IsSound (outside t)
  outside-sound t s branched = flawless t s branched (tree_keys t) (number_in (tree_keys t)) (numbering t s)

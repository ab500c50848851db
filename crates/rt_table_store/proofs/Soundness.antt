-- What a tree in which the checker finds no problem has: each inner cell names a node, and each node but the root is named.
use Rattle.std.proofs.Common.{◌≡◌, ◌⊎◌, ℕ, ◌+◌, Bool, true, not, cond, List, [], ◌∷◌, ◌++◌, map, Contains, Some, refl, ap, sym, ◌∙◌, subst, inl, inr, filter}
use Rattle.std.specs.Prelude.{find}
use Rattle.std.specs.List.{flat_map, enumerate_from}
use Rattle.std.proofs.lemmas.Bool.{cases_Bool}
use Rattle.rt_check.specs.declared.node.NodeRow.{NodeRow}
use Rattle.rt_check.specs.declared.node.RawCell.{RawCell}
use Rattle.rt_check.specs.declared.problem.Condition.{Condition}
use Rattle.rt_check.specs.Conditions.{failing, cell_problems, cell_problems_of}
use Rattle.rt_tree.proofs.Members.{contains-here, contains-later, contains-cases, contains-none}

-- ---- lists that are empty

pub append_first : {X : Type 0} (xs ys : List X) → xs ++ ys ≡ [] → xs ≡ []
append_first [] ys e = refl
append_first (x ∷ xs) ys e = cc

pub append_rest : {X : Type 0} (xs ys : List X) → xs ++ ys ≡ [] → ys ≡ []
append_rest [] ys e = e
append_rest (x ∷ xs) ys e = cc

pub flat_part : {X Y : Type 0} (f : X → List Y) (xs : List X) (x : X) → flat_map f xs ≡ [] → Contains xs x → f x ≡ []
flat_part f [] x e h = absurd (contains-none x h)
flat_part f (y ∷ ys) x e h = elim (contains-cases y x ys h) [
  | inl same ↦ ap f (sym same) ∙ append_first (f y) (flat_map f ys) e
  | inr later ↦ flat_part f ys x (append_rest (f y) (flat_map f ys) e) later
]

-- no element fails
pub none_fails : {X P : Type 0} (test : X → Bool) (entry : X → P) (xs : List X) (x : X) → failing test entry xs ≡ [] → Contains xs x → test x ≡ true
none_fails test entry [] x e h = absurd (contains-none x h)
none_fails test entry (y ∷ ys) x e h = elim (cases_Bool (test y)) [
  | inl passes ↦
      let rest : failing test entry ys ≡ [] = sym (ap (λ b. map entry (cond (not b) (y ∷ filter (λ z. not (test z)) ys) (filter (λ z. not (test z)) ys))) passes) ∙ e in
      elim (contains-cases y x ys h) [
        | inl same ↦ ap test (sym same) ∙ passes
        | inr later ↦ none_fails test entry ys x rest later
      ]
  | inr fails ↦ let wrong : entry y ∷ failing test entry ys ≡ [] = sym (ap (λ b. map entry (cond (not b) (y ∷ filter (λ z. not (test z)) ys) (filter (λ z. not (test z)) ys))) fails) ∙ e in cc
]

pub counted_in : {X : Type 0} (n : ℕ) (xs : List X) (x : X) → Contains xs x → (k : ℕ) × Contains (enumerate_from n xs) (k, x)
counted_in n [] x h = absurd (contains-none x h)
counted_in {X} n (y ∷ ys) x h = elim (contains-cases y x ys h) [
  | inl same ↦ (n, subst (λ (z : X). Contains (enumerate_from n (y ∷ ys)) (n, z)) same (contains-here (n, y) (enumerate_from (n + 1) ys)))
  | inr later ↦ let r = counted_in (n + 1) ys x later in (r.0, contains-later (n, y) (r.0, x) (enumerate_from (n + 1) ys) r.1)
]

-- ---- what a list was made of

pub append_cases : {X : Type 0} (xs ys : List X) (x : X) → Contains (xs ++ ys) x → Contains xs x ⊎ Contains ys x
append_cases [] ys x h = inr h
append_cases (z ∷ zs) ys x h = elim (contains-cases z x (zs ++ ys) h) [
  | inl same ↦ inl (subst (Contains (z ∷ zs)) same (contains-here z zs))
  | inr later ↦ elim (append_cases zs ys x later) [
    | inl first ↦ inl (contains-later z x zs first)
    | inr rest ↦ inr rest
  ]
]

pub flat_from : {X Y : Type 0} (f : X → List Y) (xs : List X) (y : Y) → Contains (flat_map f xs) y → (x : X) × Contains xs x × Contains (f x) y
flat_from f [] y h = absurd (contains-none y h)
flat_from f (x ∷ xs) y h = elim (append_cases (f x) (flat_map f xs) y h) [
  | inl first ↦ (x, contains-here x xs, first)
  | inr rest ↦ let r = flat_from f xs y rest in (r.0, contains-later x r.0 xs r.1, r.2)
]

-- what a look-up finds is there
pub found_in : {X : Type 0} (test : X → Bool) (xs : List X) (x : X) → find test xs ≡ Some x → Contains xs x × (test x ≡ true)
found_in test [] x e = cc
found_in {X} test (y ∷ ys) x e = elim (cases_Bool (test y)) [
  | inl passes ↦
      let first : Some y ≡ Some x = sym (ap (λ b. cond b (Some y) (find test ys)) passes) ∙ e in
      let same : y ≡ x = cc in
      (subst (Contains (y ∷ ys)) same (contains-here y ys), ap test (sym same) ∙ passes)
  | inr fails ↦
      let rest = found_in test ys x (sym (ap (λ b. cond b (Some y) (find test ys)) fails) ∙ e) in
      (contains-later y x ys rest.0, rest.1)
]

module _ {D : ℕ} where
  -- no cell fails
  pub cell_passes : (condition : Condition) (test : NodeRow D → RawCell D → Bool) (nodes : List (NodeRow D)) (n : NodeRow D) (c : RawCell D) →
      cell_problems condition test nodes ≡ [] → Contains nodes n → Contains n.cells c → test n c ≡ true
  cell_passes condition test nodes n c e there within =
      let k = counted_in 1 n.cells c within in
      none_fails (λ (p : ℕ × RawCell D). test n p.1) (λ (p : ℕ × RawCell D). record { condition = condition; node = n.number; position = p.0 }) (enumerate_from 1 n.cells) (k.0, c)
      (flat_part (cell_problems_of condition test) nodes n e there) k.1

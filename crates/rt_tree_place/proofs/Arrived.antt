-- A new node in shape, whose cell is on its way.
use Rattle.std.proofs.Common.{◌≡◌, ◌≢◌, ℕ, suc, ◌+◌, ◌<◌, ◌≤◌, List, [], ◌∷◌, ◌++◌, length, get_or, Some, eq-eqb, arith, ap, ◌∙◌, sym, subst, inl, inr}
use Rattle.std.proofs.lemmas.Bool.{cases_eq}
use Rattle.std.proofs.lemmas.List.Elements.{All-nil, All-cons, All-append}
use Rattle.slab.specs.Slab.{Slab}
use Rattle.rt_box.specs.Capacity.{least_fill}
use Rattle.rt_tree_node.specs.declared.cell.Cell.{Cell}
use Rattle.rt_tree_node.specs.declared.cell.Pending.{Pending}
use Rattle.rt_tree_node.specs.Node.{NodeCells}
use Rattle.rt_tree_node.specs.Places.{key_of, times_named, cells_at, level_at, hull_at, pending_nodes}
use Rattle.rt_tree_node.specs.Sound.{IsLinked}
use Rattle.rt_tree_node.specs.Open.{HasHull, IsFittedBut}
use Rattle.rt_tree_node.proofs.Counts.{count-some}
use Rattle.rt_tree_node.proofs.Places.{inner-at_inner, names_key, named-one, nodes-joined}
use Rattle.rt_tree_node.proofs.Links.{unnamed-pending, waits-not_root, All-left}
use Rattle.rt_tree_place.proofs.Refitted.{waits-free}
use Rattle.rt_tree_place.proofs.Divided.{or_key}

module _ {D : ℕ} (E : ℕ → Type 0) (M : ℕ) (a : Slab (NodeCells D)) (root level : ℕ) (ws : List (Pending D)) (k l : ℕ) (c : Cell D)
    (linked : IsLinked a root level (ws ++ record { level = suc l; cell = c } ∷ []))
    (fitted : IsFittedBut (or_key E k) M a root (ws ++ record { level = suc l; cell = c } ∷ []))
    (key_is : key_of c ≡ k) (level_k : level_at a k ≡ Some l) (hull_is : c.rect ≡ hull_at a k) where
  abbrev arrival : Pending D
  arrival = record { level = suc l; cell = c }

  waits-more : times_named k (pending_nodes (ws ++ arrival ∷ [])) ≡ times_named k (pending_nodes ws) + 1
  waits-more = let step = nodes-joined (names_key k) ws (suc l) (c ∷ []) in let one = named-one k c key_is in omega arith

  waits-once : times_named k (pending_nodes ws) ≡ 0
  waits-once =
      let more = waits-more in
      let one = linked.named k l level_k (waits-not_root a root level (ws ++ arrival ∷ []) linked k (omega arith)) in
      omega arith

  pub arrived : 1 ≤ length (cells_at a k) → least_fill M ≤ length (cells_at a k) → length (cells_at a k) ≤ M → IsFittedBut E M a root (ws ++ arrival ∷ [])
  arrived some least most =
      let none : (x : ℕ) → (E x → ⊥) → x ≢ k → or_key E k x → ⊥ = λ x fine other either. elim either [ inl odd ↦ fine odd | inr same ↦ other same ] in
      record {
        cap = fitted.cap;
        some = λ x i e fine. elim (cases_eq x k) [
          | inl same ↦ subst (λ y. 1 ≤ length (cells_at a y)) (sym same) some
          | inr other ↦ fitted.some x i e (none x fine other)
        ];
        least = λ x i e top fine. elim (cases_eq x k) [
          | inl same ↦ subst (λ y. least_fill M ≤ length (cells_at a y)) (sym same) least
          | inr other ↦ fitted.least x i e top (none x fine other)
        ];
        most = λ x i e fine. elim (cases_eq x k) [
          | inl same ↦ subst (λ y. length (cells_at a y) ≤ M) (sym same) most
          | inr other ↦ fitted.most x i e (none x fine other)
        ];
        boxes = fitted.boxes;
        hulls = λ x i e j d within fine. elim (cases_eq (key_of (get_or (cells_at a x) j d)) k) [
          | inl same ↦
              let more = waits-more in
              let zero_named = unnamed-pending a root level (ws ++ arrival ∷ []) linked x k l level_k (omega arith) in
              let counted : 0 < times_named k (cells_at a x) = count-some (names_key k) (cells_at a x) j d within (eq-eqb _ _ same) in
              let both = ap (times_named k) (inner-at_inner a x i e) in absurd (omega arith)
          | inr other ↦ fitted.hulls x i e j d within (none _ fine other)
        ];
        pending_boxes = fitted.pending_boxes;
        pending_hulls = All-append (λ v. (i : ℕ) → v.level ≡ suc i → HasHull E a v.cell) ws (arrival ∷ [])
            (λ j d within i e fine. elim (cases_eq (key_of (get_or ws j d).cell) k) [
              | inl same ↦ absurd (waits-free ws k waits-once j d within i e same)
              | inr other ↦ All-left (λ v. (h : ℕ) → v.level ≡ suc h → HasHull (or_key E k) a v.cell) ws (arrival ∷ []) fitted.pending_hulls j d within i e (none _ fine other)
            ])
            (All-cons (λ v. (i : ℕ) → v.level ≡ suc i → HasHull E a v.cell) arrival [] (λ i e fine. hull_is ∙ ap (hull_at a) (sym key_is))
            (All-nil (λ v. (i : ℕ) → v.level ≡ suc i → HasHull E a v.cell)));
      }

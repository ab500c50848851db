-- A tree in which one node alone is out of shape, and the root apart, which has few cells.
use Rattle.std.proofs.Common.{◌≡◌, ◌⊎◌, ℕ, ◌≤◌, length, get_or, Some, ap, ◌∙◌, sym, subst, inl, inr}
use Rattle.std.proofs.lemmas.Option.{none-some, same_Some}
use Rattle.std.proofs.lemmas.Bool.{cases_eq}
use Rattle.rt_tree_node.specs.declared.arena.Arena.{Arena}
use Rattle.rt_tree_node.specs.Places.{key_of, times_named, cells_at, parent_at, pending_nodes}
use Rattle.rt_tree_node.specs.Open.{IsOpen}
use Rattle.rt_tree_node.specs.Whole.{IsSound, IsWhole}
use Rattle.rt_tree_place.proofs.Refitted.{waits-free}

module _ {D : ℕ} where
  pub closed : (E : ℕ → Type 0) → ((x : ℕ) → E x ⊎ (E x → ⊥)) → (t : Arena D) (key : ℕ) → IsOpen E t t.pending.items →
      ((x : ℕ) → E x → (x ≡ key) ⊎ ((x ≡ t.root) × (1 ≤ length (cells_at t.nodes x)) × (length (cells_at t.nodes x) ≤ t.capacity))) →
      1 ≤ length (cells_at t.nodes key) → times_named key (pending_nodes t.pending.items) ≡ 0 → IsSound t (Some key)
  closed E decide t key open_is odd some settled =
      let linked = open_is.linked in
      let fitted = open_is.fitted in
      record {
        linked = linked;
        fitted = record {
          cap = fitted.cap;
          some = λ x l e. elim (decide x) [
            | inl is ↦ elim (odd x is) [ inl same ↦ subst (λ y. 1 ≤ length (cells_at t.nodes y)) (sym same) some | inr top ↦ top.1 ]
            | inr fine ↦ fitted.some x l e fine
          ];
          least = λ x l e away other. elim (decide x) [
            | inl is ↦ elim (odd x is) [ inl same ↦ absurd (other (ap Some (sym same))) | inr top ↦ absurd (away top.0) ]
            | inr fine ↦ fitted.least x l e away fine
          ];
          most = λ x l e other. elim (decide x) [
            | inl is ↦ elim (odd x is) [ inl same ↦ absurd (other (ap Some (sym same))) | inr top ↦ top.2 ]
            | inr fine ↦ fitted.most x l e fine
          ];
          boxes = fitted.boxes;
          hulls = λ x l e j d within other.
              let c = get_or (cells_at t.nodes x) j d in
              fitted.hulls x l e j d within (λ is. elim (odd (key_of c) is) [
                | inl same ↦ other (ap Some (sym same))
                | inr top ↦ none-some x (sym linked.root_parent ∙ ap (parent_at t.nodes) (sym top.0) ∙ (linked.children x l e j d within).parent_is)
              ]);
          pending_boxes = fitted.pending_boxes;
          pending_hulls = λ j d within l e.
              let w = get_or t.pending.items j d in
              fitted.pending_hulls j d within l e (λ is. elim (odd (key_of w.cell) is) [
                | inl same ↦ waits-free t.pending.items key settled j d within l e same
                | inr top ↦ waits-free t.pending.items t.root linked.root_waits_not j d within l e top.0
              ]);
        };
        homes = open_is.homes;
      }

  -- at the root no node is out of shape
  pub whole-at_root : (t : Arena D) → IsSound t (Some t.root) → length (cells_at t.nodes t.root) ≤ t.capacity → IsWhole t
  whole-at_root t sound few =
      let linked = sound.linked in
      let fitted = sound.fitted in
      record {
        linked = linked;
        fitted = record {
          cap = fitted.cap;
          some = fitted.some;
          least = λ k l here away odd. fitted.least k l here away (λ s. away (sym (same_Some t.root k s)));
          most = λ k l here odd. elim (cases_eq k t.root) [
            | inl same ↦ subst (λ y. length (cells_at t.nodes y) ≤ t.capacity) (sym same) few
            | inr other ↦ fitted.most k l here (λ s. other (sym (same_Some t.root k s)))
          ];
          boxes = fitted.boxes;
          hulls = λ k l here j x within odd. fitted.hulls k l here j x within (λ s.
              none-some k (sym linked.root_parent ∙ ap (parent_at t.nodes) (same_Some t.root _ s) ∙ (linked.children k l here j x within).parent_is));
          pending_boxes = fitted.pending_boxes;
          pending_hulls = fitted.pending_hulls;
        };
        homes = sound.homes;
      }

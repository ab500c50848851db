-- Steps lead a tree to one tree.
use Rattle.std.proofs.Common.{◌≡◌, inl, inr, ℕ, ℤ, List, [], ◌∷◌, sym, ◌∙◌, subst}
use Rattle.std.proofs.lemmas.Bool.{cases_Bool}
use Rattle.rt_check.specs.Shadow.{ShadowLists}
use Rattle.rt_tree.specs.Lists.{IsInShape}
use Rattle.rt_table_row.specs.Rows.{TableRow}
use Rattle.rt_table_row.specs.Edits.{Step, Leaves, Comes, Becomes, after_step}
use Rattle.rt_table_store.specs.Trees.{stays, Gains, Loses, Replaces, TakesStep, TakesEach}
use Rattle.rt_tree_one.proofs.Inserted.{one_answer as insertion}
use Rattle.rt_tree_one.proofs.Removed.{one_answer as removal}
use Rattle.rt_laws.specs.DumpLaws.{StepsHaveOneAnswer}

module _ (D : ℕ) where
  gains : (row : TableRow) (old one other : ShadowLists D) → IsInShape one → IsInShape other → Gains row old one → Gains row old other → one ≡ other
  gains row old one other shape shape_too g h = (insertion D old one other row.id row.box g.0 h.0 shape shape_too g.1 h.1).0

  loses : (id : ℤ) (old one other : ShadowLists D) → IsInShape one → IsInShape other → Loses id old one → Loses id old other → one ≡ other
  loses id old one other shape shape_too g h = removal D old one other id g.0 h.0 shape shape_too g.1 h.1

  replaces : (rows : List TableRow) (id : ℤ) (row : TableRow) (old one other : ShadowLists D) → IsInShape one → IsInShape other →
      Replaces rows id row old one → Replaces rows id row old other → one ≡ other
  replaces rows id row old one other shape shape_too g h =
      let between = loses id old g.0 h.0 g.2.shape h.2.shape g.1 h.1 in
      gains row h.0 one other shape shape_too (subst (λ (s : ShadowLists D). Gains row s one) between g.3) h.3

  one_step : (rows : List TableRow) (step : Step) (old one other : ShadowLists D) → IsInShape one → IsInShape other →
      TakesStep rows step old one → TakesStep rows step old other → one ≡ other
  one_step rows (Leaves id) old one other shape shape_too g h = loses id old one other shape shape_too g h
  one_step rows (Comes row) old one other shape shape_too g h = gains row old one other shape shape_too g h
  one_step rows (Becomes id row) old one other shape shape_too g h = elim (cases_Bool (stays rows id row)) [
    | inl still ↦ g.0 still ∙ sym (h.0 still)
    | inr moves ↦ replaces rows id row old one other shape shape_too (g.1 moves) (h.1 moves)
  ]

  each : (steps : List Step) (rows : List TableRow) (old one other : ShadowLists D) → TakesEach rows steps old one → TakesEach rows steps old other → one ≡ other
  each [] rows old one other g h = g ∙ sym h
  each (step ∷ steps) rows old one other g h =
      let next = one_step rows step old g.0 h.0 g.2.shape h.2.shape g.1 h.1 in
      each steps (after_step rows step) h.0 one other (subst (λ (s : ShadowLists D). TakesEach (after_step rows step) steps s one) next g.3) h.3

pub steps_one : StepsHaveOneAnswer
steps_one axes rows steps old one other g h = each axes steps rows old one other g.takes h.takes

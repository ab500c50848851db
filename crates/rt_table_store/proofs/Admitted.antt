-- Rows that a window admits, where the window says all that a condition asks: each of them passes.
use Rattle.std.proofs.Common.{◌≡◌, ℕ, Bool, true, false, List, [], ◌∷◌, All, Option, Some, None, refl, ap, sym, subst, ◌∙◌}
use Rattle.std.specs.Prelude.{filter}
use Rattle.std.specs.Option.{option_map, option_map_or}
use Rattle.std.proofs.lemmas.List.Elements.{All-head, All-tail}
use Rattle.rt_box.specs.declared.interval.Interval.{Interval}
use Rattle.rt_box.specs.Window.{Admits}
use Rattle.rt_tree_walk.specs.declared.searching.Row.{Row}
use Rattle.rt_table_row.specs.Rows.{TableRow, row_at}
use Rattle.rt_table_store.specs.Trees.{leaf_row}
use Rattle.rt_table_store.specs.Picking.{Stands, passes}

module _ {D : ℕ} (rows : List TableRow) (window : List Interval) (p : TableRow → Bool) (said : (row : TableRow) → Admits window row.box → p row ≡ true) where
  passes_one : (r : Row D) → Stands rows r → Admits window r.rect → passes p rows r ≡ true
  passes_one r stands admitted = by (row_at rows r.id) refl
    where
      by : (o : Option TableRow) → row_at rows r.id ≡ o → passes p rows r ≡ true
      by None e = let wrong : None ≡ Some r = sym (ap (option_map leaf_row) e) ∙ stands in absurd (let none : ⊥ = cc in none)
      by (Some row) e =
          let same : Some (leaf_row row) ≡ Some r = sym (ap (option_map leaf_row) e) ∙ stands in
          let is : leaf_row row ≡ r = cc in
          ap (λ o. option_map_or p o false) e ∙ said row (subst (Admits window) (sym (ap (λ (q : Row D). q.rect) is)) admitted)

  pub all_pass : (found : List (Row D)) → All (Stands rows) found → All (λ (r : Row D). Admits window r.rect) found → filter (passes p rows) found ≡ found
  all_pass [] stand admitted = refl
  all_pass (r ∷ found) stand admitted =
      rw (passes_one r (All-head (Stands rows) r found stand) (All-head (λ (q : Row D). Admits window q.rect) r found admitted))
      (ap (λ rs. r ∷ rs) (all_pass found (All-tail (Stands rows) r found stand) (All-tail (λ (q : Row D). Admits window q.rect) r found admitted)))

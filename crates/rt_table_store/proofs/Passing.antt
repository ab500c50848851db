-- Of rows that were found those of which a condition holds, row by row.
use Rattle.std.proofs.Common.{◌≡◌, ℕ, ◌+◌, ◌<◌, Bool, true, false, cond, List, [], ◌∷◌, ◌++◌, length, get_or, take, Option, Some, append-nil, sym, ap, ◌∙◌}
use Rattle.std.specs.Prelude.{filter}
use Rattle.std.specs.Option.{option_map_or}
use Rattle.std.proofs.lemmas.List.Elements.{filter_more}
use Rattle.rt_table_row.specs.Rows.{TableRow, row_at}
use Rattle.rt_tree_walk.specs.declared.searching.Row.{Row}
use Rattle.rt_table_store.specs.Picking.{passes}

module _ {D : ℕ} (test : TableRow → Bool) (table : List TableRow) (found : List (Row D)) (i : ℕ) (row : Row D) (view : TableRow)
    (within : i < length found) (is : row ≡ get_or found i row) (stands : Some view ≡ row_at table row.id) where
  -- what one row more adds, by whether the condition holds of it
  one-more : (b : Bool) → test view ≡ b → filter (passes test table) (take (i + 1) found) ≡ filter (passes test table) (take i found) ++ cond b (row ∷ []) []
  one-more b holds =
      filter_more (passes test table) found i row within
      ∙ ap (λ (r : Row D). filter (passes test table) (take i found) ++ cond (passes test table r) (r ∷ []) []) (sym is)
      ∙ ap (λ (c : Bool). filter (passes test table) (take i found) ++ cond c (row ∷ []) []) (ap (λ (o : Option TableRow). option_map_or test o false) (sym stands) ∙ holds)

  pub one-kept : (before after : List (Row D)) → test view ≡ true → before ≡ filter (passes test table) (take i found) → after ≡ before ++ row ∷ [] →
      after ≡ filter (passes test table) (take (i + 1) found)
  one-kept before after holds so more = more ∙ ap (λ (rows : List (Row D)). rows ++ row ∷ []) so ∙ sym (one-more true holds)

  pub one-left : (before : List (Row D)) → test view ≡ false → before ≡ filter (passes test table) (take i found) → before ≡ filter (passes test table) (take (i + 1) found)
  one-left before fails so = so ∙ sym (append-nil (filter (passes test table) (take i found))) ∙ sym (one-more false fails)

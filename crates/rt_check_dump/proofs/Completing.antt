-- What is read so far begins a dump: the lines that are still to come can come.
use Rattle.std.proofs.Common.{◌≡◌, ℕ, zero, suc, ◌+◌, ◌<◌, ◌≤◌, ◌^◌, ℤ, pos, List, [], ◌∷◌, ◌++◌, None, refl, sym, subst, ◌∙◌, ap, length, map, replicate, arith}
use Rattle.std.specs.List.{flat_map, IsDistinct}
use Rattle.std.specs.Ordering.{int_eq}
use Rattle.std.proofs.lemmas.List.{length_push, length-map, length-replicate}
use Rattle.std.proofs.lemmas.List.Elements.{All-nil, All-map, All-weaker, All-replicate}
use Rattle.rt_check.specs.declared.node.NodeRow.{NodeRow}
use Rattle.rt_check.specs.declared.node.RawCell.{RawCell}
use Rattle.rt_check.specs.declared.node.RowEntry.{RowEntry}
use Rattle.rt_check.specs.Shadow.{ShadowLists, numbers_of, ids_of}
use Rattle.rt_check_dump.specs.declared.reading.Progress.{Progress}
use Rattle.rt_check_dump.specs.Dump.{cell_line, node_text, row_line, end_line}
use Rattle.rt_check_dump.specs.InRange.{IsInt, IsPositive, IsCellInRange, IsRowInRange, IsNodeInRange, IsNodeNumbered}
use Rattle.rt_check_dump.proofs.Written.{ReadsTo, shadow_with, at_row, at_cell, at_node, rows-read, cells-read, nodes-read}
use Rattle.rt_check_dump.proofs.Fresh.{IsNumber, fresh}
use Rattle.rt_check_dump.proofs.Fits.{Fits, map-push}

module _ {X : Type 0} (key : X → ℤ) (make : ℤ → X) (says : (z : ℤ) → key (make z) ≡ z) where
  -- the keys of elements that are made of numbers
  keys-made : (xs : List X) (zs : List ℤ) → map key (xs ++ map make zs) ≡ map key xs ++ zs
  keys-made [] [] = refl
  keys-made [] (z ∷ zs) = ap (λ k. k ∷ map key (map make zs)) (says z) ∙ ap (λ l. z ∷ l) (keys-made [] zs)
  keys-made (x ∷ xs) zs = ap (λ l. key x ∷ l) (keys-made xs zs)

distinct-nil : IsDistinct int_eq []
unfolding IsDistinct
distinct-nil = tt

-- a shadow is read in the end
pub record Completes {D : ℕ} (p : Progress D) : Type 0 where
  pub rest : List ℕ
  pub shadow : ShadowLists D
  pub reads : ReadsTo p rest shadow

abbrev row_of : ℤ → RowEntry
row_of z = record { id = z; leaf = pos 1 }

row-made : (z : ℤ) → IsNumber z → IsRowInRange (row_of z)
row-made z number = record { id = number.long; leaf = omega arith }

module _ {D : ℕ} where
  abbrev node_of : ℤ → NodeRow D
  node_of z = record { number = z; level = 0; parent = None; cells = [] }

  abbrev cell_of_zeros : RawCell D
  cell_of_zeros = record { number = pos 0; lo = replicate D (pos 0); hi = replicate D (pos 0) }

  node-made : (z : ℤ) → IsNumber z → IsNodeInRange (node_of z)
  node-made z number = record { number = number.long; level = omega arith; parent = tt; few = omega arith; cells = All-nil IsCellInRange }

  node-numbered : (z : ℤ) → IsNumber z → IsNodeNumbered (node_of z)
  node-numbered z number = record { number = number.positive; parent = tt }

  cell-made : IsCellInRange cell_of_zeros
  cell-made = record {
    number = omega arith;
    axes_lo = length-replicate D (pos 0);
    axes_hi = length-replicate D (pos 0);
    lo = All-replicate IsInt D (pos 0) (omega arith);
    hi = All-replicate IsInt D (pos 0) (omega arith);
  }

module _ {D : ℕ} (capacity : ℕ) (root : ℤ) where
  rows-complete : (nodes : List (NodeRow D)) (done : List RowEntry) (k : ℕ) → IsDistinct int_eq (ids_of done) → length done + k < 2 ^ 63
      → Completes (at_row capacity root nodes done k)
  rows-complete nodes done k distinct few =
      let same : length (ids_of done) ≡ length done = length-map done (λ (r : RowEntry). r.id) in
      let more = fresh k (ids_of done) distinct (omega (arith, same, few)) in
      let rows = map row_of more.numbers in
      let count : length rows ≡ k = length-map more.numbers row_of ∙ more.count in
      let ids : IsDistinct int_eq (ids_of (done ++ rows)) = subst (IsDistinct int_eq) (sym (keys-made (λ (r : RowEntry). r.id) row_of (λ z. refl) done more.numbers)) more.distinct in
      record {
        rest = flat_map row_line rows ++ end_line;
        shadow = shadow_with capacity root nodes (done ++ rows);
        reads = subst (λ k. ReadsTo (at_row capacity root nodes done k) (flat_map row_line rows ++ end_line) (shadow_with capacity root nodes (done ++ rows))) count
            (rows-read capacity root nodes done rows
            (All-map IsRowInRange row_of more.numbers (All-weaker IsNumber (λ z. IsRowInRange (row_of z)) row-made more.numbers more.each))
            (All-map (λ (r : RowEntry). IsPositive r.leaf) row_of more.numbers (All-weaker IsNumber (λ z. IsPositive (pos 1)) (λ z number. refl) more.numbers more.each))
            ids);
      }

  nodes-complete : (done : List (NodeRow D)) (k rows : ℕ) → 1 ≤ D → IsDistinct int_eq (numbers_of done) → length done + k < 2 ^ 63 → rows < 2 ^ 63
      → Completes (at_node capacity root done k rows)
  nodes-complete done k rows some distinct few few_rows =
      let same : length (numbers_of done) ≡ length done = length-map done (λ (n : NodeRow D). n.number) in
      let more = fresh k (numbers_of done) distinct (omega (arith, same, few)) in
      let nodes = map node_of more.numbers in
      let count : length nodes ≡ k = length-map more.numbers node_of ∙ more.count in
      let numbers : IsDistinct int_eq (numbers_of (done ++ nodes)) = subst (IsDistinct int_eq) (sym (keys-made (λ (n : NodeRow D). n.number) node_of (λ z. refl) done more.numbers)) more.distinct in
      let last = rows-complete (done ++ nodes) [] rows distinct-nil (omega (arith, few_rows)) in
      record {
        rest = flat_map node_text nodes ++ last.rest;
        shadow = last.shadow;
        reads = subst (λ k. ReadsTo (at_node capacity root done k rows) (flat_map node_text nodes ++ last.rest) last.shadow) count
            (nodes-read capacity root rows last.rest last.shadow done nodes some
            (All-map IsNodeInRange node_of more.numbers (All-weaker IsNumber (λ z. IsNodeInRange (node_of z)) node-made more.numbers more.each))
            (All-map IsNodeNumbered node_of more.numbers (All-weaker IsNumber (λ z. IsNodeNumbered (node_of z)) node-numbered more.numbers more.each))
            numbers last.reads);
      }

  cells-complete : (done : List (NodeRow D)) (node : NodeRow D) (k nodes rows : ℕ) → 1 ≤ D → IsDistinct int_eq (numbers_of (done ++ node ∷ []))
      → length (done ++ node ∷ []) + nodes < 2 ^ 63 → rows < 2 ^ 63 → Completes (at_cell capacity root done node node.cells k nodes rows)
  cells-complete done node k nodes rows some distinct few few_rows =
      let cells = replicate k cell_of_zeros in
      let count : length cells ≡ k = length-replicate k cell_of_zeros in
      let new : NodeRow D = record node { cells = node.cells ++ cells } in
      let keys : numbers_of (done ++ new ∷ []) ≡ numbers_of (done ++ node ∷ []) =
      map-push (λ (n : NodeRow D). n.number) done new ∙ sym (map-push (λ (n : NodeRow D). n.number) done node) in
      let same : length (done ++ new ∷ []) ≡ length (done ++ node ∷ []) = length_push done new ∙ sym (length_push done node) in
      let last = nodes-complete (done ++ new ∷ []) nodes rows some (subst (IsDistinct int_eq) (sym keys) distinct) (omega (arith, same, few)) few_rows in
      record {
        rest = flat_map cell_line cells ++ last.rest;
        shadow = last.shadow;
        reads = subst (λ k. ReadsTo (at_cell capacity root done node node.cells k nodes rows) (flat_map cell_line cells ++ last.rest) last.shadow) count
            (cells-read capacity root done node nodes rows last.rest last.shadow node.cells cells some
            (All-replicate IsCellInRange k cell_of_zeros cell-made) last.reads);
      }

module _ {D : ℕ} where
  pub completes : (p : Progress D) → Fits p → Completes p
  completes p fits =
      let s = p.shadow in
      let at : List (NodeRow D) → List RowEntry → ℕ → ℕ → Progress D = λ ns rs nodes cells.
      record { shadow = record { capacity = s.capacity; root = s.root; nodes = ns; rows = rs }; nodes = nodes; rows = p.rows; cells = cells } in
      let few_rows : p.rows < 2 ^ 63 = omega (arith, fits.few_rows) in
      let by_nodes : (n : ℕ) → p.nodes ≡ n → p.cells ≡ 0 → Completes p = elim [
        | zero ↦ λ last none.
            subst Completes (ap (λ n. at s.nodes s.rows n 0) (sym last) ∙ ap (at s.nodes s.rows p.nodes) (sym none))
            (rows-complete s.capacity s.root s.nodes s.rows p.rows fits.ids fits.few_rows)
        | suc n ↦ λ some none.
            let no_rows : s.rows ≡ [] = fits.order (omega (arith, some)) in
            subst Completes (ap (λ rs. at s.nodes rs p.nodes 0) (sym no_rows) ∙ ap (at s.nodes s.rows p.nodes) (sym none))
            (nodes-complete s.capacity s.root s.nodes p.nodes p.rows fits.some fits.numbers fits.few_nodes few_rows)
      ] in
      let by_cells : (c : ℕ) → p.cells ≡ c → Completes p = elim [
        | zero ↦ λ none. by_nodes p.nodes refl none
        | suc c ↦ λ some.
            let no_rows : s.rows ≡ [] = fits.order (omega (arith, some)) in
            let last = fits.last (omega (arith, some)) in
            subst Completes (ap (λ ns. at ns [] p.nodes p.cells) (sym last.is) ∙ ap (λ rs. at s.nodes rs p.nodes p.cells) (sym no_rows))
            (cells-complete s.capacity s.root last.done last.node p.cells p.nodes p.rows fits.some (subst (λ ns. IsDistinct int_eq (numbers_of ns)) last.is fits.numbers)
            (subst (λ (ns : List (NodeRow D)). length ns + p.nodes < 2 ^ 63) last.is fits.few_nodes) few_rows)
      ] in
      by_cells p.cells refl

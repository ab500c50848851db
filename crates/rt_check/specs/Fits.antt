-- The hull of a node's cells, found once for all of the cells that name the node. No public clause cites this module.
use Rattle.std.specs.Prelude.{◌≡◌, ℕ, ◌<◌, ℤ, List, [], ◌∷◌, Option, None, Some, fold}
use Rattle.std.specs.Int.{int_min, int_max}
use Rattle.std.specs.List.{AllZip}
use Rattle.rt_check.specs.declared.node.NodeRow.{NodeRow}
use Rattle.rt_check.specs.declared.node.RawCell.{RawCell}
use Rattle.rt_check.specs.Conditions.{coordinate}

module _ {D : ℕ} where
  -- the least lo of a cell and others on an axis
  abbrev pub least_lo : RawCell D → List (RawCell D) → ℕ → ℤ
  least_lo first others axis = fold (λ least x. int_min least (coordinate x.lo axis)) (coordinate first.lo axis) others

  -- the greatest hi of a cell and others on an axis
  abbrev pub greatest_hi : RawCell D → List (RawCell D) → ℕ → ℤ
  greatest_hi first others axis = fold (λ greatest x. int_max greatest (coordinate x.hi axis)) (coordinate first.hi axis) others

  -- on each axis the one cell reaches from the least lo of the others to their greatest hi; with none there is none
  abbrev pub Fits : List (RawCell D) → Option (RawCell D) → Type 0
  Fits [] fit = fit ≡ None
  Fits (first ∷ others) None = ⊥
  Fits (first ∷ others) (Some fit) =
      (axis : ℕ) → axis < D → (coordinate fit.lo axis ≡ least_lo first others axis) × (coordinate fit.hi axis ≡ greatest_hi first others axis)

  -- for each node the cell that fits it
  abbrev pub AllFit : List (NodeRow D) → List (Option (RawCell D)) → Type 0
  AllFit nodes fits = AllZip (λ node fit. Fits node.cells fit) nodes fits

  -- the cell that fits a node, if that is listed
  abbrev pub FitsListed : Option (NodeRow D) → Option (RawCell D) → Type 0
  FitsListed None fit = fit ≡ None
  FitsListed (Some node) fit = Fits node.cells fit

-- Trees that differ in boxes along a path alone.
use Rattle.std.proofs.Common.{◌≡◌, ℕ, zero, suc, pos, unsigned_abs, List, [], ◌∷◌, length, drop, get_or, arith, refl, ap, ◌∙◌, subst}
use Rattle.std.specs.List.{Contains}
use Rattle.slab.specs.Slab.{Slab}
use Rattle.rt_tree_node.specs.declared.cell.Cell.{Cell}
use Rattle.rt_tree_node.specs.Node.{NodeCells}
use Rattle.rt_tree_node.specs.Places.{key_of, numbers, cells_at}
use Rattle.rt_tree_place.specs.Path.{KeepsShape}

module _ {D : ℕ} where
  pub shape-none : (a : Slab (NodeCells D)) (path : List ℕ) (k : ℕ) → KeepsShape a a path k
  shape-none a path k = record { level = refl; parent = refl; rows = refl; numbers_same = refl; boxes = λ j x off. refl }

  key-same : (cs bs : List (Cell D)) (j : ℕ) (x : Cell D) → numbers bs ≡ numbers cs → key_of (get_or bs j x) ≡ key_of (get_or cs j x)
  key-same [] [] j x e = refl
  key-same [] (b ∷ bs) j x e = let long = ap length e in absurd (omega arith)
  key-same (c ∷ cs) [] j x e = let long = ap length e in absurd (omega arith)
  key-same (c ∷ cs) (b ∷ bs) zero x e = ap unsigned_abs (ap (λ ns. get_or ns 0 (pos 0)) e)
  key-same (c ∷ cs) (b ∷ bs) (suc j) x e = key-same cs bs j x (ap (drop 1) e)

  pub shape-then : (a b c : Slab (NodeCells D)) (path : List ℕ) (k : ℕ) → KeepsShape a b path k → KeepsShape b c path k → KeepsShape a c path k
  shape-then a b c path k p q = record {
    level = q.level ∙ p.level;
    parent = q.parent ∙ p.parent;
    rows = q.rows ∙ p.rows;
    numbers_same = q.numbers_same ∙ p.numbers_same;
    boxes = λ j x off.
        q.boxes j x (λ on. off (subst (Contains path) (key-same (cells_at a k) (cells_at b k) j x p.numbers_same) on)) ∙ p.boxes j x off;
  }

-- The steps of a loop over the bits that pick cells. Stated over variables, so that no goal of the code is a search over all that
-- is known in the loop.
use Rattle.std.proofs.Common.{◌≡◌, ◌≢◌, ℕ, ◌+◌, ◌-◌, ◌^◌, ◌<◌, ◌≤◌, List, [], ◌∷◌, ◌++◌, length, length-drop, drop, map, get_or, arith, ap, sym, ◌∙◌, append_assoc, append-nil}
use Rattle.std.proofs.lemmas.List.{get_or-drop}
use Rattle.std.specs.Int.Bits.{bit_and}
use lib.Bits.{and_le_r}
use lib.Count.{count_trailing_zeros}
use Rattle.rt_tree_node.specs.declared.cell.Cell.{Cell}
use Rattle.rt_tree_walk.specs.Visits.{picked}
use Rattle.rt_tree_walk.proofs.Picked.{IsFirst, picked-first, picked-none}

-- the lowest bit is cleared
pub cleared-less : (n : ℕ) → n ≢ 0 → bit_and n (n - 1) < n
cleared-less n some = omega (arith, and_le_r n (n - 1), some)

pub cleared-below : (n m : ℕ) → n < m → bit_and n (n - 1) < m
cleared-below n m below = omega (arith, and_le_r n (n - 1), below)

pub not-none : (n : ℕ) → n ≢ 0 → 1 ≤ n
not-none n some = omega (arith, some)

module _ {D : ℕ} (cells : List (Cell D)) (from bits : ℕ) (few : length cells ≤ 64) (some : bits ≢ 0) (below : bits < 2 ^ length (drop from cells)) where
  abbrev next : ℕ
  next = bit_and bits (bits - 1)

  first : IsFirst (drop from cells) bits (count_trailing_zeros 64 bits)
  first = picked-first 64 (drop from cells) bits (omega (arith, length-drop from cells, few)) (not-none bits some) below

  pub place-within : from + count_trailing_zeros 64 bits < length cells
  place-within = let within = first.within in omega (arith, within, length-drop from cells)

  -- the cell there is the first that is picked
  module _ (cell : Cell D) (is : cell ≡ get_or cells (from + count_trailing_zeros 64 bits) cell) where
    pub picked-next : picked (drop from cells) bits ≡ cell ∷ picked (drop from cells) next
    picked-next = first.is cell ∙ ap (λ (x : Cell D). x ∷ picked (drop from cells) next) (get_or-drop from cells (count_trailing_zeros 64 bits) cell ∙ sym is)

    pub room-next : (len room : ℕ) → len + length (picked (drop from cells) bits) ≤ room → len < room
    room-next len room fits = omega (arith, ap length picked-next, fits)

    pub room-rest : (len len1 room room1 : ℕ) → len + length (picked (drop from cells) bits) ≤ room → len1 ≡ len + 1 → room1 ≡ room → len1 + length (picked (drop from cells) next) ≤ room1
    room-rest len len1 room room1 fits more same = omega (arith, ap length picked-next, fits, more, same)

    -- what it gives was appended: that and what the rest gives are all
    pub all-next : {X : Type 0} (f : Cell D → X) (list list1 all : List X) (x : X) → list1 ≡ list ++ x ∷ [] → x ≡ f cell → list ++ map f (picked (drop from cells) bits) ≡ all →
        list1 ++ map f (picked (drop from cells) next) ≡ all
    all-next {X} f list list1 all x pushed made before =
        ap (λ (xs : List X). xs ++ map f (picked (drop from cells) next)) (pushed ∙ ap (λ (y : X). list ++ y ∷ []) made)
        ∙ append_assoc list (f cell ∷ []) (map f (picked (drop from cells) next))
        ∙ ap (λ (cs : List (Cell D)). list ++ map f cs) (sym picked-next) ∙ before

module _ {D : ℕ} {X : Type 0} (f : Cell D → X) (cells : List (Cell D)) where
  -- where no bit is left, all is there
  pub all-done : (list all : List X) (bits : ℕ) → bits ≡ 0 → list ++ map f (picked cells bits) ≡ all → list ≡ all
  all-done list all bits none before =
      sym (ap (λ (xs : List X). list ++ xs) (ap (λ (n : ℕ). map f (picked cells n)) none ∙ ap (map f) (picked-none cells)) ∙ append-nil list)
      ∙ before

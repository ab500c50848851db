-- Numbers whose bits tell of the elements of a list, and masks of four lanes (own).
use Rattle.std.specs.Prelude.{◌≡◌, ℕ, ◌%◌, ◌/◌, ◌↔◌, ℤ, pos, negsuc, Bool, false, if◌then◌else◌, List, [], ◌∷◌}

module _ {X : Type 0} where
  -- the lowest bit tells whether the first element has the property, and the other bits tell of the others
  abbrev pub Tells : (X → Type 0) → List X → ℕ → Type 0
  Tells P [] bits = bits ≡ 0
  Tells P (x ∷ xs) bits = (bits % 2 ≡ 1 ↔ P x) × Tells P xs (bits / 2)

-- a lane of a mask: all of its bits are set, or none
abbrev pub lane : Bool → ℤ
lane set = if set then negsuc 0 else pos 0

-- a mask of four lanes
abbrev pub mask : Bool → Bool → Bool → Bool → List ℤ
mask s t u v = lane s ∷ lane t ∷ lane u ∷ lane v ∷ []

abbrev pub AreLanes : List ℤ → Type 0
AreLanes lanes = (s t u v : Bool) × (lanes ≡ mask s t u v)

-- no lane is set
abbrev pub IsClear : List ℤ → Type 0
IsClear lanes = lanes ≡ mask false false false false

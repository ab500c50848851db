-- How many nodes a level has, and how many there are in all.
use Rattle.std.proofs.Common.{◌≡◌, ℕ, suc, ◌+◌, ◌-◌, ◌*◌, ◌/◌, ◌^◌, ◌<◌, ◌≤◌, arith, ap, ◌∙◌, inl, inr}
use Rattle.std.proofs.Math.Nat.{mul_comm, mul-add, mul-suc, mul-le-mul_left, mul-le-mul_right, le_of_mul-le-mul_left, pow-suc, mul_assoc, le-mul_of_pos_right}
use Rattle.std.proofs.lemmas.Nat.{pow_below, le-div}
use Rattle.std.proofs.lemmas.Bool.{cases_lt}
use Rattle.rt_box.specs.Capacity.{IsCapacity, least_fill}

-- room for one node more
pub below-product : (a b m x : ℕ) → a * m + 1 + x ≤ b * m → a < b
below-product a b m x h = elim (cases_lt a b) [
  | inl less ↦ less
  | inr more ↦ let grown = mul-le-mul_right m more in absurd (omega (arith, h, grown))
]

module _ (capacity : ℕ) (cap : IsCapacity capacity) (n c : ℕ) (over : capacity < n) (few : c * capacity + 1 ≤ n + capacity) (many : n ≤ c * capacity) where
  five : 5 * c ≤ c * capacity
  five = omega (arith, mul-le-mul_left c cap.0, mul_comm c 5)

  half : 2 * ((capacity / 2) * c) ≤ c * capacity
  half =
      let h : 2 * (capacity / 2) ≤ capacity = omega arith in
      omega (arith, mul-le-mul_left c h, mul_assoc 2 (capacity / 2) c, mul_comm c (2 * (capacity / 2)))

  pub at-least_two : 2 ≤ c
  at-least_two = elim (cases_lt c 2) [
    | inl less ↦ let p : c * capacity ≤ 1 * capacity = mul-le-mul_right capacity (omega (arith, less)) in absurd (omega (arith, p, many, over))
    | inr more ↦ more
  ]

  pub fewer : 2 * c ≤ n
  fewer = omega (arith, five, few, over)

  pub nodes-few : (capacity / 2) * c ≤ n
  nodes-few = omega (arith, half, few, over)

  pub nodes-left : capacity < c → (capacity / 2) * c + c ≤ n
  nodes-left more =
      let p : 6 * capacity ≤ c * capacity = mul-le-mul_right capacity (omega (arith, more, cap.0)) in
      omega (arith, p, half, five, few)

-- a height below the power of two of the rows
pub low : (level n rows : ℕ) → 1 ≤ n → 2 ^ level * n ≤ rows → rows ≤ 2 ^ 31 → level ≤ 31
low level n rows some h most = elim (cases_lt 31 level) [
  | inl more ↦
      let p = pow_below 31 level more in
      let q = le-mul_of_pos_right (2 ^ level) some in
      absurd (omega (arith, p, q, h, most))
  | inr less ↦ less
]

pub lower : (level n c rows : ℕ) → 2 * c ≤ n → 2 ^ level * n ≤ rows → 2 ^ suc level * c ≤ rows
lower level n c rows less h =
    let p = pow-suc 2 level in
    let q = mul-le-mul_left (2 ^ level) less in
    let r : 2 ^ suc level * c ≡ 2 ^ level * (2 * c) = ap (λ k. k * c) p ∙ mul_assoc (2 ^ level) 2 c in
    omega (arith, q, r, h)

-- room for as many nodes as the cells of a level make
pub room-enough : (capacity : ℕ) → IsCapacity capacity → (len n rows room : ℕ) → (capacity / 2) * len + n ≤ rows + capacity / 2 →
    rows + (least_fill capacity - 1) * 33 ≤ (least_fill capacity - 1) * room → len * capacity + n ≤ room * capacity
room-enough capacity cap len n rows room few enough =
    let h = capacity / 2 in
    let w = least_fill capacity - 1 in
    let low = cap.0 in
    let high = cap.1 in
    let less : w ≤ h = omega (arith, low) in
    let some : h ≤ w * 33 = omega (arith, low, high) in
    let p : w * room ≤ h * room = mul-le-mul_right room less in
    let q : h * len + n ≤ h * room = omega (arith, few, enough, p, some) in
    let pos : 1 ≤ h = omega (arith, low) in
    let within : len ≤ room = le_of_mul-le-mul_left (omega (arith, q)) pos in
    let k = room - len in
    let is : room ≡ len + k = omega (arith, within) in
    let r : n ≤ h * k = omega (arith, q, ap (λ x. h * x) is, mul-add h len k) in
    let s : h * k ≤ capacity * k = mul-le-mul_right k (omega arith) in
    omega (arith, r, s, ap (λ x. x * capacity) is, mul_comm (len + k) capacity, mul-add capacity len k, mul_comm capacity len)

-- the bound of nodes
pub nodes-bound : (capacity : ℕ) → IsCapacity capacity → (len rows : ℕ) → (capacity / 2) * len ≤ rows + capacity / 2 → len ≤ 1 + rows / (capacity / 2)
nodes-bound capacity cap len rows few =
    let h = capacity / 2 in
    let low = cap.0 in
    let pos : 1 ≤ h = omega (arith, low) in
    elim (cases_lt len 1) [
      | inl none ↦ omega (arith, none)
      | inr some ↦
          let k = len - 1 in
          let is : len ≡ suc k = omega (arith, some) in
          let p : k * h ≤ rows = omega (arith, few, ap (λ x. h * x) is, mul-suc h k, mul_comm k h) in
          let q = le-div k rows h pos p in
          omega (arith, q, is)
    ]

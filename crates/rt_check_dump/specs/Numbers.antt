-- Numbers as words (own): decimal, without needless zeros, plus signs or `-0`.
use Rattle.std.specs.Prelude.{ℕ, ◌+◌, ◌-◌, ◌*◌, ◌^◌, ℤ, pos, negsuc, neg_ℤ, Bool, false, not, ◌&&◌, List, [], ◌∷◌, Option, None, Some, length, nat_le, nat_lt, bytes_eq, ◌==◌, int_le, if◌then◌else◌}
use Rattle.std.specs.List.{list_all}
use Rattle.std.specs.Option.{option_and_then, option_map}

-- a decimal digit
abbrev pub is_digit : ℕ → Bool
is_digit b = nat_le 48 b && nat_le b 57

-- the word is a number from 0 on
abbrev pub is_natural : List ℕ → Bool
is_natural [] = false
is_natural (d ∷ ds) = if d == 48 then length ds == 0 else list_all is_digit (d ∷ ds)

-- the word is a number from 1 on
abbrev pub is_positive : List ℕ → Bool
is_positive [] = false
is_positive (d ∷ ds) = not (d == 48) && list_all is_digit (d ∷ ds)

-- the word is a number
abbrev pub is_number : List ℕ → Bool
is_number [] = false
is_number (b ∷ bs) = if b == 45 then is_positive bs else is_natural (b ∷ bs)

-- the number that digits write when they follow those of n
abbrev pub number_after : ℕ → List ℕ → ℕ
number_after n [] = n
number_after n (d ∷ ds) = number_after (n * 10 + (d - 48)) ds

-- the number of a word, if it has 64 bits, signed
abbrev pub number_of : List ℕ → Option ℤ
number_of [] = Some (pos 0)
number_of (b ∷ bs) =
    if b == 45 then (if nat_le (number_after 0 bs) (2 ^ 63) then Some (neg_ℤ (pos (number_after 0 bs))) else None)
    else (if nat_lt (number_after 0 (b ∷ bs)) (2 ^ 63) then Some (pos (number_after 0 (b ∷ bs))) else None)

-- a number from 1 on
abbrev pub positive_of : List ℕ → Option ℤ
positive_of w = option_and_then (λ z. if int_le (pos 1) z then Some z else None) (number_of w)

-- a number from 0 on
abbrev pub count_from : ℤ → Option ℕ
count_from (pos n) = Some n
count_from (negsuc n) = None

abbrev pub count_of : List ℕ → Option ℕ
count_of w = option_and_then count_from (number_of w)

-- a number from 0 to 255
abbrev pub byte_of : List ℕ → Option ℕ
byte_of w = option_and_then (λ n. if nat_lt n 256 then Some n else None) (count_of w)

-- a number of 32 bits, signed
abbrev pub coordinate_of : List ℕ → Option ℤ
coordinate_of w =
    option_and_then (λ z. if int_le (negsuc 2147483647) z && int_le z (pos 2147483647) then Some z else None) (number_of w)

-- a parent's number, or `-` for none
abbrev pub parent_of : List ℕ → Option (Option ℤ)
parent_of w = if bytes_eq w (45 ∷ []) then Some None else option_map (λ z. Some z) (positive_of w)

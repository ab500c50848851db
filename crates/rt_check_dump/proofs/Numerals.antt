-- Lemmas on numbers as words.
use Rattle.std.proofs.Common.{◌≡◌, ℕ, ◌+◌, ◌-◌, ◌*◌, ◌<◌, ◌≤◌, List, [], ◌∷◌, ap, length, get_or, drop, arith, suc}
use Rattle.std.proofs.Math.Seq.{drop-cons}
use Rattle.rt_check_dump.specs.Numbers.{number_after}

pub number_after-ge : (n : ℕ) (ds : List ℕ) → n ≤ number_after n ds
number_after-ge n [] = omega arith
number_after-ge n (d ∷ ds) = let rest = number_after-ge (n * 10 + (d - 48)) ds in omega (arith, rest)

-- with a digit to come the number is at least ten times what it is so far
pub number_after-tenfold : (n : ℕ) (ds : List ℕ) (i : ℕ) (all : ℕ) → i < length ds → number_after n (drop i ds) ≡ all → n * 10 ≤ all
number_after-tenfold n ds i all within e =
    let d = get_or ds i 0 in
    let first : number_after n (drop i ds) ≡ number_after (n * 10 + (d - 48)) (drop (suc i) ds) = ap (number_after n) (drop-cons ds i 0 within) in
    let least = number_after-ge (n * 10 + (d - 48)) (drop (suc i) ds) in
    omega (arith, first, least, e)

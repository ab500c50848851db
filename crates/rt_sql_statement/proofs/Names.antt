-- Names compared byte by byte.
use Rattle.std.proofs.Common.{◌≡◌, ◌≢◌, ◌<◌, ◌≤◌, ◌+◌, ℕ, suc, true, false, List, [], ◌∷◌, length, drop, map, get_or, refl, ap, add-one, drop-cons}
use Rattle.std.specs.Char.{eq_ignore_ascii_case, to_ascii_lowercase}
use Rattle.std.specs.Str.{bytes_eq}
use Rattle.std.proofs.lemmas.Bool.{and_right}
use Rattle.std.proofs.lemmas.List.{drop_all}
use Rattle.rt_sql_statement.specs.Name.{same_name}

pub not_as_long : (a b : List ℕ) → length a ≢ length b → same_name a b ≡ false
not_as_long [] [] never = absurd (never refl)
not_as_long [] (y ∷ ys) never = refl
not_as_long (x ∷ xs) [] never = refl
not_as_long (x ∷ xs) (y ∷ ys) never =
    and_right (eq_ignore_ascii_case x y) (bytes_eq (map to_ascii_lowercase xs) (map to_ascii_lowercase ys)) (not_as_long xs ys (λ e. never (ap suc e)))

pub same_rest : (a b : List ℕ) (k : ℕ) → k < length a → k < length b → eq_ignore_ascii_case (get_or a k 0) (get_or b k 0) ≡ true → same_name (drop k a) (drop k b) ≡ same_name (drop (k + 1) a) (drop (k + 1) b)
same_rest a b k first second same = rw (drop-cons a k 0 first, drop-cons b k 0 second, same, add-one k) refl

pub differs : (a b : List ℕ) (k : ℕ) → k < length a → k < length b → eq_ignore_ascii_case (get_or a k 0) (get_or b k 0) ≡ false → same_name (drop k a) (drop k b) ≡ false
differs a b k first second same = rw (drop-cons a k 0 first, drop-cons b k 0 second, same) refl

pub same_end : (a b : List ℕ) (k : ℕ) → length a ≤ k → length b ≤ k → same_name (drop k a) (drop k b) ≡ true
same_end a b k first second = rw (drop_all k a first, drop_all k b second) refl

-- Blocks of bytes without a mark.
use Rattle.std.proofs.Common.{◌≡◌, ℕ, ◌+◌, ◌≤◌, Bool, true, false, not, List, [], ◌∷◌, ◌++◌, length, take, drop, refl, sym, ap, ◌∙◌, arith}
use Rattle.std.proofs.lemmas.List.{length-take-le, length-drop, take-append-drop, drop-drop}
use Rattle.std.specs.List.{list_any, prefix_len}
use Rattle.rt_sql_cut.specs.CutterStep.{is_mark, unmarked_len}

test : {C : Type 0} (b : Bool) → (b ≡ true → C) → (b ≡ false → C) → C
test true f g = f refl
test false f g = g refl

none_before : (p : ℕ → Bool) (xs ys : List ℕ) → list_any p xs ≡ false → prefix_len (λ b. not (p b)) (xs ++ ys) ≡ length xs + prefix_len (λ b. not (p b)) ys
none_before p [] ys h = omega arith
none_before p (b ∷ xs) ys h =
    test (p b)
    (λ e. let h' = rw e at h in absurd (cc))
    (λ e.
    let rest : list_any p xs ≡ false = rw e at h in
    let more = none_before p xs ys rest in
    rw (e, more) (omega arith))

unmarked_front : (n : ℕ) (bytes : List ℕ) → n ≤ length bytes → list_any is_mark (take n bytes) ≡ false → n + unmarked_len (drop n bytes) ≡ unmarked_len bytes
unmarked_front n bytes within h =
    ap (λ k. k + unmarked_len (drop n bytes)) (sym (length-take-le n bytes within))
    ∙ sym (none_before is_mark (take n bytes) (drop n bytes) h)
    ∙ ap unmarked_len (take-append-drop n bytes)

-- a block more, behind those before it
pub block_more : (bytes block : List ℕ) (end : ℕ) → end + 16 ≤ length bytes → block ≡ take 16 (drop end bytes) → list_any is_mark block ≡ false
    → end + unmarked_len (drop end bytes) ≡ unmarked_len bytes → end + 16 + unmarked_len (drop (end + 16) bytes) ≡ unmarked_len bytes
block_more bytes block end within is none so_far =
    let rest = drop end bytes in
    let room : 16 ≤ length rest = omega (arith, length-drop end bytes) in
    let clear : list_any is_mark (take 16 rest) ≡ false = rw (← is) none in
    let more : 16 + unmarked_len (drop (end + 16) bytes) ≡ unmarked_len rest = ap (λ l. 16 + unmarked_len l) (sym (drop-drop 16 end bytes)) ∙ unmarked_front 16 rest room clear in
    omega (arith, more, so_far)

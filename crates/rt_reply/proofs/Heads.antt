-- Changes of views: each is a head with its row.
use Rattle.std.proofs.Common.{◌≡◌, ℕ, zero, suc, ◌<◌, List, [], ◌∷◌, ◌++◌, length, get_or, refl, ap, arith, length-append, ◌∙◌}
use Rattle.rt_sql_statement.specs.declared.value.Value.{Value}
use Rattle.rt_table_row.specs.RowLists.{Lists}
use Rattle.rt_table_row.specs.Views.{ViewChange}
use Rattle.rt_reply.specs.declared.changes.Head.{Head}
use Rattle.rt_reply.specs.Changes.{change, with_rows}

pub rows-push : (heads : List Head) (rows : Lists) (head : Head) (row : List Value) → length heads ≡ length rows → length (heads ++ head ∷ []) ≡ length (rows ++ row ∷ [])
rows-push heads rows head row same = omega (arith, length-append heads (head ∷ []), length-append rows (row ∷ []))

pub length-with_rows : (heads : List Head) (rows : Lists) → length heads ≡ length rows → length (with_rows heads rows) ≡ length heads
length-with_rows [] rows same = refl
length-with_rows (head ∷ heads) [] same = absurd (omega (arith, same))
length-with_rows (head ∷ heads) (row ∷ rows) same =
    let later : length heads ≡ length rows = omega (arith, same) in
    omega (arith, length-with_rows heads rows later)

-- the change at a place is that of the head and the row there
pub with_rows-at : (heads : List Head) (rows : Lists) (at : ℕ) (head : Head) (row : List Value) (d : ViewChange) → at < length heads → length heads ≡ length rows
    → head ≡ get_or heads at head → row ≡ get_or rows at row → change head row ≡ get_or (with_rows heads rows) at d
with_rows-at [] rows at head row d within same is_head is_row = absurd (omega (arith, within))
with_rows-at (x ∷ heads) [] at head row d within same is_head is_row = absurd (omega (arith, same))
with_rows-at (x ∷ heads) (y ∷ rows) zero head row d within same is_head is_row = ap (λ (z : Head). change z row) is_head ∙ ap (λ (z : List Value). change x z) is_row
with_rows-at (x ∷ heads) (y ∷ rows) (suc at) head row d within same is_head is_row =
    let later : length heads ≡ length rows = omega (arith, same) in
    with_rows-at heads rows at head row d (omega (arith, within)) later is_head is_row

-- a head and a row more
pub with_rows-push : (heads : List Head) (rows : Lists) (head : Head) (row : List Value) → length heads ≡ length rows
    → with_rows (heads ++ head ∷ []) (rows ++ row ∷ []) ≡ with_rows heads rows ++ change head row ∷ []
with_rows-push [] [] head row same = refl
with_rows-push [] (y ∷ rows) head row same = absurd (omega (arith, same))
with_rows-push (x ∷ heads) [] head row same = absurd (omega (arith, same))
with_rows-push (x ∷ heads) (y ∷ rows) head row same =
    let later : length heads ≡ length rows = omega (arith, same) in
    ap (λ (changes : List ViewChange). change x y ∷ changes) (with_rows-push heads rows head row later)

-- The rows of each table stand by rising id, whatever was carried out.
use Rattle.std.proofs.Common.{◌≡◌, true, List, [], ◌∷◌, ◌++◌, arith, zero, suc}
use Rattle.std.specs.Prelude.{◌<ℤ◌, int_lt, ℤ, All, filter, not}
use Rattle.std.specs.Ordering.{int_eq}
use Rattle.std.proofs.lemmas.Int.{ints}
use Rattle.std.proofs.lemmas.List.Kept.{AllPairs-cons, AllPairs-filter}
use Rattle.std.proofs.lemmas.List.Elements.{All-cons, All-head, All-tail, All-append, All-weaker, filter_passes}
use Rattle.rt_table_row.specs.Rows.{TableRow, AreRising, with_row, without_id}
use Rattle.rt_table_row.specs.Edits.{Step, Leaves, Comes, Becomes, after_step, outcome}
use Rattle.rt_session.specs.Session.{NamedTable}
use Rattle.rt_laws.specs.SessionLaws.{RowsAlwaysRise}
use Rattle.rt_laws.proofs.EachTable.{always}

-- ---- the rows of one table

abbrev Precedes : TableRow → TableRow → Type 0
Precedes r s = r.id <ℤ s.id

-- rows before a row, and rows after it
rising_around : (xs ys : List TableRow) (row : TableRow) → AreRising xs → All (λ r. Precedes r row) xs → All (Precedes row) ys → AreRising ys → AreRising (xs ++ row ∷ ys)
rising_around [] ys row xs_rise before behind ys_rise = AllPairs-cons Precedes row ys behind ys_rise
rising_around (x ∷ xs) ys row xs_rise before behind ys_rise =
    let first : x.id <ℤ row.id = All-head (λ r. Precedes r row) x xs before in
    let near : All (Precedes x) xs = λ k d lt. xs_rise zero (suc k) d (omega arith) (omega arith) in
    let far : All (Precedes x) ys = All-weaker (Precedes row) (Precedes x) (λ y lt. omega (arith, ints, first, lt)) ys behind in
    let tail : AreRising xs = λ i j d lt within. xs_rise (suc i) (suc j) d (omega arith) (omega arith) in
    AllPairs-cons Precedes x (xs ++ row ∷ ys)
    (All-append (Precedes x) xs (row ∷ ys) near (All-cons (Precedes x) row ys first far))
    (rising_around xs ys row tail (All-tail (λ r. Precedes r row) x xs before) behind ys_rise)

less : (a b : ℤ) → int_lt a b ≡ true → a <ℤ b
less a b is = grind (arith, ints)

rising-with_row : (rows : List TableRow) (row : TableRow) → AreRising rows → AreRising (with_row rows row)
rising-with_row rows row rise =
    rising_around (filter (λ r. int_lt r.id row.id) rows) (filter (λ r. int_lt row.id r.id) rows) row
    (AllPairs-filter Precedes (λ r. int_lt r.id row.id) rows rise)
    (All-weaker (λ r. int_lt r.id row.id ≡ true) (λ r. Precedes r row) (λ r is. less r.id row.id is) (filter (λ r. int_lt r.id row.id) rows) (filter_passes (λ r. int_lt r.id row.id) rows))
    (All-weaker (λ r. int_lt row.id r.id ≡ true) (Precedes row) (λ r is. less row.id r.id is) (filter (λ r. int_lt row.id r.id) rows) (filter_passes (λ r. int_lt row.id r.id) rows))
    (AllPairs-filter Precedes (λ r. int_lt row.id r.id) rows rise)

rising-without_id : (rows : List TableRow) (id : ℤ) → AreRising rows → AreRising (without_id rows id)
rising-without_id rows id rise = AllPairs-filter Precedes (λ r. not (int_eq id r.id)) rows rise

rising-after_step : (rows : List TableRow) (step : Step) → AreRising rows → AreRising (after_step rows step)
rising-after_step rows (Leaves id) rise = rising-without_id rows id rise
rising-after_step rows (Comes row) rise = rising-with_row rows row rise
rising-after_step rows (Becomes id row) rise = rising-with_row (without_id rows id) row (rising-without_id rows id rise)

rising-outcome : (rows : List TableRow) (steps : List Step) → AreRising rows → AreRising (outcome rows steps)
rising-outcome rows [] rise = rise
rising-outcome rows (step ∷ steps) rise = rising-outcome (after_step rows step) steps (rising-after_step rows step rise)

no_row_rises : AreRising []
no_row_rises i j d lt within = absurd (omega arith)

-- ---- the tables of a session

abbrev Rises : NamedTable → Type 0
Rises t = AreRising t.table.rows

pub always_rise : RowsAlwaysRise
always_rise capacity =
    always capacity Rises
    (λ name columns c of. no_row_rises)
    (λ t steps tree rise follows. rising-outcome t.table.rows steps rise)
    (λ t views rise. rise)

use Rattle.std.proofs.Common.{◌≡◌, ℕ, ◌+◌, ◌<◌, List, [], ◌∷◌, ◌++◌, length, get_or, arith, sym, ap, subst, ◌∙◌, below_more}
use Rattle.std.proofs.lemmas.List.{get_or_append_left, get_or_at, length_push}
use Rattle.rt_sql_statement.specs.declared.value.Value.TheVariants.{Null}
use Rattle.rt_table_row.specs.declared.settings.Reading.{Reading}
use Rattle.rt_table_row.specs.declared.settings.Reading.TheVariants.{Literal, Column}
use Rattle.rt_table_row.proofs.Filling.{readings_none}
use Rattle.rt_table_row.proofs.settings.own_readings.Goals as goal

-- one column more reads itself
own-more : (place : ℕ) (before after : List Reading) → length before ≡ place → ((k : ℕ) → k < place → get_or before k (Literal Null) ≡ Column k) → after ≡ before ++ Column place ∷ [] →
    (k : ℕ) → k < place + 1 → get_or after k (Literal Null) ≡ Column k
own-more place before after long own more =
    below_more (λ (k : ℕ). get_or after k (Literal Null) ≡ Column k) place
    (λ k low. ap (λ (rs : List Reading). get_or rs k (Literal Null)) more
    ∙ get_or_append_left before (Column place ∷ []) (Literal Null) k (subst (λ (n : ℕ). k < n) (sym long) low) ∙ own k low)
    (ap (λ (rs : List Reading). get_or rs place (Literal Null)) more ∙ get_or_at before (Column place) [] (Literal Null) place long)

pub loop-place-preserved : goal.loop-place-preserved
loop-place-preserved c =
    let place = c.loop-place.place in
    let before = c.loop-place.readings.items in
    let after = c.push.new.self.items in
    record {
      long = ap length c.in_ok-push.ensures.items ∙ length_push before (Column place) ∙ ap (λ (n : ℕ). n + 1) c.loop-place.invariant.long;
      own = own-more place before after c.loop-place.invariant.long c.loop-place.invariant.own c.in_ok-push.ensures.items;
    }

pub returns : goal.returns
returns c = readings_none c.args.columns.now c.loop-place.readings.items c.requires (omega arith) (λ place within. c.loop-place.invariant.own place (omega arith))

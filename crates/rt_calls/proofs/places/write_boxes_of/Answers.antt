use Rattle.std.proofs.Common.{◌≡◌, ◌+◌, ◌*◌, length, drop, refl, sym, ap, ◌∙◌, le_trans, Fits-le, rules, FitsSigned, w64, to_z-of_z, pos, slice_index_or}
use Rattle.std.proofs.lemmas.List.{drop-drop}
use Rattle.rt_calls.specs.Numbers.{numbers_of}
use Rattle.rt_calls.proofs.Rowing.{written_more}
use Rattle.rt_calls.proofs.Writing.{times_more, from_within}
use Rattle.rt_calls.proofs.places.write_boxes_of.Goals as goal

pub loop-at-preserved : goal.loop-at-preserved
loop-at-preserved g c =
    let numbers = numbers_of c.unwrap-rect.result in
    let before = c.loop-at.boxes in
    let after = c.write_box.new.buffer in
    let place = c.loop-at.place in
    let fits : FitsSigned w64 (slice_index_or c.args.ids.now c.loop-at.at (pos 0)) = search rules in
    let step : place + length numbers ≡ place + 2 * g.row.D = ap (λ n. place + n) c.write_box.ensures.count in
    record {
      place = ap (λ n. n + 2 * g.row.D) c.loop-at.invariant.place ∙ sym (times_more c.loop-at.at (2 * g.row.D));
      size = c.write_box.auto.buffer ∙ c.loop-at.invariant.size;
      rows = written_more c.args.tree.now.lists c.args.ids.now before after c.unwrap-rect.result _ c.loop-at.at place c.loop-at-test.true (to_z-of_z fits)
          (sym c.get.ensures ∙ c.unwrap-rect.ensures) c.write_box.ensures.count c.write_box.ensures.written.0 c.loop-at.invariant.rows;
      back = ap (λ n. drop n after) (sym step) ∙ c.write_box.ensures.written.1 ∙ sym (drop-drop (length numbers) place before)
          ∙ ap (drop (length numbers)) c.loop-at.invariant.back ∙ drop-drop (length numbers) place c.args.boxes.now ∙ ap (λ n. drop n c.args.boxes.now) step;
    }

pub overflow_add-place : goal.overflow_add-place
overflow_add-place g c =
    let within = from_within c.loop-at.at (length c.args.ids.now) (2 * g.row.D) _ _ c.loop-at.invariant.place refl c.loop-at-test.true in
    Fits-le (le_trans within c.requires.room) (record { fits = c.well_formed.1.1.0.0 })

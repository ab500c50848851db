use Rattle.std.proofs.Common.{◌≡◌, ◌+◌, ◌*◌, ◌++◌, length, take, drop, arith, sym, ap, ◌∙◌}
use Rattle.std.proofs.lemmas.List.{length-append, drop-drop}
use Rattle.rt_calls.specs.Numbers.{numbers_of, box_numbers}
use Rattle.rt_calls.proofs.Writing.{boxes_more, times_more}
use Rattle.rt_calls.proofs.numbers.write_boxes.Goals as goal

pub loop-row-preserved : goal.loop-row-preserved
loop-row-preserved g c =
    let numbers = numbers_of c.row-item.result.rect in
    let before = c.loop-row.buffer in
    let after = c.write_box.new.buffer in
    let place = c.loop-row.place in
    let more = boxes_more c.args.rows.now c.loop-row.row-index c.row-item.result c.row-item.result (omega (arith, c.loop-row-test.true)) c.row-item.is in
    let step : place + length numbers ≡ place + 2 * g.row.D = ap (λ n. place + n) c.write_box.ensures.count in
    record {
      place = ap (λ n. n + 2 * g.row.D) c.loop-row.invariant.place ∙ sym (times_more c.loop-row.row-index (2 * g.row.D));
      long = ap length more ∙ length-append (box_numbers (take c.loop-row.row-index c.args.rows.now)) numbers ∙ ap (λ n. n + length numbers) c.loop-row.invariant.long ∙ step;
      size = c.write_box.auto.buffer ∙ c.loop-row.invariant.size;
      front = ap (λ n. take n after) (sym step) ∙ c.write_box.ensures.written.0 ∙ ap (λ l. l ++ numbers) c.loop-row.invariant.front ∙ sym more;
      back = ap (λ n. drop n after) (sym step) ∙ c.write_box.ensures.written.1 ∙ sym (drop-drop (length numbers) place before)
          ∙ ap (drop (length numbers)) c.loop-row.invariant.back ∙ drop-drop (length numbers) place c.args.buffer.now ∙ ap (λ n. drop n c.args.buffer.now) step;
    }

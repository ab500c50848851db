use Rattle.std.proofs.Common.{◌≡◌, ◌*◌, length, take, drop}
use Rattle.rt_calls.specs.Numbers.{box_numbers}
use Rattle.rt_calls.proofs.numbers.write_boxes.Given as goal

abbrev pub invariant-loop-row : goal.invariant-loop-row
invariant-loop-row g l = record {
  place : l.place ≡ l.row-index * (2 * g.row.D);
  long : length (box_numbers (take l.row-index l.rows)) ≡ l.place;
  size : length l.buffer ≡ length l.initial.buffer;
  front : take l.place l.buffer ≡ box_numbers (take l.row-index l.rows);
  back : drop l.place l.buffer ≡ drop l.place l.initial.buffer;
}

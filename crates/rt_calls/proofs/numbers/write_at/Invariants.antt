use Rattle.std.proofs.Common.{◌≡◌, ◌+◌, ◌++◌, length, take, drop}
use Rattle.rt_calls.proofs.numbers.write_at.Given as goal

abbrev pub invariant-loop-place : goal.invariant-loop-place
invariant-loop-place l = record {
  size : length l.buffer ≡ length l.initial.buffer;
  front : take (l.at + l.place) l.buffer ≡ take l.at l.initial.buffer ++ take l.place l.numbers;
  back : drop (l.at + l.place) l.buffer ≡ drop (l.at + l.place) l.initial.buffer;
}

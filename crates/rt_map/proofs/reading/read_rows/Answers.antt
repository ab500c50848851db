use Rattle.std.proofs.Common.{◌++◌, length, map, take, drop, arith, append-nil, ap, ◌∙◌, sym}
use Rattle.std.proofs.lemmas.List.{length_push}
use Rattle.rt_tree.specs.Lists.{row_in}
use Rattle.rt_map.proofs.Pieces.{first-row, no-rows, added, one-less, none-more}
use Rattle.rt_map.proofs.reading.read_rows.Goals as goal

pub returns-in_default-clause-read : goal.returns-in_default-clause-read
returns-in_default-clause-read g c = λ cells rows same.
    let inv = c.loop-left.invariant.read cells rows same in
    let left = c.loop-left.left.now in
    let first = first-row left inv.0 inv.1 inv.2 (omega (arith, c.loop-left-test.true, c.requires.width)) in
    let front = c.split_at.ensures.front ∙ ap (λ n. take n left) c.requires.width ∙ first.front in
    absurd (c.in_default.ensures first.cell first.written first.ordered front)

pub loop-left-preserved : goal.loop-left-preserved
loop-left-preserved g c =
    let left = c.loop-left.left.now in
    record {
      read = λ cells rows same.
          let inv = c.loop-left.invariant.read cells rows same in
          let first = first-row left inv.0 inv.1 inv.2 (omega (arith, c.loop-left-test.true, c.requires.width)) in
          let front = c.split_at.ensures.front ∙ ap (λ n. take n left) c.requires.width ∙ first.front in
          let row = c.in-Some.ensures first.cell first.written first.ordered front in (
            first.others,
            first.rows,
            c.split_at.ensures.back ∙ ap (λ n. drop n left) c.requires.width ∙ first.back,
            added row_in c.loop-left.rows.items c.push.new.self.items _ first.cell first.others inv.0 c.in-Some.row first.is row inv.3 c.in-Ok.ensures.items,
          );
      count = λ count long.
          let inv = c.loop-left.invariant.count count long in
          let less = one-less c.args.width (length left) (length c.split_at.result.1.now) inv.0 (omega (arith, c.requires.width)) c.loop-left-test.true inv.1 (omega (arith, c.split_at.ensures.back_len)) in
          let pushed = ap length c.in-Ok.ensures.items in
          (less.0, less.2, omega (arith, inv.2, less.1, pushed, length_push c.loop-left.rows.items c.in-Some.row));
    }

pub returns-clause-read : goal.returns-clause-read
returns-clause-read g c = λ cells rows same.
    let inv = c.loop-left.invariant.read cells rows same in
    let none = no-rows c.loop-left.left.now inv.0 inv.1 inv.2 (omega (arith, c.loop-left-test.false, c.requires.width)) in
    let items = c.loop-left.rows.items in
    sym (append-nil items) ∙ ap (λ xs. items ++ map row_in xs) (sym none) ∙ inv.3

pub returns-clause-count : goal.returns-clause-count
returns-clause-count g c = λ count long.
    let inv = c.loop-left.invariant.count count long in
    let none = none-more c.args.width (length c.loop-left.left.now) inv.0 c.loop-left-test.false inv.1 in
    omega (arith, inv.2, none)

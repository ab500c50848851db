use Rattle.std.proofs.Common.{◌≡◌, ◌≤◌, pos, [], length, drop, get_or, arith, refl, ap, ◌∙◌, sym}
use Rattle.std.proofs.lemmas.List.{length-map, take_rest}
use Rattle.rt_check.specs.Shadow.{ShadowLists}
use Rattle.rt_check.specs.Conditions.{leaf_cells}
use Rattle.rt_tree.specs.Lists.{row_in, rows_of}
use Rattle.rt_map.proofs.AnyBytes.{head-is}
use Rattle.rt_map.proofs.reading.read.Goals as goal

pub returns-clause-count : goal.returns-clause-count
returns-clause-count g c =
    let bytes = c.args.bytes.now in
    let counted = c.in_ok-read_nodes.ensures.count in
    let s : ShadowLists g.row.D = record { capacity = c.in-Some.capacity; root = pos 0; nodes = counted.0; rows = [] } in
    let long : 6 ≤ length bytes = omega arith in
    let j : get_or bytes 0 0 ≡ 74 = omega arith in
    let d : get_or bytes 1 0 ≡ 68 = omega arith in
    let t : get_or bytes 2 0 ≡ 84 = omega arith in
    let rows : length (rows_of s) ≡ length c.read_nodes.new.parts.rows.items = omega (arith, length-map (leaf_cells counted.0) row_in, counted.2, ap length c.new-3.ensures.items) in (
      s,
      head-is g.row.D c.in-Some.capacity bytes _ long j d t c.if-version-ne-VERSION.false (sym c.from.ensures ∙ c.if-from.false) (sym c.in-Some.ensures.value)
          (counted.1 ∙ take_rest bytes 6),
      rows,
    )

pub returns-clause-head : goal.returns-clause-head
returns-clause-head g c = λ none.
    let bytes = c.args.bytes.now in
    let long : 6 ≤ length bytes = omega arith in
    let j : get_or bytes 0 0 ≡ 74 = omega arith in
    let d : get_or bytes 1 0 ≡ 68 = omega arith in
    let t : get_or bytes 2 0 ≡ 84 = omega arith in
    absurd (none (
      c.in-Some.capacity,
      c.facts.ensures,
      drop 6 bytes,
      sym (head-is g.row.D c.in-Some.capacity bytes (drop 6 bytes) long j d t c.if-version-ne-VERSION.false (sym c.from.ensures ∙ c.if-from.false) (sym c.in-Some.ensures.value) refl),
    ))

pub returns-in_err-read_nodes-clause-head : goal.returns-in_err-read_nodes-clause-head
returns-in_err-read_nodes-clause-head g c = λ none.
    let bytes = c.args.bytes.now in
    let long : 6 ≤ length bytes = omega arith in
    let j : get_or bytes 0 0 ≡ 74 = omega arith in
    let d : get_or bytes 1 0 ≡ 68 = omega arith in
    let t : get_or bytes 2 0 ≡ 84 = omega arith in
    absurd (none (
      c.in-Some.capacity,
      c.facts.ensures,
      drop 6 bytes,
      sym (head-is g.row.D c.in-Some.capacity bytes (drop 6 bytes) long j d t c.if-version-ne-VERSION.false (sym c.from.ensures ∙ c.if-from.false) (sym c.in-Some.ensures.value) refl),
    ))

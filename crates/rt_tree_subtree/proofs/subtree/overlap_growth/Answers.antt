use Rattle.std.proofs.Common.{◌+◌, ◌-◌, length, drop, arith}
use Rattle.std.proofs.lemmas.List.{length-take, length-drop}
use Rattle.rt_tree_subtree.proofs.Growth.{Holds-widened, overlap_enlargement-from_parts}
use Rattle.rt_tree_subtree.proofs.subtree.overlap_growth.Goals as goal

pub common_growth-requires : goal.common_growth-requires
common_growth-requires g c =
    let boxes = c.args.boxes.now in (
      omega (arith, c.facts.ensures.few),
      (
        Holds-widened _ _ _ _ c.facts.ensures c.facts-2.ensures c.union-widened.ensures,
        omega (arith, c.requires.few, length-take c.args.position boxes),
      ),
    )

pub common_growth-requires-2 : goal.common_growth-requires-2
common_growth-requires-2 g c =
    let boxes = c.args.boxes.now in
    let rest = drop (c.args.position + 1) boxes in (
      omega (arith, c.facts.ensures.few),
      (
        Holds-widened _ _ _ _ c.facts.ensures c.facts-2.ensures c.union-widened.ensures,
        omega (arith, c.requires.few, length-take (length boxes - (c.args.position + 1)) rest, length-drop (c.args.position + 1) boxes),
      ),
    )

pub returns : goal.returns
returns g c =
    overlap_enlargement-from_parts c.args.boxes.now c.args.position c.args.new_box.now c.index-boxes-position.result c.union-widened.result _ _
    c.requires.within c.index-boxes-position.is c.union-widened.ensures c.common_growth.ensures.value c.common_growth-2.ensures.value

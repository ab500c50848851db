use Rattle.std.proofs.Common.{arith, length}
use Rattle.std.specs.Prelude.{◌-◌}
use Rattle.rt_box.specs.Capacity.{least_fill}
use Rattle.rt_live.proofs.Once.{length-by_id}
use Rattle.rt_live.proofs.Room.{below-product, more-reached}
use Rattle.rt_live.proofs.nodes.few_nodes.Goals as goal

pub returns : goal.returns
returns g c = λ reached least le h.
    let s = c.args.tree.now.lists in
    let long = length-by_id s c.is_in_shape.ensures in
    below-product (length s.rows) reached (least_fill s.capacity - 1) (length s.nodes)
    (more-reached (length s.rows) reached reached least (least_fill s.capacity) (omega (arith, h, long)) (omega arith) le) c.is_small.ensures.nodes

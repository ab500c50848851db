use Rattle.std.proofs.Common.{Err, sym, subst}
use Rattle.rt_calls.specs.Loading.{Loads}
use Rattle.rt_calls.proofs.Loaded.{same-rows, same-capacity, refused}
use Rattle.rt_calls.proofs.load.load_sound.Goals as goal

pub returns-in-Ok : goal.returns-in-Ok
returns-in-Ok g c = (
  c.requires.sound,
  record {
    rows = same-rows c.in-Ok.tree.lists c.args.shadow.now c.in-Ok.ensures.tree;
    restored = c.in-Ok.ensures.tree;
    again = c.in-Ok.ensures.again;
    most_cells = same-capacity c.in-Ok.tree.lists c.args.shadow.now c.in-Ok.ensures.tree;
    capacity = c.capacity.ensures;
  },
)

pub returns-in-Err : goal.returns-in-Err
returns-in-Err g c =
    subst (λ code. Loads c.args.shadow.now (Err code)) (sym c.fault_code.ensures) (refused c.args.shadow.now c.requires.sound c.in-Err.fault c.in-Err.ensures.fault)

use Rattle.rt_check_draw.proofs.Answering.{writes_drawing}
use Rattle.rt_check_draw.proofs.drawing.answer.Goals as goal

pub returns-in_ok-picture-in-Ok : goal.returns-in_ok-picture-in-Ok
returns-in_ok-picture-in-Ok g c =
    writes_drawing g.W.ByteWriter c.args.choice.now c.args.bytes.now c.args.writer.now c.write_picture.new.writer _ _
    c.in-Ok.ensures.reads c.in_ok-picture-in-Ok.ensures c.write_picture.result c.write_picture.ensures

use Rattle.std.proofs.Common.{Some, subst}
use Rattle.std.proofs.lemmas.Result.{err_from_is_err_and}
use Rattle.rt_bytes.specs.Bytes.{WritesAll, WritesPrefix}
use Rattle.rt_shell.proofs.EngineLemmas.{answers_piece, part_ready}
use Rattle.rt_shell.proofs.engine.Engine.answer_ready.Goals as goal

pub returns-in_err-written : goal.returns-in_err-written
returns-in_err-written g c =
    let p = err_from_is_err_and c.from_residual.result c.from_residual.ensures.1 in
    rw p.1 (record {
      answer = Some c.answer_to-answer.result;
      answers = answers_piece c.args.self.now c.in-Some.piece c.answer_to-answer.result c.clear.new.self c.answer_to-answer.new.session c.is_err.result
          c.in-Some.ensures.value c.in-Some.ensures.whole c.in-Some.ensures.last c.answer_to-answer.ensures c.is_err.ensures.value c.clear.ensures;
      writes = subst (WritesPrefix (g.W.ByteWriter.written c.args.writer.now) (g.W.ByteWriter.written c.write_part-written.new.writer) (g.W.ByteWriter.faults c.args.writer.now) (g.W.ByteWriter.faults c.write_part-written.new.writer)) (part_ready c.args.self.now c.in-Some.piece c.answer_to-answer.result c.in-Some.ensures.value) c.in_err-written.ensures;
      flow = tt;
    })

pub returns : goal.returns
returns g c = record {
  answer = Some c.answer_to-answer.result;
  answers = answers_piece c.args.self.now c.in-Some.piece c.answer_to-answer.result c.clear.new.self c.answer_to-answer.new.session c.is_err.result
      c.in-Some.ensures.value c.in-Some.ensures.whole c.in-Some.ensures.last c.answer_to-answer.ensures c.is_err.ensures.value c.clear.ensures;
  writes = subst (WritesAll (g.W.ByteWriter.written c.args.writer.now) (g.W.ByteWriter.written c.write_part-written.new.writer) (g.W.ByteWriter.faults c.args.writer.now) (g.W.ByteWriter.faults c.write_part-written.new.writer)) (part_ready c.args.self.now c.in-Some.piece c.answer_to-answer.result c.in-Some.ensures.value) c.in_ok-written.ensures;
  flow = c.flow_after.ensures;
}

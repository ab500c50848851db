use Rattle.rt_check_dump.proofs.WrittenText.{texts-apart}
use Rattle.rt_check_dump.proofs.laws.shadows_have_their_own_texts.Goals as goal

pub returns : goal.returns
returns c =
    texts-apart c.args.a.now c.args.b.now c.look_at.ensures c.requires.first c.look_at-2.ensures c.requires.second

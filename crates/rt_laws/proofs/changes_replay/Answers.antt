use Rattle.rt_laws.proofs.Replaying.{changes_replay}
use Rattle.rt_laws.proofs.changes_replay.Goals as goal

pub returns : goal.returns
returns c = changes_replay

use Rattle.rt_box.proofs.Narrowing.{window_allows_what_is_kept}
use Rattle.rt_box.proofs.laws.window_allows_what_is_kept.Goals as goal

pub returns : goal.returns
returns c = window_allows_what_is_kept

use Rattle.std.proofs.Common.{◌≡◌, take, sum_by, length, ◌+◌}
use Rattle.rt_session.proofs.tables.have_views.Given as goal

abbrev pub invariant-loop-named : goal.invariant-loop-named
invariant-loop-named l = sum_by (λ n. length n.table.lists.views) (take l.named-index l.tables) + l.missing ≡ l.many

use Rattle.std.proofs.Common.{◌≡◌, ◌≤◌, ◌<◌, ℕ, get_or, length}
use Rattle.rt_table_view.specs.declared.view.Watched.{Watched}
use Rattle.rt_table_view.specs.Watching.{IsRefreshed}
use Rattle.rt_table_view.proofs.refresh.refresh_each.Given as goal

abbrev pub invariant-loop-at : goal.invariant-loop-at
invariant-loop-at l = record {
  long : length l.views.items ≡ length l.fn.views.items;
  before : (k : ℕ) (w : Watched) → k < l.at → IsRefreshed (get_or l.fn.views.items k w) (get_or l.views.items k w);
  rest : (k : ℕ) (w : Watched) → l.at ≤ k → get_or l.views.items k w ≡ get_or l.fn.views.items k w;
}

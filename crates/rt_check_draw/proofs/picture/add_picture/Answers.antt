use Rattle.std.proofs.Common.{◌≡◌, ◌∙◌, ap, ℕ, Bool, length}
use Rattle.rt_check_draw.specs.Levels.{leaves_out}
use Rattle.rt_check_draw.specs.Legend.{legend_text}
use Rattle.rt_check_draw.specs.Picture.{front_text, plot_text, end_text, height_of, problems_start}
use Rattle.rt_check_draw.proofs.Drawn.{four_joined, added_as}
use Rattle.rt_check_draw.proofs.picture.add_picture.Goals as goal

pub returns : goal.returns
returns g c =
    let s = c.args.shadow.now in
    let f = c.args.frame.now in
    let choice = c.args.choice.now in
    let rows = c.args.rows.now in
    let problems = c.args.problems.now in
    let kept : legend_text f.top c.capacity_of-capacity.result rows c.leaves_out-out.result ≡ legend_text f.top s.capacity rows (leaves_out choice rows) =
    ap (λ (k : ℕ). legend_text f.top k rows c.leaves_out-out.result) c.capacity_of-capacity.ensures
    ∙ ap (λ (o : Bool). legend_text f.top s.capacity rows o) c.leaves_out-out.ensures in
    four_joined _ _ _ _ _ _ (front_text (height_of f.top problems) (length s.rows) s.capacity f) (plot_text choice s f rows)
    (legend_text f.top s.capacity rows (leaves_out choice rows)) (end_text f (problems_start f.top) s.nodes problems)
    (rw (c.height_of-height.ensures, c.count_of-count.ensures, c.capacity_of-capacity.ensures) at c.in_ok-add_front.ensures) c.in_ok-add_plot.ensures
    (added_as _ _ (legend_text f.top c.capacity_of-capacity.result rows c.leaves_out-out.result) _ c.in_ok-add_legend.ensures kept)
    (rw c.start_of_problems-start.ensures at c.add_end.ensures)

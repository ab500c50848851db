use Rattle.std.proofs.Common.{◌≡◌, ◌∙◌, ap, map, List}
use Rattle.rt_check.specs.Conditions.{problems_of}
use Rattle.rt_check_draw.specs.declared.scale.Frame.{Frame}
use Rattle.rt_check.specs.declared.problem.Problem.{Problem}
use Rattle.rt_check_draw.specs.declared.levels.LevelRow.{LevelRow}
use Rattle.rt_check_draw.specs.Scale.{frame_of}
use Rattle.rt_check_draw.specs.Picture.{picture_from}
use Rattle.rt_check_draw.proofs.Drawn.{gives_same}
use Rattle.rt_check_draw.specs.Levels.{row_of, rows_of, down_from}
use Rattle.rt_check_draw.proofs.picture.draw_on.Goals as goal

pub returns : goal.returns
returns g c =
    let s = c.args.shadow.now in
    let axes = c.args.axes in
    let rows : c.deref.result.now ≡ rows_of axes s =
    c.deref.ensures.value ∙ c.in_ok-rows.ensures ∙ ap (λ (f : Frame). map (row_of axes s) (down_from f.top)) c.frame_of-frame.ensures in
    let problems : c.deref-2.result.now ≡ problems_of s = c.deref-2.ensures.value ∙ c.in_ok-problems.ensures in
    let choice = c.args.choice.now in
    let frame : c.frame_of-frame.result ≡ frame_of s axes = c.frame_of-frame.ensures in
    gives_same _ _ _ _
    (ap (λ (f : Frame). picture_from choice s f c.deref.result.now c.deref-2.result.now) frame
    ∙ ap (λ (r : List LevelRow). picture_from choice s (frame_of s axes) r c.deref-2.result.now) rows
    ∙ ap (λ (p : List Problem). picture_from choice s (frame_of s axes) (rows_of axes s) p) problems) c.draw_in.ensures

-- What a written picture is of the dump.
use Rattle.std.proofs.Common.{◌≡◌, ◌∙◌, ap, sym, subst, ℕ, List, Option, Result, Ok, Err}
use Rattle.rt_bytes.specs.Bytes.{WritesAll, WritesPrefix}
use Rattle.rt_bytes.specs.declared.device.ByteWriter.{Ghosts as WriterMembers}
use Rattle.rt_bytes.specs.declared.outcome.Status.{Status}
use Rattle.rt_bytes.specs.declared.outcome.RunFault.{RunFault}
use Rattle.rt_bytes.specs.declared.outcome.RunFault.TheVariants.{Read, Write, Memory}
use Rattle.rt_check_dump.specs.declared.dump.AnyShadow.{AnyShadow}
use Rattle.rt_check_dump.specs.Reading.{read_text}
use Rattle.rt_check_draw.specs.declared.choice.Choice.{Choice}
use Rattle.rt_check_draw.specs.Picture.{any_picture}
use Rattle.rt_check_draw.specs.DrawRun.{picture_or_refusal, picture_status, drawing_of, drawing_status, WritesPicture, WritesDrawing}

module _ {W : Type 0} (w : WriterMembers W) (choice : Choice) (bytes : List ℕ) (old new : W) (shadow : AnyShadow) (picture : Option (List ℕ))
    (read : read_text bytes ≡ Ok shadow) (drawn : picture ≡ any_picture choice shadow) where
  same_text : picture_or_refusal picture ≡ drawing_of choice (read_text bytes)
  same_text = ap picture_or_refusal drawn ∙ sym (ap (drawing_of choice) read)

  same_status : picture_status picture ≡ drawing_status choice (read_text bytes)
  same_status = ap picture_status drawn ∙ sym (ap (drawing_status choice) read)

  pub writes_drawing : (result : Result Status RunFault) → WritesPicture w picture old new result → WritesDrawing w choice bytes old new result
  writes_drawing (Ok status) wrote =
      (subst (WritesAll (w.written old) (w.written new) (w.faults old) (w.faults new)) same_text wrote.0, wrote.1 ∙ same_status)
  writes_drawing (Err Write) wrote = subst (WritesPrefix (w.written old) (w.written new) (w.faults old) (w.faults new)) same_text wrote
  writes_drawing (Err Memory) wrote = absurd wrote
  writes_drawing (Err Read) wrote = absurd wrote

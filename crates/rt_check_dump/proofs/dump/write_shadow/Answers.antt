use Rattle.std.proofs.Common.{refl}
use Rattle.rt_bytes.proofs.Writing.{Writes-after, Writes-first}
use Rattle.rt_check_dump.proofs.dump.write_shadow.Goals as goal

pub returns-in_err-write_header : goal.returns-in_err-write_header
returns-in_err-write_header g c = Writes-first _ _ _ _ _ _ _ _ refl c.from_residual.ensures.0 c.in_err-write_header.ensures

pub returns-in_err-write_nodes : goal.returns-in_err-write_nodes
returns-in_err-write_nodes g c =
    Writes-after _ _ _ _ _ _ _ _ _ c.in_ok-write_header.ensures
    (Writes-first _ _ _ _ _ _ _ _ refl c.from_residual-in_err-write_nodes.ensures.0 c.in_err-write_nodes.ensures)

pub returns-in_err-write_rows : goal.returns-in_err-write_rows
returns-in_err-write_rows g c =
    Writes-after _ _ _ _ _ _ _ _ _ c.in_ok-write_header.ensures
    (Writes-after _ _ _ _ _ _ _ _ _ c.in_ok-write_nodes.ensures
    (Writes-first _ _ _ _ _ _ _ _ refl c.from_residual-in_err-write_rows.ensures.0 c.in_err-write_rows.ensures))

pub returns : goal.returns
returns g c =
    Writes-after _ _ _ _ _ _ _ _ _ c.in_ok-write_header.ensures
    (Writes-after _ _ _ _ _ _ _ _ _ c.in_ok-write_nodes.ensures
    (Writes-after _ _ _ _ _ _ _ _ _ c.in_ok-write_rows.ensures c.write_whole.ensures))

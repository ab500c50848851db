use Rattle.std.proofs.Common.{rules}
use Rattle.rt_box.proofs.Lanes.{told_clear, set_fits}
use Rattle.rt_box.proofs.window.tell_clear.Goals as goal

pub overflow_cast-bytes : goal.overflow_cast-bytes
overflow_cast-bytes k = search (rules, set_fits)

pub returns : goal.returns
returns k =
    let (s, t, u, v, a_is) = k.requires.a in
    let (w, x, y, z, b_is) = k.requires.b in
    let (l, m, n, o, c_is) = k.requires.c in
    let (p, q, r, i, d_is) = k.requires.d in
    rw (a_is, b_is, c_is, d_is) (told_clear s t u v w x y z l m n o p q r i)

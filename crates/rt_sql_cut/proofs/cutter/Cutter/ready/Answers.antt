use Rattle.std.proofs.Common.{◌≡◌, Option, Some, MatchOption, ◌⊎◌, subst, rules}
use Rattle.rt_sql_cut.specs.Pieces.{PieceText, IsGap, IsWholePiece, IsLastPiece}
use Rattle.rt_sql_cut.specs.Cutter.{ready_piece}
use Rattle.rt_sql_cut.proofs.CutterFront.{whole_at, last_at}
use Rattle.rt_sql_cut.proofs.cutter.Cutter.ready.Goals as goal

pub returns-in_err-ending-clause-whole : goal.returns-in_err-ending-clause-whole
returns-in_err-ending-clause-whole c = λ x stands.
    let value : ready_piece c.args.self.now ≡ c.from_residual.result = search rules in
    let P : Option PieceText → Type 0 = λ o. MatchOption o (IsGap x ⊎ ((p : PieceText) × IsLastPiece x p)) (λ p. IsWholePiece x p) in
    subst P value (whole_at c.args.self.now x stands)

pub returns-in_err-ending-clause-last : goal.returns-in_err-ending-clause-last
returns-in_err-ending-clause-last c = λ x stands.
    let value : ready_piece c.args.self.now ≡ c.from_residual.result = search rules in
    let P : Option PieceText → Type 0 = λ o. MatchOption o (IsGap x) (λ p. IsWholePiece x p ⊎ IsLastPiece x p) in
    subst P value (last_at c.args.self.now x stands)

pub returns-clause-last : goal.returns-clause-last
returns-clause-last c = λ x stands.
    let value : ready_piece c.args.self.now ≡ Some c.new.result = search rules in
    let P : Option PieceText → Type 0 = λ o. MatchOption o (IsGap x) (λ p. IsWholePiece x p ⊎ IsLastPiece x p) in
    subst P value (last_at c.args.self.now x stands)

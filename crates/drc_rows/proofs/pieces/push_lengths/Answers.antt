use Rattle.std.proofs.Common.{[], refl}
use Rattle.std.proofs.lemmas.Result.{err_from_is_err_and}
use Rattle.drc_rows.proofs.Lines.{Puts-cut}
use Rattle.drc_rows.proofs.pieces.push_lengths.Goals as goal

pub returns-in_err-reserve_bytes : goal.returns-in_err-reserve_bytes
returns-in_err-reserve_bytes g c =
    let p = err_from_is_err_and c.from_residual.result c.from_residual.ensures.1 in
    Puts-cut _ _ _ _ _ [] _ _ _ _ _ _ _ p.1 refl c.in_err-reserve_bytes.ensures.puts

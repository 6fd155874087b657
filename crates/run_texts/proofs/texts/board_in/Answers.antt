use Rattle.std.proofs.Common.{refl}
use Rattle.board_errors.specs.declared.errors.BoardError.TheVariants.{OutOfMemory}
use Rattle.board_errors.specs.BoardReasons.{board_reason}
use Rattle.pcb_read.specs.BoardText.{BoardSays}
use Rattle.run_texts.specs.declared.texts.Which.TheVariants.{Board}
use Rattle.run_texts.proofs.Refusals.{refuses_so, stops_so}
use Rattle.run_texts.proofs.texts.board_in.Goals as goal

pub returns-in-Err : goal.returns-in-Err
returns-in-Err g c =
    let bytes = c.args.text.now in
    let e = c.in-Err.e in
    stops_so Board bytes (board_reason e) c.refused.result c.refused.ensures (λ r same. refuses_so board_reason OutOfMemory refl (BoardSays bytes) e r c.in-Err.ensures.says same)

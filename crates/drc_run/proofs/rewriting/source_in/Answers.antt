use Rattle.std.proofs.Common.{refl, inr, subst}
use Rattle.board_errors.specs.declared.errors.BoardError.TheVariants.{OutOfMemory}
use Rattle.board_errors.specs.BoardReasons.{board_reason}
use Rattle.board_write.specs.WriteResults.{IsCauseBefore}
use Rattle.pcb_read.specs.BoardText.{BoardSays}
use Rattle.run_texts.specs.declared.texts.Which.TheVariants.{Text}
use Rattle.run_texts.proofs.Refusals.{refuses_so, stops_so}
use Rattle.drc_run.proofs.rewriting.source_in.Goals as goal

pub returns-in-Err-Board-clause-says : goal.returns-in-Err-Board-clause-says
returns-in-Err-Board-clause-says c =
    let bytes = c.args.text.now in
    let e = c.in-Err-Board.e in
    let says = subst (IsCauseBefore bytes) c.in-Err-Board.field-0-is c.in-Err-Board.ensures.cause in
    stops_so Text bytes (board_reason e) c.refused.result c.refused.ensures (λ r same. refuses_so board_reason OutOfMemory refl (BoardSays bytes) e r (inr says) same)

use Rattle.board_edits.proofs.FoundOperations.{found_refusal}
use Rattle.board_edits.proofs.planning.appended.Goals as goal

pub returns-in-Err : goal.returns-in-Err
returns-in-Err c = record { found = found_refusal c.args.board.now c.args.text.now c.args.at c.next_unit.result c.in-Err.error c.refused.result c.next_unit.ensures c.in-Err.ensures.says c.refused.ensures; fits = tt }

use Rattle.std.proofs.Common.{refl}
use Rattle.board_write.proofs.Steps.{begun_edit_state}
use Rattle.board_write.proofs.edit_state.begin.Goals as goal

pub returns : goal.returns
returns c = begun_edit_state c.args.board _ c.new-marks.result.items c.next_unit.result _ refl c.new-marks.ensures.items c.new-marks.ensures.len c.next_unit.ensures c.in_ok-resize.ensures.items c.new.ensures.items refl

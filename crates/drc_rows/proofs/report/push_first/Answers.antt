use Rattle.std.proofs.Common.{ap}
use Rattle.board_items.specs.Boards.{item_at}
use Rattle.drc_rows.specs.Report.{text_of}
use Rattle.drc_rows.proofs.Lines.{Puts-text}
use Rattle.drc_rows.proofs.report.push_first.Goals as goal

pub returns : goal.returns
returns g c = Puts-text _ _ _ _ _ _ _ _ _ (ap (λ id. text_of (item_at c.args.board.now.items id)) c.first.ensures.value) c.push_item_of.ensures

use Rattle.undo_log.proofs.Answers as answers
use Rattle.undo_log.proofs.Ways as ways
use Rattle.undo_log.proofs.laws.one_edit.Goals as goal

pub returns : goal.returns
returns c = λ old new command change back on past of edit leads.
    let more = answers.more_answered old new command edit.1 in ways.one_edit old new command change back on past of edit.0 more.ids more.units leads

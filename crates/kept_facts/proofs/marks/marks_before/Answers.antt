use Rattle.std.proofs.lemmas.Result.{IfOk-weaker}
use Rattle.kept_facts.proofs.Concerns.{marks_before}
use Rattle.kept_facts.proofs.marks.marks_before.Goals as goal

pub returns : goal.returns
returns c = IfOk-weaker c.marks_of.result _ _ (λ marks e. marks_before c.args.board.now c.args.ids.now marks.items e) c.marks_of.ensures

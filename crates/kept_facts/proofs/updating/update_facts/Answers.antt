use Rattle.std.proofs.Common.{sym, subst}
use Rattle.std.proofs.lemmas.Result.{IfOk-weaker}
use Rattle.kept_facts.specs.ConcernedItems.{AreAsked}
use Rattle.kept_facts.proofs.Again.{updated}
use Rattle.kept_facts.proofs.Concerns.{marks_held}
use Rattle.kept_facts.proofs.updating.update_facts.Goals as goal

pub find_all_again-requires-clause-index : goal.find_all_again-requires-clause-index
find_all_again-requires-clause-index c = marks_held c.args.board.now c.args.index.now c.requires.index

pub returns : goal.returns
returns c = λ old edit are had.
    IfOk-weaker c.find_all_again.result _ _
    (λ changed found. updated old c.args.board.now c.args.classes.now c.args.ids.now c.args.before.now edit are c.args.facts.now c.find_all_again.new.facts had c.deref.result.now changed.items
    (subst (AreAsked c.args.board.now c.args.ids.now c.args.before.now) (sym c.deref.ensures.value) c.in_ok-asked.ensures) found)
    c.find_all_again.ensures

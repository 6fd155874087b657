use Rattle.std.proofs.Common.{List, All, subst, sym}
use Rattle.std.proofs.lemmas.List.Elements.{All-push}
use Rattle.pair_check.specs.CheckViews.{checked_by}
use Rattle.row_check.specs.declared.operands.Operand.{Operand}
use Rattle.row_check.specs.Operands.{StandsAt}
use Rattle.row_check.proofs.operands.operands_of.Goals as goal

pub loop-entry-preserved : goal.loop-entry-preserved
loop-entry-preserved c =
    let P : Operand → Type 0 = StandsAt (checked_by c.args.view.now) in
    subst (λ (xs : List Operand). All P xs) (sym c.in_ok-push.ensures.items) (All-push P c.loop-entry.operands.items c.in-Some.operand c.loop-entry.invariant c.in-Some.ensures.1)

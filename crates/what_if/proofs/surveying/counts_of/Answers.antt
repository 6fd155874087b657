use denote.Exit.{no}
use denote.Param.Send.{arg_sync, param_sync}
use Rattle.std.proofs.Common.{ℕ, List, Option, Vec, Global, length, map, sym, subst}
use Rattle.std.proofs.lemmas.Result.{IfOk-weaker}
use Rattle.edit_script.specs.Commands.{plain_command}
use Rattle.what_if.specs.Trials.{IsCount}
use Rattle.what_if.specs.CommandRuns.{AreCommandRuns}
use Rattle.what_if.proofs.Crossing.{trials_cross}
use Rattle.what_if.proofs.Each.{counted}
use Rattle.what_if.proofs.surveying.counts_of.Goals as goal

pub run_tiles-requires-sync-T : goal.run_tiles-requires-sync-T
run_tiles-requires-sync-T g c κs within = param_sync 1 _ (arg_sync _ no _ (trials_cross _ _ _ (param_sync 0 _ c.type_bounds.sync-R) (param_sync 1 _ c.type_bounds.sync-G)))

pub in_order-counts-requires-clause-runs : goal.in_order-counts-requires-clause-runs
in_order-counts-requires-clause-runs g c =
    let s = c.args.session.now.state in
    let commands = map plain_command c.args.commands.now in
    let are : AreCommandRuns s commands c.min-stride.result c.in_ok-runs.runs.items = c.in_ok-runs.ensures.answers in
    subst (λ (runs : List (Vec (Option ℕ) Global)). AreCommandRuns s commands (length runs) runs) (sym c.deref.ensures.value) (subst (λ (n : ℕ). AreCommandRuns s commands n c.in_ok-runs.runs.items) (sym are.long) are)

pub returns : goal.returns
returns g c =
    let commands = c.args.commands.now in
    let is = IsCount c.args.session.now.state in
    IfOk-weaker c.in_order-counts.result _ _ (λ counts are. counted is commands counts.items are.long are.each) c.in_order-counts.ensures

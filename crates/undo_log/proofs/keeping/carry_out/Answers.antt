use Rattle.std.proofs.Common.{ap, ◌∙◌, List, [], ◌∷◌, ◌++◌}
use Rattle.edit_script.specs.Commands.{plain_command}
use Rattle.drc_state.specs.declared.change.Change.{Change}
use Rattle.undo_log.proofs.Kept.{noted}
use Rattle.undo_log.proofs.keeping.carry_out.Goals as goal

pub returns-clause-noted : goal.returns-clause-noted
returns-clause-noted g c =
    let room = c.reserve.ensures.items in
    noted c.args.session.now.state c.apply_kept.new.self.state (plain_command c.args.command.now) c.args.back.now.items c.keep.new.back.items c.args.on.now.items c.keep.new.on.items c.in_ok-applied.change
    c.in_ok-applied.ensures.kind c.in_ok-applied.ensures.back
    (λ is. let kept = c.keep.ensures.again is in (◌∙◌ {A = List Change} kept.0 room, kept.1))
    (λ is. let kept = c.keep.ensures.other is in (◌∙◌ {A = List Change} kept.0 (ap (λ (cs : List Change). cs ++ c.in_ok-applied.change ∷ []) room), kept.1))

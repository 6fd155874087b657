use Rattle.std.proofs.Common.{◌∙◌, refl, sym, subst}
use Rattle.board_edits.specs.Fitting.{plain_operation}
use Rattle.drc_state.specs.StateChanges.{edit, Makes, IsInverseChange}
use Rattle.drc_state.specs.States.{State}
use Rattle.drc_session.specs.SessionContents.{state_of}
use Rattle.drc_session.proofs.Edited.{edited_from}
use Rattle.drc_session.proofs.editing.edit_board.Goals as goal

pub find_recomputed-requires-clause-edited : goal.find_recomputed-requires-clause-edited
find_recomputed-requires-clause-edited g c κs within =
    let old = c.args.parts.now in
    let known = c.in_ok-made.ensures in
    (old.board, edited_from old c.make.new.board _ c.deref.result.now c.in_ok-made.made.ids.items c.deref-2.result.now c.in_ok-look.look c.requires.kept (c.deref.ensures.value ∙ c.in_ok-touched.ensures) known.known c.in_ok-look.ensures known.edited c.deref-2.ensures.value)

pub returns-clause-makes : goal.returns-clause-makes
returns-clause-makes g c =
    subst (λ (s : State). Makes (edit (plain_operation c.args.operation)) (state_of c.args.parts.now) s) (sym c.in_ok-applied.ensures.state) (c.in_ok-made.ensures.after, refl)

pub returns-clause-applied : goal.returns-clause-applied
returns-clause-applied g c =
    let old = c.args.parts.now in
    let known = c.in_ok-made.ensures in
    let from = edited_from old c.make.new.board _ c.deref.result.now c.in_ok-made.made.ids.items c.deref-2.result.now c.in_ok-look.look c.requires.kept (c.deref.ensures.value ∙ c.in_ok-touched.ensures) known.known c.in_ok-look.ensures known.edited c.deref-2.ensures.value in
    (c.in_ok-applied.ensures.applied old.board from, c.in_ok-applied.ensures.dealt)

pub returns-clause-back : goal.returns-clause-back
returns-clause-back g c =
    let old = c.args.parts.now in
    let back = c.in_ok-made.ensures.back in
    (subst (λ (s : State). IsInverseChange (edit (plain_operation c.in_ok-made.made.back)) s (state_of old)) (sym c.in_ok-applied.ensures.state) (record { fits = back.0.fits; leads = (back.0.leads, refl) }), back.1)

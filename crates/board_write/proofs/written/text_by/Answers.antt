use Rattle.std.proofs.Common.{◌≡◌, refl, sym, subst, All, map}
use Rattle.edit_script.specs.Commands.{plain_command}
use Rattle.board_write.specs.Dispositions.{IsAlone}
use Rattle.board_write.proofs.Finish.{finish_by}
use Rattle.board_write.proofs.written.text_by.Goals as goal

pub text_after-requires : goal.text_after-requires
text_after-requires c = subst (All IsAlone) (sym c.deref.ensures.value) c.in_ok-edit_state.ensures.drafted.alone

pub returns : goal.returns
returns c =
    let source = c.args.source in
    let view = c.spans.view_is in
    let slice = c.as_slice.ensures in
    let spans : c.as_slice.result.now ≡ source.spans = cc in
    finish_by c.args.text.now (map plain_command c.args.commands.now) source source.board source.doc c.in_ok-edit_state.edit_state c.as_slice-2.result.now c.as_slice.result.now c.deref.result.now c.in_ok-text.text.items
    c.requires.read refl refl spans c.as_slice-2.ensures.value c.deref.ensures.value c.in_ok-edit_state.ensures c.in_ok-text.ensures

use Rattle.std.proofs.Common.{◌≡◌, ◌++◌, ◌∙◌, ap, sym, ℕ, List, [], map}
use Rattle.std.proofs.lemmas.List.{append-nil}
use Rattle.one_item.specs.declared.item.Item.{Item}
use Rattle.board_items.specs.Boards.{PlainBoard}
use Rattle.row_check.specs.Whole.{ids_of}
use Rattle.row_check.proofs.WholeRows.{ids_rise}
use Rattle.row_check.proofs.whole.ids_of.Goals as goal

none_left : (board : PlainBoard) (ids : List ℕ) (left : List (ℕ × Item)) → left ≡ [] → ids ++ map (λ e. e.0) left ≡ ids_of board → ids ≡ ids_of board
none_left board ids left e h = sym (append-nil ids) ∙ ap (λ (es : List (ℕ × Item)). ids ++ map (λ x. x.0) es) (sym e) ∙ h

pub returns-clause-rise : goal.returns-clause-rise
returns-clause-rise c =
    ids_rise c.args.board.now c.args.board.now.next_id c.loop-id.ids.items c.iter-id-items.ensures.sound.ids (none_left c.args.board.now c.loop-id.ids.items _ c.in-None.ensures.steps.0 c.loop-id.invariant)

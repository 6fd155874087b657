use Rattle.std.proofs.Common.{◌∙◌, ap, sym, ℕ}
use Rattle.board_items.specs.Back.{entries_of}
use Rattle.board_edits.specs.Making.{ids_of, without_added}
use Rattle.board_edits.proofs.AddedItems.{did_add, added_made}
use Rattle.board_edits.proofs.making.append.Goals as goal

pub returns : goal.returns
returns c =
    added_made c.added.ensures c.args.board.now c.add_items.new.board c.args.items.items _ c.soundness.ensures.sound c.soundness-2.ensures.sound c.requires (did_add c.add_items.result _ c.add_items.ensures.added (sym c.is_err.ensures.value ∙ c.if-is_err.false))
    (c.without_added-back.ensures ∙ (ap (λ (n : ℕ). without_added n c.deref.result.now) c.next_unit-unit.ensures ∙ ap (without_added c.args.board.now.next_unit) c.deref.ensures.value))
    (c.in_ok-ids.ensures ∙ ap (λ (n : ℕ). ids_of (entries_of n c.add_items.new.board.items)) c.next_unit-unit.ensures)

use Rattle.std.proofs.Common.{◌∙◌, sym}
use Rattle.board_items.proofs.SlotLists.{from_zero}
use Rattle.board_items.proofs.slots.item_at.Goals as goal

pub returns : goal.returns
returns c = c.item_in.ensures ∙ sym (from_zero c.args.id c.args.slots.now)

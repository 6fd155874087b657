use Rattle.std.proofs.Common.{◌∙◌, ap, sym, List, Result}
use Rattle.board_errors.specs.declared.errors.BoardError.{BoardError}
use Rattle.one_item.specs.declared.item.Item.{Item}
use Rattle.pcb_read.specs.ItemText.{answer_further}
use Rattle.pcb_read.proofs.OneReading.{one_added}
use Rattle.pcb_read.proofs.laws.one_list.Goals as goal

pub returns : goal.returns
returns c board unit text at a b h k =
    h.2
    ∙ ap (λ (found : Result (List Item) BoardError). answer_further at found) (one_added c.one_tree.ensures.forms board unit text h.0 k.0 h.1 k.1)
    ∙ sym k.2

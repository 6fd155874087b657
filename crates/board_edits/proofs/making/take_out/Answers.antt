use Rattle.std.proofs.Common.{refl, map}
use Rattle.board_items.specs.Back.{kept_entry}
use Rattle.board_edits.proofs.TakenUnits.{taken_made}
use Rattle.board_edits.proofs.making.take_out.Goals as goal

pub returns : goal.returns
returns c =
    taken_made c.taken_out.ensures c.args.board.now c.taken.new.self c.args.unit (map kept_entry c.in_ok-items.items.items) _ c.soundness.ensures.sound c.soundness-2.ensures.sound c.in_ok-items.ensures.taken c.in_ok-items.ensures.items refl c.requires

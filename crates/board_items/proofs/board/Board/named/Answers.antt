use Rattle.std.proofs.Common.{ap, length, arith}
use Rattle.board_items.proofs.TagRows.{all_shown, tags_same}
use Rattle.board_items.proofs.board.Board.named.Goals as goal

pub invariant_of-result : goal.invariant_of-result
invariant_of-result c =
    record {
      spare_capacity = let long = ap length c.deref.ensures.value in let last = c.self.invariant.kept.sound.last_id in omega (arith, long, last);
      tags_in = all_shown c.deref.result.now c.deref-2.result.now (tags_same c.self.inside.slots.items _ c.self.inside.tags.items _ c.self.invariant.tags_in c.deref.ensures.value c.deref-2.ensures.value);
      own = c.tag_of.ensures;
    }

use Rattle.std.proofs.Common.{◌≡◌, ◌++◌, length, List}
use Rattle.std.specs.Vec.Iter.{into_iter_items, into_iter_len}
use Rattle.one_item.specs.declared.item.Item.{Item}
use Rattle.part_read.specs.Ready.{AreReady}
use Rattle.pcb_read.specs.BoardOf.{with_items}
use Rattle.pcb_read.proofs.adding.add_items.Given as goal

-- with the items that are left it becomes what it shall be, and it takes them; it has those before them
abbrev pub invariant-loop-item : goal.invariant-loop-item
invariant-loop-item l = record {
  added : with_items l.board (into_iter_items l.item-iterator) ≡ with_items l.initial.board l.fn.items.items;
  ready : AreReady l.board l.unit (into_iter_items l.item-iterator);
  many : into_iter_len l.item-iterator ≡ length (into_iter_items l.item-iterator);
  first : (first : List Item) × (l.fn.items.items ≡ first ++ into_iter_items l.item-iterator) × (l.board ≡ with_items l.initial.board first);
}

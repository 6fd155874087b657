use Rattle.std.proofs.Common.{◌≡◌, ◌++◌, ℕ, List, All, Result, Ok, Err, OnOk, subst, sym}
use Rattle.one_item.specs.declared.item.Item.{Item}
use Rattle.board_items.specs.Boards.{PlainBoard}
use Rattle.part_read.specs.Ready.{IsReady}
use Rattle.footprint_read.specs.declared.contents.Given.{Given}
use Rattle.footprint_read.specs.FootprintOf.{given_at, items_of}
use Rattle.footprint_read.proofs.Standing.{with_ready}
use Rattle.footprint_read.proofs.children.add_items.Goals as goal

added : {E : Type 0} (r : Result (Unit {0}) E) (board : PlainBoard) (unit place : ℕ) (old new : List Given) (items : List Item) → All (IsReady board unit) (items_of old) → All (IsReady board unit) items
    → OnOk r (new ≡ old ++ given_at place items) → OnOk r (All (IsReady board unit) (items_of new))
added (Ok x) board unit place old new items h k e = subst (λ (gs : List Given). All (IsReady board unit) (items_of gs)) (sym e) (with_ready board unit place old items h k)
added (Err x) board unit place old new items h k e = tt

pub returns-clause-ready : goal.returns-clause-ready
returns-clause-ready c board unit h k = added c.append.result board unit c.place.result c.args.contents.now.given c.append.new.self c.args.items.items h k c.append.ensures

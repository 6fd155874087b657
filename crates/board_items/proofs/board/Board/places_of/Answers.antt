use Rattle.std.proofs.Common.{◌≤◌, List, ℕ, ap, length, subst, arith}
use Rattle.board_items.specs.Boards.{PlainBoard}
use Rattle.board_items.specs.ItemSlots.{ArePlacesOf, HaveIdsIn}
use Rattle.board_items.proofs.UnitRows.{as_many}
use Rattle.board_items.proofs.UnitPlaces.{ids_in}
use Rattle.board_items.proofs.board.Board.places_of.Goals as goal

pub places_in-requires-clause-few : goal.places_in-requires-clause-few
places_in-requires-clause-few c =
    let many = as_many c.self.inside.slots.items c.self.inside.units.items c.self.invariant.units_in in
    let last = c.self.invariant.kept.sound.last_id in
    let same = ap length c.deref.ensures.value in
    omega (arith, many, last, same)

pub returns-clause-within : goal.returns-clause-within
returns-clause-within c =
    let many = as_many c.self.inside.slots.items c.self.inside.units.items c.self.invariant.units_in in
    let within = c.places_in.ensures.within in
    let same = ap length c.deref.ensures.value in
    subst (λ (b : PlainBoard). c.places_in.result.end ≤ b.next_id) c.self.view_is (omega (arith, many, within, same))

pub returns-clause-all : goal.returns-clause-all
returns-clause-all c =
    subst (λ (b : PlainBoard). HaveIdsIn c.args.unit c.places_in.result.from c.places_in.result.end b.items) c.self.view_is
    (ids_in c.args.unit c.places_in.result.from c.places_in.result.end c.self.inside.slots.items c.self.inside.units.items c.self.invariant.units_in
    (subst (λ (us : List ℕ). ArePlacesOf c.args.unit us c.places_in.result.from c.places_in.result.end) c.deref.ensures.value c.places_in.ensures))

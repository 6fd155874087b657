use Rattle.std.proofs.Common.{◌≡◌, ◌≤◌, sym, ◌∙◌, ap, arith}
use Rattle.board_items.specs.Boards.{PlainBoard}
use Rattle.board_items.proofs.SlotLists.{without_part, one_passed}
use Rattle.board_items.proofs.UnitPlaces.{passed_before, passed_behind}
use Rattle.board_items.proofs.board.Board.remove.Goals as goal

pub loop-id-init : goal.loop-id-init
loop-id-init c =
    sym (ap (λ es. record c.args.self.now { items = es }) (passed_before c.args.unit c.places_of-places.result.from c.places_of-places.result.end c.args.self.now.items c.places_of-places.ensures.all))

pub drop_if_of-requires : goal.drop_if_of-requires
drop_if_of-requires c =
    let next : c.loop-id.self.next_id ≡ c.args.self.now.next_id = ap (λ (b : PlainBoard). b.next_id) c.loop-id.invariant in
    let within = c.places_of-places.ensures.within in
    omega (arith, next, within)

pub loop-id-preserved : goal.loop-id-preserved
loop-id-preserved c =
    c.drop_if_of.ensures ∙ ap (λ (b : PlainBoard). record b { items = without_part c.loop-id.id c.args.unit b.items }) c.loop-id.invariant
    ∙ ap (λ es. record c.args.self.now { items = es }) (one_passed c.args.unit c.loop-id.id c.args.self.now.items)

pub returns : goal.returns
returns c =
    let ended = c.loop-id-test.false in
    let past : c.places_of-places.result.end ≤ c.loop-id.id = omega (arith, ended) in
    c.loop-id.invariant
    ∙ ap (λ es. record c.args.self.now { items = es })
    (passed_behind c.args.unit c.places_of-places.result.from c.places_of-places.result.end c.loop-id.id c.args.self.now.items c.places_of-places.ensures.all past)

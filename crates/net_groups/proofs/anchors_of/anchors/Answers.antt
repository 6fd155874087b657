use Rattle.std.proofs.Common.{List, ℕ, All, Contains, sym, subst, nat_eq}
use Rattle.std.proofs.lemmas.Result.{IfOk-weaker}
use Rattle.net_groups.specs.ConnectedClasses.{Rises}
use Rattle.net_groups.specs.Numbering.{number_of}
use Rattle.net_groups.proofs.NetIds.{ids_rise}
use Rattle.net_groups.proofs.AnchorsOf.{groups_few, members_listed, anchors_are, anchors_few, anchors_placed, anchors_occur}
use Rattle.net_groups.proofs.anchors_of.anchors.Goals as goal

pub number_groups-requires-clause-few : goal.number_groups-requires-clause-few
number_groups-requires-clause-few c = groups_few c.args.board.now c.args.net c.ids_of-ids.ensures.sound c.args.groups.now c.requires

pub number_groups-requires-clause-disjoint : goal.number_groups-requires-clause-disjoint
number_groups-requires-clause-disjoint c = c.requires.disjoint

pub number_groups-requires-clause-rises : goal.number_groups-requires-clause-rises
number_groups-requires-clause-rises c =
    subst Rises (sym c.ids_of-ids.ensures.ids) (ids_rise (λ item. nat_eq item.net c.args.net) 0 c.args.board.now.next_id c.args.board.now.items c.ids_of-ids.ensures.sound.ids)

pub number_groups-requires-clause-listed : goal.number_groups-requires-clause-listed
number_groups-requires-clause-listed c =
    subst (λ (ids : List ℕ). All (All (Contains ids)) c.args.groups.now) (sym c.ids_of-ids.ensures.ids) (members_listed c.args.board.now c.args.net c.ids_of-ids.ensures.sound c.args.groups.now c.requires)

pub anchors_among-requires-clause-rises : goal.anchors_among-requires-clause-rises
anchors_among-requires-clause-rises c =
    subst Rises (sym c.ids_of-ids.ensures.ids) (ids_rise (λ item. nat_eq item.net c.args.net) 0 c.args.board.now.next_id c.args.board.now.items c.ids_of-ids.ensures.sound.ids)

pub returns-clause-anchors : goal.returns-clause-anchors
returns-clause-anchors c =
    IfOk-weaker c.anchors_among.result _ _
    (λ anchors found. anchors_are c.args.board.now c.args.net c.ids_of-ids.ensures.sound c.args.groups.now c.requires (number_of c.ids_of-ids.result.now c.in_ok-numbers.numbers.items) c.in_ok-numbers.ensures.numbers c.ids_of-ids.result.now c.ids_of-ids.ensures.ids anchors.items found)
    (rw c.deref.ensures.value at c.anchors_among.ensures)

pub returns-clause-rise : goal.returns-clause-rise
returns-clause-rise c =
    IfOk-weaker c.anchors_among.result _ _
    (λ anchors found. (anchors_are c.args.board.now c.args.net c.ids_of-ids.ensures.sound c.args.groups.now c.requires (number_of c.ids_of-ids.result.now c.in_ok-numbers.numbers.items) c.in_ok-numbers.ensures.numbers c.ids_of-ids.result.now c.ids_of-ids.ensures.ids anchors.items found).rise)
    (rw c.deref.ensures.value at c.anchors_among.ensures)

pub returns-clause-occur : goal.returns-clause-occur
returns-clause-occur c =
    IfOk-weaker c.anchors_among.result _ _
    (λ anchors found. anchors_occur c.args.board.now c.args.net c.ids_of-ids.ensures.sound c.args.groups.now c.requires (number_of c.ids_of-ids.result.now c.in_ok-numbers.numbers.items) c.in_ok-numbers.ensures.numbers c.ids_of-ids.result.now c.ids_of-ids.ensures.ids anchors.items found)
    (rw c.deref.ensures.value at c.anchors_among.ensures)

pub returns-clause-few : goal.returns-clause-few
returns-clause-few c =
    IfOk-weaker c.anchors_among.result _ _
    (λ anchors found. anchors_few c.args.board.now c.args.net c.ids_of-ids.ensures.sound c.args.groups.now c.requires (number_of c.ids_of-ids.result.now c.in_ok-numbers.numbers.items) c.in_ok-numbers.ensures.numbers c.ids_of-ids.result.now c.ids_of-ids.ensures.ids anchors.items found)
    (rw c.deref.ensures.value at c.anchors_among.ensures)

pub returns-clause-placed : goal.returns-clause-placed
returns-clause-placed c =
    IfOk-weaker c.anchors_among.result _ _
    (λ anchors found. anchors_placed c.args.board.now c.args.net c.ids_of-ids.ensures.sound c.args.groups.now c.requires (number_of c.ids_of-ids.result.now c.in_ok-numbers.numbers.items) c.in_ok-numbers.ensures.numbers c.ids_of-ids.result.now c.ids_of-ids.ensures.ids anchors.items found)
    (rw c.deref.ensures.value at c.anchors_among.ensures)

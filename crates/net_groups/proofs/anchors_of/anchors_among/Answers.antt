use Rattle.std.proofs.Common.{ℕ, List, take, get_or, arith, subst}
use Rattle.std.proofs.lemmas.List.{take_more, take_all}
use Rattle.net_groups.specs.Numbering.{number_of, AreAnchorsAmong}
use Rattle.net_groups.proofs.Beside.{number_at}
use Rattle.net_groups.proofs.NetIds.{below_next}
use Rattle.net_groups.proofs.Anchoring.{among_more}
use Rattle.net_groups.proofs.anchors_of.anchors_among.Goals as goal

pub loop-place-preserved : goal.loop-place-preserved
loop-place-preserved c =
    let ids = c.args.ids.now in
    let numbers = c.args.numbers.now in
    let k = c.loop-place.place in
    among_more c.args.board.now.items (number_of ids numbers) (take k ids) _ (get_or ids k 0) (take_more ids k 0 (omega arith)) (below_next ids k c.requires.rises (omega arith))
    c.loop-place.anchors.items c.push_numbered.new.anchors.items c.loop-place.invariant (c.in_ok-push_numbered.ensures (number_of ids numbers) (number_at ids c.requires.rises numbers c.requires.many k (omega arith)))

pub returns : goal.returns
returns c =
    subst (λ (is : List ℕ). AreAnchorsAmong c.args.board.now.items (number_of c.args.ids.now c.args.numbers.now) is c.loop-place.anchors.items) (take_all c.loop-place.place c.args.ids.now (omega arith)) c.loop-place.invariant

use Rattle.std.proofs.Common.{◌↔◌, List, ◌∷◌, [], IsTrue, subst}
use Rattle.std.specs.List.{Any}
use Rattle.geo_seg.specs.Distances.{Meet}
use Rattle.one_item.specs.declared.parts.Part.{Part}
use Rattle.one_item.specs.CopperPairs.{SomeMeet}
use Rattle.item_copper.specs.MeasuredSides.{parts_at}
use Rattle.item_copper.proofs.SideLists.{of_listed, of_single, of_any, single_part, listed_parts, meet_is}
use Rattle.item_copper.proofs.measured_pair.sides_meet.Goals as goal

pub returns-in-Listed : goal.returns-in-Listed
returns-in-Listed c =
    let others = parts_at c.args.others.now in
    let own = c.in-Listed.listed in
    subst (λ (ps : List Part). IsTrue c.listed_meet.result ↔ SomeMeet ps others) (of_listed c.args.own.now own c.in-Listed.is) (meet_is (listed_parts own) others c.listed_meet.result c.listed_meet.ensures)

pub returns-in-Single : goal.returns-in-Single
returns-in-Single c =
    let others = parts_at c.args.others.now in
    let own = c.in-Single.single in
    subst (λ (ps : List Part). IsTrue c.meets_side.result ↔ SomeMeet ps others) (of_single c.args.own.now own c.in-Single.is)
    (meet_is (single_part own ∷ []) others c.meets_side.result (of_any (λ (part : Part). Any (λ other. Meet part.shape other.shape) others) (single_part own) c.meets_side.result c.meets_side.ensures))

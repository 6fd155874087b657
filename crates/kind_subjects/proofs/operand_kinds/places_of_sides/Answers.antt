use Rattle.std.proofs.Common.{sym, subst}
use Rattle.kind_subjects.specs.declared.subject.OperandKinds.{OperandKinds}
use Rattle.kind_subjects.specs.MeasuredPair.{faced}
use Rattle.kind_subjects.specs.PairSides.{AreFacedWithin}
use Rattle.kind_subjects.proofs.Unfaced.{hole_within}
use Rattle.kind_subjects.proofs.operand_kinds.places_of_sides.Goals as goal

pub returns-in-HolesAndCopper-clause-each : goal.returns-in-HolesAndCopper-clause-each
returns-in-HolesAndCopper-clause-each c = λ copper layer is.
    let a = c.args.a.now in
    let b = c.args.b.now in
    let places = c.places_in-in-HolesAndCopper.result in
    subst (λ (f : OperandKinds). AreFacedWithin (faced f layer a b) places.from places.to layer) (sym c.in-HolesAndCopper.is)
    (hole_within c.holed_beside.result a b places.from places.to c.places_in-in-HolesAndCopper.ensures.each c.holed_beside.ensures.there c.holed_beside.ensures.back layer)

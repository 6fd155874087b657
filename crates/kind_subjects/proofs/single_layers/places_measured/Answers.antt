use Rattle.std.proofs.Common.{sym, ap, subst, ◌∙◌}
use Rattle.kind_subjects.specs.declared.subject.Subject.{Subject}
use Rattle.kind_subjects.specs.declared.subject.Subject.TheVariants.{Length}
use Rattle.kind_subjects.specs.SingleLayers.{IsMeasuredIn}
use Rattle.kind_subjects.proofs.SingleLayers.{width_within}
use Rattle.kind_subjects.proofs.single_layers.places_measured.Goals as goal

pub returns-in-Length-Width-clause-each : goal.returns-in-Length-Width-clause-each
returns-in-Length-Width-clause-each c = λ item same layer at.
    let places = c.places_in.result in
    width_within item c.args.parts.now c.layers_of.result places.from places.to same c.layers_of.ensures c.places_in.ensures.each layer
    (subst (λ (s : Subject). IsMeasuredIn s item layer) (sym c.subject_of.ensures ∙ c.in-Length-Width.is ∙ ap Length c.in-Length-Width.field-0-is) at)

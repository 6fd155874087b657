use Rattle.std.proofs.Common.{inl, inr, sym, ◌∙◌, arith}
use Rattle.std.proofs.lemmas.List.Elements.{All-nil}
use Rattle.kind_subjects.specs.declared.subject.Subject.TheVariants.{Sides, Length, Whole}
use Rattle.kind_subjects.specs.PairSides.{IsUnfaced}
use Rattle.kind_subjects.proofs.Unfaced.{kind_within}
use Rattle.kind_subjects.proofs.operand_kinds.places_between.Goals as goal

pub returns-in-Sides-clause-each : goal.returns-in-Sides-clause-each
returns-in-Sides-clause-each c = λ copper layer is.
    let places = c.places_of_sides.result in
    kind_within c.args.kind (Sides c.in-Sides.operand_kinds) c.args.a.now c.args.b.now places.from places.to layer (sym c.subject_of.ensures ∙ c.in-Sides.is) (c.places_of_sides.ensures.each copper layer is)

pub returns-in-Length : goal.returns-in-Length
returns-in-Length c = record {
  bound = omega arith;
  each = λ copper layer is.
      elim c.in-Length.is [
        | inl m ↦ kind_within c.args.kind (Length m.0) c.args.a.now c.args.b.now 0 0 layer (sym c.subject_of.ensures ∙ m.1) (inl (All-nil IsUnfaced))
        | inr w ↦ kind_within c.args.kind Whole c.args.a.now c.args.b.now 0 0 layer (sym c.subject_of.ensures ∙ w) (inl (All-nil IsUnfaced))
      ];
}

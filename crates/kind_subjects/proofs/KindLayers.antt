-- A copper layer on which a kind is asked is one of the 32 that there can be.
use Rattle.std.proofs.Common.{ℕ, ◌<◌, inl, inr}
use Rattle.cond_lang.specs.declared.kind.Kind.{Kind}
use Rattle.kind_subjects.specs.declared.subject.OperandKinds.{OperandKinds}
use Rattle.kind_subjects.specs.declared.subject.OperandKinds.TheVariants.{Coppers, HolesAndCopper, EdgesAndCopper, Areas}
use Rattle.kind_subjects.specs.declared.subject.Measure.{Measure}
use Rattle.kind_subjects.specs.declared.subject.Measure.TheVariants.{Width}
use Rattle.kind_subjects.specs.declared.subject.Subject.{Subject}
use Rattle.kind_subjects.specs.declared.subject.Subject.TheVariants.{Sides, Length, Whole}
use Rattle.kind_subjects.specs.declared.layer.RowLayer.TheVariants.{Copper}
use Rattle.kind_subjects.specs.Subjects.{subject_of}
use Rattle.kind_subjects.specs.KindLayers.{IsFacedOn, IsMeasuredOn, IsSeenOn, IsLayerOf}

pub layer_below : (kind : Kind) (n : ℕ) → IsLayerOf kind (Copper n) → n < 32
layer_below kind n h = by (subject_of kind) h
  where
    faced : (operand_kinds : OperandKinds) → IsFacedOn operand_kinds (Copper n) → n < 32
    faced Coppers h = h
    faced HolesAndCopper h = h
    faced EdgesAndCopper (inl h) = h
    faced EdgesAndCopper (inr h) = absurd h
    faced Areas h = h
    faced _ h = absurd h

    measured : (measure : Measure) → IsMeasuredOn measure (Copper n) → n < 32
    measured Width h = h
    measured _ h = absurd h

    by : (subject : Subject) → IsSeenOn subject (Copper n) → n < 32
    by (Sides operand_kinds) h = faced operand_kinds h
    by (Length measure) h = measured measure h
    by Whole (inl h) = h
    by Whole (inr h) = absurd h

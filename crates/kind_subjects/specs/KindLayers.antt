-- On which layers a kind is asked.
use Rattle.std.specs.Prelude.{◌⊎◌, ◌<◌}
use Rattle.cond_lang.specs.declared.kind.Kind.{Kind}
use Rattle.kind_subjects.specs.declared.subject.OperandKinds.{OperandKinds}
use Rattle.kind_subjects.specs.declared.subject.OperandKinds.TheVariants.{Coppers, HolesAndCopper, Holes, EdgesAndCopper, Yards, Areas}
use Rattle.kind_subjects.specs.declared.subject.Measure.{Measure}
use Rattle.kind_subjects.specs.declared.subject.Measure.TheVariants.{Width, Diameter, Bore, Ring}
use Rattle.kind_subjects.specs.declared.subject.Subject.{Subject}
use Rattle.kind_subjects.specs.declared.subject.Subject.TheVariants.{Sides, Length, Whole}
use Rattle.kind_subjects.specs.declared.layer.RowLayer.{RowLayer}
use Rattle.kind_subjects.specs.declared.layer.RowLayer.TheVariants.{Copper, FrontYard, BackYard, Nowhere}
use Rattle.kind_subjects.specs.Subjects.{subject_of}

-- one of the copper layers
abbrev pub IsCopper : RowLayer → Type 0
IsCopper (Copper layer) = layer < 32
IsCopper _ = ⊥

abbrev pub IsNowhere : RowLayer → Type 0
IsNowhere Nowhere = Unit {0}
IsNowhere _ = ⊥

abbrev pub IsYard : RowLayer → Type 0
IsYard FrontYard = Unit {0}
IsYard BackYard = Unit {0}
IsYard _ = ⊥

-- on which layers parts face each other: courtyards on their own, holes on none, the others on copper layers, and edges also face what
-- has no copper
abbrev pub IsFacedOn : OperandKinds → RowLayer → Type 0
IsFacedOn Coppers layer = IsCopper layer
IsFacedOn HolesAndCopper layer = IsCopper layer
IsFacedOn Holes layer = IsNowhere layer
IsFacedOn EdgesAndCopper layer = IsCopper layer ⊎ IsNowhere layer
IsFacedOn Yards layer = IsYard layer
IsFacedOn Areas layer = IsCopper layer

-- tracks are measured on copper layers, sizes and holes on none
abbrev pub IsMeasuredOn : Measure → RowLayer → Type 0
IsMeasuredOn Width layer = IsCopper layer
IsMeasuredOn Diameter layer = IsNowhere layer
IsMeasuredOn Bore layer = IsNowhere layer
IsMeasuredOn Ring layer = IsNowhere layer

-- a single item is asked on copper layers, and without copper on none
abbrev pub IsSeenOn : Subject → RowLayer → Type 0
IsSeenOn (Sides operand_kinds) layer = IsFacedOn operand_kinds layer
IsSeenOn (Length measure) layer = IsMeasuredOn measure layer
IsSeenOn Whole layer = IsCopper layer ⊎ IsNowhere layer

-- on which layers a kind is asked
abbrev pub IsLayerOf : Kind → RowLayer → Type 0
IsLayerOf kind layer = IsSeenOn (subject_of kind) layer

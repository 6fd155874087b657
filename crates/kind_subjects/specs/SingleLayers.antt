-- On which layers a single item is asked, and on which it is measured.
use Rattle.std.specs.Prelude.{◌≡◌, List, [], if◌then◌else◌}
use Rattle.one_item.specs.declared.parts.Part.{Part}
use Rattle.one_item.specs.declared.item.What.{What}
use Rattle.one_item.specs.declared.item.What.TheVariants.{Edge, Area, Body, Note}
use Rattle.one_item.specs.declared.item.Item.{Item}
use Rattle.cond_lang.specs.declared.kind.Kind.{Kind}
use Rattle.rule_pick.specs.FactsOf.{SomeOn}
use Rattle.kind_subjects.specs.declared.subject.Measure.{Measure}
use Rattle.kind_subjects.specs.declared.subject.Measure.TheVariants.{Width, Diameter, Bore, Ring}
use Rattle.kind_subjects.specs.declared.subject.Subject.{Subject}
use Rattle.kind_subjects.specs.declared.subject.Subject.TheVariants.{Sides, Length, Whole}
use Rattle.kind_subjects.specs.declared.layer.RowLayer.{RowLayer}
use Rattle.kind_subjects.specs.declared.layer.RowLayer.TheVariants.{Copper, Nowhere}
use Rattle.kind_subjects.specs.Subjects.{subject_of}

-- an item is asked on the layers of its copper, and without copper on none
abbrev pub LiesAt : List Part → RowLayer → Type 0
LiesAt copper (Copper layer) = SomeOn layer copper
LiesAt copper Nowhere = copper ≡ []
LiesAt copper _ = ⊥

-- a footprint on the copper layer of its side; edges, areas and notes nowhere
abbrev pub IsAskedAt : Item → What → RowLayer → Type 0
IsAskedAt item (Body reference front back on_back) layer = layer ≡ (if on_back then Copper 31 else Copper 0)
IsAskedAt item (Edge lines) layer = ⊥
IsAskedAt item (Area title bans shape) layer = ⊥
IsAskedAt item (Note about at_layer) layer = ⊥
IsAskedAt item _ layer = LiesAt item.copper layer

abbrev pub IsOnCopper : List Part → RowLayer → Type 0
IsOnCopper copper (Copper layer) = SomeOn layer copper
IsOnCopper copper _ = ⊥

-- tracks are measured where their copper lies, sizes and holes without a layer
abbrev pub IsMeasuredBy : Measure → Item → RowLayer → Type 0
IsMeasuredBy Width item layer = IsOnCopper item.copper layer
IsMeasuredBy Diameter item layer = layer ≡ Nowhere
IsMeasuredBy Bore item layer = layer ≡ Nowhere
IsMeasuredBy Ring item layer = layer ≡ Nowhere

abbrev pub IsMeasuredIn : Subject → Item → RowLayer → Type 0
IsMeasuredIn (Sides operand_kinds) item layer = ⊥
IsMeasuredIn (Length measure) item layer = IsMeasuredBy measure item layer
IsMeasuredIn Whole item layer = ⊥

abbrev pub IsMeasuredAt : Kind → Item → RowLayer → Type 0
IsMeasuredAt kind item layer = IsMeasuredIn (subject_of kind) item layer

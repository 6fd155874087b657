-- What each kind looks at: what faces each other of two items, a length of a single item, or a single item as a whole.
use Rattle.cond_lang.specs.declared.kind.Kind.{Kind}
use Rattle.cond_lang.specs.declared.kind.Kind.TheVariants.{Short, Clearance, HoleClearance, HoleToHole, EdgeClearance, CourtyardClearance, Keepout, TrackWidth, ViaDiameter, HoleSize, AnnularWidth, Disallow, PhysicalClearance, PhysicalHoleClearance, Assertion}
use Rattle.kind_subjects.specs.declared.subject.OperandKinds.TheVariants.{Coppers, HolesAndCopper, Holes, EdgesAndCopper, Yards, Areas}
use Rattle.kind_subjects.specs.declared.subject.Measure.TheVariants.{Width, Diameter, Bore, Ring}
use Rattle.kind_subjects.specs.declared.subject.Subject.{Subject}
use Rattle.kind_subjects.specs.declared.subject.Subject.TheVariants.{Sides, Length, Whole}

abbrev pub subject_of : Kind → Subject
subject_of Short = Sides Coppers
subject_of Clearance = Sides Coppers
subject_of HoleClearance = Sides HolesAndCopper
subject_of HoleToHole = Sides Holes
subject_of EdgeClearance = Sides EdgesAndCopper
subject_of CourtyardClearance = Sides Yards
subject_of Keepout = Sides Areas
subject_of TrackWidth = Length Width
subject_of ViaDiameter = Length Diameter
subject_of HoleSize = Length Bore
subject_of AnnularWidth = Length Ring
subject_of Disallow = Whole
subject_of PhysicalClearance = Sides Coppers
subject_of PhysicalHoleClearance = Sides HolesAndCopper
subject_of Assertion = Whole

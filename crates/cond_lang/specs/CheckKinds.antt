-- The kinds of what is checked: how they are broken, what sets them apart, their numbers and their names.
use Rattle.std.specs.Prelude.{ℕ, Bool, true, false, List, codes}
use Rattle.cond_lang.specs.declared.kind.Kind.{Kind}
use Rattle.cond_lang.specs.declared.kind.Kind.TheVariants.{Short, Clearance, HoleClearance, HoleToHole, EdgeClearance, CourtyardClearance, Keepout, TrackWidth, ViaDiameter, HoleSize, AnnularWidth, Disallow, PhysicalClearance, PhysicalHoleClearance, Assertion}
use Rattle.cond_lang.specs.declared.kind.Family.{Family}
use Rattle.cond_lang.specs.declared.kind.Family.TheVariants.{Meets, Keeps, Limits, Forbids}
use Rattle.cond_lang.specs.declared.kind.Special.{Special}
use Rattle.cond_lang.specs.declared.kind.Special.TheVariants.{Common, OfClasses, OfNets, Claims}

-- how a kind is broken: two items meet, or do not keep a distance; a length of a single item breaks a limit, or the item is forbidden
abbrev pub family : Kind → Family
family Short = Meets
family Clearance = Keeps
family HoleClearance = Keeps
family HoleToHole = Keeps
family EdgeClearance = Keeps
family CourtyardClearance = Keeps
family Keepout = Meets
family TrackWidth = Limits
family ViaDiameter = Limits
family HoleSize = Limits
family AnnularWidth = Limits
family Disallow = Forbids
family PhysicalClearance = Keeps
family PhysicalHoleClearance = Keeps
family Assertion = Forbids

-- what sets the kind apart from the others of its family
abbrev pub special : Kind → Special
special Short = Common
special Clearance = OfClasses
special HoleClearance = OfNets
special HoleToHole = Common
special EdgeClearance = Common
special CourtyardClearance = Common
special Keepout = Common
special TrackWidth = Common
special ViaDiameter = Common
special HoleSize = Common
special AnnularWidth = Common
special Disallow = Common
special PhysicalClearance = Common
special PhysicalHoleClearance = Common
special Assertion = Claims

abbrev pub is_own : Special → Bool
is_own Common = false
is_own OfClasses = true
is_own OfNets = false
is_own Claims = false

abbrev pub is_of_nets : Special → Bool
is_of_nets Common = false
is_of_nets OfClasses = true
is_of_nets OfNets = true
is_of_nets Claims = false

abbrev pub is_claim : Special → Bool
is_claim Common = false
is_claim OfClasses = false
is_claim OfNets = false
is_claim Claims = true

-- classes and items have values of their own for it
abbrev pub has_own : Kind → Bool
has_own kind = is_own (special kind)

-- a short takes its place
abbrev pub gives_place : Kind → Bool
gives_place kind = is_of_nets (special kind)

-- a condition is claimed of the item
abbrev pub is_assertion : Kind → Bool
is_assertion kind = is_claim (special kind)

abbrev pub kind_number : Kind → ℕ
kind_number Short = 1
kind_number Clearance = 2
kind_number HoleClearance = 3
kind_number HoleToHole = 4
kind_number EdgeClearance = 5
kind_number CourtyardClearance = 6
kind_number Keepout = 7
kind_number TrackWidth = 8
kind_number ViaDiameter = 9
kind_number HoleSize = 10
kind_number AnnularWidth = 11
kind_number Disallow = 12
kind_number PhysicalClearance = 13
kind_number PhysicalHoleClearance = 14
kind_number Assertion = 15

abbrev pub kind_name : Kind → List ℕ
kind_name Short = codes "short"
kind_name Clearance = codes "clearance"
kind_name HoleClearance = codes "hole_clearance"
kind_name HoleToHole = codes "hole_to_hole"
kind_name EdgeClearance = codes "edge_clearance"
kind_name CourtyardClearance = codes "courtyard_clearance"
kind_name Keepout = codes "keepout"
kind_name TrackWidth = codes "track_width"
kind_name ViaDiameter = codes "via_diameter"
kind_name HoleSize = codes "hole_size"
kind_name AnnularWidth = codes "annular_width"
kind_name Disallow = codes "disallow"
kind_name PhysicalClearance = codes "physical_clearance"
kind_name PhysicalHoleClearance = codes "physical_hole_clearance"
kind_name Assertion = codes "assertion"

-- What a project says of nets: its classes, the patterns that give nets their classes, and the least sizes of the board.
-- Lengths are in nanometres.
use Rattle.std.specs.Prelude.{ℕ, ℤ, pos, List, [], ◌∷◌, false, bytes_eq, codes, find, Option, Some, None, unwrap_or}
use Rattle.std.specs.Int.{int_max}
use Rattle.net_class.specs.Wild.{matches}

pub record PlainClass : Type 0 where
  pub name : List ℕ
  pub clearance : ℤ

-- nets whose names match the pattern have the class
pub record PlainPattern : Type 0 where
  pub class : List ℕ
  pub pattern : List ℕ

pub record PlainMins : Type 0 where
  pub min_clearance : ℤ
  pub min_copper_edge_clearance : ℤ
  pub min_hole_clearance : ℤ
  pub min_hole_to_hole : ℤ
  pub min_through_hole_diameter : ℤ
  pub min_track_width : ℤ
  pub min_via_annular_width : ℤ
  pub min_via_diameter : ℤ

-- the class Default, which is always there, and the classes of the project, of which no two have one name
pub record PlainClasses : Type 0 where
  pub default : PlainClass
  pub named : List PlainClass
  pub patterns : List PlainPattern
  pub mins : PlainMins

-- the class of this name, or Default
unfoldable pub class_named : PlainClass → List PlainClass → List ℕ → PlainClass
class_named default named name = unwrap_or (find (λ c. bytes_eq c.name name) named) default

abbrev pub class_by : PlainClass → List PlainClass → Option PlainPattern → PlainClass
class_by default named None = default
class_by default named (Some p) = class_named default named p.class

-- the first pattern that matches the whole name, case kept
unfoldable pub pattern_of : List PlainPattern → List ℕ → Option PlainPattern
pattern_of patterns name = find (λ p. matches false p.pattern name) patterns

-- the class of a net: that of its pattern; Default where it has none, or the class is not there
unfoldable pub class_of : PlainClasses → List ℕ → PlainClass
class_of classes name = class_by classes.default classes.named (pattern_of classes.patterns name)

abbrev pub greatest_of : ℤ → List PlainClass → ℤ
greatest_of least [] = least
greatest_of least (c ∷ named) = greatest_of (int_max c.clearance least) named

-- the greatest clearance of all classes
unfoldable pub greatest_clearance : PlainClasses → ℤ
greatest_clearance classes = greatest_of classes.default.clearance classes.named

-- ---- without a project

-- 0.2 mm
abbrev pub plain_default : PlainClass
plain_default = record { name = codes "Default"; clearance = pos 200000 }

abbrev pub plain_mins : PlainMins
plain_mins = record {
  min_clearance = pos 0;
  min_copper_edge_clearance = pos 500000;
  min_hole_clearance = pos 250000;
  min_hole_to_hole = pos 250000;
  min_through_hole_diameter = pos 300000;
  min_track_width = pos 0;
  min_via_annular_width = pos 100000;
  min_via_diameter = pos 500000;
}

abbrev pub plain_classes : PlainClasses
plain_classes = record { default = plain_default; named = []; patterns = []; mins = plain_mins }

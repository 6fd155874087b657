-- The kinds for which two items may be asked to keep a distance.
use Rattle.std.specs.Prelude.{◌≡◌, Bool, false, ◌==◌, List}
use Rattle.std.specs.List.{list_any}
use Rattle.cond_lang.specs.declared.kind.Kind.{Kind}
use Rattle.cond_lang.specs.declared.kind.Kind.TheVariants.{HoleClearance, HoleToHole, EdgeClearance, PhysicalClearance, PhysicalHoleClearance}
use Rattle.cond_lang.specs.declared.constraint.Constraint.{Constraint}
use Rattle.cond_lang.specs.declared.constraints.Rule.{Rule}
use Rattle.cond_lang.specs.CheckKinds.{kind_number}
use Rattle.kind_subjects.specs.declared.layer.RowLayer.{RowLayer}
use Rattle.pair_check.specs.declared.asked.Asked.{Asked}
use Rattle.pair_check.specs.Pairs.{Deciders, Pair, IsNearAt}

-- the rule asks something of the kind
abbrev pub asks : Kind → Rule → Bool
asks kind rule = list_any (λ (c : Constraint). kind_number c.kind == kind_number kind) rule.constraints

abbrev pub some_asks : Kind → List Rule → Bool
some_asks kind rules = list_any (asks kind) rules

-- for the kind no two items are too near on any layer
pub record AsksNothing (d : Deciders) (kind : Kind) : Type 0 where
  pub none : (pair : Pair) (layer : RowLayer) → ¬ (IsNearAt d kind pair layer)

-- of each kind that is noted as not asked for, nothing is asked
pub record IsNoteOf (d : Deciders) (asked : Asked) : Type 0 where
  pub hole_clearance : asked.hole_clearance ≡ false → AsksNothing d HoleClearance
  pub hole_to_hole : asked.hole_to_hole ≡ false → AsksNothing d HoleToHole
  pub edge_clearance : asked.edge_clearance ≡ false → AsksNothing d EdgeClearance
  pub physical_clearance : asked.physical_clearance ≡ false → AsksNothing d PhysicalClearance
  pub physical_hole_clearance : asked.physical_hole_clearance ≡ false → AsksNothing d PhysicalHoleClearance

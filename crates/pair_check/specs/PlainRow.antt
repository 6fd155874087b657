-- A row as contracts see it: what one item or two items of a board break.
use Rattle.std.specs.Prelude.{◌≡◌, ℕ, ℤ, ◌<◌, Bool}
use Rattle.plain_types.specs.Lengths.{IsLength}
use Rattle.cond_lang.specs.declared.kind.Kind.{Kind}
use Rattle.cond_lang.specs.declared.kind.Family.{Family}
use Rattle.cond_lang.specs.declared.kind.Family.TheVariants.{Meets, Keeps, Limits, Forbids}
use Rattle.cond_lang.specs.CheckKinds.{family}
use Rattle.cond_lang.specs.declared.rule.Severity.{Severity}
use Rattle.cond_lang.specs.declared.rule.Severity.TheVariants.{Error, Warning, Ignore, Exclusion}
use Rattle.rule_pick.specs.declared.kinds.Source.{Source}
use Rattle.kind_subjects.specs.declared.layer.RowLayer.{RowLayer}
use Rattle.kind_subjects.specs.KindLayers.{IsLayerOf}
use Rattle.kind_subjects.specs.LimitedLengths.{IsNearZero}

-- the ids of the two items, or twice that of the one; what is broken, on which layer, the value that is asked for, the length that
-- there is, whether it is over the greatest value rather than below the least, what asks for it, and how much it weighs. Lengths are
-- in nanometres
pub record PlainRow : Type 0 where
  pub first : ℕ
  pub second : ℕ
  pub kind : Kind
  pub layer : RowLayer
  pub value : ℤ
  pub gap : ℤ
  pub over : Bool
  pub source : Source
  pub severity : Severity

-- two items stand with the lesser id first, a single one stands twice
abbrev pub AreOrdered : Family → ℕ → ℕ → Type 0
AreOrdered Meets first second = first < second
AreOrdered Keeps first second = first < second
AreOrdered Limits first second = second ≡ first
AreOrdered Forbids first second = second ≡ first

abbrev pub IdsAreInOrder : Kind → ℕ → ℕ → Type 0
IdsAreInOrder kind first second = AreOrdered (family kind) first second

-- only errors and warnings make rows
abbrev pub MakesRows : Severity → Type 0
MakesRows Error = Unit {0}
MakesRows Warning = Unit {0}
MakesRows Ignore = ⊥
MakesRows Exclusion = ⊥

-- what holds of each row
pub record HasRanges (row : PlainRow) : Type 0 where
  pub ordered : IdsAreInOrder row.kind row.first row.second
  pub layer : IsLayerOf row.kind row.layer
  pub value : IsLength row.value
  pub gap : IsNearZero row.gap
  pub severity : MakesRows row.severity

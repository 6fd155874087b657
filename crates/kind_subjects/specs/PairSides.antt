-- Measured pairs as the code has them: sides that face each other, one way or both ways.
use Rattle.std.specs.Prelude.{◌≡◌, ◌⊎◌, ◌<◌, ◌≤◌, ℕ, ℤ, List, [], ◌∷◌, All}
use Rattle.std.specs.List.{Any}
use Rattle.one_item.specs.CopperPairs.{SomeMeet, Keeps}
use Rattle.one_item.specs.declared.parts.Part.{Part}
use Rattle.one_item.specs.declared.item.Item.{Item}
use Rattle.cond_lang.specs.declared.kind.Kind.{Kind}
use Rattle.item_copper.specs.MeasuredSides.{parts_at}
use Rattle.kind_subjects.specs.declared.subject.OperandKinds.{OperandKinds}
use Rattle.kind_subjects.specs.declared.subject.OperandKinds.TheVariants.{Yards}
use Rattle.kind_subjects.specs.declared.layer.RowLayer.{RowLayer}
use Rattle.kind_subjects.specs.declared.layer.RowLayer.TheVariants.{Copper}
use Rattle.kind_subjects.specs.declared.measure.Faced.{Faced}
use Rattle.kind_subjects.specs.declared.measure.MeasuredPairs.{MeasuredPairs}
use Rattle.kind_subjects.specs.declared.measure.MeasuredPairs.TheVariants.{Nothing, OneWay, BothWays}
use Rattle.kind_subjects.specs.TriedLayers.{rank}
use Rattle.kind_subjects.specs.MeasuredPair.{MeasuredPair, measured_pair, measured_pairs}

-- a copper layer is one of the 32 that there can be
abbrev pub IsInStack : RowLayer → Type 0
IsInStack (Copper layer) = layer < 32
IsInStack _ = Unit {0}

abbrev pub measured_pair_of : Faced → MeasuredPair
measured_pair_of faced = measured_pair (parts_at faced.own) (parts_at faced.others)

abbrev pub measured_pairs_of : MeasuredPairs → List MeasuredPair
measured_pairs_of Nothing = []
measured_pairs_of (OneWay one) = measured_pair_of one ∷ []
measured_pairs_of (BothWays there back) = measured_pair_of there ∷ measured_pair_of back ∷ []

-- of courtyards on the same side
abbrev pub yard_pairs : OperandKinds → List Part → List Part → List MeasuredPair
yard_pairs Yards own others = measured_pair own others ∷ []
yard_pairs _ own others = []

-- the parts of some measured pair touch or overlap
abbrev pub SomeMeasuredPairMeets : List MeasuredPair → Type 0
SomeMeasuredPairMeets faced = Any (λ f. SomeMeet f.own f.others) faced

-- the parts of each measured pair keep the distance v
abbrev pub AllMeasuredPairsKeep : List MeasuredPair → ℤ → Type 0
AllMeasuredPairsKeep faced v = All (λ f. Keeps f.own f.others v) faced

-- one of the sides has no parts
abbrev pub IsUnfaced : MeasuredPair → Type 0
IsUnfaced f = (f.own ≡ []) ⊎ (f.others ≡ [])

-- on this layer nothing faces anything, or its place is one from `from` to before `to`
abbrev pub AreFacedWithin : List MeasuredPair → ℕ → ℕ → RowLayer → Type 0
AreFacedWithin sides from to layer = All IsUnfaced sides ⊎ ((from ≤ rank layer) × (rank layer < to))

abbrev pub FaceWithin : Kind → Item → Item → ℕ → ℕ → RowLayer → Type 0
FaceWithin kind a b from to layer = AreFacedWithin (measured_pairs kind layer a b) from to layer

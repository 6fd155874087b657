-- One measured pair and two, as lists.
use Rattle.std.proofs.Common.{◌⊎◌, ◌↔◌, ℤ, pos, ◌*ℤ◌, ◌≤ℤ◌, Bool, IsTrue, [], ◌∷◌, All, inl, inr, arith}
use Rattle.std.proofs.lemmas.Int.{ints}
use Rattle.std.proofs.lemmas.List.Elements.{All-weaker}
use Rattle.geo_seg.specs.Distances.{Apart, IsGap}
use Rattle.one_item.specs.CopperPairs.{SomeMeet, Keeps}
use Rattle.item_copper.proofs.Meeting.{any_here, any_later, any_cases}
use Rattle.item_copper.proofs.Gaps.{IsFalling, part_falls, gap_both}
use Rattle.item_copper.proofs.SideLists.{of_any, any_one, gap_of_one}
use Rattle.kind_subjects.specs.MeasuredPair.{MeasuredPair}
use Rattle.kind_subjects.specs.PairSides.{SomeMeasuredPairMeets, AllMeasuredPairsKeep}

abbrev pub DoesMeet : MeasuredPair → Type 0
DoesMeet f = SomeMeet f.own f.others

abbrev pub DoesKeep : MeasuredPair → ℤ → Type 0
DoesKeep f v = Keeps f.own f.others v

pub one_meets : (f : MeasuredPair) (b : Bool) → (IsTrue b ↔ DoesMeet f) → (IsTrue b ↔ SomeMeasuredPairMeets (f ∷ []))
one_meets f b is = of_any DoesMeet f b is

-- the first meets
pub first_meets : (f g : MeasuredPair) (b : Bool) → IsTrue b → DoesMeet f → (IsTrue b ↔ SomeMeasuredPairMeets (f ∷ g ∷ []))
first_meets f g b t m = (λ u. any_here DoesMeet f (g ∷ []) m, λ a. t)

-- the first does not
pub second_meets : (f g : MeasuredPair) (b : Bool) → (DoesMeet f → ⊥) → (IsTrue b ↔ DoesMeet g) → (IsTrue b ↔ SomeMeasuredPairMeets (f ∷ g ∷ []))
second_meets f g b none is = (λ t. any_later DoesMeet f (g ∷ []) (any_here DoesMeet g [] (is.0 t)), λ a. by_cases (any_cases DoesMeet f (g ∷ []) a))
  where
    by_cases : DoesMeet f ⊎ SomeMeasuredPairMeets (g ∷ []) → IsTrue b
    by_cases (inl m) = absurd (none m)
    by_cases (inr more) = is.1 (any_one DoesMeet g more)

measured_pairs_fall : IsFalling DoesKeep
measured_pairs_fall = record { lesser = lesser }
  where
    lesser : (f : MeasuredPair) (g h : ℤ) → pos 1 ≤ℤ g → g ≤ℤ h → DoesKeep f h → DoesKeep f g
    lesser f g h some to (inl e) = absurd (omega (arith, ints))
    lesser f g h some to (inr a) =
        inr (record { each = All-weaker (λ part. All (λ other. Apart part.shape other.shape (pos 2 *ℤ h)) f.others) (λ part. All (λ other. Apart part.shape other.shape (pos 2 *ℤ g)) f.others) (λ part far. (part_falls f.others).lesser part g h some to far) f.own a.each })

pub one_gap : (f : MeasuredPair) (most gap : ℤ) → IsGap (DoesKeep f) most gap → IsGap (AllMeasuredPairsKeep (f ∷ [])) most gap
one_gap f most gap is = gap_of_one DoesKeep f most gap is

-- the gap of both is that of the second at most that of the first
pub two_gap : (f g : MeasuredPair) (most low gap : ℤ) → IsGap (DoesKeep f) most low → IsGap (DoesKeep g) low gap → IsGap (AllMeasuredPairsKeep (f ∷ g ∷ [])) most gap
two_gap f g most low gap first second = gap_both measured_pairs_fall (f ∷ []) g most low gap (one_gap f most low first) second

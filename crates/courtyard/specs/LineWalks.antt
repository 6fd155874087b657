-- A walk along lines that have not been taken.
use Rattle.std.specs.Prelude.{◌≡◌, ℕ, ◌+◌, ◌<◌, Bool, true, false, cond, ◌⊎◌, List, [], ◌∷◌, length, Some, ⊤, slice_index_or}
use Rattle.std.specs.List.{slice_get, sum_by}
use Rattle.geo_seg.specs.declared.points.Seg.{Seg}
use Rattle.courtyard.specs.declared.ends.LineEnd.{LineEnd}
use Rattle.courtyard.specs.Ends.{ArePartners, is_short}
use Rattle.courtyard.specs.EndGroups.{IsEnd}
use Rattle.courtyard.specs.ClosedOutlines.{IsOutline, EachOutline, StandByFirstLine, LeadTo, AreFrom, times, times_in_all}

-- whether the line i has been taken, and how often
abbrev pub is_taken : List Bool → ℕ → Bool
is_taken t i = slice_index_or t i false

abbrev pub taken_times : List Bool → ℕ → ℕ
taken_times t i = cond (is_taken t i) 1 0

-- how many lines are left
abbrev pub left : List Bool → ℕ
left t = sum_by (λ b. cond b 0 1) t

-- the start of the line i
abbrev pub start : ℕ → LineEnd
start i = record { line = i; far = false }

-- the ends begin with the start of the line i
abbrev pub BeginAt : ℕ → List LineEnd → Type 0
BeginAt i [] = ⊥
BeginAt i (e ∷ es) = e ≡ start i

-- the partner of each end of a line that has been taken is of such a line
abbrev pub AreClosed : List Seg → List Bool → Type 0
AreClosed lines t = (e f : LineEnd) → ArePartners lines e f → is_taken t e.line ≡ true → is_taken t f.line ≡ true

-- each line below i that has a length has been taken
abbrev pub AreTakenBelow : List Seg → List Bool → ℕ → Type 0
AreTakenBelow lines t i = (j : ℕ) (l : Seg) → j < i → slice_get lines j ≡ Some l → is_short l ≡ false → is_taken t j ≡ true

-- the lines t had been taken, those of the outline were taken, and now u are
pub record IsWalked (lines : List Seg) (first : ℕ) (t u : List Bool) (o : List LineEnd) : Type 0 where
  pub outline : IsOutline lines o
  pub begins : BeginAt first o
  pub closed : AreClosed lines u
  pub begun : is_taken u first ≡ true
  pub count : (i : ℕ) → times i o + taken_times t i ≡ taken_times u i
  pub long : length u ≡ length lines

-- between the end first and the end at, from which the walk goes on
pub record IsOpen (lines : List Seg) (t : List Bool) (first at : LineEnd) : Type 0 where
  pub back : is_taken t at.line ≡ true → at ≡ first
  pub on : (e f : LineEnd) → ArePartners lines e f → is_taken t e.line ≡ true → (e ≡ first) ⊎ ((f ≡ at) ⊎ (is_taken t f.line ≡ true))
  pub begun : is_taken t first.line ≡ true
  pub behind : (f : LineEnd) → ArePartners lines at f → is_taken t f.line ≡ true

-- a walk that began at the line first, with the ends that it left from so far
pub record IsWalk (lines : List Seg) (first : ℕ) (t u : List Bool) (o : List LineEnd) (at : LineEnd) : Type 0 where
  pub gap : IsOpen lines u (start first) at
  pub lead : LeadTo lines o at
  pub begins : BeginAt first o
  pub from : AreFrom first o
  pub count : (i : ℕ) → times i o + taken_times t i ≡ taken_times u i
  pub stands : IsEnd lines at
  pub long : length u ≡ length lines

-- each outline begins with a line below i
abbrev pub BeginsBelow : ℕ → List LineEnd → Type 0
BeginsBelow i [] = ⊥
BeginsBelow i (e ∷ es) = e.line < i

abbrev pub EachBeginsBelow : ℕ → List (List LineEnd) → Type 0
EachBeginsBelow i [] = ⊤
EachBeginsBelow i (o ∷ os) = BeginsBelow i o × EachBeginsBelow i os

-- the outlines that were found once the lines below i were looked at, and the lines that they took
pub record AreFound (lines : List Seg) (t : List Bool) (i : ℕ) (os : List (List LineEnd)) : Type 0 where
  pub each : EachOutline lines os
  pub in_order : StandByFirstLine os
  pub firsts : EachBeginsBelow i os
  pub closed : AreClosed lines t
  pub below : AreTakenBelow lines t i
  pub count : (j : ℕ) → times_in_all j os ≡ taken_times t j
  pub long : length t ≡ length lines

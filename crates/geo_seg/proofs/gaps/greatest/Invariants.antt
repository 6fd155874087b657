use Rattle.std.proofs.Common.{◌≡◌, ℤ, pos, ◌≤◌, ◌-◌, ◌≤ℤ◌, ◌⊎◌}
use Rattle.geo_seg.specs.Points.{IsOn}
use Rattle.geo_seg.specs.Nearer.{AreApart}
use Rattle.geo_seg.proofs.gaps.greatest.Given as goal

-- `low` is kept, and nothing above `high` is
abbrev pub invariant-halves : goal.invariant-halves
invariant-halves l = record {
  ordered : l.low ≤ l.high;
  within : l.high ≤ l.most;
  kept : (pos l.low ≡ pos 0) ⊎ AreApart (IsOn l.a) (IsOn l.b) (pos l.low);
  none_above : (g : ℤ) → pos 1 ≤ℤ g → g ≤ℤ pos l.most → AreApart (IsOn l.a) (IsOn l.b) g → g ≤ℤ pos l.high;
}

abbrev pub decreases-halves : goal.decreases-halves
decreases-halves l = l.high - l.low

-- How many ends of lines stand at each place, as a map counts them.
use Rattle.std.specs.Prelude.{◌≡◌, ℕ, zero, suc, ℤ, List, Option, None, Some}
use Rattle.std.specs.BTreeMap as tree
use Rattle.std.specs.BTreeMap.{BTreeMap}
use Rattle.courtyard.specs.EndGroups.{place_cmp}
use Rattle.footprint_read.specs.declared.closing.Count.{Count}
use Rattle.footprint_read.specs.declared.closing.Count.TheVariants.{One, Two, Many}
use Rattle.footprint_read.specs.declared.sides.RawSegment.{RawSegment}
use Rattle.footprint_read.specs.Courtyards.{many_at}

-- none, one, two, or too many
abbrev pub tally : ℕ → Option Count
tally zero = None
tally (suc zero) = Some One
tally (suc (suc zero)) = Some Two
tally (suc (suc (suc n))) = Some Many

-- the map has the number of ends at each place
pub record AreCounts (lines : List RawSegment) (counts : BTreeMap (ℤ × ℤ) Count) : Type 0 where
  pub found : (k : ℤ × ℤ) → tree.get place_cmp counts k ≡ tally (many_at k lines)

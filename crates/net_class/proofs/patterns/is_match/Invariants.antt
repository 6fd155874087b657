use Rattle.std.proofs.Common.{◌≡◌, ◌<◌, length, slice_index}
use Rattle.net_class.specs.Wild.{matches}
use Rattle.net_class.proofs.patterns.is_match.Given as goal

abbrev pub invariant-stars : goal.invariant-stars
invariant-stars l = record {
  same : matches l.fold l.rests.pattern.now l.rests.name.now ≡ matches l.fold l.pattern l.name;
  begins : 0 < length l.rests.pattern.now → slice_index l.rests.pattern.now 0 ≡ 42;
}

abbrev pub decreases-stars : goal.decreases-stars
decreases-stars l = length l.rests.pattern.now

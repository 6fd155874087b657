use Rattle.std.proofs.Common.{arith}
use Rattle.std.proofs.lemmas.Int.{ints}
use Rattle.geo_seg.proofs.GapLemmas.{gap_same}
use Rattle.geo_seg.proofs.gaps.seg_gap.Goals as goal

pub returns-else-boxes_apart : goal.returns-else-boxes_apart
returns-else-boxes_apart c = gap_same (omega (arith, ints)) (omega (arith, ints)) c.greatest.ensures

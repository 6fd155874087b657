use Rattle.kind_subjects.proofs.LengthRanges.{passed_within}
use Rattle.kind_subjects.proofs.lengths.track_width.Goals as goal

pub returns-in-Track-clause-range : goal.returns-in-Track-clause-range
returns-in-Track-clause-range c = passed_within c.in-Track.width (c.args.item.now.what_in_range.width c.in-Track.width c.in-Track.is)

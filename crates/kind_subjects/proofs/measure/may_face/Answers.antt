use Rattle.std.proofs.Common.{List, subst}
use Rattle.kind_subjects.specs.MeasuredPair.{MeasuredPair}
use Rattle.kind_subjects.specs.PairSides.{AllMeasuredPairsKeep}
use Rattle.kind_subjects.proofs.measure.may_face.Goals as goal

pub returns-clause-keep : goal.returns-clause-keep
returns-clause-keep c = λ e v. subst (λ (fs : List MeasuredPair). AllMeasuredPairsKeep fs v) c.requires (c.may_meet.ensures.keep e v)

use Rattle.geo_seg.proofs.SegAnswers.{met_of_reached, reached_of_met}
use Rattle.geo_seg.proofs.near.seg_meet.Goals as goal

pub returns : goal.returns
returns c = (λ t. met_of_reached c.args.a c.args.b (c.seg_within.ensures.0 t), λ h. c.seg_within.ensures.1 (reached_of_met c.args.a c.args.b h))

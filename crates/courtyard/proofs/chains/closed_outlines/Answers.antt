use Rattle.courtyard.proofs.Matching.{all_joined}
use Rattle.courtyard.proofs.chains.closed_outlines.Goals as goal

pub outlines-requires-clause-joined : goal.outlines-requires-clause-joined
outlines-requires-clause-joined c = all_joined c.args.lines.now c.requires

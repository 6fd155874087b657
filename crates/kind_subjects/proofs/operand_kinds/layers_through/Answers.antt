use Rattle.kind_subjects.proofs.Unfaced.{hole_some, no_hole}
use Rattle.kind_subjects.proofs.operand_kinds.layers_through.Goals as goal

pub returns-in-Some : goal.returns-in-Some
returns-in-Some c = λ layer s. hole_some layer c.args.hole.now c.in-Some.hole c.in-Some.is s

pub returns-in-None : goal.returns-in-None
returns-in-None c = λ layer s. absurd (no_hole layer c.args.hole.now c.in-None.is s)

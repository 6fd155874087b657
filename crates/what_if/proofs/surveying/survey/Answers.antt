use Rattle.std.proofs.Common.{arith}
use Rattle.what_if.specs.Trials.{IsCount}
use Rattle.what_if.proofs.Each.{as_many}
use Rattle.what_if.proofs.surveying.survey.Goals as goal

pub survey_of-requires : goal.survey_of-requires
survey_of-requires g c =
    let many = as_many (IsCount c.args.session.now.state) c.args.commands.now c.in_ok-counts.counts.items c.in_ok-counts.ensures in
    omega (arith, many, c.requires.few)

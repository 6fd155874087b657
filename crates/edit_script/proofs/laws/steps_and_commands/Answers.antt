use Rattle.edit_script.proofs.Turns.{alike, accepted, turned}
use Rattle.edit_script.proofs.laws.steps_and_commands.Goals as goal

pub returns-clause-alike : goal.returns-clause-alike
returns-clause-alike c = alike

pub returns-clause-accepted : goal.returns-clause-accepted
returns-clause-accepted c = accepted

pub returns-clause-turned : goal.returns-clause-turned
returns-clause-turned c = turned

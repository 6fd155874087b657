use Rattle.std.proofs.lemmas.Result.{IfOk-weaker}
use Rattle.edit_script.specs.Commands.{plain_command}
use Rattle.what_if.proofs.Leading.{fits_at}
use Rattle.what_if.proofs.Placed.{stands_at}
use Rattle.what_if.proofs.work.count_at.Goals as goal

pub count-requires-clause-fits : goal.count-requires-clause-fits
count-requires-clause-fits g c κs within = fits_at c.args.commands.now c.args.place c.index-commands-place.result c.requires.place c.index-commands-place.is c.requires.fit

pub returns-clause-count : goal.returns-clause-count
returns-clause-count g c =
    let command = c.index-commands-place.result in
    IfOk-weaker c.count.result _ _ (λ count is. (plain_command command, stands_at c.args.commands.now c.args.place command c.requires.place c.index-commands-place.is, is)) c.count.ensures.count

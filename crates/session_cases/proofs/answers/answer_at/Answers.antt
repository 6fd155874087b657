use Rattle.what_if.proofs.Leading.{fits_at}
use Rattle.session_cases.proofs.answers.answer_at.Goals as goal

pub answer_to-requires-clause-fits : goal.answer_to-requires-clause-fits
answer_to-requires-clause-fits g c κs within = fits_at c.args.commands.now c.args.place c.index-commands-place.result c.requires.place c.index-commands-place.is c.requires.fit

use Rattle.net_class.proofs.Searching.{answer_means}
use Rattle.net_class.proofs.patterns.wild.Goals as goal

pub returns-clause-means : goal.returns-clause-means
returns-clause-means c = answer_means c.args.fold c.args.pattern.now c.args.name.now c.is_match.result c.is_match.ensures

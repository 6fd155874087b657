use Rattle.std.proofs.Common.{sym, ◌∙◌}
use Rattle.net_groups.specs.Labels.{label_at}
use Rattle.net_groups.proofs.Placed.{some_label}
use Rattle.net_groups.proofs.labels.newly_asked.Goals as goal

pub returns-then-is_some-clause-over : goal.returns-then-is_some-clause-over
returns-then-is_some-clause-over c = λ e asked touch. some_label (label_at c.args.labels.now c.args.other.id) (sym c.is_some.ensures ∙ c.if-is_some.true)

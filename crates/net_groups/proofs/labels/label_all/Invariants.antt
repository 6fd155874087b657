use Rattle.std.proofs.Common.{◌≡◌, []}
use Rattle.net_groups.specs.Touching.{TouchOn}
use Rattle.net_groups.specs.Labels.{AreLabels}
use Rattle.net_groups.proofs.labels.label_all.Given as goal

abbrev pub invariant-loop-start : goal.invariant-loop-start
invariant-loop-start l = record { labels : AreLabels (TouchOn l.net.board.now) l.net.ids.now l.start l.count l.labels.items; empty : l.stack.items ≡ [] }

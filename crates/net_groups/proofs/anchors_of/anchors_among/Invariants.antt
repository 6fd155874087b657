use Rattle.std.proofs.Common.{take}
use Rattle.net_groups.specs.Numbering.{number_of, AreAnchorsAmong}
use Rattle.net_groups.proofs.anchors_of.anchors_among.Given as goal

-- the anchors of the ids that have passed
abbrev pub invariant-loop-place : goal.invariant-loop-place
invariant-loop-place l = AreAnchorsAmong l.board.items (number_of l.ids l.numbers) (take l.place l.ids) l.anchors.items

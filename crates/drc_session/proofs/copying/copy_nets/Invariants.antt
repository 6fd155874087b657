use Rattle.std.proofs.Common.{◌≡◌, ◌++◌, drop}
use Rattle.drc_session.proofs.copying.copy_nets.Given as goal

abbrev pub invariant-loop-part : goal.invariant-loop-part
invariant-loop-part l = l.nets ≡ l.copy.items ++ drop l.part-index l.nets

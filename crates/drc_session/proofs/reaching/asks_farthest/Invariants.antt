use Rattle.std.proofs.Common.{take}
use Rattle.drc_session.specs.Looks.{AsksNone}
use Rattle.drc_session.proofs.reaching.asks_farthest.Given as goal

abbrev pub invariant-loop-id : goal.invariant-loop-id
invariant-loop-id l = AsksNone l.board (take l.id-index l.ids) l.reach

use Rattle.std.proofs.Common.{take}
use Rattle.plain_types.specs.Lengths.{IsLength}
use Rattle.drc_session.specs.Looks.{IsRaisedBy}
use Rattle.drc_session.proofs.reaching.raised_by_all.Given as goal

abbrev pub invariant-loop-id : goal.invariant-loop-id
invariant-loop-id l = record {
  raised : IsRaisedBy l.board (take l.id-index l.ids) l.fn.reach l.greatest;
  in_range : IsLength l.greatest;
}

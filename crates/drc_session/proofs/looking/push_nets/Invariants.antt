use Rattle.std.proofs.Common.{ℕ, take, Contains}
use Rattle.drc_session.specs.Looks.{HasNetsOf}
use Rattle.drc_session.proofs.looking.push_nets.Given as goal

abbrev pub invariant-loop-id : goal.invariant-loop-id
invariant-loop-id l = record {
  kept : (net : ℕ) → Contains l.fn.nets.items net → Contains l.nets.items net;
  nets : HasNetsOf l.board (take l.id-index l.ids) l.nets.items;
}

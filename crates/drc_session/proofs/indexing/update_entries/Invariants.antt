use Rattle.std.proofs.Common.{◌≡◌, take}
use Rattle.drc_session.specs.Looks.{IsUpdated}
use Rattle.drc_session.proofs.indexing.update_entries.Given as goal

abbrev pub invariant-loop-id : goal.invariant-loop-id
invariant-loop-id l = record {
  updated : IsUpdated l.board (take l.id-index l.ids) l.fn.index l.index;
  reach : l.index.reach ≡ l.fn.index.reach;
}

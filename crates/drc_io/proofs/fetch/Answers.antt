use Rattle.std.proofs.Common.{rules}
use Rattle.drc_io.proofs.Prefixes.{IsPrefix-nil, IsPrefix-behind}
use Rattle.drc_io.proofs.fetch.Goals as goal

pub pieces-init : goal.pieces-init
pieces-init g c = record {
  prefix = IsPrefix-nil (g.F.Shelf.files c.args.shelf.now) c.args.name.now _ c.new-text.ensures.items;
  same = search rules;
  counts = search rules;
}

pub pieces-preserved : goal.pieces-preserved
pieces-preserved g c = record {
  prefix = IsPrefix-behind _ _ _ _ _ _ c.pieces.invariant.same c.pieces.invariant.prefix c.in_ok-read_piece.ensures.read;
  same = search rules;
  counts = λ other. search rules;
}

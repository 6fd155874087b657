use Rattle.std.proofs.Common.{sym, arith}
use Rattle.std.proofs.lemmas.Result.{err_from_is_err_and}
use Rattle.ratsnest.specs.declared.link.Link.{Link}
use Rattle.drc_rows.specs.NetBlock.{link_line}
use Rattle.drc_rows.proofs.Lines.{flat_more, flat_rest, Puts-then, Puts-cut, Puts-text}
use Rattle.drc_rows.proofs.net.push_links.Goals as goal

-- what stands past the end of the list
abbrev no_link : Link
no_link = record { first = 0; second = 0; square = 0 }

pub push_link-requires-clause-places : goal.push_link-requires-clause-places
push_link-requires-clause-places g c = c.requires.places c.loop-link.link-index no_link (omega arith)

pub returns-in_err-push_link : goal.returns-in_err-push_link
returns-in_err-push_link g c =
    let p = err_from_is_err_and c.from_residual.result c.from_residual.ensures.1 in
    Puts-cut _ _ _ _ _ _ _ _ _ _ _ _ _ p.1 (flat_rest (link_line c.args.board.now c.args.anchors.now) c.args.links.now c.loop-link.link-index no_link (omega arith))
    (Puts-then _ _ _ _ _ _ _ _ _ _ _ _ _ c.loop-link.invariant c.in_err-push_link.ensures)

pub loop-link-preserved : goal.loop-link-preserved
loop-link-preserved g c =
    Puts-text _ _ _ _ _ _ _ _ _ (sym (flat_more (link_line c.args.board.now c.args.anchors.now) c.args.links.now c.loop-link.link-index no_link (omega arith)))
    (Puts-then _ _ _ _ _ _ _ _ _ _ _ _ _ c.loop-link.invariant c.in_ok-push_link.ensures)

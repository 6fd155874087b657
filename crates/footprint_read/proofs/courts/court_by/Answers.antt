use Rattle.std.proofs.Common.{◌≡◌, ◌∙◌, sym, ap, subst, true, List, Option, Some}
use Rattle.std.specs.Prelude.{option_map, Vec}
use Rattle.std.specs.declared.alloc.Global.{Global}
use Rattle.geo_seg.specs.declared.points.Seg.{Seg}
use Rattle.courtyard.specs.Ends.{AreAllMatched}
use Rattle.footprint_read.specs.declared.sides.RawSegment.{RawSegment}
use Rattle.footprint_read.specs.Courtyards.{is_closed, segs_of}
use Rattle.footprint_read.proofs.Closed.{closed_matched}
use Rattle.footprint_read.proofs.courts.court_by.Goals as goal

pub closed_outlines-requires : goal.closed_outlines-requires
closed_outlines-requires c =
    let lines = c.args.side.now.lines in
    let closed : is_closed lines ≡ true = cc (c.in_ok-is_closed.ensures, c.as_slice.ensures, c.if-not-branch.false) in
    let told = c.in_ok-segs.ensures ∙ ap (λ (ls : List RawSegment). segs_of ls) c.as_slice-2.ensures in
    let segs : segs_of lines ≡ Some c.in-Some.segs.items = sym told ∙ ap (λ (o : Option (Vec Seg Global)). option_map (λ found. found.items) o) c.in-Some.is in
    subst (λ (ss : List Seg). AreAllMatched ss) (sym c.deref.ensures.value) (closed_matched lines c.in-Some.segs.items closed segs)

use Rattle.std.proofs.Common.{List, take, subst, sym}
use Rattle.std.proofs.lemmas.List.{take_more}
use Rattle.footprint_read.specs.declared.sides.RawSegment.{RawSegment}
use Rattle.footprint_read.specs.Closing.{AreCounts}
use Rattle.footprint_read.proofs.Counting.{counts_more}
use Rattle.footprint_read.proofs.closing.counts_of.Goals as goal

pub loop-line-preserved : goal.loop-line-preserved
loop-line-preserved c =
    let ls = c.args.lines.now in
    let i = c.loop-line.line-index in
    subst (λ (xs : List RawSegment). AreCounts xs c.enter_line.new.counts) (sym (take_more ls i _ c.loop-line-test.true))
    (counts_more (take i ls) _ c.loop-line.counts c.enter_line.new.counts c.loop-line.invariant c.in_ok-enter_line.ensures)

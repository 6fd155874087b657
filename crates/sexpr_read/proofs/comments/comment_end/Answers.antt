use Rattle.std.proofs.Common.{◌≡◌, ◌+◌, suc, sym, ◌∙◌, arith}
use Rattle.sexpr_read.specs.Comments.{shown}
use Rattle.sexpr_read.proofs.Joined.{no_gap, gap_space}
use Rattle.sexpr_read.proofs.Lines.{comment_next, comment_feed, comment_first, comment_shown, mark_shown}
use Rattle.sexpr_read.proofs.comments.comment_end.Goals as goal

pub loop-end-init : goal.loop-end-init
loop-end-init c =
    let next : c.args.at + 1 ≡ suc c.args.at = omega arith in
    record {
      gap = rw next (gap_space (shown c.args.text.now) _ _ (no_gap (shown c.args.text.now) c.args.at) (mark_shown _ _ c.requires.line c.requires.sign));
      within = omega arith;
      line = rw next (comment_first _ _ c.requires.line c.requires.sign);
    }

pub returns-then-byte_at-eq10-clause-gap : goal.returns-then-byte_at-eq10-clause-gap
returns-then-byte_at-eq10-clause-gap c =
    let next : c.loop-end.end + 1 ≡ suc c.loop-end.end = omega arith in
    rw next (gap_space (shown c.args.text.now) _ _ c.loop-end.invariant.gap (comment_shown _ _ c.loop-end.invariant.line))

pub returns-then-byte_at-eq10-clause-line : goal.returns-then-byte_at-eq10-clause-line
returns-then-byte_at-eq10-clause-line c = λ low.
    let next : c.loop-end.end + 1 ≡ suc c.loop-end.end = omega arith in
    rw next (comment_feed _ _ c.loop-end.invariant.line (sym c.byte_at.ensures ∙ c.if-byte_at-eq10.true))

pub loop-end-preserved : goal.loop-end-preserved
loop-end-preserved c =
    let next : c.loop-end.end + 1 ≡ suc c.loop-end.end = omega arith in
    record {
      gap = rw next (gap_space (shown c.args.text.now) _ _ c.loop-end.invariant.gap (comment_shown _ _ c.loop-end.invariant.line));
      within = omega arith;
      line = rw next (comment_next _ _ c.loop-end.invariant.line (λ e. c.if-byte_at-eq10.false (c.byte_at.ensures ∙ e)));
    }

use Rattle.std.proofs.Common.{ℤ, ◌+◌, take, subst}
use Rattle.plain_types.specs.Lengths.{IsLength}
use Rattle.int_algebra.proofs.Scalars.{passed}
use Rattle.drc_session.specs.Looks.{IsRaisedBy}
use Rattle.drc_session.proofs.Clearances.{as_passed, raised_more}
use Rattle.drc_session.proofs.reaching.raised_by_all.Goals as goal

pub loop-id-preserved : goal.loop-id-preserved
loop-id-preserved c =
    let board = c.args.board.now in
    let ids = c.args.ids.now in
    let at = c.loop-id in
    let r = c.raised_by-greatest.result in
    let more = c.raised_by-greatest.ensures in
    let same = as_passed r more.in_range in record {
      raised = subst (λ (z : ℤ). IsRaisedBy board (take (at.id-index + 1) ids) (passed c.args.reach) z) same
          (raised_more board ids at.id-index _ (passed c.args.reach) _ r c.loop-id-test.true at.invariant.raised more.raised);
      in_range = subst IsLength same more.in_range;
    }

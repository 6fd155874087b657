use Rattle.std.proofs.Common.{sym, subst, ℤ, unsigned_abs, ◌≤◌, arith}
use Rattle.sexpr_read.specs.TreeViews.{tree_of}
use Rattle.int_algebra.proofs.Scalars.{passed_is}
use Rattle.pad_read.specs.PadSizes.{least_of}
use Rattle.pad_read.proofs.Ratios.{share_within}
use Rattle.pad_read.proofs.rounded_rects.share_of.Goals as goal

pub returns-clause-near : goal.returns-clause-near
returns-clause-near c =
    let h = share_within (least_of c.args.sizes) (tree_of c.args.atom) c.in_ok-share.share (sym c.in_ok-share.ensures) in
    subst (λ (z : ℤ). unsigned_abs z ≤ 1000000000000) (sym (passed_is c.in_ok-share.share (omega (arith, h)))) h

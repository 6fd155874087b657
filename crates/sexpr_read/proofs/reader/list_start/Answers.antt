use Rattle.std.proofs.Common.{◌<◌, ℕ, true, refl, sym, ◌∙◌, Some, length, arith}
use Rattle.sexpr_read.specs.declared.place.TextError.TheVariants.{EmptyText}
use Rattle.sexpr_read.specs.ByteClasses.{sign_of}
use Rattle.sexpr_read.specs.Spelling.{IsSpaceBetween}
use Rattle.sexpr_read.specs.TreeRefusals.{outside}
use Rattle.sexpr_read.proofs.Machine.{over_gap}
use Rattle.sexpr_read.proofs.Faults.{stands_first, blank_gap, whole_by_end}
use Rattle.sexpr_read.proofs.HeadFaults.{close_outside, extra_outside}
use Rattle.sexpr_read.proofs.reader.list_start.Goals as goal

pub returns-then-at-text-clause-err : goal.returns-then-at-text-clause-err
returns-then-at-text-clause-err c =
    let sign = sign_of c.args.text.now in
    let n : ℕ = length c.args.text.now in
    let gap : IsSpaceBetween sign 0 n = rw c.if-at-text.true at c.gap_end-at.ensures.gap in
    whole_by_end true sign n (outside 0) (Some EmptyText) (over_gap true sign 0 n 0 gap (stands_first true sign)) (rw (blank_gap sign n gap) refl)

pub returns-in-Close-clause-err : goal.returns-in-Close-clause-err
returns-in-Close-clause-err c =
    let sign = sign_of c.args.text.now in
    close_outside true sign _ _ (over_gap true sign 0 _ 0 c.gap_end-at.ensures.gap (stands_first true sign)) (omega (arith, c.gap_end-at.ensures.within))
    (sym c.sign_at.ensures ∙ c.in-Close.is)

pub returns-in_default : goal.returns-in_default
returns-in_default c =
    let sign = sign_of c.args.text.now in
    let low : c.gap_end-at.result < length c.args.text.now = omega (arith, c.gap_end-at.ensures.within) in
    record {
      gap = tt;
      bracket = tt;
      within = tt;
      err = extra_outside sign _ _ (over_gap true sign 0 _ 0 c.gap_end-at.ensures.gap (stands_first true sign)) low
          (c.gap_end-at.ensures.stops low) (λ e. c.in_default.not-Close (c.sign_at.ensures ∙ e)) (λ e. absurd (c.in_default.not-Open (c.sign_at.ensures ∙ e)));
    }

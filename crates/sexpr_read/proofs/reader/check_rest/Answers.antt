use Rattle.std.proofs.Common.{◌<◌, true, sym, ◌∙◌, length, arith}
use Rattle.sexpr_read.specs.ByteClasses.{sign_of}
use Rattle.sexpr_read.proofs.Machine.{over_gap}
use Rattle.sexpr_read.proofs.Faults.{still_not_blank}
use Rattle.sexpr_read.proofs.HeadFaults.{close_outside, extra_outside}
use Rattle.sexpr_read.proofs.reader.check_rest.Goals as goal

pub returns-in-Close-clause-err : goal.returns-in-Close-clause-err
returns-in-Close-clause-err c =
    let sign = sign_of c.args.text.now in
    close_outside true sign _ _ (over_gap true sign c.args.end _ 0 c.gap_end-at.ensures.gap c.requires.stands)
    (omega (arith, c.gap_end-at.ensures.within)) (sym c.sign_at.ensures ∙ c.in-Close.is)

pub returns-in_default : goal.returns-in_default
returns-in_default c =
    let sign = sign_of c.args.text.now in
    let low : c.gap_end-at.result < length c.args.text.now = omega (arith, c.gap_end-at.ensures.within) in
    record {
      ok = tt;
      err = extra_outside sign _ _ (over_gap true sign c.args.end _ 0 c.gap_end-at.ensures.gap c.requires.stands) low
          (c.gap_end-at.ensures.stops low) (λ e. c.in_default.not-Close (c.sign_at.ensures ∙ e))
          (λ e. still_not_blank sign c.args.end _ c.requires.seen c.gap_end-at.ensures.gap.ordered);
    }

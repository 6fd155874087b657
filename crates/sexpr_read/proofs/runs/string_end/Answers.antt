use Rattle.std.proofs.Common.{◌≡◌, suc, ◌+◌, ◌-◌, true, sym, ◌∙◌, arith}
use Rattle.sexpr_read.specs.ByteClasses.{sign_of, is_itself}
use Rattle.sexpr_read.proofs.Spelled.{and_itself, and_escape, is_itself_else, all_itself}
use Rattle.sexpr_read.proofs.runs.string_end.Goals as goal

pub loop-end-init : goal.loop-end-init
loop-end-init c =
    let from = c.itself_end-end.ensures in
    (all_itself (sign_of c.args.text.now) (c.itself_end-end.result - c.args.at) c.args.at c.itself_end-end.result (omega (arith, from.ordered)) from.each, from.ordered, from.within)

pub loop-end-preserved-in-Backslash : goal.loop-end-preserved-in-Backslash
loop-end-preserved-in-Backslash c =
    let two : c.loop-end.end + 2 ≡ suc (suc c.loop-end.end) = omega arith in
    (rw two (and_escape (sign_of c.args.text.now) c.loop-end.invariant.0 (sym c.sign_at.ensures ∙ c.in-Backslash.is)), omega arith, omega arith)

pub loop-end-preserved : goal.loop-end-preserved
loop-end-preserved c =
    let one : c.loop-end.end + 1 ≡ suc c.loop-end.end = omega arith in
    let byte : is_itself (sign_of c.args.text.now c.loop-end.end) ≡ true =
    rw (← c.sign_at.ensures) (is_itself_else _ c.in_default.not-Quote c.in_default.not-Backslash) in
    (rw one (and_itself (sign_of c.args.text.now) c.loop-end.invariant.0 byte), omega arith, omega arith)

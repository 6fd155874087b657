use Rattle.std.proofs.Common.{◌∙◌, sym}
use Rattle.std.proofs.lemmas.Result.{on_ok_weaker}
use Rattle.footprint_read.proofs.Counting.{line_entered, line_passed}
use Rattle.footprint_read.proofs.closing.enter_line.Goals as goal

pub returns-then-not-is_long : goal.returns-then-not-is_long
returns-then-not-is_long c = line_passed c.args.counts.now c.args.line (sym c.is_long.ensures ∙ c.if-not-is_long.true)

pub returns : goal.returns
returns c = on_ok_weaker c.enter-2.result (λ second. line_entered c.args.counts.now c.enter.new.counts c.enter-2.new.counts c.args.line (sym c.is_long.ensures ∙ c.if-not-is_long.false) c.in_ok-enter.ensures second) c.enter-2.ensures

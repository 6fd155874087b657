use Rattle.std.proofs.Common.{arith}
use Rattle.sexpr_read.proofs.Spelled.{no_word_at_end}
use Rattle.sexpr_read.proofs.runs.word_end.Goals as goal

pub returns-clause-word : goal.returns-clause-word
returns-clause-word c = record {
  ordered = omega arith;
  each = c.loop-end.invariant.0;
  longest = no_word_at_end c.args.text.now c.loop-end.end (omega arith);
}

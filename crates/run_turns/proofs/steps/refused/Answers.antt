use Rattle.std.proofs.Common.{refl}
use Rattle.std.proofs.KnownBytes.{Keeps-refl}
use Rattle.run_output.specs.RunResults.{memory_ran_out, line}
use Rattle.run_turns.proofs.steps.refused.Goals as goal

pub returns-in-OutOfMemory : goal.returns-in-OutOfMemory
returns-in-OutOfMemory g c = memory_ran_out c.in-OutOfMemory.is refl (Keeps-refl (g.W.Sink.written c.args.out.now)) refl

pub returns-in_default : goal.returns-in_default
returns-in_default g c = line c.in_default.not-OutOfMemory c.write_refused_step.result c.write_refused_step.ensures c.or_break.ensures

use Rattle.std.proofs.Common.{map, subst}
use Rattle.edit_script.specs.Commands.{plain_command}
use Rattle.board_write.specs.WriteResults.{IsCause}
use Rattle.drc_run.proofs.Rewrites.{wrote_ends, prefix_ends}
use Rattle.drc_run.proofs.rewriting.rewritten.Goals as goal

pub returns-in-Ok-clause-ends : goal.returns-in-Ok-clause-ends
returns-in-Ok-clause-ends g c =
    let law = c.read_back.ensures in
    wrote_ends law.again law.unchanged c.args.text.now (map plain_command c.args.commands.now) c.requires.shallow _ _ c.in-Ok.refused c.status_after.result c.in-Ok.ensures.written c.status_after.ensures

pub returns-in-Err-Failed-clause-ends : goal.returns-in-Err-Failed-clause-ends
returns-in-Err-Failed-clause-ends g c =
    let text = c.args.text.now in
    let commands = map plain_command c.args.commands.now in
    let cause = subst (IsCause text commands (g.W.Sink.written c.args.out.now) (g.W.Sink.written c.write_source.new.out) (g.W.Sink.faults c.args.out.now) (g.W.Sink.faults c.write_source.new.out)) c.in-Err-Failed.field-0-is
    c.in-Err-Failed.ensures.written in
    let law = c.read_back.ensures in
    prefix_ends law.again law.unchanged text commands c.requires.shallow _ _ cause.0

use Rattle.std.proofs.Common.{Err, inl, ap, map, ◌∙◌}
use Rattle.edit_script.specs.Commands.{plain_command}
use Rattle.run_output.specs.CommandOutputs.{IsTurn}
use Rattle.run_output.specs.Output.{itself}
use Rattle.run_output.proofs.Turning.{opening_is, told_whole, told_prefix, first_prefix, no_fault, rose_since}
use Rattle.run_turns.proofs.commands.go_through.Goals as goal

pub returns-in-Err-clause-ends : goal.returns-in-Err-clause-ends
returns-in-Err-clause-ends g c =
    let short = c.args.way.short in
    let session = c.args.session.now in
    let first = opening_is short session c.args.tiles.done c.args.tiles.held c.write_report.ensures.found c.requires.whole in
    inl (first_prefix (IsTurn short) itself short session.state (map plain_command c.args.commands.now) (g.W.Sink.written c.args.out.now) (g.W.Sink.written c.write_report.new.out) (g.W.Sink.written c.write_report.new.out) _ first
    c.in-Err.ensures.writes.bytes)

pub returns-in-Ok-turns-clause-ends : goal.returns-in-Ok-turns-clause-ends
returns-in-Ok-turns-clause-ends g c =
    let short = c.args.way.short in
    let session = c.args.session.now in
    let first = opening_is short session c.args.tiles.done c.args.tiles.held c.write_report.ensures.found c.requires.whole in
    told_whole (IsTurn short) itself short session.state (map plain_command c.args.commands.now) _ _ _ _ first c.turns.new.session.state c.session_status.result c.in-Ok.ensures.writes.bytes c.in-Ok-turns.ensures.taken c.session_status.ensures

pub returns-in-Ok-turns-clause-fault : goal.returns-in-Ok-turns-clause-fault
returns-in-Ok-turns-clause-fault g c e = absurd (no_fault c.turns.new.session.state c.session_status.result c.session_status.ensures e)

pub returns-in-Err-Unwritten-clause-ends : goal.returns-in-Err-Unwritten-clause-ends
returns-in-Err-Unwritten-clause-ends g c =
    let short = c.args.way.short in
    let session = c.args.session.now in
    let first = opening_is short session c.args.tiles.done c.args.tiles.held c.write_report.ensures.found c.requires.whole in
    inl (told_prefix (IsTurn short) itself short session.state (map plain_command c.args.commands.now) _ (g.W.Sink.written c.write_report.new.out) _ _ first c.in-Ok.ensures.writes.bytes c.in-Err-Unwritten.ensures.broken)

pub returns-in-Err-Unwritten-clause-fault : goal.returns-in-Err-Unwritten-clause-fault
returns-in-Err-Unwritten-clause-fault g c e =
    rose_since _ (g.W.Sink.faults c.write_report.new.out) _ c.in-Ok.ensures.writes.later (c.turns.ensures.fault (c.in-Err-Unwritten.is ∙ ap Err c.in-Err-Unwritten.field-0-is))

pub returns-in-Err-OutOfMemory-clause-ends : goal.returns-in-Err-OutOfMemory-clause-ends
returns-in-Err-OutOfMemory-clause-ends g c =
    let short = c.args.way.short in
    let session = c.args.session.now in
    let first = opening_is short session c.args.tiles.done c.args.tiles.held c.write_report.ensures.found c.requires.whole in
    told_prefix (IsTurn short) itself short session.state (map plain_command c.args.commands.now) _ (g.W.Sink.written c.write_report.new.out) _ _ first c.in-Ok.ensures.writes.bytes c.in-Err-OutOfMemory.ensures.broken

use Rattle.std.proofs.Common.{map, arith}
use Rattle.std.proofs.lemmas.List.{length-map}
use Rattle.edit_script.specs.Commands.{plain_command}
use Rattle.what_if.proofs.RunCounts.{count_found, count_none}
use Rattle.what_if.proofs.runs.count_of.Goals as goal

pub returns-in-Some : goal.returns-in-Some
returns-in-Some c =
    let commands = c.args.commands.now in
    count_found c.args.session.now.state (map plain_command commands) c.args.runs.now c.requires.some c.requires.runs c.args.place c.index-runs-place.result c.as_slice-run.result.now c.in-Some.count.now
    (omega (arith, length-map commands plain_command, c.requires.place)) c.index-runs-place.is c.as_slice-run.ensures.value c.in-Some.ensures.lookup.1

pub returns-in-None : goal.returns-in-None
returns-in-None c =
    let commands = c.args.commands.now in
    count_none c.args.session.now.state (map plain_command commands) c.args.runs.now c.requires.some c.requires.runs c.args.place c.index-runs-place.result c.as_slice-run.result.now
    (omega (arith, length-map commands plain_command, c.requires.place)) c.index-runs-place.is c.as_slice-run.ensures.value c.in-None.ensures.lookup.3

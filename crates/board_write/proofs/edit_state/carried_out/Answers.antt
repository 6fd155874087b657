use Rattle.std.proofs.Common.{◌≡◌, ◌∙◌, ◌<◌, ◌+◌, sym, ap, subst, length, map, take, get_or, arith, List, [], ◌∷◌, ◌++◌}
use Rattle.std.proofs.lemmas.List.{length-map, map-append, take_more, take_all, get_or-map}
use Rattle.edit_script.specs.declared.command.Command.{Command}
use Rattle.edit_script.specs.Commands.{PlainCommand, plain_command}
use Rattle.edit_script.specs.Fits.{Fits}
use Rattle.board_write.specs.EditState.{Reached}
use Rattle.board_write.proofs.Steps.{reached_more}
use Rattle.board_write.proofs.edit_state.carried_out.Goals as goal

pub carry_out-requires-clause-command : goal.carry_out-requires-clause-command
carry_out-requires-clause-command c =
    let xs = c.args.commands.now in
    let i = c.loop-command.command-index in
    let x = c.command-item.result in
    let low : i < length xs = c.loop-command-test.true in
    let long = length-map xs plain_command in
    let there : i < length (map plain_command xs) = omega (arith, low, long) in
    subst (λ (y : Command). Fits (plain_command y)) (sym c.command-item.is) (subst Fits (get_or-map plain_command xs i x (plain_command x) low) (c.requires.fit i (plain_command x) there))

pub loop-command-preserved : goal.loop-command-preserved
loop-command-preserved c =
    let xs = c.args.commands.now in
    let i = c.loop-command.command-index in
    let x = c.command-item.result in
    let one : map plain_command (take (i + 1) xs) ≡ map plain_command (take i xs) ++ plain_command x ∷ [] =
    ap (map plain_command) (take_more xs i x c.loop-command-test.true) ∙ map-append plain_command (take i xs) (get_or xs i x ∷ [])
    ∙ ap (λ (y : Command). map plain_command (take i xs) ++ plain_command y ∷ []) (sym c.command-item.is) in
    subst (λ (cs : List PlainCommand). Reached c.args.board cs c.carry_out.new.edit_state) (sym one)
    (reached_more c.args.board (map plain_command (take i xs)) c.loop-command.edit_state c.carry_out.new.edit_state (plain_command x) c.loop-command.invariant c.in_ok-carry_out.ensures.sound c.in_ok-carry_out.ensures.step)

pub returns : goal.returns
returns c =
    let xs = c.args.commands.now in
    subst (λ (cs : List PlainCommand). Reached c.args.board cs c.loop-command.edit_state) (ap (map plain_command) (take_all c.loop-command.command-index xs (omega (arith, c.loop-command-test.false)))) c.loop-command.invariant

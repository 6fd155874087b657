use Rattle.std.proofs.Common.{◌≡◌, ◌∷◌, subst, map, List, length}
use Rattle.sexpr_read.specs.Tree.{Tree}
use Rattle.sexpr_read.specs.TreeViews.{tree_of, trees_left}
use Rattle.list_read.specs.FirstRefusals.{each_of}
use Rattle.edit_script.specs.Commands.{plain_command}
use Rattle.edit_script.specs.CommandsOf.{command_of}
use Rattle.edit_script.specs.Fits.{IsRead, FormsStandIn, FormsShallow, added_by}
use Rattle.edit_script.proofs.OneByOne.{one_more, all_on, read_next, weighs_on}
use Rattle.edit_script.proofs.reading.commands_in.Goals as goal

pub loop-form-preserved : goal.loop-form-preserved
loop-form-preserved c =
    let text = c.args.text.now in
    let so_far = map plain_command c.loop-form.commands.items in
    let after = map plain_command c.push.new.self.items in
    let new = plain_command c.in-Ok.command in
    let more = one_more plain_command c.loop-form.commands.items c.push.new.self.items c.in-Ok.command c.in_ok-push-in-Ok.ensures.items in
    let left = trees_left c.loop-form.form-iterator in
    let rest = trees_left c.next.new.self in
    let t = tree_of c.in-Some.form in
    let steps : left ≡ t ∷ rest = c.in-Some.ensures.steps in
    record {
      read = read_next so_far after new more left rest t steps (command_of text) (each_of (command_of text) (trees_left c.args.forms)) c.in-Ok.ensures.read c.loop-form.invariant.read;
      stand = (subst (λ (ts : List Tree). FormsStandIn (length text) ts) steps c.loop-form.invariant.stand).1;
      shallow = (subst (λ (ts : List Tree). FormsShallow text ts) steps c.loop-form.invariant.shallow).1;
      together = weighs_on so_far after new more left rest t steps added_by (length text) c.in-Ok.ensures.size c.loop-form.invariant.together;
      known = all_on so_far after new more IsRead c.loop-form.invariant.known c.in-Ok.ensures.known;
    }

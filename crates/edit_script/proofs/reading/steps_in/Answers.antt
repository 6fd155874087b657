use Rattle.std.proofs.Common.{◌≡◌, ◌∷◌, subst, map, List, length}
use Rattle.sexpr_read.specs.Tree.{Tree}
use Rattle.sexpr_read.specs.TreeViews.{tree_of, trees_left}
use Rattle.list_read.specs.FirstRefusals.{each_of}
use Rattle.edit_script.specs.Commands.{plain_step}
use Rattle.edit_script.specs.CommandsOf.{step_of}
use Rattle.edit_script.specs.Fits.{IsReadStep, FormsStandIn, FormsShallow, added_by_step}
use Rattle.edit_script.proofs.OneByOne.{one_more, all_on, read_next, weighs_on}
use Rattle.edit_script.proofs.reading.steps_in.Goals as goal

pub loop-form-preserved : goal.loop-form-preserved
loop-form-preserved c =
    let text = c.args.text.now in
    let so_far = map plain_step c.loop-form.steps.items in
    let after = map plain_step c.push.new.self.items in
    let new = plain_step c.in-Ok.step in
    let more = one_more plain_step c.loop-form.steps.items c.push.new.self.items c.in-Ok.step c.in_ok-push-in-Ok.ensures.items in
    let left = trees_left c.loop-form.form-iterator in
    let rest = trees_left c.next.new.self in
    let t = tree_of c.in-Some.form in
    let steps : left ≡ t ∷ rest = c.in-Some.ensures.steps in
    record {
      read = read_next so_far after new more left rest t steps (step_of text) (each_of (step_of text) (trees_left c.args.forms)) c.in-Ok.ensures.read c.loop-form.invariant.read;
      stand = (subst (λ (ts : List Tree). FormsStandIn (length text) ts) steps c.loop-form.invariant.stand).1;
      shallow = (subst (λ (ts : List Tree). FormsShallow text ts) steps c.loop-form.invariant.shallow).1;
      together = weighs_on so_far after new more left rest t steps added_by_step (length text) c.in-Ok.ensures.size c.loop-form.invariant.together;
      known = all_on so_far after new more IsReadStep c.loop-form.invariant.known c.in-Ok.ensures.known;
    }

use Rattle.std.proofs.Common.{◌+◌, ℕ, List, Option, map, sym, subst, arith}
use Rattle.edit_script.specs.Commands.{plain_command}
use Rattle.tile_pool.specs.NumberedValues.{AreAnswers}
use Rattle.what_if.specs.Trials.{IsCountAt}
use Rattle.what_if.proofs.RunCounts.{answers_more}
use Rattle.what_if.proofs.runs.in_order.Goals as goal

pub loop-place-preserved : goal.loop-place-preserved
loop-place-preserved c =
    let is = IsCountAt c.args.session.now.state (map plain_command c.args.commands.now) in
    let place = c.loop-place.place in
    record {
      room = omega (arith, c.push_reserved.ensures.capacity, c.loop-place.invariant.room);
      so_far = subst (λ (xs : List (Option ℕ)). AreAnswers is (place + 1) xs) (sym c.push_reserved.ensures.items) (answers_more is place c.loop-place.counts.items c.count_of.result c.loop-place.invariant.so_far c.count_of.ensures);
    }

use Rattle.undo_log.specs.Past.{begun}
use Rattle.undo_log.proofs.Kept.{begun_ways}
use Rattle.undo_log.proofs.history.History.begin.Goals as goal

pub invariant_of-result : goal.invariant_of-result
invariant_of-result c = λ runs. record {
  running = c.requires.running;
  past = begun c.args.session.state;
  ways = begun_ways c.args.session.state c.new.result.items c.new-2.result.items c.new.ensures.items c.new-2.ensures.items;
}

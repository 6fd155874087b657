use Rattle.std.proofs.Common.{get_or, arith}
use Rattle.std.proofs.lemmas.List.{get_or_read}
use Rattle.ratsnest.proofs.Doubled.{some_none, some_more, some_all}
use Rattle.ratsnest.proofs.waiting.draw_to_all.Goals as goal

pub loop-from-init : goal.loop-from-init
loop-from-init c = λ k d h. some_none c.args.joined.now (get_or c.args.waiting.now k d)

pub loop-from-preserved : goal.loop-from-preserved
loop-from-preserved c = λ k d h.
    some_more c.args.joined.now c.loop-from.from-index c.from-item.result (get_or c.args.waiting.now k d) (get_or c.loop-from.waiting k d)
    (get_or c.draw_once.new.waiting k d) c.loop-from-test.true
    (get_or_read c.args.joined.now c.loop-from.from-index c.from-item.result c.loop-from-test.true c.from-item.is)
    (c.loop-from.invariant k d (omega (arith, h, c.draw_once.auto.waiting))) (c.draw_once.ensures k d h)

pub returns : goal.returns
returns c = λ k d h.
    some_all c.args.joined.now c.loop-from.from-index (get_or c.args.waiting.now k d) (get_or c.loop-from.waiting k d)
    (omega (arith, c.loop-from-test.false)) (c.loop-from.invariant k d h)

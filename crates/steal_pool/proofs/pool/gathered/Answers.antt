use Rattle.std.proofs.Common.{◌≡◌, ◌++◌, length, take, drop, sym, ap, ◌∙◌, subst}
use Rattle.steal_pool.specs.StolenViews.{stolen_tiles}
use Rattle.tile_pool.specs.NumberedValues.{AreAnswers, AreFull}
use Rattle.tile_pool.proofs.Placing.{filled}
use Rattle.steal_pool.proofs.Related.{written_back}
use Rattle.steal_pool.proofs.pool.gathered.Goals as goal

pub take_all-requires-clause-slots : goal.take_all-requires-clause-slots
take_all-requires-clause-slots g c κs within =
    let f = g.T.TileWork.gives c.args.work.now in
    let slots = c.in_ok-slots.slots in
    let later = c.place_all.new.slots in
    let long : length later ≡ length slots.items = c.place_all.auto.slots ∙ ap length c.as_mut_slice.ensures.value in
    let whole : take slots.len (later ++ drop (length later) slots.items) ≡ later = written_back slots.len later slots.items (long ∙ sym slots.ok.0) in
    subst (AreFull f) (sym whole) c.place_all.ensures

pub returns : goal.returns
returns g c =
    let f = g.T.TileWork.gives c.args.work.now in
    let slots = c.in_ok-slots.slots in
    let later = c.place_all.new.slots in
    let long : length later ≡ length slots.items = c.place_all.auto.slots ∙ ap length c.as_mut_slice.ensures.value in
    let whole : take slots.len (later ++ drop (length later) slots.items) ≡ later = written_back slots.len later slots.items (long ∙ sym slots.ok.0) in
    subst (λ k. AreAnswers f k c.take_all.result.items) (ap length whole ∙ long ∙ filled slots.items (stolen_tiles c.args.stolen.now) c.in_ok-slots.ensures) c.take_all.ensures

use Rattle.std.proofs.Common.{◌≡◌, ◌++◌, length, take, drop, sym, ap, ◌∙◌, subst}
use Rattle.std.proofs.lemmas.List.{length-map}
use Rattle.claim_board.specs.DealViews.{deal_tiles, seat_hand}
use Rattle.tile_pool.specs.NumberedValues.{AreAnswers, AreBatches, AreFull}
use Rattle.tile_pool.proofs.Placing.{filled}
use Rattle.tile_pool.proofs.Crew.{written_back}
use Rattle.tile_pool.proofs.pool.gathered.Goals as goal

pub place_all-requires-clause-batches : goal.place_all-requires-clause-batches
place_all-requires-clause-batches g c κs within =
    let f = g.T.TileWork.gives c.args.work.now in
    subst (λ hs. AreBatches f hs c.args.batches.items) (sym c.close-dealt.ensures.hands) c.requires.batches

pub take_all-requires-clause-slots : goal.take_all-requires-clause-slots
take_all-requires-clause-slots g c κs within =
    let f = g.T.TileWork.gives c.args.work.now in
    let slots = c.args.slots in
    let later = c.place_all.new.slots in
    let long : length later ≡ length slots.items = c.place_all.auto.slots ∙ ap length c.as_mut_slice.ensures.value in
    let whole : take slots.len (later ++ drop (length later) slots.items) ≡ later = written_back slots.len later slots.items (long ∙ sym slots.ok.0) in
    subst (AreFull f) (sym whole) c.place_all.ensures

pub returns-clause-answers : goal.returns-clause-answers
returns-clause-answers g c =
    let f = g.T.TileWork.gives c.args.work.now in
    let slots = c.args.slots in
    let later = c.place_all.new.slots in
    let long : length later ≡ length slots.items = c.place_all.auto.slots ∙ ap length c.as_mut_slice.ensures.value in
    let whole : take slots.len (later ++ drop (length later) slots.items) ≡ later = written_back slots.len later slots.items (long ∙ sym slots.ok.0) in
    subst (λ k. AreAnswers f k c.take_all.result.items) (ap length whole ∙ long ∙ filled slots.items (deal_tiles c.args.deal) c.requires.slots) c.take_all.ensures

pub place_all-requires-clause-count : goal.place_all-requires-clause-count
place_all-requires-clause-count g c κs within = c.requires.count.0 ∙ sym (ap length c.close-dealt.ensures.hands ∙ length-map c.args.seats.items seat_hand)

pub place_all-requires-clause-few : goal.place_all-requires-clause-few
place_all-requires-clause-few g c κs within = c.requires.count.1

pub returns-clause-dealt : goal.returns-clause-dealt
returns-clause-dealt g c = c.close-dealt.ensures.numbers

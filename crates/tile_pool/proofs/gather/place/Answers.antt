use Rattle.std.proofs.Common.{◌≡◌, ℕ, ◌+◌, ◌<◌, List, length, drop, get_or, sym, ◌∙◌, subst, arith, Some, set, nat_lt}
use Rattle.claim_board.specs.DealMachine.{times}
use Rattle.tile_pool.specs.NumberedValues.{Slot}
use Rattle.tile_pool.proofs.Batches.{one_less}
use Rattle.tile_pool.proofs.Placing.{Placed, place_step, put_at}
use Rattle.tile_pool.proofs.gather.place.Goals as goal

pub loop-value-preserved : goal.loop-value-preserved
loop-value-preserved g c =
    let G = g.T.TileWork.gives c.args.work.now in
    let hand : List ℕ = c.args.hand.now in
    let inv = c.loop-value.invariant in
    let b = one_less G hand c.loop-value.batch.items c.pop.new.self.items c.in-Some.value inv.1 inv.0 c.in-Some.ensures.items in
    let n : ℕ = length c.pop.new.self.items in
    let slots = c.loop-value.slots in
    let old = c.args.slots.now in
    let in_slots : get_or hand n 0 < length slots = omega (arith, c.requires.hand n 0 b.1, c.loop-value.auto.slots) in
    let before : Placed G slots old (drop (n + 1) hand) = λ k d l. subst (λ j. Slot G k (nat_lt 0 (times k (drop j hand))) (get_or slots k d) (get_or old k d)) b.0 (inv.2 k d l) in
    let step = place_step G hand slots old n c.in-Some.value b.1 (b.3 0) in_slots before in
    let put_there : c.put.new.slots ≡ set slots (get_or hand n 0) (Some c.in-Some.value) = put_at hand slots c.put.new.slots _ n c.in-Some.value c.put.ensures (c.len.ensures ∙ c.pop.new.self.ok.0) in
    (omega (arith, b.1), b.2, subst (λ l. Placed G l old (drop n hand)) (sym put_there) step)

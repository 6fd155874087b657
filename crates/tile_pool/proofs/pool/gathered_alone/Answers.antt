use Rattle.std.proofs.Common.{◌≡◌, ◌∙◌, ap, sym, subst, List, [], ◌∷◌, ◌++◌, length, map, slice_index_or, Vec, Global, arith}
use Rattle.std.proofs.lemmas.List.{length-map, length-append}
use Rattle.claim_board.specs.DealViews.{dealt_hands, deal_tiles, seat_hand}
use Rattle.tile_pool.specs.NumberedValues.{AreValues}
use Rattle.tile_pool.proofs.OneHand.{alone_in_order}
use Rattle.tile_pool.proofs.pool.gathered_alone.Goals as goal

only_one : {A : Type 0} (xs rest : List A) (x : A) → xs ≡ rest ++ x ∷ [] → length xs ≡ 1 → (d : A) → slice_index_or xs 0 d ≡ x
only_one xs [] x e l d = ap (λ ys. slice_index_or ys 0 d) e
only_one xs (r ∷ rest) x e l d = absurd (omega (arith, ap length e, length-append rest (x ∷ []), l))

pub returns-clause-answers : goal.returns-clause-answers
returns-clause-answers g c =
    let f = g.T.TileWork.gives c.args.work.now in
    let alone = c.requires.alone in
    let hands = dealt_hands c.close-dealt.result in
    let batch = c.in-Some.batch in
    let same = c.close-dealt.ensures.hands in
    let one : length hands ≡ 1 = ap length same ∙ length-map c.args.seats.items seat_hand ∙ alone.1 in
    let values = c.requires.batches 0 [] batch (omega (arith, alone.0)) in
    let own = subst (λ (b : Vec g.row.T-Out.Denot Global). AreValues f (slice_index_or (map seat_hand c.args.seats.items) 0 []) b.items) (only_one c.args.batches.items c.pop.new.self.items batch c.in-Some.ensures.items alone.0 batch) values in
    alone_in_order f (deal_tiles c.args.deal) hands batch.items one c.close-dealt.ensures.once c.close-dealt.ensures.rise (subst (λ hs. AreValues f (slice_index_or hs 0 []) batch.items) (sym same) own)

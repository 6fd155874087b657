use Rattle.std.proofs.Common.{ℕ, List, sym, subst}
use Rattle.one_item.specs.declared.item.Item.{Item}
use Rattle.rule_pick.specs.FactsOf.{MeetsCourtyard, AreNamesOf}
use Rattle.item_facts.specs.FoundNames.{ArePrefix}
use Rattle.item_facts.specs.NearItems.{picked}
use Rattle.item_facts.proofs.Named.{at_end}
use Rattle.item_facts.proofs.Picked.{names_of_picked, picked_past}
use Rattle.item_facts.proofs.names.courtyards_near.Goals as goal

pub returns : goal.returns
returns c =
    let items = c.args.board.now.items in
    let ids = c.args.ids.now in
    let names = c.loop-id.names.items in
    subst (λ (list : List (List ℕ)). AreNamesOf (MeetsCourtyard c.args.item.now) items list) (sym c.of.ensures)
    (names_of_picked (MeetsCourtyard c.args.item.now) 0 c.args.board.now.next_id items c.soundness.ensures.sound.ids 0 ids c.requires.rises c.requires.courtyards names
    (at_end (MeetsCourtyard c.args.item.now) (picked items ids) names
    (subst (λ (left : List (ℕ × Item)). ArePrefix (MeetsCourtyard c.args.item.now) (picked items ids) left names) (picked_past items ids c.loop-id.id-index c.loop-id-test.false) c.loop-id.invariant)))

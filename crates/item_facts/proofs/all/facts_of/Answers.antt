use Rattle.std.proofs.Common.{ℕ, List, sym, subst}
use Rattle.item_facts.specs.NearItems.{AreEnough}
use Rattle.item_facts.proofs.NearTiles.{all_enough}
use Rattle.item_facts.proofs.all.facts_of.Goals as goal

pub facts_among-requires : goal.facts_among-requires
facts_among-requires c =
    subst (λ (ids : List ℕ). AreEnough c.args.item.now c.args.board.now.items ids) (sym c.all_marks.ensures.marks) (all_enough c.args.board.now c.all_marks.ensures.sound c.args.item.now)

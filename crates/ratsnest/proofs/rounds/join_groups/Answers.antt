use Rattle.std.proofs.Common.{◌∙◌, List, ℕ, [], sym, subst}
use Rattle.ratsnest.specs.Forest.{IsForest}
use Rattle.ratsnest.proofs.Forest.{forest_none}
use Rattle.ratsnest.proofs.rounds.join_groups.Goals as goal

pub join_from-requires-clause-forest : goal.join_from-requires-clause-forest
join_from-requires-clause-forest c =
    subst (λ (z : List ℕ). IsForest c.args.anchors.now z []) (sym c.deref_mut.ensures.value)
    (forest_none c.args.anchors.now c.in_ok-labels.labels.items (c.in_ok-labels.ensures.count ∙ c.count_groups-count.ensures) c.in_ok-labels.ensures.own)

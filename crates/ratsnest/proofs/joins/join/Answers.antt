use Rattle.std.proofs.Common.{◌≡◌, ◌∷◌, ◌++◌, [], inl, inr}
use Rattle.ratsnest.specs.NestOf.{InNest}
use Rattle.ratsnest.proofs.Forest.{forest_joined}
use Rattle.ratsnest.proofs.joins.join.Goals as goal

pub returns-clause-forest : goal.returns-clause-forest
returns-clause-forest c =
    let n : InNest c.args.anchors.now c.args.link = elim c.requires.usable [ inl e ↦ absurd (c.if-link-eq18446744073709551615.false e) | inr n ↦ n ] in
    let grown : c.push.new.self.items ≡ c.args.links.now.items ++ c.args.link ∷ [] = c.in_ok-push.ensures.items in
    rw grown (forest_joined c.args.anchors.now c.requires.few c.args.labels.now c.args.links.now.items c.requires.forest c.args.link n
    (rw (c.label_of-a.ensures, c.label_of-b.ensures) at c.if-a-b.false) c.merge_smaller.new.labels c.merge_smaller.auto.labels
    (rw (c.label_of-a.ensures, c.label_of-b.ensures) at c.in_ok-merge_smaller.ensures.relabeled))

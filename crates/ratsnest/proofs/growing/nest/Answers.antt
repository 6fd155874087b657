use Rattle.std.proofs.Common.{List, All, sym, subst}
use Rattle.ratsnest.specs.declared.link.Link.{Link}
use Rattle.ratsnest.specs.NestOf.{IsNest, HasPlaces, IsLeast, JoinAll}
use Rattle.ratsnest.proofs.Whole.{chosen_nest, chosen_join, nest_least, nest_places}
use Rattle.ratsnest.proofs.growing.nest.Goals as goal

pub returns-clause-nest : goal.returns-clause-nest
returns-clause-nest c =
    subst (λ (links : List Link). IsNest c.args.anchors.now links) (sym c.of-links.ensures)
    (chosen_nest c.args.anchors.now c.requires.rise c.requires.few c.in_ok-choose.field-0.items c.in_ok-choose.ensures)

pub returns-clause-places : goal.returns-clause-places
returns-clause-places c =
    subst (λ (links : List Link). All (HasPlaces c.args.anchors.now) links) (sym c.of-links.ensures)
    (nest_places c.args.anchors.now c.in_ok-choose.field-0.items
    (chosen_nest c.args.anchors.now c.requires.rise c.requires.few c.in_ok-choose.field-0.items c.in_ok-choose.ensures))

pub returns-clause-joins : goal.returns-clause-joins
returns-clause-joins c =
    subst (λ (links : List Link). JoinAll c.args.anchors.now links) (sym c.of-links.ensures)
    (chosen_join c.args.anchors.now c.requires.rise c.requires.few c.in_ok-choose.field-0.items c.in_ok-choose.ensures)

pub returns-clause-least : goal.returns-clause-least
returns-clause-least c =
    subst (λ (links : List Link). IsLeast c.args.anchors.now links) (sym c.of-links.ensures)
    (nest_least c.args.anchors.now c.requires.rise c.requires.few c.in_ok-choose.field-0.items
    (chosen_nest c.args.anchors.now c.requires.rise c.requires.few c.in_ok-choose.field-0.items c.in_ok-choose.ensures))

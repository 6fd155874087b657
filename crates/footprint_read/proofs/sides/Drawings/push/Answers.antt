use Rattle.std.proofs.Common.{List, All, subst, sym}
use Rattle.std.proofs.lemmas.List.Elements.{All-push}
use Rattle.part_read.specs.declared.figures.Drawing.{Drawing}
use Rattle.part_read.specs.Figures.{IsDrawable}
use Rattle.footprint_read.proofs.sides.Drawings.push.Goals as goal

pub invariant_of-self-2 : goal.invariant_of-self-2
invariant_of-self-2 c = subst (λ (xs : List Drawing). All IsDrawable xs) (sym c.in_ok-push.ensures.items) (All-push IsDrawable _ c.args.drawing c.self.invariant c.requires)

use Rattle.std.proofs.Common.{sym, subst, List}
use Rattle.one_item.specs.declared.parts.Part.{Part}
use Rattle.one_item.specs.ItemParts.{hole_parts}
use Rattle.rule_pick.specs.FactsOf.{SomeOn}
use Rattle.kind_subjects.proofs.Unfaced.{shared_in}
use Rattle.kind_subjects.proofs.operand_kinds.holed_copper.Goals as goal

pub returns : goal.returns
returns c = λ layer.
    shared_in c.both.result layer (hole_parts c.args.a.now.hole) c.args.b.now.copper
    (λ s t. c.both.ensures layer (c.layers_through-own.ensures layer s) (c.layers_of.ensures layer (subst (λ (ps : List Part). SomeOn layer ps) (sym c.as_slice.ensures) t)))

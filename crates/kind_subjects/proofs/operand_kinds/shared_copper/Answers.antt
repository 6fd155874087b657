use Rattle.std.proofs.Common.{sym, subst, List}
use Rattle.one_item.specs.declared.parts.Part.{Part}
use Rattle.rule_pick.specs.FactsOf.{SomeOn}
use Rattle.kind_subjects.proofs.Unfaced.{shared_in}
use Rattle.kind_subjects.proofs.operand_kinds.shared_copper.Goals as goal

pub returns : goal.returns
returns c = λ layer.
    shared_in c.both.result layer c.args.a.now.copper c.args.b.now.copper
    (λ s t. c.both.ensures layer (c.layers_of-own.ensures layer (subst (λ (ps : List Part). SomeOn layer ps) (sym c.as_slice.ensures) s)) (c.layers_of.ensures layer (subst (λ (ps : List Part). SomeOn layer ps) (sym c.as_slice-2.ensures) t)))

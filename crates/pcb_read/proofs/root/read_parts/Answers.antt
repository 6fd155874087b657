use Rattle.std.proofs.Common.{[], List, sym, subst, refl}
use Rattle.std.proofs.lemmas.List.{append-nil}
use Rattle.sexpr_read.specs.declared.place.Span.{Span}
use Rattle.sexpr_read.specs.Tree.{Tree, parts}
use Rattle.sexpr_read.specs.TreeViews.{tree_of, trees_left}
use Rattle.pcb_read.specs.BoardOf.{Reading}
use Rattle.pcb_read.specs.UnitSpans.{SaysSpans}
use Rattle.pcb_read.proofs.root.read_parts.Goals as goal

pub returns-clause-spans : goal.returns-clause-spans
returns-clause-spans c =
    let read : Reading = record { board = c.loop-part.board; layered = c.loop-part.layered } in
    let none : SaysSpans read (trees_left c.loop-part.part-iterator) [] = subst (λ (left : List Tree). SaysSpans read left []) (sym c.in-None.ensures.steps.0) refl in
    subst (λ (spans : List Span). SaysSpans (record { board = c.args.board.now; layered = c.args.layered.now }) (parts (tree_of c.args.root)) spans) (append-nil c.loop-part.spans.items)
    (c.loop-part.invariant.spans [] none)

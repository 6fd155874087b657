use Rattle.std.proofs.Common.{sym, ◌∙◌}
use Rattle.kind_subjects.specs.declared.subject.OperandKinds.TheVariants.{EdgesAndCopper}
use Rattle.kind_subjects.proofs.Unfaced.{edge_within, operand_kinds_within}
use Rattle.kind_subjects.proofs.operand_kinds.places_of_lines.Goals.{then-has_lines, else-has_lines}
use Rattle.kind_subjects.proofs.operand_kinds.places_of_lines.Goals as goal

pub returns-then-has_lines-2-clause-each : goal.returns-then-has_lines-2-clause-each
returns-then-has_lines-2-clause-each c = λ copper layer is.
    operand_kinds_within EdgesAndCopper c.args.a.now c.args.b.now c.places_of_operand_kinds.result.from c.places_of_operand_kinds.result.to c.places_of_operand_kinds.ensures.all copper layer is

pub returns-else-has_lines-2-clause-each : goal.returns-else-has_lines-2-clause-each
returns-else-has_lines-2-clause-each c = elim c.if-has_lines.branch [
  | then-has_lines w ↦ λ copper layer is. absurd (cc)
  | else-has_lines w ↦ λ copper layer is. edge_within c.args.a.now c.args.b.now 0 0 (c.has_lines.ensures w.if-has_lines.false) (w.has_lines-else-has_lines.ensures (sym w.value-is ∙ c.if-has_lines-2.false)) layer
]

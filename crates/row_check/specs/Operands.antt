-- Items of a tile that are looked up once, before its pairs are walked.
use Rattle.pair_check.specs.Rows.{Checked, Stands}
use Rattle.row_check.specs.declared.operands.Operand.{Operand}

-- the item of the id stands there, with its facts
abbrev pub StandsAt : Checked → Operand → Type 0
StandsAt c operand = Stands c operand.id operand.single.item.now operand.single.facts.now

use Rattle.json_exact.proofs.Whole.{read_spelled, read_only, read_not_refused, read_placed, read_texts}
use Rattle.json_exact.proofs.Unique.{only_memory, one_refusal}
use Rattle.json_exact.proofs.parsing.parse.Goals as goal

pub returns-in-Ok-clause-value : goal.returns-in-Ok-clause-value
returns-in-Ok-clause-value c = read_spelled c.args.text.now c.in-Ok.cells.items c.in-Ok.ensures

pub returns-in-Ok-clause-only : goal.returns-in-Ok-clause-only
returns-in-Ok-clause-only c = read_only c.args.text.now c.in-Ok.cells.items c.in-Ok.ensures

pub returns-in-Ok-clause-refused : goal.returns-in-Ok-clause-refused
returns-in-Ok-clause-refused c = read_not_refused c.args.text.now c.in-Ok.cells.items c.in-Ok.ensures

pub returns-in-Err-clause-only : goal.returns-in-Err-clause-only
returns-in-Err-clause-only c = λ v sp. only_memory c.args.text.now v c.in-Err.refused sp c.in-Err.ensures

pub returns-in-Err-clause-refused : goal.returns-in-Err-clause-refused
returns-in-Err-clause-refused c = λ e h n. one_refusal c.args.text.now e c.in-Err.refused h c.in-Err.ensures n

pub returns-in-Ok-clause-spans : goal.returns-in-Ok-clause-spans
returns-in-Ok-clause-spans c = read_placed c.args.text.now c.in-Ok.cells.items c.in-Ok.ensures

pub invariant_of-result : goal.invariant_of-result
invariant_of-result c = record { texts = read_texts c.args.text.now c.in-Ok.cells.items c.in-Ok.ensures }

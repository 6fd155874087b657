use Rattle.std.proofs.Common.{inr}
use Rattle.sexpr_read.specs.TreeViews.{root_of}
use Rattle.sexpr_read.proofs.Accepted.{only_forms, no_forms, exact_forms, all_of_bytes, bytes_spell_no_forms}
use Rattle.sexpr_read.proofs.FormFaults.{refused_forms}
use Rattle.sexpr_read.proofs.reader.parse_all.Goals as goal

pub returns-in-Ok-clause-only : goal.returns-in-Ok-clause-only
returns-in-Ok-clause-only c = only_forms root_of c.args.text.now c.read_all.result c.read_all.ensures.spelled

pub returns-in-Ok-clause-unspelled : goal.returns-in-Ok-clause-unspelled
returns-in-Ok-clause-unspelled c = no_forms root_of c.args.text.now c.read_all.result c.read_all.ensures.err

pub returns-in-Ok-clause-exact : goal.returns-in-Ok-clause-exact
returns-in-Ok-clause-exact c =
    exact_forms root_of c.args.text.now c.read_all.result c.in-Ok.ensures.cases.1 c.read_all.ensures.spelled c.read_all.ensures.levels
    c.read_all.ensures.err

pub returns-in-Err-clause-unspelled : goal.returns-in-Err-clause-unspelled
returns-in-Err-clause-unspelled c = inr (bytes_spell_no_forms c.args.text.now c.in-Err.ensures.cases.0)

pub returns-in-Err-clause-exact : goal.returns-in-Err-clause-exact
returns-in-Err-clause-exact c = inr (rw (c.not_utf8.ensures, c.in-Err.ensures.valid_len) (all_of_bytes c.args.text.now c.in-Err.ensures.cases.0))

pub returns-in-Ok-clause-of_forms : goal.returns-in-Ok-clause-of_forms
returns-in-Ok-clause-of_forms c = refused_forms c.args.text.now c.read_all.result c.read_all.ensures.err

use Rattle.std.proofs.Common.{inr}
use Rattle.sexpr_read.specs.TreeViews.{root_of}
use Rattle.sexpr_read.proofs.Accepted.{only_tree, no_tree, exact_answer, refusal_of_bytes, bytes_spell_nothing}
use Rattle.sexpr_read.proofs.reader.parse_one.Goals as goal

pub returns-in-Ok-clause-only : goal.returns-in-Ok-clause-only
returns-in-Ok-clause-only c = only_tree root_of c.args.text.now c.read_one.result c.read_one.ensures.spelled

pub returns-in-Ok-clause-unspelled : goal.returns-in-Ok-clause-unspelled
returns-in-Ok-clause-unspelled c = no_tree root_of c.args.text.now c.read_one.result c.read_one.ensures.err

pub returns-in-Ok-clause-exact : goal.returns-in-Ok-clause-exact
returns-in-Ok-clause-exact c =
    exact_answer root_of c.args.text.now c.read_one.result c.in-Ok.ensures.cases.1 c.read_one.ensures.spelled c.read_one.ensures.levels
    c.read_one.ensures.err

pub returns-in-Err-clause-unspelled : goal.returns-in-Err-clause-unspelled
returns-in-Err-clause-unspelled c = inr (bytes_spell_nothing c.args.text.now c.in-Err.ensures.cases.0)

pub returns-in-Err-clause-exact : goal.returns-in-Err-clause-exact
returns-in-Err-clause-exact c = inr (rw (c.not_utf8.ensures, c.in-Err.ensures.valid_len) (refusal_of_bytes c.args.text.now c.in-Err.ensures.cases.0))

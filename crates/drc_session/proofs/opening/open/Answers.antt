use Rattle.std.proofs.Common.{◌∙◌, ℤ, sym, subst}
use Rattle.plain_types.specs.Lengths.{IsLength}
use Rattle.rule_text.specs.RuleValues.{plain_rules}
use Rattle.drc_session.proofs.Clearances.{as_passed}
use Rattle.drc_session.proofs.Opened.{opened_index, opened_rows}
use Rattle.drc_session.proofs.Settled.{opened}
use Rattle.drc_session.proofs.opening.open.Goals as goal

pub check_all-requires-clause-index : goal.check_all-requires-clause-index
check_all-requires-clause-index g c κs within =
    let found = c.in-Ok.ensures in
    opened_index c.args.board c.args.classes c.as_slice.result.now c.as_slice-2.result.now (c.as_slice.ensures ∙ sym c.as_slice-2.ensures) c.in-Ok.found.1.0 found.reached.value c.in-Ok.found.1.1 found.reached.as_far found.reached.items

pub returns-clause-kept : goal.returns-clause-kept
returns-clause-kept g c =
    let found = c.in-Ok.ensures in
    let passed = as_passed c.in-Ok.found.1.0 found.reached.in_range in
    record {
      facts = found.facts;
      index = opened_index c.args.board c.args.classes c.as_slice.result.now c.args.rules.rules c.as_slice.ensures c.in-Ok.found.1.0 found.reached.value c.in-Ok.found.1.1 found.reached.as_far found.reached.items;
      reach = sym (found.reached.as_far ∙ passed);
      in_range = subst (λ (z : ℤ). IsLength z) passed found.reached.in_range;
      rows = opened_rows c.args.board c.args.classes c.as_slice-2.result.now c.args.rules.rules c.as_slice-2.ensures c.in-Ok-check_all.checked.0.items c.in-Ok-check_all.ensures.rows;
      nets = found.nets;
      few = c.requires.few;
    }

pub returns-clause-applied : goal.returns-clause-applied
returns-clause-applied g c =
    let found = c.in-Ok.ensures in
    let is = opened_index c.args.board c.args.classes c.as_slice.result.now c.args.rules.rules c.as_slice.ensures c.in-Ok.found.1.0 found.reached.value c.in-Ok.found.1.1 found.reached.as_far found.reached.items in
    (opened (record { board = c.args.board; classes = c.args.classes; rules = plain_rules c.args.rules }) c.in-Ok.found.1.1 is c.in-Ok-check_all.checked.1 c.in-Ok-check_all.ensures.held c.in-Ok-check_all.ensures.tiles, c.in-Ok-check_all.ensures.dealt)

use Rattle.std.proofs.Common.{sym, ◌∙◌, ap, Some, List}
use Rattle.json_exact.specs.JsonCells.{first_value, all_parts, own_cells, other_cells}
use Rattle.json_exact.specs.Json.{curly, first_named}
use Rattle.json_exact.specs.ByteComparisons.{same_bytes}
use Rattle.json_exact.specs.declared.cells.Cell.{Cell}
use Rattle.json_exact.proofs.Decoding.{member_found, member_passed, no_members}
use Rattle.json_exact.proofs.handles.Value.get.Goals as goal

pub returns-then-spells : goal.returns-then-spells
returns-then-spells c =
    ap (λ (x : List Cell). Some (first_value c.args.self.text.now x)) (c.own.ensures.is ∙ ap own_cells c.behind_first-values.ensures.is)
    ∙ sym (c.members.invariant.left ∙ member_found c.args.self.text.now c.args.name.now c.members.rest.now _ c.characters.result.now c.members-test.true c.characters.ensures (sym c.spells.ensures ∙ c.if-spells.true))

pub members-preserved : goal.members-preserved
members-preserved c = record {
  left = c.members.invariant.left ∙ member_passed c.args.self.text.now c.args.name.now c.members.rest.now _ c.characters.result.now c.members-test.true c.characters.ensures (sym c.spells.ensures ∙ c.if-spells.false)
      ∙ ap (λ (x : List Cell). first_named (λ t. same_bytes t c.args.name.now) (all_parts c.args.self.text.now curly x)) (sym (c.others-rest.ensures.is ∙ ap other_cells c.behind_first-values.ensures.is));
  texts = c.others-rest.ensures.texts c.args.self.text.now (c.behind_first-values.ensures.texts c.args.self.text.now c.members.invariant.texts);
}

pub invariant_of-result : goal.invariant_of-result
invariant_of-result c = record { texts = c.own.ensures.texts c.args.self.text.now (c.behind_first-values.ensures.texts c.args.self.text.now c.members.invariant.texts) }

pub returns : goal.returns
returns c = sym (c.members.invariant.left ∙ no_members c.args.self.text.now (λ t. same_bytes t c.args.name.now) c.members.rest.now c.members-test.false)

use Rattle.std.proofs.Common.{◌≡◌, ◌∙◌, ◌++◌, ap, sym, subst, refl, List, [], All}
use Rattle.cond_lang.specs.Rules.{PlainRule}
use Rattle.pair_check.specs.PlainRow.{PlainRow}
use Rattle.pair_check.specs.Rows.{AreRows, HasSource}
use Rattle.drc_rows.specs.Report.{rows_text}
use Rattle.drc_rows.specs.ReportOf.{first_line}
use Rattle.stolen_rows.specs.Unruled.{unruled}
use Rattle.run_texts.specs.OpenedValues.{opened_in}
use Rattle.run_output.specs.Output.{Output, AreRowsTold, status_of}
use Rattle.run_output.specs.RunEndings.{IsTextOfOne, number_of}
use Rattle.run_output.proofs.Written.{written, its_text, reporting}
use Rattle.drc_run.proofs.Stolen.{no_write_fault}
use Rattle.drc_run.proofs.stealing.report.Goals as goal

pub write_rows_alone-requires-clause-sources : goal.write_rows_alone-requires-clause-sources
write_rows_alone-requires-clause-sources g c =
    subst (λ (rows : List PlainRow). All (HasSource []) rows) (sym c.deref-in-Ok.ensures.value)
    (c.rows_have_sources.ensures (unruled c.args.texts.board c.args.texts.classes) c.in-Ok.rows.items c.in-Ok.ensures)

pub returns-in-Ok-clause-ends : goal.returns-in-Ok-clause-ends
returns-in-Ok-clause-ends g c =
    let opening = opened_in c.args.texts in
    let board = c.args.texts.board in
    let classes = c.args.texts.classes in
    let rows = c.deref-in-Ok.result.now in
    let no_rules : [] ≡ opening.rules.rules = sym c.requires.unruled in
    let are = subst (λ (rules : List PlainRule). AreRows (record { board = board; classes = classes; rules = rules }) rows) no_rules
    (subst (AreRows (unruled board classes)) (sym c.deref-in-Ok.ensures.value) c.in-Ok.ensures) in
    let text = first_line 0 ++ rows_text board [] rows in
    let out : Output = record { text = text; status = status_of rows } in
    let told : AreRowsTold opening out = record {
      rows = rows;
      are_rows = are;
      text_is = ap (λ (rules : List PlainRule). first_line 0 ++ rows_text board rules rows) no_rules;
      status_is = refl;
    } in
    let status : number_of c.status_of-status.result ≡ status_of rows = c.status_of-status.ensures ∙ ap status_of (c.deref.ensures.value ∙ sym c.deref-in-Ok.ensures.value) in
    written (AreRowsTold opening) (IsTextOfOne (AreRowsTold opening)) (λ _. ⊥) _ _ _ _ out c.write_rows_alone.result c.status_of-status.result c.after.result told (its_text (AreRowsTold opening) out told)
    (reporting (AreRowsTold opening) (IsTextOfOne (AreRowsTold opening)) (λ _. ⊥) _ _ rows c.status_of-status.result status) c.write_rows_alone.ensures c.after.ensures

pub returns-in-Ok-clause-fault : goal.returns-in-Ok-clause-fault
returns-in-Ok-clause-fault g c =
    no_write_fault c.deref.result.now c.status_of-status.result c.status_of-status.ensures c.write_rows_alone.result c.after.result c.after.ensures _ _ c.write_rows_alone.ensures

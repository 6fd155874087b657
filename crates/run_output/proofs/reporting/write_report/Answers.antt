use Rattle.std.proofs.Common.{sym, subst, ap, All}
use Rattle.board_items.specs.Boards.{PlainBoard, IsSound}
use Rattle.pair_check.specs.Rows.{Checked, HasItems, HasSource}
use Rattle.net_groups.specs.NetParts.{IsWritable}
use Rattle.drc_state.specs.States.{checked_in}
use Rattle.run_output.proofs.reporting.write_report.Goals as goal

pub write_whole-requires-clause-items : goal.write_whole-requires-clause-items
write_whole-requires-clause-items g c =
    let all = c.rows_have_items.ensures (checked_in c.args.session.now.state) c.rows-rows.result.now c.rows-rows.ensures.rows in
    subst (λ (b : PlainBoard). All (HasItems b) c.rows-rows.result.now) (sym (ap (λ (x : Checked). x.board) c.view.ensures.checked)) all

pub write_whole-requires-clause-sources : goal.write_whole-requires-clause-sources
write_whole-requires-clause-sources g c =
    let all = c.rows_have_sources.ensures (checked_in c.args.session.now.state) c.rows-rows.result.now c.rows-rows.ensures.rows in
    subst (λ (x : Checked). All (HasSource x.rules) c.rows-rows.result.now) (sym c.view.ensures.checked) all

pub write_whole-requires-clause-writable : goal.write_whole-requires-clause-writable
write_whole-requires-clause-writable g c =
    let state = c.args.session.now.state in
    let all = c.parts_are_writable.ensures state.board (subst IsSound c.board.ensures c.is_sound.ensures) c.nets-nets.result.now c.nets-nets.ensures.parts in
    subst (λ (b : PlainBoard). All (IsWritable b) c.nets-nets.result.now) (sym (ap (λ (x : Checked). x.board) c.view.ensures.checked)) all

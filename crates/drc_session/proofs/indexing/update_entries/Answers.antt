use Rattle.std.proofs.Common.{◌∙◌}
use Rattle.drc_session.proofs.Entries.{updated_more}
use Rattle.drc_session.proofs.indexing.update_entries.Goals as goal

pub loop-id-preserved : goal.loop-id-preserved
loop-id-preserved c =
    let at = c.loop-id in record {
      updated = updated_more c.args.board.now c.args.ids.now at.id-index _ c.args.index.now at.index c.update_entry.new.index c.loop-id-test.true at.invariant.updated c.in_ok-update_entry.ensures.updated;
      reach = c.in_ok-update_entry.ensures.reach ∙ at.invariant.reach;
    }

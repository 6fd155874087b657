use Rattle.drc_session.proofs.Looked.{has_more}
use Rattle.drc_session.proofs.looking.push_boxes.Goals as goal

pub loop-id-preserved : goal.loop-id-preserved
loop-id-preserved c =
    let at = c.loop-id in
    let more = c.in_ok-push_box.ensures in record {
      boxes = has_more c.args.board.now c.args.ids.now at.id-index _ c.args.boxes.now.items at.boxes.items c.push_box.new.boxes.items c.loop-id-test.true at.invariant.boxes more.boxes;
      fit = λ h. more.fit (at.invariant.fit h);
    }

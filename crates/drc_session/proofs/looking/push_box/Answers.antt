use Rattle.drc_session.proofs.Looked.{box_more}
use Rattle.drc_session.proofs.looking.push_box.Goals as goal

pub returns-in_ok-push-clause-boxes : goal.returns-in_ok-push-clause-boxes
returns-in_ok-push-clause-boxes c = box_more c.args.board.now c.args.id c.in-Some.bounds c.args.boxes.now.items c.push.new.self.items c.in-Some.ensures.own c.in_ok-push.ensures.items

use Rattle.drc_session.proofs.Looked.{nets_more}
use Rattle.drc_session.proofs.looking.push_nets.Goals as goal

pub loop-id-preserved : goal.loop-id-preserved
loop-id-preserved c =
    let at = c.loop-id in
    let more = c.in_ok-push_net.ensures in record {
      kept = λ net h. more.kept net (at.invariant.kept net h);
      nets = nets_more c.args.board.now c.args.ids.now at.id-index _ at.nets.items c.push_net.new.nets.items c.loop-id-test.true at.invariant.nets more.kept more.nets;
    }

use Rattle.made_board.proofs.MadeLines.{via_line_pieces}
use Rattle.made_board.proofs.made.push_via.Goals as goal

pub returns : goal.returns
returns c =
    rw (via_line_pieces c.args.text.now.items c.args.number, ← c.in_ok-push_piece.ensures, ← c.in_ok-push_site.ensures, ← c.in_ok-push_piece-2.ensures) c.push_net_and_stamp.ensures

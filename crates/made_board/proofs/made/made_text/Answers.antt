use Rattle.std.proofs.Common.{◌≡◌, arith}
use Rattle.std.proofs.lemmas.Grind.{common_steps}
use Rattle.made_board.specs.MadeBoard.{made_text}
use Rattle.made_board.proofs.MadeLength.{made_text_short}
use Rattle.made_board.proofs.made.made_text.Goals as goal

pub returns-clause-short : goal.returns-clause-short
unfolding made_text
returns-clause-short g c =
    let whole : c.push_piece-2.new.text.items ≡ made_text c.args.count = grind (arith, common_steps) in
    rw whole (made_text_short c.args.count (omega arith))

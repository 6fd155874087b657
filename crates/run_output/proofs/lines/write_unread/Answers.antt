use Rattle.std.proofs.Common.{◌≡◌, ◌++◌, codes, refl}
use Rattle.drc_io.proofs.Writing.{Writes-text}
use Rattle.run_output.specs.Output.{cannot_read}
use Rattle.run_output.proofs.lines.write_unread.Goals as goal

pub returns : goal.returns
returns g c =
    let text : codes "cannot read " ++ (c.word.result.now ++ codes "\n") ≡ cannot_read c.args.which = rw c.word.ensures refl in
    Writes-text _ _ _ _ _ _ _ text c.write_pieces.ensures

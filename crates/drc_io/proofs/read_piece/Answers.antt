use Rattle.std.proofs.Common.{rules, ◌≡◌, take, length, ◌∙◌}
use Rattle.drc_io.proofs.Pieces.{take-room, take-put}
use Rattle.drc_io.proofs.read_piece.Goals as goal

pub returns-clause-read : goal.returns-clause-read
returns-clause-read g c =
    let place : c.len-done.result ≡ length c.args.text.now.items = search rules in
    let prefix : take c.len-done.result c.deref_mut.result.now ≡ c.args.text.now.items =
    take-room _ _ _ _ place (c.deref_mut.ensures.value ∙ c.in_ok-extend_from_slice.ensures.items) in
    (c.read.new.buf, search rules, search rules, search rules, take-put _ _ _ _ _ _ _ _ _ place prefix (search rules) (search rules) c.truncate.ensures.items)

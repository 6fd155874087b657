use Rattle.row_check.proofs.ClearBoxes.{side_is_clear, from_low}
use Rattle.row_check.proofs.copper.is_above.Goals as goal

pub returns : goal.returns
returns c = λ e.
    let a = c.args.a in
    let b = c.args.b in
    let one = c.requires.first in
    let other = c.requires.second in
    let n = c.args.most in side_is_clear a.bottom b.top n.nm (from_low _ _ _ one.top one.high) one.bottom other.top (from_low _ _ _ other.high other.bottom) n.in_range.from n.in_range.to e

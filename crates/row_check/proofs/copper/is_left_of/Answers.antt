use Rattle.row_check.proofs.ClearBoxes.{side_is_clear, from_low}
use Rattle.row_check.proofs.copper.is_left_of.Goals as goal

pub returns : goal.returns
returns c = λ e.
    let a = c.args.a in
    let b = c.args.b in
    let one = c.requires.first in
    let other = c.requires.second in
    let n = c.args.most in side_is_clear a.right b.left n.nm (from_low _ _ _ one.left one.wide) one.right other.left (from_low _ _ _ other.wide other.right) n.in_range.from n.in_range.to e

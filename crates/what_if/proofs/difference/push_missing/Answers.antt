use Rattle.std.proofs.Common.{List, ◌++◌, sym, ap, ◌∙◌}
use Rattle.pair_check.specs.PlainRow.{PlainRow}
use Rattle.what_if.proofs.Missing.{found_more, absent}
use Rattle.what_if.proofs.difference.push_missing.Goals as goal

pub returns-then-stands_at : goal.returns-then-stands_at
returns-then-stands_at c = found_more c.args.only.now.items c.args.others.now c.args.row.now c.args.at c.if-stands_at.ensures

pub returns : goal.returns
returns c =
    let made = c.args.only.now.items in
    let e = absent c.args.others.now c.args.row.now c.args.at c.requires.ordered c.requires.before c.requires.stops c.if-stands_at.ensures in
    c.in_ok-push.ensures.items ∙ ap (λ (xs : List PlainRow). made ++ xs) (sym e)

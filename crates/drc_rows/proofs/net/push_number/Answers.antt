use Rattle.std.proofs.Common.{◌≡◌, ◌++◌, [], decimal, rules, append_assoc, append-nil}
use Rattle.drc_rows.proofs.Lines.{Puts-text}
use Rattle.drc_rows.proofs.net.push_number.Goals as goal

pub returns : goal.returns
returns g c =
    let number : c.as_bytes.result.now ≡ decimal c.args.number = search rules in
    let text : c.args.before.now ++ (c.as_bytes.result.now ++ (c.args.after.now ++ [])) ≡ c.args.before.now ++ decimal c.args.number ++ c.args.after.now = rw number (simp (append_assoc, append-nil)) in
    Puts-text _ _ _ _ _ _ _ _ _ text c.push_all.ensures

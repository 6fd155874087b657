use Rattle.std.proofs.Common.{sym}
use Rattle.net_groups.proofs.Owns.{touching_at}
use Rattle.net_groups.proofs.touch.touch_on.Goals as goal

pub returns-in-Some-Some : goal.returns-in-Some-Some
returns-in-Some-Some c =
    let first = sym c.in-Some-Some.ensures.found in
    let second = sym c.in-Some-Some.ensures'.found in (
      λ t. record { a = c.in-Some-Some.a.now; b = c.in-Some-Some.b.now; first = first; second = second; touch = c.touch.ensures.0 t },
      λ t. c.touch.ensures.1 (touching_at c.args.board.now c.args.first c.args.second c.in-Some-Some.a.now c.in-Some-Some.b.now first second t),
    )

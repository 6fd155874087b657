use Rattle.std.proofs.Common.{◌≡◌, ◌-◌, length, vec_len, sym, ◌∙◌, subst}
use Rattle.steal_pool.specs.Seats.{AreOwners}
use Rattle.steal_pool.proofs.pool.run_seats.Goals as goal

pub with_rest-requires-clause-owners : goal.with_rest-requires-clause-owners
with_rest-requires-clause-owners g c κs within =
    let job = c.args.job.now in
    let left = c.in_ok-left.left in
    let of = c.in_ok-left.ensures in
    let n : length c.args.owners.items ≡ vec_len left.all = sym of.lines.0 ∙ sym left.all.ok.0 in
    (subst (λ k. AreOwners job.tiles (1024 - k) job.others.now left.owners.items) n of.owners.0, λ h. of.owners.1 h ∙ (c.requires.owners.1 h).0)

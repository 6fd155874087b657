use Rattle.std.proofs.Common.{◌≡◌, ◌+◌, ◌<◌, ◌∷◌, [], length, ap, ◌∙◌, arith, length-append}
use Rattle.std.proofs.lemmas.List.Sums.{sum_by_push}
use Rattle.steal_pool.specs.Seats.{IsOwner, put_of, taken_of, pushed_by, taken_by}
use Rattle.steal_pool.proofs.Related.{entry_at, each_less}
use Rattle.steal_pool.proofs.rest.take_rest.Goals as goal

pub drain-requires-clause-own : goal.drain-requires-clause-own
drain-requires-clause-own g c κs within =
    let others = c.args.job.now.others.now in
    let inv = c.loop-own.invariant in
    let less = c.pop.new.self.items in
    let own = c.in-Some.own in
    let b = each_less (λ k s o. IsOwner c.args.job.now.tiles 1024 s o) others c.loop-own.owners.items less own c.in-Some.ensures.items inv.1 in
    let n : length c.loop-own.owners.items ≡ length less + 1 = ap length c.in-Some.ensures.items ∙ length-append less (own ∷ []) in
    let l : length less < length others = omega (arith, n, inv.0) in
    let is = b.1 (entry_at others (length less) l).0 in
    (is.1, is.3, is.4)

pub loop-own-smaller : goal.loop-own-smaller
loop-own-smaller g c = omega (arith, ap length c.in-Some.ensures.items ∙ length-append c.pop.new.self.items (c.in-Some.own ∷ []))

pub loop-own-preserved : goal.loop-own-preserved
loop-own-preserved g c =
    let others = c.args.job.now.others.now in
    let inv = c.loop-own.invariant in
    let less = c.pop.new.self.items in
    let own = c.in-Some.own in
    let owners = c.loop-own.owners.items in
    let b = each_less (λ k s o. IsOwner c.args.job.now.tiles 1024 s o) others owners less own c.in-Some.ensures.items inv.1 in
    let n : length owners ≡ length less + 1 = ap length c.in-Some.ensures.items ∙ length-append less (own ∷ []) in (
      omega (arith, n, inv.0),
      b.0,
      λ h. let p : pushed_by h owners ≡ pushed_by h less + put_of h own = ap (pushed_by h) c.in-Some.ensures.items ∙ sum_by_push (put_of h) less own in
          let t : taken_by h owners ≡ taken_by h less + taken_of h own = ap (taken_by h) c.in-Some.ensures.items ∙ sum_by_push (taken_of h) less own in
          let before = inv.2 h in
          let now = c.in_ok-drain.ensures.kept h in
          omega (arith, p, t, before, now),
      c.in_ok-drain.ensures.values,
    )

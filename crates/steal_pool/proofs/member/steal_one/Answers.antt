use Rattle.std.proofs.Common.{ℕ, ◌<◌, sum_by, get_or, ap, ◌∙◌, arith}
use Rattle.std.proofs.Math.ListN.{length-set}
use Rattle.std.proofs.lemmas.List.Sums.{sum_by_push}
use Rattle.crossbeam_deque.specs.Handles.{view}
use Rattle.steal_pool.specs.declared.rule.Hand.{Hand}
use Rattle.steal_pool.specs.declared.rule.Line.{Line}
use Rattle.steal_pool.specs.Seats.{IsLine, taken_through}
use Rattle.steal_pool.proofs.Moves.{takes}
use Rattle.steal_pool.proofs.Related.{each_set, sum_set_or}
use Rattle.steal_pool.proofs.Passes.{line_same}
use Rattle.steal_pool.proofs.member.steal_one.Goals as goal

pub steal_as-requires-clause-takes : goal.steal_as-requires-clause-takes
steal_as-requires-clause-takes c =
    let line = get_or c.args.lines.now c.args.at c.index-lines-at.result in
    let is = c.requires.lines.1 c.args.at c.index-others-at.result c.index-lines-at.result (omega (arith, c.requires.lines.0, c.requires.at)) in
    takes line.ticket.id (view line.ticket) 1 (omega (arith, is.2))

pub returns-in-Success-clause-lines : goal.returns-in-Success-clause-lines
returns-in-Success-clause-lines c =
    let lines = c.args.lines.now in
    let at : ℕ = c.args.at in
    let l : c.args.at < Rattle.std.proofs.Common.length c.args.lines.now = omega (arith, c.requires.lines.0, c.requires.at) in
    let line = get_or lines at c.index-lines-at.result in
    let e = c.in-Success.ensures.rule.0 in
    let new : Line = record { deque = line.deque; ticket = c.steal_as.new.pass } in (
      length-set lines at new ∙ c.requires.lines.0,
      each_set (λ k s x. IsLine c.args.tiles s x) (λ k s x. IsLine c.args.tiles s x) c.args.others.now lines at new c.requires.lines.1 l (λ k s x ne h. h)
          (λ s. line_same c.args.tiles (get_or c.args.others.now at s) line new (c.requires.lines.1 at s c.index-lines-at.result l) c.steal_as.ensures.same (ap (λ (v : Hand). v.parts) e) (ap (λ (v : Hand). v.put) e) (ap (λ (v : Hand). v.limit) e)),
    )

pub returns-in-Success-clause-took : goal.returns-in-Success-clause-took
returns-in-Success-clause-took c =
    let lines = c.args.lines.now in
    let at : ℕ = c.args.at in
    let l : c.args.at < Rattle.std.proofs.Common.length c.args.lines.now = omega (arith, c.requires.lines.0, c.requires.at) in
    let d = c.index-lines-at.result in
    let line = get_or lines at d in
    let e = c.in-Success.ensures.rule in
    let is = c.requires.lines.1 at c.index-others-at.result d l in
    let n : ℕ = c.in-Success.number in
    let new : Line = record { deque = line.deque; ticket = c.steal_as.new.pass } in
    (omega (arith, e.1 0 0 (omega arith), is.4), λ h. let t = sum_set_or (taken_through h) lines at new d l in let more = ap (λ (v : Hand). sum_by h v.taken) e.0 ∙ sum_by_push h (view line.ticket).taken n in omega (arith, t, more))

pub returns-in-Empty-clause-lines : goal.returns-in-Empty-clause-lines
returns-in-Empty-clause-lines c =
    let lines = c.args.lines.now in
    let at : ℕ = c.args.at in
    let l : c.args.at < Rattle.std.proofs.Common.length c.args.lines.now = omega (arith, c.requires.lines.0, c.requires.at) in
    let line = get_or lines at c.index-lines-at.result in
    let e = c.in-Empty.ensures.rule.0 in
    let new : Line = record { deque = line.deque; ticket = c.steal_as.new.pass } in (
      length-set lines at new ∙ c.requires.lines.0,
      each_set (λ k s x. IsLine c.args.tiles s x) (λ k s x. IsLine c.args.tiles s x) c.args.others.now lines at new c.requires.lines.1 l (λ k s x ne h. h)
          (λ s. line_same c.args.tiles (get_or c.args.others.now at s) line new (c.requires.lines.1 at s c.index-lines-at.result l) c.steal_as.ensures.same (ap (λ (v : Hand). v.parts) e) (ap (λ (v : Hand). v.put) e) (ap (λ (v : Hand). v.limit) e)),
    )

pub returns-in-Retry-clause-lines : goal.returns-in-Retry-clause-lines
returns-in-Retry-clause-lines c =
    let lines = c.args.lines.now in
    let at : ℕ = c.args.at in
    let l : c.args.at < Rattle.std.proofs.Common.length c.args.lines.now = omega (arith, c.requires.lines.0, c.requires.at) in
    let line = get_or lines at c.index-lines-at.result in
    let e = c.in-Retry.ensures.rule.0 in
    let new : Line = record { deque = line.deque; ticket = c.steal_as.new.pass } in (
      length-set lines at new ∙ c.requires.lines.0,
      each_set (λ k s x. IsLine c.args.tiles s x) (λ k s x. IsLine c.args.tiles s x) c.args.others.now lines at new c.requires.lines.1 l (λ k s x ne h. h)
          (λ s. line_same c.args.tiles (get_or c.args.others.now at s) line new (c.requires.lines.1 at s c.index-lines-at.result l) c.steal_as.ensures.same (ap (λ (v : Hand). v.parts) e) (ap (λ (v : Hand). v.put) e) (ap (λ (v : Hand). v.limit) e)),
    )

use Rattle.std.proofs.Common.{◌≡◌, ℕ, ◌+◌, ◌<◌, [], ◌∷◌, ◌++◌, length, get_or, sum_by, refl, sym, ap, ◌∙◌, subst, arith, length-append}
use Rattle.std.proofs.Math.ListN.{length-set}
use Rattle.std.proofs.lemmas.List.Sums.{sum_by_push, sum_by-append}
use Rattle.std.proofs.lemmas.List.{append-nil}
use Rattle.crossbeam_deque.specs.Handles.{view, worker_view, worker_port}
use Rattle.steal_pool.specs.declared.rule.Hand.{Hand}
use Rattle.steal_pool.specs.Seats.{IsOwner, IsLine, put_of, taken_of, taken_through, taken_with}
use Rattle.steal_pool.proofs.Moves.{merges}
use Rattle.steal_pool.proofs.Parts.{past, past_below, past_from, past_next}
use Rattle.steal_pool.proofs.Related.{entry_at, each_set, each_less, sum_set_or}
use Rattle.steal_pool.proofs.deal.give_back.Goals as goal

pub loop-line-init : goal.loop-line-init
loop-line-init c =
    let r = c.requires.owners in
    let q = c.requires.lines in (
      (r.0, λ k s o l. let h = r.1 k s o l in (h.0, h.1, h.2, omega (arith, h.3, past_below k (length c.args.lines.items) (omega (arith, l, q.0, r.0))), h.4)),
      (omega (arith, q.0), q.1),
      λ h. (refl, refl),
    )

pub absorb-requires-clause-table : goal.absorb-requires-clause-table
absorb-requires-clause-table c =
    let others = c.args.others.now in
    let inv = c.loop-line.invariant in
    let less = c.pop.new.self.items in
    let b = each_less (λ k s o. IsLine c.args.tiles s o) others c.loop-line.lines.items less c.in-Some.line c.in-Some.ensures.items inv.1.1 in
    let n = ap length c.in-Some.ensures.items ∙ length-append less (c.in-Some.line ∷ []) in
    let at : c.len.result ≡ length less = c.len.ensures ∙ c.pop.new.self.ok.0 in
    let l : length less < length others = omega (arith, n, inv.1.0) in
    let s = (entry_at others (length less) l).0 in
    let d = c.index-owners-len.result in
    let own = inv.0.1 (length less) s d (omega (arith, l, inv.0.0)) in
    let line = b.1 s in
    subst (λ k. Rattle.crossbeam_deque.specs.Handles.IsPassOf (Rattle.crossbeam_deque.specs.Handles.worker_deque (get_or c.loop-line.owners k d)) c.in-Some.line.ticket) (sym at)
    (subst (λ x. Rattle.crossbeam_deque.specs.Handles.IsPassOf x c.in-Some.line.ticket) (sym own.0) line.0)

pub absorb-requires-clause-rule : goal.absorb-requires-clause-rule
absorb-requires-clause-rule c =
    let others = c.args.others.now in
    let inv = c.loop-line.invariant in
    let less = c.pop.new.self.items in
    let n = ap length c.in-Some.ensures.items ∙ length-append less (c.in-Some.line ∷ []) in
    let at : c.len.result ≡ length less = c.len.ensures ∙ c.pop.new.self.ok.0 in
    let l : c.len.result < length others = omega (arith, n, inv.1.0, at) in
    let s = (entry_at others c.len.result l).0 in
    let d = c.index-owners-len.result in
    let own = get_or c.loop-line.owners c.len.result d in
    let is = inv.0.1 c.len.result s d (omega (arith, l, inv.0.0)) in
    merges (worker_port own) (worker_view own) c.in-Some.line.ticket.id (view c.in-Some.line.ticket) (omega (arith, is.3, c.requires.parts))

pub loop-line-preserved : goal.loop-line-preserved
loop-line-preserved c =
    let others = c.args.others.now in
    let owners = c.loop-line.owners in
    let parts : ℕ = c.args.parts in
    let tiles : ℕ = c.args.tiles in
    let inv = c.loop-line.invariant in
    let less = c.pop.new.self.items in
    let line = c.in-Some.line in
    let b = each_less (λ k s o. IsLine tiles s o) others c.loop-line.lines.items less line c.in-Some.ensures.items inv.1.1 in
    let n : length c.loop-line.lines.items ≡ length less + 1 = ap length c.in-Some.ensures.items ∙ length-append less (line ∷ []) in
    let at : ℕ = c.len.result in
    let e : at ≡ length less = c.len.ensures ∙ c.pop.new.self.ok.0 in
    let l : at < length others = omega (arith, n, inv.1.0, e) in
    let l' : at < length owners = omega (arith, l, inv.0.0) in
    let s0 = (entry_at others at l).0 in
    let d = c.index-owners-len.result in
    let own = get_or owners at d in
    let new = c.absorb.new.self in
    let same = c.absorb.ensures.same in
    let rule = c.absorb.ensures.rule in
    let mine = b.1 s0 in (
      (
        length-set owners at new ∙ inv.0.0,
        each_set (λ k s o. IsOwner tiles (parts + past k (length c.loop-line.lines.items)) s o) (λ k s o. IsOwner tiles (parts + past k (length less)) s o) others owners at new inv.0.1 l'
            (λ k s o ne h. (h.0, h.1, h.2, h.3 ∙ ap (λ j. parts + past k j) n ∙ ap (λ j. parts + j) (sym (past_next k (length less) (λ q. ne (q ∙ sym e)))), h.4))
            (λ s. let is = inv.0.1 at s d l' in (same.0.0 ∙ is.0, same.0.1 ∙ is.1, is.2, omega (arith, ap (λ (v : Hand). v.parts) rule, is.3, mine.2, past_below at (length c.loop-line.lines.items) (omega (arith, n, e)), past_from at (length less) (omega (arith, e))), omega (arith, ap (λ (v : Hand). v.limit) rule, is.4))),
      ),
      (omega (arith, n, inv.1.0), b.0),
      λ h. let p = sum_set_or (put_of h) owners at new d l' in
          let t = sum_set_or (taken_of h) owners at new d l' in
          let put : sum_by h (worker_view new).put ≡ sum_by h (worker_view own).put = ap (λ (v : Hand). sum_by h v.put) rule ∙ ap (λ xs. sum_by h ((worker_view own).put ++ xs)) mine.3 ∙ ap (sum_by h) (append-nil (worker_view own).put) in
          let taken : sum_by h (worker_view new).taken ≡ sum_by h (worker_view own).taken + sum_by h (view line.ticket).taken = ap (λ (v : Hand). sum_by h v.taken) rule ∙ sum_by-append h (worker_view own).taken (view line.ticket).taken in
          let lines : taken_with h c.loop-line.lines.items ≡ taken_with h less + sum_by h (view line.ticket).taken = ap (taken_with h) c.in-Some.ensures.items ∙ sum_by_push (taken_through h) less line in
          let before = inv.2 h in
          (omega (arith, p, put, before), omega (arith, t, taken, lines, before)),
    )

pub returns-clause-owners : goal.returns-clause-owners
returns-clause-owners c =
    let inv = c.loop-line.invariant in
    let none : length c.loop-line.lines.items ≡ 0 = sym c.loop-line.lines.ok.0 ∙ c.in_default.ensures.cases.0 in
    (inv.0.0, λ k s o l. let h = inv.0.1 k s o l in (h.0, h.1, h.2, omega (arith, h.3, past_from k (length c.loop-line.lines.items) (omega (arith, none))), h.4))

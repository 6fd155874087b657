use Rattle.std.proofs.Common.{rules, ◌≡◌, ℕ, ◌+◌, ◌<◌, [], ◌∷◌, ◌++◌, length, get_or, sum_by, refl, sym, ap, ◌∙◌, subst, arith, length-append}
use Rattle.std.proofs.Math.ListN.{length-set}
use Rattle.std.proofs.lemmas.List.Sums.{sum_by_push}
use Rattle.crossbeam_deque.specs.Handles.{worker_view, worker_port}
use Rattle.steal_pool.specs.declared.rule.Hand.{Hand}
use Rattle.steal_pool.specs.declared.rule.Line.{Line}
use Rattle.steal_pool.specs.Seats.{IsOwner, IsLine, put_of, taken_of, taken_through, taken_with}
use Rattle.steal_pool.proofs.Moves.{forks}
use Rattle.steal_pool.proofs.Parts.{past, past_below, past_from, past_next}
use Rattle.steal_pool.proofs.Related.{entry_at, each_set, each_next, sum_set_or}
use Rattle.steal_pool.proofs.Turns.{alike_start, alike_set}
use Rattle.steal_pool.proofs.deal.lines_of.Goals as goal

pub loop-at-init : goal.loop-at-init
loop-at-init c = (
  (c.requires.owners.0, λ k s o l. let h = c.requires.owners.1 k s o l in (h.0, h.1, h.2, h.3 ∙ ap (λ n. c.args.parts + n) (sym (past_from k 0 (omega arith))), h.4)),
  λ h. (refl, refl),
  (omega (arith, ap length c.in_ok-lines.ensures.items), λ k s l q. absurd (omega (arith, q, ap length c.in_ok-lines.ensures.items))),
  ap length c.in_ok-lines.ensures.items,
  omega (arith, c.in_ok-lines.ensures.capacity),
  λ h. ap (taken_with h) c.in_ok-lines.ensures.items,
  alike_start c.args.owners.now,
)

pub another-ticket-requires : goal.another-ticket-requires
another-ticket-requires c =
    let others = c.args.others.now in
    let at : ℕ = c.loop-at.at in
    let inv = c.loop-at.invariant in
    let l : at < length others = search rules in
    let d = c.index-owners-at.result in
    let own = get_or c.loop-at.owners at d in
    let is = inv.0.1 at (entry_at others at l).0 d (omega (arith, l, inv.0.0)) in
    let parts : (worker_view own).parts ≡ c.args.parts + 1 = is.3 ∙ ap (λ n. c.args.parts + n) (past_from at at (omega arith)) in
    forks (worker_port own) (worker_view own) (omega (arith, parts, c.requires.parts))

pub loop-at-preserved : goal.loop-at-preserved
loop-at-preserved c =
    let others = c.args.others.now in
    let owners = c.loop-at.owners in
    let at : ℕ = c.loop-at.at in
    let parts : ℕ = c.args.parts in
    let tiles : ℕ = c.args.tiles in
    let inv = c.loop-at.invariant in
    let l : at < length others = search rules in
    let l' : at < length owners = omega (arith, l, inv.0.0) in
    let d = c.index-owners-at.result in
    let own = get_or owners at d in
    let new = c.another-ticket.new.self in
    let ticket = c.another-ticket.result in
    let same = c.another-ticket.ensures.same in
    let rule = c.another-ticket.ensures.rule in
    let line : Line = record { deque = at; ticket = ticket } in
    let one = past_from at at (omega arith) in
    let lines = c.loop-at.lines.items in
    let pushed : c.push_reserved.new.self.items ≡ lines ++ line ∷ [] = c.push_reserved.ensures.items in
    let of : (s : _) → IsLine tiles (get_or others at s) line = λ s. let is = inv.0.1 at s d l' in (
      (same.2.0 ∙ ap (λ x. x.0) is.0, same.2.1 ∙ ap (λ x. x.1) is.0, same.2.2, same.2.3),
      is.2,
      ap (λ (v : Hand). v.parts) rule.1,
      ap (λ (v : Hand). v.put) rule.1,
      omega (arith, ap (λ (v : Hand). v.limit) rule.1, is.4),
    ) in (
      (
        length-set owners at new ∙ inv.0.0,
        each_set (λ k s o. IsOwner tiles (parts + past k at) s o) (λ k s o. IsOwner tiles (parts + past k (at + 1)) s o) others owners at new inv.0.1 l'
            (λ k s o ne h. (h.0, h.1, h.2, h.3 ∙ ap (λ n. parts + n) (past_next k at ne), h.4))
            (λ s. let is = inv.0.1 at s d l' in (same.0.0 ∙ is.0, same.0.1 ∙ is.1, is.2, omega (arith, ap (λ (v : Hand). v.parts) rule.0, is.3, one, past_below at (at + 1) (omega arith)), omega (arith, ap (λ (v : Hand). v.limit) rule.0, is.4))),
      ),
      λ h. let p = sum_set_or (put_of h) owners at new d l' in
          let t = sum_set_or (taken_of h) owners at new d l' in
          let put : sum_by h (worker_view new).put ≡ sum_by h (worker_view own).put = ap (λ (v : Hand). sum_by h v.put) rule.0 in
          let taken : sum_by h (worker_view new).taken ≡ sum_by h (worker_view own).taken = ap (λ (v : Hand). sum_by h v.taken) rule.0 in
          let before = inv.1 h in
          (omega (arith, p, put, before), omega (arith, t, taken, before)),
      (
        omega (arith, ap length pushed, length-append lines (line ∷ []), inv.3, l),
        subst (λ xs. (k : ℕ) (s : _) (x : Line) → k < length xs → IsLine tiles (get_or others k s) (get_or xs k x)) (sym pushed)
            (each_next (λ k s x. IsLine tiles s x) others lines line inv.2.1 (λ s. subst (λ k. IsLine tiles (get_or others k s) line) (sym inv.3) (of s))),
      ),
      omega (arith, ap length pushed, length-append lines (line ∷ []), inv.3),
      omega (arith, c.push_reserved.ensures.capacity, inv.4),
      λ h. ap (taken_with h) pushed ∙ sum_by_push (taken_through h) lines line ∙ omega (arith, inv.5 h, ap (λ (v : Hand). sum_by h v.taken) rule.1),
      alike_set c.args.owners.now owners at new d inv.6 l' (ap (λ (v : Hand). v.put) rule.0),
    )

pub returns-clause-owners : goal.returns-clause-owners
returns-clause-owners c =
    let inv = c.loop-at.invariant in
    let e : c.loop-at.at ≡ length c.args.others.now = search rules in
    (inv.0.0, λ k s o l. let h = inv.0.1 k s o l in (h.0, h.1, h.2, omega (arith, h.3, past_below k c.loop-at.at (omega (arith, e, l, inv.0.0))), h.4))

use Rattle.std.proofs.Common.{◌≡◌, ◌++◌, take, drop, length, sym, ap, ◌∙◌, subst, arith}
use Rattle.steal_pool.specs.Seats.{AreLines, taken_with}
use Rattle.steal_pool.proofs.Related.{written_back}
use Rattle.steal_pool.proofs.member.run_member.Goals as goal

pub steal_all-requires-clause-lines : goal.steal_all-requires-clause-lines
steal_all-requires-clause-lines g c κs within = subst (AreLines c.args.job.now.tiles c.args.job.now.others.now) (sym c.as_mut_slice-lines.ensures.value) c.requires.member.1

pub returns : goal.returns
returns g c =
    let old = c.args.member.now.lines in
    let later = c.steal_all.new.lines in
    let whole : take old.len (later ++ drop (length later) old.items) ≡ later = written_back old.len later old.items (c.steal_all.auto.lines ∙ ap length c.as_mut_slice-lines.ensures.value ∙ sym old.ok.0) in
    let ready = c.requires.member in (
      c.take_own.ensures.own,
      subst (AreLines c.args.job.now.tiles c.args.job.now.others.now) (sym whole) c.steal_all.ensures.lines,
      λ h. let a = c.steal_all.ensures.kept h in
          let b = c.take_own.ensures.kept h in
          let d = ready.4 h in
          let e = ap (Rattle.std.proofs.Common.sum_by h) ready.2 in
          let f = ap (taken_with h) c.as_mut_slice-lines.ensures.value in
          let i = ap (taken_with h) whole in
          omega arith,
      c.steal_all.ensures.values,
    )

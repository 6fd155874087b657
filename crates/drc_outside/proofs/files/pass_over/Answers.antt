use Rattle.std.proofs.Common.{◌-◌, ◌+◌, ◌≡◌, ◌≤◌, ℕ, arith, subst, length-take}
use Rattle.drc_outside.specs.FilePositions.{Passes}
use Rattle.drc_outside.proofs.Passing.{Passes-more, Passes-end}
use Rattle.drc_outside.proofs.files.pass_over.Goals as goal

pub returns-then-n-most : goal.returns-then-n-most
returns-then-n-most g c =
    let read = c.in_ok-n.ensures in
    Passes-end _ _ _ (c.args.count - c.loop-left.left) c.in_ok-n.n c.args.count _ read.within (omega (arith, c.loop-left.invariant.within, c.if-n-most.true, c.min-most.ensures)) c.loop-left.invariant.passes read.bytes
    (read.filled (omega (arith, c.if-n-most.true, c.min-most.ensures, c.fill.auto.buf, length-take c.min-most.result c.loop-left.piece)))

pub loop-left-preserved : goal.loop-left-preserved
loop-left-preserved g c =
    let read = c.in_ok-n.ensures in
    let fits : c.in_ok-n.n ≤ c.loop-left.left = omega (arith, read.within, c.min-most.ensures, c.fill.auto.buf, length-take c.min-most.result c.loop-left.piece) in
    let same : (c.args.count - c.loop-left.left) + c.in_ok-n.n ≡ c.args.count - (c.loop-left.left - c.in_ok-n.n) = omega (arith, c.loop-left.invariant.within, fits) in
    record {
      within = omega (arith, c.loop-left.invariant.within);
      passes = subst (λ (k : ℕ). Passes (g.F.Read.remaining c.args.file.now) (g.F.Read.remaining c.fill.new.file) k) same
          (Passes-more _ _ _ (c.args.count - c.loop-left.left) c.in_ok-n.n _ read.within c.loop-left.invariant.passes read.bytes);
    }

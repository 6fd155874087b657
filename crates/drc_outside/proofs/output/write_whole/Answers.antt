use Rattle.std.proofs.Common.{rules, arith, sym, subst, ℕ, take}
use Rattle.std.specs.Io.KnownBytes.{Appends}
use Rattle.std.proofs.KnownBytes.{Appends-kept}
use Rattle.drc_io.proofs.Pieces.{Appends-piece}
use Rattle.drc_outside.proofs.output.write_whole.Goals as goal
use Rattle.drc_outside.proofs.output.write_whole.Goals.{in-Ok, in-Err}

pub loop-preserved : goal.loop-preserved
loop-preserved g c =
    let Prefix = λ (k : ℕ). Appends (g.W.Write.contents c.args.out.now) (g.W.Write.contents c.write.new.self) (take k c.args.piece.now) in
    record {
      within = elim c.match-write.branch [ in-Ok w ↦ search rules | in-Err w ↦ omega arith ];
      bytes = elim c.match-write.branch [
        | in-Ok w ↦ subst Prefix (sym w.done-is) (Appends-piece _ _ _ _ _ _ c.loop.invariant.bytes w.in-Ok.ensures.bytes)
        | in-Err w ↦ subst Prefix (sym w.done-is) (Appends-kept _ _ _ _ c.loop.invariant.bytes w.in-Err.ensures.bytes)
      ];
    }

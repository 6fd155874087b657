use Rattle.std.proofs.Common.{rules, sym, subst, ℕ, ◌-◌, take, length}
use borrow.Rule.Slice.PartMut.{put_mid}
use Rattle.std.specs.Io.KnownBytes.{Consumes}
use Rattle.drc_outside.proofs.Filled.{Consumes-piece, Consumes-none}
use Rattle.drc_outside.proofs.files.fill.Goals as goal
use Rattle.drc_outside.proofs.files.fill.Goals.{in-Ok, in-Err}

pub loop-preserved : goal.loop-preserved
loop-preserved g c =
    let Prefix = λ (k : ℕ). Consumes (g.F.Read.remaining c.args.file.now) (g.F.Read.remaining c.read.new.self) (take k (put_mid c.loop.done (length c.loop.buf - c.loop.done) c.loop.buf c.read.new.buf)) in
    record {
      within = elim c.match-read.branch [ in-Ok w ↦ search rules | in-Err w ↦ search rules ];
      bytes = elim c.match-read.branch [
        | in-Ok w ↦ subst Prefix (sym w.done-is) (Consumes-piece _ _ _ _ _ _ _ _ c.loop.invariant.within w.in-Ok.ensures.bound.0 c.loop.invariant.bytes w.in-Ok.ensures.bytes.0)
        | in-Err w ↦ subst Prefix (sym w.done-is) (Consumes-none _ _ _ _ _ _ _ c.loop.invariant.within c.loop.invariant.bytes w.in-Err.ensures.bytes)
      ];
    }

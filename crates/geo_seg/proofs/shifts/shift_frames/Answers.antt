use Rattle.std.proofs.Common.{sym, subst, pos, arith}
use Rattle.geo_seg.specs.declared.frames.Frame.{Frame}
use Rattle.geo_seg.specs.Boxes.{FitsWithin}
use Rattle.geo_seg.specs.RunBoxes.{sides_of}
use Rattle.geo_seg.specs.ShiftedRuns.{IsShiftedFrame}
use Rattle.geo_seg.proofs.Rewritten.{not_yet, one_written, all_written}
use Rattle.geo_seg.proofs.shifts.shift_frames.Goals as goal

pub shifted-requires-clause-fits : goal.shifted-requires-clause-fits
shifted-requires-clause-fits c =
    subst (λ (f : Frame). FitsWithin (pos 1000000000) (sides_of f)) (sym (not_yet (IsShiftedFrame c.args.by.dx c.args.by.dy) c.loop-frame.frame-index c.args.frames.now c.loop-frame.frames c.loop-frame.invariant _))
    (c.requires.fits c.loop-frame.frame-index _ (omega arith))

pub loop-frame-preserved : goal.loop-frame-preserved
loop-frame-preserved c = one_written (IsShiftedFrame c.args.by.dx c.args.by.dy) c.loop-frame.frame-index c.args.frames.now c.loop-frame.frames _ c.shifted.result c.loop-frame.invariant (omega arith) c.shifted.ensures

pub returns : goal.returns
returns c = all_written (IsShiftedFrame c.args.by.dx c.args.by.dy) c.loop-frame.frame-index c.args.frames.now c.loop-frame.frames c.loop-frame.invariant (omega arith)

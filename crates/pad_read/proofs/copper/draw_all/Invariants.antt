use Rattle.std.proofs.Common.{◌≡◌, drop}
use Rattle.part_read.specs.There.{after}
use Rattle.pad_read.specs.PadOf.{all_drawn}
use Rattle.pad_read.proofs.copper.draw_all.Given as goal

-- the parts so far, and those of the drawings that are left, are all
abbrev pub invariant-loop-drawing : goal.invariant-loop-drawing
invariant-loop-drawing l =
    after l.list.items (all_drawn l.layers l.placement (drop l.drawing-index l.drawings)) ≡ after l.initial.list.items (all_drawn l.layers l.placement l.drawings)

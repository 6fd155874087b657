use Rattle.std.proofs.Common.{◌≡◌, drop}
use Rattle.footprint_read.specs.Courtyards.{figure_parts}
use Rattle.part_read.specs.There.{after}
use Rattle.footprint_read.proofs.courts.figure_parts.Given as goal

-- the parts so far, and those of the drawings that are left, are all
abbrev pub invariant-loop-drawing : goal.invariant-loop-drawing
invariant-loop-drawing l = after l.parts.items (figure_parts l.placement (drop l.drawing-index l.drawings)) ≡ figure_parts l.placement l.drawings

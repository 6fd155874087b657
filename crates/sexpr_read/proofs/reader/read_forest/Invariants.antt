use Rattle.std.proofs.Common.{length, ◌-◌, ◌≤◌}
use Rattle.sexpr_read.specs.ReaderProgress.{IsSettled}
use Rattle.sexpr_read.proofs.Reading.{Reading}
use Rattle.sexpr_read.proofs.reader.read_forest.Given as goal

abbrev pub invariant-trees : goal.invariant-trees
invariant-trees l = record {
  read : Reading l.one l.text l.from l.at l.depth l.arena.innermost l.arena.cells.items;
  within : l.at ≤ length l.text;
  settled : IsSettled l.one l.text l.at;
}

abbrev pub decreases-trees : goal.decreases-trees
decreases-trees l = length l.text - l.at

use Rattle.std.proofs.Common.{◌≡◌, ◌++◌, map, drop}
use Rattle.kept_facts.specs.FactUpdates.{mark_at}
use Rattle.kept_facts.proofs.marks.marks_of.Given as goal

abbrev pub invariant-loop-id : goal.invariant-loop-id
invariant-loop-id l = map (mark_at l.board) l.ids ≡ l.marks.items ++ map (mark_at l.board) (drop l.id-index l.ids)

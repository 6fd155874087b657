use Rattle.std.proofs.Common.{◌≡◌, ◌++◌}
use Rattle.pad_read.proofs.customs.append_all.Given as goal

-- those so far stand behind the old ones
abbrev pub invariant-loop-drawing : goal.invariant-loop-drawing
invariant-loop-drawing l = l.drawings.items ≡ l.initial.drawings.items ++ l.yielded

use Rattle.std.proofs.Common.{length, ◌≡◌, ◌++◌, take}
use Rattle.sexpr_read.specs.Tree.{unescaped}
use Rattle.sexpr_read.proofs.decode.append_unescaped.Given as goal

-- what was there, and what the content stands for so far
abbrev pub invariant-loop-byte : goal.invariant-loop-byte
invariant-loop-byte l =
    (l.out.items ++ unescaped l.content ≡ l.fn.out.items ++ unescaped l.fn.content) × (take l.before l.out.items ≡ l.fn.out.items)

abbrev pub decreases-loop-byte : goal.decreases-loop-byte
decreases-loop-byte l = length l.content

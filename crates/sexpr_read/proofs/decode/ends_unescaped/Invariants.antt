use Rattle.std.proofs.Common.{length, ◌≡◌}
use Rattle.sexpr_read.specs.Tree.{unescaped}
use Rattle.sexpr_read.specs.TextEndings.{ends_in}
use Rattle.sexpr_read.proofs.decode.ends_unescaped.Given as goal

-- the whole ends so where what is left of it does
abbrev pub invariant-loop-rest : goal.invariant-loop-rest
invariant-loop-rest l = ends_in l.tail (unescaped l.content) ≡ ends_in l.tail (unescaped l.fn.content)

abbrev pub decreases-loop-rest : goal.decreases-loop-rest
decreases-loop-rest l = length l.content

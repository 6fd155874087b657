use Rattle.std.proofs.Common.{length, ◌≡◌, ◌↔◌}
use Rattle.sexpr_read.specs.Tree.{unescaped}
use Rattle.sexpr_read.proofs.decode.is_unescaped.Given as goal

-- the whole stands for the text where the rest of the content stands for the rest of the text
abbrev pub invariant-loop-byte : goal.invariant-loop-byte
invariant-loop-byte l = (unescaped l.fn.content ≡ l.fn.text) ↔ (unescaped l.content ≡ l.text)

abbrev pub decreases-loop-byte : goal.decreases-loop-byte
decreases-loop-byte l = length l.content

use Rattle.sexpr_read.specs.TreeViews.{tree_of}
use Rattle.part_read.proofs.LayerNames.{never_empty, other_first}
use Rattle.part_read.proofs.layers.may_begin.Goals as goal

pub returns-in_default-first : goal.returns-in_default-first
returns-in_default-first c = λ rest begins.
    absurd (never_empty (tree_of c.args.atom) c.in-Some.content.now c.args.byte rest c.in-Some.ensures c.in_default-first.ensures.value begins)

pub returns-else-first-byte : goal.returns-else-first-byte
returns-else-first-byte c = λ rest begins.
    other_first (tree_of c.args.atom) c.in-Some.content.now c.in-Some-first.first.now c.args.byte rest c.in-Some.ensures c.in-Some-first.ensures.value c.if-first-byte.false begins

use Rattle.std.proofs.Common.{◌∙◌, ◌<◌, length, map, option_map, ap, arith}
use Rattle.sexpr_read.specs.TreeViews.{tree_of}
use Rattle.list_read.proofs.Walks.{note_here, keep_here}
use Rattle.list_read.proofs.elements.note_word.Goals as goal
use Rattle.list_read.proofs.elements.note_word.Goals.{then-is_new_word, else-is_new_word}

pub loop-k-preserved : goal.loop-k-preserved
loop-k-preserved c =
    let inside : c.loop-k.k < length c.loop-k.found = omega arith in
    elim c.if-is_new_word.branch [
      | then-is_new_word w ↦ ap (map (option_map tree_of)) w.found-is ∙ note_here c.args.part (tree_of c.args.first) c.loop-k.k c.args.wanted.now c.args.found.now c.loop-k.found
          c.index-found-k.result _ c.is_new_word.result c.loop-k-test.true c.requires.places inside c.index-found-k.is c.loop-k.invariant c.is_new_word.ensures w.if-is_new_word.true
      | else-is_new_word w ↦ ap (map (option_map tree_of)) w.found-is ∙ keep_here c.args.part (tree_of c.args.first) c.loop-k.k c.args.wanted.now c.args.found.now c.loop-k.found
          c.index-found-k.result _ c.is_new_word.result c.loop-k-test.true c.requires.places inside c.index-found-k.is c.loop-k.invariant c.is_new_word.ensures w.if-is_new_word.false
    ]

use Rattle.sexpr_read.specs.TreeViews.{tree_of}
use Rattle.list_read.proofs.Turns.{note_turn}
use Rattle.list_read.proofs.elements.note_in_turn.Goals as goal

pub returns-then-is_new_word : goal.returns-then-is_new_word
returns-then-is_new_word c =
    note_turn c.args.part (tree_of c.args.first) c.args.next c.args.wanted.now c.args.found.now c.index-found-next.result _ c.is_new_word.result c.if-next-wanted.true c.requires.places
    c.requires.distinct c.index-found-next.is c.is_new_word.ensures c.if-is_new_word.true

use Rattle.std.proofs.Common.{◌≡◌, ◌∙◌, sym, subst}
use Rattle.sexpr_read.specs.TreeViews.{tree_of}
use Rattle.board_write.specs.declared.places.Moving.{Moving}
use Rattle.board_write.specs.declared.places.Moving.TheVariants.{Nothing, First}
use Rattle.board_write.specs.Settings.{inside, behind}
use Rattle.board_write.proofs.Groves.{behind_at, behind_other}
use Rattle.board_write.proofs.places.Moving.behind.Goals as goal

pub returns-then-has_head : goal.returns-then-has_head
returns-then-has_head c =
    subst (λ (m : Moving). Nothing ≡ behind m (inside (tree_of c.args.list))) (sym c.in-First.is) (behind_at c.in-First.by (tree_of c.args.list) (sym c.has_head.ensures ∙ c.if-has_head.true))

pub returns-else-has_head : goal.returns-else-has_head
returns-else-has_head c =
    subst (λ (m : Moving). First c.in-First.by ≡ behind m (inside (tree_of c.args.list))) (sym c.in-First.is) (behind_other c.in-First.by (tree_of c.args.list) (sym c.has_head.ensures ∙ c.if-has_head.false))

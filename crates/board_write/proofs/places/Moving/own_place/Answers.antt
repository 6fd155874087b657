use Rattle.std.proofs.Common.{◌≡◌, ◌∙◌, sym, subst, ℤ, Option, None, option_map}
use Rattle.sexpr_read.specs.TreeViews.{tree_of}
use Rattle.board_write.specs.declared.places.Moving.{Moving}
use Rattle.board_write.specs.Settings.{inside, own_place}
use Rattle.board_write.specs.MovedPlaces.{list_numbers}
use Rattle.board_write.proofs.Groves.{own_at, own_other}
use Rattle.board_write.proofs.places.Moving.own_place.Goals as goal

pub returns-then-has_head-clause-numbers : goal.returns-then-has_head-clause-numbers
returns-then-has_head-clause-numbers c =
    subst (λ (m : Moving). option_map list_numbers c.place_of.result ≡ own_place m (inside (tree_of c.args.list))) (sym c.in-First.is)
    (c.place_of.ensures.numbers ∙ own_at c.in-First.by (tree_of c.args.list) (sym c.has_head.ensures ∙ c.if-has_head.true))

pub returns-else-has_head-clause-numbers : goal.returns-else-has_head-clause-numbers
returns-else-has_head-clause-numbers c =
    subst (λ (m : Moving). (let o : Option (ℤ × ℤ) = None in o) ≡ own_place m (inside (tree_of c.args.list))) (sym c.in-First.is) (own_other c.in-First.by (tree_of c.args.list) (sym c.has_head.ensures ∙ c.if-has_head.false))

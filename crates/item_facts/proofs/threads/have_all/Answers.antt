use Rattle.std.proofs.Common.{◌≡◌, refl, subst, ℕ, List, true, Option, None, Some, IsSome}
use Rattle.std.specs.Option.{is_some, option_copied}
use denote.Ref.{Bor}
use Rattle.one_item.specs.declared.item.Item.{Item}
use Rattle.board_items.specs.BoardIterators.{items_left}
use Rattle.rule_pick.specs.declared.facts.Facts.{Facts}
use Rattle.item_facts.proofs.Filled.{HaveSoFar, one_more}
use Rattle.item_facts.proofs.threads.have_all.Goals as goal

copied : (found : Option (Bor Facts)) → is_some found ≡ true → IsSome (option_copied found)
copied None e = absurd cc
copied (Some facts) e = refl

pub loop-id-preserved : goal.loop-id-preserved
loop-id-preserved c =
    let board = c.args.board.now in
    let facts = c.args.facts.now in
    let entry : ℕ × Item = (c.in-Some.id, c.in-Some.field-0-1.now) in
    one_more board facts entry (items_left c.next.new.self)
    (subst (λ (items : List (ℕ × Item)). HaveSoFar board facts items) c.in-Some.ensures.steps c.loop-id.invariant)
    (subst (λ (found : Option Facts). IsSome found) c.get.ensures (copied c.get.result c.if-is_none.ensures))

use Rattle.std.proofs.Common.{◌≡◌, sym, subst, Option, Some}
use Rattle.one_item.specs.declared.item.Item.{Item}
use Rattle.rule_pick.specs.FactsOf.{AreFactsOf}
use Rattle.pair_check.proofs.single.single_at.Goals as goal

some_once : {A : Type 0} (found : Option A) (x y : A) → found ≡ Some x → found ≡ Some y → x ≡ y
some_once found x y e f = cc

pub returns : goal.returns
returns c =
    let view = c.args.view.now in
    let item = c.in_ok-item.ensures.found in
    let facts = c.requires.facts.right c.args.id c.in_ok-facts.facts.now (sym c.in_ok-facts.ensures) in
    record {
      item_is = sym item;
      facts_are = subst (λ (i : Item). AreFactsOf view.board.now view.classes.now i c.in_ok-facts.facts.now) (some_once _ facts.item c.in_ok-item.item.now facts.stands (sym item)) facts.facts_of;
    }

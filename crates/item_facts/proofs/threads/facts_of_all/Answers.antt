use Rattle.std.proofs.Common.{◌≡◌, ◌∙◌, sym, subst, ℕ, List, Option, Some, IsSome}
use Rattle.one_item.specs.declared.item.Item.{Item}
use Rattle.board_items.specs.Boards.{item_at}
use Rattle.rule_pick.specs.declared.facts.Facts.{Facts}
use Rattle.rule_pick.specs.AllFacts.{HasFacts}
use Rattle.rule_pick.specs.ById.{facts_at}
use Rattle.item_facts.specs.FactSlots.{AreFilled}
use Rattle.item_facts.proofs.Filled.{all_found, whole}
use Rattle.item_facts.proofs.threads.facts_of_all.Goals as goal

pub returns-then-have_all : goal.returns-then-have_all
returns-then-have_all g c =
    let board = c.args.sources.now.board.now in
    let classes = c.args.sources.now.classes.now in
    let slots = c.in_ok-slots.slots in
    let filled = c.fill.new.slots in
    let same : AreFilled board classes slots.items filled =
    subst (λ (old : List (Option Facts)). AreFilled board classes old filled) c.deref_mut.ensures.value c.fill.ensures in
    let is : c.of-facts.result ≡ filled = c.of-facts.ensures ∙ whole slots.len slots.items filled same.long slots.ok.0 in
    let all = c.have_all.ensures c.if-have_all.true in
    subst (λ (facts : List (Option Facts)). HasFacts board classes facts) (sym is)
    (all_found board classes slots.items filled same (subst (λ (facts : List (Option Facts)). (id : ℕ) (item : Item) → item_at board.items id ≡ Some item → IsSome (facts_at facts id)) is all))

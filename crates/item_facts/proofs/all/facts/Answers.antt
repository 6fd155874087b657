use Rattle.std.proofs.Common.{Option, Bor, sym, ap, ◌∙◌}
use Rattle.std.proofs.lemmas.Result.{IfOk-weaker}
use Rattle.std.specs.Option.{option_copied}
use Rattle.one_item.specs.declared.item.Item.{Item}
use Rattle.rule_pick.specs.FactsOf.{AreFactsOf, AreFacts}
use Rattle.item_facts.proofs.all.facts.Goals as goal

pub returns : goal.returns
returns c =
    IfOk-weaker c.facts_of.result (λ f. AreFactsOf c.args.board.now c.args.classes.now c.unwrap.result.now f) (λ f. AreFacts c.args.board.now c.args.classes.now c.args.id f)
    (λ f are. record { item = c.unwrap.result.now; stands = sym c.get.ensures.found ∙ ap (λ (o : Option (Bor Item)). option_copied o) c.unwrap.ensures; facts_of = are }) c.facts_of.ensures

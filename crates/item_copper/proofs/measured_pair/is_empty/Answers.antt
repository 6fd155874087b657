use Rattle.std.proofs.Common.{◌≡◌, ◌↔◌, List, [], IsTrue, subst}
use Rattle.one_item.specs.declared.parts.Part.{Part}
use Rattle.item_copper.proofs.SideLists.{of_listed}
use Rattle.item_copper.proofs.measured_pair.is_empty.Goals as goal

pub returns-in-Listed : goal.returns-in-Listed
returns-in-Listed c = subst (λ (ps : List Part). IsTrue c.lists_none.result ↔ (ps ≡ [])) (of_listed c.args.side.now c.in-Listed.listed c.in-Listed.is) c.lists_none.ensures

use Rattle.std.proofs.Common.{ap}
use Rattle.std.proofs.lemmas.Result.{on_ok_weaker}
use Rattle.box_index.specs.Tiles.{PlainIndex}
use Rattle.item_facts.proofs.Marked.{is_marked}
use Rattle.item_facts.proofs.near.put_mark.Goals as goal

pub returns-in-Some : goal.returns-in-Some
returns-in-Some c =
    on_ok_weaker c.insert.result
    (λ e. is_marked c.args.item.now (record { id = c.args.id; bounds = c.in-Some.bounds }) c.args.index.now c.insert.new.self c.requires c.in-Some.ensures.least (ap (λ (i : PlainIndex). i.entries) e))
    c.insert.ensures.ok

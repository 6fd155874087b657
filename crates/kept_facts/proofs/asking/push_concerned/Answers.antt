use Rattle.std.proofs.Common.{Result, Ok, Err, OnOk, subst}
use Rattle.std.specs.Option.{option_copied}
use Rattle.kept_facts.specs.ConcernedItems.{HasOthers}
use Rattle.kept_facts.proofs.Concerns.{concerned}
use Rattle.kept_facts.proofs.asking.push_concerned.Goals as goal

then : {E : Type 0} {P Q : Type 0} (r : Result (Unit {0}) E) → OnOk r P → (P → Q) → OnOk r Q
then (Ok v) h f = f h
then (Err e) h f = tt

pub returns : goal.returns
returns c =
    let board = c.args.board.now in
    let before = option_copied c.args.before in
    let now = option_copied c.args.now in
    let old = c.args.asked.now.items in
    let new = c.push_others.new.asked.items in
    then c.push_others.result c.push_others.ensures
    (λ o. concerned board c.args.index.now c.requires before now _ _ _ c.put_in_order.new.ids.items old new c.in_ok-push_near.ensures c.in_ok-push_near-2.ensures c.put_in_order.ensures
    (subst (λ near. HasOthers board near before now old new) c.deref.ensures.value o))

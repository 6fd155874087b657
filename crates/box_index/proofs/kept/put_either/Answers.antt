use Rattle.std.proofs.Common.{◌∙◌, ◌++◌, ap, List, length, arith}
use Rattle.std.proofs.lemmas.Result.{on_ok_weaker}
use Rattle.box_index.specs.declared.entry.Entry.{Entry}
use Rattle.box_index.specs.BoxSlots.{entry_of, entries_of, far_entries}
use Rattle.box_index.proofs.FarLemmas.{near_placed, behind_placed, placed_far, far_sooner}
use Rattle.box_index.proofs.kept.put_either.Goals as goal

pub returns-then-id-bound-clause-ok : goal.returns-then-id-bound-clause-ok
returns-then-id-bound-clause-ok c =
    let far = c.args.far.now.entries in
    let slots = c.args.slots.now.items in
    on_ok_weaker c.put_near.result (λ put. ap (λ (es : List Entry). es ++ far_entries far) put ∙ near_placed (entry_of c.args.id c.args.sides) c.args.bound (entries_of slots) far c.if-id-bound.true c.requires.far) c.put_near.ensures.ok

pub returns-else-id-bound-clause-ok : goal.returns-else-id-bound-clause-ok
returns-else-id-bound-clause-ok c =
    let far = c.args.far.now.entries in
    let slots = c.args.slots.now.items in
    on_ok_weaker c.put_far.result (λ put. ap (λ (es : List Entry). entries_of slots ++ es) put ∙ behind_placed (entry_of c.args.id c.args.sides) slots (far_entries far) (omega (arith, c.requires.within, c.if-id-bound.false))) c.put_far.ensures.ok

pub returns-else-id-bound-clause-far : goal.returns-else-id-bound-clause-far
returns-else-id-bound-clause-far c =
    let far = c.args.far.now.entries in
    let slots = c.args.slots.now.items in
    placed_far c.put_far.result (length slots) c.args.id c.args.sides far c.put_far.new.far.entries c.put_far.ensures.ok c.put_far.ensures.unchanged (omega (arith, c.requires.within, c.if-id-bound.false))
    (far_sooner c.args.bound (length slots) far c.requires.within c.requires.far)

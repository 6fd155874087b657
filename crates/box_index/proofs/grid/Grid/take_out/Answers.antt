use Rattle.std.proofs.Common.{◌∙◌, sym, subst, ℕ, List}
use Rattle.box_index.specs.declared.shared.Shared.{Shared}
use Rattle.box_index.specs.SharedLists.{AreListsChanged, AreShared, DoMeetAll, IsEntryRemoved}
use Rattle.box_index.proofs.Buckets.{refilled}
use Rattle.box_index.proofs.Changed.{taken_shared}
use Rattle.box_index.proofs.grid.Grid.take_out.Goals as goal

pub take_out_each-requires-clause-all : goal.take_out_each-requires-clause-all
take_out_each-requires-clause-all c = subst (λ (ts : List ℕ). DoMeetAll c.args.area ts c.end_of_walk-end.result) (sym c.deref.ensures.value) c.end_of_walk-end.ensures.all

pub returns-clause-shared : goal.returns-clause-shared
returns-clause-shared c near now k w =
    let tiles = c.args.self.now.tiles.items in
    let lists = c.args.self.now.lists.items in
    let May = λ (list : Shared). Unit {0} in
    let changed = subst (λ (ts : List ℕ). AreListsChanged (IsEntryRemoved c.args.id) May c.args.area ts lists c.take_out_each.new.lists) c.deref.ensures.value
    (subst (λ (ls : List Shared). AreListsChanged (IsEntryRemoved c.args.id) May c.args.area c.deref.result.now ls c.take_out_each.new.lists) c.deref_mut.ensures.value c.take_out_each.ensures) in
    refilled (λ (ls : List Shared). AreShared now tiles ls) c.args.self.now.lists.len c.take_out_each.new.lists _ (c.take_out_each.auto.lists ∙ c.deref_mut.ensures.len)
    (taken_shared c.args.id c.args.area tiles lists c.take_out_each.new.lists near now changed k w)

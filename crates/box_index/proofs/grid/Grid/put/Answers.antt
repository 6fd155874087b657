use Rattle.std.proofs.Common.{◌∙◌, sym, subst, ℕ, List}
use Rattle.box_index.specs.declared.shared.Shared.{Shared}
use Rattle.box_index.specs.Areas.{IsSubarea}
use Rattle.box_index.specs.SharedLists.{AreListsChanged, AreShared, CanTake, DoMeetAll, IsPut}
use Rattle.box_index.proofs.Buckets.{refilled}
use Rattle.box_index.proofs.Changed.{put_shared}
use Rattle.box_index.proofs.grid.Grid.put.Goals as goal

pub put_each-requires-clause-open : goal.put_each-requires-clause-open
put_each-requires-clause-open c =
    subst (λ (ts : List ℕ). CanTake c.args.entry c.args.area ts c.deref_mut.result.now) (sym c.deref.ensures.value)
    (subst (λ (ls : List Shared). CanTake c.args.entry c.args.area c.args.self.now.tiles.items ls) (sym c.deref_mut.ensures.value) c.requires.open)

pub put_each-requires-clause-all : goal.put_each-requires-clause-all
put_each-requires-clause-all c = subst (λ (ts : List ℕ). DoMeetAll c.args.area ts c.end_of_walk-end.result) (sym c.deref.ensures.value) c.end_of_walk-end.ensures.all

pub returns-clause-shared : goal.returns-clause-shared
returns-clause-shared c near now k w =
    let tiles = c.args.self.now.tiles.items in
    let lists = c.args.self.now.lists.items in
    let May = λ (list : Shared). IsSubarea list.home c.args.area in
    let changed = subst (λ (ts : List ℕ). AreListsChanged (IsPut c.args.entry) May c.args.area ts lists c.put_each.new.lists) c.deref.ensures.value
    (subst (λ (ls : List Shared). AreListsChanged (IsPut c.args.entry) May c.args.area c.deref.result.now ls c.put_each.new.lists) c.deref_mut.ensures.value c.put_each.ensures) in
    refilled (λ (ls : List Shared). AreShared now tiles ls) c.args.self.now.lists.len c.put_each.new.lists _ (c.put_each.auto.lists ∙ c.deref_mut.ensures.len)
    (put_shared c.args.entry c.args.area tiles lists c.put_each.new.lists near now changed k w)

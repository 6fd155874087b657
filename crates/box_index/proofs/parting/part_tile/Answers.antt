use Rattle.std.proofs.Common.{◌≡◌, ◌∙◌, ◌<◌, ℕ, List, length, slice_index_or, slice_set, sym, subst, arith}
use Rattle.std.specs.Prelude.{Option, IfSome}
use Rattle.std.proofs.lemmas.List.{get_or_default, get_or_read}
use Rattle.box_index.specs.declared.parting.Parted.{Parted}
use Rattle.box_index.specs.declared.shared.Shared.{Shared}
use Rattle.box_index.specs.SharedLists.{AreHomed, HasMoved, HasCapacity, IsEqual, IsParted}
use Rattle.box_index.proofs.Grids.{moved_with_capacity_left, stay_with_capacity_left, parted_still}
use Rattle.box_index.proofs.parting.part_tile.Goals as goal
use Rattle.box_index.proofs.parting.part_tile.Goals.{in-Some+else-take_made, in_default}

pub returns-in_err-reserve_one-clause-moved : goal.returns-in_err-reserve_one-clause-moved
returns-in_err-reserve_one-clause-moved c =
    let tile = c.args.tile in
    let lists = c.args.lists.now.items in
    let tiles = c.match-parted.tiles in
    let same : tiles ≡ c.args.tiles.now = elim c.match-parted.branch [ in-Some+else-take_made w ↦ w.tiles-is ∙ w.take_made.ensures.left w.if-take_made.false | in_default w ↦ w.tiles-is ] in
    let homed = subst (λ (ts : List ℕ). AreHomed ts lists) (sym same) c.requires.homed in
    let n = slice_index_or tiles tile 0 in
    let low : n < length lists = homed.within tile 0 c.requires.within in
    let at = λ (s : Shared). sym (get_or_read lists n c.index_mut.result.now low c.index_mut.ensures.value s) in
    subst (λ (ts : List ℕ). HasMoved tile ts lists tiles (slice_set lists n c.reserve_one.new.self)) same
    (moved_with_capacity_left tile tiles lists homed c.requires.within n (λ d. get_or_default tiles tile d 0 (let e = homed.long in let l = c.requires.within in omega (arith, e, l))) c.reserve_one.new.self
    (λ s. subst (λ (l : Shared). IsEqual l c.reserve_one.new.self) (sym (at s)) c.reserve_one.ensures.same)
    (λ s r. c.reserve_one.ensures.kept (subst HasCapacity (at s) r)))

pub returns-then-lies_in-clause-moved : goal.returns-then-lies_in-clause-moved
returns-then-lies_in-clause-moved c =
    let tile = c.args.tile in
    let lists = c.args.lists.now.items in
    let tiles = c.match-parted.tiles in
    let same : tiles ≡ c.args.tiles.now = elim c.match-parted.branch [ in-Some+else-take_made w ↦ w.tiles-is ∙ w.take_made.ensures.left w.if-take_made.false | in_default w ↦ w.tiles-is ] in
    let homed = subst (λ (ts : List ℕ). AreHomed ts lists) (sym same) c.requires.homed in
    let n = slice_index_or tiles tile 0 in
    let low : n < length lists = homed.within tile 0 c.requires.within in
    let at = λ (s : Shared). sym (get_or_read lists n c.index_mut.result.now low c.index_mut.ensures.value s) in
    subst (λ (ts : List ℕ). HasMoved tile ts lists tiles (slice_set lists n c.reserve_one.new.self)) same
    (moved_with_capacity_left tile tiles lists homed c.requires.within n (λ d. get_or_default tiles tile d 0 (let e = homed.long in let l = c.requires.within in omega (arith, e, l))) c.reserve_one.new.self
    (λ s. subst (λ (l : Shared). IsEqual l c.reserve_one.new.self) (sym (at s)) c.reserve_one.ensures.same)
    (λ s r. c.reserve_one.ensures.kept (subst HasCapacity (at s) r)))

pub returns-then-lies_in-clause-parted : goal.returns-then-lies_in-clause-parted
returns-then-lies_in-clause-parted c =
    let tile = c.args.tile in
    let lists = c.args.lists.now.items in
    let tiles = c.match-parted.tiles in
    let same : tiles ≡ c.args.tiles.now = elim c.match-parted.branch [ in-Some+else-take_made w ↦ w.tiles-is ∙ w.take_made.ensures.left w.if-take_made.false | in_default w ↦ w.tiles-is ] in
    let homed = subst (λ (ts : List ℕ). AreHomed ts lists) (sym same) c.requires.homed in
    let n = slice_index_or tiles tile 0 in
    let low : n < length lists = homed.within tile 0 c.requires.within in
    let at = λ (s : Shared). sym (get_or_read lists n c.index_mut.result.now low c.index_mut.ensures.value s) in
    let last : c.match-parted.parted ≡ c.args.parted = elim c.match-parted.branch [ in-Some+else-take_made w ↦ w.parted-is ∙ sym w.in-Some.is | in_default w ↦ w.parted-is ] in
    parted_still c.args.area c.match-parted.parted lists (slice_set lists n c.reserve_one.new.self)
    (stay_with_capacity_left tile tiles lists homed c.requires.within n (λ d. get_or_default tiles tile d 0 (let e = homed.long in let l = c.requires.within in omega (arith, e, l))) c.reserve_one.new.self
    (λ s. subst (λ (l : Shared). IsEqual l c.reserve_one.new.self) (sym (at s)) c.reserve_one.ensures.same)
    (λ s r. c.reserve_one.ensures.kept (subst HasCapacity (at s) r))) (subst (λ (p : Option Parted). IfSome p (λ q. IsParted c.args.area q lists)) (sym last) c.requires.parted)

pub make_list-requires-clause-homed : goal.make_list-requires-clause-homed
make_list-requires-clause-homed c =
    let tile = c.args.tile in
    let lists = c.args.lists.now.items in
    let tiles = c.match-parted.tiles in
    let same : tiles ≡ c.args.tiles.now = elim c.match-parted.branch [ in-Some+else-take_made w ↦ w.tiles-is ∙ w.take_made.ensures.left w.if-take_made.false | in_default w ↦ w.tiles-is ] in
    let homed = subst (λ (ts : List ℕ). AreHomed ts lists) (sym same) c.requires.homed in
    homed

use Rattle.std.proofs.Common.{◌≡◌, ◌<◌, ◌∙◌, sym, subst, true, ℕ, List, length, slice_index_or, slice_set, arith}
use Rattle.std.proofs.lemmas.List.{get_or_read, get_or-set_same}
use Rattle.std.proofs.lemmas.Result.{on_ok_weaker}
use Rattle.box_index.specs.declared.area.Area.{Area}
use Rattle.box_index.specs.declared.shared.Shared.{Shared}
use Rattle.box_index.specs.Areas.{has_tile, IsSubarea}
use Rattle.box_index.specs.SharedLists.{AreReady, AreShared, HasCapacity, IsEqual, IsReady}
use Rattle.box_index.proofs.Buckets.{has_within, refilled}
use Rattle.box_index.proofs.grid.Grid.reserve_one.Goals as goal

-- all tiles of the area have the one list that was given room
one_ready : (area : Area) (tiles : List ℕ) (lists : List Shared) (n : ℕ) (x : Shared) → ((tile d : ℕ) → has_tile area tile ≡ true → slice_index_or tiles tile d ≡ n) → n < length lists
    → ((s : Shared) → IsSubarea (slice_index_or lists n s).home area) → ((s : Shared) → IsEqual (slice_index_or lists n s) x) → HasCapacity x → AreReady area tiles (slice_set lists n x)
one_ready area tiles lists n x all low lies same capacity tile d s t =
    subst (λ i. IsReady area (slice_index_or (slice_set lists n x) i s)) (sym (all tile d t))
    (subst (IsReady area) (sym (get_or-set_same lists n x s low)) (record { lies = subst (λ (a : Area). IsSubarea a area) (sym (same s).home) (lies s); capacity = capacity }))

pub returns-then-is_one-clause-ready : goal.returns-then-is_one-clause-ready
returns-then-is_one-clause-ready c =
    let area = c.args.area in
    let tiles = c.args.self.now.tiles.items in
    let lists = c.args.self.now.lists.items in
    let first = c.first.result in
    let n = c.index.result.now in
    let has = c.first.ensures.inside in
    let is = λ (d : ℕ). sym (get_or_read tiles first n (let l = has_within area first has in let e = c.requires.homed.long in omega (arith, l, e)) c.index.ensures d) in
    let low : n < length lists = let w = c.requires.homed.within first 0 (has_within area first has) in let e = is 0 in omega (arith, w, e) in
    let at = λ (s : Shared). get_or_read lists n c.index_mut.result.now low c.index_mut.ensures.value s in
    on_ok_weaker c.reserve_one.result
    (λ capacity. one_ready area tiles lists n c.reserve_one.new.self (λ tile d t. c.is_one.ensures.even c.if-is_one.true tile first d t has ∙ is d) low
    (λ s. subst (λ i. IsSubarea (slice_index_or lists i s).home area) (is 0) (c.is_one.ensures.lies c.if-is_one.true first 0 s has))
    (λ s. subst (λ (l : Shared). IsEqual l c.reserve_one.new.self) (at s) c.reserve_one.ensures.same) capacity)
    c.reserve_one.ensures.capacity

pub returns-then-is_known_even-clause-shared : goal.returns-then-is_known_even-clause-shared
returns-then-is_known_even-clause-shared c =
    λ near k.
    let tiles = c.args.self.now.tiles.items in
    let lists = c.args.self.now.lists.items in
    refilled (λ (ts : List ℕ). AreShared near ts c.part_one.new.lists.items) c.args.self.now.tiles.len c.part_one.new.tiles _ (c.part_one.auto.tiles ∙ c.deref_mut.ensures.len)
    (c.part_one.ensures.shared near (subst (λ (ts : List ℕ). AreShared near ts lists) (sym c.deref_mut.ensures.value) k))

pub returns-clause-shared : goal.returns-clause-shared
returns-clause-shared c =
    λ near k.
    let tiles = c.args.self.now.tiles.items in
    let lists = c.args.self.now.lists.items in
    refilled (λ (ts : List ℕ). AreShared near ts c.part_each.new.lists.items) c.args.self.now.tiles.len c.part_each.new.tiles _ (c.part_each.auto.tiles ∙ c.deref_mut-2.ensures.len)
    (c.part_each.ensures.shared near (subst (λ (ts : List ℕ). AreShared near ts lists) (sym c.deref_mut-2.ensures.value) k))

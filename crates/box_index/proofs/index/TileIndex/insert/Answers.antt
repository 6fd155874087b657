use Rattle.std.proofs.Common.{◌≡◌, ◌+◌, sym, subst, length, List, arith}
use Rattle.box_index.specs.declared.entry.Entry.{Entry}
use Rattle.box_index.specs.Tiles.{PlainIndex, IsSoundIndex, IsAbsent, held_of, is_held, near_of, placed, tile_count}
use Rattle.box_index.specs.SharedLists.{AreShared}
use Rattle.box_index.proofs.Buckets.{index_of, open_lists, put_near, sound_placed, area_tiles}
use Rattle.box_index.proofs.Numbers.{count_within}
use Rattle.box_index.proofs.Vacancies.{held_placed}
use Rattle.box_index.proofs.index.TileIndex.insert.Goals as goal

pub invariant_of-self : goal.invariant_of-self
invariant_of-self c = (c.self.invariant.0, c.reserve_one.ensures.shared (near_of (index_of c.self.inside.reach c.self.inside.boxes)) c.self.invariant.1, c.reserve_one.ensures.even, c.self.invariant.3)

pub invariant_of-self-in_err-put : goal.invariant_of-self-in_err-put
invariant_of-self-in_err-put c =
    let reach = c.self.inside.reach in
    let xs = c.self.inside.boxes in
    let grid = c.reserve_one.new.self in
    let same : c.put.new.self ≡ xs = c.in_err-put.ensures.unchanged in (
      subst (λ (es : List Entry). IsSoundIndex (index_of reach es)) (sym same) c.self.invariant.0,
      subst (λ (es : List Entry). AreShared (near_of (index_of reach es)) grid.tiles.items grid.lists.items) (sym same) (c.reserve_one.ensures.shared (near_of (index_of reach xs)) c.self.invariant.1),
      c.reserve_one.ensures.even,
      subst (λ (es : List Entry). c.self.inside.held ≡ length (held_of (index_of reach es))) (sym same) c.self.invariant.3,
    )

pub vacant-requires-clause-homed : goal.vacant-requires-clause-homed
vacant-requires-clause-homed c = (c.reserve_one.ensures.shared (near_of (index_of c.self.inside.reach c.self.inside.boxes)) c.self.invariant.1).homed

pub overflow_add-self : goal.overflow_add-self
overflow_add-self c =
    let reach = c.self.inside.reach in
    let xs = c.self.inside.boxes in
    let e : Entry = record { id = c.args.id; bounds = c.args.bounds } in
    let absent = subst (λ (p : PlainIndex). IsAbsent c.args.id p.entries) (sym c.self.view_is) c.requires.absent in
    let tiles = area_tiles reach xs c.around-area.result e c.self.invariant.0 c.around-area.ensures in
    let vacant = c.vacant.ensures (near_of (index_of reach xs)) (c.reserve_one.ensures.shared (near_of (index_of reach xs)) c.self.invariant.1) in
    let more = held_placed reach xs e c.around-area.result c.self.inside.held c.vacant.result c.self.invariant.0.rising absent tiles c.self.invariant.3 vacant in
    let few = count_within (is_held (index_of reach (placed e xs))) tile_count in
    omega (arith, more, few)

pub put-requires-2-clause-homed : goal.put-requires-2-clause-homed
put-requires-2-clause-homed c = (c.reserve_one.ensures.shared (near_of (index_of c.self.inside.reach c.self.inside.boxes)) c.self.invariant.1).homed

pub put-requires-2-clause-open : goal.put-requires-2-clause-open
put-requires-2-clause-open c =
    let reach = c.self.inside.reach in
    let xs = c.self.inside.boxes in
    let grid = c.reserve_one.new.self in
    let e : Entry = record { id = c.args.id; bounds = c.args.bounds } in
    let absent = subst (λ (p : PlainIndex). IsAbsent c.args.id p.entries) (sym c.self.view_is) c.requires.absent in
    open_lists reach xs e c.around-area.result grid.tiles.items grid.lists.items c.self.invariant.0 absent (c.reserve_one.ensures.shared (near_of (index_of reach xs)) c.self.invariant.1)

pub invariant_of-self-2 : goal.invariant_of-self-2
invariant_of-self-2 c =
    let reach = c.self.inside.reach in
    let xs = c.self.inside.boxes in
    let grid = c.put-2.new.self in
    let e : Entry = record { id = c.args.id; bounds = c.args.bounds } in
    let absent = subst (λ (p : PlainIndex). IsAbsent c.args.id p.entries) (sym c.self.view_is) c.requires.absent in
    let now : c.put.new.self ≡ placed e xs = c.in_ok-put.ensures.ok in
    let tiles = area_tiles reach xs c.around-area.result e c.self.invariant.0 c.around-area.ensures in
    let before = c.reserve_one.ensures.shared (near_of (index_of reach xs)) c.self.invariant.1 in (
      subst (λ (es : List Entry). IsSoundIndex (index_of reach es)) (sym now) (sound_placed reach xs e c.self.invariant.0 c.requires.bounds),
      subst (λ (es : List Entry). AreShared (near_of (index_of reach es)) grid.tiles.items grid.lists.items) (sym now)
          (c.put-2.ensures.shared (near_of (index_of reach xs)) (near_of (index_of reach (placed e xs))) before (put_near reach xs e c.around-area.result c.self.invariant.0.rising absent tiles)),
      c.put-2.ensures.even,
      subst (λ (es : List Entry). c.self.inside.held + c.vacant.result ≡ length (held_of (index_of reach es))) (sym now)
          (held_placed reach xs e c.around-area.result c.self.inside.held c.vacant.result c.self.invariant.0.rising absent tiles c.self.invariant.3 (c.vacant.ensures (near_of (index_of reach xs)) before)),
    )

use Rattle.std.proofs.Common.{arith}
use Rattle.box_index.specs.Tiles.{near_of}
use Rattle.box_index.proofs.Buckets.{index_of, fits_cut, rising_lists, taken_near, sound_without, area_tiles}
use Rattle.box_index.proofs.Vacancies.{held_taken}
use Rattle.box_index.proofs.index.TileIndex.remove.Goals as goal

pub around-area-requires-clause-bounds : goal.around-area-requires-clause-bounds
around-area-requires-clause-bounds c = fits_cut c.self.inside.reach c.self.inside.boxes c.take_out.new.self c.in-Some.entry c.self.invariant.0 c.in-Some.ensures.found

pub take_out-requires-in-Some-clause-rising : goal.take_out-requires-in-Some-clause-rising
take_out-requires-in-Some-clause-rising c =
    rising_lists c.self.inside.reach c.self.inside.boxes c.around-area.result c.self.inside.grid.tiles.items c.self.inside.grid.lists.items c.self.invariant.0 c.self.invariant.1

pub vacant-requires-clause-homed : goal.vacant-requires-clause-homed
vacant-requires-clause-homed c =
    let reach = c.self.inside.reach in
    let xs = c.self.inside.boxes in
    let ys = c.take_out.new.self in
    let area = c.around-area.result in
    let tiles = area_tiles reach xs area c.in-Some.entry c.self.invariant.0 c.around-area.ensures in
    (c.take_out-in-Some.ensures.shared (near_of (index_of reach xs)) (near_of (index_of reach ys)) c.self.invariant.1
    (taken_near reach xs ys c.args.id c.in-Some.entry area c.in-Some.ensures.found c.in-Some.ensures.entries tiles)).homed

pub overflow_sub-self : goal.overflow_sub-self
overflow_sub-self c =
    let reach = c.self.inside.reach in
    let xs = c.self.inside.boxes in
    let ys = c.take_out.new.self in
    let area = c.around-area.result in
    let tiles = area_tiles reach xs area c.in-Some.entry c.self.invariant.0 c.around-area.ensures in
    let now = c.take_out-in-Some.ensures.shared (near_of (index_of reach xs)) (near_of (index_of reach ys)) c.self.invariant.1
    (taken_near reach xs ys c.args.id c.in-Some.entry area c.in-Some.ensures.found c.in-Some.ensures.entries tiles) in
    let less = held_taken reach xs ys c.in-Some.entry area c.self.inside.held c.vacant.result c.in-Some.ensures.found tiles c.self.invariant.3 (c.vacant.ensures (near_of (index_of reach ys)) now) in
    omega (arith, less)

pub invariant_of-self : goal.invariant_of-self
invariant_of-self c =
    let reach = c.self.inside.reach in
    let xs = c.self.inside.boxes in
    let ys = c.take_out.new.self in
    let area = c.around-area.result in
    let tiles = area_tiles reach xs area c.in-Some.entry c.self.invariant.0 c.around-area.ensures in
    let now = c.take_out-in-Some.ensures.shared (near_of (index_of reach xs)) (near_of (index_of reach ys)) c.self.invariant.1
    (taken_near reach xs ys c.args.id c.in-Some.entry area c.in-Some.ensures.found c.in-Some.ensures.entries tiles) in
    let less = held_taken reach xs ys c.in-Some.entry area c.self.inside.held c.vacant.result c.in-Some.ensures.found tiles c.self.invariant.3 (c.vacant.ensures (near_of (index_of reach ys)) now) in (
      sound_without reach xs ys c.args.id c.self.invariant.0 c.in-Some.ensures.entries,
      now,
      c.take_out-in-Some.ensures.even,
      omega (arith, less),
    )

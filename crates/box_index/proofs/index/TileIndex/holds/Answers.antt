use Rattle.std.proofs.Common.{◌∙◌, ap}
use Rattle.box_index.specs.declared.shared.Shared.{Shared}
use Rattle.box_index.proofs.Buckets.{index_of, held_tile}
use Rattle.box_index.proofs.index.TileIndex.holds.Goals as goal

pub returns : goal.returns
returns c =
    let list = c.at.result.now in
    held_tile (index_of c.self.inside.reach c.self.inside.boxes) c.args.self.now c.args.tile list.entries c.is_empty.result
    (ap (λ (l : Shared). l.entries.items) (c.at.ensures 0 list) ∙ (c.self.invariant.1.each c.args.tile 0 list c.requires).items) c.self.view_is c.is_empty.ensures

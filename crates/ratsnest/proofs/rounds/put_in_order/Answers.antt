use Rattle.std.proofs.Common.{◌≡◌}
use Rattle.std.proofs.lemmas.List.Filters.{dedup_is}
use Rattle.std.specs.List.{dedup}
use Rattle.ratsnest.proofs.Sorting.{link_eq, deduped_sound, deduped_whole, deduped_climbs}
use Rattle.ratsnest.proofs.rounds.put_in_order.Goals as goal

pub returns-clause-climbs : goal.returns-clause-climbs
returns-clause-climbs c =
    let d : c.dedup.new.self.items ≡ dedup link_eq c.sort.new.self.items = dedup_is link_eq c.sort.new.self.items c.dedup.new.self.items c.dedup.ensures.filtered in
    rw d (deduped_climbs c.args.links.now.items c.sort.new.self.items c.in_ok-sort.ensures.permutation c.requires.fits c.in_ok-sort.ensures.sorted)

pub returns-clause-sound : goal.returns-clause-sound
returns-clause-sound c =
    let d : c.dedup.new.self.items ≡ dedup link_eq c.sort.new.self.items = dedup_is link_eq c.sort.new.self.items c.dedup.new.self.items c.dedup.ensures.filtered in
    rw d (deduped_sound c.args.links.now.items c.sort.new.self.items c.in_ok-sort.ensures.permutation)

pub returns-clause-whole : goal.returns-clause-whole
returns-clause-whole c =
    let d : c.dedup.new.self.items ≡ dedup link_eq c.sort.new.self.items = dedup_is link_eq c.sort.new.self.items c.dedup.new.self.items c.dedup.ensures.filtered in
    rw d (deduped_whole c.args.links.now.items c.sort.new.self.items c.in_ok-sort.ensures.permutation)

use Rattle.std.proofs.Common.{rules, ◌≡◌, insert}
use Rattle.ratsnest.specs.Grow.{rank}
use Rattle.ratsnest.proofs.Climbing.{Climbs-insert, Mem-insert, Mem-insert_cases}
use Rattle.ratsnest.proofs.growing.add_link.Goals as goal

pub returns-clause-climbs : goal.returns-clause-climbs
returns-clause-climbs c =
    let e : c.insert.new.self.items ≡ insert c.args.links.now.items c.place_for-place.result c.args.link = search rules in
    rw e (Climbs-insert rank c.args.links.now.items c.place_for-place.result c.args.link c.requires.climbs (rw c.deref.ensures.value at c.place_for-place.ensures.below) (rw c.deref.ensures.value at c.place_for-place.ensures.stop) c.requires.other)

pub returns-clause-whole : goal.returns-clause-whole
returns-clause-whole c =
    let e : c.insert.new.self.items ≡ insert c.args.links.now.items c.place_for-place.result c.args.link = search rules in
    λ l h. rw e (Mem-insert c.args.links.now.items c.place_for-place.result c.args.link l h)

pub returns-clause-sound : goal.returns-clause-sound
returns-clause-sound c =
    let e : c.insert.new.self.items ≡ insert c.args.links.now.items c.place_for-place.result c.args.link = search rules in
    λ l h. Mem-insert_cases c.args.links.now.items c.place_for-place.result c.args.link l (rw e at h)

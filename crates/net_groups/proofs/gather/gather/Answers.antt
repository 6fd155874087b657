use Rattle.std.proofs.Common.{arith, ◌≡◌, ◌<◌, [], length, ◌∙◌, get_or}
use Rattle.std.proofs.lemmas.List.{get_or_read}
use Rattle.net_groups.proofs.Gathering.{gathered_skip, gathered_push}
use Rattle.net_groups.proofs.gather.gather.Goals as goal
use Rattle.net_groups.proofs.gather.gather.Goals.{in-Some+in_ok-push, in_default}

pub loop-place-preserved : goal.loop-place-preserved
loop-place-preserved c = elim c.match-labels-place.branch [
  | in-Some+in_ok-push w ↦
      let below = c.requires.below c.loop-place.place w.in-Some.label w.in-Some.is in
      let inside : w.in-Some.label < length c.loop-place.groups.items = let many = c.loop-place.invariant.count_is in omega arith in
      let old : w.group.inside.members.items ≡ get_or c.loop-place.groups.items w.in-Some.label [] =
      w.group.view_is ∙ get_or_read c.loop-place.groups.items w.in-Some.label w.index_mut-group.result.now inside w.index_mut-group.ensures.value [] in
      rw (w.groups-is, w.in_ok-push.ensures.items, old)
      (gathered_push c.args.count c.args.labels.now c.args.ids.now c.requires.places c.loop-place.place c.loop-place-test.true c.loop-place.groups.items c.loop-place.invariant w.in-Some.label below w.in-Some.is)
  | in_default w ↦
      rw w.groups-is
      (gathered_skip c.args.count c.args.labels.now c.args.ids.now c.requires.places c.loop-place.place c.loop-place-test.true c.loop-place.groups.items c.loop-place.invariant w.in_default.is)
]

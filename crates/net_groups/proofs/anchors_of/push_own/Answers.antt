use Rattle.std.proofs.Common.{refl}
use Rattle.net_groups.proofs.Anchoring.{x_passed, y_passed, end_passed, added_one, added_two}
use Rattle.net_groups.proofs.anchors_of.push_own.Goals as goal

pub returns-in_ok-push-2 : goal.returns-in_ok-push-2
returns-in_ok-push-2 c =
    let item = c.args.item.now in
    let end = c.in-Some.end in
    added_two item c.args.id c.args.group _ _ c.args.anchors.now.items c.push.new.self.items c.push-in-Some.new.self.items refl refl refl (x_passed item c.requires) (y_passed item c.requires)
    refl refl refl (end_passed item end.x end.y end.x_in_range end.y_in_range c.in-Some.ensures) c.in_ok-push.ensures.items c.in_ok-push-2.ensures.items

pub returns-in_default : goal.returns-in_default
returns-in_default c =
    let item = c.args.item.now in
    added_one item c.args.id c.args.group _ c.args.anchors.now.items c.push.new.self.items refl refl refl (x_passed item c.requires) (y_passed item c.requires) c.in_default.ensures
    c.in_ok-push.ensures.items

use Rattle.std.proofs.Common.{◌∙◌, ap, length}
use Rattle.std.proofs.lemmas.List.{with_items_is}
use Rattle.ratsnest.proofs.Waits.{reach_made}
use Rattle.ratsnest.proofs.waiting.reach.Goals as goal

pub returns : goal.returns
returns c =
    let same = with_items_is c.take_out.new.waiting c.draw_to_all.new.waiting (c.draw_to_all.auto.waiting ∙ c.deref_mut.ensures.len) in
    rw same (reach_made c.args.group c.args.waiting.now.items c.take_out.new.joined.items c.take_out.new.waiting.items c.draw_to_all.new.waiting
    c.in_ok-take_out.ensures.all c.in_ok-take_out.ensures.joined c.in_ok-take_out.ensures.rest
    (c.draw_to_all.auto.waiting ∙ ap length c.deref_mut.ensures.value) (rw (c.deref.ensures.value, c.deref_mut.ensures.value) at c.draw_to_all.ensures))

use Rattle.std.proofs.Common.{pos, ◌*ℤ◌, ◌&&◌, sym, ◌∙◌, ap}
use Rattle.std.specs.List.{list_all}
use Rattle.geo_seg.specs.declared.shifts.Shift.{Shift}
use Rattle.geo_seg.specs.Shifts.{core_stays}
use Rattle.one_item.specs.ItemParts.{parts_of}
use Rattle.one_item.proofs.Staying.{item_small}
use Rattle.one_item.proofs.item.Item.stays.Goals as goal

pub doubled-requires-clause-dx : goal.doubled-requires-clause-dx
doubled-requires-clause-dx c = (item_small c.args.step.dx c.args.step.dy c.args.self.now c.requires (sym c.place_stays.ensures ∙ c.if-not-place_stays.false)).0

pub doubled-requires-clause-dy : goal.doubled-requires-clause-dy
doubled-requires-clause-dy c = (item_small c.args.step.dx c.args.step.dy c.args.self.now c.requires (sym c.place_stays.ensures ∙ c.if-not-place_stays.false)).1

pub returns : goal.returns
returns c =
    let near = sym c.place_stays.ensures ∙ c.if-not-place_stays.false in
    c.shapes_stay.ensures ∙ ap (λ (s : Shift). list_all (λ part. core_stays s.dx s.dy part.shape.core) (parts_of c.args.self.now)) c.doubled.ensures
    ∙ sym (ap (λ b. b && list_all (λ part. core_stays (pos 2 *ℤ c.args.step.dx) (pos 2 *ℤ c.args.step.dy) part.shape.core) (parts_of c.args.self.now)) near)

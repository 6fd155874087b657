use Rattle.std.proofs.Common.{refl, sym, subst, ◌∙◌}
use Rattle.one_item.specs.declared.parts.Part.{Part}
use Rattle.one_item.specs.declared.item.What.{What}
use Rattle.one_item.specs.declared.item.What.TheVariants.{Area}
use Rattle.one_item.specs.ItemMoves.{KindIsShifted, IsShiftedPart}
use Rattle.one_item.proofs.item.What.shift.Goals as goal

pub returns-in-Area : goal.returns-in-Area
returns-in-Area c =
    subst (λ (k : What). KindIsShifted c.args.by.dx c.args.by.dy k (Area c.in-Area.title c.in-Area.bans c.shift_part.new.part)) (sym c.in-Area.is)
    (c.shift_part.new.part, refl, subst (λ (p : Part). IsShiftedPart c.args.by.dx c.args.by.dy p c.shift_part.new.part) (c.deref_mut-in-Area.ensures.value ∙ c.shape.view_is) c.shift_part.ensures)

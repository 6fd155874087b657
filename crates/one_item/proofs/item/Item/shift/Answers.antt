use Rattle.std.proofs.Common.{◌≡◌, true, ◌++◌, refl, sym, subst}
use Rattle.std.specs.List.{list_all}
use Rattle.geo_seg.specs.declared.shifts.Shift.{Shift}
use Rattle.geo_seg.specs.Shifts.{core_stays}
use Rattle.one_item.specs.declared.parts.Part.{Part}
use Rattle.one_item.specs.ItemParts.{hole_parts, kind_parts}
use Rattle.one_item.specs.ItemMoves.{AreShifted, HoleIsShifted, KindIsShifted}
use Rattle.one_item.proofs.ShiftedKinds.{lengths_moved}
use Rattle.one_item.proofs.Staying.{all_parts, new_x, new_y, list_all_prefix, list_all_back, small_dx, small_dy}
use Rattle.one_item.proofs.item.Item.shift.Goals as goal

pub doubled-by-requires-clause-dx : goal.doubled-by-requires-clause-dx
doubled-by-requires-clause-dx c = small_dx c.args.step.dx c.args.step.dy c.args.self.now c.requires.on_board c.requires.stays

pub doubled-by-requires-clause-dy : goal.doubled-by-requires-clause-dy
doubled-by-requires-clause-dy c = small_dy c.args.step.dx c.args.step.dy c.args.self.now c.requires.on_board c.requires.stays

pub shift-requires : goal.shift-requires
shift-requires c =
    let item = c.args.self.now in
    subst (λ (s : Shift). list_all (λ (part : Part). core_stays s.dx s.dy part.shape.core) item.copper ≡ true) (sym c.doubled-by.ensures)
    (list_all_prefix _ item.copper (hole_parts item.hole ++ kind_parts item.what) (all_parts c.args.step.dx c.args.step.dy item c.requires.on_board c.requires.stays))

pub shift_hole-requires : goal.shift_hole-requires
shift_hole-requires c =
    let item = c.args.self.now in
    subst (λ (s : Shift). list_all (λ (part : Part). core_stays s.dx s.dy part.shape.core) (hole_parts item.hole) ≡ true) (sym c.doubled-by.ensures)
    (list_all_prefix _ (hole_parts item.hole) (kind_parts item.what) (list_all_back _ item.copper (hole_parts item.hole ++ kind_parts item.what) (all_parts c.args.step.dx c.args.step.dy item c.requires.on_board c.requires.stays)))

pub shift-requires-2 : goal.shift-requires-2
shift-requires-2 c =
    let item = c.args.self.now in
    subst (λ (s : Shift). list_all (λ (part : Part). core_stays s.dx s.dy part.shape.core) (kind_parts item.what) ≡ true) (sym c.doubled-by.ensures)
    (list_all_back _ (hole_parts item.hole) (kind_parts item.what) (list_all_back _ item.copper (hole_parts item.hole ++ kind_parts item.what) (all_parts c.args.step.dx c.args.step.dy item c.requires.on_board c.requires.stays)))

pub invariant_of-self : goal.invariant_of-self
invariant_of-self c = record {
  local_in_range = c.args.self.now.local_in_range;
  what_in_range = lengths_moved c.doubled-by.result.dx c.doubled-by.result.dy c.args.self.now.what c.shift-2.new.self c.shift-2.ensures c.args.self.now.what_in_range;
}

pub returns : goal.returns
returns c =
    let item = c.args.self.now in
    record {
      name = refl;
      unit = refl;
      net = refl;
      x = new_x c.args.step.dx c.args.step.dy item c.requires.on_board c.requires.stays;
      y = new_y c.args.step.dx c.args.step.dy item c.requires.on_board c.requires.stays;
      copper = subst (λ (s : Shift). AreShifted s.dx s.dy item.copper c.shift.new.self) c.doubled-by.ensures c.shift.ensures;
      hole = subst (λ (s : Shift). HoleIsShifted s.dx s.dy item.hole c.shift_hole.new.hole) c.doubled-by.ensures c.shift_hole.ensures;
      local = refl;
      what = subst (λ (s : Shift). KindIsShifted s.dx s.dy item.what c.shift-2.new.self) c.doubled-by.ensures c.shift-2.ensures;
    }

use Rattle.std.proofs.Common.{List, sym, subst}
use Rattle.geo_seg.specs.declared.points.Point.{Point}
use Rattle.geo_seg.specs.declared.runs.TheConstants.{FIRST_RUN, SECOND_RUN, THIRD_RUN, FOURTH_RUN}
use Rattle.geo_seg.specs.PolygonCorners.{IsCornerBox}
use Rattle.geo_seg.specs.Inside.{outline}
use Rattle.geo_seg.proofs.Shifted.{runs_of_shifted, runs_fit, some_stays}
use Rattle.geo_seg.proofs.runs.Indexed.shift.Goals as goal

pub shift_row-requires-clause-fits : goal.shift_row-requires-clause-fits
shift_row-requires-clause-fits c = runs_fit FIRST_RUN c.args.self.now.first.items (outline c.args.self.now.corners.items) c.requires.runs.first

pub shift_row-requires-2-clause-fits : goal.shift_row-requires-2-clause-fits
shift_row-requires-2-clause-fits c = runs_fit SECOND_RUN c.args.self.now.second.items (outline c.args.self.now.corners.items) c.requires.runs.second

pub shift_row-requires-3-clause-fits : goal.shift_row-requires-3-clause-fits
shift_row-requires-3-clause-fits c = runs_fit THIRD_RUN c.args.self.now.third.items (outline c.args.self.now.corners.items) c.requires.runs.third

pub shift_row-requires-4-clause-fits : goal.shift_row-requires-4-clause-fits
shift_row-requires-4-clause-fits c = runs_fit FOURTH_RUN c.args.self.now.fourth.items (outline c.args.self.now.corners.items) c.requires.runs.fourth

pub shift_row-requires-clause-dx : goal.shift_row-requires-clause-dx
shift_row-requires-clause-dx c = (some_stays c.args.by.dx c.args.by.dy c.args.self.now.corners.items c.requires.some c.requires.stays).0

pub shift_row-requires-clause-dy : goal.shift_row-requires-clause-dy
shift_row-requires-clause-dy c = (some_stays c.args.by.dx c.args.by.dy c.args.self.now.corners.items c.requires.some c.requires.stays).1

pub shift_row-requires-2-clause-dx : goal.shift_row-requires-2-clause-dx
shift_row-requires-2-clause-dx c = (some_stays c.args.by.dx c.args.by.dy c.args.self.now.corners.items c.requires.some c.requires.stays).0

pub shift_row-requires-2-clause-dy : goal.shift_row-requires-2-clause-dy
shift_row-requires-2-clause-dy c = (some_stays c.args.by.dx c.args.by.dy c.args.self.now.corners.items c.requires.some c.requires.stays).1

pub shift_row-requires-3-clause-dx : goal.shift_row-requires-3-clause-dx
shift_row-requires-3-clause-dx c = (some_stays c.args.by.dx c.args.by.dy c.args.self.now.corners.items c.requires.some c.requires.stays).0

pub shift_row-requires-3-clause-dy : goal.shift_row-requires-3-clause-dy
shift_row-requires-3-clause-dy c = (some_stays c.args.by.dx c.args.by.dy c.args.self.now.corners.items c.requires.some c.requires.stays).1

pub shift_row-requires-4-clause-dx : goal.shift_row-requires-4-clause-dx
shift_row-requires-4-clause-dx c = (some_stays c.args.by.dx c.args.by.dy c.args.self.now.corners.items c.requires.some c.requires.stays).0

pub shift_row-requires-4-clause-dy : goal.shift_row-requires-4-clause-dy
shift_row-requires-4-clause-dy c = (some_stays c.args.by.dx c.args.by.dy c.args.self.now.corners.items c.requires.some c.requires.stays).1

pub returns-clause-runs : goal.returns-clause-runs
returns-clause-runs c = record {
  whole = subst (IsCornerBox c.shift_outline.new.corners.items) (sym c.of-self.ensures) (subst (λ (cs : List Point). IsCornerBox cs c.box_of.result) c.deref.ensures.value c.box_of.ensures.corners);
  first = runs_of_shifted c.args.by.dx c.args.by.dy FIRST_RUN c.args.self.now.first.items c.shift_row.new.frames.items c.args.self.now.corners.items c.shift_outline.new.corners.items c.shift_row.ensures c.shift_outline.ensures c.requires.runs.first;
  second = runs_of_shifted c.args.by.dx c.args.by.dy SECOND_RUN c.args.self.now.second.items c.shift_row-2.new.frames.items c.args.self.now.corners.items c.shift_outline.new.corners.items c.shift_row-2.ensures c.shift_outline.ensures c.requires.runs.second;
  third = runs_of_shifted c.args.by.dx c.args.by.dy THIRD_RUN c.args.self.now.third.items c.shift_row-3.new.frames.items c.args.self.now.corners.items c.shift_outline.new.corners.items c.shift_row-3.ensures c.shift_outline.ensures c.requires.runs.third;
  fourth = runs_of_shifted c.args.by.dx c.args.by.dy FOURTH_RUN c.args.self.now.fourth.items c.shift_row-4.new.frames.items c.args.self.now.corners.items c.shift_outline.new.corners.items c.shift_row-4.ensures c.shift_outline.ensures c.requires.runs.fourth;
}

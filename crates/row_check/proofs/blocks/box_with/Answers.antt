use Rattle.std.proofs.Common.{List, ◌∷◌, All, subst, pos}
use Rattle.std.proofs.lemmas.List.{take_all}
use Rattle.geo_seg.specs.Boxes.{IsPartOf}
use Rattle.box_index.specs.declared.entry.Entry.{Entry}
use Rattle.row_check.proofs.BlockLists.{more_in_box}
use Rattle.row_check.proofs.blocks.box_with.Goals as goal

abbrev none : Entry
none = record { id = 0; bounds = record { left = pos 0; top = pos 0; right = pos 0; bottom = pos 0 } }

pub loop-entry-preserved : goal.loop-entry-preserved
loop-entry-preserved c =
    more_in_box c.args.first.now c.args.others.now c.loop-entry.entry-index none c.loop-entry.bounds c.union-bounds.result c.loop-entry-test.true c.union-bounds.ensures.least.first c.union-bounds.ensures.least.second c.loop-entry.invariant

pub returns : goal.returns
returns c =
    subst (λ (ys : List Entry). All (λ (e : Entry). IsPartOf e.bounds c.loop-entry.bounds) (c.args.first.now ∷ ys)) (take_all c.loop-entry.entry-index c.args.others.now c.loop-entry-test.false) c.loop-entry.invariant

use Rattle.std.proofs.Common.{◌≡◌, ◌∙◌, ap, sym, ℕ, ◌+◌, ◌<◌, Bool, List, ◌∷◌, ◌++◌, length, get_or, drop, cond, Option, None}
use Rattle.std.proofs.lemmas.List.{drop_more}
use Rattle.copper_layers.specs.declared.set.LayerSet.{LayerSet}
use Rattle.one_item.specs.declared.parts.Part.{Part}
use Rattle.part_read.specs.declared.placements.Placement.{Placement}
use Rattle.part_read.specs.declared.figures.Drawing.{Drawing}
use Rattle.part_read.specs.There.{both, after}
use Rattle.part_read.specs.Figures.{drawn}
use Rattle.pad_read.specs.PadOf.{all_drawn}
use Rattle.pad_read.proofs.copper.draw_all.Goals as goal

next : (layers : LayerSet) (placement : Placement) (ds : List Drawing) (i : ℕ) (d : Drawing) (old new : List Part) (drew : Bool) → i < length ds → d ≡ get_or ds i d
    → ((rest : Option (List Part)) → after old (both (λ ps qs. ps ++ qs) (drawn layers placement d) rest) ≡ cond drew (after new rest) None)
    → after old (all_drawn layers placement (drop i ds)) ≡ cond drew (after new (all_drawn layers placement (drop (i + 1) ds))) None
next layers placement ds i d old new drew less is h =
    ap (λ l. after old (all_drawn layers placement l)) (drop_more ds i d less ∙ ap (λ x. x ∷ drop (i + 1) ds) (sym is)) ∙ h (all_drawn layers placement (drop (i + 1) ds))

pub returns-then-not-branch : goal.returns-then-not-branch
returns-then-not-branch c =
    let step = next c.args.layers c.args.placement c.args.drawings.now c.loop-drawing.drawing-index c.drawing-item.result c.loop-drawing.list.items c.draw_next.new.list.items c.in_ok-draw_next.field-0 c.loop-drawing-test.true c.drawing-item.is c.in_ok-draw_next.ensures in
    sym c.loop-drawing.invariant ∙ rw c.if-not-branch.true at step

pub loop-drawing-preserved : goal.loop-drawing-preserved
loop-drawing-preserved c =
    let step = next c.args.layers c.args.placement c.args.drawings.now c.loop-drawing.drawing-index c.drawing-item.result c.loop-drawing.list.items c.draw_next.new.list.items c.in_ok-draw_next.field-0 c.loop-drawing-test.true c.drawing-item.is c.in_ok-draw_next.ensures in
    sym (rw c.if-not-branch.false at step) ∙ c.loop-drawing.invariant

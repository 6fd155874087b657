use Rattle.std.proofs.Common.{◌≡◌, ◌∙◌, ap, sym, ℕ, ◌+◌, ◌<◌, Bool, List, ◌∷◌, length, get_or, drop, cond, None, Some}
use Rattle.std.proofs.lemmas.List.{drop_more}
use Rattle.one_item.specs.declared.parts.Part.{Part}
use Rattle.part_read.specs.declared.placements.Placement.{Placement}
use Rattle.part_read.specs.declared.figures.Drawing.{Drawing}
use Rattle.part_read.specs.There.{after}
use Rattle.part_read.specs.Figures.{drawn}
use Rattle.pad_read.proofs.Adding.{next_is}
use Rattle.footprint_read.specs.Courtyards.{figure_parts}
use Rattle.footprint_read.proofs.courts.figure_parts.Goals as goal

next : (placement : Placement) (ds : List Drawing) (i : ℕ) (d : Drawing) (old new : List Part) (drew : Bool) → i < length ds → d ≡ get_or ds i d → after old (drawn (record { bits = 0 }) placement d) ≡ cond drew (Some new) None
    → after old (figure_parts placement (drop i ds)) ≡ cond drew (after new (figure_parts placement (drop (i + 1) ds))) None
next placement ds i d old new drew less is h =
    ap (λ l. after old (figure_parts placement l)) (drop_more ds i d less ∙ ap (λ x. x ∷ drop (i + 1) ds) (sym is)) ∙ next_is old new (drawn (record { bits = 0 }) placement d) (figure_parts placement (drop (i + 1) ds)) drew h

pub returns-then-not-branch : goal.returns-then-not-branch
returns-then-not-branch c =
    let step = next c.args.placement c.args.drawings.now c.loop-drawing.drawing-index c.drawing-item.result c.loop-drawing.parts.items c.draw_into.new.list.items c.in_ok-draw_into.field-0 c.loop-drawing-test.true c.drawing-item.is c.in_ok-draw_into.ensures in
    sym (rw c.if-not-branch.true at step) ∙ c.loop-drawing.invariant

pub loop-drawing-preserved : goal.loop-drawing-preserved
loop-drawing-preserved c =
    let step = next c.args.placement c.args.drawings.now c.loop-drawing.drawing-index c.drawing-item.result c.loop-drawing.parts.items c.draw_into.new.list.items c.in_ok-draw_into.field-0 c.loop-drawing-test.true c.drawing-item.is c.in_ok-draw_into.ensures in
    sym (rw c.if-not-branch.false at step) ∙ c.loop-drawing.invariant

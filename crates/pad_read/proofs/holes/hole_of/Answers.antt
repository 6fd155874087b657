use Rattle.std.proofs.Common.{◌≡◌, ◌∙◌, sym, ap, Option, Some, option_map}
use Rattle.std.specs.Prelude.{option_and_then}
use Rattle.geo_seg.specs.declared.shapes.Shape.{Shape}
use Rattle.one_item.specs.declared.item.Hole.{Hole}
use Rattle.pad_read.specs.declared.sizes.Sizes.{Sizes}
use Rattle.pad_read.specs.declared.sizes.RoundedRect.{RoundedRect}
use Rattle.pad_read.specs.PadShapes.{oval_rounded_rect, turned_rounded_rect, rounded_rect_at}
use Rattle.pad_read.specs.PadOf.{hole_by, hole_of}
use Rattle.pad_read.proofs.holes.hole_of.Goals as goal

pub returns-in-Some-hole_with : goal.returns-in-Some-hole_with
returns-in-Some-hole_with c =
    let a = c.args in
    let s = c.in-Some.sizes in
    let rounded_rect : c.turned_rounded_rect-rounded_rect.result ≡ turned_rounded_rect a.quarter (oval_rounded_rect s) =
    c.turned_rounded_rect-rounded_rect.ensures.turned ∙ ap (λ (k : RoundedRect). turned_rounded_rect a.quarter k) c.oval_rounded_rect.ensures.rounded_rect in
    let shape : Some c.in-Some-2.shape ≡ rounded_rect_at a.at (turned_rounded_rect a.quarter (oval_rounded_rect s)) =
    sym c.in-Some-2.is ∙ (c.in_ok-shape.ensures ∙ ap (λ (k : RoundedRect). rounded_rect_at a.at k) rounded_rect) in
    let hole : Some c.in-Some-hole_with.hole ≡ hole_by a.layers a.plated s c.in-Some-2.shape = sym c.in-Some-hole_with.is ∙ c.hole_with.ensures in
    ap (λ (h : Option Hole). option_map (λ x. Some x) h) (hole ∙ ap (λ (o : Option Shape). option_and_then (hole_by a.layers a.plated s) o) shape)
    ∙ ap (λ (o : Option Sizes). hole_of a.layers a.at a.quarter a.plated o) (sym c.in-Some.is)

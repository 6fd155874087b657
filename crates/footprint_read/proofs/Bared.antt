-- Courtyards lie on no layer.
use Rattle.std.proofs.Common.{◌≡◌, refl, sym, subst, List, [], ◌∷◌, ◌++◌, map, Some}
use Rattle.std.proofs.lemmas.List.Elements.{All-nil, All-cons, All-append}
use Rattle.geo_seg.specs.declared.points.Point.{Point}
use Rattle.geo_seg.specs.declared.shapes.Core.{Core}
use Rattle.one_item.specs.declared.parts.Part.{Part}
use Rattle.part_read.specs.declared.placements.Placement.{Placement}
use Rattle.part_read.specs.declared.radii.Radius.{Radius}
use Rattle.part_read.specs.declared.figures.Drawing.{Drawing}
use Rattle.part_read.specs.Figures.{cores_of, radius_of, radius_with, around, parts_around, drawn}
use Rattle.part_read.proofs.There.{both_some}
use Rattle.footprint_read.specs.declared.sides.CourtSide.{CourtSide}
use Rattle.footprint_read.specs.declared.courts.Court.{Court}
use Rattle.footprint_read.specs.declared.courts.Court.TheVariants.{Unchecked, Parts, Off}
use Rattle.footprint_read.specs.Bare.{AreBare}
use Rattle.footprint_read.specs.Courtyards.{figure_parts, outline_part, parts_in, IsCourt}

abbrev pub IsBare : Part → Type 0
IsBare part = part.layers.bits ≡ 0

around_bare : (r : Radius) (cores : List Core) → AreBare (parts_around (record { bits = 0 }) r cores)
around_bare r [] = All-nil IsBare
around_bare r (c ∷ cores) = All-cons IsBare (record { layers = record { bits = 0 }; shape = around r c }) (parts_around (record { bits = 0 }) r cores) refl (around_bare r cores)

figures_bare : (placement : Placement) (drawings : List Drawing) (parts : List Part) → figure_parts placement drawings ≡ Some parts → AreBare parts
figures_bare placement [] parts h = let same : [] ≡ parts = cc in subst (λ (x : List Part). AreBare x) same (All-nil IsBare)
figures_bare placement (d ∷ ds) parts h =
    let k = both_some (λ (ps qs : List Part). ps ++ qs) (drawn (record { bits = 0 }) placement d) (figure_parts placement ds) parts h in
    let m = both_some (parts_around (record { bits = 0 })) (radius_of (radius_with d.width d.figure)) (cores_of placement d.filled d.figure) k.0 k.2 in
    subst (λ (x : List Part). AreBare x) (sym k.4) (All-append IsBare k.0 k.1 (subst (λ (x : List Part). AreBare x) (sym m.4) (around_bare m.0 m.1)) (figures_bare placement ds k.1 k.3))

outlines_bare : (polys : List (List Point)) → AreBare (map outline_part polys)
outlines_bare [] = All-nil IsBare
outlines_bare (p ∷ ps) = All-cons IsBare (outline_part p) (map outline_part ps) refl (outlines_bare ps)

pub court_bare : (placement : Placement) (side : CourtSide) (court : Court) → IsCourt placement side court → AreBare (parts_in court)
court_bare placement side Unchecked h = All-nil IsBare
court_bare placement side Off h = All-nil IsBare
court_bare placement side (Parts parts) h =
    let p = h.1 in
    subst (λ (x : List Part). AreBare x) (sym p.all) (All-append IsBare p.drawn (map outline_part p.polys) (figures_bare placement side.drawings p.drawn p.of_figures) (outlines_bare p.polys))

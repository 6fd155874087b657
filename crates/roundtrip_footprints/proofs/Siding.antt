-- What lists on the layer of a courtyard give their side, in a footprint that is moved.
use Rattle.std.proofs.Common.{◌≡◌, ◌∙◌, refl, sym, ap, subst, ℕ, Bool, true, false, ◌||◌, List, [], ◌∷◌, ◌++◌, map, length, codes, Option, None, Some, Result, Ok, Err}
use Rattle.std.specs.Prelude.{nat_le, if◌then◌else◌}
use Rattle.std.specs.List.{AllZip, list_any}
use Rattle.std.proofs.lemmas.List.{map-append}
use Rattle.sexpr_read.specs.Tree.{Forest, none, atom, list, Tree, leaf, branch, trees, parts}
use Rattle.board_errors.specs.declared.errors.BoardError.{BoardError}
use Rattle.board_errors.specs.declared.errors.BoardError.TheVariants.{Missing}
use Rattle.part_read.specs.declared.numbers.RawPoint.{RawPoint}
use Rattle.part_read.specs.declared.placements.Placement.{Placement}
use Rattle.part_read.specs.declared.figures.Figure.TheVariants.{Outline as OutlineFigure}
use Rattle.part_read.specs.declared.drawings.GraphicKind.{GraphicKind}
use Rattle.part_read.specs.declared.drawings.GraphicKind.TheVariants.{Line, Rect, Circle, Outline}
use Rattle.list_read.specs.FirstRefusals.{◌>>=◌, needed}
use Rattle.list_read.specs.ListHeads.{place, has_head}
use Rattle.list_read.specs.NamedElements.{element}
use Rattle.part_read.specs.BoardNumbers.{raw_point_at, raw_point_of}
use Rattle.part_read.specs.Drawings.{raw_points_among}
use Rattle.part_read.specs.Placements.{stood}
use Rattle.footprint_read.specs.declared.sides.CourtSide.{CourtSide}
use Rattle.footprint_read.specs.declared.sides.RawSegment.{RawSegment}
use Rattle.footprint_read.specs.Courtyards.{empty_side, side_then, curve_side, figure_side, line_side, rect_side, circle_side, raw_points_side, has_arc, outline_side, graphic_side}
use Rattle.roundtrip_lists.specs.Translated.{Shift, Translated}
use Rattle.roundtrip_lists.specs.Agreeing.{Agrees, Same, FoundTranslated, forest_in}
use Rattle.roundtrip_lists.specs.Moved.{IsMovedRawPoint, moved_raw_point}
use Rattle.roundtrip_lists.proofs.Elements.{agrees_bind, heads_translated}
use Rattle.roundtrip_lists.proofs.Corners.{parts_translated}
use Rattle.roundtrip_lists.proofs.Steps.{same_bind, parts_are, element_in}
use Rattle.roundtrip_footprints.specs.MovedHeads.{moved_placement}
use Rattle.roundtrip_footprints.proofs.Parts.{PlainParts, inside, needed_step, raw_point_plain}
use Rattle.roundtrip_footprints.proofs.Forms.{same_raw_points}
use Rattle.roundtrip_footprints.proofs.Standing.{stood_moved}

-- ---- a side that is moved: its lines stand on the board, and its figures in the footprint

abbrev pub moved_course : Shift → RawSegment → RawSegment
moved_course d line = record { a = moved_raw_point d line.a; b = moved_raw_point d line.b }

abbrev pub moved_side : Shift → CourtSide → CourtSide
moved_side d side = record side { lines = map (moved_course d) side.lines }

module _ (d : Shift) where
  abbrev pub SideMoved : CourtSide → CourtSide → Type 0
  SideMoved x y = y ≡ moved_side d x

  raw_point_same : (word : List ℕ) (t u : Tree) → PlainParts t u → Agrees Same (raw_point_of word t) (raw_point_of word u)
  raw_point_same word t u h = needed_step Same word t u raw_point_at raw_point_at h raw_point_plain

  line_moved : (placement : Placement) (t u : Tree) → PlainParts t u → Agrees SideMoved (line_side placement t) (line_side (moved_placement d placement) u)
  unfolding line_side
  line_moved placement t u h =
      same_bind SideMoved (raw_point_of (codes "start") t) (raw_point_of (codes "start") u) _ _ (raw_point_same (codes "start") t u h) (λ a.
      same_bind SideMoved (raw_point_of (codes "end") t) (raw_point_of (codes "end") u) _ _ (raw_point_same (codes "end") t u h) (λ b.
      ap (λ (z : RawPoint). record empty_side { lines = record { a = z; b = stood (moved_placement d placement) b } ∷ [] }) (stood_moved d placement a)
      ∙ ap (λ (z : RawPoint). record empty_side { lines = record { a = moved_raw_point d (stood placement a); b = z } ∷ [] }) (stood_moved d placement b)))

  rect_moved : (t u : Tree) → PlainParts t u → Agrees SideMoved (rect_side t) (rect_side u)
  unfolding rect_side
  rect_moved t u h =
      same_bind SideMoved (raw_point_of (codes "start") t) (raw_point_of (codes "start") u) _ _ (raw_point_same (codes "start") t u h) (λ a.
      same_bind SideMoved (raw_point_of (codes "end") t) (raw_point_of (codes "end") u) _ _ (raw_point_same (codes "end") t u h) (λ b. refl))

  circle_moved : (t u : Tree) → PlainParts t u → Agrees SideMoved (circle_side t) (circle_side u)
  unfolding circle_side
  circle_moved t u h =
      same_bind SideMoved (raw_point_of (codes "center") t) (raw_point_of (codes "center") u) _ _ (raw_point_same (codes "center") t u h) (λ a.
      same_bind SideMoved (raw_point_of (codes "end") t) (raw_point_of (codes "end") u) _ _ (raw_point_same (codes "end") t u h) (λ b. refl))

  raw_points_moved : (t u : Tree) (curved : Bool) (raw_points : List RawPoint) → Agrees SideMoved (raw_points_side t curved raw_points) (raw_points_side u curved raw_points)
  raw_points_moved t u curved raw_points = by_tests curved (nat_le 3 (length raw_points))
    where
      side_by : Tree → Bool → Bool → Result CourtSide BoardError
      side_by t curved many =
          if curved then Ok curve_side
          else if many then Ok (figure_side (OutlineFigure raw_points))
          else Err (Missing (place t))

      by_tests : (curved many : Bool) → Agrees SideMoved (side_by t curved many) (side_by u curved many)
      by_tests true many = refl
      by_tests false true = refl
      by_tests false false = tt

  any_arc : (f g : Forest) → Translated None f g → list_any (has_head (codes "arc")) (trees g) ≡ list_any (has_head (codes "arc")) (trees f)
  any_arc none none h = refl
  any_arc none (atom t r e rest) h = absurd h
  any_arc none (list t within rest) h = absurd h
  any_arc (atom s q c others) none h = absurd h
  any_arc (atom s q c others) (list t within rest) h = absurd h
  any_arc (list s i others) none h = absurd h
  any_arc (list s i others) (atom t r e rest) h = absurd h
  any_arc (atom s q c others) (atom t r e rest) h =
      ap (λ (b : Bool). b || list_any (has_head (codes "arc")) (trees rest)) (sym (heads_translated None (leaf s q c) (leaf t r e) (codes "arc") (h.0, h.1))) ∙ ap (λ (b : Bool). has_head (codes "arc") (leaf s q c) || b) (any_arc others rest h.2)
  any_arc (list s i others) (list t j rest) h =
      ap (λ (b : Bool). b || list_any (has_head (codes "arc")) (trees rest)) (sym (heads_translated None (branch s i) (branch t j) (codes "arc") h.0)) ∙ ap (λ (b : Bool). has_head (codes "arc") (branch s i) || b) (any_arc others rest h.1)

  arc_same : (t u : Tree) → PlainParts t u → has_arc u ≡ has_arc t
  arc_same t u h =
      ap (list_any (has_head (codes "arc"))) (parts_are u) ∙ any_arc (forest_in t) (forest_in u) h ∙ sym (ap (list_any (has_head (codes "arc"))) (parts_are t))

  outline_moved : (t u : Tree) → PlainParts t u → Agrees SideMoved (outline_side t) (outline_side u)
  unfolding outline_side
  outline_moved t u h = by_found (element (codes "pts") t) (element (codes "pts") u) (element_in None (codes "pts") t u h)
    where
      of_list : Tree → Result CourtSide BoardError
      of_list t = raw_points_among true (parts t) >>= λ raw_points. raw_points_side t (has_arc t) raw_points

      by_found : (o p : Option Tree) → FoundTranslated None (has_head (codes "pts")) o p → Agrees SideMoved (needed (Missing (place t)) o >>= of_list) (needed (Missing (place u)) p >>= of_list)
      by_found None None k = tt
      by_found None (Some y) k = absurd k
      by_found (Some x) None k = absurd k
      by_found (Some x) (Some y) k =
          agrees_bind (AllZip (IsMovedRawPoint None)) SideMoved (raw_points_among true (parts x)) (raw_points_among true (parts y)) _ _ (parts_translated None true x y (inside x y k.0)) (λ ss ts m.
          subst (λ (l : List RawPoint). Agrees SideMoved (raw_points_side x (has_arc x) ss) (raw_points_side y (has_arc y) l)) (sym (same_raw_points ss ts m))
          (subst (λ (b : Bool). Agrees SideMoved (raw_points_side x (has_arc x) ss) (raw_points_side y b ss)) (sym (arc_same x y (inside x y k.0))) (raw_points_moved x y (has_arc x) ss)))

  pub graphic_moved : (placement : Placement) (kind : GraphicKind) (t u : Tree) → PlainParts t u → Agrees SideMoved (graphic_side placement kind t) (graphic_side (moved_placement d placement) kind u)
  graphic_moved placement Line t u h = line_moved placement t u h
  graphic_moved placement Rect t u h = rect_moved t u h
  graphic_moved placement Circle t u h = circle_moved t u h
  graphic_moved placement Outline t u h = outline_moved t u h

  pub sides_moved : (a b p q : CourtSide) → SideMoved a p → SideMoved b q → SideMoved (side_then a b) (side_then p q)
  sides_moved a b p q h k =
      ap (λ (s : CourtSide). side_then s q) h
      ∙ ap (side_then (moved_side d a)) k
      ∙ ap (λ (l : List RawSegment). record { curved = a.curved || b.curved; drawings = a.drawings ++ b.drawings; lines = l }) (sym (map-append (moved_course d) a.lines b.lines))

-- The forms of pads whose lists are the same but for spans.
use Rattle.std.proofs.Common.{◌≡◌, ◌∙◌, refl, sym, ap, subst, ℕ, ℤ, pos, Bool, true, false, ◌||◌, not, List, [], ◌∷◌, ◌++◌, codes, Option, None, Some, Result, Ok, Err}
use Rattle.std.specs.Prelude.{if◌then◌else◌}
use Rattle.std.specs.List.{AllZip}
use Rattle.exact_dec.specs.declared.DecError.{DecError}
use Rattle.exact_dec.specs.Computed.{ratio_near_answer}
use Rattle.sexpr_read.specs.Tree.{Forest, none, atom, list, Tree, leaf, branch, trees, parts, content}
use Rattle.board_errors.specs.declared.errors.BoardError.{BoardError}
use Rattle.board_errors.specs.declared.errors.BoardError.TheVariants.{BadNumber, PadShape, Arc, Ring}
use Rattle.part_read.specs.declared.numbers.RawPoint.{RawPoint}
use Rattle.part_read.specs.declared.figures.Figure.{Figure}
use Rattle.part_read.specs.declared.figures.Figure.TheVariants.{Line, Rect, Circle, Outline}
use Rattle.part_read.specs.declared.figures.Drawing.{Drawing}
use Rattle.part_read.specs.declared.drawings.GraphicKind.{GraphicKind}
use Rattle.part_read.specs.declared.drawings.GraphicKind.TheVariants.{Line as LineKind, Rect as RectKind, Circle as CircleKind, Outline as OutlineKind}
use Rattle.list_read.specs.FirstRefusals.{◌>>=◌, needed}
use Rattle.list_read.specs.ListHeads.{place, is_value, is_text, has_head}
use Rattle.list_read.specs.NamedElements.{element}
use Rattle.part_read.specs.BoardNumbers.{read_as}
use Rattle.part_read.specs.Circles.{radius_between}
use Rattle.part_read.specs.Figures.{is_ring}
use Rattle.part_read.specs.Drawings.{drawing_of}
use Rattle.pad_read.specs.declared.sizes.Sizes.{Sizes}
use Rattle.pad_read.specs.declared.sizes.RoundedRect.{RoundedRect}
use Rattle.pad_read.specs.declared.pads.PadWord.{PadWord}
use Rattle.pad_read.specs.declared.pads.PadWord.TheVariants.{Circle as Disc, Rect as Box, Oval, RoundRect, Custom}
use Rattle.pad_read.specs.declared.forms.Form.{Form}
use Rattle.pad_read.specs.PadSizes.{least_of}
use Rattle.pad_read.specs.PadShapes.{circle_rounded_rect, rect_rounded_rect, least_number, share_of, ratio_in, round_radius}
use Rattle.pad_read.specs.CustomPads.{anchor_by_word, anchor_of, primitive_kind, primitive_by, primitives_among, primitives_of}
use Rattle.pad_read.specs.PadOf.{form_of}
use Rattle.roundtrip_lists.specs.Translated.{Translated}
use Rattle.roundtrip_lists.specs.Agreeing.{Agrees, Same, SameAtom, forest_in}
use Rattle.roundtrip_lists.specs.Moved.{IsMovedRawPoint}
use Rattle.roundtrip_lists.proofs.Elements.{agrees_bind, given_or_translated, heads_translated, same_value, same_content}
use Rattle.roundtrip_lists.specs.Drawn.{FigureRead, DrawingRead}
use Rattle.roundtrip_lists.proofs.Drawings.{drawing_translated}
use Rattle.roundtrip_lists.proofs.Graphics.{ring_same}
use Rattle.roundtrip_lists.proofs.Steps.{agrees_check, parts_are, element_in, inner_found, same_bind}
use Rattle.roundtrip_footprints.proofs.Parts.{Plain, PlainParts, inside, atom_step, given_step}

-- ---- drawings that are read again

pub same_raw_points : (ss ts : List RawPoint) → AllZip (IsMovedRawPoint None) ss ts → ts ≡ ss
same_raw_points [] [] h = refl
same_raw_points [] (t ∷ ts) h = absurd h
same_raw_points (s ∷ ss) [] h = absurd h
same_raw_points (s ∷ ss) (t ∷ ts) h = ap (λ (z : RawPoint). z ∷ ts) h.0 ∙ ap (λ (l : List RawPoint). s ∷ l) (same_raw_points ss ts h.1)

pub same_figure : (figure other : Figure) → FigureRead None figure other → other ≡ figure
same_figure (Line a b) (Line c e) h = ap (λ (z : RawPoint). Line z e) h.0 ∙ ap (λ (z : RawPoint). Line a z) h.1
same_figure (Line a b) (Rect c e) h = absurd h
same_figure (Line a b) (Circle c r) h = absurd h
same_figure (Line a b) (Outline ts) h = absurd h
same_figure (Rect a b) (Line c e) h = absurd h
same_figure (Rect a b) (Rect c e) h = ap (λ (z : RawPoint). Rect z e) h.0 ∙ ap (λ (z : RawPoint). Rect a z) h.1
same_figure (Rect a b) (Circle c r) h = absurd h
same_figure (Rect a b) (Outline ts) h = absurd h
same_figure (Circle a q) (Line c e) h = absurd h
same_figure (Circle a q) (Rect c e) h = absurd h
same_figure (Circle a q) (Circle c r) h =
    ap (λ (z : RawPoint). Circle z r) h.centers
    ∙ ap (λ (z : ℤ). Circle a z) (h.new_is ∙ ap (λ (z : RawPoint). radius_between z h.new_end) h.centers ∙ ap (λ (z : RawPoint). radius_between a z) h.ends ∙ sym h.is)
same_figure (Circle a q) (Outline ts) h = absurd h
same_figure (Outline ss) (Line c e) h = absurd h
same_figure (Outline ss) (Rect c e) h = absurd h
same_figure (Outline ss) (Circle c r) h = absurd h
same_figure (Outline ss) (Outline ts) h = ap (λ (l : List RawPoint). Outline l) (same_raw_points ss ts h.each)

pub same_drawing : (x y : Drawing) → DrawingRead None x y → y ≡ x
same_drawing x y h = h.is ∙ ap (λ (z : Figure). record x { figure = z }) (same_figure x.figure h.figure h.figures)

-- ---- the radius of a rounded rectangle

share_plain : (size : ℤ) (a b : Tree) → SameAtom a b → Agrees Same (share_of size a) (share_of size b)
unfolding share_of
share_plain size a b h =
    subst (λ (o : Option (List ℕ)). Agrees Same (by_content (place a) (content a)) (by_content (place b) o)) (same_content a b h) (by_text (content a))
  where
    by_content : ℕ → Option (List ℕ) → Result ℤ BoardError
    by_content at o = needed (BadNumber at) o >>= λ text. read_as (BadNumber at) (ratio_near_answer text (least_number size (pos 500000000)))

    by_answer : (r : Result ℤ DecError) → Agrees Same (read_as (BadNumber (place a)) r) (read_as (BadNumber (place b)) r)
    by_answer (Ok n) = refl
    by_answer (Err e) = tt

    by_text : (o : Option (List ℕ)) → Agrees Same (by_content (place a) o) (by_content (place b) o)
    by_text None = tt
    by_text (Some text) = by_answer (ratio_near_answer text (least_number size (pos 500000000)))

round_plain : (s : Sizes) (t u : Tree) → PlainParts t u → Agrees Same (round_radius s t) (round_radius s u)
unfolding round_radius
round_plain s t u h =
    let least = least_of s in
    given_step Same (codes "roundrect_rratio") (pos 0) (pos 0) _ _ t u h refl (λ x y k.
    atom_step Same 1 x y (ratio_in least) (ratio_in least) k (λ a b m. same_bind Same (share_of least a) (share_of least b) _ _ (share_plain least a b m) (λ share. refl)))

-- ---- anchors

anchor_word_plain : (t u : Tree) (s : Sizes) (a b : Tree) → SameAtom a b → Agrees Same (anchor_by_word t s a) (anchor_by_word u s b)
anchor_word_plain t u s a b h =
    subst (λ (v : Option (List ℕ)). Agrees Same (anchor_by_word t s a) (by_words u (is_value v (codes "circle")) (is_value v (codes "rect")))) (same_value a b h) (by_tests (is_text a (codes "circle")) (is_text a (codes "rect")))
  where
    by_words : Tree → Bool → Bool → Result RoundedRect BoardError
    by_words pad circle rect = if circle then Ok (circle_rounded_rect s) else if rect then Ok (rect_rounded_rect s) else Err (PadShape (place pad))

    by_tests : (circle rect : Bool) → Agrees Same (by_words t circle rect) (by_words u circle rect)
    by_tests true rect = refl
    by_tests false true = refl
    by_tests false false = tt

anchor_plain : (s : Sizes) (t u : Tree) → PlainParts t u → Agrees Same (anchor_of s t) (anchor_of s u)
unfolding anchor_of
anchor_plain s t u h =
    given_or_translated Same None (has_head (codes "anchor")) (circle_rounded_rect s) (circle_rounded_rect s) _ _ _ _
    (inner_found None (codes "options") (codes "anchor") (element (codes "options") t) (element (codes "options") u) refl (element_in None (codes "options") t u h)) refl
    (λ x y k e. atom_step Same 1 x y (anchor_by_word t s) (anchor_by_word u s) (inside x y k) (λ a b m. anchor_word_plain t u s a b m))

-- ---- primitives

abbrev pub AreRead : List Drawing → List Drawing → Type 0
AreRead ds es = AllZip (DrawingRead None) ds es

kind_plain : (t u : Tree) → Plain t u → primitive_kind u ≡ primitive_kind t
kind_plain t u h =
    ap (λ (b : Bool). by_heads b (has_head (codes "gr_rect") u) (has_head (codes "gr_circle") u) (has_head (codes "gr_poly") u)) (sym (heads_translated None t u (codes "gr_line") h))
    ∙ ap (λ (b : Bool). by_heads (has_head (codes "gr_line") t) b (has_head (codes "gr_circle") u) (has_head (codes "gr_poly") u)) (sym (heads_translated None t u (codes "gr_rect") h))
    ∙ ap (λ (b : Bool). by_heads (has_head (codes "gr_line") t) (has_head (codes "gr_rect") t) b (has_head (codes "gr_poly") u)) (sym (heads_translated None t u (codes "gr_circle") h))
    ∙ ap (λ (b : Bool). by_heads (has_head (codes "gr_line") t) (has_head (codes "gr_rect") t) (has_head (codes "gr_circle") t) b) (sym (heads_translated None t u (codes "gr_poly") h))
  where
    by_heads : Bool → Bool → Bool → Bool → Option GraphicKind
    by_heads line rect circle outline =
        if line then Some LineKind
        else if rect then Some RectKind
        else if circle then Some CircleKind
        else if outline then Some OutlineKind
        else None

drawing_plain : (kind : GraphicKind) (t u : Tree) → Plain t u → primitive_kind t ≡ Some kind → Agrees (DrawingRead None) (drawing_of kind t) (drawing_of kind u)
unfolding has_head
drawing_plain kind (leaf s q c) u h e = absurd cc
drawing_plain kind (branch s i) (leaf r p e) h k = absurd h
drawing_plain kind (branch s i) (branch r j) h k = drawing_translated None i j s r h kind

curves_plain : (t u : Tree) → Plain t u → (has_head (codes "gr_arc") u || has_head (codes "gr_curve") u) ≡ (has_head (codes "gr_arc") t || has_head (codes "gr_curve") t)
curves_plain t u h =
    ap (λ (b : Bool). b || has_head (codes "gr_curve") u) (sym (heads_translated None t u (codes "gr_arc") h)) ∙ ap (λ (b : Bool). has_head (codes "gr_arc") t || b) (sym (heads_translated None t u (codes "gr_curve") h))

primitive_plain : (pad new t u : Tree) → Plain t u → Agrees AreRead (primitive_by pad t (primitive_kind t)) (primitive_by new u (primitive_kind u))
primitive_plain pad new t u h = subst (λ (o : Option GraphicKind). Agrees AreRead (primitive_by pad t (primitive_kind t)) (primitive_by new u o)) (sym (kind_plain t u h)) (by_kind (primitive_kind t) refl)
  where
    by_curve : (b c : Bool) → c ≡ b → Agrees AreRead (if b then Err (Arc (place t)) else Ok []) (if c then Err (Arc (place u)) else Ok [])
    by_curve true c e = tt
    by_curve false true e = absurd cc
    by_curve false false e = tt

    rings : (x y : Drawing) → DrawingRead None x y → not (is_ring y) ≡ not (is_ring x)
    rings x y k = ap (λ (z : Drawing). not (is_ring z)) k.is ∙ ap not (ring_same None x.figure k.figure x.width x.filled k.figures)

    by_kind : (o : Option GraphicKind) → primitive_kind t ≡ o → Agrees AreRead (primitive_by pad t o) (primitive_by new u o)
    by_kind None e = by_curve (has_head (codes "gr_arc") t || has_head (codes "gr_curve") t) (has_head (codes "gr_arc") u || has_head (codes "gr_curve") u) (curves_plain t u h)
    by_kind (Some kind) e =
        agrees_bind (DrawingRead None) AreRead (drawing_of kind t) (drawing_of kind u) _ _ (drawing_plain kind t u h e)
        (λ x y k. agrees_check AreRead (not (is_ring x)) (not (is_ring y)) (Ring (place pad)) (Ring (place new)) _ _ (rings x y k) (λ solid. (k, tt)))

zip_append : (ds es fs gs : List Drawing) → AreRead ds es → AreRead fs gs → AreRead (ds ++ fs) (es ++ gs)
zip_append [] [] fs gs h k = k
zip_append [] (e ∷ es) fs gs h k = absurd h
zip_append (d ∷ ds) [] fs gs h k = absurd h
zip_append (d ∷ ds) (e ∷ es) fs gs h k = (h.0, zip_append ds es fs gs h.1 k)

among_plain : (pad new : Tree) (f g : Forest) → Translated None f g → Agrees AreRead (primitives_among pad (trees f)) (primitives_among new (trees g))
among_plain pad new none none h = tt
among_plain pad new none (atom t r e rest) h = absurd h
among_plain pad new none (list t within rest) h = absurd h
among_plain pad new (atom s q c others) none h = absurd h
among_plain pad new (atom s q c others) (list t within rest) h = absurd h
among_plain pad new (list s i others) none h = absurd h
among_plain pad new (list s i others) (atom t r e rest) h = absurd h
among_plain pad new (atom s q c others) (atom t r e rest) h =
    agrees_bind AreRead AreRead (primitive_by pad (leaf s q c) (primitive_kind (leaf s q c))) (primitive_by new (leaf t r e) (primitive_kind (leaf t r e))) _ _ (primitive_plain pad new (leaf s q c) (leaf t r e) (h.0, h.1))
    (λ ds es k. agrees_bind AreRead AreRead (primitives_among pad (trees others)) (primitives_among new (trees rest)) _ _ (among_plain pad new others rest h.2) (λ fs gs l. zip_append ds es fs gs k l))
among_plain pad new (list s i others) (list t j rest) h =
    agrees_bind AreRead AreRead (primitive_by pad (branch s i) (primitive_kind (branch s i))) (primitive_by new (branch t j) (primitive_kind (branch t j))) _ _ (primitive_plain pad new (branch s i) (branch t j) h.0)
    (λ ds es k. agrees_bind AreRead AreRead (primitives_among pad (trees others)) (primitives_among new (trees rest)) _ _ (among_plain pad new others rest h.1) (λ fs gs l. zip_append ds es fs gs k l))

primitives_plain : (t u : Tree) → PlainParts t u → Agrees AreRead (primitives_of t) (primitives_of u)
unfolding primitives_of
primitives_plain t u h =
    given_step AreRead (codes "primitives") [] [] _ _ t u h tt (λ x y k.
    subst (λ (ts : List Tree). Agrees AreRead (primitives_among t ts) (primitives_among u (parts y))) (sym (parts_are x))
    (subst (λ (us : List Tree). Agrees AreRead (primitives_among t (trees (forest_in x))) (primitives_among u us)) (sym (parts_are y)) (among_plain t u (forest_in x) (forest_in y) k)))

-- ---- forms

-- the same rounded rectangle, and primitives that are read again
pub record FormAgain (f g : Form) : Type 0 where
  pub rounded_rect : g.rounded_rect ≡ f.rounded_rect
  pub primitives : AreRead f.primitives g.primitives

pub form_plain : (word : PadWord) (s : Sizes) (t u : Tree) → PlainParts t u → Agrees FormAgain (form_of word s t) (form_of word s u)
form_plain Disc s t u h = record { rounded_rect = refl; primitives = tt }
form_plain Box s t u h = record { rounded_rect = refl; primitives = tt }
form_plain Oval s t u h = record { rounded_rect = refl; primitives = tt }
form_plain RoundRect s t u h = same_bind FormAgain (round_radius s t) (round_radius s u) _ _ (round_plain s t u h) (λ r. record { rounded_rect = refl; primitives = tt })
form_plain Custom s t u h =
    same_bind FormAgain (anchor_of s t) (anchor_of s u) _ _ (anchor_plain s t u h) (λ anchor.
    agrees_bind AreRead FormAgain (primitives_of t) (primitives_of u) _ _ (primitives_plain t u h) (λ ds es k. record { rounded_rect = refl; primitives = k }))

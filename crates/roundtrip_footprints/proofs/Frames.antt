-- The frames of pads whose lists are the same but for spans.
use Rattle.std.proofs.Common.{◌≡◌, refl, sym, ap, subst, ℕ, pos, Bool, true, false, not, List, codes, Option, None, Some, Result}
use Rattle.std.specs.Prelude.{slice_get, if◌then◌else◌}
use Rattle.sexpr_read.specs.Tree.{Tree, parts}
use Rattle.board_errors.specs.declared.errors.BoardError.{BoardError}
use Rattle.board_errors.specs.declared.errors.BoardError.TheVariants.{Missing, Turned, PadShape}
use Rattle.part_read.specs.declared.numbers.RawPoint.{RawPoint}
use Rattle.part_read.specs.declared.placements.Placement.{Placement}
use Rattle.list_read.specs.FirstRefusals.{◌>>=◌, needed}
use Rattle.list_read.specs.ListHeads.{place, is_value, is_text, has_head}
use Rattle.list_read.specs.NamedElements.{element}
use Rattle.part_read.specs.ElementResults.{given_or, atom_of, atom_or}
use Rattle.part_read.specs.BoardNumbers.{length_in, size_in, raw_point_at}
use Rattle.part_read.specs.Placements.{stood}
use Rattle.pad_read.specs.declared.sizes.Sizes.{Sizes}
use Rattle.pad_read.specs.declared.pads.PadType.{PadType}
use Rattle.pad_read.specs.declared.pads.PadType.TheVariants.{ThruHole, Smd, Connect, NpThruHole}
use Rattle.pad_read.specs.declared.pads.PadWord.{PadWord}
use Rattle.pad_read.specs.declared.pads.PadWord.TheVariants.{Circle, Rect, Oval, RoundRect, Custom}
use Rattle.pad_read.specs.declared.pads.Frame.{Frame}
use Rattle.pad_read.specs.LocalPlacements.{angle_by, local_placement_at, local_placement_of, clearance_of}
use Rattle.pad_read.specs.PadSizes.{sizes_at, sizes_of, oval_sizes, round_sizes, drilled_by, no_offset, drilling_at, no_drilling, drilling_of}
use Rattle.pad_read.specs.PadFrames.{type_by, type_of, word_by, word_of, is_there, quarter_of, frame_of}
use Rattle.roundtrip_lists.specs.Agreeing.{Agrees, Same, SameAtom, FoundTranslated}
use Rattle.roundtrip_lists.proofs.Elements.{given_or_translated, same_value}
use Rattle.roundtrip_lists.proofs.Numbers.{size_in_translated}
use Rattle.roundtrip_lists.proofs.Steps.{agrees_check, element_in, same_bind, needed_same}
use Rattle.roundtrip_footprints.proofs.Parts.{PlainParts, inside, PartsFound, part_found, atom_step, needed_step, given_step, raw_point_plain, length_plain, atom_or_plain}

-- ---- placements and clearances

pub angle_plain : (o p : Option Tree) → PartsFound o p → Agrees Same (angle_by o) (angle_by p)
angle_plain o p h = atom_or_plain Same (pos 0) length_in length_in o p h refl length_plain

local_placement_at_plain : (t u : Tree) → PlainParts t u → Agrees Same (local_placement_at t) (local_placement_at u)
unfolding local_placement_at
local_placement_at_plain t u h =
    same_bind Same (raw_point_at t) (raw_point_at u) _ _ (raw_point_plain t u h) (λ s.
    same_bind Same (angle_by (slice_get (parts t) 3)) (angle_by (slice_get (parts u) 3)) _ _ (angle_plain (slice_get (parts t) 3) (slice_get (parts u) 3) (part_found t u 3 h)) (λ a. refl))

pub local_placement_plain : (t u : Tree) → PlainParts t u → Agrees Same (local_placement_of t) (local_placement_of u)
local_placement_plain t u h = needed_step Same (codes "at") t u local_placement_at local_placement_at h local_placement_at_plain

pub clearance_found : (o p : Option Tree) → FoundTranslated None (has_head (codes "clearance")) o p → Agrees Same (given_or (pos 0) (λ list. atom_of 1 list >>= length_in) o) (given_or (pos 0) (λ list. atom_of 1 list >>= length_in) p)
clearance_found o p h = given_or_translated Same None (has_head (codes "clearance")) (pos 0) (pos 0) _ _ o p h refl (λ x y k e. atom_step Same 1 x y length_in length_in (inside x y k) length_plain)

pub clearance_plain : (t u : Tree) → PlainParts t u → Agrees Same (clearance_of t) (clearance_of u)
unfolding clearance_of
clearance_plain t u h = clearance_found (element (codes "clearance") t) (element (codes "clearance") u) (element_in None (codes "clearance") t u h)

-- ---- sizes and drills

sizes_at_plain : (t u : Tree) → PlainParts t u → Agrees Same (sizes_at t) (sizes_at u)
unfolding sizes_at
sizes_at_plain t u h =
    atom_step Same 1 t u _ _ h (λ a b m. same_bind Same (size_in a) (size_in b) _ _ (size_in_translated a b m) (λ w.
    atom_step Same 2 t u _ _ h (λ c e n. same_bind Same (size_in c) (size_in e) _ _ (size_in_translated c e n) (λ v. refl))))

sizes_plain : (t u : Tree) → PlainParts t u → Agrees Same (sizes_of t) (sizes_of u)
sizes_plain t u h = needed_step Same (codes "size") t u sizes_at sizes_at h sizes_at_plain

oval_plain : (t u : Tree) → PlainParts t u → Agrees Same (oval_sizes t) (oval_sizes u)
unfolding oval_sizes
oval_plain t u h =
    atom_step Same 2 t u _ _ h (λ a b m. same_bind Same (size_in a) (size_in b) _ _ (size_in_translated a b m) (λ w.
    same_bind Same (atom_or w size_in (slice_get (parts t) 3)) (atom_or w size_in (slice_get (parts u) 3)) _ _
    (atom_or_plain Same w size_in size_in (slice_get (parts t) 3) (slice_get (parts u) 3) (part_found t u 3 h) refl size_in_translated) (λ v. refl)))

drilled_plain : (t u : Tree) (o p : Option Tree) → PlainParts t u → PartsFound o p → Agrees Same (drilled_by t o) (drilled_by u p)
drilled_plain t u o p h k =
    atom_or_plain Same None _ _ o p k refl (λ a b m.
    same_bind Same (by_word t a (is_text a (codes "oval"))) (by_word u b (is_text b (codes "oval"))) _ _
    (subst (λ (z : Bool). Agrees Same (by_word t a (is_text a (codes "oval"))) (by_word u b z)) (ap (λ v. is_value v (codes "oval")) (same_value a b m)) (by_test a b m (is_text a (codes "oval")))) (λ s. refl))
  where
    by_word : Tree → Tree → Bool → Result Sizes BoardError
    by_word list a oval = if oval then oval_sizes list else round_sizes a

    by_test : (a b : Tree) → SameAtom a b → (oval : Bool) → Agrees Same (by_word t a oval) (by_word u b oval)
    by_test a b m true = oval_plain t u h
    by_test a b m false = same_bind Same (size_in a) (size_in b) _ _ (size_in_translated a b m) (λ d. refl)

drilling_at_plain : (t u : Tree) → PlainParts t u → Agrees Same (drilling_at t) (drilling_at u)
unfolding drilling_at
drilling_at_plain t u h =
    same_bind Same (drilled_by t (slice_get (parts t) 1)) (drilled_by u (slice_get (parts u) 1)) _ _ (drilled_plain t u (slice_get (parts t) 1) (slice_get (parts u) 1) h (part_found t u 1 h)) (λ s.
    same_bind Same (given_or no_offset raw_point_at (element (codes "offset") t)) (given_or no_offset raw_point_at (element (codes "offset") u)) _ _ (given_step Same (codes "offset") no_offset no_offset raw_point_at raw_point_at t u h refl raw_point_plain) (λ o. refl))

drilling_plain : (t u : Tree) → PlainParts t u → Agrees Same (drilling_of t) (drilling_of u)
drilling_plain t u h = given_step Same (codes "drill") no_drilling no_drilling drilling_at drilling_at t u h refl drilling_at_plain

-- ---- words

abbrev type_word : Option (List ℕ) → Option PadType
type_word v =
    if is_value v (codes "thru_hole") then Some ThruHole
    else if is_value v (codes "smd") then Some Smd
    else if is_value v (codes "connect") then Some Connect
    else if is_value v (codes "np_thru_hole") then Some NpThruHole
    else None

type_plain : (t u : Tree) → PlainParts t u → Agrees Same (type_of t) (type_of u)
type_plain t u h = atom_step Same 2 t u _ _ h (λ a b m. needed_same (Missing (place t)) (Missing (place u)) (type_by a) (type_by b) (ap type_word (sym (same_value a b m))))

abbrev shape_word : Option (List ℕ) → Option PadWord
shape_word v =
    if is_value v (codes "circle") then Some Circle
    else if is_value v (codes "rect") then Some Rect
    else if is_value v (codes "oval") then Some Oval
    else if is_value v (codes "roundrect") then Some RoundRect
    else if is_value v (codes "custom") then Some Custom
    else None

there_plain : (o p : Option Tree) → FoundTranslated None (has_head (codes "chamfer")) o p → not (is_there p) ≡ not (is_there o)
there_plain None None h = refl
there_plain None (Some y) h = absurd h
there_plain (Some x) None h = absurd h
there_plain (Some x) (Some y) h = refl

word_plain : (t u : Tree) → PlainParts t u → Agrees Same (word_of t) (word_of u)
unfolding word_of
word_plain t u h =
    atom_step Same 3 t u _ _ h (λ a b m.
    same_bind Same (needed (PadShape (place t)) (word_by a)) (needed (PadShape (place u)) (word_by b)) _ _ (needed_same (PadShape (place t)) (PadShape (place u)) (word_by a) (word_by b) (ap shape_word (sym (same_value a b m)))) (λ w.
    agrees_check Same (not (is_there (element (codes "chamfer") t))) (not (is_there (element (codes "chamfer") u))) (PadShape (place t)) (PadShape (place u)) _ _
    (there_plain (element (codes "chamfer") t) (element (codes "chamfer") u) (element_in None (codes "chamfer") t u h)) (λ e. refl)))

-- ---- frames

-- the same frame, but for where it stands
pub record FrameAgain (placement new : Placement) (f g : Frame) : Type 0 where
  pub raw_point : RawPoint
  pub at : f.at ≡ stood placement raw_point
  pub is : g ≡ record f { at = stood new raw_point }

pub frame_plain : (placement new : Placement) (t u : Tree) → PlainParts t u → Agrees (FrameAgain placement new) (frame_of placement t) (frame_of new u)
unfolding frame_of
frame_plain placement new t u h =
    let Again = FrameAgain placement new in
    same_bind Again (type_of t) (type_of u) _ _ (type_plain t u h) (λ type.
    same_bind Again (word_of t) (word_of u) _ _ (word_plain t u h) (λ word.
    same_bind Again (local_placement_of t) (local_placement_of u) _ _ (local_placement_plain t u h) (λ local_placement.
    same_bind Again (sizes_of t) (sizes_of u) _ _ (sizes_plain t u h) (λ sizes.
    same_bind Again (drilling_of t) (drilling_of u) _ _ (drilling_plain t u h) (λ drilling.
    same_bind Again (needed (Turned (place t)) (quarter_of word drilling type local_placement.angle)) (needed (Turned (place u)) (quarter_of word drilling type local_placement.angle)) _ _
    (needed_same (Turned (place t)) (Turned (place u)) (quarter_of word drilling type local_placement.angle) (quarter_of word drilling type local_placement.angle) refl) (λ quarter.
    record { raw_point = local_placement.at; at = refl; is = refl }))))))

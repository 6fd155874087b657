-- A refusal of what is read stands in the text: pads.
use Rattle.std.proofs.Common.{ℕ, ℤ, pos, ◌||◌, not, List, [], ◌∷◌, codes, Option, None, Some, option_and_then, Result, Ok, Err}
use Rattle.std.specs.Prelude.{slice_get}
use Rattle.exact_dec.specs.Computed.{ratio_near_answer}
use Rattle.sexpr_read.specs.Tree.{Tree, parts, content, is_list}
use Rattle.board_errors.specs.declared.errors.BoardError.{BoardError}
use Rattle.board_errors.specs.declared.errors.BoardError.TheVariants.{Missing, BadNumber, OutOfBoard, Arc, Turned, PadShape, Ring}
use Rattle.board_items.specs.Boards.{PlainBoard}
use Rattle.part_read.specs.declared.placements.Placement.{Placement}
use Rattle.part_read.specs.declared.drawings.GraphicKind.{GraphicKind}
use Rattle.list_read.specs.FirstRefusals.{needed, check}
use Rattle.list_read.specs.ListHeads.{place, is_text, has_head}
use Rattle.list_read.specs.NamedElements.{element}
use Rattle.part_read.specs.ElementResults.{in_needed, given_or, atom_or}
use Rattle.part_read.specs.BoardNumbers.{length_in, size_in, raw_point_at}
use Rattle.part_read.specs.BoardLayers.{layers_named}
use Rattle.part_read.specs.NetsOf.{net_of}
use Rattle.part_read.specs.Figures.{is_ring}
use Rattle.part_read.specs.Drawings.{drawing_of}
use Rattle.pad_read.specs.declared.sizes.Sizes.{Sizes}
use Rattle.pad_read.specs.declared.pads.PadWord.{PadWord}
use Rattle.pad_read.specs.declared.pads.PadWord.TheVariants.{Circle, Rect, Oval, RoundRect, Custom}
use Rattle.pad_read.specs.declared.head.Head.{Head}
use Rattle.pad_read.specs.LocalPlacements.{angle_by, local_placement_at, local_placement_of, clearance_of}
use Rattle.pad_read.specs.PadSizes.{least_of, sizes_at, sizes_of, oval_sizes, round_sizes, drilled_by, no_offset, drilling_at, no_drilling, drilling_of}
use Rattle.pad_read.specs.PadShapes.{circle_rounded_rect, least_number, share_of, ratio_in, round_radius}
use Rattle.pad_read.specs.PadFrames.{type_by, type_of, word_by, word_of, is_there, quarter_of, frame_of}
use Rattle.pad_read.specs.CustomPads.{anchor_by_word, anchor_of, primitive_kind, primitive_by, primitives_among, primitives_of}
use Rattle.pad_read.specs.PadOf.{form_of, pad_of}
use Rattle.pcb_read.specs.ShortTrees.{IsShort, AllShort}
use Rattle.pcb_read.proofs.Nearness.{Near, ShortIf, step, by_test, near_needed, near_check, near_place, parts_short, get_short, near_element, of_atom, in_one, in_or, of_element, inner_short, near_read, near_length, near_size, near_raw_point, near_layers, near_net, near_drawing}

in_atom_or : {A : Type 0} → (otherwise : A) (read : Tree → Result A BoardError) (found : Option Tree) → ShortIf found → ((a : Tree) → IsShort a → Near (read a)) → Near (atom_or otherwise read found)
in_atom_or otherwise read found k f = in_or otherwise _ found k (λ a h. by_test (is_list a) (Ok otherwise) (read a) tt (f a h))

-- ---- placements and clearances

near_angle : (o : Option Tree) → ShortIf o → Near (angle_by o)
near_angle o h = in_atom_or (pos 0) length_in o h near_length

near_local_placement_at : (t : Tree) → IsShort t → Near (local_placement_at t)
unfolding local_placement_at
near_local_placement_at t h =
    step (raw_point_at t) _ (near_raw_point t h) (λ s. step (angle_by (slice_get (parts t) 3)) _ (near_angle (slice_get (parts t) 3) (get_short (parts t) 3 (parts_short t h))) (λ a. tt))

pub near_local_placement : (t : Tree) → IsShort t → Near (local_placement_of t)
near_local_placement t h = in_one local_placement_at t (element (codes "at") t) h (near_element (codes "at") t h) near_local_placement_at

pub near_clearance : (t : Tree) → IsShort t → Near (clearance_of t)
unfolding clearance_of
near_clearance t h = of_element (codes "clearance") (pos 0) _ t h (λ s k. of_atom 1 s length_in k near_length)

-- ---- sizes and drills

near_sizes_at : (t : Tree) → IsShort t → Near (sizes_at t)
unfolding sizes_at
near_sizes_at t h = of_atom 1 t _ h (λ a s. step (size_in a) _ (near_size a s) (λ w. of_atom 2 t _ h (λ b u. step (size_in b) _ (near_size b u) (λ v. tt))))

near_sizes : (t : Tree) → IsShort t → Near (sizes_of t)
near_sizes t h = in_one sizes_at t (element (codes "size") t) h (near_element (codes "size") t h) near_sizes_at

near_oval : (t : Tree) → IsShort t → Near (oval_sizes t)
unfolding oval_sizes
near_oval t h =
    of_atom 2 t _ h (λ a s. step (size_in a) _ (near_size a s) (λ w. step (atom_or w size_in (slice_get (parts t) 3)) _ (in_atom_or w size_in (slice_get (parts t) 3) (get_short (parts t) 3 (parts_short t h)) near_size) (λ v. tt)))

near_drilled : (list : Tree) (o : Option Tree) → IsShort list → ShortIf o → Near (drilled_by list o)
near_drilled list o h k =
    in_atom_or None _ o k (λ t l. step _ _ (by_test (is_text t (codes "oval")) (oval_sizes list) (round_sizes t) (near_oval list h) (step (size_in t) _ (near_size t l) (λ d. tt))) (λ s. tt))

near_drilling_at : (t : Tree) → IsShort t → Near (drilling_at t)
unfolding drilling_at
near_drilling_at t h =
    step (drilled_by t (slice_get (parts t) 1)) _ (near_drilled t (slice_get (parts t) 1) h (get_short (parts t) 1 (parts_short t h))) (λ s.
    step (given_or no_offset raw_point_at (element (codes "offset") t)) _ (of_element (codes "offset") no_offset raw_point_at t h near_raw_point) (λ o. tt))

near_drilling : (t : Tree) → IsShort t → Near (drilling_of t)
near_drilling t h = of_element (codes "drill") no_drilling drilling_at t h near_drilling_at

-- ---- frames

near_type : (t : Tree) → IsShort t → Near (type_of t)
near_type t h = of_atom 2 t _ h (λ a s. near_needed (Missing (place t)) (type_by a) (near_place t h))

near_word : (t : Tree) → IsShort t → Near (word_of t)
unfolding word_of
near_word t h =
    of_atom 3 t _ h (λ a s.
    step (needed (PadShape (place t)) (word_by a)) _ (near_needed (PadShape (place t)) (word_by a) (near_place t h)) (λ w.
    step (check (PadShape (place t)) (not (is_there (element (codes "chamfer") t)))) _ (near_check (PadShape (place t)) (not (is_there (element (codes "chamfer") t))) (near_place t h)) (λ u. tt)))

near_frame : (placement : Placement) (t : Tree) → IsShort t → Near (frame_of placement t)
unfolding frame_of
near_frame placement t h =
    step (type_of t) _ (near_type t h) (λ type.
    step (word_of t) _ (near_word t h) (λ word.
    step (local_placement_of t) _ (near_local_placement t h) (λ local_placement.
    step (sizes_of t) _ (near_sizes t h) (λ sizes.
    step (drilling_of t) _ (near_drilling t h) (λ drilling.
    step (needed (Turned (place t)) (quarter_of word drilling type local_placement.angle)) _ (near_needed (Turned (place t)) (quarter_of word drilling type local_placement.angle) (near_place t h)) (λ q. tt))))))

-- ---- forms

near_share : (size : ℤ) (a : Tree) → IsShort a → Near (share_of size a)
unfolding share_of
near_share size a h =
    step (needed (BadNumber (place a)) (content a)) _ (near_needed (BadNumber (place a)) (content a) (near_place a h)) (λ text.
    near_read (BadNumber (place a)) (ratio_near_answer text (least_number size (pos 500000000))) (near_place a h))

near_ratio : (least : ℤ) (a : Tree) → IsShort a → Near (ratio_in least a)
near_ratio least a h = step (share_of least a) _ (near_share least a h) (λ share. tt)

near_round : (s : Sizes) (t : Tree) → IsShort t → Near (round_radius s t)
unfolding round_radius
near_round s t h = of_element (codes "roundrect_rratio") (pos 0) _ t h (λ r k. of_atom 1 r (ratio_in (least_of s)) k (near_ratio (least_of s)))

near_anchor_word : (pad : Tree) (s : Sizes) (a : Tree) → IsShort pad → Near (anchor_by_word pad s a)
near_anchor_word pad s a h = by_test (is_text a (codes "circle")) _ _ tt (by_test (is_text a (codes "rect")) _ _ tt (near_place pad h))

near_anchor : (s : Sizes) (pad : Tree) → IsShort pad → Near (anchor_of s pad)
unfolding anchor_of
near_anchor s pad h =
    in_or (circle_rounded_rect s) _ (option_and_then (element (codes "anchor")) (element (codes "options") pad)) (inner_short (codes "anchor") (element (codes "options") pad) (near_element (codes "options") pad h))
    (λ t k. of_atom 1 t (anchor_by_word pad s) k (λ a u. near_anchor_word pad s a h))

near_primitive : (pad t : Tree) (o : Option GraphicKind) → IsShort pad → IsShort t → Near (primitive_by pad t o)
near_primitive pad t (Some kind) h k =
    step (drawing_of kind t) _ (near_drawing kind t k) (λ d. step (check (Ring (place pad)) (not (is_ring d))) _ (near_check (Ring (place pad)) (not (is_ring d)) (near_place pad h)) (λ u. tt))
near_primitive pad t None h k = by_test (has_head (codes "gr_arc") t || has_head (codes "gr_curve") t) (Err (Arc (place t))) (Ok []) (near_place t k) tt

near_primitives_among : (pad : Tree) (ts : List Tree) → IsShort pad → AllShort ts → Near (primitives_among pad ts)
near_primitives_among pad [] h k = tt
near_primitives_among pad (t ∷ ts) h k =
    step (primitive_by pad t (primitive_kind t)) _ (near_primitive pad t (primitive_kind t) h k.0) (λ first. step (primitives_among pad ts) _ (near_primitives_among pad ts h k.1) (λ others. tt))

near_primitives : (pad : Tree) → IsShort pad → Near (primitives_of pad)
unfolding primitives_of
near_primitives pad h = of_element (codes "primitives") [] _ pad h (λ t k. near_primitives_among pad (parts t) h (parts_short t k))

near_form : (word : PadWord) (s : Sizes) (t : Tree) → IsShort t → Near (form_of word s t)
near_form Circle s t h = tt
near_form Rect s t h = tt
near_form Oval s t h = tt
near_form RoundRect s t h = step (round_radius s t) _ (near_round s t h) (λ r. tt)
near_form Custom s t h = step (anchor_of s t) _ (near_anchor s t h) (λ a. step (primitives_of t) _ (near_primitives t h) (λ p. tt))

-- ---- the whole

pub near_pad : (board : PlainBoard) (unit : ℕ) (head : Head) (t : Tree) → IsShort t → Near (pad_of board unit head t)
unfolding pad_of
near_pad board unit head t h =
    of_atom 1 t _ h (λ number s.
    step (frame_of head.placement t) _ (near_frame head.placement t h) (λ frame.
    step (in_needed (layers_named board.copper) t (element (codes "layers") t)) _ (in_one (layers_named board.copper) t (element (codes "layers") t) h (near_element (codes "layers") t h) (near_layers board.copper)) (λ layers.
    step (form_of frame.word frame.sizes t) _ (near_form frame.word frame.sizes t h) (λ form.
    step (net_of board t) _ (near_net board t h) (λ net.
    step (clearance_of t) _ (near_clearance t h) (λ own.
    near_needed (OutOfBoard (place t)) _ (near_place t h)))))))

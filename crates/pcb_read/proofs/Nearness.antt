-- A refusal of what is read stands in the text: what is read of elements, numbers, layers, nets and drawings.
use Rattle.std.proofs.Common.{◌≡◌, sym, subst, ◌≤◌, ℕ, zero, suc, pos, Bool, true, false, ◌||◌, ◌&&◌, not, List, [], ◌∷◌, length, find, cond, codes, Option, None, Some, option_and_then, Result, Ok, Err, is_some}
use Rattle.std.specs.Option.{option_or}
use Rattle.std.specs.Prelude.{slice_get, int_le, nat_le, if◌then◌else◌}
use Rattle.exact_dec.specs.declared.DecError.{DecError}
use Rattle.exact_dec.specs.Computed.{mm_cut_answer, count_answer}
use Rattle.sexpr_read.specs.Tree.{Forest, none, atom, list, Tree, leaf, branch, trees, parts, content, is_list}
use Rattle.board_errors.specs.declared.errors.BoardError.{BoardError}
use Rattle.board_errors.specs.declared.errors.BoardError.TheVariants.{Missing, BadNumber, Arc, UnknownNet, UnknownLayer}
use Rattle.copper_layers.specs.declared.set.LayerSet.{LayerSet}
use Rattle.one_item.specs.declared.item.Item.{Item}
use Rattle.board_items.specs.Boards.{PlainBoard, name_of}
use Rattle.copper_layers.specs.Layers.{has_layer}
use Rattle.part_read.specs.declared.numbers.RawPoint.{RawPoint}
use Rattle.part_read.specs.declared.drawings.GraphicKind.{GraphicKind}
use Rattle.part_read.specs.declared.drawings.GraphicKind.TheVariants.{Line, Rect, Circle, Outline}
use Rattle.list_read.specs.FirstRefusals.{◌>>=◌, needed, check}
use Rattle.list_read.specs.ListHeads.{place, has_head}
use Rattle.list_read.specs.NamedElements.{element}
use Rattle.part_read.specs.ElementResults.{in_needed, given_or, in_given, atom_among, atom_of}
use Rattle.part_read.specs.BoardNumbers.{read_as, length_in, size_in, number_in, raw_point_at, raw_point_of, size_at, size_of}
use Rattle.part_read.specs.BoardLayers.{each_set, layer_number, ends_in_cu, layer_by, layer_in, copper_by, copper_in, layer_at, layer_of, layers_through, is_all_copper, is_outer, named, layers_named, drawn_on}
use Rattle.part_read.specs.NetsOf.{declared_in, net_of}
use Rattle.part_read.specs.Drawings.{raw_points_among, enough, corners_in, corners_of, width_list, width_of, fill_of, line_drawing, rect_drawing, circle_drawing, outline_drawing, drawing_of}
use Rattle.pcb_read.specs.BoardRefusalPlaces.{IsPlacedInText}
use Rattle.pcb_read.specs.ShortTrees.{AreShort, IsShort, AllShort}

-- ---- answers

abbrev pub Near : {A : Type 0} → Result A BoardError → Type 0
Near (Ok x) = Unit {0}
Near (Err e) = IsPlacedInText e

-- what is found is short
abbrev pub NearShort : Result Tree BoardError → Type 0
NearShort (Ok t) = IsShort t
NearShort (Err e) = IsPlacedInText e

abbrev pub ShortIf : Option Tree → Type 0
ShortIf None = Unit {0}
ShortIf (Some t) = IsShort t

pub near_same : {r answer : Result (List Item) BoardError} → answer ≡ r → Near r → Near answer
near_same e h = subst (λ (x : Result (List Item) BoardError). Near x) (sym e) h

pub step : {A B : Type 0} → (r : Result A BoardError) (f : A → Result B BoardError) → Near r → ((x : A) → Near (f x)) → Near (r >>= f)
step (Ok x) f h k = k x
step (Err e) f h k = h

pub with_tree : {B : Type 0} → (r : Result Tree BoardError) (f : Tree → Result B BoardError) → NearShort r → ((t : Tree) → IsShort t → Near (f t)) → Near (r >>= f)
with_tree (Ok t) f h k = k t h
with_tree (Err e) f h k = h

pub by_test : {A : Type 0} → (b : Bool) (x y : Result A BoardError) → Near x → Near y → Near (if b then x else y)
by_test true x y h k = h
by_test false x y h k = k

pub near_needed : {A : Type 0} → (e : BoardError) (o : Option A) → IsPlacedInText e → Near (needed e o)
near_needed e None h = h
near_needed e (Some x) h = tt

pub needed_short : (e : BoardError) (o : Option Tree) → IsPlacedInText e → ShortIf o → NearShort (needed e o)
needed_short e None h k = h
needed_short e (Some t) h k = k

pub near_check : (e : BoardError) (b : Bool) → IsPlacedInText e → Near (check e b)
near_check e true h = tt
near_check e false h = h

-- ---- trees

pub near_place : (t : Tree) → IsShort t → place t ≤ 33554432
near_place (leaf s q c) h = h
near_place (branch s f) h = h.0

all_short : (f : Forest) → AreShort f → AllShort (trees f)
all_short none h = tt
all_short (atom s q c others) h = (h.0, all_short others h.1)
all_short (list s inside others) h = ((h.0, h.1), all_short others h.2)

pub parts_short : (t : Tree) → IsShort t → AllShort (parts t)
parts_short (leaf s q c) h = tt
parts_short (branch s f) h = all_short f h.1

found_step : (t : Tree) (rest : Option Tree) (b : Bool) → IsShort t → ShortIf rest → ShortIf (cond b (Some t) rest)
found_step t rest true h k = h
found_step t rest false h k = k

pub find_short : (p : Tree → Bool) (ts : List Tree) → AllShort ts → ShortIf (find p ts)
find_short p [] h = tt
find_short p (t ∷ ts) h = found_step t (find p ts) (p t) h.0 (find_short p ts h.1)

pub get_short : (ts : List Tree) (k : ℕ) → AllShort ts → ShortIf (slice_get ts k)
get_short [] k h = tt
get_short (t ∷ ts) zero h = h.0
get_short (t ∷ ts) (suc k) h = get_short ts k h.1

pub near_element : (head : List ℕ) (t : Tree) → IsShort t → ShortIf (element head t)
unfolding element
near_element head t h = find_short (has_head head) (parts t) (parts_short t h)

among : (e : BoardError) (o : Option Tree) → IsPlacedInText e → ShortIf o → NearShort (atom_among e o)
among e None h k = h
among e (Some t) h k = by (is_list t)
  where
    by : (b : Bool) → NearShort (if b then Err e else Ok t)
    by true = h
    by false = k

pub near_atom : (k : ℕ) (t : Tree) → IsShort t → NearShort (atom_of k t)
unfolding atom_of
near_atom k t h = among (Missing (place t)) (slice_get (parts t) k) (near_place t h) (get_short (parts t) k (parts_short t h))

-- what is read of an atom of the list
pub of_atom : {A : Type 0} → (k : ℕ) (t : Tree) (f : Tree → Result A BoardError) → IsShort t → ((a : Tree) → IsShort a → Near (f a)) → Near (atom_of k t >>= f)
of_atom k t f h g = with_tree (atom_of k t) f (near_atom k t h) g

pub in_one : {A : Type 0} → (read : Tree → Result A BoardError) (t : Tree) (found : Option Tree) → IsShort t → ShortIf found → ((s : Tree) → IsShort s → Near (read s)) → Near (in_needed read t found)
in_one read t None h k f = near_place t h
in_one read t (Some s) h k f = f s k

pub in_or : {A : Type 0} → (otherwise : A) (read : Tree → Result A BoardError) (found : Option Tree) → ShortIf found → ((s : Tree) → IsShort s → Near (read s)) → Near (given_or otherwise read found)
in_or otherwise read None k f = tt
in_or otherwise read (Some s) k f = f s k

-- what is read in the element of the list
pub of_element : {A : Type 0} → (head : List ℕ) (otherwise : A) (read : Tree → Result A BoardError) (t : Tree) → IsShort t → ((s : Tree) → IsShort s → Near (read s)) → Near (given_or otherwise read (element head t))
of_element head otherwise read t h f = in_or otherwise read (element head t) (near_element head t h) f

pub in_some : {A : Type 0} → (read : Tree → Result A BoardError) (found : Option Tree) → ShortIf found → ((s : Tree) → IsShort s → Near (read s)) → Near (in_given read found)
in_some read found k f = in_or None _ found k (λ s h. step (read s) _ (f s h) (λ x. tt))

-- ---- numbers

pub near_read : {A : Type 0} → (e : BoardError) (r : Result A DecError) → IsPlacedInText e → Near (read_as e r)
near_read e (Ok n) h = tt
near_read e (Err _) h = h

pub near_length : (a : Tree) → IsShort a → Near (length_in a)
unfolding length_in
near_length a h =
    step (needed (BadNumber (place a)) (content a)) _ (near_needed (BadNumber (place a)) (content a) (near_place a h)) (λ text. near_read (BadNumber (place a)) (mm_cut_answer text) (near_place a h))

pub near_size : (a : Tree) → IsShort a → Near (size_in a)
unfolding size_in
near_size a h = step (length_in a) _ (near_length a h) (λ n. by_test (int_le (pos 0) n) (Ok n) (Err (BadNumber (place a))) tt (near_place a h))

pub near_number : (a : Tree) → IsShort a → Near (number_in a)
unfolding number_in
near_number a h =
    step (needed (BadNumber (place a)) (content a)) _ (near_needed (BadNumber (place a)) (content a) (near_place a h)) (λ text. near_read (BadNumber (place a)) (count_answer text) (near_place a h))

pub near_raw_point : (t : Tree) → IsShort t → Near (raw_point_at t)
unfolding raw_point_at
near_raw_point t h =
    of_atom 1 t _ h (λ a s. step (length_in a) _ (near_length a s) (λ x. of_atom 2 t _ h (λ b u. step (length_in b) _ (near_length b u) (λ y. tt))))

pub near_raw_point_of : (head : List ℕ) (t : Tree) → IsShort t → Near (raw_point_of head t)
near_raw_point_of head t h = in_one raw_point_at t (element head t) h (near_element head t h) near_raw_point

pub near_size_at : (t : Tree) → IsShort t → Near (size_at t)
unfolding size_at
near_size_at t h = of_atom 1 t size_in h near_size

pub near_size_of : (head : List ℕ) (t : Tree) → IsShort t → Near (size_of head t)
near_size_of head t h = in_one size_at t (element head t) h (near_element head t h) near_size_at

-- ---- layers and nets

near_each : (sets : Tree → Result (List LayerSet) BoardError) → ((t : Tree) → IsShort t → Near (sets t)) → (ts : List Tree) → AllShort ts → Near (each_set sets ts)
near_each sets f [] h = tt
near_each sets f (t ∷ ts) h = step (sets t) _ (f t h.0) (λ first. step (each_set sets ts) _ (near_each sets f ts h.1) (λ others. tt))

near_layer_by : (copper : LayerSet) (a : Tree) (o : Option ℕ) → IsShort a → Near (layer_by copper a o)
near_layer_by copper a None h = by_test (ends_in_cu a) (Err (UnknownLayer (place a))) (Ok None) (near_place a h) tt
near_layer_by copper a (Some layer) h = by_test (has_layer copper layer) (Ok (Some layer)) (Err (UnknownLayer (place a))) tt (near_place a h)

pub near_layer : (copper : LayerSet) (a : Tree) → IsShort a → Near (layer_in copper a)
unfolding layer_in
near_layer copper a h = near_layer_by copper a (layer_number a) h

near_copper_by : (a : Tree) (o : Option ℕ) → IsShort a → Near (copper_by a o)
near_copper_by a None h = near_place a h
near_copper_by a (Some layer) h = tt

pub near_copper : (copper : LayerSet) (a : Tree) → IsShort a → Near (copper_in copper a)
unfolding copper_in
near_copper copper a h = step (layer_in copper a) (copper_by a) (near_layer copper a h) (λ o. near_copper_by a o h)

near_layer_at : (copper : LayerSet) (t : Tree) → IsShort t → Near (layer_at copper t)
unfolding layer_at
near_layer_at copper t h = of_atom 1 t (copper_in copper) h (near_copper copper)

pub near_layer_of : (copper : LayerSet) (t : Tree) → IsShort t → Near (layer_of copper t)
near_layer_of copper t h = in_one (layer_at copper) t (element (codes "layer") t) h (near_element (codes "layer") t h) (near_layer_at copper)

pub near_through : (copper : LayerSet) (t : Tree) → IsShort t → Near (layers_through copper t)
unfolding layers_through
near_through copper t h =
    of_atom 1 t _ h (λ a s. step (copper_in copper a) _ (near_copper copper a s) (λ one. of_atom 2 t _ h (λ b u. step (copper_in copper b) _ (near_copper copper b u) (λ other. tt))))

pub near_named : (copper : LayerSet) (t : Tree) → IsShort t → Near (named copper t)
unfolding named
near_named copper t h =
    by_test (is_list t) _ _ tt (by_test (is_all_copper t) _ _ tt (by_test (is_outer t) _ _ tt (step (layer_in copper t) _ (near_layer copper t h) (λ layer. tt))))

pub near_layers : (copper : LayerSet) (t : Tree) → IsShort t → Near (layers_named copper t)
unfolding layers_named
near_layers copper t h = step (each_set (named copper) (parts t)) _ (near_each (named copper) (near_named copper) (parts t) (parts_short t h)) (λ sets. tt)

pub near_drawn_on : (copper : LayerSet) (a : Tree) → IsShort a → Near (drawn_on copper a)
unfolding drawn_on
near_drawn_on copper a h = by_test (is_all_copper a || is_outer a) (Ok None) (layer_in copper a) tt (near_layer copper a h)

near_declared : (board : PlainBoard) (t : Tree) → IsShort t → Near (declared_in board t)
unfolding declared_in
near_declared board t h =
    of_atom 1 t _ h (λ a s. step (number_in a) _ (near_number a s) (λ n. by_test (is_some (name_of board n)) (Ok n) (Err (UnknownNet (place a))) tt (near_place a s)))

pub near_net : (board : PlainBoard) (t : Tree) → IsShort t → Near (net_of board t)
near_net board t h = of_element (codes "net") 0 (declared_in board) t h (near_declared board)

-- ---- drawings

pub near_raw_points : (curved : Bool) (ts : List Tree) → AllShort ts → Near (raw_points_among curved ts)
near_raw_points curved [] h = tt
near_raw_points curved (t ∷ ts) h =
    by_test (has_head (codes "xy") t) _ _
    (step (raw_point_at t) _ (near_raw_point t h.0) (λ raw_point. step (raw_points_among curved ts) _ (near_raw_points curved ts h.1) (λ raw_points. tt)))
    (by_test (has_head (codes "arc") t && not curved) (Err (Arc (place t))) (raw_points_among curved ts) (near_place t h.0) (near_raw_points curved ts h.1))

near_enough : (t : Tree) (raw_points : List RawPoint) → IsShort t → Near (enough t raw_points)
near_enough t raw_points h = step (check (Missing (place t)) (nat_le 3 (length raw_points))) _ (near_check (Missing (place t)) (nat_le 3 (length raw_points)) (near_place t h)) (λ u. tt)

near_corners_in : (t : Tree) → IsShort t → Near (corners_in t)
unfolding corners_in
near_corners_in t h = step (raw_points_among false (parts t)) (enough t) (near_raw_points false (parts t) (parts_short t h)) (λ raw_points. near_enough t raw_points h)

pub near_corners : (t : Tree) → IsShort t → Near (corners_of t)
near_corners t h = in_one corners_in t (element (codes "pts") t) h (near_element (codes "pts") t h) near_corners_in

-- the element of an element
pub inner_short : (head : List ℕ) (o : Option Tree) → ShortIf o → ShortIf (option_and_then (element head) o)
inner_short head None h = tt
inner_short head (Some t) h = near_element head t h

first_short : (a b : Option Tree) → ShortIf a → ShortIf b → ShortIf (option_or a b)
first_short None b h k = k
first_short (Some t) b h k = h

pub near_width : (t : Tree) → IsShort t → Near (width_of t)
unfolding width_of
near_width t h =
    in_or (pos 0) size_at (width_list t)
    (first_short _ (element (codes "width") t) (inner_short (codes "width") (element (codes "stroke") t) (near_element (codes "stroke") t h)) (near_element (codes "width") t h)) near_size_at

pub near_fill : (otherwise : Bool) (t : Tree) → IsShort t → Near (fill_of otherwise t)
unfolding fill_of
near_fill otherwise t h = of_element (codes "fill") otherwise _ t h (λ s k. of_atom 1 s _ k (λ a u. tt))

near_line : (t : Tree) → IsShort t → Near (line_drawing t)
unfolding line_drawing
near_line t h =
    step (raw_point_of (codes "start") t) _ (near_raw_point_of (codes "start") t h) (λ a.
    step (raw_point_of (codes "end") t) _ (near_raw_point_of (codes "end") t h) (λ b.
    step (width_of t) _ (near_width t h) (λ w. tt)))

near_rect : (t : Tree) → IsShort t → Near (rect_drawing t)
unfolding rect_drawing
near_rect t h =
    step (raw_point_of (codes "start") t) _ (near_raw_point_of (codes "start") t h) (λ a.
    step (raw_point_of (codes "end") t) _ (near_raw_point_of (codes "end") t h) (λ b.
    step (width_of t) _ (near_width t h) (λ w.
    step (fill_of false t) _ (near_fill false t h) (λ f. tt))))

near_circle : (t : Tree) → IsShort t → Near (circle_drawing t)
unfolding circle_drawing
near_circle t h =
    step (raw_point_of (codes "center") t) _ (near_raw_point_of (codes "center") t h) (λ a.
    step (raw_point_of (codes "end") t) _ (near_raw_point_of (codes "end") t h) (λ b.
    step (width_of t) _ (near_width t h) (λ w.
    step (fill_of false t) _ (near_fill false t h) (λ f. tt))))

near_outline : (t : Tree) → IsShort t → Near (outline_drawing t)
unfolding outline_drawing
near_outline t h =
    step (corners_of t) _ (near_corners t h) (λ c.
    step (width_of t) _ (near_width t h) (λ w.
    step (fill_of true t) _ (near_fill true t h) (λ f. tt)))

pub near_drawing : (kind : GraphicKind) (t : Tree) → IsShort t → Near (drawing_of kind t)
near_drawing Line t h = near_line t h
near_drawing Rect t h = near_rect t h
near_drawing Circle t h = near_circle t h
near_drawing Outline t h = near_outline t h

-- The refusal of a list that is added stands in its text.
use Rattle.std.proofs.Common.{◌≤◌, ◌+◌, ◌-◌, ℕ, Bool, true, false, List, [], ◌∷◌, length, sym, subst, inl, inr, arith, Option, None, Some, Result, Ok, Err}
use Rattle.std.specs.Prelude.{Vec, IfErr, if◌then◌else◌}
use Rattle.std.specs.declared.alloc.Global.{Global}
use Rattle.sexpr_read.specs.Tree.{Forest, none, atom, list, Tree, leaf, branch, trees, parts, is_list}
use Rattle.sexpr_read.specs.TreePlaces.{StandBetween, PartsStandBetween}
use Rattle.board_errors.specs.declared.errors.BoardError.{BoardError}
use Rattle.board_errors.specs.declared.errors.BoardError.TheVariants.{TooMany}
use Rattle.one_item.specs.declared.item.Item.{Item}
use Rattle.board_items.specs.Boards.{PlainBoard}
use Rattle.part_read.specs.declared.graphics.LayerRole.{LayerRole}
use Rattle.list_read.specs.FirstRefusals.{check}
use Rattle.list_read.specs.ListHeads.{place}
use Rattle.part_read.specs.Graphics.{layer_role_of, one_item, graphic_by, curve_by, text_by}
use Rattle.zone_read.specs.ZoneOf.{as_it_is}
use Rattle.pcb_read.specs.declared.sorts.Sort.{Sort}
use Rattle.pcb_read.specs.declared.sorts.Sort.TheVariants.{Track, Via, Arc, Graphic, Curve, Text, Zone, Footprint}
use Rattle.pcb_read.specs.Sorts.{sort_of}
use Rattle.pcb_read.specs.Tracks.{track_of, via_of}
use Rattle.pcb_read.specs.ItemsOf.{has_capacity, in_capacity, by_layer_role, SaysItems}
use Rattle.pcb_read.specs.RelatedResults.{GivesSome}
use Rattle.pcb_read.specs.ItemText.{SaysBy, alone, SaysAlone}
use Rattle.pcb_read.specs.BoardRefusalPlaces.{IsPlacedInText}
use Rattle.pcb_read.specs.ShortTrees.{AreShort, IsShort, AllShort}
use Rattle.pcb_read.proofs.Nearness.{Near, NearShort, near_same, step, near_check, near_place}
use Rattle.pcb_read.proofs.Nearby.{near_layer_role, near_one, near_graphic, near_curve, near_writing, near_zone, near_track, near_via}
use Rattle.pcb_read.proofs.NearFootprints.{near_footprint}

near_in_capacity : (board : PlainBoard) (unit : ℕ) (t : Tree) (answer : Result (List Item) BoardError) → IsShort t → Near answer → Near (in_capacity board unit t answer)
near_in_capacity board unit t answer h k =
    step answer _ k (λ items. step (check (TooMany (place t)) (has_capacity board unit items)) _ (near_check (TooMany (place t)) (has_capacity board unit items) (near_place t h)) (λ u. tt))

near_by_layer_role : (board : PlainBoard) (t : Tree) (f : LayerRole → Result (List Item) BoardError) → IsShort t → ((lies : LayerRole) → Near (f lies)) → Near (by_layer_role board t f)
near_by_layer_role board t f h k = step (layer_role_of board.copper t) f (near_layer_role board.copper t h) k

near_list : (board : PlainBoard) (unit : ℕ) (t : Tree) (sort : Sort) (answer : Result (List Item) BoardError) → IsShort t → SaysItems board unit t sort answer → Near answer
near_list board unit t Track answer h says = near_same says (near_in_capacity board unit t (one_item (track_of board unit t)) h (near_one (track_of board unit t) (near_track board unit t h)))
near_list board unit t Via answer h says = near_same says (near_in_capacity board unit t (one_item (via_of board unit t)) h (near_one (via_of board unit t) (near_via board unit t h)))
near_list board unit t Arc answer h says = near_same says (near_place t h)
near_list board unit t (Graphic kind) answer h says =
    near_same says (near_in_capacity board unit t (by_layer_role board t (graphic_by board unit as_it_is kind t)) h (near_by_layer_role board t (graphic_by board unit as_it_is kind t) h (λ lies. near_graphic board unit as_it_is kind t lies h)))
near_list board unit t Curve answer h says = near_same says (near_by_layer_role board t (curve_by t) h (λ lies. near_curve t lies h))
near_list board unit t (Text about) answer h says =
    near_same says (near_in_capacity board unit t (by_layer_role board t (text_by unit about t)) h (near_by_layer_role board t (text_by unit about t) h (λ lies. near_writing unit about t lies)))
near_list board unit t Zone answer h says = near_same says (near_zone board unit t h)
near_list board unit t Footprint answer h says = near_footprint board unit t answer h says

near_by : (board : PlainBoard) (unit : ℕ) (t : Tree) (sort : Option Sort) (answer : Result (List Item) BoardError) → IsShort t → SaysBy board unit t sort answer → Near answer
near_by board unit t None answer h says = near_same says (near_place t h)
near_by board unit t (Some sort) answer h says = near_list board unit t sort answer h says

near_alone_by : (board : PlainBoard) (unit : ℕ) (form : Result Tree BoardError) (answer : Result (List Item) BoardError) → NearShort form → SaysAlone board unit form answer → Near answer
near_alone_by board unit (Err e) answer h says = near_same says h
near_alone_by board unit (Ok t) answer h says = near_by board unit t (sort_of t) answer h says

alone_if : (b : Bool) (x y : Result Tree BoardError) → NearShort x → NearShort y → NearShort (if b then x else y)
alone_if true x y h k = h
alone_if false x y h k = k

alone_short : (ts : List Tree) → AllShort ts → NearShort (alone ts)
alone_short [] h = omega arith
alone_short (t ∷ []) h = alone_if (is_list t) _ _ h.0 (near_place t h.0)
alone_short (t ∷ u ∷ us) h = alone_if (is_list t) _ _ (near_place u h.1.0) (near_place t h.0)

-- ---- trees that stand in a text

ordered : (text : List ℕ) (from to : ℕ) (f : Forest) → StandBetween text from to f → from ≤ to
ordered text from to none h = h
ordered text from to (atom s q c others) h =
    let a = h.0 in let b = h.1 in let d = ordered text s.end to others h.3 in omega (arith, a, b, d)
ordered text from to (list s inside others) h =
    let a = h.0 in let b = h.1 in let d = ordered text s.end to others h.3 in omega (arith, a, b, d)

short : (text : List ℕ) (from to : ℕ) → to ≤ 33554432 → (f : Forest) → StandBetween text from to f → AreShort f
short text from to n none h = tt
short text from to n (atom s q c others) h =
    let b = h.1 in let d = ordered text s.end to others h.3 in
    (omega (arith, b, d, n), short text s.end to n others h.3)
short text from to n (list s inside others) h =
    let b = h.1 in let d = ordered text s.end to others h.3 in
    (omega (arith, b, d, n), short text (s.at + 1) (s.end - 1) (omega (arith, d, n)) inside h.2, short text s.end to n others h.3)

all_short : (f : Forest) → AreShort f → AllShort (trees f)
all_short none h = tt
all_short (atom s q c others) h = (h.0, all_short others h.1)
all_short (list s inside others) h = ((h.0, h.1), all_short others h.2)

forms_short : (text : List ℕ) (t : Tree) → PartsStandBetween text 0 (length text) t → length text ≤ 33554432 → AllShort (parts t)
forms_short text (leaf s q c) h n = tt
forms_short text (branch s f) h n = all_short f (short text 0 (length text) n f h)

-- what the forms of a text say
pub near_forms : (board : PlainBoard) (unit : ℕ) (text : List ℕ) (forms : Tree) (answer : Result (List Item) BoardError) → PartsStandBetween text 0 (length text) forms → length text ≤ 33554432
    → SaysAlone board unit (alone (parts forms)) answer → Near answer
near_forms board unit text forms answer h n says = near_alone_by board unit (alone (parts forms)) answer (alone_short (parts forms) (forms_short text forms h n)) says

-- the call that reads them refuses in the text
pub near_given : (board : PlainBoard) (unit : ℕ) (text : List ℕ) (forms : Tree) (result : Result (Vec Item Global) BoardError) → GivesSome result (SaysAlone board unit (alone (parts forms)))
    → PartsStandBetween text 0 (length text) forms → length text ≤ 33554432 → IfErr result IsPlacedInText
near_given board unit text forms (Ok items) says h n = tt
near_given board unit text forms (Err e) (inl gone) h n = subst IsPlacedInText (sym gone) tt
near_given board unit text forms (Err e) (inr says) h n = near_forms board unit text forms (Err e) h n says

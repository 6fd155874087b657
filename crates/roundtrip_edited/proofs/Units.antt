-- What lists give in a board that is equal up to translation, where it has room.
use Rattle.std.proofs.Common.{◌≡◌, ◌∙◌, sym, ap, subst, ℕ, ℤ, Bool, true, false, List, Option, Result, Ok, Err}
use Rattle.std.specs.List.{AllZip}
use Rattle.sexpr_read.specs.declared.place.Span.{Span}
use Rattle.sexpr_read.specs.Tree.{Forest, Tree, branch}
use Rattle.board_errors.specs.declared.errors.BoardError.{BoardError}
use Rattle.board_errors.specs.declared.errors.BoardError.TheVariants.{TooMany}
use Rattle.one_item.specs.declared.item.Item.{Item}
use Rattle.board_items.specs.Boards.{PlainBoard, name_of}
use Rattle.list_read.specs.FirstRefusals.{◌>>=◌, check}
use Rattle.list_read.specs.ListHeads.{place}
use Rattle.part_read.specs.Graphics.{one_item, graphic_by, curve_by, text_by}
use Rattle.roundtrip_lists.specs.Translated.{Shift, Translated}
use Rattle.roundtrip_lists.specs.Carried.{shift_of, Becomes, of_unit, IfAccepted, ReadsItems}
use Rattle.pcb_read.specs.declared.sorts.Sort.TheVariants.{Track, Via, Arc, Graphic, Curve, Text}
use Rattle.pcb_read.specs.Tracks.{track_of, via_of}
use Rattle.pcb_read.specs.ItemsOf.{SaysItems, in_capacity, has_capacity, by_layer_role}
use Rattle.roundtrip_boards.specs.Roots.{SameLayersAndNets}
use Rattle.zone_read.specs.ZoneOf.{as_it_is}
use Rattle.roundtrip_lists.proofs.Drawn.{Placements, radius_moved}
use Rattle.roundtrip_lists.proofs.Graphics.{layer_role_translated, one_read, graphic_carried, curve_carried, text_carried}
use Rattle.roundtrip_lists.specs.Agreeing.{Agrees, Same}
use Rattle.roundtrip_lists.specs.Moved.{moved_raw_point}
use Rattle.roundtrip_lists.proofs.Shapes.{leads_bind, settled}
use Rattle.part_read.specs.declared.numbers.RawPoint.{RawPoint}
use Rattle.part_read.specs.declared.drawings.GraphicKind.{GraphicKind}
use Rattle.part_read.specs.declared.graphics.LayerRole.{LayerRole}
use Rattle.part_read.specs.Graphics.{layer_role_of}
use Rattle.part_read.specs.Placements.{stood}
use Rattle.one_item.specs.declared.item.About.{About}
use Rattle.copper_layers.specs.declared.set.LayerSet.{LayerSet}
use Rattle.one_item.specs.Positions.{is_near}
use Rattle.std.proofs.lemmas.Int.{ints}
use Rattle.std.proofs.Common.{arith, pos, ◌+ℤ◌}
use Rattle.roundtrip_edited.proofs.Tracks.{track_carried}
use Rattle.roundtrip_edited.proofs.Vias.{via_carried}

-- the items of an answer in room
pub found_in_capacity : (board : PlainBoard) (unit : ℕ) (t : Tree) (answer : Result (List Item) BoardError) (items : List Item) → Ok items ≡ in_capacity board unit t answer → answer ≡ Ok items
found_in_capacity board unit t (Err e) items h = absurd cc
found_in_capacity board unit t (Ok found) items h = by_capacity (has_capacity board unit found) h
  where
    by_capacity : (b : Bool) → (let a : Result (List Item) BoardError = Ok items in a) ≡ (check (TooMany (place t)) b >>= λ capacity. Ok found) → (let a : Result (List Item) BoardError = Ok found in a) ≡ Ok items
    by_capacity true h = sym h
    by_capacity false h = absurd cc

in_capacity_found : (board : PlainBoard) (unit : ℕ) (t : Tree) (answer : Result (List Item) BoardError) (items : List Item) → answer ≡ Ok items → has_capacity board unit items ≡ true → Ok items ≡ in_capacity board unit t answer
in_capacity_found board unit t answer items e capacity =
    sym (ap (λ (a : Result (List Item) BoardError). in_capacity board unit t a) e ∙ ap (λ (b : Bool). check (TooMany (place t)) b >>= λ r. Ok items) capacity)

pub same_nets : (board other : PlainBoard) → SameLayersAndNets board other → (n : ℕ) → name_of board n ≡ name_of other n
same_nets board other ground n = ap (λ (l : List (ℕ × List ℕ)). name_of (record board { nets = l }) n) (sym ground.nets)

-- what the two lists give by these answers
module _ (board other : PlainBoard) (unit own : ℕ) (t u : Tree) (d : Shift) (answer again : Result (List Item) BoardError) (law : IfAccepted (ReadsItems d own) answer again) (items now : List Item) (become : AllZip (Becomes d) items now) where
  read_again : answer ≡ Ok items → again ≡ Ok (of_unit own now)
  read_again e = subst (λ (a : Result (List Item) BoardError). IfAccepted (ReadsItems d own) a again) e law now become

  pub capacity_carried : Ok items ≡ in_capacity board unit t answer → has_capacity other own (of_unit own now) ≡ true → Ok (of_unit own now) ≡ in_capacity other own u again
  capacity_carried says capacity = in_capacity_found other own u again (of_unit own now) (read_again (found_in_capacity board unit t answer items says)) capacity

-- nothing is turned or moved but the points themselves
stood_there : (s : RawPoint) → stood as_it_is s ≡ s
stood_there s = ap (λ (z : ℤ). let r : RawPoint = record { x = z; y = pos 0 +ℤ s.y } in r) (zero_plus s.x) ∙ ap (λ (z : ℤ). let r : RawPoint = record { x = s.x; y = z } in r) (zero_plus s.y)
  where
    zero_plus : (z : ℤ) → pos 0 +ℤ z ≡ z
    zero_plus z = omega (arith, ints)

pub as_they_are : (o : Option Shift) → Placements o (shift_of o) as_it_is as_it_is
as_they_are o = record {
  stands = λ s t h x y.
      let there = stood_there s in
      let near_x : is_near (s.x +ℤ (shift_of o).dx) ≡ true = subst (λ (z : RawPoint). is_near (z.x +ℤ (shift_of o).dx) ≡ true) there x in
      let near_y : is_near (s.y +ℤ (shift_of o).dy) ≡ true = subst (λ (z : RawPoint). is_near (z.y +ℤ (shift_of o).dy) ≡ true) there y in
      stood_there t ∙ settled o s t h near_x near_y ∙ ap (moved_raw_point (shift_of o)) (sym there);
  radii = λ a c e f h k x y most.
      let there = stood_there a in
      radius_moved o a c e f h k (subst (λ (z : RawPoint). is_near (z.x +ℤ (shift_of o).dx) ≡ true) there x) (subst (λ (z : RawPoint). is_near (z.y +ℤ (shift_of o).dy) ≡ true) there y) most;
}

module _ (o : Option Shift) (board other : PlainBoard) (unit own : ℕ) (i j : Forest) (s r : Span) (items now : List Item) (ground : SameLayersAndNets board other) (translated : Translated o i j) (become : AllZip (Becomes (shift_of o)) items now) where
  abbrev one : Tree
  one = branch s i

  abbrev two : Tree
  two = branch r j

  pub tracks_carried : SaysItems board unit one Track (Ok items) → has_capacity other own (of_unit own now) ≡ true → SaysItems other own two Track (Ok (of_unit own now))
  tracks_carried says capacity =
      let law = track_carried o board other (sym ground.copper) (same_nets board other ground) unit own i j s r translated in
      capacity_carried board other unit own one two (shift_of o) (one_item (track_of board unit one)) (one_item (track_of other own two)) (one_read (shift_of o) own (track_of board unit one) (track_of other own two) law) items now become says capacity

  pub vias_carried : SaysItems board unit one Via (Ok items) → has_capacity other own (of_unit own now) ≡ true → SaysItems other own two Via (Ok (of_unit own now))
  vias_carried says capacity =
      let law = via_carried o board other (sym ground.copper) (same_nets board other ground) unit own i j s r translated in
      capacity_carried board other unit own one two (shift_of o) (one_item (via_of board unit one)) (one_item (via_of other own two)) (one_read (shift_of o) own (via_of board unit one) (via_of other own two) law) items now become says capacity

  -- an arc gives no items
  pub arcs_carried : SaysItems board unit one Arc (Ok items) → SaysItems other own two Arc (Ok (of_unit own now))
  arcs_carried says = absurd cc

  -- by the role of the layer on which both lie
  by_layer_roles : (given after : LayerRole → Result (List Item) BoardError) → ((lies : LayerRole) → IfAccepted (ReadsItems (shift_of o) own) (given lies) (after lies))
      → IfAccepted (ReadsItems (shift_of o) own) (by_layer_role board one given) (by_layer_role other two after)
  by_layer_roles given after law =
      leads_bind Same (ReadsItems (shift_of o) own) (layer_role_of board.copper one) (layer_role_of other.copper two) given after
      (subst (λ (l : LayerSet). Agrees Same (layer_role_of board.copper one) (layer_role_of l two)) (sym ground.copper) (layer_role_translated o board.copper i j s r translated))
      (λ v w e. subst (λ (z : LayerRole). IfAccepted (ReadsItems (shift_of o) own) (given v) (after z)) (sym e) (law v))

  pub graphics_carried : (kind : GraphicKind) → SaysItems board unit one (Graphic kind) (Ok items) → has_capacity other own (of_unit own now) ≡ true → SaysItems other own two (Graphic kind) (Ok (of_unit own now))
  graphics_carried kind says capacity =
      let law = by_layer_roles (graphic_by board unit as_it_is kind one) (graphic_by other own as_it_is kind two)
      (λ lies. graphic_carried o (shift_of o) as_it_is as_it_is (as_they_are o) board other (same_nets board other ground) unit own kind i j s r translated lies) in
      capacity_carried board other unit own one two (shift_of o) (by_layer_role board one (graphic_by board unit as_it_is kind one)) (by_layer_role other two (graphic_by other own as_it_is kind two)) law items now become says capacity

  pub curves_carried : SaysItems board unit one Curve (Ok items) → SaysItems other own two Curve (Ok (of_unit own now))
  curves_carried says =
      let law = by_layer_roles (curve_by one) (curve_by two) (λ lies. curve_carried (shift_of o) own one two lies) in
      sym (read_again board other unit own one two (shift_of o) (by_layer_role board one (curve_by one)) (by_layer_role other two (curve_by two)) law items now become (sym says))

  pub texts_carried : (about : About) → SaysItems board unit one (Text about) (Ok items) → has_capacity other own (of_unit own now) ≡ true → SaysItems other own two (Text about) (Ok (of_unit own now))
  texts_carried about says capacity =
      let law = by_layer_roles (text_by unit about one) (text_by own about two) (λ lies. text_carried o (shift_of o) own unit about i j s r lies translated) in
      capacity_carried board other unit own one two (shift_of o) (by_layer_role board one (text_by unit about one)) (by_layer_role other two (text_by own about two)) law items now become says capacity

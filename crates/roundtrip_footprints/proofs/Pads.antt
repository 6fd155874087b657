-- The list of a pad that is the same but for spans gives the pad, carried with its footprint.
use Rattle.std.proofs.Common.{◌≡◌, ◌∙◌, refl, sym, ap, subst, ℕ, ℤ, pos, List, [], ◌∷◌, codes, Option, None, Some, Result, Ok}
use Rattle.std.specs.Prelude.{unwrap_or}
use Rattle.sexpr_read.specs.declared.place.Span.{Span}
use Rattle.sexpr_read.specs.Tree.{Forest, Tree, branch}
use Rattle.board_errors.specs.declared.errors.BoardError.{BoardError}
use Rattle.board_errors.specs.declared.errors.BoardError.TheVariants.{OutOfBoard}
use Rattle.copper_layers.specs.declared.set.LayerSet.{LayerSet}
use Rattle.one_item.specs.declared.item.Item.{Item}
use Rattle.board_items.specs.Boards.{PlainBoard, name_of}
use Rattle.part_read.specs.declared.numbers.RawPoint.{RawPoint}
use Rattle.list_read.specs.FirstRefusals.{◌>>=◌, needed}
use Rattle.list_read.specs.ListHeads.{place}
use Rattle.list_read.specs.NamedElements.{element}
use Rattle.part_read.specs.ElementResults.{atom_of, in_needed}
use Rattle.part_read.specs.BoardLayers.{layers_named}
use Rattle.part_read.specs.NetsOf.{net_of}
use Rattle.part_read.proofs.Reach.{both_ok}
use Rattle.pad_read.specs.declared.pads.Frame.{Frame}
use Rattle.pad_read.specs.declared.forms.Form.{Form}
use Rattle.pad_read.specs.declared.labels.Label.{Label}
use Rattle.pad_read.specs.declared.head.Head.{Head}
use Rattle.pad_read.specs.LocalPlacements.{clearance_of}
use Rattle.pad_read.specs.PadFrames.{frame_of}
use Rattle.pad_read.specs.PadOf.{form_of, placed, label_of, pad_of}
use Rattle.roundtrip_lists.specs.Translated.{Shift, Translated}
use Rattle.roundtrip_lists.specs.Agreeing.{Agrees, Same, SameAtom}
use Rattle.roundtrip_lists.specs.Carried.{ItemsOf, IfAccepted, ReadsCarried}
use Rattle.roundtrip_lists.specs.Moved.{moved_raw_point}
use Rattle.roundtrip_lists.proofs.Elements.{agrees_both, same_value, atom_translated}
use Rattle.roundtrip_lists.proofs.Numbers.{name_translated, net_translated}
use Rattle.roundtrip_lists.proofs.Shapes.{leads_bind}
use Rattle.roundtrip_lists.proofs.Named.{named_translated}
use Rattle.roundtrip_lists.proofs.Placed.{needed_ok}
use Rattle.roundtrip_lists.proofs.Steps.{leads_same}
use Rattle.roundtrip_footprints.proofs.Parts.{needed_step}
use Rattle.roundtrip_footprints.proofs.Frames.{FrameAgain, frame_plain, clearance_plain}
use Rattle.roundtrip_footprints.proofs.Forms.{FormAgain, form_plain}
use Rattle.roundtrip_footprints.proofs.Standing.{stood_moved}
use Rattle.roundtrip_footprints.specs.MovedHeads.{moved_placement, moved_head}
use Rattle.roundtrip_footprints.proofs.Placing.{moved_frame, label_in, placed_again, placed_stands}

module _ (d : Shift) (board other : PlainBoard) (copper : other.copper ≡ board.copper) (nets : (n : ℕ) → name_of board n ≡ name_of other n) (unit own : ℕ) (head : Head) (i j : Forest) (s r : Span) (h : Translated None i j) where
  abbrev one : Tree
  one = branch s i

  abbrev two : Tree
  two = branch r j

  abbrev Pads : Item → Result Item BoardError → Type 0
  Pads = ReadsCarried d own

  label_again : (net : ℕ) (local : ℤ) (a b : Tree) → SameAtom a b → label_of own net local (moved_head d head) b two ≡ label_in d own (label_of unit net local head a one)
  label_again net local a b m =
      ap (λ (n : List ℕ). let l : Label = record (label_of own net local (moved_head d head) b two) { name = n } in l) (sym (name_translated None i j s r h))
      ∙ ap (λ (v : Option (List ℕ)). let l : Label = record (label_of own net local (moved_head d head) a one) { number = unwrap_or v [] } in l) (sym (same_value a b m))

  frame_is : (f g : Frame) → FrameAgain head.placement (moved_placement d head.placement) f g → g ≡ moved_frame d f
  frame_is f g k =
      k.is ∙ ap (λ (p : RawPoint). let x : Frame = record f { at = p } in x) (stood_moved d head.placement k.raw_point ∙ ap (moved_raw_point d) (sym k.at))

  last : (layers : LayerSet) (label : Label) (frame : Frame) (f g : Form) → FormAgain f g → label.unit ≡ unit
      → IfAccepted Pads (needed (OutOfBoard (place one)) (placed board.copper layers label frame f)) (needed (OutOfBoard (place two)) (placed board.copper layers (label_in d own label) (moved_frame d frame) g))
  last layers label frame f g again of = by_item (placed board.copper layers label frame f) refl
    where
      by_item : (o : Option Item) → placed board.copper layers label frame f ≡ o → IfAccepted Pads (needed (OutOfBoard (place one)) o) (needed (OutOfBoard (place two)) (placed board.copper layers (label_in d own label) (moved_frame d frame) g))
      by_item None e = tt
      by_item (Some item) e = (
        (placed_stands d board.copper layers label frame f item e).0,
        λ moved carried there own_unit.
            ap (needed (OutOfBoard (place two))) (placed_again d board.copper layers label frame f g own item moved again.rounded_rect again.primitives e carried there own_unit),
      )

  pub pad_carried : IfAccepted Pads (pad_of board unit head one) (pad_of other own (moved_head d head) two)
  unfolding pad_of
  pad_carried =
      leads_bind SameAtom Pads (atom_of 1 one) (atom_of 1 two) _ _ (agrees_both SameAtom (atom_of 1 one) (atom_of 1 two) (atom_translated None 1 one two h)) (λ number new_number m.
      leads_bind (FrameAgain head.placement (moved_placement d head.placement)) Pads (frame_of head.placement one) (frame_of (moved_placement d head.placement) two) _ _ (frame_plain head.placement (moved_placement d head.placement) one two h) (λ frame new_frame again.
      subst (λ (x : Frame). IfAccepted Pads (from_frame board unit head one number frame) (from_frame other own (moved_head d head) two new_number x)) (sym (frame_is frame new_frame again))
      (leads_same Pads (in_needed (layers_named board.copper) one (element (codes "layers") one)) (in_needed (layers_named other.copper) two (element (codes "layers") two)) _ _ layers_same (λ layers.
      leads_bind FormAgain Pads (form_of frame.word frame.sizes one) (form_of frame.word frame.sizes two) _ _ (form_plain frame.word frame.sizes one two h) (λ form new_form forms.
      leads_same Pads (net_of board one) (net_of other two) _ _ (net_translated None board other nets i j s r h) (λ net.
      leads_same Pads (clearance_of one) (clearance_of two) _ _ (clearance_plain one two h) (λ local.
      subst (λ (x : LayerSet). IfAccepted Pads (needed (OutOfBoard (place one)) (placed board.copper layers (label_of unit net local head number one) frame form)) (needed (OutOfBoard (place two)) (placed x layers (label_of own net local (moved_head d head) new_number two) (moved_frame d frame) new_form))) (sym copper)
      (subst (λ (x : Label). IfAccepted Pads (needed (OutOfBoard (place one)) (placed board.copper layers (label_of unit net local head number one) frame form)) (needed (OutOfBoard (place two)) (placed board.copper layers x (moved_frame d frame) new_form))) (sym (label_again net local number new_number m))
      (last layers (label_of unit net local head number one) frame form new_form forms refl)))))))))
    where
      from_frame : PlainBoard → ℕ → Head → Tree → Tree → Frame → Result Item BoardError
      from_frame board unit head tree number frame =
          in_needed (layers_named board.copper) tree (element (codes "layers") tree) >>= λ layers.
          (form_of frame.word frame.sizes tree >>= λ form.
          (net_of board tree >>= λ net.
          (clearance_of tree >>= λ own.
          needed (OutOfBoard (place tree)) (placed board.copper layers (label_of unit net own head number tree) frame form))))

      layers_same : Agrees Same (in_needed (layers_named board.copper) one (element (codes "layers") one)) (in_needed (layers_named other.copper) two (element (codes "layers") two))
      layers_same =
          subst (λ (x : LayerSet). Agrees Same (in_needed (layers_named board.copper) one (element (codes "layers") one)) (in_needed (layers_named x) two (element (codes "layers") two))) (sym copper)
          (needed_step Same (codes "layers") one two (layers_named board.copper) (layers_named board.copper) h (λ x y k. named_translated None board.copper x y k))

-- ---- a pad is of its unit, and lies on the board

pub pad_stands : (board : PlainBoard) (unit : ℕ) (head : Head) (tree : Tree) (item : Item) → pad_of board unit head tree ≡ Ok item → ItemsOf unit (item ∷ [])
unfolding pad_of
pad_stands board unit head tree item h =
    let a = both_ok (atom_of 1 tree) _ item h in
    let b = both_ok (frame_of head.placement tree) _ item a.1.1 in
    let c = both_ok (in_needed (layers_named board.copper) tree (element (codes "layers") tree)) _ item b.1.1 in
    let e = both_ok (form_of b.0.word b.0.sizes tree) _ item c.1.1 in
    let f = both_ok (net_of board tree) _ item e.1.1 in
    let g = both_ok (clearance_of tree) _ item f.1.1 in
    (placed_stands nothing board.copper c.0 (label_of unit f.0 g.0 head a.0 tree) b.0 e.0 item (needed_ok (OutOfBoard (place tree)) _ item g.1.1)).1
  where
    nothing : Shift
    nothing = record { dx = pos 0; dy = pos 0 }

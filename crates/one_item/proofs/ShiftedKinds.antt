-- What stays of an item that is moved: the layers of its parts, whether it is a mark or a note, and its lengths.
use Rattle.std.proofs.Common.{◌≡◌, ℤ, ◌&&◌, List, [], ◌∷◌, refl, sym, ◌∙◌, ap, subst}
use Rattle.std.specs.List.{list_all}
use Rattle.copper_layers.specs.declared.set.LayerSet.{LayerSet}
use Rattle.copper_layers.specs.Layers.{is_within}
use Rattle.one_item.specs.declared.parts.Part.{Part}
use Rattle.one_item.specs.declared.item.What.{What}
use Rattle.one_item.specs.declared.item.What.TheVariants.{Track, Via, Pad, Graphic, Fill, Edge, Area, Body, Note}
use Rattle.one_item.specs.Measures.{HasLengths}
use Rattle.one_item.specs.ItemKinds.{is_note, is_mark}
use Rattle.one_item.specs.ItemMoves.{AreShifted, KindIsShifted}
use Rattle.one_item.proofs.MeasureLemmas.{no_lengths}

pub layers_same : (dx dy : ℤ) (copper : LayerSet) (ps qs : List Part) → AreShifted dx dy ps qs → list_all (λ part. is_within part.layers copper) qs ≡ list_all (λ part. is_within part.layers copper) ps
layers_same dx dy copper [] [] h = refl
layers_same dx dy copper [] (q ∷ qs) h = absurd h
layers_same dx dy copper (p ∷ ps) [] h = absurd h
layers_same dx dy copper (p ∷ ps) (q ∷ qs) h =
    ap (λ b. b && list_all (λ part. is_within part.layers copper) qs) (ap (λ (s : LayerSet). is_within s copper) h.0.layers)
    ∙ ap (λ b. is_within p.layers copper && b) (layers_same dx dy copper ps qs h.1)

pub mark_same : (dx dy : ℤ) (a b : What) → KindIsShifted dx dy a b → is_mark b ≡ is_mark a
mark_same dx dy (Track w) b h = ap is_mark h
mark_same dx dy (Via s d m l) b h = ap is_mark h
mark_same dx dy (Pad n r) b h = ap is_mark h
mark_same dx dy Graphic b h = ap is_mark h
mark_same dx dy Fill b h = ap is_mark h
mark_same dx dy (Edge lines) b h = ap is_mark h.1
mark_same dx dy (Area t s p) b h = ap is_mark h.1
mark_same dx dy (Body r f k o) b h = ap is_mark h.2
mark_same dx dy (Note a l) b h = ap is_mark h

pub note_same : (dx dy : ℤ) (a b : What) → KindIsShifted dx dy a b → is_note b ≡ is_note a
note_same dx dy (Track w) b h = ap is_note h
note_same dx dy (Via s d m l) b h = ap is_note h
note_same dx dy (Pad n r) b h = ap is_note h
note_same dx dy Graphic b h = ap is_note h
note_same dx dy Fill b h = ap is_note h
note_same dx dy (Edge lines) b h = ap is_note h.1
note_same dx dy (Area t s p) b h = ap is_note h.1
note_same dx dy (Body r f k o) b h = ap is_note h.2
note_same dx dy (Note a l) b h = ap is_note h

pub lengths_moved : (dx dy : ℤ) (a b : What) → KindIsShifted dx dy a b → HasLengths a → HasLengths b
lengths_moved dx dy (Track w) b h l = subst HasLengths (sym h) l
lengths_moved dx dy (Via s d m k) b h l = subst HasLengths (sym h) l
lengths_moved dx dy (Pad n r) b h l = subst HasLengths (sym h) l
lengths_moved dx dy Graphic b h l = subst HasLengths (sym h) l
lengths_moved dx dy Fill b h l = subst HasLengths (sym h) l
lengths_moved dx dy (Edge lines) b h l = subst HasLengths (sym h.1) (no_lengths (Edge h.0) (λ w e. absurd cc) (λ s d m k e. absurd cc))
lengths_moved dx dy (Area t s p) b h l = subst HasLengths (sym h.1) (no_lengths (Area t s h.0) (λ w e. absurd cc) (λ s d m k e. absurd cc))
lengths_moved dx dy (Body r f k o) b h l = subst HasLengths (sym h.2) (no_lengths (Body r h.0 h.1 o) (λ w e. absurd cc) (λ s d m k e. absurd cc))
lengths_moved dx dy (Note a k) b h l = subst HasLengths (sym h) l

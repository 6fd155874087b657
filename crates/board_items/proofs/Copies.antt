-- A board that was copied.
use Rattle.std.proofs.Common.{◌≡◌, ◌∙◌, ap, sym, subst, refl, ℕ, Bool, false, cond, List, [], ◌∷◌, ◌++◌, map, length, Option, None, Some, Vec, nat_eq}
use Rattle.std.proofs.lemmas.Cmp.{nat_eq_equiv}
use Rattle.std.specs.Map.{lookup}
use Rattle.std.specs.declared.alloc.Global.{Global}
use Rattle.copper_layers.specs.declared.set.LayerSet.{LayerSet}
use Rattle.one_item.specs.declared.item.Item.{Item}
use Rattle.board_items.specs.Boards.{PlainBoard, AreDistinct}
use Rattle.board_items.specs.BoardCaches.{AreIdsOf, IsWholeBoard}
use Rattle.board_items.specs.ItemSlots.{present}
use Rattle.board_items.proofs.Nets.{absent_parts}

-- ---- the ids of nets
abbrev pub lists_of : List (Vec ℕ Global) → List (List ℕ)
lists_of vs = map (λ (v : Vec ℕ Global). v.items) vs

nil_cons : {x : List ℕ} {xs : List (List ℕ)} → [] ≡ x ∷ xs → ⊥
nil_cons e = cc

pub ids_copied : (items : List (ℕ × Item)) (nets : List (ℕ × List ℕ)) (lists others : List (Vec ℕ Global)) → AreIdsOf items nets lists → lists_of others ≡ lists_of lists → AreIdsOf items nets others
ids_copied items [] [] [] h e = tt
ids_copied items [] [] (o ∷ os) h e = absurd (nil_cons (sym e))
ids_copied items [] (l ∷ ls) others h e = absurd h
ids_copied items (n ∷ ns) [] others h e = absurd h
ids_copied items (n ∷ ns) (l ∷ ls) [] h e = absurd (nil_cons e)
ids_copied items (n ∷ ns) (l ∷ ls) (o ∷ os) h e =
    let first : o.items ≡ l.items = cc in
    let rest : lists_of os ≡ lists_of ls = cc in
    (first ∙ h.0, ids_copied items ns ls os h.1 rest)

-- ---- a net that is behind others has another number
pub absent_before : (net : ℕ) (name : List ℕ) (front back : List (ℕ × List ℕ)) → AreDistinct (front ++ (net, name) ∷ back) → lookup (nat_eq net) front ≡ None
absent_before net name [] back h = refl
absent_before net name (e ∷ es) back h =
    ap (λ (b : Bool). cond b (Some e.1) (lookup (nat_eq net) es)) (nat_eq_equiv.symm net e.0 ∙ other es h.0) ∙ absent_before net name es back h.1
  where
    other : (es : List (ℕ × List ℕ)) → lookup (nat_eq e.0) (es ++ (net, name) ∷ back) ≡ None → nat_eq e.0 net ≡ false
    other [] k = (absent_parts e.0 (net, name) back k).0
    other (f ∷ fs) k = other fs (absent_parts e.0 f (fs ++ (net, name) ∷ back) k).1

-- ---- all that a board keeps
abbrev pub plain : LayerSet → List (ℕ × List ℕ) → List (Option Item) → ℕ → PlainBoard
plain copper nets slots next_unit = record { copper = copper; nets = nets; items = present 0 slots; next_id = length slots; next_unit = next_unit }

pub whole_copied : (copper : LayerSet) (next_unit live : ℕ) (in_order : Bool) (nets nets2 : List (ℕ × List ℕ)) (slots slots2 : List (Option Item)) (marks marks2 notes notes2 tags tags2 units units2 : List ℕ) (lists lists2 : List (Vec ℕ Global))
    → IsWholeBoard (plain copper nets slots next_unit) marks notes lists live slots tags units in_order → nets2 ≡ nets → slots2 ≡ slots → marks2 ≡ marks → notes2 ≡ notes → tags2 ≡ tags → units2 ≡ units → lists_of lists2 ≡ lists_of lists
    → IsWholeBoard (plain copper nets2 slots2 next_unit) marks2 notes2 lists2 live slots2 tags2 units2 in_order
whole_copied copper next_unit live in_order nets nets2 slots slots2 marks marks2 notes notes2 tags tags2 units units2 lists lists2 h en es em eo et eu el =
    subst (λ (ns : List (ℕ × List ℕ)). IsWholeBoard (plain copper ns slots2 next_unit) marks2 notes2 lists2 live slots2 tags2 units2 in_order) (sym en)
    (subst (λ (ss : List (Option Item)). IsWholeBoard (plain copper nets ss next_unit) marks2 notes2 lists2 live ss tags2 units2 in_order) (sym es)
    (subst (λ (ms : List ℕ). IsWholeBoard (plain copper nets slots next_unit) ms notes2 lists2 live slots tags2 units2 in_order) (sym em)
    (subst (λ (ms : List ℕ). IsWholeBoard (plain copper nets slots next_unit) marks ms lists2 live slots tags2 units2 in_order) (sym eo)
    (subst (λ (ts : List ℕ). IsWholeBoard (plain copper nets slots next_unit) marks notes lists2 live slots ts units2 in_order) (sym et)
    (subst (λ (us : List ℕ). IsWholeBoard (plain copper nets slots next_unit) marks notes lists2 live slots tags us in_order) (sym eu)
    (record {
      kept = record { sound = h.kept.sound; marks = h.kept.marks; of_nets = ids_copied (present 0 slots) nets lists lists2 h.kept.of_nets el; count = h.kept.count };
      notes = h.notes;
      tags_in = h.tags_in;
      units_in = h.units_in;
      rise = h.rise;
    }))))))

pub board_copied : (copper : LayerSet) (next_unit : ℕ) (nets nets2 : List (ℕ × List ℕ)) (slots slots2 : List (Option Item)) → nets2 ≡ nets → slots2 ≡ slots → plain copper nets2 slots2 next_unit ≡ plain copper nets slots next_unit
board_copied copper next_unit nets nets2 slots slots2 en es =
    ap (λ (ns : List (ℕ × List ℕ)). plain copper ns slots2 next_unit) en ∙ ap (λ (ss : List (Option Item)). plain copper nets ss next_unit) es

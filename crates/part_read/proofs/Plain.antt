-- Plain items from what was read of them.
use Rattle.std.proofs.Common.{◌≡◌, ◌∙◌, ap, subst, ℕ, ℤ, List, None, false}
use Rattle.std.proofs.Props.{props}
use Rattle.plain_types.specs.Lengths.{IsLengthIfSome}
use Rattle.one_item.specs.declared.parts.Part.{Part}
use Rattle.one_item.specs.declared.item.What.{What}
use Rattle.one_item.specs.declared.item.Item.{Item}
use Rattle.one_item.specs.Measures.{HasLengths}
use Rattle.part_read.specs.declared.numbers.RawPoint.{RawPoint}
use Rattle.part_read.specs.PlainItems.{is_measured, unmeasured, none_in_range, plain_item}

lengths_prop : (what : What) → IsProp (HasLengths what)
lengths_prop what = hlevel props

none_prop : IsProp (IsLengthIfSome None)
none_prop = hlevel props

module _ (name : List ℕ) (unit net : ℕ) (copper : List Part) (what : What) where
  made : ℤ → ℤ → IsLengthIfSome None → HasLengths what → Item
  made x y l w = record { name = name; unit = unit; net = net; x = x; y = y; copper = copper; hole = None; local = None; what = what; local_in_range = l; what_in_range = w }

  pub plain_is : (x y : ℤ) (l : IsLengthIfSome None) (w : HasLengths what) (at : RawPoint) (h : is_measured what ≡ false) → x ≡ at.x → y ≡ at.y
      → (let item : Item = record { name = name; unit = unit; net = net; x = x; y = y; copper = copper; hole = None; local = None; what = what; local_in_range = l; what_in_range = w } in item)
      ≡ plain_item name unit net at copper what h
  unfolding made
  plain_is x y l w at h e f =
      ap (λ (z : ℤ). made z y l w) e
      ∙ ap (λ (z : ℤ). made at.x z l w) f
      ∙ ap (λ (k : IsLengthIfSome None). made at.x at.y k w) (none_prop l none_in_range)
      ∙ ap (λ (k : HasLengths what). made at.x at.y none_in_range k) (lengths_prop what w (unmeasured what h))

-- a call with other names for the same
pub plain_by : (item : Item) (name name' : List ℕ) (unit net : ℕ) (at at' : RawPoint) (copper copper' : List Part) (what what' : What)
    → ((h : is_measured what ≡ false) → item ≡ plain_item name unit net at copper what h) → name ≡ name' → at ≡ at' → copper ≡ copper' → what ≡ what'
    → (h : is_measured what' ≡ false) → item ≡ plain_item name' unit net at' copper' what' h
plain_by item name name' unit net at at' copper copper' what what' made en ea ec ew =
    subst (λ (w : What). (h : is_measured w ≡ false) → item ≡ plain_item name' unit net at' copper' w h) ew
    (λ h. made h ∙ ap (λ (n : List ℕ). plain_item n unit net at copper what h) en ∙ ap (λ (s : RawPoint). plain_item name' unit net s copper what h) ea
    ∙ ap (λ (ps : List Part). plain_item name' unit net at' ps what h) ec)

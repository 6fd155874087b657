-- Item boxes in runs, and item boxes that were passed.
use Rattle.std.proofs.Common.{◌≡◌, ℕ, ◌+◌, ◌*◌, ◌-◌, ◌<◌, ◌≤◌, List, [], ◌∷◌, ◌++◌, length, get_or, inl, inr, refl, sym, subst, ap, ◌∙◌, arith}
use Rattle.std.proofs.lemmas.Bool.{cases_lt, cases_eq}
use Rattle.std.proofs.lemmas.Int.{ints}
use Rattle.std.proofs.lemmas.List.{get_or_append_left, get_or-append_right, get_or_default, length_push}
use Rattle.geo_seg.specs.declared.boxes.Bounds.{Bounds}
use Rattle.geo_seg.specs.Boxes.{IsPartOf, BoxesMeet}
use Rattle.net_groups.specs.ItemBoxes.{AreBoxRuns}

pub part_of_part : (a b c : Bounds) → IsPartOf a b → IsPartOf b c → IsPartOf a c
part_of_part a b c h k = record {
  left = omega (arith, ints, h.left, k.left);
  top = omega (arith, ints, h.top, k.top);
  right = omega (arith, ints, h.right, k.right);
  bottom = omega (arith, ints, h.bottom, k.bottom);
}

-- what meets an item box meets each box around it
meets_whole : (own item_box run : Bounds) → IsPartOf item_box run → BoxesMeet own item_box → BoxesMeet own run
meets_whole own item_box run h m = record {
  left = omega (arith, ints, h.right, m.left);
  right = omega (arith, ints, h.left, m.right);
  top = omega (arith, ints, h.bottom, m.top);
  bottom = omega (arith, ints, h.top, m.bottom);
}

-- ---- boxes around runs
pub runs_none : (item_boxes : List Bounds) → AreBoxRuns item_boxes []
runs_none item_boxes = λ run i d h lo hi l. absurd (omega arith)

pub runs_more : (item_boxes runs : List Bounds) (box : Bounds) → AreBoxRuns item_boxes runs
    → ((i : ℕ) (d : Bounds) → length runs * 8 ≤ i → i < length runs * 8 + 8 → i < length item_boxes → IsPartOf (get_or item_boxes i d) box) → AreBoxRuns item_boxes (runs ++ box ∷ [])
runs_more item_boxes runs box so_far own = λ run i d h lo hi l. elim (cases_lt run (length runs)) [
  | inl less ↦ subst (IsPartOf (get_or item_boxes i d)) (sym (get_or_append_left runs (box ∷ []) d run less)) (so_far run i d less lo hi l)
  | inr last ↦
      let here : length runs ≡ run = omega (arith, h, length_more) in
      let zero : run - length runs ≡ 0 = omega (arith, here) in
      let at : get_or (runs ++ box ∷ []) run d ≡ get_or (box ∷ []) (run - length runs) d = get_or-append_right runs (box ∷ []) (length runs) run d refl (omega (arith, here)) in
      subst (IsPartOf (get_or item_boxes i d)) (sym (at ∙ ap (λ n. get_or (box ∷ []) n d) zero)) (own i d (omega (arith, lo, here)) (omega (arith, hi, here)) l)
]
  where
    length_more : length (runs ++ box ∷ []) ≡ length runs + 1
    length_more = length_push runs box

-- ---- item boxes that were passed
-- none of those from one place to another meets this box
pub record ArePassed (item_boxes : List Bounds) (own : Bounds) (from place : ℕ) : Type 0 where
  pub from_here : from ≤ place
  pub apart : (i : ℕ) (d : Bounds) → from ≤ i → i < place → i < length item_boxes → ¬ (BoxesMeet own (get_or item_boxes i d))

module _ (item_boxes : List Bounds) (own : Bounds) (from place : ℕ) where
  pub passed_none : ArePassed item_boxes own place place
  passed_none = record { from_here = omega arith; apart = λ i d lo hi l. absurd (omega arith) }

  module _ (p : ArePassed item_boxes own from place) where
    pub passed_item_box : (e : Bounds) → place < length item_boxes → ¬ (BoxesMeet own (get_or item_boxes place e)) → ArePassed item_boxes own from (place + 1)
    passed_item_box e inside far = record {
      from_here = omega (arith, p.from_here);
      apart = λ i d lo hi l. elim (cases_eq i place) [
        | inl same ↦ subst (λ k. ¬ (BoxesMeet own (get_or item_boxes k d))) (sym same) (subst (λ (b : Bounds). ¬ (BoxesMeet own b)) (get_or_default item_boxes place e d inside) far)
        | inr ne ↦ p.apart i d lo (omega arith) l
      ];
    }

    pub passed_run : (runs : List Bounds) → AreBoxRuns item_boxes runs → (run : ℕ) → run * 8 ≡ place → run < length runs → ((d : Bounds) → ¬ (BoxesMeet own (get_or runs run d)))
        → ArePassed item_boxes own from (place + 8)
    passed_run runs are run is there far = record {
      from_here = omega (arith, p.from_here);
      apart = λ i d lo hi l. elim (cases_lt i place) [
        | inl early ↦ p.apart i d lo early l
        | inr late ↦ λ m. far d (meets_whole own (get_or item_boxes i d) (get_or runs run d) (are run i d there (omega (arith, is, late)) (omega (arith, is, hi)) l) m)
      ];
    }

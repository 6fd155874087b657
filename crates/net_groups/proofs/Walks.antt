-- A walk over the tiles that an item meets.
use Rattle.std.proofs.Common.{◌≡◌, ℕ, ◌<◌, ◌≤◌, Bool, true, false, List, [], ◌++◌, Contains, Option, inl, inr, ◌∙◌}
use Rattle.std.proofs.lemmas.Bool.{cases_lt, cases_order}
use Rattle.std.proofs.lemmas.List.Elements.{Contains-append_left, Contains-append_right}
use Rattle.geo_seg.specs.declared.boxes.Bounds.{Bounds}
use Rattle.geo_seg.specs.Boxes.{widened}
use Rattle.box_index.specs.declared.area.Area.{Area}
use Rattle.box_index.specs.declared.entry.Entry.{Entry}
use Rattle.box_index.specs.Areas.{has_tile, end_of}
use Rattle.box_index.specs.Tiles.{PlainIndex, IsSoundIndex, margin, meets_tile}
use Rattle.net_groups.specs.Labels.{IsVisited}
use Rattle.net_groups.specs.Asking.{asked_in, IsWalked, IsVisitedWhole}
use Rattle.net_groups.specs.ItemBoxes.{AreItemBoxes, HoldsItemBoxes, IsItemBoxAt}
use Rattle.net_groups.proofs.Visits.{visited_none, visited_join}
use Rattle.net_groups.proofs.Covers.{covers}

both_ways : (b : Bool) → b ≡ true → b ≡ false → ⊥
both_ways b e f = cc

module _ (Step : ℕ → ℕ → Type 0) (ids : List ℕ) (index : PlainIndex) (area : Area) (own : Entry) (place label : ℕ) (labels : List (Option ℕ)) (stack : List ℕ) where
  pub walk_begun : (here : ℕ) → has_tile area here ≡ true → ((tile : ℕ) → tile < here → has_tile area tile ≡ false) → IsWalked Step ids index area own place label labels labels stack stack here
  walk_begun here has none = record {
    next = λ _. has;
    others = [];
    visited = visited_none Step ids place label labels stack;
    each = λ tile lt t a c. absurd (both_ways (has_tile area tile) t (none tile lt));
  }

  pub walk_more : (now then : List (Option ℕ)) (here_stack then_stack : List ℕ) (here : ℕ) → IsWalked Step ids index area own place label labels now stack here_stack here
      → IsVisited Step ids (asked_in ids index here own) place label now then here_stack then_stack
      → (next : ℕ) → here < next → ((tile : ℕ) → here < tile → tile < next → has_tile area tile ≡ false) → (next < end_of area → has_tile area next ≡ true)
      → IsWalked Step ids index area own place label labels then stack then_stack next
  walk_more now then here_stack then_stack here w v next lt none inside = record {
    next = inside;
    others = w.others ++ asked_in ids index here own;
    visited = visited_join Step ids w.others (asked_in ids index here own) place label labels now then stack here_stack then_stack w.visited v;
    each = each;
  }
    where
      each : (tile : ℕ) → tile < next → has_tile area tile ≡ true → (a : ℕ) → Contains (asked_in ids index tile own) a → Contains (w.others ++ asked_in ids index here own) a
      each tile below t a c = elim (cases_order tile here) [
        | inl same ↦ Contains-append_right w.others (asked_in ids index here own) a (rw (← same) c)
        | inr (inl before) ↦ Contains-append_left w.others (asked_in ids index here own) a (w.each tile before t a c)
        | inr (inr after) ↦ absurd (both_ways (has_tile area tile) t (none tile after below))
      ]

pub walk_done : (Step : ℕ → ℕ → Type 0) (ids : List ℕ) (item_boxes : List Bounds) (index : PlainIndex) (area : Area) (own : Entry) (label : ℕ) (labels now : List (Option ℕ)) (stack here_stack : List ℕ) (here : ℕ)
    → IsWalked Step ids index area own own.id label labels now stack here_stack here
    → AreItemBoxes Step ids item_boxes → HoldsItemBoxes item_boxes index → IsSoundIndex index → IsItemBoxAt item_boxes own
    → ((tile : ℕ) → has_tile area tile ≡ meets_tile (widened own.bounds (margin index)) tile) → ((tile : ℕ) → here ≤ tile → has_tile area tile ≡ false)
    → IsVisitedWhole Step ids own.id label labels now stack here_stack
walk_done Step ids item_boxes index area own label labels now stack here_stack here w are holds sound o tiles none = record {
  others = w.others;
  visited = w.visited;
  covers = covers Step ids item_boxes index are holds sound own o w.others each;
}
  where
    each : (tile : ℕ) → meets_tile (widened own.bounds (margin index)) tile ≡ true → (a : ℕ) → Contains (asked_in ids index tile own) a → Contains w.others a
    each tile m a c =
        let has = tiles tile ∙ m in
        elim (cases_lt tile here) [
          | inl before ↦ w.each tile before has a c
          | inr past ↦ absurd (both_ways (has_tile area tile) has (none tile past))
        ]

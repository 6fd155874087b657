use Rattle.std.proofs.Common.{◌≡◌, ◌≢◌, ◌⊎◌, inl, inr, ◌∙◌, ℕ, ◌<◌, true, false, sym, subst, List, arith}
use Rattle.std.proofs.lemmas.Bool.{cases_order}
use Rattle.box_index.specs.declared.area.Area.{Area}
use Rattle.box_index.specs.declared.shared.Shared.{Shared}
use Rattle.box_index.specs.Areas.{has_tile}
use Rattle.box_index.specs.SharedLists.{AreHomed, HasMoved, IsReady, list_at}
use Rattle.box_index.proofs.Buckets.{has_within}
use Rattle.box_index.proofs.Grids.{moved_homed, moved_shared, moved_ready}
use Rattle.box_index.proofs.parting.part_each.Goals as goal

-- the tiles before the next one are those before this one, and this one
ready_more : (area : Area) (here after : ℕ) (tiles tiles' : List ℕ) (lists lists' : List Shared) → AreHomed tiles lists → HasMoved here tiles lists tiles' lists' → ((other : ℕ) → here < other → other < after → has_tile area other ≡ false)
    → ((d : ℕ) (s : Shared) → IsReady area (list_at tiles' lists' here d s)) → ((tile d : ℕ) (s : Shared) → tile < here → has_tile area tile ≡ true → IsReady area (list_at tiles lists tile d s))
    → (tile d : ℕ) (s : Shared) → tile < after → has_tile area tile ≡ true → (tile ≡ here) ⊎ ((tile < here) ⊎ (here < tile)) → IsReady area (list_at tiles' lists' tile d s)
ready_more area here after tiles tiles' lists lists' h m none own before tile d s l t (inl e) = subst (λ i. IsReady area (list_at tiles' lists' i d s)) (sym e) (own d s)
ready_more area here after tiles tiles' lists lists' h m none own before tile d s l t (inr (inl b)) =
    let other : tile ≢ here = omega arith in
    moved_ready here tiles tiles' lists lists' m h area tile d s (has_within area tile t) other (before tile d s b t)
ready_more area here after tiles tiles' lists lists' h m none own before tile d s l t (inr (inr a)) = let never : true ≡ false = sym t ∙ none tile a l in cc

pub returns-in_err-parted-clause-shared : goal.returns-in_err-parted-clause-shared
returns-in_err-parted-clause-shared c near k =
    moved_shared c.tiles.tile c.tiles.tiles c.part_tile.new.tiles c.tiles.lists.items c.part_tile.new.lists.items c.part_tile.ensures.moved c.tiles.invariant.homed near (c.tiles.invariant.shared near k)

pub tiles-preserved : goal.tiles-preserved
tiles-preserved c =
    let at = c.tiles.invariant in
    let tile = c.tiles.tile in
    let moved = c.part_tile.ensures.moved in
    record {
      homed = moved_homed tile c.tiles.tiles c.part_tile.new.tiles c.tiles.lists.items c.part_tile.new.lists.items moved at.homed;
      shared = λ near k. moved_shared tile c.tiles.tiles c.part_tile.new.tiles c.tiles.lists.items c.part_tile.new.lists.items moved at.homed near (at.shared near k);
      parted = c.in_ok-parted.ensures.parted;
      ready = λ other d s l t. ready_more c.args.area tile c.after-tile.result c.tiles.tiles c.part_tile.new.tiles c.tiles.lists.items c.part_tile.new.lists.items at.homed moved c.after-tile.ensures.none_between c.in_ok-parted.ensures.ready at.ready other d s l t (cases_order other tile);
      next = c.after-tile.ensures.inside;
    }

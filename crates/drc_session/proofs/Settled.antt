-- What a call went through: the tiles that an index of what is checked finds, and how many hold an item.
use Rattle.std.proofs.Common.{◌≡◌, ◌≢◌, ◌⊎◌, inr, refl, sym, subst, ap, ◌∙◌, ℕ, ℤ, Bool, true, false, List, [], ◌++◌, length, Option}
use Rattle.geo_seg.specs.declared.boxes.Bounds.{Bounds}
use Rattle.board_items.specs.Boards.{PlainBoard}
use Rattle.net_class.specs.NetClasses.{PlainClasses}
use Rattle.rule_text.specs.RulesOf.{PlainRules}
use Rattle.rule_pick.specs.declared.facts.Facts.{Facts}
use Rattle.rule_pick.specs.AllFacts.{HasFacts}
use Rattle.box_index.specs.Tiles.{PlainIndex, dirty_of, held_of}
use Rattle.board_index.specs.TilesHeld.{AreTilesHeld}
use Rattle.board_index.proofs.Held.{all_held, all_dirty, dirty_is_held}
use Rattle.row_check.specs.RowsOfTile.{IsIndexOf}
use Rattle.kept_facts.specs.FactUpdates.{AreChanged}
use Rattle.board_edits.specs.TouchedItems.{AreEdited}
use Rattle.drc_state.specs.States.{State, checked_in}
use Rattle.drc_state.specs.Recheck.{IsFarthest, ReachDiffers, AreRechecked, IsHeldCount}
use Rattle.drc_state.specs.DirtyBoxes.{AreBoxesOf}
use Rattle.drc_state.proofs.FoundTiles.{all_tiles, near_tiles}
use Rattle.drc_session.specs.declared.applied.Applied.{Applied}
use Rattle.drc_session.specs.Looks.{AreBoxesIn}
use Rattle.drc_session.specs.Sessions.{IsOpened, IsApplied}
use Rattle.drc_session.specs.EditSteps.{AreTilesNear}
use Rattle.drc_session.proofs.EditEffect.{boxes_of}

module _ (new : State) (index : PlainIndex) (is : IsIndexOf (checked_in new) index) (applied : Applied) (held : applied.held ≡ length (held_of index)) where
  held_count : IsHeldCount (checked_in new) applied.held
  held_count = record { tiles = held_of index; are_held = record { reach = index.reach; farthest = is.reach; are_held = all_held new.board index is.items }; count_is = held }

  pub opened : ((boxes : List Bounds) → applied.tiles.items ≡ dirty_of index boxes true) → IsOpened new applied
  opened tiles =
      let same : held_of index ≡ applied.tiles.items = sym (tiles [] ∙ dirty_is_held index []) in
      record { tiles = record { reach = index.reach; farthest = is.reach; are_held = subst (λ (t : List ℕ). AreTilesHeld new.board index.reach t) same (all_held new.board index is.items) }; held = held ∙ ap (λ (t : List ℕ). length t) same }

  -- where all tiles are gone through
  pub all_applied : (old : State) (replaced : Bool) → (replaced ≡ true) ⊎ ReachDiffers (checked_in old) (checked_in new) → ((boxes : List Bounds) → applied.tiles.items ≡ dirty_of index boxes true) → IsApplied old new replaced applied
  all_applied old replaced why tiles =
      record { tiles = subst (λ (t : List ℕ). AreRechecked (checked_in old) (checked_in new) replaced t) (sym (tiles [])) (all_tiles all_dirty (checked_in old) (checked_in new) index is [] replaced why); held = held_count }

  -- and where those near all that differs are
  near_applied : (old : State) → IsFarthest (checked_in old) index.reach → (boxes : List Bounds) → AreBoxesOf (checked_in old) (checked_in new) boxes → applied.tiles.items ≡ dirty_of index boxes false → IsApplied old new false applied
  near_applied old far boxes are tiles =
      record { tiles = subst (λ (t : List ℕ). AreRechecked (checked_in old) (checked_in new) false t) (sym tiles) (near_tiles (checked_in old) (checked_in new) index is far boxes are); held = held_count }

module _ (was is : PlainBoard) (classes : PlainClasses) (rules : PlainRules) (ids changed : List ℕ) (edited : AreEdited was is ids) (kept now : List (Option Facts)) (had : HasFacts was classes kept) (has : HasFacts is classes now) (noted : AreChanged was is classes ids kept now changed) where
  abbrev old : State
  old = record { board = was; classes = classes; rules = rules }

  abbrev new : State
  new = record { board = is; classes = classes; rules = rules }

  module _ (index : PlainIndex) (index_is : IsIndexOf (checked_in new) index) (reach : ℤ) (far : IsFarthest (checked_in old) reach) (before : List Bounds) (boxes : AreBoxesIn was ids before) (applied : Applied) (held : applied.held ≡ length (held_of index)) where
    -- where the reach is as before, and where it is not
    pub edit_applied : (stays : Bool) → (stays ≡ true → index.reach ≡ reach) → (stays ≡ false → reach ≢ index.reach) → (stays ≡ true → AreTilesNear is index changed before applied.tiles.items)
        → (stays ≡ false → (boxes : List Bounds) → applied.tiles.items ≡ dirty_of index boxes true) → IsApplied old new false applied
    edit_applied true same other near all =
        let t = near refl in
        near_applied new index index_is applied held old (subst (λ (z : ℤ). IsFarthest (checked_in old) z) (sym (same refl)) far) (before ++ t.now) (boxes_of was is classes rules.rules ids changed kept now edited had has noted before t.now boxes t.boxes) t.tiles_are
    edit_applied false same other near all =
        all_applied new index index_is applied held old false (inr (record { before = reach; now = index.reach; was = far; is = index_is.reach; differ = other refl })) (all refl)

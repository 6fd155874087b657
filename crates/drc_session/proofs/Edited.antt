-- What is found again after an edit holds of the board as it is now.
use Rattle.std.proofs.Common.{◌≡◌, ◌∙◌, sym, subst, ℕ, ℤ, false, List, map, Option}
use Rattle.int_algebra.proofs.Scalars.{passed}
use Rattle.plain_types.specs.Lengths.{IsLength}
use Rattle.one_item.specs.declared.item.Item.{Item}
use Rattle.board_items.specs.Boards.{PlainBoard}
use Rattle.board_laws.specs.Edits.{IsEdit}
use Rattle.cond_lang.specs.declared.constraints.Rule.{Rule}
use Rattle.cond_lang.specs.Rules.{plain_rule}
use Rattle.rule_pick.specs.declared.facts.Facts.{Facts}
use Rattle.rule_pick.specs.AllFacts.{HasFacts}
use Rattle.rule_pick.specs.Reach.{IsReach}
use Rattle.box_index.specs.Tiles.{PlainIndex}
use Rattle.board_index.specs.IndexedItems.{IsIndexOfItems}
use Rattle.row_check.specs.RowsOfTile.{IsIndexOf}
use Rattle.net_groups.specs.NetParts.{PlainNetPart, AreParts}
use Rattle.kept_facts.specs.FactUpdates.{AreMarksBefore, AreChanged}
use Rattle.board_edits.specs.TouchedItems.{AreEdited, AreKnown}
use Rattle.drc_state.specs.States.{checked_in}
use Rattle.drc_session.specs.declared.parts.Parts.{Parts}
use Rattle.drc_session.specs.declared.editing.Look.{Look}
use Rattle.drc_session.specs.SessionContents.{state_of, IsKeptOf, IsKept}
use Rattle.drc_session.specs.Looks.{HasNetsOf, AsksNone}
use Rattle.drc_session.specs.EditSteps.{IsLook, IsEditedFrom}
use Rattle.drc_session.proofs.Clearances.{as_passed}
use Rattle.drc_session.proofs.Known.{known_look}

-- what was looked up of the ids that were touched is that of the edit's ids
pub look_of_ids : (old : PlainBoard) (touched lent ids : List ℕ) → lent ≡ touched → AreKnown old touched ids → (reach : ℤ) (look : Look) → IsLook old lent reach look → IsLook old ids reach look
look_of_ids old touched lent ids e known reach look looked = known_look old touched ids reach look known (subst (λ (k : List ℕ). IsLook old k reach look) e looked)

module _ (was : PlainBoard) (parts : Parts) (ids : List ℕ) (look : Look) (h : IsEditedFrom was parts ids look) where
  pub facts_again : (lent : List (Option Item)) → lent ≡ look.marks.items → (facts : List (Option Facts)) (changed : List ℕ)
      → ((old : PlainBoard) → IsEdit old parts.board ids → AreMarksBefore old ids lent → HasFacts old parts.classes parts.facts
      → HasFacts parts.board parts.classes facts × AreChanged old parts.board parts.classes ids parts.facts facts changed)
      → HasFacts parts.board parts.classes facts × AreChanged was parts.board parts.classes ids parts.facts facts changed
  facts_again lent e facts changed law =
      law was h.edited.edit (subst (λ (m : List (Option Item)). AreMarksBefore was ids m) (sym e) h.looked.marks) h.kept.facts

  pub nets_again : (lent nets : List PlainNetPart) → lent ≡ parts.nets.items
      → ((old : PlainBoard) → IsEdit old parts.board ids → HasNetsOf old ids look.nets.items → AreParts old lent → AreParts parts.board nets) → AreParts parts.board nets
  nets_again lent nets e law = law was h.edited.edit h.looked.nets (subst (λ (n : List PlainNetPart). AreParts was n) (sym e) h.kept.nets)

  -- the index of the items, which reaches as far as they and the rules ask for
  pub index_again : (lent : List Rule) → lent ≡ parts.rules.rules → (reach : ℤ) → IsLength reach
      → ((old : PlainBoard) → IsEdit old parts.board ids → (look.asked ≡ false → AsksNone old ids (passed parts.reach)) → IsReach old parts.classes (map plain_rule lent) (passed parts.reach)
      → IsReach parts.board parts.classes (map plain_rule lent) reach)
      → (index : PlainIndex) → index.reach ≡ passed reach → ((old : PlainBoard) → IsEdit old parts.board ids → IsIndexOfItems old parts.index → IsIndexOfItems parts.board index)
      → IsIndexOf (checked_in (state_of parts)) index
  index_again lent e reach length far index reaches items =
      let from = as_passed parts.reach h.kept.in_range in
      let was_far = subst (λ (z : ℤ). IsReach was parts.classes (map plain_rule parts.rules.rules) z) (sym h.kept.reach ∙ from) h.kept.index.reach in
      let lent_far = subst (λ (q : List Rule). IsReach was parts.classes (map plain_rule q) (passed parts.reach)) (sym e) was_far in
      let asks = (subst (λ (z : ℤ). IsLook was ids z look) from h.looked).asks in
      let is_far = subst (λ (q : List Rule). IsReach parts.board parts.classes (map plain_rule q) reach) e (far was h.edited.edit asks lent_far) in
      record {
        reach = subst (λ (z : ℤ). IsReach parts.board parts.classes (map plain_rule parts.rules.rules) z) (as_passed reach length ∙ sym reaches) is_far;
        items = items was h.edited.edit h.kept.index.items;
      }

-- ---- what was held and looked up is of the board before the edit

kept_with : (was is : PlainBoard) (parts : Parts) → IsKeptOf was parts → IsKeptOf was (record parts { board = is })
kept_with was is parts k = record { facts = k.facts; index = k.index; reach = k.reach; in_range = k.in_range; rows = k.rows; nets = k.nets; few = k.few }

pub edited_from : (old : Parts) (board : PlainBoard) (touched lent own ids : List ℕ) (look : Look) → IsKept old → lent ≡ touched → AreKnown old.board touched own → IsLook old.board lent (passed old.reach) look → AreEdited old.board board own → ids ≡ own
    → IsEditedFrom old.board (record old { board = board }) ids look
edited_from old board touched lent own ids look kept e known looked edited same = record {
  edited = subst (λ (k : List ℕ). AreEdited old.board board k) (sym same) edited;
  kept = kept_with old.board board old kept;
  looked =
      let own_look = look_of_ids old.board touched lent own e known (passed old.reach) look looked in
      subst (λ (k : List ℕ). IsLook old.board k old.reach look) (sym same) (subst (λ (z : ℤ). IsLook old.board own z look) (sym (as_passed old.reach kept.in_range)) own_look);
}

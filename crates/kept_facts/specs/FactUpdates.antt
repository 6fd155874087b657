-- Facts that are kept over an edit: which items may have others, and which have.
use Rattle.std.specs.Prelude.{◌≡◌, ◌≢◌, ◌⊎◌, ◌↔◌, ℕ, ◌<◌, cond, List, length, get_or, slice_get, Contains, Option, None, Some, IsSome}
use Rattle.std.specs.Option.{option_flatten}
use Rattle.std.specs.List.Sorted.{IsStrictlyIncreasing}
use Rattle.one_item.specs.declared.item.Item.{Item}
use Rattle.one_item.specs.declared.item.What.{What}
use Rattle.one_item.specs.ItemKinds.{is_mark}
use Rattle.board_items.specs.Boards.{PlainBoard, item_at}
use Rattle.net_class.specs.NetClasses.{PlainClasses}
use Rattle.cond_lang.specs.Rules.{PlainRule}
use Rattle.rule_pick.specs.declared.facts.Facts.{Facts}
use Rattle.rule_pick.specs.AllFacts.{HasFacts}
use Rattle.rule_pick.specs.ById.{facts_at}
use Rattle.rule_pick.specs.FactsOf.{MeetsArea, MeetsCourtyard, AreFacts}
use Rattle.board_laws.specs.Edits.{IsEdit}
use Rattle.kept_rows.specs.CheckChanges.{IsCheckChange}

-- ---- areas and bodies, as they were and as they are

-- the item, where it is an area or a body
abbrev pub mark_if : Option Item → Option Item
mark_if None = None
mark_if (Some item) = cond (is_mark item.what) (Some item) None

-- the area or body that stands under the id
abbrev pub mark_at : PlainBoard → ℕ → Option Item
mark_at board id = mark_if (item_at board.items id)

-- there is such an area or body, and it gives the name
abbrev pub GivesIf : (What → List ℕ → Type 0) → Option Item → List ℕ → Type 0
GivesIf Gives None name = ⊥
GivesIf Gives (Some mark) name = Gives mark.what name

-- the item has the same name from the area or body before as from the one now, or none from both
pub record GiveSame (item : Item) (before now : Option Item) : Type 0 where
  pub areas : (name : List ℕ) → (GivesIf (MeetsArea item) before name ↔ GivesIf (MeetsArea item) now name)
  pub courtyards : (name : List ℕ) → (GivesIf (MeetsCourtyard item) before name ↔ GivesIf (MeetsCourtyard item) now name)

-- each area and body of the ids gives the item the same name before and after, or none both times
pub record IsUnconcerned (old new : PlainBoard) (ids : List ℕ) (item : Item) : Type 0 where
  pub each : (id : ℕ) → Contains ids id → GiveSame item (mark_at old id) (mark_at new id)

-- what the list has at the place; nothing past its end
abbrev pub mark_of : List (Option Item) → ℕ → Option Item
mark_of marks place = option_flatten (slice_get marks place)

-- the areas and bodies that stood under the ids, in the order of these, and None where there was none; at the end that may be left out
pub record AreMarksBefore (old : PlainBoard) (ids : List ℕ) (marks : List (Option Item)) : Type 0 where
  pub each : (place : ℕ) → place < length ids → mark_of marks place ≡ mark_at old (get_or ids place 0)

-- ---- what is found again

-- the items that may have other facts: those of the ids that are there now, and all that the edit concerns
pub record AreSuspects (old new : PlainBoard) (ids suspects : List ℕ) : Type 0 where
  pub there : (id : ℕ) → Contains suspects id → IsSome (item_at new.items id)
  pub own : (id : ℕ) (item : Item) → Contains ids id → item_at new.items id ≡ Some item → Contains suspects id
  pub far : (id : ℕ) (item : Item) → ¬ (Contains suspects id) → item_at new.items id ≡ Some item → IsUnconcerned old new ids item

-- the suspects have their facts as they are now, ids that are gone have none, and all others keep what they had
pub record AreRefreshed (new : PlainBoard) (classes : PlainClasses) (ids suspects : List ℕ) (kept now : List (Option Facts)) : Type 0 where
  pub right : (id : ℕ) (f : Facts) → Contains suspects id → facts_at now id ≡ Some f → AreFacts new classes id f
  pub there : (id : ℕ) → Contains suspects id → IsSome (facts_at now id)
  pub gone : (id : ℕ) → Contains ids id → ¬ (Contains suspects id) → facts_at now id ≡ None
  pub others : (id : ℕ) → ¬ (Contains ids id) → ¬ (Contains suspects id) → facts_at now id ≡ facts_at kept id

-- all items had their facts, and those that an edit may have given others have them again
pub record IsFoundAgain (old new : PlainBoard) (classes : PlainClasses) (ids suspects : List ℕ) (kept now : List (Option Facts)) : Type 0 where
  pub edit : IsEdit old new ids
  pub suspected : AreSuspects old new ids suspects
  pub had : HasFacts old classes kept
  pub refreshed : AreRefreshed new classes ids suspects kept now

-- the ids that changed: those of the edit, and those of the suspects that have other facts than were kept
pub record AreNoted (ids suspects : List ℕ) (kept now : List (Option Facts)) (changed : List ℕ) : Type 0 where
  pub rise : IsStrictlyIncreasing changed
  pub own : (id : ℕ) → Contains ids id → Contains changed id
  pub noted : (id : ℕ) → Contains suspects id → Contains changed id ⊎ (facts_at now id ≡ facts_at kept id)
  pub only : (id : ℕ) → Contains changed id → Contains ids id ⊎ (Contains suspects id × (facts_at now id ≢ facts_at kept id))

-- ---- what changed

-- the ids of the edit and of the items that have other facts than were kept, and no others; nothing else changed
pub record AreChanged (old new : PlainBoard) (classes : PlainClasses) (ids : List ℕ) (kept now : List (Option Facts)) (changed : List ℕ) : Type 0 where
  pub rise : IsStrictlyIncreasing changed
  pub own : (id : ℕ) → Contains ids id → Contains changed id
  pub only : (id : ℕ) → Contains changed id → Contains ids id ⊎ (facts_at now id ≢ facts_at kept id)
  pub step : (rules : List PlainRule) → IsCheckChange (record { board = old; classes = classes; rules = rules }) (record { board = new; classes = classes; rules = rules }) changed

-- Facts that are found side by side, each in the slot of its id.
use Rattle.std.specs.Prelude.{◌≡◌, ◌<◌, ℕ, List, Option, None, length, replicate, slice_index_or, IfSome}
use Rattle.board_items.specs.Boards.{PlainBoard}
use Rattle.net_class.specs.NetClasses.{PlainClasses}
use Rattle.rule_pick.specs.declared.facts.Facts.{Facts}
use Rattle.rule_pick.specs.FactsOf.{AreFacts}
use Rattle.item_facts.specs.Known.{AreKnown}
use Rattle.item_facts.specs.NearItems.{HoldsMarks}
use Rattle.item_facts.specs.declared.threads.Sources.{Sources}

-- the index has all areas and bodies, and each net that is there has its class
pub record AreReady (s : Sources) : Type 0 where
  pub index : HoldsMarks s.board.now.items s.index.now
  pub known : AreKnown s.classes.now s.board.now s.known.now

-- so many slots, and none is full
abbrev pub AreEmpty : ℕ → List (Option Facts) → Type 0
AreEmpty count slots = slots ≡ replicate count None

-- as many slots as before, each with the facts of the item of its number or with none
pub record AreFilled (board : PlainBoard) (classes : PlainClasses) (old new : List (Option Facts)) : Type 0 where
  pub long : length new ≡ length old
  pub each : (id : ℕ) (d : Option Facts) → id < length old → IfSome (slice_index_or new id d) (AreFacts board classes id)

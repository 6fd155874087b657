-- One part of a zone after another.
use Rattle.std.specs.Prelude.{◌≡◌, ◌⊎◌, ℕ, List, ◌∷◌, length, Result, Ok, Err}
use Rattle.sexpr_read.specs.Tree.{Tree}
use Rattle.board_errors.specs.declared.errors.BoardError.{BoardError}
use Rattle.board_errors.specs.declared.errors.BoardError.TheVariants.{OutOfMemory}
use Rattle.one_item.specs.declared.item.Item.{Item}
use Rattle.board_items.specs.Boards.{PlainBoard}
use Rattle.part_read.specs.Lists.{before}
use Rattle.zone_read.specs.ZoneOf.{fills_after}

-- the fills so far, and those that this part and what follows give, are the new ones and those of what follows; or the part is refused
abbrev pub TakesFill : Result (Unit {0}) BoardError → PlainBoard → ℕ → ℕ → Tree → Tree → List Item → List Item → Type 0
TakesFill (Ok _) board unit net tree t old new =
    (rest : List Tree) → before old (fills_after (length old) board unit net tree (t ∷ rest)) ≡ before new (fills_after (length new) board unit net tree rest)
TakesFill (Err e) board unit net tree t old new = (e ≡ OutOfMemory) ⊎ ((rest : List Tree) → fills_after (length old) board unit net tree (t ∷ rest) ≡ Err e)

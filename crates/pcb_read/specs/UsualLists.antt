-- Tracks and vias whose elements stand in the usual order.
use Rattle.std.specs.Prelude.{◌≡◌, ℕ, List, true, Some, Result, Ok}
use Rattle.sexpr_read.specs.Tree.{Tree}
use Rattle.sexpr_read.specs.TreeViews.{tree_of}
use Rattle.board_errors.specs.declared.errors.BoardError.{BoardError}
use Rattle.list_read.specs.ListHeads.{has_head}
use Rattle.part_read.specs.ElementResults.{name_among}
use Rattle.pcb_read.specs.declared.drafts.Draft.{Draft}
use Rattle.pcb_read.specs.declared.usual.Usual.{Usual}

-- the list has this head, and this is what is read in it
abbrev pub IsReadUnder : {A : Type 0} → List ℕ → (Tree → Result A BoardError) → Tree → A → Type 0
IsReadUnder head read list x = (has_head head list ≡ true) × (read list ≡ Ok x)

-- the draft of a track or a via that was read so
abbrev pub said : Usual → Draft
said usual = record { form = usual.form; name = name_among (Some (tree_of usual.name)); net = usual.net; layers = usual.layers }

use Rattle.std.proofs.Common.{◌≡◌, sym, subst, Result, Ok}
use Rattle.sexpr_read.specs.TreeViews.{tree_of}
use Rattle.board_errors.specs.declared.errors.BoardError.{BoardError}
use Rattle.copper_layers.specs.declared.set.LayerSet.{LayerSet}
use Rattle.one_item.specs.declared.item.Item.{Item}
use Rattle.part_read.specs.NodeResults.{Gives}
use Rattle.pcb_read.specs.Drafts.{via_draft}
use Rattle.pcb_read.proofs.Drafting.{via_number, via_on, no_via}
use Rattle.pcb_read.proofs.tracks.via_of.Goals as goal

pub item_on-requires-clause-net : goal.item_on-requires-clause-net
item_on-requires-clause-net c = via_number (tree_of c.args.node) c.copper.result c.in-Ok.draft c.in-Ok.ensures.read

pub returns-in-Ok-clause-read : goal.returns-in-Ok-clause-read
returns-in-Ok-clause-read c =
    let tree = tree_of c.args.node in
    let read : via_draft c.args.board.now.copper tree ≡ Ok c.in-Ok.draft = subst (λ (set : LayerSet). via_draft set tree ≡ Ok c.in-Ok.draft) c.copper.ensures c.in-Ok.ensures.read in
    subst (λ (said : Result Item BoardError). Gives c.item_on.result said) (sym (via_on tree c.args.board.now c.args.unit c.in-Ok.draft read)) c.item_on.ensures.read

pub returns-in-Err-clause-read : goal.returns-in-Err-clause-read
returns-in-Err-clause-read c = no_via (tree_of c.args.node) c.args.board.now c.args.unit c.copper.result c.in-Err.error c.copper.ensures c.in-Err.ensures.read

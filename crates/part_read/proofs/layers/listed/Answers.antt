use Rattle.std.proofs.Common.{◌≡◌, true, false}
use Rattle.sexpr_read.specs.Tree.{is_list}
use Rattle.sexpr_read.specs.TreeViews.{tree_of}
use Rattle.part_read.specs.BoardLayers.{listed}
use Rattle.part_read.proofs.Layering.{gives_none, gives_single}
use Rattle.part_read.proofs.Listing.{listed_passed, listed_none, listed_some}
use Rattle.part_read.proofs.layers.listed.Goals as goal

pub returns-then-not-is_list : goal.returns-then-not-is_list
returns-then-not-is_list c =
    let part = tree_of c.args.part in
    let passed : is_list part ≡ false = cc in
    gives_none (listed part) (listed_passed part passed)

pub returns-in-None : goal.returns-in-None
returns-in-None c =
    let part = tree_of c.args.part in
    let list : is_list part ≡ true = cc in
    gives_none (listed part) (listed_none part (tree_of c.in_ok-name.name) list c.in_ok-name.ensures c.in-None.ensures.number)

pub returns-in-Some : goal.returns-in-Some
returns-in-Some c =
    let part = tree_of c.args.part in
    let list : is_list part ≡ true = cc in
    rw c.of.ensures.value (gives_single c.in-Some.layer (listed part) c.in-Some.ensures.below (listed_some part (tree_of c.in_ok-name.name) c.in-Some.layer list c.in_ok-name.ensures c.in-Some.ensures.number))

use Rattle.std.proofs.Common.{◌≡◌, ◌∙◌, rules, ◌<◌, ◌^◌, true, false}
use Rattle.sexpr_read.specs.Tree.{is_list}
use Rattle.sexpr_read.specs.TreeViews.{tree_of}
use Rattle.part_read.specs.BoardLayers.{named, is_all_copper, is_outer, outer_of}
use Rattle.list_read.proofs.Words.{text_is}
use Rattle.part_read.proofs.Layering.{gives_none, gives_one, gives_single, gives_any}
use Rattle.part_read.proofs.Listing.{named_passed, named_all, named_outer, named_none, named_some}
use Rattle.part_read.proofs.layers.named.Goals as goal

pub returns-then-is_list-clause-set : goal.returns-then-is_list-clause-set
returns-then-is_list-clause-set c =
    let part = tree_of c.args.part in
    let list : is_list part ≡ true = cc in
    gives_none (named c.args.copper part) (named_passed c.args.copper part list)

pub returns-then-is-clause-set : goal.returns-then-is-clause-set
returns-then-is-clause-set c =
    let part = tree_of c.args.part in
    let atom : is_list part ≡ false = cc in
    let all : is_all_copper part ≡ true = text_is part _ c.is.result c.is.ensures ∙ c.if-is.true in
    let few : c.args.copper.bits < 2 ^ 32 = search rules in
    gives_one c.args.copper (named c.args.copper part) few (named_all c.args.copper part atom all)

pub returns-then-is-2-clause-set : goal.returns-then-is-2-clause-set
returns-then-is-2-clause-set c =
    let part = tree_of c.args.part in
    let atom : is_list part ≡ false = cc in
    let not_all : is_all_copper part ≡ false = text_is part _ c.is.result c.is.ensures ∙ c.if-is.false in
    let outer : is_outer part ≡ true = text_is part _ c.is-2.result c.is-2.ensures ∙ c.if-is-2.true in
    gives_any c.outer_of.result (outer_of c.args.copper) (named c.args.copper part) c.outer_of.ensures.set (named_outer c.args.copper part atom not_all outer)

pub returns-in-None-clause-set : goal.returns-in-None-clause-set
returns-in-None-clause-set c =
    let part = tree_of c.args.part in
    let atom : is_list part ≡ false = cc in
    let not_all : is_all_copper part ≡ false = text_is part _ c.is.result c.is.ensures ∙ c.if-is.false in
    let not_outer : is_outer part ≡ false = text_is part _ c.is-2.result c.is-2.ensures ∙ c.if-is-2.false in
    let none = rw c.in-None.is at c.in_ok-layer_in.ensures.layer in
    gives_none (named c.args.copper part) (named_none c.args.copper part atom not_all not_outer none)

pub returns-in-Some-clause-set : goal.returns-in-Some-clause-set
returns-in-Some-clause-set c =
    let part = tree_of c.args.part in
    let atom : is_list part ≡ false = cc in
    let not_all : is_all_copper part ≡ false = text_is part _ c.is.result c.is.ensures ∙ c.if-is.false in
    let not_outer : is_outer part ≡ false = text_is part _ c.is-2.result c.is-2.ensures ∙ c.if-is-2.false in
    let some = rw c.in-Some.is at c.in_ok-layer_in.ensures.layer in
    rw c.of.ensures.value (gives_single c.in-Some.layer (named c.args.copper part) (rw c.in-Some.is at c.in_ok-layer_in.ensures.below) (named_some c.args.copper part c.in-Some.layer atom not_all not_outer some))

use Rattle.std.proofs.Common.{◌≡◌, ◌∙◌, sym, ap, length, map, option_map, arith, List, Option}
use Rattle.std.proofs.lemmas.List.{length-map}
use Rattle.sexpr_read.specs.Tree.{Tree}
use Rattle.sexpr_read.specs.TreeViews.{tree_of, trees_left}
use Rattle.list_read.proofs.Walks.{completed, completed_none, completed_more, completed_passed, completed_all}
use Rattle.list_read.proofs.elements.find_elements.Goals as goal

pub loop-part-init : goal.loop-part-init
loop-part-init c =
    let same : length c.args.wanted.now ≡ length c.clear.new.found = omega arith in
    ap (λ (ts : List Tree). completed ts c.args.wanted.now (map (option_map tree_of) c.clear.new.found))
    (ap trees_left c.into_iter-part-iterator.ensures.into_iter_gives ∙ c.children-part-items.ensures.given)
    ∙ completed_none (tree_of c.args.node) c.args.wanted.now c.clear.new.found same c.clear.ensures

pub loop-part-preserved-in-Some-next : goal.loop-part-preserved-in-Some-next
loop-part-preserved-in-Some-next c =
    let ws = c.args.wanted.now in
    let rest = trees_left c.next.new.self in
    let first = sym c.children.ensures.given ∙ c.in-Some-next.ensures.steps in
    ap (λ (fs : List (Option Tree)). completed rest ws fs) c.note_part-next.ensures
    ∙ completed_more (tree_of c.in-Some.part) (tree_of c.in-Some-next.first) rest _ ws (map (option_map tree_of) c.loop-part.found) first
    ∙ ap (λ (ts : List Tree). completed ts ws (map (option_map tree_of) c.loop-part.found)) (sym c.in-Some.ensures.steps)
    ∙ c.loop-part.invariant

pub loop-part-preserved : goal.loop-part-preserved
loop-part-preserved c =
    let ws = c.args.wanted.now in
    let none = sym c.children.ensures.given ∙ c.in_default.ensures.steps.0 in
    completed_passed (tree_of c.in-Some.part) (trees_left c.next.new.self) ws (map (option_map tree_of) c.loop-part.found) none
    ∙ ap (λ (ts : List Tree). completed ts ws (map (option_map tree_of) c.loop-part.found)) (sym c.in-Some.ensures.steps)
    ∙ c.loop-part.invariant

pub returns : goal.returns
returns c =
    let ws = c.args.wanted.now in
    let fs = map (option_map tree_of) c.loop-part.found in
    let same : length ws ≡ length fs = omega (arith, length-map c.loop-part.found (option_map tree_of)) in
    sym (completed_all ws fs same) ∙ ap (λ (ts : List Tree). completed ts ws fs) (sym c.in-None.ensures.steps.0) ∙ c.loop-part.invariant

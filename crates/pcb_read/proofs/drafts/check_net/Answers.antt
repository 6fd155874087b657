use Rattle.std.proofs.Common.{rules, ◌≡◌, ◌∙◌, sym, ap, subst, ℕ, true, codes, is_some, Option, Ok}
use Rattle.sexpr_read.specs.Tree.{Tree}
use Rattle.sexpr_read.specs.TreeViews.{tree_of}
use Rattle.board_items.specs.Boards.{name_of}
use Rattle.list_read.specs.NamedElements.{element}
use Rattle.part_read.specs.ElementResults.{given_or}
use Rattle.part_read.specs.NetsOf.{declared_in}
use Rattle.pcb_read.proofs.Drafting.{net_there, net_same}
use Rattle.pcb_read.proofs.drafts.check_net.Goals as goal

pub returns-then-is_some-clause-known : goal.returns-then-is_some-clause-known
returns-then-is_some-clause-known c =
    let known : is_some (name_of c.args.board.now c.args.net) ≡ true = search rules in
    net_there c.args.board.now (element (codes "net") (tree_of c.args.node)) c.args.net c.requires known

pub returns-in-Ok-clause-known : goal.returns-in-Ok-clause-known
returns-in-Ok-clause-known c =
    let board = c.args.board.now in
    let found = element (codes "net") (tree_of c.args.node) in
    let is : given_or 0 (declared_in board) found ≡ Ok c.in-Ok.field-0 =
    subst (λ (f : Option Tree). given_or 0 (declared_in board) f ≡ Ok c.in-Ok.field-0) c.element.ensures (sym c.in-Ok.ensures.net) in
    is ∙ ap (λ (n : ℕ). Ok n) (sym (net_same board found c.args.net c.in-Ok.field-0 c.requires is))

pub returns-in-Ok-clause-declared : goal.returns-in-Ok-clause-declared
returns-in-Ok-clause-declared c =
    let board = c.args.board.now in
    let found = element (codes "net") (tree_of c.args.node) in
    let is : given_or 0 (declared_in board) found ≡ Ok c.in-Ok.field-0 =
    subst (λ (f : Option Tree). given_or 0 (declared_in board) f ≡ Ok c.in-Ok.field-0) c.element.ensures (sym c.in-Ok.ensures.net) in
    let zero : is_some (name_of board 0) ≡ true = search rules in
    subst (λ (n : ℕ). is_some (name_of board n) ≡ true) (sym (net_same board found c.args.net c.in-Ok.field-0 c.requires is)) (c.in-Ok.ensures.declared zero)

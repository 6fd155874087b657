use Rattle.std.proofs.Common.{◌≡◌, ◌∙◌, sym, ap, ℤ, true, List, ◌∷◌, Option, option_map, arith}
use Rattle.sexpr_read.specs.Tree.{Tree, parts, value}
use Rattle.sexpr_read.specs.TreeViews.{tree_of, trees_left}
use Rattle.roundtrip_lists.specs.Translated.{is_place_head, both}
use Rattle.board_write.specs.declared.places.Number.{Number}
use Rattle.board_write.specs.Marks.{plain_shift}
use Rattle.board_write.specs.MovedPlaces.{atom_moved}
use Rattle.board_write.proofs.Groves.{moved_is}
use Rattle.board_write.proofs.Standing.{wide, stand_by}
use Rattle.board_write.proofs.places.place_of.Goals as goal

pub returns-clause-numbers : goal.returns-clause-numbers
returns-clause-numbers c =
    let h : Tree = tree_of c.in_ok-head.head in
    let x : Tree = tree_of c.in_ok-x.x in
    let y : Tree = tree_of c.in_ok-y.y in
    let rest : List Tree = trees_left c.next-3.new.self in
    let e : parts (tree_of c.args.list) ≡ h ∷ x ∷ y ∷ rest =
    sym c.children-rest.ensures.given ∙ c.in_ok-head.ensures.steps ∙ ap (λ (l : List Tree). h ∷ l) (c.in_ok-x.ensures.steps ∙ ap (λ (l : List Tree). x ∷ l) c.in_ok-y.ensures.steps) in
    let k : is_place_head (value h) ≡ true = grind (arith, c.is_place_head.ensures, c.if-not-is_place_head.false) in
    c.both.ensures.numbers
    ∙ ap (λ (o : Option ℤ). both o (option_map (λ (n : Number). n.nm) c.moved-2.result)) (c.moved.ensures.number ∙ ap (λ (z : ℤ). atom_moved z x) (wide c.args.by.dx c.args.by.near_x))
    ∙ ap (λ (o : Option ℤ). both (atom_moved c.args.by.dx x) o) (c.moved-2.ensures.number ∙ ap (λ (z : ℤ). atom_moved z y) (wide c.args.by.dy c.args.by.near_y))
    ∙ sym (moved_is (plain_shift c.args.by) (tree_of c.args.list) h x y rest e k)

pub returns-clause-stands : goal.returns-clause-stands
returns-clause-stands c =
    let h : Tree = tree_of c.in_ok-head.head in
    let x : Tree = tree_of c.in_ok-x.x in
    let y : Tree = tree_of c.in_ok-y.y in
    let e : parts (tree_of c.args.list) ≡ h ∷ x ∷ tree_of c.in_ok-y.y ∷ trees_left c.next-3.new.self =
    sym c.children-rest.ensures.given ∙ c.in_ok-head.ensures.steps ∙ ap (λ (l : List Tree). h ∷ l) (c.in_ok-x.ensures.steps ∙ ap (λ (l : List Tree). x ∷ l) c.in_ok-y.ensures.steps) in
    let k : is_place_head (value h) ≡ true = grind (arith, c.is_place_head.ensures, c.if-not-is_place_head.false) in
    stand_by (tree_of c.args.list) c.in_ok-head.head c.in_ok-x.x c.in_ok-y.y c.next-3.new.self c.args.by.dx c.args.by.dy c.moved.result c.moved-2.result e k
    (c.moved.ensures.number ∙ ap (λ (z : ℤ). atom_moved z x) (wide c.args.by.dx c.args.by.near_x)) c.moved.ensures.atom c.moved.ensures.near
    (c.moved-2.ensures.number ∙ ap (λ (z : ℤ). atom_moved z y) (wide c.args.by.dy c.args.by.near_y)) c.moved-2.ensures.atom c.moved-2.ensures.near c.both.result c.both.ensures.place

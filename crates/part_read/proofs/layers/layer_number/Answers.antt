use Rattle.std.proofs.Common.{◌≡◌, ◌∙◌, sym, true, false, ℕ, List, ◌∷◌, Some, IsTrue}
use Rattle.std.specs.Prelude.{codes}
use Rattle.sexpr_read.specs.Tree.{value}
use Rattle.sexpr_read.specs.TreeViews.{tree_of}
use Rattle.list_read.proofs.Words.{text_is}
use Rattle.part_read.proofs.LayerNames.{front_is, back_is, no_layer}
use Rattle.part_read.proofs.layers.layer_number.Goals as goal

pub returns-then-is-clause-number : goal.returns-then-is-clause-number
returns-then-is-clause-number c =
    let named : IsTrue c.is.result = c.if-is.true in
    sym (front_is (tree_of c.args.atom) (c.is.ensures.0 named))

pub returns-then-is-2-clause-number : goal.returns-then-is-2-clause-number
returns-then-is-2-clause-number c =
    let named : IsTrue c.is-2.result = c.if-is-2.true in
    sym (back_is (tree_of c.args.atom) (c.is-2.ensures.0 named))

pub returns-clause-number : goal.returns-clause-number
returns-clause-number c =
    let atom = tree_of c.args.atom in
    let inner : (rest : List ℕ) → value atom ≡ Some (0x49 ∷ rest) → ⊥ = λ rest begins. (let e : true ≡ false = sym (c.may_begin.ensures rest begins) ∙ c.if-may_begin.false in cc) in
    let front = text_is atom (codes "F.Cu") c.is.result c.is.ensures ∙ c.if-is.false in
    let back = text_is atom (codes "B.Cu") c.is-2.result c.is-2.ensures ∙ c.if-is-2.false in
    sym (no_layer atom inner front back)

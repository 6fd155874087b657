use Rattle.std.proofs.Common.{rules, ◌≡◌, false, ◌∷◌, w64, to_z, of_z}
use Rattle.sexpr_read.specs.Tree.{parts, is_list}
use Rattle.sexpr_read.specs.TreeViews.{tree_of, trees_left}
use Rattle.pcb_read.proofs.UsualOrder.{track_usual}
use Rattle.pcb_read.proofs.usual.usual_track.Goals as goal

pub returns-clause-read : goal.returns-clause-read
returns-clause-read c =
    let h = tree_of c.in_ok-next.field-0 in
    let t1 = tree_of c.in_ok-next-2.field-0 in
    let t2 = tree_of c.in_ok-next-3.field-0 in
    let t3 = tree_of c.in_ok-next-4.field-0 in
    let t4 = tree_of c.in_ok-next-5.field-0 in
    let t5 = tree_of c.in_ok-next-6.field-0 in
    let t6 = tree_of c.in_ok-name.name in
    let rest = trees_left c.next-7.new.self in
    let are : parts (tree_of c.args.node) ≡ h ∷ t1 ∷ t2 ∷ t3 ∷ t4 ∷ t5 ∷ t6 ∷ rest = search rules in
    let atom : is_list h ≡ false = search rules in
    let width : to_z w64 (of_z w64 c.in_ok-width.width) ≡ c.in_ok-width.width = search rules in
    rw width (rw c.of.ensures.value (track_usual c.args.copper (tree_of c.args.node) h t1 t2 t3 t4 t5 t6 rest are c.in_ok-net.net c.in_ok-a.a c.in_ok-b.b c.in_ok-width.width c.in_ok-layer.layer atom
    c.in_ok-a.ensures c.in_ok-b.ensures c.in_ok-width.ensures c.in_ok-layer.ensures.layer c.in_ok-net.ensures (search rules)))

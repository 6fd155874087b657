use Rattle.std.proofs.Common.{rules, ◌≡◌, codes, Some, [], ◌∷◌, w64, to_z, of_z}
use Rattle.sexpr_read.specs.Tree.{parts, value}
use Rattle.sexpr_read.specs.TreeViews.{tree_of, trees_left}
use Rattle.pcb_read.proofs.UsualOrder.{via_usual}
use Rattle.pcb_read.proofs.usual.usual_via.Goals as goal

pub returns-clause-read : goal.returns-clause-read
returns-clause-read c =
    let h = tree_of c.in_ok-next.field-0 in
    let t1 = tree_of c.in_ok-next-2.field-0 in
    let t2 = tree_of c.in_ok-next-3.field-0 in
    let t3 = tree_of c.in_ok-next-4.field-0 in
    let t4 = tree_of c.in_ok-next-5.field-0 in
    let t5 = tree_of c.in_ok-next-6.field-0 in
    let t6 = tree_of c.in_ok-name.name in
    let rest = trees_left c.next-7.new.self in
    let are : parts (tree_of c.args.node) ≡ h ∷ t1 ∷ t2 ∷ t3 ∷ t4 ∷ t5 ∷ t6 ∷ rest = search rules in
    let via : value h ≡ Some (codes "via") = search rules in
    let ended : rest ≡ [] = search rules in
    let size : to_z w64 (of_z w64 c.in_ok-size.size) ≡ c.in_ok-size.size = search rules in
    let drill : to_z w64 (of_z w64 c.in_ok-drill.drill) ≡ c.in_ok-drill.drill = search rules in
    rw size (rw drill (via_usual c.args.copper (tree_of c.args.node) h t1 t2 t3 t4 t5 t6 rest are c.in_ok-net.net c.in_ok-at.at c.in_ok-size.size c.in_ok-drill.drill c.in_ok-layers.layers via ended
    c.in_ok-at.ensures c.in_ok-size.ensures c.in_ok-drill.ensures c.in_ok-layers.ensures.layers c.in_ok-net.ensures (search rules)))

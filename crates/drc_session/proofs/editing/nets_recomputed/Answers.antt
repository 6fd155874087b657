use Rattle.std.proofs.Common.{List, ℕ, sym, subst}
use Rattle.kept_nets.specs.TouchedNets.{AreTouched}
use Rattle.drc_session.proofs.Known.{are_touched}
use Rattle.drc_session.proofs.editing.nets_recomputed.Goals as goal

pub returns : goal.returns
returns g c = λ old edit was parts.
    let board = c.args.board.now in
    let ids = c.args.ids.now in
    let are = are_touched old board ids c.args.touched.items c.push_nets.new.nets.items c.put_in_order.new.ids.items was c.in_ok-push_nets.ensures.nets c.in_ok-push_nets.ensures.kept c.put_in_order.ensures.kept in
    c.update_parts.ensures old ids edit (subst (λ (nets : List ℕ). AreTouched old board ids nets) (sym c.deref.ensures.value) are) parts

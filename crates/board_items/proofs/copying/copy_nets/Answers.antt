use Rattle.std.proofs.Common.{◌≡◌, ◌∙◌, ap, sym, subst, ℕ, List, [], ◌∷◌, ◌++◌, append_assoc}
use Rattle.board_items.specs.Boards.{AreDistinct}
use Rattle.board_items.specs.BoardIterators.{nets_left}
use Rattle.board_items.proofs.Copies.{absent_before}
use Rattle.board_items.proofs.copying.copy_nets.Goals as goal

pub push_net-requires : goal.push_net-requires
push_net-requires c =
    let whole : nets_left c.args.nets ≡ c.loop-net.names.entries ++ (c.in-Some.net, c.in-Some.name.now) ∷ nets_left c.next.new.self = c.loop-net.invariant ∙ ap (λ (ns : List (ℕ × List ℕ)). c.loop-net.names.entries ++ ns) c.in-Some.ensures.steps in
    absent_before c.in-Some.net c.in-Some.name.now c.loop-net.names.entries (nets_left c.next.new.self) (subst AreDistinct whole c.requires)

pub loop-net-preserved : goal.loop-net-preserved
loop-net-preserved c =
    c.loop-net.invariant ∙ ap (λ (ns : List (ℕ × List ℕ)). c.loop-net.names.entries ++ ns) c.in-Some.ensures.steps
    ∙ sym (append_assoc c.loop-net.names.entries ((c.in-Some.net, c.in-Some.name.now) ∷ []) (nets_left c.next.new.self))
    ∙ ap (λ (ns : List (ℕ × List ℕ)). ns ++ nets_left c.next.new.self) (sym c.in_default.ensures)

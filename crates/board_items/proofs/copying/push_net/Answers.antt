use Rattle.std.proofs.Common.{◌∙◌, ap, ℕ, List, [], ◌∷◌, ◌++◌, nat_eq}
use Rattle.indexmap.proofs.CallerLemmas.{insert_entry-new}
use Rattle.board_items.proofs.copying.push_net.Goals as goal

pub returns : goal.returns
returns c =
    c.in_ok-insert.ensures.entries ∙ insert_entry-new nat_eq c.args.names.now c.args.net c.in_ok-copy.copy c.requires
    ∙ ap (λ (n : List ℕ). c.args.names.now.entries ++ (c.args.net, n) ∷ []) c.in_ok-copy.ensures.value

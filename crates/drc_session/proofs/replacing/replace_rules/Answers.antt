use Rattle.std.proofs.Common.{inl, refl, true}
use Rattle.drc_session.specs.SessionContents.{state_of}
use Rattle.drc_session.proofs.Settled.{all_applied}
use Rattle.drc_session.proofs.replacing.replace_rules.Goals as goal

pub returns-clause-applied : goal.returns-clause-applied
returns-clause-applied g c =
    let now = c.reach_recomputed.new.parts in
    let rows = c.in-Ok-check_all.ensures in
    (all_applied (state_of now) now.index c.in-Ok.ensures.index c.in-Ok-check_all.checked.1 rows.held (state_of c.args.parts.now) true (inl refl) rows.tiles, rows.dealt)

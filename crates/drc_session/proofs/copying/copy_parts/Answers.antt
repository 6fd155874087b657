use Rattle.std.proofs.Common.{sym, ◌∙◌}
use Rattle.drc_session.proofs.Clearances.{as_passed}
use Rattle.drc_session.proofs.Kept.{kept_alike}
use Rattle.drc_session.proofs.copying.copy_parts.Goals as goal

pub returns-clause-kept : goal.returns-clause-kept
returns-clause-kept c =
    let old = c.args.parts.now in
    kept_alike old _ c.in-Ok.ensures.board c.in-Ok.ensures.classes c.in-Ok.ensures.rules c.in_ok-facts.ensures (sym (as_passed old.reach c.requires.in_range)) c.in_ok-index.ensures (c.in_ok-rows.ensures.items ∙ c.deref.ensures.value) (c.in_ok-nets.ensures ∙ c.deref-2.ensures.value) c.requires

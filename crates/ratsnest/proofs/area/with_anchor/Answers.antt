use Rattle.ratsnest.proofs.area.with_anchor.Goals as goal

pub returns-clause-rest : goal.returns-clause-rest
returns-clause-rest c = λ a h. (c.with.ensures.rest a.x h.0, c.with-2.ensures.rest a.y h.1)

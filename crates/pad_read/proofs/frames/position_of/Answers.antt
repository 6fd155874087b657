use Rattle.pad_read.proofs.frames.position_of.Goals as goal

pub returns-clause-within : goal.returns-clause-within
returns-clause-within c = c.stand.ensures.within 1000000000000 c.requires.at

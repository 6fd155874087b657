use Rattle.pad_read.proofs.copper.middle_of.Goals as goal

pub returns-clause-within : goal.returns-clause-within
returns-clause-within c = c.stand.ensures.within 2000000000000 c.requires.at

use Rattle.kept_facts.proofs.Stays as stays
use Rattle.kept_facts.proofs.laws.facts_stay.Goals as goal

pub returns : goal.returns
returns c = λ old new ids edit item far classes facts h. stays.facts_stay old new ids edit item far classes facts h

-- What was gathered, and what is still to come.
use Rattle.std.proofs.Common.{◌≡◌, refl, List, [], Option, None, Some}
use Rattle.part_read.specs.There.{after}

pub after_none : {A : Type 0} (rest : Option (List A)) → after [] rest ≡ rest
after_none None = refl
after_none (Some ys) = refl

use Rattle.std.proofs.Common.{Result, Ok, Err, OnOk, ap}
use Rattle.std.specs.Option.{option_copied}
use Rattle.kept_facts.proofs.Concerns.{near_nothing, near_reached}
use Rattle.kept_facts.proofs.asking.push_near.Goals as goal

then : {E : Type 0} {P Q : Type 0} (r : Result (Unit {0}) E) → OnOk r P → (P → Q) → OnOk r Q
then (Ok v) h f = f h
then (Err e) h f = tt

pub returns-in-None-bounds_of : goal.returns-in-None-bounds_of
returns-in-None-bounds_of c = near_nothing c.args.index.now c.args.ids.now.items (option_copied c.args.mark) c.in-Some.mark.now (ap option_copied c.in-Some.is) c.in-None-bounds_of.ensures.least

pub returns-in-Some-bounds_of : goal.returns-in-Some-bounds_of
returns-in-Some-bounds_of c =
    then c.push_ids_near.result c.push_ids_near.ensures.reached
    (λ r. near_reached c.args.index.now c.args.ids.now.items (option_copied c.args.mark) c.in-Some.mark.now c.in-Some-bounds_of.bounds c.push_ids_near.new.ids.items (ap option_copied c.in-Some.is) c.in-Some-bounds_of.ensures.least r)

use Rattle.std.proofs.Common.{ℕ, List, length, take, drop, ◌++◌, OnOk, Result, Ok, Err, sym, subst}
use Rattle.std.specs.List.{AllZip}
use Rattle.net_groups.specs.declared.works.Work.{Work}
use Rattle.net_groups.specs.Works.{AreFound}
use Rattle.kept_nets.specs.NetPlans.{AreWorksUpTo, IsPlan}
use Rattle.net_groups.specs.NetParts.{IsNetPart}
use Rattle.kept_nets.proofs.Plans.{planned}
use Rattle.kept_nets.proofs.Touched.{numbers, long_numbers, own_numbers, others_stay}
use Rattle.net_groups.proofs.Written.{whole}
use Rattle.kept_nets.proofs.updating.update_parts.Goals as goal

then : {E : Type 0} {P Q : Type 0} (r : Result (Unit {0}) E) → OnOk r P → (P → Q) → OnOk r Q
then (Ok v) h f = f h
then (Err e) h f = tt

pub returns : goal.returns
returns g c = λ old ids edit t are.
    let board = c.args.board.now in
    let parts = c.args.parts.now in
    let nets = numbers parts in
    let works = c.in_ok-works.works in
    let found = c.find_parts.new.works in
    let same : AreFound board works.items found = subst (λ (ws : List Work). AreFound board ws found) c.deref_mut.ensures.value c.find_parts.ensures in
    let due : AreWorksUpTo nets c.args.nets.now (length nets) works.items = subst (λ (n : ℕ). AreWorksUpTo nets c.args.nets.now n works.items) (long_numbers parts) c.in_ok-works.ensures in
    let plan : IsPlan board nets parts found = planned board nets c.args.nets.now parts works.items found (long_numbers parts) (others_stay old board ids c.args.nets.now edit t parts are) due same in
    let as_written : IsPlan board nets parts (take works.len (found ++ drop (length found) works.items)) = subst (IsPlan board nets parts) (sym (whole works.len works.items found same.long works.ok.0)) plan in
    then c.put_parts.result c.put_parts.ensures (λ h. subst (λ (ns : List ℕ). AllZip (IsNetPart board) ns c.put_parts.new.parts) (sym (own_numbers old board ids c.args.nets.now edit t parts are)) (h board nets as_written))

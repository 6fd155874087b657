use Rattle.std.proofs.Common.{◌≡◌, List, ℕ, Some, subst}
use Rattle.std.specs.List.{AllZip}
use Rattle.rayon.proofs.ListFacts.{IfOk-then}
use Rattle.net_groups.specs.NetParts.{PlainNetPart}
use Rattle.net_groups.specs.declared.works.Work.{Work}
use Rattle.net_groups.specs.NetParts.{IsNetPart}
use Rattle.net_groups.specs.Works.{AreFound}
use Rattle.net_groups.proofs.Gathered.{gathered}
use Rattle.net_groups.proofs.Written.{whole}
use Rattle.net_groups.proofs.all.all_parts.Goals as goal

pub returns : goal.returns
returns g c =
    let board = c.args.board.now in
    let works = c.in_ok-works.works in
    let found = c.find_parts.new.works in
    let same : AreFound board works.items found = subst (λ (ws : List Work). AreFound board ws found) c.deref_mut.ensures.value c.find_parts.ensures in
    IfOk-then c.parts_of.result _ _ c.parts_of.ensures (λ parts h.
    subst (λ (nets : List ℕ). AllZip (IsNetPart board) nets parts.items) c.in_ok-works.ensures
    (gathered board works.items found parts.items same (subst (λ (ws : List Work). AllZip (λ (w : Work) (part : PlainNetPart). w.part ≡ Some part) ws parts.items) (whole works.len works.items found same.long works.ok.0) h)))

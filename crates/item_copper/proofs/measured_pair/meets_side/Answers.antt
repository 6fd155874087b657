use Rattle.std.proofs.Common.{◌↔◌, List, IsTrue, subst}
use Rattle.std.specs.List.{Any}
use Rattle.geo_seg.specs.Distances.{Meet}
use Rattle.one_item.specs.declared.parts.Part.{Part}
use Rattle.item_copper.proofs.SideLists.{of_listed, of_single, of_any, single_part}
use Rattle.item_copper.proofs.measured_pair.meets_side.Goals as goal

pub returns-in-Listed : goal.returns-in-Listed
returns-in-Listed c =
    subst (λ (ps : List Part). IsTrue c.meets_listed.result ↔ Any (λ other. Meet c.args.shape.now other.shape) ps) (of_listed c.args.side.now c.in-Listed.listed c.in-Listed.is) c.meets_listed.ensures

pub returns-in-Single : goal.returns-in-Single
returns-in-Single c =
    subst (λ (ps : List Part). IsTrue c.meet.result ↔ Any (λ other. Meet c.args.shape.now other.shape) ps) (of_single c.args.side.now c.in-Single.single c.in-Single.is)
    (of_any (λ (other : Part). Meet c.args.shape.now other.shape) (single_part c.in-Single.single) c.meet.result c.meet.ensures)

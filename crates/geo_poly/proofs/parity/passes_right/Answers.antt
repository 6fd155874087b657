use Rattle.std.proofs.Common.{true, false, refl, ◌∙◌}
use Rattle.geo_seg.specs.Gap.{cross_of}
use Rattle.int_algebra.proofs.Scalars.{passed, passed_is}
use Rattle.geo_poly.proofs.Outline.{passes_at, low_kept}
use Rattle.geo_poly.proofs.parity.passes_right.Goals as goal

pub returns-then-e-p-2 : goal.returns-then-e-p-2
returns-then-e-p-2 c =
    let p = c.args.p in let e = c.args.e in
    passes_at p e true true (cross_of p e) refl (low_kept e.a.y p.y true e.a.y_in_range p.y_in_range c.if-e-p.true) (low_kept e.b.y p.y true e.b.y_in_range p.y_in_range c.if-e-p-2.true)

pub returns-else-e-p-2 : goal.returns-else-e-p-2
returns-else-e-p-2 c =
    let p = c.args.p in let e = c.args.e in let u = c.side_of.result in
    passes_at p e true false (passed u) (passed_is u c.side_of.ensures.in_range ∙ c.side_of.ensures.value) (low_kept e.a.y p.y true e.a.y_in_range p.y_in_range c.if-e-p.true) (low_kept e.b.y p.y false e.b.y_in_range p.y_in_range c.if-e-p-2.false)

pub returns-then-e-p-3 : goal.returns-then-e-p-3
returns-then-e-p-3 c =
    let p = c.args.p in let e = c.args.e in let u = c.side_of-then-e-p-3.result in
    passes_at p e false true (passed u) (passed_is u c.side_of-then-e-p-3.ensures.in_range ∙ c.side_of-then-e-p-3.ensures.value) (low_kept e.a.y p.y false e.a.y_in_range p.y_in_range c.if-e-p.false) (low_kept e.b.y p.y true e.b.y_in_range p.y_in_range c.if-e-p-3.true)

pub returns-else-e-p-3 : goal.returns-else-e-p-3
returns-else-e-p-3 c =
    let p = c.args.p in let e = c.args.e in
    passes_at p e false false (cross_of p e) refl (low_kept e.a.y p.y false e.a.y_in_range p.y_in_range c.if-e-p.false) (low_kept e.b.y p.y false e.b.y_in_range p.y_in_range c.if-e-p-3.false)

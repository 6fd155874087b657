use Rattle.std.proofs.Common.{◌≡◌, inl, inr}
use Rattle.geo_seg.specs.Gap.{turn, turn_a, turn_b}
use Rattle.geo_seg.proofs.Passed.{cross_seen, framed_ahead, framed_behind}
use Rattle.geo_seg.proofs.Choices.{fails_by, either_way}
use Rattle.geo_seg.proofs.near.crosses.Goals as goal

pub returns-then-is_framed : goal.returns-then-is_framed
returns-then-is_framed c =
    let u = c.between-way_a.ensures in
    let v = c.between-way_b.ensures in
    let w = c.between-from_b.ensures in
    let a = c.args.a in let b = c.args.b in
    let t : c.cross-whole.result ≡ turn a b = cross_seen _ _ _ _ _ _ _ _ _ u.x u.y v.x v.y c.cross-whole.ensures.value in
    let i : c.cross-part_a.result ≡ turn_a a b = cross_seen _ _ _ _ _ _ _ _ _ v.x v.y w.x w.y c.cross-part_a.ensures.value in
    let j : c.cross-part_b.result ≡ turn_b a b = cross_seen _ _ _ _ _ _ _ _ _ u.x u.y w.x w.y c.cross-part_b.ensures.value in
    let f = framed_ahead a b _ _ _ t i j c.cross-whole.ensures.in_range c.cross-part_a.ensures.in_range c.cross-part_b.ensures.in_range in
    (λ h. inl (f.0 (c.is_framed.ensures.0 h)), λ _. c.if-is_framed.true)

pub returns-else-is_framed : goal.returns-else-is_framed
returns-else-is_framed c =
    let u = c.between-way_a.ensures in
    let v = c.between-way_b.ensures in
    let w = c.between-from_b.ensures in
    let a = c.args.a in let b = c.args.b in
    let t : c.cross-whole.result ≡ turn a b = cross_seen _ _ _ _ _ _ _ _ _ u.x u.y v.x v.y c.cross-whole.ensures.value in
    let i : c.cross-part_a.result ≡ turn_a a b = cross_seen _ _ _ _ _ _ _ _ _ v.x v.y w.x w.y c.cross-part_a.ensures.value in
    let j : c.cross-part_b.result ≡ turn_b a b = cross_seen _ _ _ _ _ _ _ _ _ u.x u.y w.x w.y c.cross-part_b.ensures.value in
    let f = framed_ahead a b _ _ _ t i j c.cross-whole.ensures.in_range c.cross-part_a.ensures.in_range c.cross-part_b.ensures.in_range in
    let g = framed_behind a b _ _ _ t i j c.cross-whole.ensures.in_range c.cross-part_a.ensures.in_range c.cross-part_b.ensures.in_range in (
      λ h. inr (g.0 (c.is_framed-else-is_framed.ensures.0 h)),
      either_way (λ h. absurd (fails_by _ c.is_framed.ensures c.if-is_framed.false (f.1 h))) (λ h. c.is_framed-else-is_framed.ensures.1 (g.1 h)),
    )

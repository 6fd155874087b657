use Rattle.std.proofs.Common.{eq-eqb, refl, sym, subst, IsTrue, ℤ, ◌↔◌}
use Rattle.geo_seg.specs.Points.{IsOn}
use Rattle.geo_seg.specs.Nearer.{AreApart}
use Rattle.geo_seg.specs.Gap.{IsCrossing, AreEndsApart}
use Rattle.geo_seg.proofs.SegAnswers.{apart_zero, apart_where}
use Rattle.geo_seg.proofs.Passed.{at_d, d_zero, d_positive}
use Rattle.geo_seg.proofs.Choices.{and_first, and_second, through, not_and_first, not_and_second, and_assoc}
use Rattle.geo_seg.proofs.near.are_off.Goals as goal
use Rattle.geo_seg.proofs.near.are_off.Goals.{then-not-crosses, else-not-crosses}

pub returns-then-d-eq0 : goal.returns-then-d-eq0
returns-then-d-eq0 c =
    (λ _. subst (λ (z : ℤ). AreApart (IsOn c.args.a) (IsOn c.args.b) z) (sym (d_zero c.args.d c.requires.from c.requires.to c.if-d-eq0.true)) (apart_zero c.args.a c.args.b), λ _. eq-eqb _ _ c.if-d-eq0.true)

pub returns-then-ends_apart : goal.returns-then-ends_apart
returns-then-ends_apart c =
    let a = c.args.a in let b = c.args.b in let d = c.args.d in
    let e : IsTrue c.if-not-crosses.value ↔ ((¬ (IsCrossing a b)) × AreEndsApart a b d) =
    elim c.if-not-crosses.branch [
      | then-not-crosses w ↦ not_and_second _ _ _ c.crosses.ensures (at_d (λ (z : ℤ). AreEndsApart a b z) d _ c.requires.from c.requires.to w.ends_apart.ensures) w.if-not-crosses.true w.value-is
      | else-not-crosses w ↦ not_and_first _ _ c.crosses.ensures w.if-not-crosses.false w.value-is
    ] in
    through _ (and_second _ _ _ e (at_d (λ (z : ℤ). AreEndsApart b a z) d _ c.requires.from c.requires.to c.ends_apart-then-ends_apart.ensures) c.if-ends_apart.true refl) (and_assoc (apart_where d a b (d_positive d c.requires.from c.requires.to c.if-d-eq0.false)))

pub returns-else-ends_apart : goal.returns-else-ends_apart
returns-else-ends_apart c =
    let a = c.args.a in let b = c.args.b in let d = c.args.d in
    let e : IsTrue c.if-not-crosses.value ↔ ((¬ (IsCrossing a b)) × AreEndsApart a b d) =
    elim c.if-not-crosses.branch [
      | then-not-crosses w ↦ not_and_second _ _ _ c.crosses.ensures (at_d (λ (z : ℤ). AreEndsApart a b z) d _ c.requires.from c.requires.to w.ends_apart.ensures) w.if-not-crosses.true w.value-is
      | else-not-crosses w ↦ not_and_first _ _ c.crosses.ensures w.if-not-crosses.false w.value-is
    ] in
    through _ (and_first _ _ e c.if-ends_apart.false refl) (and_assoc (apart_where d a b (d_positive d c.requires.from c.requires.to c.if-d-eq0.false)))

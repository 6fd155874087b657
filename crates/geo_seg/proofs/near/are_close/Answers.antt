use Rattle.std.proofs.Common.{refl, ℤ, IsTrue, ◌↔◌, ◌⊎◌}
use Rattle.geo_seg.specs.Gap.{IsCrossing, IsEndReached}
use Rattle.geo_seg.proofs.SegAnswers.{reached_where}
use Rattle.geo_seg.proofs.Passed.{at_d}
use Rattle.geo_seg.proofs.Choices.{or_first, or_second, through, or_assoc}
use Rattle.geo_seg.proofs.near.are_close.Goals as goal
use Rattle.geo_seg.proofs.near.are_close.Goals.{then-crosses, else-crosses}

pub returns-then-ends_within : goal.returns-then-ends_within
returns-then-ends_within c =
    let a = c.args.a in let b = c.args.b in let d = c.args.d in
    let e : IsTrue c.if-crosses.value ↔ (IsCrossing a b ⊎ IsEndReached a b d) =
    elim c.if-crosses.branch [
      | then-crosses w ↦ or_first _ _ c.crosses.ensures w.if-crosses.true w.value-is
      | else-crosses w ↦ or_second _ _ _ c.crosses.ensures (at_d (λ (z : ℤ). IsEndReached a b z) d _ c.requires.from c.requires.to w.ends_within.ensures) w.if-crosses.false w.value-is
    ] in
    through _ (or_first _ _ e c.if-ends_within.true refl) (or_assoc (reached_where d a b c.requires.from))

pub returns-else-ends_within : goal.returns-else-ends_within
returns-else-ends_within c =
    let a = c.args.a in let b = c.args.b in let d = c.args.d in
    let e : IsTrue c.if-crosses.value ↔ (IsCrossing a b ⊎ IsEndReached a b d) =
    elim c.if-crosses.branch [
      | then-crosses w ↦ or_first _ _ c.crosses.ensures w.if-crosses.true w.value-is
      | else-crosses w ↦ or_second _ _ _ c.crosses.ensures (at_d (λ (z : ℤ). IsEndReached a b z) d _ c.requires.from c.requires.to w.ends_within.ensures) w.if-crosses.false w.value-is
    ] in
    through _ (or_second _ _ _ e (at_d (λ (z : ℤ). IsEndReached b a z) d _ c.requires.from c.requires.to c.ends_within-else-ends_within.ensures) c.if-ends_within.false refl) (or_assoc (reached_where d a b c.requires.from))

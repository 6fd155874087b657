use Rattle.std.proofs.Common.{◌≡◌, ◌↔◌, ℤ, pos, ◌≤ℤ◌, ◌<ℤ◌, true, IsTrue, of_z, sym, arith}
use Rattle.std.specs.Int.Signed.{le_z}
use Rattle.std.proofs.lemmas.Int.{ints}
use mir.Syntax.{w64}
use Rattle.plain_types.specs.Lengths.{IsLength}
use Rattle.geo_seg.specs.Distances.{IsGap}
use Rattle.int_algebra.proofs.Scalars.{passed}
use Rattle.one_item.specs.declared.item.Item.{Item}
use Rattle.cond_lang.specs.declared.kind.Kind.{Kind}
use Rattle.kind_subjects.specs.declared.layer.RowLayer.{RowLayer}
use Rattle.kind_subjects.specs.MeasuredPair.{KeepAt}
use Rattle.kind_subjects.proofs.NearLayers.{gap_reaches, gap_kept, passed_gap, kept_unmet}
use Rattle.kind_subjects.proofs.near.are_kept.Goals as goal

some : (v : ℤ) → pos 0 ≤ℤ v → v ≤ℤ pos 500000000 → (of_z w64 v ≡ 0 → ⊥) → pos 1 ≤ℤ v
some v h k n = omega (arith, ints, n)

-- the test of what the call gives
not_less : (v gap : ℤ) → pos 0 ≤ℤ v → v ≤ℤ pos 500000000 → IsTrue (le_z (passed v) (passed gap)) ↔ v ≤ℤ passed gap
not_less v gap h k = (λ t. omega (arith, ints), λ l. let e : true ≡ le_z (passed v) (passed gap) = omega (arith, ints) in sym e)

kept : (kind : Kind) (layer : RowLayer) (a b : Item) (v gap : ℤ) → IsLength v → (of_z w64 v ≡ 0 → ⊥) → IsGap (KeepAt kind layer a b) (passed v) gap → (IsTrue (le_z (passed v) (passed gap)) ↔ ((pos 0 <ℤ v) × KeepAt kind layer a b v))
kept kind layer a b v gap range n gapped =
    let is : IsGap (KeepAt kind layer a b) v (passed gap) = passed_gap (KeepAt kind layer a b) v gap range gapped in
    let most = some v range.from range.to n in
    let test = not_less v gap range.from range.to in
    (λ t. (omega (arith, ints, most), gap_kept kind layer a b v (passed gap) is (test.0 t)), λ k. test.1 (gap_reaches kind layer a b v (passed gap) is most k.1))

pub returns-then-least-ne0-clause-keep : goal.returns-then-least-ne0-clause-keep
returns-then-least-ne0-clause-keep c = kept c.args.kind c.args.layer c.args.a.now c.args.b.now c.args.least c.gap_at.result c.requires.least c.if-least-ne0.true c.gap_at.ensures

pub returns-then-least-ne0-clause-meet : goal.returns-then-least-ne0-clause-meet
returns-then-least-ne0-clause-meet c = λ e.
    let a = c.args in
    let k = (kept a.kind a.layer a.a.now a.b.now a.least c.gap_at.result c.requires.least c.if-least-ne0.true c.gap_at.ensures).0 e in
    kept_unmet a.kind a.layer a.a.now a.b.now a.least (some a.least c.requires.least.from c.requires.least.to c.if-least-ne0.true) k.1

use Rattle.std.proofs.Common.{inl, inr, sym, subst, arith}
use Rattle.std.proofs.lemmas.Bool.{cases_eq}
use Rattle.std.proofs.lemmas.List.{get_or_default}
use Rattle.ratsnest.specs.declared.indexed_anchor.IndexedAnchor.{IndexedAnchor}
use Rattle.ratsnest.specs.Forest.{IsLinkInside, indexed_anchor_at, no_indexed_anchor}
use Rattle.ratsnest.proofs.area.area_of.Goals as goal

pub loop-i-preserved : goal.loop-i-preserved
loop-i-preserved c = λ k lo hi l. elim (cases_eq k c.loop-i.i) [
  | inl e ↦ subst (λ z. IsLinkInside c.with_anchor-area.result (indexed_anchor_at c.args.indexed_anchors.now z).anchor) (sym e)
      (subst (λ (s : IndexedAnchor). IsLinkInside c.with_anchor-area.result s.anchor)
      (get_or_default c.args.indexed_anchors.now c.loop-i.i c.index-indexed_anchors-i.result no_indexed_anchor (omega (arith, l, e))) c.with_anchor-area.ensures.here)
  | inr n ↦ c.with_anchor-area.ensures.rest (indexed_anchor_at c.args.indexed_anchors.now k).anchor (c.loop-i.invariant k lo (omega arith) l)
]

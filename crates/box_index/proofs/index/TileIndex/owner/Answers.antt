use Rattle.std.proofs.Common.{◌∙◌, ℕ, ap, sym, subst}
use Rattle.box_index.specs.Tiles.{PlainIndex, IsSoundIndex, OwnsBoth, margin, owner_of}
use Rattle.box_index.proofs.TileLemmas.{owns_both}
use Rattle.box_index.proofs.Buckets.{index_of, margin_is, wide_from}
use Rattle.box_index.proofs.index.TileIndex.owner.Goals as goal

pub returns-clause-value : goal.returns-clause-value
returns-clause-value c = c.owner.ensures.value ∙ ap (λ m. owner_of m c.args.first c.args.second) (margin_is (index_of c.self.inside.reach c.self.inside.boxes) c.args.self.now c.self.view_is c.self.invariant.0)

pub returns-clause-both : goal.returns-clause-both
returns-clause-both c =
    let value = c.owner.ensures.value ∙ ap (λ m. owner_of m c.args.first c.args.second) (margin_is (index_of c.self.inside.reach c.self.inside.boxes) c.args.self.now c.self.view_is c.self.invariant.0) in
    let sound = subst (λ (i : PlainIndex). IsSoundIndex i) c.self.view_is c.self.invariant.0 in
    subst (λ (tile : ℕ). OwnsBoth (margin c.args.self.now) c.args.first c.args.second tile) (sym value)
    (owns_both (margin c.args.self.now) c.args.first c.args.second (wide_from c.args.self.now.reach sound.reach_from) c.requires.first c.requires.second)

use Rattle.std.proofs.Common.{◌≡◌, ◌<◌, ◌+◌, ◌-◌, ◌/◌, ℕ, length, get_or, arith, inl, inr, subst}
use Rattle.std.proofs.lemmas.Bool.{cases_lt}
use Rattle.std.proofs.lemmas.List.{get_or_default}
use Rattle.ratsnest.specs.declared.link.Link.{Link}
use Rattle.ratsnest.specs.Grow.{rank}
use Rattle.ratsnest.proofs.Climbing.{climbs_at}
use Rattle.ratsnest.proofs.Grew.{zero_link}
use Rattle.ratsnest.proofs.growing.place_for.Goals as goal

pub halves-preserved-then-precedes : goal.halves-preserved-then-precedes
halves-preserved-then-precedes c =
    let links = c.args.links.now in
    let middle : ℕ = c.halves.low + (c.halves.high - c.halves.low) / 2 in
    let less : middle < length links = omega (arith, c.halves-test.true, c.halves.invariant.within) in
    let first : rank (get_or links middle zero_link) < rank c.args.link = c.precedes.ensures.0 c.if-precedes.true in
    let at : (d : Link) → rank (get_or links middle d) < rank c.args.link =
    λ d. subst (λ (z : Link). rank z < rank c.args.link) (get_or_default links middle zero_link d less) first in
    record {
      order = omega (arith, c.halves-test.true);
      within = c.halves.invariant.within;
      below = λ k d h. elim (cases_lt k middle) [
        | inl before ↦ omega (arith, climbs_at rank links c.requires k middle d before less, at d)
        | inr last ↦ let same : middle ≡ k = omega arith in subst (λ (n : ℕ). rank (get_or links n d) < rank c.args.link) same (at d)
      ];
      above = c.halves.invariant.above;
    }

use Rattle.std.proofs.Common.{refl, sym, ap, subst, ◌∙◌, ℤ, Some}
use Rattle.rule_pick.specs.Picks.{pick_of}
use Rattle.int_algebra.proofs.Scalars.{passed, passed_length}
use Rattle.kind_subjects.specs.LimitedLengths.{times, IsQuotient}
use Rattle.pair_check.specs.Singles.{BreaksLimit}
use Rattle.pair_check.specs.Rows.{deciders}
use Rattle.pair_check.specs.CheckViews.{checked_by}
use Rattle.kind_subjects.proofs.LengthRanges.{passed_is_length, passed_is_within, within_passed}
use Rattle.kind_subjects.proofs.SingleLayers.{limit_layer}
use Rattle.pair_check.proofs.RowsOfSingle.{limit_in_order, breaks_limit}
use Rattle.pair_check.proofs.single.limit_row.Goals as goal

pub invariant_of-result : goal.invariant_of-result
invariant_of-result c =
    let d = deciders (checked_by c.args.view.now) in
    let a = c.args in
    let off = c.in_ok-off.off in
    let where_first = c.in_ok-off.ensures.broken.1 in
    record {
      ordered = limit_in_order a.kind a.id c.requires.limit;
      layer = limit_layer d.copper a.kind a.single.item.now off.layer where_first.tried where_first.holds.asked;
      value = passed_is_length off.limit.nm c.in_ok-off.ensures.range;
      gap = passed_is_within c.length_once.result c.length_once.ensures.range;
      severity = c.in_ok-off.ensures.broken.0.counts;
    }

pub returns : goal.returns
returns c =
    let d = deciders (checked_by c.args.view.now) in
    let a = c.args in
    let n = c.in_ok-n.n in
    let off = c.in_ok-off.off in
    let is = c.in_ok-off.ensures.broken.0 in
    let range = c.in_ok-off.ensures.range in
    record {
      is = record {
        first_is = refl;
        second_is = refl;
        broken =
            breaks_limit d a.single.item.now a.single.facts.now a.kind _ c.requires.limit
            (record {
              length = passed n;
              measured = sym c.in_ok-n.ensures.value ∙ ap (λ (z : ℤ). Some z) (sym (within_passed n c.in_ok-n.ensures.range));
              where_first = c.in_ok-off.ensures.broken.1;
              pick = pick_of off.picked;
              picked = is.picked;
              broken = subst (λ (z : ℤ). BreaksLimit a.kind (passed n) (pick_of off.picked) off.limit.over z) (sym (passed_length off.limit.nm range.from range.to)) is.broken;
              gap = subst (λ (z : ℤ). IsQuotient (passed n) (times a.kind) z) (sym (within_passed c.length_once.result c.length_once.ensures.range)) c.length_once.ensures.quotient;
              source = refl;
              severity = refl;
            });
      };
      kind_is = refl;
    }

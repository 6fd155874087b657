use Rattle.std.proofs.Common.{refl, sym, ◌∙◌, IsTrue, arith}
use Rattle.std.proofs.lemmas.Int.{ints}
use Rattle.kind_subjects.specs.declared.layer.RowLayer.{RowLayer}
use Rattle.kind_subjects.specs.MeasuredPair.{MeetAt}
use Rattle.kind_subjects.specs.Compared.{is_compared}
use Rattle.pair_check.specs.Rows.{deciders}
use Rattle.pair_check.specs.CheckViews.{checked_by}
use Rattle.pair_check.specs.Stages.{pair_of}
use Rattle.kind_subjects.proofs.NearLayers.{meeting_layer}
use Rattle.kind_subjects.proofs.TriedLayers.{first_in}
use Rattle.pair_check.proofs.RowsOfPair.{meeting_in_order, breaks_meeting}
use Rattle.pair_check.proofs.pair.meeting_row.Goals as goal

pub invariant_of-result : goal.invariant_of-result
invariant_of-result c =
    let a = c.args in
    let p = a.pair in
    let where_first = c.in_ok-layer.ensures in
    record {
      ordered = meeting_in_order a.kind a.first a.second c.requires.meets c.requires.ordered;
      layer = meeting_layer c.copper.result a.kind c.in_ok-layer.layer p.a.now p.b.now where_first.tried where_first.holds;
      value = record { from = omega (arith, ints); to = omega (arith, ints) };
      gap = record { from = omega (arith, ints); to = omega (arith, ints) };
      severity = tt;
    }

pub returns : goal.returns
returns c =
    let d = deciders (checked_by c.args.view.now) in
    let a = c.args in
    let p = a.pair in
    let compared : IsTrue (is_compared a.kind p.a.now p.b.now) = sym c.is_compared.ensures ∙ c.if-not-is_compared.false in
    record {
      is = record {
        first_is = refl;
        second_is = refl;
        broken =
            breaks_meeting d (pair_of p) a.kind _ c.requires.meets
            (record {
              compared = compared;
              where_first = first_in c.copper.result d.copper (λ (layer : RowLayer). MeetAt a.kind layer p.a.now p.b.now) c.in_ok-layer.layer c.copper.ensures c.in_ok-layer.ensures;
              value = refl;
              gap = refl;
              over = refl;
              source = refl;
              severity = refl;
            });
      };
      kind_is = refl;
    }

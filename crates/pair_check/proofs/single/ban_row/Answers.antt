use Rattle.std.proofs.Common.{refl, arith}
use Rattle.std.proofs.lemmas.Int.{ints}
use Rattle.rule_pick.specs.Picks.{pick_of}
use Rattle.pair_check.specs.Rows.{deciders}
use Rattle.pair_check.specs.CheckViews.{checked_by}
use Rattle.pair_check.proofs.RowsOfSingle.{ban_in_order, ban_layer, breaks_ban}
use Rattle.pair_check.proofs.single.ban_row.Goals as goal

pub invariant_of-result : goal.invariant_of-result
invariant_of-result c =
    let d = deciders (checked_by c.args.view.now) in
    let a = c.args in
    let where_first = c.in_ok-found.ensures.1 in
    record {
      ordered = ban_in_order a.kind a.id c.requires.ban;
      layer = ban_layer d.copper a.kind a.single.item.now c.in_ok-found.found.layer c.requires.ban where_first.tried where_first.holds.asked;
      value = record { from = omega (arith, ints); to = omega (arith, ints) };
      gap = record { from = omega (arith, ints); to = omega (arith, ints) };
      severity = c.in_ok-found.ensures.0.counts;
    }

pub returns : goal.returns
returns c =
    let d = deciders (checked_by c.args.view.now) in
    let a = c.args in
    let is = c.in_ok-found.ensures.0 in
    record {
      is = record {
        first_is = refl;
        second_is = refl;
        broken =
            breaks_ban d a.single.item.now a.single.facts.now a.kind _ c.requires.ban
            (record {
              where_first = c.in_ok-found.ensures.1;
              pick = pick_of c.in_ok-found.found.picked;
              picked = is.picked;
              value = refl;
              gap = refl;
              over = refl;
              source = refl;
              severity = refl;
            });
      };
      kind_is = refl;
    }

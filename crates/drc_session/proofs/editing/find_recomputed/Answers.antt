use Rattle.std.proofs.Common.{◌∙◌, ℤ, List, sym, subst, false}
use Rattle.std.proofs.lemmas.List.{with_items_is}
use Rattle.net_groups.specs.NetParts.{PlainNetPart, AreParts}
use Rattle.plain_types.specs.Lengths.{IsLength}
use Rattle.rule_text.specs.RuleValues.{plain_rules}
use Rattle.drc_state.specs.States.{checked_in}
use Rattle.drc_state.specs.Recheck.{IsFarthest}
use Rattle.drc_session.specs.declared.parts.Parts.{Parts}
use Rattle.drc_session.specs.SessionContents.{state_of, state_with, IsKept}
use Rattle.drc_session.specs.Sessions.{IsApplied}
use Rattle.drc_session.proofs.Clearances.{as_passed}
use Rattle.drc_session.proofs.Edited.{facts_again, nets_again, index_again}
use Rattle.drc_session.proofs.Settled.{edit_applied}
use Rattle.drc_session.proofs.editing.find_recomputed.Goals as goal

pub rows_after-requires-clause-facts : goal.rows_after-requires-clause-facts
rows_after-requires-clause-facts g c κs within =
    (facts_again c.requires.edited.0 c.args.parts.now c.args.ids.now c.args.look c.requires.edited.1 c.deref.result.now c.deref.ensures.value c.update_facts.new.facts c.in_ok-changed.changed.items c.in_ok-changed.ensures).0

pub rows_after-requires-clause-changed : goal.rows_after-requires-clause-changed
rows_after-requires-clause-changed g c κs within =
    (facts_again c.requires.edited.0 c.args.parts.now c.args.ids.now c.args.look c.requires.edited.1 c.deref.result.now c.deref.ensures.value c.update_facts.new.facts c.in_ok-changed.changed.items c.in_ok-changed.ensures).1.rise

pub rows_after-requires-clause-index : goal.rows_after-requires-clause-index
rows_after-requires-clause-index g c κs within =
    let after = c.reach_after-reach in
    let index = c.in_ok-index_recomputed.ensures in
    index_again c.requires.edited.0 c.args.parts.now c.args.ids.now c.args.look c.requires.edited.1 c.as_slice-rules.result.now c.as_slice-rules.ensures after.result after.ensures.in_range after.ensures.value
    c.index_recomputed.new.index index.reach index.items

pub returns-clause-kept : goal.returns-clause-kept
returns-clause-kept g c =
    let was = c.requires.edited.0 in
    let h = c.requires.edited.1 in
    let parts = c.args.parts.now in
    let ids = c.args.ids.now in
    let after = c.reach_after-reach in
    let index = c.in_ok-index_recomputed.ensures in
    let facts = facts_again was parts ids c.args.look h c.deref.result.now c.deref.ensures.value c.update_facts.new.facts c.in_ok-changed.changed.items c.in_ok-changed.ensures in
    let nets = nets_again was parts ids c.args.look h c.deref_mut.result.now c.nets_recomputed.new.nets c.deref_mut.ensures.value c.in_ok-nets_recomputed.ensures in
    subst (λ (p : Parts). IsKept p) (sym c.in_ok-applied.ensures.rest)
    (record {
      facts = facts.0;
      index = index_again was parts ids c.args.look h c.as_slice-rules.result.now c.as_slice-rules.ensures after.result after.ensures.in_range after.ensures.value c.index_recomputed.new.index index.reach index.items;
      reach = sym index.reach;
      in_range = subst (λ (z : ℤ). IsLength z) (as_passed after.result after.ensures.in_range) after.ensures.in_range;
      rows = c.in_ok-applied.ensures.rows (checked_in (state_with was parts)) (facts.1.step (plain_rules parts.rules).rules) h.kept.rows;
      nets = subst (λ (n : List PlainNetPart). AreParts parts.board n) (sym (with_items_is parts.nets c.nets_recomputed.new.nets (c.nets_recomputed.auto.nets ∙ c.deref_mut.ensures.len))) nets;
      few = h.kept.few;
    })

pub returns-clause-applied : goal.returns-clause-applied
returns-clause-applied g c = λ was h.
    let parts = c.args.parts.now in
    let ids = c.args.ids.now in
    let after = c.reach_after-reach in
    let index = c.in_ok-index_recomputed.ensures in
    let facts = facts_again was parts ids c.args.look h c.deref.result.now c.deref.ensures.value c.update_facts.new.facts c.in_ok-changed.changed.items c.in_ok-changed.ensures in
    let index_is = index_again was parts ids c.args.look h c.as_slice-rules.result.now c.as_slice-rules.ensures after.result after.ensures.in_range after.ensures.value c.index_recomputed.new.index index.reach index.items in
    let was_far = subst (λ (z : ℤ). IsFarthest (checked_in (state_with was parts)) z) (sym h.kept.reach) h.kept.index.reach in
    let applied = c.in_ok-applied.ensures in
    let before = as_passed parts.reach h.kept.in_range in
    let all = edit_applied was parts.board parts.classes (plain_rules parts.rules) ids c.in_ok-changed.changed.items h.edited parts.facts c.update_facts.new.facts h.kept.facts facts.0 facts.1 c.index_recomputed.new.index index_is parts.reach was_far c.args.look.boxes.items h.looked.boxes c.in_ok-applied.applied applied.held
    c.is_same-stays.result (λ e. index.reach ∙ c.is_same-stays.ensures.same e ∙ sym before) (λ e same. c.is_same-stays.ensures.other e (sym index.reach ∙ sym same ∙ before)) applied.near applied.all in
    subst (λ (p : Parts). IsApplied (state_with was parts) (state_of p) false c.in_ok-applied.applied) (sym applied.rest) all

use Rattle.std.proofs.Common.{◌∙◌, ◌+◌, inl, inr, ℕ, List, take, sym, subst, ap, true≢false}
use Rattle.std.proofs.lemmas.List.{get_or_default}
use Rattle.row_check.proofs.TileRows.{in_changed, changed_in}
use Rattle.kept_facts.specs.ConcernedItems.{AreFoundAgain}
use Rattle.kept_facts.proofs.Again.{again_more, again_skip}
use Rattle.kept_facts.proofs.updating.find_all_again.Goals as goal
use Rattle.kept_facts.proofs.updating.find_all_again.Goals.{then-differs+in_ok-push, then-differs-via-then-differs, then-differs-via-else-differs+then-is_changed, else-differs+else-is_changed}

pub loop-place-preserved : goal.loop-place-preserved
loop-place-preserved c =
    let board = c.args.sources.now.board.now in
    let classes = c.args.sources.now.classes.now in
    let ids = c.args.ids.now in
    let asked = c.args.asked.now in
    let at = c.loop-place in
    let lt = c.loop-place-test.true in
    let after = c.find_again.new.facts in
    let found = c.in_ok-differs.ensures.found in (
      c.in_ok-differs.ensures.known,
      elim c.if-differs.branch [
        | then-differs+in_ok-push w ↦ subst (λ (changed : List ℕ). AreFoundAgain board classes ids (take (at.place + 1) asked) c.args.facts.now after changed) (sym (ap (λ v. v.items) w.changed-is ∙ w.in_ok-push.ensures.items))
            (again_more board classes ids asked at.place _ lt (get_or_default asked at.place _ _ lt) c.requires.asked c.args.facts.now at.facts after at.changed.items at.invariant.1 c.in_ok-differs.differs found
            (elim w.then-differs.branch [
              | then-differs-via-then-differs w' ↦ inl w'.if-differs.true
              | then-differs-via-else-differs+then-is_changed w' ↦ inr (changed_in ids _ (sym w'.is_changed.ensures ∙ w'.if-is_changed.true))
            ]))
        | else-differs+else-is_changed w ↦ subst (λ (changed : List ℕ). AreFoundAgain board classes ids (take (at.place + 1) asked) c.args.facts.now after changed) (sym (ap (λ v. v.items) w.changed-is))
            (again_skip board classes ids asked at.place _ lt (get_or_default asked at.place _ _ lt) c.requires.asked c.args.facts.now at.facts after at.changed.items at.invariant.1 c.in_ok-differs.differs found w.if-differs.false
            (λ h. true≢false (sym (in_changed ids _ h) ∙ (sym w.is_changed.ensures ∙ w.if-is_changed.false))))
      ],
    )

use Rattle.std.proofs.Common.{◌≡◌, ◌⊎◌, inl, inr, ◌+◌, suc, sym, ◌∙◌, false, arith}
use Rattle.std.specs.Prelude.{slice_index_or}
use Rattle.sexpr_read.specs.Comments.{shown}
use Rattle.sexpr_read.proofs.Joined.{gap_space}
use Rattle.sexpr_read.proofs.Lines.{feed_after, feed_shown, space_after, blank_shown, return_after, return_shown, no_space, plain_from}
use Rattle.sexpr_read.proofs.comments.comments_end.Goals as goal
use Rattle.sexpr_read.proofs.comments.comments_end.Goals.{then-byte-eq32-via-then-byte-eq32, then-byte-eq32-via-else-byte-eq32+then-byte-eq9, then-byte-ne35-via-then-byte-ne35, then-byte-ne35-via-else-byte-ne35+then-not-blank}

pub gap-preserved-then-byte-eq10 : goal.gap-preserved-then-byte-eq10
gap-preserved-then-byte-eq10 c =
    let next : c.gap.end + 1 ≡ suc c.gap.end = omega arith in
    let b = sym c.byte_at-byte.ensures ∙ c.if-byte-eq10.true in
    record {
      gap = rw next (gap_space (shown c.args.text.now) _ _ c.gap.invariant.gap (feed_shown _ _ b));
      within = omega arith;
      line = λ low. rw next (feed_after _ _ c.gap.blank (c.gap.invariant.line c.gap-test.true) b);
    }

pub gap-preserved-then-byte-eq32 : goal.gap-preserved-then-byte-eq32
gap-preserved-then-byte-eq32 c =
    let next : c.gap.end + 1 ≡ suc c.gap.end = omega arith in
    let b : (slice_index_or c.args.text.now c.gap.end 0x20 ≡ 0x20) ⊎ (slice_index_or c.args.text.now c.gap.end 0x20 ≡ 0x09) =
    elim c.then-byte-eq32.branch [
      | then-byte-eq32-via-then-byte-eq32 w ↦ inl (sym c.byte_at-byte.ensures ∙ w.if-byte-eq32.true)
      | then-byte-eq32-via-else-byte-eq32+then-byte-eq9 w ↦ inr (sym c.byte_at-byte.ensures ∙ w.if-byte-eq9.true)
    ] in
    record {
      gap = rw next (gap_space (shown c.args.text.now) _ _ c.gap.invariant.gap (blank_shown _ _ b));
      within = omega arith;
      line = λ low. rw next (space_after _ _ c.gap.blank (c.gap.invariant.line c.gap-test.true) b);
    }

pub gap-preserved-then-byte-eq13 : goal.gap-preserved-then-byte-eq13
gap-preserved-then-byte-eq13 c =
    let next : c.gap.end + 1 ≡ suc c.gap.end = omega arith in
    let b = sym c.byte_at-byte.ensures ∙ c.if-byte-eq13.true in
    record {
      gap = rw next (gap_space (shown c.args.text.now) _ _ c.gap.invariant.gap (return_shown _ _ b));
      within = omega arith;
      line = λ low. rw next (return_after _ _ c.gap.blank (c.gap.invariant.line c.gap-test.true) b);
    }

pub returns-then-byte-ne35-clause-plain : goal.returns-then-byte-ne35-clause-plain
returns-then-byte-ne35-clause-plain c = λ low.
    let other : (slice_index_or c.args.text.now c.gap.end 0x20 ≡ 0x23 → ⊥) ⊎ (c.gap.blank ≡ false) =
    elim c.then-byte-ne35.branch [
      | then-byte-ne35-via-then-byte-ne35 w ↦ inl (λ e. w.if-byte-ne35.true (c.byte_at-byte.ensures ∙ e))
      | then-byte-ne35-via-else-byte-ne35+then-not-blank w ↦ inr w.if-not-blank.true
    ] in
    plain_from _ _ c.gap.blank (c.gap.invariant.line low)
    (no_space _ _ (λ e. c.if-byte-eq32.false (c.byte_at-byte.ensures ∙ e)) (λ e. c.if-byte-eq9.false (c.byte_at-byte.ensures ∙ e))
    (λ e. c.if-byte-eq10.false (c.byte_at-byte.ensures ∙ e)) (λ e. c.if-byte-eq13.false (c.byte_at-byte.ensures ∙ e)))
    other

pub returns-then-byte-ne35-clause-stops : goal.returns-then-byte-ne35-clause-stops
returns-then-byte-ne35-clause-stops c = λ low.
    no_space _ _ (λ e. c.if-byte-eq32.false (c.byte_at-byte.ensures ∙ e)) (λ e. c.if-byte-eq9.false (c.byte_at-byte.ensures ∙ e))
    (λ e. c.if-byte-eq10.false (c.byte_at-byte.ensures ∙ e)) (λ e. c.if-byte-eq13.false (c.byte_at-byte.ensures ∙ e))

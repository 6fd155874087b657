use Rattle.std.proofs.Common.{arith, ◌∙◌, sym, refl, false, inl, inr}
use Rattle.std.proofs.lemmas.Bool.{both_ways, le-leb, leb-true}
use Rattle.json_exact.proofs.Scanning.{half_if, half_only, Half}
use Rattle.json_exact.proofs.strings.is_half.Goals as goal
use Rattle.json_exact.proofs.strings.is_half.Goals.{then-stop-text-via-then-stop-text, then-stop-text-via-else-stop-text+then-stop-at-lt3, then-text-at-ne92-via-then-text-at-ne92, then-text-at-ne92-via-else-text-at-ne92+then-text-at-ne117, then-text-at-ne92-via-else-text-at-ne92+else-text-at-ne117+then-not-is_d}

pub returns-then-stop-text : goal.returns-then-stop-text
returns-then-stop-text c = (
  λ e. absurd (both_ways false refl e),
  λ x. absurd (let h : Half c.args.text.now c.args.at c.args.stop = half_only _ _ _ c.requires.order x in
      elim c.then-stop-text.branch [ then-stop-text-via-then-stop-text w ↦ omega (arith, h.in_text) | then-stop-text-via-else-stop-text+then-stop-at-lt3 w ↦ omega (arith, h.long) ]),
)

pub returns-then-text-at-ne92 : goal.returns-then-text-at-ne92
returns-then-text-at-ne92 c = (
  λ e. absurd (both_ways false refl e),
  λ x. absurd (let h : Half c.args.text.now c.args.at c.args.stop = half_only _ _ _ c.requires.order x in
      elim c.then-text-at-ne92.branch [
        | then-text-at-ne92-via-then-text-at-ne92 w ↦ w.if-text-at-ne92.true h.backslash
        | then-text-at-ne92-via-else-text-at-ne92+then-text-at-ne117 w ↦ w.if-text-at-ne117.true h.u
        | then-text-at-ne92-via-else-text-at-ne92+else-text-at-ne117+then-not-is_d w ↦ both_ways _ w.if-not-is_d.true (w.is_d.ensures ∙ h.d)
      ]),
)

pub returns-then-is_low_digit : goal.returns-then-is_low_digit
returns-then-is_low_digit c = (
  λ e. half_if c.args.text.now c.args.at c.args.stop (omega arith) (omega arith) c.if-text-at-ne92.false c.if-text-at-ne117.false (sym c.is_d.ensures ∙ c.if-not-is_d.false) (inl (sym c.is_low_digit.ensures ∙ e)),
  λ x. c.if-is_low_digit.true,
)

pub returns-then-is_high_digit : goal.returns-then-is_high_digit
returns-then-is_high_digit c = (
  λ e. half_if c.args.text.now c.args.at c.args.stop (omega arith) (omega arith) c.if-text-at-ne92.false c.if-text-at-ne117.false (sym c.is_d.ensures ∙ c.if-not-is_d.false)
      (inr (sym c.is_high_digit.ensures ∙ c.if-is_high_digit.true, omega (arith, leb-true 6 _ e))),
  λ x. (let h : Half c.args.text.now c.args.at c.args.stop = half_only _ _ _ c.requires.order x in
      elim h.digit [ inl y ↦ absurd (both_ways _ c.if-is_low_digit.false (c.is_low_digit.ensures ∙ y)) | inr y ↦ le-leb 6 _ (omega (arith, y.1)) ]),
)

pub returns-else-is_high_digit : goal.returns-else-is_high_digit
returns-else-is_high_digit c = (
  λ e. absurd (both_ways _ c.if-is_high_digit.false e),
  λ x. absurd (let h : Half c.args.text.now c.args.at c.args.stop = half_only _ _ _ c.requires.order x in
      elim h.digit [ inl y ↦ both_ways _ c.if-is_low_digit.false (c.is_low_digit.ensures ∙ y) | inr y ↦ both_ways _ c.if-is_high_digit.false (c.is_high_digit.ensures ∙ y.0) ]),
)

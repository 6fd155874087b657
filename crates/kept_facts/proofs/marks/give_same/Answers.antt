use Rattle.std.proofs.Common.{sym, ◌∙◌, true≢false}
use Rattle.std.specs.Option.{option_copied}
use Rattle.kept_facts.proofs.Concerns.{give_same, same_titles, same_references}
use Rattle.kept_facts.proofs.marks.give_same.Goals as goal

pub returns-then-is_same : goal.returns-then-is_same
returns-then-is_same c =
    let item = c.args.item.now in
    let before = option_copied c.args.before in
    let now = option_copied c.args.now in (
      (λ h. give_same item before now _ _ _ _ c.title_if.ensures c.title_if-2.ensures c.reference_if.ensures c.reference_if-then-is_same.ensures (c.is_same.ensures.0 c.if-is_same.true) (c.is_same-then-is_same.ensures.0 h)),
      (λ g. c.is_same-then-is_same.ensures.1 (same_references item before now _ _ c.reference_if.ensures c.reference_if-then-is_same.ensures g)),
    )

pub returns-else-is_same : goal.returns-else-is_same
returns-else-is_same c =
    let item = c.args.item.now in
    let before = option_copied c.args.before in
    let now = option_copied c.args.now in (
      (λ h. absurd (true≢false (sym h ∙ c.if-is_same.false))),
      (λ g. c.is_same.ensures.1 (same_titles item before now _ _ c.title_if.ensures c.title_if-2.ensures g)),
    )

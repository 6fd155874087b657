use Rattle.std.proofs.Common.{◌∙◌, ℤ, ap}
use Rattle.std.specs.BTreeMap as tree
use Rattle.courtyard.specs.EndGroups.{place_cmp}
use Rattle.footprint_read.specs.Courtyards.{at, many_at}
use Rattle.footprint_read.proofs.closing.has_two.Goals as goal

pub returns : goal.returns
returns c =
    c.is_two.ensures (many_at (at c.args.raw_point) c.args.lines.now)
    (c.copied.ensures ∙ c.get.ensures.value ∙ ap (λ (k : ℤ × ℤ). tree.get place_cmp c.args.counts.now k) c.key_of-key.ensures ∙ c.requires.found (at c.args.raw_point))

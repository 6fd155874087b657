use Rattle.std.proofs.Common.{◌≡◌, ℤ, ◌∙◌, Some, cond}
use Rattle.std.specs.BTreeMap as tree
use Rattle.courtyard.specs.EndGroups.{place_cmp}
use Rattle.footprint_read.proofs.Counting.{entered}
use Rattle.footprint_read.proofs.closing.enter.Goals as goal

pub returns : goal.returns
returns c =
    let key = c.key_of-key.ensures in
    let found : c.copied-found.result ≡ tree.get place_cmp c.args.counts.now c.key_of-key.result = c.copied-found.ensures ∙ c.get.ensures.value in
    let news : (k : ℤ × ℤ) → tree.get place_cmp c.insert.new.self k ≡ cond (tree.is_at (place_cmp c.key_of-key.result) k) (Some c.more.result) (tree.get place_cmp c.args.counts.now k) = c.in_ok-insert.ensures.updates.0 in
    let step = entered c.args.counts.now c.insert.new.self c.key_of-key.result c.copied-found.result c.more.result found c.more.ensures news in
    rw key at step

use Rattle.std.proofs.Common.{◌∙◌, ◌++◌, ap, Option, length, arith}
use Rattle.std.proofs.lemmas.List.{length-append}
use Rattle.std.proofs.lemmas.Option.{slice_get_within}
use Rattle.box_index.specs.declared.kept.Sides.{Sides}
use Rattle.box_index.specs.BoxSlots.{far_entries}
use Rattle.box_index.proofs.FarLemmas.{first_far, first_past, popped, rest_far, moved}
use Rattle.box_index.proofs.kept.move_first.Goals as goal

pub returns-in_err-fill_up-clause-within : goal.returns-in_err-fill_up-clause-within
returns-in_err-fill_up-clause-within c =
    let past = first_past (length c.args.slots.now.items) c.args.first c.args.far.now.entries c.requires.far c.requires.first in
    let short = c.fill_up.ensures.within c.args.first.0 past (omega arith) in
    omega (arith, short)

pub returns-in_err-push-clause-far : goal.returns-in_err-push-clause-far
returns-in_err-push-clause-far c =
    let past = first_past (length c.args.slots.now.items) c.args.first c.args.far.now.entries c.requires.far c.requires.first in
    let short = c.fill_up.ensures.within c.args.first.0 past (omega arith) in
    let same = ap length c.in_err-push.ensures.items in
    first_far (length c.push.new.self.items) c.args.first c.args.far.now.entries c.requires.far.rising c.requires.first (omega (arith, short, same))

pub returns-in_err-push-clause-within : goal.returns-in_err-push-clause-within
returns-in_err-push-clause-within c =
    let past = first_past (length c.args.slots.now.items) c.args.first c.args.far.now.entries c.requires.far c.requires.first in
    let short = c.fill_up.ensures.within c.args.first.0 past (omega arith) in
    let same = ap length c.in_err-push.ensures.items in
    omega (arith, short, same)

pub returns-clause-same : goal.returns-clause-same
returns-clause-same c =
    let past = first_past (length c.args.slots.now.items) c.args.first c.args.far.now.entries c.requires.far c.requires.first in
    let short = c.fill_up.ensures.within c.args.first.0 past (omega arith) in
    let rest = popped c.args.first c.args.far.now.entries c.pop_first.new.self.entries c.pop_first.result c.requires.first (c.pop_first.ensures.variant.1 (slice_get_within c.args.far.now.entries 0 c.args.first c.requires.first)) c.pop_first.ensures.removal in
    moved c.args.first c.fill_up.new.slots.items c.push.new.self.items c.args.far.now.entries c.pop_first.new.self.entries (omega (arith, short, c.in_ok-fill_up.ensures.filled)) c.in_ok-push.ensures.items rest
    ∙ ap (λ es. es ++ far_entries c.args.far.now.entries) c.fill_up.ensures.same

pub returns-clause-far : goal.returns-clause-far
returns-clause-far c =
    let past = first_past (length c.args.slots.now.items) c.args.first c.args.far.now.entries c.requires.far c.requires.first in
    let short = c.fill_up.ensures.within c.args.first.0 past (omega arith) in
    let long = ap length c.in_ok-push.ensures.items in
    let rest = popped c.args.first c.args.far.now.entries c.pop_first.new.self.entries c.pop_first.result c.requires.first (c.pop_first.ensures.variant.1 (slice_get_within c.args.far.now.entries 0 c.args.first c.requires.first)) c.pop_first.ensures.removal in
    rest_far (length c.push.new.self.items) c.args.first c.args.far.now.entries c.pop_first.new.self.entries rest c.requires.far.rising (omega (arith, short, long, length-append {A = Option Sides}))

pub returns-clause-within : goal.returns-clause-within
returns-clause-within c =
    let past = first_past (length c.args.slots.now.items) c.args.first c.args.far.now.entries c.requires.far c.requires.first in
    let short = c.fill_up.ensures.within c.args.first.0 past (omega arith) in
    let long = ap length c.in_ok-push.ensures.items in
    omega (arith, short, long, length-append {A = Option Sides})

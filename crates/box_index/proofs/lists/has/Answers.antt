use Rattle.std.proofs.Common.{◌≡◌, ◌≢◌, ◌∙◌, ℕ, false, ap, nat_eq, arith}
use Rattle.std.proofs.lemmas.Bool.Decides.{nat_tests}
use Rattle.std.proofs.lemmas.List.{get_or_default}
use Rattle.box_index.specs.declared.entry.Entry.{Entry}
use Rattle.box_index.proofs.EntryLists.{absent_at}
use Rattle.box_index.proofs.lists.has.Goals as goal

differ : (a b : ℕ) → nat_eq a b ≡ false → a ≢ b
differ a b h = grind (arith, nat_tests)

pub returns-then-place-entries-clause-absent : goal.returns-then-place-entries-clause-absent
returns-then-place-entries-clause-absent c other =
    let xs = c.args.entries.now in
    let k = c.place_of-place.result in
    absent_at c.args.id xs k (record { below = c.place_of-place.ensures.below; from = c.place_of-place.ensures.from }) c.requires
    (λ d l e. differ _ _ other (ap (λ (v : Entry). v.id) (get_or_default xs k _ d l) ∙ e))

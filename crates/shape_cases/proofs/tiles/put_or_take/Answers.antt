use Rattle.std.proofs.Common.{◌≡◌, ◌≢◌, ℕ, true, List, not, ◌==◌, sym, subst, arith}
use Rattle.std.proofs.lemmas.Bool.Decides.{nat_tests}
use Rattle.std.proofs.lemmas.List.Elements.{All-weaker, filter_passes}
use Rattle.box_index.specs.declared.entry.Entry.{Entry}
use Rattle.box_index.specs.Tiles.{PlainIndex, IsAbsent, without}
use Rattle.shape_cases.proofs.tiles.put_or_take.Goals as goal

differ : (a b : ℕ) → not (a == b) ≡ true → a ≢ b
differ a b h = grind (arith, nat_tests)

-- what was taken out is not there
gone : (id : ℕ) (xs : List Entry) → IsAbsent id (without id xs)
gone id xs =
    All-weaker (λ (x : Entry). not (x.id == id) ≡ true) (λ (x : Entry). x.id ≢ id) (λ x h. differ x.id id h) (without id xs) (filter_passes (λ (x : Entry). not (x.id == id)) xs)

pub insert-requires-clause-absent : goal.insert-requires-clause-absent
insert-requires-clause-absent c =
    let id = c.in_ok-id.id in
    subst (λ (i : PlainIndex). IsAbsent id i.entries) (sym c.remove.ensures) (gone id c.args.index.now.entries)

use Rattle.std.proofs.Common.{◌≡◌, ℕ, List, Contains, sym, subst}
use lib.Dec.{eqb}
use Rattle.std.specs.List.{dedup}
use Rattle.std.specs.List.Sorted.{IsStrictlyIncreasing}
use Rattle.std.proofs.lemmas.List.Filters.{dedup_is}
use Rattle.std.proofs.lemmas.List.Kept.{Contains-dedup_nat, Contains-from_dedup}
use Rattle.std.proofs.lemmas.List.Sorted.{Contains-permutation, IsPermutation-sym}
use Rattle.std.proofs.lemmas.Map.Keys.{IsStrictlyIncreasing-dedup}
use Rattle.box_index.proofs.near.put_in_order.Goals as goal

pub returns : goal.returns
returns c =
    let old = c.args.ids.now.items in
    let sorted = c.sort_unstable.new.self.items in
    let new = c.dedup.new.self.items in
    let d : new ≡ dedup eqb sorted = dedup_is eqb sorted new c.dedup.ensures.filtered in
    record {
      rise = subst IsStrictlyIncreasing (sym d) (IsStrictlyIncreasing-dedup sorted c.sort_unstable.ensures.sorted);
      kept = λ id h. subst (λ (ids : List ℕ). Contains ids id) (sym d) (Contains-dedup_nat sorted id (Contains-permutation old sorted id c.sort_unstable.ensures.permutation h));
      only = λ id h. Contains-permutation sorted old id (IsPermutation-sym old sorted c.sort_unstable.ensures.permutation) (Contains-from_dedup eqb sorted id (subst (λ (ids : List ℕ). Contains ids id) d h));
    }

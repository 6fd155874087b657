use Rattle.std.proofs.lemmas.List.Sorted.{IsPermutation-trans, IsPermutation-put_mid}
use Rattle.ratsnest.proofs.tree.+put_together.Goals as goal

pub returns : goal.returns
returns t c = IsPermutation-trans _ _ _ (IsPermutation-put_mid _ _ _ _ c.sort_part.ensures) (IsPermutation-trans _ _ _ c.put_together.ensures c.put_together-2.ensures)

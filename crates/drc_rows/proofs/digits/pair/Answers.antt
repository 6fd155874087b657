use Rattle.std.proofs.Common.{ℕ, ◌<◌, ◌+◌, ◌/◌, ◌%◌, List, [], ◌∷◌, arith}
use Rattle.std.proofs.lemmas.List.FromFn.{get_or-map-range_with_len}
use Rattle.drc_rows.proofs.digits.pair.Goals as goal

-- the table, computed
abbrev digits_of : ℕ → List ℕ
digits_of n = (48 + n / 10) ∷ (48 + n % 10) ∷ []

pub returns : goal.returns
returns c = let h : c.args.n < 100 = c.requires in get_or-map-range_with_len digits_of 0 100 c.args.n c.args.n [] h (omega arith)

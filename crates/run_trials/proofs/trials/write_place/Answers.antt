use Rattle.std.proofs.Common.{◌≡◌, ◌++◌, ◌+◌, codes, decimal, rules, append_assoc, ℕ, List}
use Rattle.drc_io.proofs.Writing.{Writes-text}
use Rattle.run_trials.proofs.trials.write_place.Goals as goal

-- the pieces of the line, one behind another
pieces : (a d b h z : List ℕ) → a ++ (d ++ (b ++ (h ++ z))) ≡ a ++ d ++ b ++ h ++ z
pieces a d b h z = simp append_assoc

pub returns : goal.returns
returns g c =
    let place : c.as_bytes.result.now ≡ decimal (c.args.place + 1) = search rules in
    let count : c.as_bytes-2.result.now ≡ decimal c.args.count = search rules in
    let line : List ℕ = codes "least " ++ (c.as_bytes.result.now ++ (codes " with " ++ (c.as_bytes-2.result.now ++ codes " rows\n"))) in
    let text : line ≡ codes "least " ++ decimal (c.args.place + 1) ++ codes " with " ++ decimal c.args.count ++ codes " rows\n" =
    rw (place, count) (pieces (codes "least ") (decimal (c.args.place + 1)) (codes " with ") (decimal c.args.count) (codes " rows\n")) in
    Writes-text _ _ _ _ _ _ _ text c.write_pieces.ensures

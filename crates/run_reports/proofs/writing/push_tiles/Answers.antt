use Rattle.std.proofs.Common.{◌≡◌, ◌++◌, codes, decimal, rules, append_assoc, ℕ, List}
use Rattle.drc_rows.proofs.Lines.{Puts-text}
use Rattle.drc_rows.specs.ReportOf.{tiles_line}
use Rattle.run_reports.proofs.writing.push_tiles.Goals as goal

-- the pieces of the line, one behind another
pieces : (a d b h z : List ℕ) → a ++ (d ++ (b ++ (h ++ z))) ≡ a ++ d ++ b ++ h ++ z
pieces a d b h z = simp append_assoc

pub returns : goal.returns
unfolding tiles_line
returns g c =
    let done : c.as_bytes.result.now ≡ decimal c.args.tiles.done = search rules in
    let held : c.as_bytes-2.result.now ≡ decimal c.args.tiles.held = search rules in
    let line : List ℕ = codes "rechecked " ++ (c.as_bytes.result.now ++ (codes " of " ++ (c.as_bytes-2.result.now ++ codes " tiles\n"))) in
    let text : line ≡ tiles_line c.args.tiles.done c.args.tiles.held =
    rw (done, held) (pieces (codes "rechecked ") (decimal c.args.tiles.done) (codes " of ") (decimal c.args.tiles.held) (codes " tiles\n")) in
    Puts-text _ _ _ _ _ _ _ _ _ text c.push_all.ensures

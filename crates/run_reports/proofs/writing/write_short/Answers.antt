use Rattle.std.proofs.Common.{◌≡◌, ap, ◌++◌, ◌∙◌, sym, [], length, filter, codes, append_assoc, ℕ, List}
use Rattle.std.proofs.lemmas.Result.{err_from_is_err_and}
use Rattle.rule_text.specs.RuleValues.{plain_rules}
use Rattle.net_groups.specs.NetParts.{is_open}
use Rattle.drc_rows.specs.NoteLines.{note_count}
use Rattle.drc_rows.specs.Report.{number_line}
use Rattle.drc_rows.specs.ReportOf.{tiles_line, first_line, short_report}
use Rattle.drc_rows.proofs.Lines.{Puts-then, Puts-text, Puts-ends, Puts-broke, Puts-broke_off}
use Rattle.run_reports.specs.Counts.{counts_text}
use Rattle.run_reports.proofs.writing.write_short.Goals as goal

-- the line that opens it, the counts and the tiles, in two ways
grouped : (f a b d t : List ℕ) → f ++ (a ++ b ++ d) ++ t ≡ f ++ a ++ b ++ d ++ t
grouped f a b d t = simp append_assoc

-- the numbers that are written
counted : (rows notes nets n m : ℕ) → notes ≡ n → nets ≡ m → counts_text rows notes nets ≡ counts_text rows n m
counted rows notes nets n m p q = ap (λ x. counts_text rows x nets) p ∙ ap (counts_text rows n) q

pub returns-in_err-push_line : goal.returns-in_err-push_line
unfolding short_report
returns-in_err-push_line g c =
    let p = err_from_is_err_and c.from_residual.result c.from_residual.ensures.1 in
    let board = c.args.board.now in
    let rules = plain_rules c.args.rules.now in
    let first = first_line c.args.number in
    let counts = counts_text (length c.args.rows.now) (note_count board rules) (length (filter is_open c.args.parts.now)) in
    let tiles = tiles_line c.args.tiles.done c.args.tiles.held in
    let whole = sym (grouped first (number_line (codes "rows ") (length c.args.rows.now) []) (number_line (codes "not checked ") (note_count board rules) [])
    (number_line (codes "open nets ") (length (filter is_open c.args.parts.now)) []) tiles) ∙ append_assoc first counts tiles in
    Puts-broke_off _ _ _ _ _ first (counts ++ tiles) _ _ _ _ _ p.1 c.new-buffer.ensures whole c.in_err-push_line.ensures

pub returns-in_err-push_counts : goal.returns-in_err-push_counts
unfolding short_report
returns-in_err-push_counts g c =
    let p = err_from_is_err_and c.from_residual-in_err-push_counts.result c.from_residual-in_err-push_counts.ensures.1 in
    let board = c.args.board.now in
    let rules = plain_rules c.args.rules.now in
    let first = first_line c.args.number in
    let counts = counts_text (length c.args.rows.now) (note_count board rules) (length (filter is_open c.args.parts.now)) in
    let tiles = tiles_line c.args.tiles.done c.args.tiles.held in
    let whole = sym (grouped first (number_line (codes "rows ") (length c.args.rows.now) []) (number_line (codes "not checked ") (note_count board rules) [])
    (number_line (codes "open nets ") (length (filter is_open c.args.parts.now)) []) tiles) in
    let same = counted (length c.args.rows.now) _ _ _ _ c.count_notes.ensures c.count_open.ensures in
    Puts-broke_off _ _ _ _ _ (first ++ counts) tiles _ _ _ _ _ p.1 c.new-buffer.ensures whole
    (Puts-then _ _ _ _ _ _ _ _ _ _ _ _ _ c.in_ok-push_line.ensures (Puts-text _ _ _ _ _ _ _ _ _ same c.in_err-push_counts.ensures))

pub returns-in_err-push_tiles : goal.returns-in_err-push_tiles
unfolding short_report
returns-in_err-push_tiles g c =
    let p = err_from_is_err_and c.from_residual-in_err-push_tiles.result c.from_residual-in_err-push_tiles.ensures.1 in
    let board = c.args.board.now in
    let rules = plain_rules c.args.rules.now in
    let first = first_line c.args.number in
    let tiles = tiles_line c.args.tiles.done c.args.tiles.held in
    let whole = grouped first (number_line (codes "rows ") (length c.args.rows.now) []) (number_line (codes "not checked ") (note_count board rules) [])
    (number_line (codes "open nets ") (length (filter is_open c.args.parts.now)) []) tiles in
    let same = counted (length c.args.rows.now) _ _ _ _ c.count_notes.ensures c.count_open.ensures in
    Puts-broke _ _ _ _ _ _ _ _ _ _ p.1 c.new-buffer.ensures
    (Puts-text _ _ _ _ _ _ _ _ _ whole
    (Puts-then _ _ _ _ _ _ _ _ _ _ _ _ _ (Puts-then _ _ _ _ _ _ _ _ _ _ _ _ _ c.in_ok-push_line.ensures (Puts-text _ _ _ _ _ _ _ _ _ same c.in_ok-push_counts.ensures)) c.in_err-push_tiles.ensures))

pub returns : goal.returns
unfolding short_report
returns g c =
    let board = c.args.board.now in
    let rules = plain_rules c.args.rules.now in
    let first = first_line c.args.number in
    let tiles = tiles_line c.args.tiles.done c.args.tiles.held in
    let whole = grouped first (number_line (codes "rows ") (length c.args.rows.now) []) (number_line (codes "not checked ") (note_count board rules) [])
    (number_line (codes "open nets ") (length (filter is_open c.args.parts.now)) []) tiles in
    let same = counted (length c.args.rows.now) _ _ _ _ c.count_notes.ensures c.count_open.ensures in
    Puts-ends _ _ _ _ _ _ _ _ _ _ _ c.new-buffer.ensures
    (Puts-text _ _ _ _ _ _ _ _ _ whole
    (Puts-then _ _ _ _ _ _ _ _ _ _ _ _ _ (Puts-then _ _ _ _ _ _ _ _ _ _ _ _ _ c.in_ok-push_line.ensures (Puts-text _ _ _ _ _ _ _ _ _ same c.in_ok-push_counts.ensures)) c.in_ok-push_tiles.ensures))
    c.end.ensures

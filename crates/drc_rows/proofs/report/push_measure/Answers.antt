use Rattle.std.proofs.Common.{◌≡◌, ◌∙◌, sym, [], ◌++◌, List, ℕ, append_assoc, append-nil, codes}
use Rattle.std.proofs.lemmas.Result.{err_from_is_err_and}
use Rattle.exact_dec.specs.MillimetreText.{mm_text}
use Rattle.drc_rows.proofs.Scalars.{length_far, length_as, within_far, within_as, both_as}
use Rattle.drc_rows.proofs.Lines.{Puts-then, Puts-cut, Puts-text}
use Rattle.drc_rows.proofs.report.push_measure.Goals as goal

pub push_lengths-requires-clause-first : goal.push_lengths-requires-clause-first
push_lengths-requires-clause-first g c = length_far c.value.ensures.range

pub push_lengths-requires-clause-second : goal.push_lengths-requires-clause-second
push_lengths-requires-clause-second g c = within_far c.gap.ensures.range

-- a word behind a bar, and two lengths behind it
behind : (bar word a b c d : List ℕ) → bar ++ word ++ a ++ b ++ c ++ d ≡ (bar ++ (word ++ [])) ++ (a ++ b ++ c ++ d)
behind bar word a b c d = simp (append_assoc, append-nil)

pub returns-in_err-push_all : goal.returns-in_err-push_all
returns-in_err-push_all g c =
    let p = err_from_is_err_and c.from_residual.result c.from_residual.ensures.1 in
    let word = c.args.word.now in
    let row = c.args.row.now in
    let asked = mm_text row.value in
    let has = mm_text row.gap in
    Puts-cut _ _ _ _ _ (codes " | " ++ (word ++ [])) (codes " " ++ asked ++ codes " | has " ++ has) _ _ _ _ _ _ p.1 (behind (codes " | ") word (codes " ") asked (codes " | has ") has)
    c.in_err-push_all.ensures

pub returns : goal.returns
returns g c =
    let row = c.args.row.now in
    let lengths = both_as (codes " ") (codes " | has ") _ _ row.value row.gap (length_as c.value.ensures.range ∙ c.value.ensures.value) (within_as c.gap.ensures.range ∙ c.gap.ensures.value) in
    Puts-text _ _ _ _ _ _ _ _ _ (sym (behind (codes " | ") c.args.word.now (codes " ") (mm_text row.value) (codes " | has ") (mm_text row.gap)))
    (Puts-then _ _ _ _ _ _ _ _ _ _ _ _ _ c.in_ok-push_all.ensures (Puts-text _ _ _ _ _ _ _ _ _ lengths c.push_lengths.ensures))

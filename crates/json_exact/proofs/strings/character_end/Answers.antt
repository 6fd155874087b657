use Rattle.std.proofs.Common.{◌∙◌, sym, ap, refl, get_or, eqb, true, ◌≡◌, ◌||◌}
use Rattle.std.proofs.lemmas.Bool.{ne_eqb, or_left, or_right}
use Rattle.json_exact.specs.Characters.{character, escape, one, tail, within, is_plain, whole}
use Rattle.json_exact.proofs.Scanning.{character_on, on, off}
use Rattle.json_exact.proofs.strings.character_end.Goals as goal
use Rattle.json_exact.proofs.strings.character_end.Goals.{then-within-2, else-within-2}

pub returns-then-b-eq92 : goal.returns-then-b-eq92
returns-then-b-eq92 c =
    character_on escape c.args.text.now c.args.at c.escape_end.result c.requires.here (ap character c.if-b-eq92.true) c.escape_end.ensures

pub returns-then-within : goal.returns-then-within
returns-then-within c =
    let b = get_or c.args.text.now c.args.at 0 in
    character_on (tail whole) c.args.text.now c.args.at c.row_end.result c.requires.here
    (off (is_plain b) _ _ _ c.requires.not_plain (off (eqb b 92) _ _ _ (ne_eqb b 92 c.if-b-eq92.false) (on (within 194 223 b) (tail whole) _ _ (sym c.within.ensures ∙ c.if-within.true) refl))) c.row_end.ensures

pub returns-then-b : goal.returns-then-b
returns-then-b c =
    character_on (one (within 160 191) (tail whole)) c.args.text.now c.args.at c.row_end-then-b.result c.requires.here (ap character c.if-b.true) c.row_end-then-b.ensures

pub returns-then-within-3 : goal.returns-then-within-3
returns-then-within-3 c =
    let b = get_or c.args.text.now c.args.at 0 in
    let both : within 225 236 b || within 238 239 b ≡ true = elim c.if-within-2.branch [
      | then-within-2 w ↦ or_left (within 225 236 b) (within 238 239 b) (sym c.within-else-b.ensures ∙ w.if-within-2.true)
      | else-within-2 w ↦ or_right (within 225 236 b) (within 238 239 b) (sym w.within-else-within-2.ensures ∙ sym w.value-is ∙ c.if-within-3.true)
    ] in
    character_on (tail (tail whole)) c.args.text.now c.args.at c.row_end-then-within-3.result c.requires.here
    (off (is_plain b) _ _ _ c.requires.not_plain (off (eqb b 92) _ _ _ (ne_eqb b 92 c.if-b-eq92.false) (off (within 194 223 b) _ _ _ (sym c.within.ensures ∙ c.if-within.false)
    (off (eqb b 224) _ _ _ (ne_eqb b 224 c.if-b.false) (on (within 225 236 b || within 238 239 b) (tail (tail whole)) _ _ both refl))))) c.row_end-then-within-3.ensures

pub returns-then-b-2 : goal.returns-then-b-2
returns-then-b-2 c =
    character_on (one (within 128 159) (tail whole)) c.args.text.now c.args.at c.row_end-then-b-2.result c.requires.here (ap character c.if-b-2.true) c.row_end-then-b-2.ensures

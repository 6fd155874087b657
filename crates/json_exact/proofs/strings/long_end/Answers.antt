use Rattle.std.proofs.Common.{◌∙◌, sym, ap, refl, get_or, eqb}
use Rattle.std.proofs.lemmas.Bool.{ne_eqb}
use Rattle.json_exact.specs.Characters.{one, tail, within, whole, refused}
use Rattle.json_exact.specs.Scans.{four_bytes}
use Rattle.json_exact.proofs.Scanning.{character_on, character_stops_here, on, off}
use Rattle.json_exact.proofs.strings.long_end.Goals as goal

pub returns-then-b : goal.returns-then-b
returns-then-b c =
    character_on (one (within 144 191) (tail (tail whole))) c.args.text.now c.args.at c.row_end.result c.requires.here (c.requires.long ∙ ap four_bytes c.if-b.true) c.row_end.ensures

pub returns-then-within : goal.returns-then-within
returns-then-within c =
    let b = get_or c.args.text.now c.args.at 0 in
    character_on (tail (tail (tail whole))) c.args.text.now c.args.at c.row_end-then-within.result c.requires.here
    (c.requires.long ∙ off (eqb b 240) _ _ _ (ne_eqb b 240 c.if-b.false) (on (within 241 243 b) (tail (tail (tail whole))) _ _ (sym c.within.ensures ∙ c.if-within.true) refl)) c.row_end-then-within.ensures

pub returns-then-b-2 : goal.returns-then-b-2
returns-then-b-2 c =
    character_on (one (within 128 143) (tail (tail whole))) c.args.text.now c.args.at c.row_end-then-b-2.result c.requires.here (c.requires.long ∙ ap four_bytes c.if-b-2.true) c.row_end-then-b-2.ensures

pub returns-else-b-2 : goal.returns-else-b-2
returns-else-b-2 c =
    let b = get_or c.args.text.now c.args.at 0 in
    character_stops_here c.args.text.now c.args.at c.requires.here
    (c.requires.long ∙ off (eqb b 240) _ _ _ (ne_eqb b 240 c.if-b.false) (off (within 241 243 b) _ _ _ (sym c.within.ensures ∙ c.if-within.false) (off (eqb b 244) _ refused refused (ne_eqb b 244 c.if-b-2.false) refl)))

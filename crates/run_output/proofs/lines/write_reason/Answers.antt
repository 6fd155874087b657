use Rattle.std.proofs.Common.{◌≡◌, ◌++◌, decimal, rules}
use Rattle.drc_io.proofs.Writing.{Writes-text}
use Rattle.run_texts.specs.RunFindings.{digits_text}
use Rattle.run_output.specs.Lines.{reason_told, reason_line}
use Rattle.run_output.proofs.Reasons.{row, line_of}
use Rattle.run_output.proofs.lines.write_reason.Goals as goal

pub returns : goal.returns
returns g c =
    let prefix = c.args.prefix.now in
    let word = c.args.word.now in
    let digits = digits_text c.args.number in
    let behind = c.args.behind.now in
    let told = c.args.told in
    let number : c.as_bytes-2.result.now ≡ decimal told.causes.first.number = search rules in
    let text : row prefix word c.digits_of.result.now behind c.as_bytes.result.now c.point.result.now c.name.result.now c.point-2.result.now c.name-2.result.now c.point-3.result.now c.name-3.result.now
    c.as_bytes-2.result.now c.point-4.result.now c.number_digits.result.now c.point-5.result.now c.number_digits-2.result.now c.point-6.result.now c.number_digits-3.result.now
    c.at.result.now c.place_digits.result.now c.plus.result.now c.place_digits-2.result.now ≡ reason_line prefix (word ++ digits) behind (reason_told told) =
    rw (
      c.digits_of.ensures,
      c.as_bytes.ensures.value,
      c.point.ensures,
      c.name.ensures,
      c.point-2.ensures,
      c.name-2.ensures,
      c.point-3.ensures,
      c.name-3.ensures,
      number,
      c.point-4.ensures,
      c.number_digits.ensures,
      c.point-5.ensures,
      c.number_digits-2.ensures,
      c.point-6.ensures,
      c.number_digits-3.ensures,
      c.at.ensures,
      c.place_digits.ensures,
      c.plus.ensures,
      c.place_digits-2.ensures,
      c.inner_behind-inner.ensures,
    )
    (line_of prefix word digits behind told) in
    Writes-text _ _ _ _ _ _ _ text c.write_pieces.ensures

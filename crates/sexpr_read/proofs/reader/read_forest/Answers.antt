use Rattle.std.proofs.Common.{◌≡◌, inl, inr, suc, ◌+◌, ◌<◌, length, vec_len, refl, sym, ◌∙◌, ap, false, true, arith}
use Rattle.sexpr_read.specs.declared.bytes.ByteClass.TheVariants.{Space, Open, Close, Quote}
use Rattle.sexpr_read.specs.declared.place.TextError.TheVariants.{TooDeep}
use Rattle.sexpr_read.specs.ByteClasses.{sign_of}
use Rattle.sexpr_read.specs.Comments.{signs}
use Rattle.sexpr_read.specs.Spelling.{IsContent, IsString}
use Rattle.sexpr_read.specs.TreeRefusals.{outside, in_string}
use Rattle.sexpr_read.specs.ReaderProgress.{Stands, outer_levels, IsUnclosed}
use Rattle.sexpr_read.proofs.Machine.{over_quote}
use Rattle.sexpr_read.proofs.Lines.{settled_sign, after_open, after_close, begun_settled, word_lifted, word_line, string_lifted, string_line, unclosed_lifted}
use Rattle.sexpr_read.proofs.Faults.{whole_by_place, whole_by_string}
use Rattle.sexpr_read.proofs.Reading.{reading_start, reading_gap, reading_open, reading_close, reading_string, reading_word, reading_inner, reading_done, positive}
use Rattle.std.proofs.Math.Nat.{eq-or-lt_of_le}
use Rattle.sexpr_read.proofs.reader.read_forest.Goals as goal
use Rattle.sexpr_read.proofs.reader.read_forest.Goals.{then-one, else-one}

pub trees-init : goal.trees-init
trees-init c =
    let level : c.if-one.depth ≡ outer_levels c.args.one =
    elim c.if-one.branch [ then-one w ↦ rw w.if-one.true w.depth-is | else-one w ↦ rw w.if-one.false w.depth-is ] in
    record {
      read = rw (level, c.requires.closed, c.requires.empty)
          (reading_gap _ _ _ _ _ _ _ _ c.skip-at.ensures.gap (reading_start c.args.one c.args.text.now c.args.from c.requires.stands));
      within = c.skip-at.ensures.within;
      settled = c.skip-at.ensures.settled;
    }

pub trees-preserved-in-Space : goal.trees-preserved-in-Space
trees-preserved-in-Space c = record {
  read = reading_gap _ _ _ _ _ _ _ _ c.skip_space-at.ensures.gap c.trees.invariant.read;
  within = c.skip_space-at.ensures.within;
  settled = c.skip_space-at.ensures.settled;
}

pub returns-then-depth-eq-MOST_LEVELS-clause-err : goal.returns-then-depth-eq-MOST_LEVELS-clause-err
returns-then-depth-eq-MOST_LEVELS-clause-err c =
    let here : Stands c.args.one (signs c.args.one c.args.text.now) c.trees.at (outside 64) =
    rw c.if-depth-eq-MOST_LEVELS.true at c.trees.invariant.read.stands in
    let sign : signs c.args.one c.args.text.now c.trees.at ≡ Open =
    settled_sign _ _ _ c.trees.invariant.settled c.trees-test.true ∙ sym c.sign_at.ensures ∙ c.in-Open.is in
    inr (whole_by_place c.args.one (signs c.args.one c.args.text.now) (length c.args.text.now) c.trees.at (outside 64) Open (TooDeep c.trees.at) here
    c.trees-test.true sign refl)

pub trees-preserved-in-Open : goal.trees-preserved-in-Open
trees-preserved-in-Open c =
    let next : c.trees.at + 1 ≡ suc c.trees.at = omega arith in
    let deeper : c.trees.depth + 1 ≡ suc c.trees.depth = omega arith in
    let low : c.trees.depth < 64 = omega (arith, c.trees.invariant.read.shallow, c.if-depth-eq-MOST_LEVELS.false) in
    let counted : c.open_list.new.self.innermost ≡ length c.trees.arena.cells.items + 1 =
    c.in_ok-open_list-in-Open.ensures.innermost ∙ ap (λ n. n + 1) c.trees.arena.cells.ok.0 in
    let plain : sign_of c.args.text.now c.trees.at ≡ Open = sym c.sign_at.ensures ∙ c.in-Open.is in
    let sign : signs c.args.one c.args.text.now c.trees.at ≡ Open = settled_sign _ _ _ c.trees.invariant.settled c.trees-test.true ∙ plain in
    record {
      read = rw (next, deeper, counted, c.in_ok-open_list-in-Open.ensures.cells) (reading_open _ _ _ _ _ _ _ sign low c.trees.invariant.read);
      within = omega arith;
      settled = rw next (begun_settled _ _ _ (λ e. after_open _ _ plain (c.trees.invariant.settled e c.trees-test.true)));
    }

pub trees-preserved-in-Close : goal.trees-preserved-in-Close
trees-preserved-in-Close c =
    let next : c.trees.at + 1 ≡ suc c.trees.at = omega arith in
    let some : 0 < c.trees.arena.innermost =
    positive c.trees.arena.innermost (λ z. let no : false ≡ true = c.if-is_closed.ensures.1 z in cc) in
    let size : vec_len c.trees.arena.cells ≡ length c.trees.arena.cells.items = c.trees.arena.cells.ok.0 in
    let plain : sign_of c.args.text.now c.trees.at ≡ Close = sym c.sign_at.ensures ∙ c.in-Close.is in
    let sign : signs c.args.one c.args.text.now c.trees.at ≡ Close = settled_sign _ _ _ c.trees.invariant.settled c.trees-test.true ∙ plain in
    record {
      read = rw (c.close_list.ensures.innermost, c.close_list.ensures.cells, next, size)
          (reading_close _ _ _ _ _ _ _ sign some c.trees.invariant.read).after;
      within = omega arith;
      settled = rw next (begun_settled _ _ _ (λ e. after_close _ _ plain (c.trees.invariant.settled e c.trees-test.true)));
    }

pub returns-in_default-clause-err : goal.returns-in_default-clause-err
returns-in_default-clause-err c =
    let next : c.trees.at + 1 ≡ suc c.trees.at = omega arith in
    let plain : sign_of c.args.text.now c.trees.at ≡ Quote = sym c.sign_at.ensures ∙ c.in-Quote.is in
    let sign : signs c.args.one c.args.text.now c.trees.at ≡ Quote = settled_sign _ _ _ c.trees.invariant.settled c.trees-test.true ∙ plain in
    let unclosed : IsUnclosed (sign_of c.args.text.now) (suc c.trees.at) (length c.args.text.now) = rw next at c.in_default.ensures.content in
    let here : Stands c.args.one (signs c.args.one c.args.text.now) (suc c.trees.at) (in_string c.trees.depth) =
    over_quote _ _ _ _ (reading_inner _ _ _ _ _ _ _ c.trees.invariant.read) sign c.trees.invariant.read.stands in
    inr (whole_by_string c.args.one (signs c.args.one c.args.text.now) (length c.args.text.now) (suc c.trees.at) c.trees.depth here
    (unclosed_lifted _ _ _ _ plain c.trees-test.true c.trees.invariant.settled unclosed))

pub trees-preserved-in-Quote : goal.trees-preserved-in-Quote
trees-preserved-in-Quote c =
    let next : c.trees.at + 1 ≡ suc c.trees.at = omega arith in
    let content : IsContent (sign_of c.args.text.now) (suc c.trees.at) c.in-Some.close = rw next at c.in-Some.ensures.content in
    let string : IsString (sign_of c.args.text.now) c.trees.at (c.in-Some.close + 1) = record {
      opens = sym c.sign_at.ensures ∙ c.in-Quote.is;
      close = c.in-Some.close;
      ends = omega arith;
      inside = content;
      closes = c.in-Some.ensures.quote;
    } in
    record {
      read = rw (c.in_ok-add_atom-in-Quote.ensures.cells, c.in_ok-add_atom-in-Quote.ensures.innermost)
          (reading_string _ _ _ _ _ _ _ _ (omega (arith, c.in-Some.ensures.within))
          (string_lifted _ _ _ _ string c.trees-test.true c.trees.invariant.settled) c.trees.invariant.read);
      within = omega (arith, c.in-Some.ensures.within);
      settled = begun_settled _ _ _ (λ e. string_line _ _ _ _ string c.trees-test.true c.trees.invariant.settled e);
    }

pub trees-preserved : goal.trees-preserved
trees-preserved c = record {
  read = rw (c.in_ok-add_atom-in-Backslash.ensures.cells, c.in_ok-add_atom-in-Backslash.ensures.innermost)
      (reading_word _ _ _ _ _ _ _ _ (word_lifted _ _ _ _ c.word_end-end.ensures.word c.trees-test.true c.trees.invariant.settled)
      c.trees.invariant.read);
  within = c.word_end-end.ensures.within;
  settled = begun_settled _ _ _ (λ e. word_line _ _ _ _ c.word_end-end.ensures.word c.trees-test.true c.trees.invariant.settled e);
}

pub trees-smaller-in-Space : goal.trees-smaller-in-Space
trees-smaller-in-Space c =
    let space : sign_of c.args.text.now c.trees.at ≡ Space = sym c.sign_at.ensures ∙ c.in-Space.is in
    let further : c.trees.at < c.skip_space-at.result = elim (eq-or-lt_of_le c.skip_space-at.ensures.gap.ordered) [
      | inl same ↦ absurd (c.skip_space-at.ensures.stops (rw (← same) c.trees-test.true) (rw (← same) space))
      | inr more ↦ more
    ] in
    omega (arith, c.skip_space-at.ensures.within)

pub returns-then-is_closed-clause-ok : goal.returns-then-is_closed-clause-ok
returns-then-is_closed-clause-ok c =
    let sign : signs c.args.one c.args.text.now c.trees.at ≡ Close =
    settled_sign _ _ _ c.trees.invariant.settled c.trees-test.true ∙ sym c.sign_at.ensures ∙ c.in-Close.is in
    reading_done _ _ _ _ _ _ _ (c.if-is_closed.ensures.0 refl) c.trees.invariant.within (λ low. sign) c.trees.invariant.read

-- Trials as they are written.
use Rattle.std.proofs.Common.{◌≡◌, ◌∙◌, ◌⊎◌, ◌||◌, inl, inr, refl, sym, ap, subst, ℕ, zero, suc, Bool, true, false, List, [], ◌∷◌, ◌++◌, codes, append_assoc, append-nil, Option, Result, Ok, Err, OnOk, OnErr, MatchResult, All, arith}
use Rattle.std.specs.List.{flat_map, AllZip}
use Rattle.std.specs.Io.KnownBytes.{Keeps}
use Rattle.std.proofs.KnownBytes.{Appends-trans}
use Rattle.std.proofs.lemmas.List.Elements.{All-contains}
use Rattle.drc_io.specs.Sinks.{Writes}
use Rattle.drc_io.specs.declared.Failed.{Failed}
use Rattle.drc_io.proofs.Writing.{AppendsPrefix-after}
use Rattle.pair_check.specs.PlainRow.{PlainRow}
use Rattle.pair_check.specs.Rows.{Checked, IsRow, AreRows}
use Rattle.edit_script.specs.Commands.{PlainCommand}
use Rattle.drc_rows.specs.Report.{number_line}
use Rattle.drc_state.specs.declared.error.EditError.{EditError}
use Rattle.drc_state.specs.States.{State}
use Rattle.drc_session.specs.Sessions.{PlainSession}
use Rattle.what_if.specs.declared.error.TrialError.{TrialError}
use Rattle.what_if.specs.declared.error.TrialError.TheVariants.{Refused, OutOfMemory as NoTrial}
use Rattle.what_if.specs.Trials.{IsSurvey}
use Rattle.what_if.specs.Tried.{IsRefusal, IsRefusedHere}
use Rattle.what_if.proofs.Stopping.{Stops, stops, refused_alone}
use Rattle.run_trials.specs.declared.trial_results.TrialResult.{TrialResult}
use Rattle.run_output.specs.declared.status.Status.{Status}
use Rattle.run_output.specs.declared.status.Status.TheVariants.{WriteFault}
use Rattle.run_output.specs.declared.breaks.Break.{Break}
use Rattle.run_output.specs.declared.breaks.Break.TheVariants.{Unwritten}
use Rattle.run_output.specs.Reports.{refused_trial, why_edit}
use Rattle.run_output.specs.CommandOutputs.{marked_lines, IsTrialText, or_some, IsTrial, untried, tried}
use Rattle.run_output.specs.Output.{Output, status_if, AreTrialsTold}
use Rattle.run_trials.specs.TrialResults.{IsTrialResult, trial_result_text}
use Rattle.run_output.specs.RunResults.{IsTurnTaken, IsBroken, AreTaken, IsLeastWritten, AreTrialsToldSoFar, all_of_them}
use Rattle.run_output.specs.RunEndings.{Whole, Ends, trials_status}

-- ---- rows

-- what one has, a list of it has
pub all_one : {X : Type 0} (P : X → Type 0) (x : X) → P x → All P (x ∷ [])
all_one P x h zero d lt = h
all_one P x h (suc k) d lt = absurd (omega (arith, lt))

pub all_first : {X : Type 0} (P Q : X → Type 0) (xs : List X) → All (λ x. P x × Q x) xs → All P xs
all_first P Q xs h k d lt = (h k d lt).0

-- what all rows have, some of them have
pub each_row : (c : Checked) (P : PlainRow → Type 0) (all rows : List PlainRow) → AreRows c all → All P all → All (IsRow c) rows → All P rows
each_row c P all rows are has is k d lt = All-contains P all _ has (are.all _ (is k d lt))

-- the text of one row alone
pub one_alone : {X : Type 0} (f : X → List ℕ) (xs : List X) (x : X) → xs ≡ x ∷ [] → flat_map f xs ≡ f x
one_alone f xs x e = ap (flat_map f) e ∙ append-nil (f x)

-- ---- one trial

-- the parts of its text
module _ (n : ℕ) (s : State) (o : TrialResult) where
  abbrev pub first_text : List ℕ
  first_text = number_line (codes "trial ") n []

  abbrev pub gone_text : List ℕ
  gone_text = marked_lines (codes "- ") s o.gone.items

  abbrev pub last_text : List ℕ
  last_text = number_line (codes "rows ") o.count []

  pub behind_first : trial_result_text n s o ≡ first_text ++ (gone_text ++ o.lines.items ++ last_text)
  behind_first = by_parts first_text gone_text o.lines.items last_text
    where
      by_parts : (a b d e : List ℕ) → a ++ b ++ d ++ e ≡ a ++ (b ++ d ++ e)
      by_parts a b d e = simp append_assoc

or_some_by : (comes : Bool) (come : List PlainRow) → or_some comes come ≡ comes || or_some false come
or_some_by false come = refl
or_some_by true [] = refl
or_some_by true (row ∷ rows) = refl

-- a command alone that is refused
pub alone_refused : (s : PlainSession) (command : PlainCommand) (commands : List PlainCommand) (e : TrialError) → commands ≡ command ∷ [] → IsRefusal s.state commands e → IsRefusedHere s s command e
alone_refused s command commands e same by = by_error e (subst (λ (cs : List PlainCommand). IsRefusal s.state cs e) same by)
  where
    first : (place : ℕ) (why : EditError) → Stops s.state (command ∷ []) place why → place ≡ 0
    first zero why h = refl
    first (suc place) why h = absurd h.2

    by_error : (x : TrialError) → IsRefusal s.state (command ∷ []) x → IsRefusedHere s s command x
    by_error (Refused step inner) h = (first step inner (stops s.state (command ∷ []) step inner h.0), refused_alone s.state command step inner h.0, h.1, h.2, refl)
    by_error NoTrial h = tt

module _ (s : State) (command : PlainCommand) where
  pub carried : (n : ℕ) (comes next : Bool) (o : TrialResult) → IsTrialResult s command o → next ≡ comes || o.comes → IsTrial s n comes command next (trial_result_text n s o)
  carried n comes next o is e = tried is.after is.answer is.come text (e ∙ (ap (λ (b : Bool). comes || b) is.comes_is ∙ sym (or_some_by comes is.come)))
    where
      text : IsTrialText n s is.after is.come (trial_result_text n s o)
      text = record {
        gone = o.gone.items;
        rows = is.rows;
        differ = is.differ;
        are_rows = is.are_rows;
        text_is =
            ap (λ (lines : List ℕ). first_text n s o ++ gone_text n s o ++ lines ++ last_text n s o) is.lines_are
            ∙ ap (λ (k : ℕ). first_text n s o ++ gone_text n s o ++ marked_lines (codes "+ ") is.after is.come ++ number_line (codes "rows ") k []) is.count_is;
      }

-- what is not carried out
module _ (old new : PlainSession) (command : PlainCommand) (place : ℕ) (why : EditError) (e : TrialError) (same : e ≡ Refused place why) (by : IsRefusedHere old new command e) where
  here : IsRefusedHere old new command (Refused place why)
  here = subst (IsRefusedHere old new command) same by

  pub not_carried : (n : ℕ) (comes : Bool) → IsTrial old.state n comes command comes (refused_trial n (why_edit why))
  not_carried n comes = untried why here.1 refl refl

-- ---- what became of a text, with a value beside it

module _ {X : Type 0} (x : X) {S C : Type 0} (Turn : ℕ → S → C → S → List ℕ → Type 0) (number : ℕ) (s : S) (command : C) (next : S) (old new : Option (List ℕ)) (m n : ℕ) (text : List ℕ) (turn : Turn number s command next text) where
  pub value_taken_by : (r : Result (Unit {0}) Failed) (b : Result X Break) → MatchResult r (λ _. b ≡ Ok x) (λ _. b ≡ Err Unwritten) → Writes {T = Unit {0}} {E = Failed} old new m n text r
      → OnOk b (IsTurnTaken Turn number s command next old new)
  value_taken_by (Ok u) b e w = subst (λ (y : Result X Break). OnOk y (IsTurnTaken Turn number s command next old new)) (sym e) (record { text = text; turn = turn; written = w.bytes })
  value_taken_by (Err f) b e w = subst (λ (y : Result X Break). OnOk y (IsTurnTaken Turn number s command next old new)) (sym e) tt

  pub value_broken_by : (r : Result (Unit {0}) Failed) (b : Result X Break) → MatchResult r (λ _. b ≡ Ok x) (λ _. b ≡ Err Unwritten) → Writes {T = Unit {0}} {E = Failed} old new m n text r
      → OnErr b (Keeps old new ⊎ IsBroken Turn number s command old new)
  value_broken_by (Ok u) b e w = subst (λ (y : Result X Break). OnErr y (Keeps old new ⊎ IsBroken Turn number s command old new)) (sym e) tt
  value_broken_by (Err f) b e w = subst (λ (y : Result X Break). OnErr y (Keeps old new ⊎ IsBroken Turn number s command old new)) (sym e) (inr (record { next = next; text = text; turn = turn; written = w.bytes }))

-- ---- counts

pub zip_more : {A B : Type 0} (R : A → B → Type 0) (xs : List A) (ys : List B) (x : A) (y : B) → AllZip R xs ys → R x y → AllZip R (xs ++ x ∷ []) (ys ++ y ∷ [])
zip_more R [] [] x y z h = (h, tt)
zip_more R [] (b ∷ ys) x y z h = absurd z
zip_more R (a ∷ xs) [] x y z h = absurd z
zip_more R (a ∷ xs) (b ∷ ys) x y z h = (z.0, zip_more R xs ys x y z.1 h)

-- ---- the end

module _ (opening : State) (commands : List PlainCommand) (old mid new : Option (List ℕ)) where
  abbrev told : Output → Type 0
  told out = AreTrialsTold opening commands out

  abbrev told_so_far : List ℕ → Type 0
  told_so_far text = AreTrialsToldSoFar opening commands text

  by_status : (comes : Bool) → Whole told old new (status_if comes) → Ends told told_so_far (λ _. ⊥) old new (trials_status comes)
  by_status false w = w
  by_status true w = w

  -- all trials were written, and then the last line or a prefix of it
  pub trials_whole : (comes : Bool) (counts : List (Option ℕ)) (least : Option ℕ) (m n : ℕ) (r : Result (Unit {0}) Failed) (s : Status) → AreTaken (IsTrial opening) false commands comes old mid → IsSurvey opening commands counts least
      → IsLeastWritten counts least mid new m n r → MatchResult r (λ _. s ≡ trials_status comes) (λ _. s ≡ WriteFault) → Ends told told_so_far (λ _. ⊥) old new s
  trials_whole comes counts least m n r s taken survey line e = by_result r line.writes e
    where
      out : Output
      out = record { text = taken.text ++ line.text; status = status_if comes }

      all : told out
      all = record {
        comes = comes;
        rest = taken.text;
        trials = taken.turns;
        counts = counts;
        least = least;
        survey = survey;
        last = line.text;
        last_is = line.is;
        text_is = refl;
        status = refl;
      }

      by_result : (x : Result (Unit {0}) Failed) → Writes {T = Unit {0}} {E = Failed} mid new m n line.text x → MatchResult x (λ _. s ≡ trials_status comes) (λ _. s ≡ WriteFault) → Ends told told_so_far (λ _. ⊥) old new s
      by_result (Ok u) w f = subst (Ends told told_so_far (λ _. ⊥) old new) (sym f) (by_status comes (out, all, refl, Appends-trans old mid new taken.text line.text taken.written w.bytes))
      by_result (Err x) w f = subst (Ends told told_so_far (λ _. ⊥) old new) (sym f) (inl (inr (out.text, all_of_them out all refl, AppendsPrefix-after old mid new taken.text line.text taken.written w.bytes)))

-- From what was written of a board's text and a script to the end of a run.
use Rattle.std.proofs.Common.{◌≡◌, inl, inr, refl, sym, subst, ℕ, ◌≤◌, ◌==◌, Bool, true, false, if◌then◌else◌, List, [], ◌∷◌, Option, arith}
use Rattle.board_items.specs.Boards.{PlainBoard}
use Rattle.edit_script.specs.Commands.{PlainCommand}
use Rattle.edit_script.specs.Fits.{AreShallow}
use Rattle.roundtrip_boards.specs.WrittenBoard.{IsWritten}
use Rattle.roundtrip_boards.specs.SameBoards.{IsReadBack}
use Rattle.board_write.specs.WriteResults.{Outcome, WroteWhole, WrotePrefix}
use Rattle.run_words.specs.Calls.{write}
use Rattle.run_texts.specs.declared.texts.Stop.{Stop}
use Rattle.run_texts.specs.declared.texts.Which.{Which}
use Rattle.run_texts.specs.declared.texts.Which.TheVariants.{Text, Script}
use Rattle.run_texts.specs.NamedTexts.{named, texts_of, Value, a_text, a_script, accepted, SourceSays, AreAccepted, ReadFails}
use Rattle.run_texts.specs.RunFindings.{StopsText, StopsTexts}
use Rattle.run_texts.proofs.Accepting.{reached, stops_at, later}
use Rattle.run_output.specs.declared.status.Status.{Status}
use Rattle.run_output.specs.declared.status.Status.TheVariants.{Clean, Rows, Usage, Refused, ReadFault, WriteFault, OutOfMemory}
use Rattle.run_output.specs.Output.{Output, status_after, IsBoardWritten, IsOutputFor, given, IsBegunFor, whole}
use Rattle.run_output.specs.RunEndings.{Whole, Ends, EndsFor, IsTextOfOne, number_of}
use Rattle.run_output.proofs.Written.{ends_as, its_text}

-- ---- the status

at_most_one : (refused : ℕ) → status_after refused ≤ 1
at_most_one refused = by (refused == 0)
  where
    by : (b : Bool) → (if b then 0 else 1) ≤ 1
    by true = omega arith
    by false = omega arith

-- a text that was written is no fault
pub no_fault : (refused : ℕ) (s : Status) → number_of s ≡ status_after refused → s ≡ WriteFault → ⊥
no_fault refused s e w = let few = at_most_one refused in let five : number_of WriteFault ≡ status_after refused = subst (λ (x : Status). number_of x ≡ status_after refused) w e in omega (arith, few, five)

module _ (IsIt : Output → Type 0) (IsBegun : List ℕ → Type 0) (Fault : Which → Type 0) (old new : Option (List ℕ)) where
  ended : (refused : ℕ) (s : Status) → number_of s ≡ status_after refused → Whole IsIt old new (number_of s) → Ends IsIt IsBegun Fault old new s
  ended refused Clean e w = w
  ended refused Rows e w = w
  ended refused Usage e w = w
  ended refused Refused e w = w
  ended refused ReadFault e w = absurd (let few = at_most_one refused in omega (arith, few, e))
  ended refused WriteFault e w = absurd (let few = at_most_one refused in omega (arith, few, e))
  ended refused OutOfMemory e w = absurd (let few = at_most_one refused in omega (arith, few, e))

-- ---- what the call that writes a board leaves

module _ (read_back : IsReadBack)
    (unchanged : (text out : List ℕ) (last : PlainBoard) → IsWritten text [] out last → out ≡ text)
    (text : List ℕ) (commands : List PlainCommand) (shallow : AreShallow commands) (old new : Option (List ℕ)) where
  abbrev IsIt : Output → Type 0
  IsIt = IsBoardWritten text commands

  abbrev output_of : (refused : ℕ) → Outcome text commands refused → Output
  output_of refused outcome = record { text = outcome.out; status = status_after refused }

  is_output : (refused : ℕ) (outcome : Outcome text commands refused) → IsIt (output_of refused outcome)
  is_output refused outcome =
      let read = read_back text commands outcome.out outcome.last shallow outcome.written in record {
        refusals = refused;
        outcome = outcome;
        text_is = refl;
        again = read.0;
        reads = read.1;
        same = read.2;
        unchanged = λ none. unchanged text outcome.out outcome.last (subst (λ (cs : List PlainCommand). IsWritten text cs outcome.out outcome.last) none outcome.written);
        status_is = refl;
      }

  -- all was written
  pub wrote_ends : (refused : ℕ) (s : Status) → WroteWhole text commands old new refused → number_of s ≡ status_after refused → Ends IsIt (IsTextOfOne IsIt) (λ _. ⊥) old new s
  wrote_ends refused s w e =
      ended IsIt (IsTextOfOne IsIt) (λ _. ⊥) old new refused s e (output_of refused w.0, is_output refused w.0, sym e, w.1)

  -- a prefix was written
  pub prefix_ends : WrotePrefix text commands old new → Ends IsIt (IsTextOfOne IsIt) (λ _. ⊥) old new WriteFault
  prefix_ends w = inl (inr (w.1.out, its_text IsIt (output_of w.0 w.1) (is_output w.0 w.1), w.2))

-- ---- the texts

module _ (told : Option (List (List ℕ × List ℕ))) (board script : List ℕ) where
  module _ (before now : List ℕ → ℕ) (stop : Stop) where
    -- the board's text is not accepted
    pub text_stops : StopsText told before now (named Text board) stop → StopsTexts told (write board script) before now stop
    text_stops s =
        stops_at told before now (write board script) (named Text board) stop (reached told [] (named Script script ∷ []) [] (named Text board) tt) s

    -- it is accepted, and the script is not
    pub script_stops : (text : List ℕ) (middle : List ℕ → ℕ) → SourceSays told (named Text board) (accepted (a_text text)) → ((other : List ℕ) → before other ≤ middle other)
        → StopsText told middle now (named Script script) stop → StopsTexts told (write board script) before now stop
    script_stops text middle says up s =
        stops_at told before now (write board script) (named Script script) stop (reached told (named Text board ∷ []) [] (a_text text ∷ []) (named Script script) (says, tt))
        (later told before now middle (named Script script) stop up s)

  -- both are accepted, and what the call left was an output or a prefix of it
  module _ (text : List ℕ) (commands : List PlainCommand) (first : SourceSays told (named Text board) (accepted (a_text text))) (second : SourceSays told (named Script script) (accepted (a_script commands))) where
    abbrev values : List Value
    values = a_text text ∷ a_script commands ∷ []

    all_accepted : AreAccepted told (texts_of (write board script)) values
    all_accepted = (first, (second, tt))

    as_output : (out : Output) → IsBoardWritten text commands out → IsOutputFor (write board script) told out
    as_output out it = given values all_accepted (text, refl, it)

    as_begun : (prefix : List ℕ) → IsTextOfOne (IsBoardWritten text commands) prefix → IsBegunFor (write board script) told prefix
    as_begun prefix it = whole it.0 (as_output it.0 it.1) it.2

    pub rewritten_ends : (before now : List ℕ → ℕ) (old new : Option (List ℕ)) (s : Status) → Ends (IsBoardWritten text commands) (IsTextOfOne (IsBoardWritten text commands)) (λ _. ⊥) old new s
        → EndsFor (write board script) told before now old new s
    rewritten_ends before now old new s ends =
        ends_as (IsBoardWritten text commands) (IsOutputFor (write board script) told) (IsTextOfOne (IsBoardWritten text commands)) (IsBegunFor (write board script) told) (λ _. ⊥)
        (ReadFails (write board script) told before now) old new as_output as_begun (λ which none. absurd none) s ends

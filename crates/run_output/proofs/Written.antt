-- How a run ends once its last text was written, or broke off.
use Rattle.std.proofs.Common.{◌≡◌, ℕ, List, [], ◌∷◌, Option, Result, Ok, Err, MatchResult, inl, inr, refl, sym, subst, arith}
use Rattle.drc_io.specs.declared.Failed.{Failed}
use Rattle.drc_io.specs.Sinks.{Writes}
use Rattle.pair_check.specs.PlainRow.{PlainRow}
use Rattle.run_texts.specs.declared.texts.Which.{Which}
use Rattle.run_output.specs.declared.status.Status.{Status}
use Rattle.run_output.specs.declared.status.Status.TheVariants.{Clean, Rows, Usage, Refused, ReadFault, WriteFault, OutOfMemory}
use Rattle.run_output.specs.Output.{Output, cannot_read, status_of}
use Rattle.run_output.specs.RunEndings.{Whole, Prefix, Ends, IsTextOfOne, number_of}

module _ (IsIt : Output → Type 0) (IsBegun : List ℕ → Type 0) (Fault : Which → Type 0) (old new : Option (List ℕ)) where
  -- an output was written, and then the status is a given one
  pub written : (m n : ℕ) (out : Output) (r : Result (Unit {0}) Failed) (good s : Status) → IsIt out → IsBegun out.text → (Whole IsIt old new out.status → Ends IsIt IsBegun Fault old new good)
      → Writes {T = Unit {0}} {E = Failed} old new m n out.text r → MatchResult r (λ _. s ≡ good) (λ _. s ≡ WriteFault) → Ends IsIt IsBegun Fault old new s
  written m n out (Ok x) good s is begun whole w e = subst (Ends IsIt IsBegun Fault old new) (sym e) (whole (out, is, refl, w.bytes))
  written m n out (Err x) good s is begun whole w e = subst (Ends IsIt IsBegun Fault old new) (sym e) (inl (inr (out.text, begun, w.bytes)))

  -- the line of a read fault was written
  pub faulted : (m n : ℕ) (which : Which) (r : Result (Unit {0}) Failed) (s : Status) → Fault which → Writes {T = Unit {0}} {E = Failed} old new m n (cannot_read which) r
      → MatchResult r (λ _. s ≡ ReadFault) (λ _. s ≡ WriteFault) → Ends IsIt IsBegun Fault old new s
  faulted m n which (Ok x) s fault w e = subst (Ends IsIt IsBegun Fault old new) (sym e) (which, fault, w.bytes)
  faulted m n which (Err x) s fault w e = subst (Ends IsIt IsBegun Fault old new) (sym e) (inr (which, fault, w.bytes))

  -- a report was written, with the status of its rows
  pub reporting : (rows : List PlainRow) (s : Status) → number_of s ≡ status_of rows → Whole IsIt old new (status_of rows) → Ends IsIt IsBegun Fault old new s
  reporting [] Clean e w = w
  reporting [] Rows e w = absurd (omega arith)
  reporting [] Usage e w = absurd (omega arith)
  reporting [] Refused e w = absurd (omega arith)
  reporting [] ReadFault e w = absurd (omega arith)
  reporting [] WriteFault e w = absurd (omega arith)
  reporting [] OutOfMemory e w = absurd (omega arith)
  reporting (row ∷ rows) Clean e w = absurd (omega arith)
  reporting (row ∷ rows) Rows e w = w
  reporting (row ∷ rows) Usage e w = absurd (omega arith)
  reporting (row ∷ rows) Refused e w = absurd (omega arith)
  reporting (row ∷ rows) ReadFault e w = absurd (omega arith)
  reporting (row ∷ rows) WriteFault e w = absurd (omega arith)
  reporting (row ∷ rows) OutOfMemory e w = absurd (omega arith)

-- the text of an output begins it
pub its_text : (IsIt : Output → Type 0) (out : Output) → IsIt out → IsTextOfOne IsIt out.text
its_text IsIt out is = (out, is, refl)

-- what one kind of output says of the end of a run, where it is another kind too
module _ (IsIt Other : Output → Type 0) (IsBegun OtherBegun : List ℕ → Type 0) (Fault Cause : Which → Type 0) (old new : Option (List ℕ))
    (wider : (out : Output) → IsIt out → Other out) (begun : (text : List ℕ) → IsBegun text → OtherBegun text) (cause : (which : Which) → Fault which → Cause which) where
  whole_as : (status : ℕ) → Whole IsIt old new status → Whole Other old new status
  whole_as status w = (w.0, wider w.0 w.1, w.2, w.3)

  prefix_as : Prefix IsBegun old new → Prefix OtherBegun old new
  prefix_as (inl kept) = inl kept
  prefix_as (inr w) = inr (w.0, begun w.0 w.1, w.2)

  pub ends_as : (s : Status) → Ends IsIt IsBegun Fault old new s → Ends Other OtherBegun Cause old new s
  ends_as Clean w = whole_as 0 w
  ends_as Rows w = whole_as 1 w
  ends_as Usage w = whole_as 2 w
  ends_as Refused w = whole_as 3 w
  ends_as ReadFault w = (w.0, cause w.0 w.1, w.2)
  ends_as WriteFault (inl w) = inl (prefix_as w)
  ends_as WriteFault (inr w) = inr (w.0, cause w.0 w.1, w.2)
  ends_as OutOfMemory w = prefix_as w

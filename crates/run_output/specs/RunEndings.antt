-- How a run ends, by its status.
use Rattle.std.specs.Prelude.{◌≡◌, ◌⊎◌, ℕ, Bool, true, false, ◌<◌, ◌≤◌, List, Option, Some, IfSome}
use Rattle.std.specs.Io.KnownBytes.{Appends, Keeps}
use Rattle.drc_io.specs.FaultCounts.{Rose}
use Rattle.drc_io.specs.Sinks.{AppendsPrefix}
use Rattle.run_words.specs.Calls.{PlainCall}
use Rattle.run_texts.specs.declared.texts.Which.{Which}
use Rattle.run_texts.specs.NamedTexts.{ReadFails}
use Rattle.run_output.specs.declared.status.Status.{Status}
use Rattle.run_output.specs.declared.status.Status.TheVariants.{Clean, Rows, Usage, Refused, ReadFault, WriteFault, OutOfMemory}
use Rattle.run_output.specs.Output.{Output, IsOutputFor, IsBegunFor, cannot_read}

-- an output with this status was written whole
abbrev pub Whole : (Output → Type 0) → Option (List ℕ) → Option (List ℕ) → ℕ → Type 0
Whole IsIt old new status = (out : Output) × IsIt out × (out.status ≡ status) × Appends old new out.text

-- nothing was written, or a prefix of what an output begins with
abbrev pub Prefix : (List ℕ → Type 0) → Option (List ℕ) → Option (List ℕ) → Type 0
Prefix IsBegun old new = Keeps old new ⊎ ((text : List ℕ) × IsBegun text × AppendsPrefix old new text)

-- nothing was written, or a prefix of this text
abbrev pub PrefixOf : List ℕ → Option (List ℕ) → Option (List ℕ) → Type 0
PrefixOf text old new = Keeps old new ⊎ AppendsPrefix old new text

-- a text was not read, and the line that says which was written
abbrev pub Unread : (Which → Type 0) → Option (List ℕ) → Option (List ℕ) → Type 0
Unread Fault old new = (which : Which) × Fault which × Appends old new (cannot_read which)

-- a text was not read, and a prefix of that line was written
abbrev pub UnreadPrefix : (Which → Type 0) → Option (List ℕ) → Option (List ℕ) → Type 0
UnreadPrefix Fault old new = (which : Which) × Fault which × AppendsPrefix old new (cannot_read which)

-- what was written by the end of a run. `IsIt` says of an output that it is the one, `IsBegun` of a text that the output begins with it,
-- and `Fault` of a text that it was not read
abbrev pub Ends : (Output → Type 0) → (List ℕ → Type 0) → (Which → Type 0) → Option (List ℕ) → Option (List ℕ) → Status → Type 0
Ends IsIt IsBegun Fault old new Clean = Whole IsIt old new 0
Ends IsIt IsBegun Fault old new Rows = Whole IsIt old new 1
Ends IsIt IsBegun Fault old new Usage = Whole IsIt old new 2
Ends IsIt IsBegun Fault old new Refused = Whole IsIt old new 3
Ends IsIt IsBegun Fault old new ReadFault = Unread Fault old new
Ends IsIt IsBegun Fault old new WriteFault = Prefix IsBegun old new ⊎ UnreadPrefix Fault old new
Ends IsIt IsBegun Fault old new OutOfMemory = Prefix IsBegun old new

-- what a call has written by its end, by the files that its shelf tells, and the shelf's counts of faults before and after
abbrev pub EndsFor : PlainCall → Option (List (List ℕ × List ℕ)) → (List ℕ → ℕ) → (List ℕ → ℕ) → Option (List ℕ) → Option (List ℕ) → Status → Type 0
EndsFor call told before now old new status = Ends (IsOutputFor call told) (IsBegunFor call told) (ReadFails call told before now) old new status

-- the text of an output
abbrev pub IsTextOfOne : (Output → Type 0) → List ℕ → Type 0
IsTextOfOne IsIt text = (out : Output) × IsIt out × (text ≡ out.text)

-- the number of a status
abbrev pub number_of : Status → ℕ
number_of Clean = 0
number_of Rows = 1
number_of Usage = 2
number_of Refused = 3
number_of ReadFault = 4
number_of WriteFault = 5
number_of OutOfMemory = 6

-- the status of trials: whether a row would come by one of them
abbrev pub trials_status : Bool → Status
trials_status false = Clean
trials_status true = Rows

-- What a run promises, by what its words call for, the files that its shelf tells, the shelf's counts of faults before and after, what
-- the sink held before and after, the sink's counts, and the status.
pub record Promises (call : PlainCall) (told : Option (List (List ℕ × List ℕ))) (reads_before reads_now : List ℕ → ℕ) (old new : Option (List ℕ)) (writes_before writes_now status : ℕ) : Type 0 where
  pub bound : status ≤ 6
  -- below 4 the whole output was written, and this is its status
  pub whole : status < 4 → Whole (IsOutputFor call told) old new status
  -- a read fault has its cause: the turn of that text came, and the count of its file rose; and one line was written, which says which text
  pub read : status ≡ 4 → Unread (ReadFails call told reads_before reads_now) old new
  -- a write fault has its cause, and a prefix was written of what the output begins with, or of the line of a read fault
  pub write : status ≡ 5 → Rose writes_before writes_now
  pub part : status ≡ 5 → Prefix (IsBegunFor call told) old new ⊎ UnreadPrefix (ReadFails call told reads_before reads_now) old new
  -- where memory ran out a prefix of what the output begins with was written
  pub memory : status ≡ 6 → Prefix (IsBegunFor call told) old new
  -- without a fault the output comes whole, unless memory runs out
  pub complete : ¬ (Rose writes_before writes_now) → ((which : Which) → ¬ (ReadFails call told reads_before reads_now which)) → (status < 4) ⊎ (status ≡ 6)
  -- of a shelf that tells, the words and the files have one output: this status and the text that was written
  pub exact : IfSome told (λ files. (output : Output) → IsOutputFor call (Some files) output → status < 4 → (status ≡ output.status) × Appends old new output.text)
  -- and where a write failed or memory ran out, what was written is a prefix of the text of every output, or of the line of a read fault
  pub prefix : IfSome told (λ files. (output : Output) → IsOutputFor call (Some files) output → (status ≡ 6 → PrefixOf output.text old new) × (status ≡ 5 → PrefixOf output.text old new ⊎ UnreadPrefix (ReadFails call told reads_before reads_now) old new))

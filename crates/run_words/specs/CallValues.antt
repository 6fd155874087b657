-- What the words call for, as the program holds it.
use Rattle.std.specs.Prelude.{◌≤◌, ℕ, List}
use Rattle.std.specs.Option.{option_map}
use Rattle.plain_types.specs.Limits.{IsWorkerCount}
use Rattle.run_words.specs.declared.calls.Call.{Call}
use Rattle.run_words.specs.declared.calls.Call.TheVariants.{Nothing, Check, Undo, Try, Steal, Write}
use Rattle.run_words.specs.declared.calls.Scripted.{Scripted}
use Rattle.run_words.specs.declared.calls.Numbered.{Numbered}
use Rattle.run_words.specs.declared.words.Request.{Request}
use Rattle.run_words.specs.declared.words.BoardSource.{BoardSource}
use Rattle.run_words.specs.declared.words.BoardSource.TheVariants.{File, Made}
use Rattle.run_words.specs.Calls.{PlainSource, file, made, Reading, PlainCall, nothing, check, undo, try, steal, write}

abbrev pub source_in : BoardSource → PlainSource
source_in (File name) = file name.now
source_in (Made count) = made count

abbrev pub reading_in : Request → Reading
reading_in request = record {
  board = source_in request.board;
  project = option_map (λ name. name.now) request.project;
  rules = option_map (λ name. name.now) request.rules;
  script = option_map (λ name. name.now) request.script;
  workers = request.workers;
}

-- the number of a generated board is in its range
abbrev pub SourceFits : BoardSource → Type 0
SourceFits (File name) = Unit {0}
SourceFits (Made count) = (1 ≤ count) × (count ≤ 90000)

-- and so is that of the workers
pub record RequestFits (request : Request) : Type 0 where
  pub source : SourceFits request.board
  pub workers : IsWorkerCount request.workers

-- ---- calls

abbrev pub files_in : Scripted → List ℕ × List ℕ
files_in files = (files.board.now, files.script.now)

abbrev pub numbered_in : Numbered → List ℕ × ℕ
numbered_in found = (found.board.now, found.number)

abbrev pub call_in : Call → PlainCall
call_in (Nothing usage) = nothing usage.now
call_in (Check request) = check (reading_in request)
call_in (Undo files) = undo files.board.now files.script.now
call_in (Try files workers) = try files.board.now files.script.now workers
call_in (Steal found) = steal found.board.now found.number
call_in (Write files) = write files.board.now files.script.now

abbrev pub CallFits : Call → Type 0
CallFits (Nothing usage) = Unit {0}
CallFits (Check request) = RequestFits request
CallFits (Undo files) = Unit {0}
CallFits (Try files workers) = (1 ≤ workers) × (workers ≤ 8)
CallFits (Steal found) = IsWorkerCount found.number
CallFits (Write files) = Unit {0}

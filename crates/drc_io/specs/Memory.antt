-- A shelf and a sink in memory.
use Rattle.std.specs.Prelude.{ℕ, ◌≡◌, List, [], ◌++◌, ◌-◌, ◌<◌, ◌≤◌, ◌⊎◌, Bool, Option, None, Some, Vec, length, min, take, drop, Contains, map, if◌then◌else◌}
use Rattle.std.specs.declared.alloc.Global.{Global}
use Rattle.drc_io.specs.FaultCounts.{next_count}
use Rattle.drc_io.specs.Files.{file_of}

-- a shelf: its files, the numbers of the reads that fail, the most that one read gives, how many reads there were, and its count of faults
pub record ShelfState : Type 0 where
  pub files : List (List ℕ × List ℕ)
  pub fails : List ℕ
  pub most : ℕ
  pub calls : ℕ
  pub faults : ℕ

-- a vector of files as a list
abbrev pub shown : List (List ℕ × Vec ℕ Global) → List (List ℕ × List ℕ)
shown files = map (λ file. (file.0, file.1.items)) files

-- a read fails: its number is listed, or the name is not there
abbrev pub Misses : ShelfState → List ℕ → Type 0
Misses shelf name = Contains shelf.fails (next_count shelf.calls) ⊎ (file_of shelf.files name ≡ None)

-- the shelf after a read, which failed or not
abbrev pub after_read : ShelfState → Bool → ShelfState
after_read shelf failed = record {
  files = shelf.files;
  fails = shelf.fails;
  most = shelf.most;
  calls = next_count shelf.calls;
  faults = if failed then next_count shelf.faults else shelf.faults;
}

-- the bytes of a file from a place on
abbrev pub bytes_from : Option (List ℕ) → ℕ → List ℕ
bytes_from None at = []
bytes_from (Some bytes) at = drop at bytes

-- a sink: the bytes so far, the most that one write takes, the room for bytes, the numbers of the writes that fail, how many writes there were, and its count of faults
pub record SinkState : Type 0 where
  pub bytes : List ℕ
  pub most : ℕ
  pub room : ℕ
  pub fails : List ℕ
  pub calls : ℕ
  pub faults : ℕ

-- a write fails where it is one of the listed ones, and where a piece of one byte or more finds the room used up
abbrev pub Refuses : SinkState → List ℕ → Type 0
Refuses sink piece = Contains sink.fails (next_count sink.calls) ⊎ ((0 < length piece) × (sink.room ≤ length sink.bytes))

-- how many bytes of a piece a write takes: what `most` and the room left allow
abbrev pub taken_of : SinkState → List ℕ → ℕ
taken_of sink piece = min (length piece) (min sink.most (sink.room - length sink.bytes))

-- the sink after a write of a piece, which failed or not
abbrev pub after_write : SinkState → List ℕ → Bool → SinkState
after_write sink piece failed = record {
  bytes = if failed then sink.bytes else sink.bytes ++ take (taken_of sink piece) piece;
  most = sink.most;
  room = sink.room;
  fails = sink.fails;
  calls = next_count sink.calls;
  faults = if failed then next_count sink.faults else sink.faults;
}

-- Limits that more than one crate speaks of.
use Rattle.std.specs.Prelude.{ℕ, List, ◌<◌, ◌≤◌, length}

-- the most bytes of a text that is read, and so the greatest place in one: 32 MiB
abbrev pub most_text : ℕ
most_text = 33554432

-- as many bytes, lists or rules as a text can have, or a place in one
abbrev pub IsInText : ℕ → Type 0
IsInText n = n ≤ most_text

-- the bytes of a text are not too many to be read
abbrev pub IsReadable : List ℕ → Type 0
IsReadable bytes = IsInText (length bytes)

-- the most workers
abbrev pub most_workers : ℕ
most_workers = 64

-- a number of workers
abbrev pub IsWorkerCount : ℕ → Type 0
IsWorkerCount workers = (0 < workers) × (workers ≤ most_workers)

-- the most items of a board
abbrev pub most_items : ℕ
most_items = 200000

-- the most tiles of a board: 125 columns and as many rows
abbrev pub most_tiles : ℕ
most_tiles = 15625

-- the most commands of a script that are tried side by side
abbrev pub most_trials : ℕ
most_trials = 15625

-- the numbers of 32 bits count these, and one number is left
abbrev pub AreCounted : {T : Type 0} → List T → Type 0
AreCounted list = length list < 4294967295

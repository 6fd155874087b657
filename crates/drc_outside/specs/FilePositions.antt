-- Where an open file stands, and what is read of it.
use Rattle.std.specs.Prelude.{◌≡◌, ◌≤◌, ◌<◌, ℕ, List, Option, Some, IfSome, IsSomeAnd, length, take, drop}
use Rattle.std.specs.Io.KnownBytes.{Consumes, IsAtEnd}
use Rattle.drc_io.specs.Files.{file_of}
use Rattle.drc_outside.specs.declared.files.Opened.{Opened}

-- a file of this name stands behind so many of its bytes, where they are told: its next bytes are those from there on
abbrev pub IsFileAt : Option (List (List ℕ × List ℕ)) → List ℕ → ℕ → Option (List ℕ) → Type 0
IsFileAt told name at next = IfSome told (λ files. IsSomeAnd (file_of files name) (λ bytes. next ≡ Some (drop at bytes)))

-- the first n bytes of the buffer are the next ones of the file, and it is filled unless the file ends
pub record Fills {F : Type 0} (remaining : F → Option (List ℕ)) (old new : F) (n : ℕ) (buf : List ℕ) : Type 0 where
  pub within : n ≤ length buf
  pub bytes : Consumes (remaining old) (remaining new) (take n buf)
  pub filled : n < length buf → IsAtEnd (remaining new)

-- of known bytes, so many were passed over, or all that there were
abbrev pub Passes : Option (List ℕ) → Option (List ℕ) → ℕ → Type 0
Passes old new count = IfSome old (λ bytes. new ≡ Some (drop count bytes))

-- what a shelf of files is seen as: the files that are told, and how many faults there were
pub record Told : Type 0 where
  pub files : Option (List (List ℕ × List ℕ))
  pub faults : ℕ

-- the file that is kept, if any, stands behind what was read of it
abbrev pub IsKept : {F : Type 0} → Option (List (List ℕ × List ℕ)) → (F → Option (List ℕ)) → Option (Opened F) → Type 0
IsKept told remaining kept = IfSome kept (λ opened. IfSome opened.name (λ name. IsFileAt told name opened.at (remaining opened.file)))

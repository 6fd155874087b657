-- What a shelf holds: a finite map from names to bytes, as a list in which the first entry of a name counts.
use Rattle.std.specs.Prelude.{◌≡◌, ◌<◌, ◌≤◌, ℕ, List, [], ◌∷◌, ◌++◌, length, take, drop, Option, None, Some, IfSome, bytes_eq, if◌then◌else◌}

-- the bytes of a name
abbrev pub file_of : List (List ℕ × List ℕ) → List ℕ → Option (List ℕ)
file_of [] name = None
file_of (entry ∷ rest) name = if bytes_eq entry.0 name then Some entry.1 else file_of rest name

-- the first n bytes of the buffer are those of the file from a place on, and there are none only at its end; no read is answered where there is no file
abbrev pub ReadsAt : Option (List ℕ) → ℕ → ℕ → List ℕ → Type 0
ReadsAt None at n buf = ⊥
ReadsAt (Some bytes) at n buf = (take n buf ≡ take n (drop at bytes)) × (n ≡ 0 → 0 < length buf → length bytes ≤ at)

-- `ReadsAt`, of a shelf that tells
abbrev pub ReadsFrom : Option (List (List ℕ × List ℕ)) → List ℕ → ℕ → ℕ → List ℕ → Type 0
ReadsFrom told name at n buf = IfSome told (λ files. ReadsAt (file_of files name) at n buf)

-- a piece of n bytes of the file was put behind the text, which is as long as the place where they were read; none only at the end
abbrev pub ReadsBehind : Option (List (List ℕ × List ℕ)) → List ℕ → List ℕ → ℕ → List ℕ → Type 0
ReadsBehind told name text n longer = (buf : List ℕ) × (0 < length buf) × (n ≤ length buf) × ReadsFrom told name (length text) n buf × (longer ≡ text ++ take n buf)

-- the text is the whole file, of a shelf that tells
abbrev pub IsWholeFile : Option (List (List ℕ × List ℕ)) → List ℕ → List ℕ → Type 0
IsWholeFile told name text = IfSome told (λ files. file_of files name ≡ Some text)

-- there is a file, and it has more bytes than the limit
abbrev pub HasMore : Option (List ℕ) → ℕ → Type 0
HasMore None limit = ⊥
HasMore (Some bytes) limit = limit < length bytes

-- there is a file, and it has at most that many bytes
abbrev pub HasAtMost : Option (List ℕ) → ℕ → Type 0
HasAtMost None limit = ⊥
HasAtMost (Some bytes) limit = length bytes ≤ limit

-- the file has more bytes than the limit, of a shelf that tells
abbrev pub IsLonger : Option (List (List ℕ × List ℕ)) → List ℕ → ℕ → Type 0
IsLonger told name limit = IfSome told (λ files. HasMore (file_of files name) limit)

-- the text is a prefix of the file; nothing was read where it is not there
abbrev pub IsPrefixOf : Option (List ℕ) → List ℕ → Type 0
IsPrefixOf None text = text ≡ []
IsPrefixOf (Some bytes) text = (rest : List ℕ) × (bytes ≡ text ++ rest)

-- `IsPrefixOf`, of a shelf that tells
abbrev pub IsPrefix : Option (List (List ℕ × List ℕ)) → List ℕ → List ℕ → Type 0
IsPrefix told name text = IfSome told (λ files. IsPrefixOf (file_of files name) text)

-- Text that is put together before it goes out.
use Rattle.std.specs.Prelude.{◌≡◌, ◌≤◌, ◌<◌, ◌==◌, ℕ, List, [], ◌∷◌, ◌++◌, get_or, Option, Result, MatchResult, OnErr, if◌then◌else◌, codes}
use Rattle.std.specs.List.{flat_map}
use Rattle.std.specs.Io.KnownBytes.{Appends}
use Rattle.drc_io.specs.FaultCounts.{Rose}
use Rattle.drc_io.specs.Sinks.{AppendsPrefix}

-- of the text a prefix was appended to the sink, and the rest is kept
pub record Splits (old new : Option (List ℕ)) (text kept : List ℕ) : Type 0 where
  pub sent : List ℕ
  pub whole : text ≡ sent ++ kept
  pub appended : Appends old new sent

-- a piece comes behind what is pending: some of both goes out and the rest is kept, or a fault came in between and a prefix went out
pub record Puts {T E : Type 0} (old new : Option (List ℕ)) (before now : ℕ) (pending piece kept : List ℕ) (result : Result T E) : Type 0 where
  pub bytes : MatchResult result (λ _. Splits old new (pending ++ piece) kept) (λ _. AppendsPrefix old new (pending ++ piece))
  pub later : before ≤ now
  pub failed : OnErr result (Rose before now)

-- `Puts`, of a sink before and after the call, by how the sink tells its bytes and its count of faults
abbrev pub Buffered : {S T E : Type 0} → (S → Option (List ℕ)) → (S → ℕ) → S → S → (pending piece kept : List ℕ) → Result T E → Type 0
Buffered written faults old new pending piece kept result = Puts (written old) (written new) (faults old) (faults new) pending piece kept result

-- a byte of a name between quotes
abbrev pub escaped_byte : ℕ → List ℕ
escaped_byte byte =
    if byte == 34 then 92 ∷ 34 ∷ []
    else (if byte == 92 then 92 ∷ 92 ∷ []
    else (if byte == 10 then 92 ∷ 110 ∷ []
    else (if byte == 13 then 92 ∷ 114 ∷ []
    else byte ∷ [])))

-- a name between quotes: a quote and a backslash have a backslash before them, line feed and carriage return are \n and \r
abbrev pub escaped : List ℕ → List ℕ
escaped name = flat_map escaped_byte name

-- a word and a name
abbrev pub named : List ℕ → List ℕ → List ℕ
named word name = word ++ codes " \"" ++ escaped name ++ codes "\""

-- the bytes of a name from a place up to another stand for themselves
abbrev pub AreOwn : List ℕ → ℕ → ℕ → Type 0
AreOwn name from to = (k : ℕ) → from ≤ k → k < to → escaped_byte (get_or name k 0) ≡ get_or name k 0 ∷ []

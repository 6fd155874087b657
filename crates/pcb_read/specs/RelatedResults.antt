-- Calls whose answer is one of those that a relation has.
use Rattle.std.specs.Prelude.{◌≡◌, ◌⊎◌, List, Vec, Result, Ok, Err}
use Rattle.std.specs.declared.alloc.Global.{Global}
use Rattle.board_errors.specs.declared.errors.BoardError.{BoardError}
use Rattle.board_errors.specs.declared.errors.BoardError.TheVariants.{OutOfMemory}

-- the call gives a vector of such a list, or such a refusal, unless memory ran out
abbrev pub GivesSome : {A : Type 0} → Result (Vec A Global) BoardError → (Result (List A) BoardError → Type 0) → Type 0
GivesSome (Ok v) Says = Says (Ok v.items)
GivesSome (Err e) Says = (e ≡ OutOfMemory) ⊎ Says (Err e)

-- the call leaves such a thing, or gives such a refusal, unless memory ran out
abbrev pub LeavesSome : {A T : Type 0} → Result T BoardError → A → (Result A BoardError → Type 0) → Type 0
LeavesSome (Ok _) new Says = Says (Ok new)
LeavesSome (Err e) new Says = (e ≡ OutOfMemory) ⊎ Says (Err e)

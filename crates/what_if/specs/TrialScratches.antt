-- A copy of a session on which commands are tried, each turned back before the next.
use Rattle.std.specs.Prelude.{◌≡◌, Bool, true, false, Option, IfSome}
use Rattle.edit_script.specs.Commands.{PlainCommand, add, delete, move, again}
use Rattle.drc_session.specs.Sessions.{PlainSession}

-- the command adds a list: the id and the unit number that come next are others after it, and no change sets them back
abbrev pub adds : PlainCommand → Bool
adds (add text at) = true
adds command = false

-- a session that took the command is turned back to the state from before
abbrev pub turns_back : PlainCommand → Bool
turns_back (delete name at) = true
turns_back (move name dx dy at) = true
turns_back (again at) = true
turns_back command = false

-- the session that is lent runs, and so does the copy, where there is one, which is at the same state
pub record IsTrialScratch (lent : PlainSession) (copy : Option PlainSession) : Type 0 where
  pub running : lent.stopped ≡ false
  pub same : IfSome copy (λ c. (c.stopped ≡ false) × (c.state ≡ lent.state))

-- The command that is the first that is refused.
use Rattle.std.proofs.Common.{ℕ, zero, suc, List, [], ◌∷◌, ◌++◌, length, Ok, Err, sym, subst}
use Rattle.edit_script.specs.Commands.{PlainCommand}
use Rattle.drc_state.specs.declared.error.EditError.{EditError}
use Rattle.drc_state.specs.States.{State}
use Rattle.drc_state.specs.CommandSteps.{Answers}
use Rattle.what_if.specs.Trials.{LeadTo, StopsAt}

-- the command at this place is the first that is refused, command by command
abbrev pub Stops : State → List PlainCommand → ℕ → EditError → Type 0
Stops s [] place why = ⊥
Stops s (command ∷ commands) zero why = Answers s command (Err why)
Stops s (command ∷ commands) (suc place) why = (next : State) × Answers s command (Ok next) × Stops next commands place why

stops_behind : (s state : State) (before after : List PlainCommand) (command : PlainCommand) (why : EditError) → LeadTo s before state → Answers state command (Err why) → Stops s (before ++ command ∷ after) (length before) why
stops_behind s state [] after command why led refused = subst (λ (x : State). Answers x command (Err why)) led refused
stops_behind s state (c ∷ cs) after command why led refused = (led.0, led.1, stops_behind led.0 state cs after command why led.2 refused)

pub stops : (s : State) (commands : List PlainCommand) (place : ℕ) (why : EditError) → StopsAt s commands place why → Stops s commands place why
stops s commands place why at =
    subst (λ (cs : List PlainCommand). Stops s cs place why) (sym at.stands)
    (subst (λ (k : ℕ). Stops s (at.before ++ at.command ∷ at.after) k why) (sym at.at) (stops_behind s at.state at.before at.after at.command why at.reached at.refused))

-- a command alone is refused at once
at_once : (s : State) (command : PlainCommand) (place : ℕ) (why : EditError) → Stops s (command ∷ []) place why → Answers s command (Err why)
at_once s command zero why h = h
at_once s command (suc place) why h = absurd h.2

pub refused_alone : (s : State) (command : PlainCommand) (place : ℕ) (why : EditError) → StopsAt s (command ∷ []) place why → Answers s command (Err why)
refused_alone s command place why at = at_once s command place why (stops s (command ∷ []) place why at)

-- Commands that lead from state to state.
use Rattle.std.proofs.Common.{◌≡◌, ℕ, suc, ◌+◌, ◌<◌, ◌≤◌, List, [], ◌∷◌, ◌++◌, length, get_or, take, drop, map, Ok, refl, sym, subst, ap, ◌∙◌, arith, drop-cons}
use Rattle.std.specs.List.{All}
use Rattle.std.proofs.lemmas.List.{map-append, map_push, take_more, take-append-drop, length-map, length-take-le, get_or-map}
use Rattle.edit_script.specs.declared.command.Command.{Command}
use Rattle.edit_script.specs.Commands.{PlainCommand, plain_command}
use Rattle.edit_script.specs.Fits.{Fits}
use Rattle.drc_state.specs.States.{State}
use Rattle.drc_state.specs.CommandSteps.{Answers}
use Rattle.what_if.specs.declared.error.TrialError.{TrialError}
use Rattle.what_if.specs.declared.error.TrialError.TheVariants.{Refused, OutOfMemory}
use Rattle.what_if.specs.Trials.{LeadTo}
use Rattle.what_if.specs.Tried.{IsRefusal, IsRefusedAt}

-- one command more
pub lead_push : (s : State) (commands : List PlainCommand) (command : PlainCommand) (mid last : State) → LeadTo s commands mid → Answers mid command (Ok last) → LeadTo s (commands ++ command ∷ []) last
lead_push s [] command mid last e a = (last, subst (λ (x : State). Answers x command (Ok last)) e a, refl)
lead_push s (c ∷ cs) command mid last led a = (led.0, led.1, lead_push led.0 cs command mid last led.2 a)

-- the command that is refused after those before it is the first that is
pub refusal : (s mid : State) (all before after : List PlainCommand) (command : PlainCommand) (place : ℕ) (why : TrialError) → all ≡ before ++ command ∷ after → place ≡ length before → LeadTo s before mid → IsRefusedAt mid command place why → IsRefusal s all why
refusal s mid all before after command place (Refused step inner) e at led r = (record { before = before; command = command; after = after; stands = e; at = r.0 ∙ at; state = mid; reached = led; refused = r.1 }, r.2, r.3)
refusal s mid all before after command place OutOfMemory e at led r = tt

-- ---- the commands as the code has them

module _ (commands : List Command) (i : ℕ) (command : Command) (lt : i < length commands) (is : command ≡ get_or commands i command) where
  before_and_one : map plain_command (take (i + 1) commands) ≡ map plain_command (take i commands) ++ plain_command command ∷ []
  before_and_one =
      ap (map plain_command) (take_more commands i command lt ∙ ap (λ (c : Command). take i commands ++ c ∷ []) (sym is))
      ∙ map_push plain_command (take i commands) command

  all_in_three : map plain_command commands ≡ map plain_command (take i commands) ++ plain_command command ∷ map plain_command (drop (suc i) commands)
  all_in_three =
      ap (map plain_command) (sym (take-append-drop i commands) ∙ ap (λ (cs : List Command). take i commands ++ cs) (drop-cons commands i command lt ∙ ap (λ (c : Command). c ∷ drop (suc i) commands) (sym is)))
      ∙ map-append plain_command (take i commands) (command ∷ drop (suc i) commands)

  long : i ≡ length (map plain_command (take i commands))
  long = let le : i ≤ length commands = omega arith in sym (length-map (take i commands) plain_command ∙ length-take-le i commands le)

  pub lead_more : (s mid last : State) → LeadTo s (map plain_command (take i commands)) mid → Answers mid (plain_command command) (Ok last) → LeadTo s (map plain_command (take (i + 1) commands)) last
  lead_more s mid last led a = subst (λ (cs : List PlainCommand). LeadTo s cs last) (sym before_and_one) (lead_push s (map plain_command (take i commands)) (plain_command command) mid last led a)

  pub refusal_at : (s mid : State) (why : TrialError) → LeadTo s (map plain_command (take i commands)) mid → IsRefusedAt mid (plain_command command) i why → IsRefusal s (map plain_command commands) why
  refusal_at s mid why led r = refusal s mid (map plain_command commands) (map plain_command (take i commands)) (map plain_command (drop (suc i) commands)) (plain_command command) i why all_in_three long led r

  pub fits_at : All Fits (map plain_command commands) → Fits (plain_command command)
  fits_at fit =
      let le : i < length (map plain_command commands) = omega (arith, length-map commands plain_command) in
      subst Fits (get_or-map plain_command commands i command (plain_command command) lt ∙ ap plain_command (sym is)) (fit i (plain_command command) le)

-- ---- a copy is where the session is

pub led_from : (s copy last : State) (commands : List PlainCommand) → copy ≡ s → LeadTo copy commands last → LeadTo s commands last
led_from s copy last commands e led = subst (λ (x : State). LeadTo x commands last) e led

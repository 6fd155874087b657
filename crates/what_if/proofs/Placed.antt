-- The command of a place, as contracts see it.
use Rattle.std.proofs.Common.{◌≡◌, ℕ, zero, suc, ◌<◌, List, [], ◌∷◌, length, get_or, map, Some, sym, ap, arith}
use Rattle.std.specs.List.{slice_get}
use Rattle.edit_script.specs.declared.command.Command.{Command}
use Rattle.edit_script.specs.Commands.{plain_command}

pub stands_at : (commands : List Command) (i : ℕ) (command : Command) → i < length commands → command ≡ get_or commands i command → slice_get (map plain_command commands) i ≡ Some (plain_command command)
stands_at [] i command lt is = absurd (omega arith)
stands_at (x ∷ xs) zero command lt is = ap (λ (c : Command). Some (plain_command c)) (sym is)
stands_at (x ∷ xs) (suc i) command lt is = stands_at xs i command (omega (arith, lt)) is

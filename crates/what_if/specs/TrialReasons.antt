-- Why there is no trial: what each refusal is called, and its number.
use Rattle.std.specs.Prelude.{codes}
use Rattle.plain_types.specs.Reasons.{PlainReason, refused_nowhere}
use Rattle.what_if.specs.declared.error.TrialError.{TrialError}
use Rattle.what_if.specs.declared.error.TrialError.TheVariants.{Refused, OutOfMemory}

-- a command is told by its step and has no place here; running out of memory has no number, which is written 0
abbrev pub trial_reason : TrialError → PlainReason
trial_reason (Refused step inner) = refused_nowhere (codes "Refused") 31
trial_reason OutOfMemory = refused_nowhere (codes "OutOfMemory") 0

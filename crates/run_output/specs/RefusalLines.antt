-- The line of what stops a run.
use Rattle.std.specs.Prelude.{◌≡◌}
use Rattle.run_texts.specs.declared.texts.Stop.{Stop}
use Rattle.run_texts.specs.declared.texts.Stop.TheVariants.{Refused, Unread, OutOfMemory}
use Rattle.run_texts.specs.RunFindings.{why_of}
use Rattle.run_output.specs.Output.{Output, refusal}

-- the line of what stops a run, where it is a refusal
abbrev pub IsLineOf : Stop → Output → Type 0
IsLineOf (Refused r) out = out ≡ refusal r.which (why_of r)
IsLineOf (Unread which) out = ⊥
IsLineOf OutOfMemory out = ⊥

-- Why a step of a history is not taken: what each refusal is called, its number, and its places. A refusal of a command stands
-- behind that of the step.
use Rattle.std.specs.Prelude.{codes}
use Rattle.plain_types.specs.Reasons.{PlainReason, refused_nowhere, carried}
use Rattle.drc_state.specs.CommandReasons.{edit_reason}
use Rattle.undo_log.specs.declared.error.HistoryError.{HistoryError}
use Rattle.undo_log.specs.declared.error.HistoryError.TheVariants.{Edit, NothingToUndo, NothingToRedo, Stopped, OutOfMemory}

-- only commands have places; running out of memory has no number, which is written 0
abbrev pub step_reason : HistoryError → PlainReason
step_reason (Edit e) = carried (codes "Edit") 10 (edit_reason e)
step_reason NothingToUndo = refused_nowhere (codes "NothingToUndo") 11
step_reason NothingToRedo = refused_nowhere (codes "NothingToRedo") 12
step_reason Stopped = refused_nowhere (codes "Stopped") 13
step_reason OutOfMemory = refused_nowhere (codes "OutOfMemory") 0

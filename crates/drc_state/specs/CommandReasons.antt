-- Why a command is not carried out: what each refusal is called, its number, and its places. A refusal of an added list or of
-- rules stands behind that of the command.
use Rattle.std.specs.Prelude.{codes}
use Rattle.plain_types.specs.Reasons.{PlainReason, refused_nowhere, carried}
use Rattle.board_errors.specs.BoardReasons.{board_reason}
use Rattle.rule_text.specs.RuleReasons.{rules_reason}
use Rattle.drc_state.specs.declared.error.EditError.{EditError}
use Rattle.drc_state.specs.declared.error.EditError.TheVariants.{NoSuchItem, SharedName, PartOfFootprint, Item, Rules, Stopped, OutOfMemory}

-- units that are not found have no place: they are named; running out of memory has no number, which is written 0
abbrev pub edit_reason : EditError → PlainReason
edit_reason NoSuchItem = refused_nowhere (codes "NoSuchItem") 1
edit_reason SharedName = refused_nowhere (codes "SharedName") 2
edit_reason PartOfFootprint = refused_nowhere (codes "PartOfFootprint") 3
edit_reason (Item e) = carried (codes "Item") 4 (board_reason e)
edit_reason (Rules e) = carried (codes "Rules") 5 (rules_reason e)
edit_reason Stopped = refused_nowhere (codes "Stopped") 6
edit_reason OutOfMemory = refused_nowhere (codes "OutOfMemory") 0

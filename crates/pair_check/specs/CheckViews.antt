-- What a view lends.
use Rattle.std.specs.Prelude.{ℤ, map}
use Rattle.plain_types.specs.Limits.{AreCounted}
use Rattle.cond_lang.specs.Rules.{plain_rule}
use Rattle.rule_pick.specs.AllFacts.{HasFacts}
use Rattle.pair_check.specs.declared.view.CheckView.{CheckView}
use Rattle.cond_lang.specs.declared.kind.Kind.{Kind}
use Rattle.kind_subjects.specs.declared.layer.RowLayer.{RowLayer}
use Rattle.pair_check.specs.declared.found.Single.{Single}
use Rattle.pair_check.specs.Pairs.{Deciders}
use Rattle.pair_check.specs.Singles.{IsOffAt, IsForbiddenAt}
use Rattle.pair_check.specs.Rows.{Checked, deciders}

-- what is checked through a view
abbrev pub checked_by : CheckView → Checked
checked_by view = record { board = view.board.now; classes = view.classes.now; rules = map plain_rule view.rules.now }

-- the facts are those of all items of the board under its classes, and rules can be counted
pub record IsWholeView (view : CheckView) : Type 0 where
  pub facts : HasFacts view.board.now view.classes.now view.facts.now
  pub few_rules : AreCounted view.rules.now

-- what decides of what is checked through a view
abbrev pub deciders_of : CheckView → Deciders
deciders_of view = deciders (checked_by view)

-- on the layer a length of the single item breaks a limit
abbrev pub IsOffIn : CheckView → Kind → Single → ℤ → RowLayer → Type 0
IsOffIn view kind single n layer = IsOffAt (deciders_of view) kind single.item.now single.facts.now n layer

-- on the layer the single item is forbidden
abbrev pub IsForbiddenIn : CheckView → Kind → Single → RowLayer → Type 0
IsForbiddenIn view kind single layer = IsForbiddenAt (deciders_of view) kind single.item.now single.facts.now layer

-- What the texts open, as the program holds it.
use Rattle.rule_text.specs.RuleValues.{plain_rules}
use Rattle.run_texts.specs.declared.texts.Texts.{Texts}
use Rattle.drc_state.specs.States.{State}

abbrev pub opened_in : Texts → State
opened_in texts = record { board = texts.board; classes = texts.classes; rules = plain_rules texts.rules }

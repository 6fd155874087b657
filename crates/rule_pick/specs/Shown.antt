-- What a value of the code stands for.
use Rattle.rule_pick.specs.declared.values.Value as code
use Rattle.rule_pick.specs.declared.values.Value.TheVariants.{Missing, Text, Length}
use Rattle.rule_pick.specs.Meaning.{Value, missing, text, length}

abbrev pub shown : code.Value → Value
shown Missing = missing
shown (Text bytes) = text bytes.now
shown (Length nm) = length nm

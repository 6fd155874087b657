-- What is picked, as plain data.
use Rattle.std.specs.Prelude.{ℤ, Bool, Option}
use Rattle.cond_lang.specs.declared.rule.Disallow.{Disallow}
use Rattle.cond_lang.specs.declared.rule.Severity.{Severity}
use Rattle.rule_pick.specs.declared.kinds.Source.{Source}
use Rattle.rule_pick.specs.declared.picked.Picked.{Picked}

pub record Pick : Type 0 where
  pub least : ℤ
  pub most : Option ℤ
  pub bans : Disallow
  pub source : Source
  pub severity : Severity
  pub holds : Bool

abbrev pub pick_of : Picked → Pick
pick_of p = record { least = p.least; most = p.most; bans = p.bans; source = p.source; severity = p.severity; holds = p.holds }

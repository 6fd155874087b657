-- Rules as plain data.
use Rattle.std.specs.Prelude.{ℕ, ℤ, false, List, map, Option}
use Rattle.std.specs.Option.{option_map}
use Rattle.cond_lang.specs.declared.kind.Kind.{Kind}
use Rattle.cond_lang.specs.declared.rule.RuleLayer.{RuleLayer}
use Rattle.cond_lang.specs.declared.rule.Severity.{Severity}
use Rattle.cond_lang.specs.declared.rule.Disallow.{Disallow}
use Rattle.cond_lang.specs.declared.constraint.Constraint.{Constraint}
use Rattle.cond_lang.specs.declared.constraints.Rule.{Rule}
use Rattle.cond_lang.specs.Trees.{CondTree, cond_tree_of}

pub record PlainConstraint : Type 0 where
  pub kind : Kind
  pub least : Option ℤ
  pub most : Option ℤ
  pub bans : Disallow
  pub claim : Option CondTree

pub record PlainRule : Type 0 where
  pub name : List ℕ
  pub layer : RuleLayer
  pub severity : Severity
  pub cond : Option CondTree
  pub constraints : List PlainConstraint

abbrev pub no_bans : Disallow
no_bans = record {
  tracks = false;
  vias = false;
  micro_vias = false;
  buried_vias = false;
  pads = false;
  zones = false;
  graphics = false;
  holes = false;
  footprints = false;
  texts = false;
}

abbrev pub plain_constraint : Constraint → PlainConstraint
plain_constraint c = record { kind = c.kind; least = c.least; most = c.most; bans = c.bans; claim = option_map cond_tree_of c.claim }

abbrev pub plain_rule : Rule → PlainRule
plain_rule r = record { name = r.name; layer = r.layer; severity = r.severity; cond = option_map cond_tree_of r.cond; constraints = map plain_constraint r.constraints }

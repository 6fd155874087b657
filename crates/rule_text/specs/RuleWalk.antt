-- The walk over a rule file, as the reader makes it: what was read so far, and one clause or form more. What a file says is defined by
-- all its forms and clauses, in `RulesOf`; both are the same.
use Rattle.std.specs.Prelude.{ℕ, List, [], ◌∷◌, ◌++◌, length, codes, Bool, ◌||◌, ◌==◌, not, is_some, unwrap_or, Option, None, Some, Result, Ok, if◌then◌else◌}
use Rattle.std.specs.List.{list_any}
use Rattle.sexpr_read.specs.Tree.{Tree}
use Rattle.cond_lang.specs.declared.kind.Kind.{Kind}
use Rattle.cond_lang.specs.declared.rule.RuleLayer.{RuleLayer}
use Rattle.cond_lang.specs.declared.rule.RuleLayer.TheVariants.{Any}
use Rattle.cond_lang.specs.declared.rule.Severity.{Severity}
use Rattle.cond_lang.specs.declared.rule.Severity.TheVariants.{Error}
use Rattle.cond_lang.specs.CheckKinds.{kind_number}
use Rattle.cond_lang.specs.Rules.{PlainRule, PlainConstraint}
use Rattle.cond_lang.specs.Trees.{CondTree}
use Rattle.rule_text.specs.declared.error.RuleError.{RuleError}
use Rattle.rule_text.specs.declared.error.RuleError.TheVariants.{Bad}
use Rattle.list_read.specs.FirstRefusals.{◌>>=◌, check}
use Rattle.list_read.specs.ListHeads.{place, text_of, has_head}
use Rattle.rule_text.specs.RuleForms.{bad, name_at, atom_at, clauses}
use Rattle.rule_text.specs.RuleLayers.{layer_in}
use Rattle.rule_text.specs.RuleLimits.{kind_named, cond_in}
use Rattle.rule_text.specs.RulesOf.{PlainNote, PlainRules, severity_in, constraint_in, is_asked}

-- a constraint of this kind is among them
abbrev pub has_kind : Kind → List PlainConstraint → Bool
has_kind kind constraints = list_any (λ c. kind_number c.kind == kind_number kind) constraints

-- ---- clauses

-- a rule so far: its number, what its clauses have said, and the notes of all rules up to here
pub record PlainDraft : Type 0 where
  pub number : ℕ
  pub layer : Option RuleLayer
  pub severity : Option Severity
  pub cond : Option CondTree
  pub constraints : List PlainConstraint
  pub notes : List PlainNote

unfoldable pub with_layer : PlainDraft → Tree → Result PlainDraft RuleError
with_layer draft clause =
    if is_some draft.layer then Ok draft
    else (layer_in clause >>= λ layer. Ok (record draft { layer = Some layer }))

unfoldable pub with_severity : PlainDraft → Tree → Result PlainDraft RuleError
with_severity draft clause =
    if is_some draft.severity then Ok draft
    else (severity_in clause >>= λ severity. Ok (record draft { severity = Some severity }))

-- where no condition is asked, it is passed over
unfoldable pub with_cond : Bool → PlainDraft → Tree → Result PlainDraft RuleError
with_cond asked draft clause =
    if not asked || is_some draft.cond then Ok draft
    else (atom_at clause >>= λ atom. cond_in atom >>= λ cond. Ok (record draft { cond = Some cond }))

abbrev pub noted : PlainDraft → Tree → PlainDraft
noted draft name = record draft { notes = draft.notes ++ (record { rule = draft.number; constraint = text_of name } ∷ []) }

abbrev pub constrained : PlainDraft → PlainConstraint → PlainDraft
constrained draft constraint = record draft { constraints = draft.constraints ++ (constraint ∷ []) }

abbrev pub with_kind : PlainDraft → Tree → Tree → Option Kind → Result PlainDraft RuleError
with_kind draft clause name None = Ok (noted draft name)
with_kind draft clause name (Some kind) =
    if has_kind kind draft.constraints then Ok draft
    else (constraint_in kind clause >>= λ constraint. Ok (constrained draft constraint))

unfoldable pub with_constraint : PlainDraft → Tree → Result PlainDraft RuleError
with_constraint draft clause = name_at clause >>= λ name. with_kind draft clause name (kind_named name)

unfoldable pub with_clause : Bool → PlainDraft → Tree → Result PlainDraft RuleError
with_clause asked draft clause =
    if has_head (codes "layer") clause then with_layer draft clause
    else if has_head (codes "severity") clause then with_severity draft clause
    else if has_head (codes "condition") clause then with_cond asked draft clause
    else if has_head (codes "constraint") clause then with_constraint draft clause
    else bad clause

unfoldable pub with_clauses : Bool → PlainDraft → List Tree → Result PlainDraft RuleError
with_clauses asked draft [] = Ok draft
with_clauses asked draft (t ∷ ts) = with_clause asked draft t >>= λ more. with_clauses asked more ts

-- ---- forms

abbrev pub blank : ℕ → List PlainNote → PlainDraft
blank number notes = record { number = number; layer = None; severity = None; cond = None; constraints = []; notes = notes }

abbrev pub rule_by : List ℕ → PlainDraft → PlainRule
rule_by name draft = record {
  name = name;
  layer = unwrap_or draft.layer Any;
  severity = unwrap_or draft.severity Error;
  cond = draft.cond;
  constraints = draft.constraints;
}

-- (rule NAME CLAUSE ..)
unfoldable pub with_rule : PlainRules → Tree → Result PlainRules RuleError
with_rule rules form = do
  named ← check (Bad (place form)) (has_head (codes "rule") form)
  name ← name_at form
  draft ← with_clauses (is_asked (clauses form)) (blank (length rules.rules) rules.notes) (clauses form)
  Ok (record { rules = rules.rules ++ (rule_by (text_of name) draft ∷ []); notes = draft.notes })

unfoldable pub with_rules : PlainRules → List Tree → Result PlainRules RuleError
with_rules rules [] = Ok rules
with_rules rules (t ∷ ts) = with_rule rules t >>= λ more. with_rules more ts

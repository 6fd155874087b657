-- The rules of a rule file: (version 1), and then forms (rule NAME CLAUSE ..). The language is that of the custom design rules
-- of KiCad 7 (PCB editor manual). A second clause with one head is passed over unread, and so is a second constraint of one
-- kind.
use Rattle.std.specs.Prelude.{ℕ, suc, List, [], ◌∷◌, ◌++◌, map, filter, filter_map, fold, codes, Bool, true, false, ◌&&◌, ◌||◌, ◌==◌, not, is_some, Option, None, Some, Result, Ok, Err, if◌then◌else◌}
use Rattle.std.specs.List.{list_any}
use Rattle.sexpr_read.specs.Tree.{Tree, parts, is_list}
use Rattle.cond_lang.specs.declared.kind.Kind.{Kind}
use Rattle.cond_lang.specs.declared.kind.Family.{Family}
use Rattle.cond_lang.specs.declared.kind.Family.TheVariants.{Meets, Keeps, Limits, Forbids}
use Rattle.cond_lang.specs.declared.rule.RuleLayer.{RuleLayer}
use Rattle.cond_lang.specs.declared.rule.RuleLayer.TheVariants.{Any}
use Rattle.cond_lang.specs.declared.rule.Severity.{Severity}
use Rattle.cond_lang.specs.declared.rule.Severity.TheVariants.{Error, Warning, Ignore, Exclusion}
use Rattle.cond_lang.specs.CheckKinds.{family, kind_number, is_assertion}
use Rattle.cond_lang.specs.Rules.{PlainRule, PlainConstraint, no_bans}
use Rattle.cond_lang.specs.Trees.{CondTree}
use Rattle.rule_text.specs.declared.error.RuleError.{RuleError}
use Rattle.rule_text.specs.declared.error.RuleError.TheVariants.{Version, Bad}
use Rattle.list_read.specs.FirstRefusals.{◌>>=◌, needed, check, each_of}
use Rattle.list_read.specs.ListHeads.{place, text_of, is_text, has_head}
use Rattle.rule_text.specs.RuleForms.{bad, name_at, atom_at, clauses}
use Rattle.rule_text.specs.RuleLayers.{layer_in}
use Rattle.rule_text.specs.RuleLimits.{kind_named, PlainLimits, with_limits, unlimited, with_bans, cond_in}

-- a constraint that no rule may have: the number of its rule, from 0, and its name
pub record PlainNote : Type 0 where
  pub rule : ℕ
  pub constraint : List ℕ

pub record PlainRules : Type 0 where
  pub rules : List PlainRule
  pub notes : List PlainNote

-- ---- severities

abbrev pub severity_named : Tree → Option Severity
severity_named atom =
    if is_text atom (codes "error") then Some Error
    else if is_text atom (codes "warning") then Some Warning
    else if is_text atom (codes "ignore") then Some Ignore
    else if is_text atom (codes "exclusion") then Some Exclusion
    else None

-- (severity WORD)
unfoldable pub severity_in : Tree → Result Severity RuleError
severity_in clause = do
  atom ← atom_at clause
  needed (Bad (place atom)) (severity_named atom)

-- ---- constraints

abbrev pub limiting : Kind → PlainLimits → PlainConstraint
limiting kind limits = record { kind = kind; least = limits.least; most = limits.most; bans = no_bans; claim = None }

-- the other words of (constraint NAME ..), by its kind
abbrev pub limited : Kind → Tree → Result PlainConstraint RuleError
limited kind clause = with_limits unlimited (clauses clause) >>= λ limits. Ok (limiting kind limits)

abbrev pub banned : Kind → Tree → Result PlainConstraint RuleError
banned kind clause = with_bans no_bans (clauses clause) >>= λ bans. Ok (record { kind = kind; least = None; most = None; bans = bans; claim = None })

-- an assertion has one part: an atom
abbrev pub claim_among : Tree → List Tree → Result Tree RuleError
claim_among clause [] = bad clause
claim_among clause (t ∷ []) = if is_list t then bad t else Ok t
claim_among clause (t ∷ u ∷ ts) = bad clause

abbrev pub claimed : Kind → Tree → Result PlainConstraint RuleError
claimed kind clause = do
  atom ← claim_among clause (clauses clause)
  claim ← cond_in atom
  Ok (record { kind = kind; least = None; most = None; bans = no_bans; claim = Some claim })

abbrev pub forbidding : Kind → Tree → Result PlainConstraint RuleError
forbidding kind clause = if is_assertion kind then claimed kind clause else banned kind clause

abbrev pub constraint_by : Family → Kind → Tree → Result PlainConstraint RuleError
constraint_by Meets kind clause = limited kind clause
constraint_by Keeps kind clause = limited kind clause
constraint_by Limits kind clause = limited kind clause
constraint_by Forbids kind clause = forbidding kind clause

unfoldable pub constraint_in : Kind → Tree → Result PlainConstraint RuleError
constraint_in kind clause = constraint_by (family kind) kind clause

-- ---- clauses

-- what a clause is of: a constraint of its kind, if rules may have it
pub data Sort : Type 0 where
  of_layer : Sort
  of_severity : Sort
  of_condition : Sort
  of_kind : Kind → Sort
  of_other : Sort

abbrev pub sort_by : Option Kind → Sort
sort_by None = of_other
sort_by (Some kind) = of_kind kind

unfoldable pub sort_in : Tree → Result Sort RuleError
sort_in clause =
    if has_head (codes "layer") clause then Ok of_layer
    else if has_head (codes "severity") clause then Ok of_severity
    else if has_head (codes "condition") clause then Ok of_condition
    else if has_head (codes "constraint") clause then (name_at clause >>= λ name. Ok (sort_by (kind_named name)))
    else bad clause

-- a clause that is refused is of no sort, and no two other constraints are of one
abbrev pub one_sort : Result Sort RuleError → Result Sort RuleError → Bool
one_sort (Ok of_layer) (Ok of_layer) = true
one_sort (Ok of_severity) (Ok of_severity) = true
one_sort (Ok of_condition) (Ok of_condition) = true
one_sort (Ok (of_kind k)) (Ok (of_kind m)) = kind_number k == kind_number m
one_sort a b = false

-- the first of each sort
abbrev pub firsts : List Tree → List Tree
firsts [] = []
firsts (t ∷ ts) = t ∷ filter (λ u. not (one_sort (sort_in t) (sort_in u))) (firsts ts)

-- what a clause says
pub data Said : Type 0 where
  says_layer : RuleLayer → Said
  says_severity : Severity → Said
  says_condition : CondTree → Said
  says_constraint : PlainConstraint → Said
  says_other : List ℕ → Said

abbrev pub said_by : Tree → Sort → Result Said RuleError
said_by clause of_layer = layer_in clause >>= λ layer. Ok (says_layer layer)
said_by clause of_severity = severity_in clause >>= λ severity. Ok (says_severity severity)
said_by clause of_condition = atom_at clause >>= λ atom. cond_in atom >>= λ cond. Ok (says_condition cond)
said_by clause (of_kind kind) = constraint_in kind clause >>= λ constraint. Ok (says_constraint constraint)
said_by clause of_other = name_at clause >>= λ name. Ok (says_other (text_of name))

unfoldable pub said_in : Tree → Result Said RuleError
said_in clause = sort_in clause >>= said_by clause

-- ---- whether a rule's condition is asked

abbrev pub is_other_name : Result Tree RuleError → Bool
is_other_name (Err e) = false
is_other_name (Ok name) = not (is_some (kind_named name))

abbrev pub is_constraint : Tree → Bool
is_constraint clause = has_head (codes "constraint") clause

-- a constraint of a name that no rule may have
unfoldable pub is_other : Tree → Bool
is_other clause = is_other_name (name_at clause)

abbrev pub is_own : Tree → Bool
is_own clause = is_constraint clause && not (is_other clause)

-- the rule has no constraint, or one whose name is that of a kind
abbrev pub is_asked : List Tree → Bool
is_asked ts = not (list_any is_constraint ts) || list_any is_own ts

abbrev pub is_heard : Bool → Tree → Bool
is_heard asked clause = asked || not (one_sort (Ok of_condition) (sort_in clause))

-- The clauses that count: of each sort the first, and conditions where they are asked.
abbrev pub counting : List Tree → List Tree
counting ts = firsts (filter (is_heard (is_asked ts)) ts)

-- ---- forms

-- a rule, and of its constraints the names that are those of no kind
pub record Read : Type 0 where
  pub rule : PlainRule
  pub others : List (List ℕ)

abbrev pub with_said : PlainRule → Said → PlainRule
with_said rule (says_layer layer) = record rule { layer = layer }
with_said rule (says_severity severity) = record rule { severity = severity }
with_said rule (says_condition cond) = record rule { cond = Some cond }
with_said rule (says_constraint constraint) = record rule { constraints = rule.constraints ++ (constraint ∷ []) }
with_said rule (says_other name) = rule

abbrev pub other_in : Said → Option (List ℕ)
other_in (says_other name) = Some name
other_in said = None

-- the rule that says nothing
abbrev pub plain : List ℕ → PlainRule
plain name = record { name = name; layer = Any; severity = Error; cond = None; constraints = [] }

-- (rule NAME CLAUSE ..)
unfoldable pub rule_in : Tree → Result Read RuleError
rule_in form = do
  named ← check (Bad (place form)) (has_head (codes "rule") form)
  name ← name_at form
  said ← each_of said_in (counting (clauses form))
  Ok (record { rule = fold with_said (plain (text_of name)) said; others = filter_map other_in said })

abbrev pub note : ℕ → List ℕ → PlainNote
note rule name = record { rule = rule; constraint = name }

-- the notes of the rules from this number on
abbrev pub notes_from : ℕ → List Read → List PlainNote
notes_from n [] = []
notes_from n (r ∷ rs) = map (note n) r.others ++ notes_from (suc n) rs

abbrev pub all_rules : List Read → PlainRules
all_rules rs = record { rules = map (λ r. r.rule) rs; notes = notes_from 0 rs }

abbrev pub no_rules : PlainRules
no_rules = record { rules = []; notes = [] }

abbrev pub is_one : Result Tree RuleError → Bool
is_one (Err e) = false
is_one (Ok atom) = is_text atom (codes "1")

-- (version 1)
unfoldable pub is_version : Tree → Bool
is_version form = has_head (codes "version") form && is_one (atom_at form)

-- The rules of these forms; the refusal is for where there is no form.
unfoldable pub rules_of : RuleError → List Tree → Result PlainRules RuleError
rules_of none [] = Err none
rules_of none (t ∷ ts) = do
  version ← check (Version (place t)) (is_version t)
  rules ← each_of rule_in ts
  Ok (all_rules rules)

-- The rules of a file of this length.
unfoldable pub file_of : ℕ → Tree → Result PlainRules RuleError
file_of size root = rules_of (Version size) (parts root)

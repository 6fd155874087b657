-- A rule file, or a list of rules, has no more rules than its text has bytes.
use Rattle.std.proofs.Common.{◌≡◌, ℕ, ◌≤◌, ◌+◌, List, [], ◌∷◌, ◌++◌, length, Option, Some, None, Result, Ok, Err, refl, sym, subst, ap, ◌∙◌, arith, length-append, codes}
use Rattle.sexpr_read.specs.declared.place.TextError.{TextError}
use Rattle.sexpr_read.specs.Tree.{Tree, parts}
use Rattle.sexpr_read.specs.Spelling.{SpellsAll}
use Rattle.sexpr_read.specs.TreeRefusals.{refusal_of_all}
use Rattle.sexpr_read.specs.TreePlaces.{PartsStandBetween}
use Rattle.rule_text.specs.declared.error.RuleError.{RuleError}
use Rattle.rule_text.specs.declared.error.RuleError.TheVariants.{Text, Version, Bad}
use Rattle.rule_text.specs.ShortRuleTrees.{AllShort}
use Rattle.list_read.specs.FirstRefusals.{◌>>=◌, check, each_of}
use Rattle.list_read.specs.ListHeads.{place, text_of, has_head, has_word_head, behind_head}
use Rattle.list_read.specs.TextResults.{IsBehindText}
use Rattle.rule_text.specs.RuleForms.{name_at, clauses}
use Rattle.rule_text.specs.RulesOf.{PlainRules, is_asked, is_version, no_rules, rules_of, file_of, rule_in, all_rules}
use Rattle.rule_text.specs.RuleWalk.{PlainDraft, rule_by, blank, with_clauses, with_rule, with_rules}
use Rattle.rule_text.specs.RuleText.{RulesSays}
use Rattle.rule_text.specs.ListText.{no_form, nothing_more, list_among, list_of, moved, Here, SaysList}
use Rattle.rule_text.proofs.InOrder.{rules_in_order}
use Rattle.rule_text.proofs.Shortness.{forms_few, forms_short, behind_head_few}

-- where both steps give a value, so does the first
both_give : {A B : Type 0} (x : Result A RuleError) (f : A → Result B RuleError) (b : B) → (x >>= f) ≡ Ok b → (a : A) × (x ≡ Ok a) × (f a ≡ Ok b)
both_give (Err e) f b h = absurd (cc)
both_give (Ok a) f b h = (a, refl, h)

abbrev given : PlainRules → Result PlainRules RuleError
given rules = Ok rules

same_value : (a b : PlainRules) → given a ≡ given b → a ≡ b
same_value a b h = cc

-- ---- the steps of a rule
abbrev made : PlainRules → Tree → PlainDraft → PlainRules
made rules name draft = record { rules = rules.rules ++ (rule_by (text_of name) draft ∷ []); notes = draft.notes }

abbrev with_draft : PlainRules → Tree → Tree → Result PlainRules RuleError
with_draft rules form name =
    with_clauses (is_asked (clauses form)) (blank (length rules.rules) rules.notes) (clauses form) >>= λ draft. given (made rules name draft)

abbrev with_name : PlainRules → Tree → Result PlainRules RuleError
with_name rules form = name_at form >>= λ name. with_draft rules form name

one_more : (rules more : PlainRules) (form : Tree) → with_rule rules form ≡ Ok more → length more.rules ≡ length rules.rules + 1
unfolding with_rule
one_more rules more form h =
    let named = both_give (check (Bad (place form)) (has_head (codes "rule") form)) (λ named. with_name rules form) more h in
    let name = both_give (name_at form) (λ name. with_draft rules form name) more named.2 in
    let draft =
    both_give (with_clauses (is_asked (clauses form)) (blank (length rules.rules) rules.notes) (clauses form)) (λ draft. given (made rules name.0 draft)) more name.2 in
    let is = same_value (made rules name.0 draft.0) more draft.2 in
    ap (λ (r : PlainRules). length r.rules) (sym is) ∙ length-append rules.rules (rule_by (text_of name.0) draft.0 ∷ [])

as_many : (rules all : PlainRules) (forms : List Tree) → with_rules rules forms ≡ Ok all → length all.rules ≡ length rules.rules + length forms
unfolding with_rules
as_many rules all [] h = let is = same_value rules all h in let same = ap (λ (r : PlainRules). length r.rules) is in omega (arith, same)
as_many rules all (form ∷ forms) h =
    let first = both_give (with_rule rules form) (λ more. with_rules more forms) all h in
    let one = one_more rules first.0 form first.1 in
    let rest = as_many first.0 all forms first.2 in
    omega (arith, one, rest)

of_forms : (none : RuleError) (forms : List Tree) (rules : PlainRules) → rules_of none forms ≡ Ok rules → length rules.rules ≤ length forms
unfolding rules_of
of_forms none [] rules h = absurd (cc)
of_forms none (form ∷ forms) rules h =
    let version = both_give (check (Version (place form)) (is_version form)) (λ version. each_of rule_in forms >>= λ read. given (all_rules read)) rules h in
    let many = as_many no_rules rules forms (rules_in_order forms ∙ version.2) in
    omega (arith, many)

-- ---- a list

abbrev alone : List Tree → PlainRules → Result PlainRules RuleError
alone ts rules = nothing_more ts >>= λ alone. given rules

abbrev of_list : ℕ → Tree → List Tree → Result PlainRules RuleError
of_list size t ts = rules_of (no_form size ts) (behind_head t) >>= λ rules. alone ts rules

among : (size : ℕ) (ts : List Tree) (rules : PlainRules) → AllShort ts → list_among size ts ≡ Ok rules → length rules.rules ≤ 33554432
among size [] rules short h = absurd (cc)
among size (t ∷ ts) rules short h =
    let named = both_give (check (Bad 0) (has_word_head (codes "rules") t)) (λ named. of_list size t ts) rules h in
    let found = both_give (rules_of (no_form size ts) (behind_head t)) (alone ts) rules named.2 in
    let last = both_give (nothing_more ts) (λ alone. given found.0) rules found.2 in
    let is = ap (λ (r : PlainRules). length r.rules) (same_value found.0 rules last.2) in
    let many = of_forms (no_form size ts) (behind_head t) found.0 found.1 in
    let few = behind_head_few t short.0 in
    omega (arith, is, many, few)

here_few : (size : ℕ) (root : Tree) (rules : PlainRules) → AllShort (parts root) → list_of size root ≡ Ok rules → length rules.rules ≤ 33554432
unfolding list_of
here_few size root rules short h = among size (parts root) rules short h

-- a refusal that is moved is none the less one
unmoved : (by : ℕ) (answer : Result PlainRules RuleError) (rules : PlainRules) → given rules ≡ moved by answer → answer ≡ Ok rules
unmoved by (Ok found) rules h = cc
unmoved by (Err e) rules h = absurd (cc)

-- ---- texts

module _ (in_order : (text : List ℕ) (t : Tree) → SpellsAll text t → PartsStandBetween text 0 (length text) t) where
  file_after : (text : List ℕ) (e : Option TextError) (rules : PlainRules) → length text ≤ 33554432 → IsBehindText Text (SpellsAll text) (λ tree told. told ≡ file_of (length text) tree) e (Ok rules) → length rules.rules ≤ 33554432
  unfolding file_of
  file_after text (Some e) rules short says = absurd (cc)
  file_after text None rules short says =
      let few = forms_few text says.0 (in_order text says.0 says.1) short in
      let many = of_forms _ (parts says.0) rules (sym says.2) in
      omega (arith, few, many)

  pub few_in_file : (text : List ℕ) (rules : PlainRules) → length text ≤ 33554432 → RulesSays text (Ok rules) → length rules.rules ≤ 33554432
  few_in_file text rules short says = file_after text (refusal_of_all text) rules short says

  list_after : (text : List ℕ) (e : Option TextError) (rules : PlainRules) → length text ≤ 33554432 → IsBehindText Text (SpellsAll text) (λ tree told. told ≡ list_of (length text) tree) e (Ok rules) → length rules.rules ≤ 33554432
  list_after text (Some e) rules short says = absurd (cc)
  list_after text None rules short says =
      here_few (length text) says.0 rules (forms_short text says.0 (in_order text says.0 says.1) short) (sym says.2)

  pub few_in_list : (text : List ℕ) (by : ℕ) (rules : PlainRules) → length text ≤ 33554432 → SaysList text by (Ok rules) → length rules.rules ≤ 33554432
  few_in_list text by rules short says =
      list_after text (refusal_of_all text) rules short (subst (Here text) (unmoved by says.0 rules says.2) says.1)

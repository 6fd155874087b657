-- The walk over the clauses of a rule reads those that count, and the walk over the forms gives their rules in order.
use Rattle.std.proofs.Common.{◌≡◌, ℕ, suc, refl, sym, subst, ◌∙◌, ap, List, [], ◌∷◌, ◌++◌, length, length-append, append_assoc, append-nil, Bool, true, false, not, cond, ◌&&◌, ◌||◌, ◌==◌, Option, Some, None, Result, Ok, Err, map, arith, codes}
use Rattle.std.specs.Prelude.{filter, filter_map, fold, is_some, if◌then◌else◌}
use Rattle.std.specs.List.{list_any}
use Rattle.sexpr_read.specs.Tree.{Tree}
use Rattle.cond_lang.specs.declared.kind.Kind.{Kind}
use Rattle.cond_lang.specs.declared.kind.Family.{Family}
use Rattle.cond_lang.specs.declared.kind.Family.TheVariants.{Meets, Keeps, Limits, Forbids}
use Rattle.cond_lang.specs.declared.rule.RuleLayer.{RuleLayer}
use Rattle.cond_lang.specs.declared.rule.Severity.{Severity}
use Rattle.cond_lang.specs.declared.rule.Disallow.{Disallow}
use Rattle.cond_lang.specs.Trees.{CondTree}
use Rattle.cond_lang.specs.CheckKinds.{family, kind_number, is_assertion}
use Rattle.cond_lang.specs.Rules.{PlainRule, PlainConstraint, no_bans}
use Rattle.rule_text.specs.declared.error.RuleError.{RuleError}
use Rattle.rule_text.specs.declared.error.RuleError.TheVariants.{Bad}
use Rattle.list_read.specs.FirstRefusals.{◌>>=◌, check, each_of}
use Rattle.list_read.specs.ListHeads.{place, text_of, has_head}
use Rattle.rule_text.specs.RuleForms.{bad, name_at, atom_at, clauses}
use Rattle.rule_text.specs.RuleLayers.{layer_in}
use Rattle.rule_text.specs.RuleLimits.{PlainLimits, kind_named, cond_in, with_limits, unlimited, with_bans}
use Rattle.rule_text.specs.RulesOf.{PlainRules, PlainNote, severity_in, limiting, banned, claim_among, claimed, constraint_by, constraint_in, Sort, of_layer, of_severity, of_condition, of_kind, of_other, sort_by, sort_in, one_sort, firsts, Said, says_layer, says_severity, says_condition, says_constraint, says_other, said_by, said_in, is_asked, is_heard, counting, Read, with_said, other_in, plain, rule_in, note, notes_from, all_rules, no_rules}
use Rattle.rule_text.specs.RuleWalk.{PlainDraft, has_kind, with_layer, with_severity, with_cond, with_kind, with_constraint, with_clause, with_clauses, blank, rule_by, with_rule, with_rules}

-- ---- tests

-- what passes two tests passes the one that stands for both
both_tests : {A : Type 0} → (p q r : A → Bool) → ((x : A) → r x ≡ (q x && p x)) → (xs : List A) → filter p (filter q xs) ≡ filter r xs
both_tests p q r h [] = refl
both_tests p q r h (x ∷ xs) =
    rw (h x) (elim (q x) as (λ b. filter p (cond b (x ∷ filter q xs) (filter q xs)) ≡ cond (b && p x) (x ∷ filter r xs) (filter r xs))
    [ true ↦ ap (λ l. cond (p x) (x ∷ l) l) (both_tests p q r h xs) | false ↦ both_tests p q r h xs ])

all_pass : {A : Type 0} → (p : A → Bool) → ((x : A) → p x ≡ true) → (xs : List A) → filter p xs ≡ xs
all_pass p h [] = refl
all_pass {A = A} p h (x ∷ xs) = by (p x) (h x) (all_pass p h xs)
  where
    by : (b : Bool) → b ≡ true → filter p xs ≡ xs → cond b (x ∷ filter p xs) (filter p xs) ≡ x ∷ xs
    by true e k = ap (λ (l : List A). x ∷ l) k
    by false e k = cc

-- ---- one clause

abbrev put : PlainDraft → Said → PlainDraft
put d (says_layer layer) = record d { layer = Some layer }
put d (says_severity severity) = record d { severity = Some severity }
put d (says_condition c) = record d { cond = Some c }
put d (says_constraint c) = record d { constraints = d.constraints ++ (c ∷ []) }
put d (says_other name) = record d { notes = d.notes ++ (note d.number name ∷ []) }

-- a clause of this sort is passed over
abbrev knows : PlainDraft → Result Sort RuleError → Bool
knows d (Err e) = false
knows d (Ok of_layer) = is_some d.layer
knows d (Ok of_severity) = is_some d.severity
knows d (Ok of_condition) = is_some d.cond
knows d (Ok (of_kind kind)) = has_kind kind d.constraints
knows d (Ok of_other) = false

abbrev hears : Bool → Result Sort RuleError → Bool
hears asked sort = asked || not (one_sort (Ok of_condition) sort)

abbrev said_of : Tree → Result Sort RuleError → Result Said RuleError
said_of t sort = sort >>= said_by t

abbrev then_put : PlainDraft → Result Said RuleError → Result PlainDraft RuleError
then_put d said = said >>= λ s. Ok (put d s)

abbrev step : Bool → PlainDraft → Tree → Result Sort RuleError → Result PlainDraft RuleError
step asked d t sort = if hears asked sort then (if knows d sort then Ok d else then_put d (said_of t sort)) else Ok d

layer_is : (asked : Bool) (d : PlainDraft) (t : Tree) → with_layer d t ≡ step asked d t (Ok of_layer)
unfolding with_layer
layer_is asked d t = by asked (is_some d.layer) (layer_in t)
  where
    by : (a b : Bool) (r : Result RuleLayer RuleError) → (if b then Ok d else (r >>= λ layer. Ok (record d { layer = Some layer }))) ≡ (if a || true then (if b then Ok d else then_put d (r >>= λ layer. Ok (says_layer layer))) else Ok d)
    by true true r = refl
    by false true r = refl
    by true false (Ok l) = refl
    by false false (Ok l) = refl
    by true false (Err e) = refl
    by false false (Err e) = refl

severity_is : (asked : Bool) (d : PlainDraft) (t : Tree) → with_severity d t ≡ step asked d t (Ok of_severity)
unfolding with_severity
severity_is asked d t = by asked (is_some d.severity) (severity_in t)
  where
    by : (a b : Bool) (r : Result Severity RuleError) → (if b then Ok d else (r >>= λ severity. Ok (record d { severity = Some severity }))) ≡ (if a || true then (if b then Ok d else then_put d (r >>= λ severity. Ok (says_severity severity))) else Ok d)
    by true true r = refl
    by false true r = refl
    by true false (Ok l) = refl
    by false false (Ok l) = refl
    by true false (Err e) = refl
    by false false (Err e) = refl

cond_is : (asked : Bool) (d : PlainDraft) (t : Tree) → with_cond asked d t ≡ step asked d t (Ok of_condition)
unfolding with_cond
cond_is false d t = refl
cond_is true d t = by (is_some d.cond) (atom_at t)
  where
    read : (r : Result CondTree RuleError) → (r >>= λ c. Ok (record d { cond = Some c })) ≡ then_put d (r >>= λ c. Ok (says_condition c))
    read (Ok c) = refl
    read (Err e) = refl

    by : (b : Bool) (r : Result Tree RuleError) → (if b then Ok d else (r >>= λ atom. cond_in atom >>= λ c. Ok (record d { cond = Some c }))) ≡ (if b then Ok d else then_put d (r >>= λ atom. cond_in atom >>= λ c. Ok (says_condition c)))
    by true r = refl
    by false (Ok atom) = read (cond_in atom)
    by false (Err e) = refl

heard_if : (asked : Bool) (d : PlainDraft) (r : Result PlainDraft RuleError) → r ≡ (if asked || true then r else Ok d)
heard_if true d r = refl
heard_if false d r = refl

constraint_is : (asked : Bool) (d : PlainDraft) (t : Tree) → with_constraint d t ≡ step asked d t (name_at t >>= λ name. Ok (sort_by (kind_named name)))
unfolding with_constraint
constraint_is asked d t = by (name_at t) refl
  where
    read : (r : Result PlainConstraint RuleError) → (r >>= λ c. Ok (record d { constraints = d.constraints ++ (c ∷ []) })) ≡ then_put d (r >>= λ c. Ok (says_constraint c))
    read (Ok c) = refl
    read (Err e) = refl

    by_known : (kind : Kind) (b : Bool) → (if b then Ok d else (constraint_in kind t >>= λ c. Ok (record d { constraints = d.constraints ++ (c ∷ []) }))) ≡ (if b then Ok d else then_put d (constraint_in kind t >>= λ c. Ok (says_constraint c)))
    by_known kind true = refl
    by_known kind false = read (constraint_in kind t)

    by_kind : (name : Tree) (k : Option Kind) → name_at t ≡ Ok name → with_kind d t name k ≡ step asked d t (Ok (sort_by k))
    by_kind name None e = ap (λ (r : Result Tree RuleError). then_put d (r >>= λ n. Ok (says_other (text_of n)))) (sym e) ∙ heard_if asked d (then_put d (said_by t of_other))
    by_kind name (Some kind) e = by_known kind (has_kind kind d.constraints) ∙ heard_if asked d (if has_kind kind d.constraints then Ok d else then_put d (constraint_in kind t >>= λ c. Ok (says_constraint c)))

    by : (r : Result Tree RuleError) → name_at t ≡ r → (r >>= λ name. with_kind d t name (kind_named name)) ≡ step asked d t (r >>= λ name. Ok (sort_by (kind_named name)))
    by (Ok name) e = by_kind name (kind_named name) e
    by (Err x) e = heard_if asked d (Err x)

clause_is : (asked : Bool) (d : PlainDraft) (t : Tree) → with_clause asked d t ≡ step asked d t (sort_in t)
unfolding with_clause sort_in
clause_is asked d t = by (has_head (codes "layer") t) (has_head (codes "severity") t) (has_head (codes "condition") t) (has_head (codes "constraint") t)
  where
    by : (l s c k : Bool) → (if l then with_layer d t else if s then with_severity d t else if c then with_cond asked d t else if k then with_constraint d t else bad t) ≡ step asked d t (if l then Ok of_layer else if s then Ok of_severity else if c then Ok of_condition else if k then (name_at t >>= λ name. Ok (sort_by (kind_named name))) else bad t)
    by true s c k = layer_is asked d t
    by false true c k = severity_is asked d t
    by false false true k = cond_is asked d t
    by false false false true = constraint_is asked d t
    by false false false false = heard_if asked d (bad t)

-- ---- what is known behind a clause

abbrev kind_or : Kind → Result PlainConstraint RuleError → Kind
kind_or kind (Ok c) = c.kind
kind_or kind (Err e) = kind

-- the kind of a constraint is that of its clause
kind_stays : (kind : Kind) (t : Tree) (c : PlainConstraint) → constraint_in kind t ≡ Ok c → c.kind ≡ kind
unfolding constraint_in
kind_stays kind t c e = by_family (family kind) e
  where
    by_limits : (r : Result PlainLimits RuleError) → (r >>= λ limits. Ok (limiting kind limits)) ≡ Ok c → c.kind ≡ kind
    by_limits (Ok limits) e = sym (ap (kind_or kind) e)
    by_limits (Err x) e = absurd (cc)

    by_bans : (r : Result Disallow RuleError) → (r >>= λ bans. Ok (record { kind = kind; least = None; most = None; bans = bans; claim = None })) ≡ Ok c → c.kind ≡ kind
    by_bans (Ok bans) e = sym (ap (kind_or kind) e)
    by_bans (Err x) e = absurd (cc)

    by_cond : (r : Result CondTree RuleError) → (r >>= λ claim. Ok (record { kind = kind; least = None; most = None; bans = no_bans; claim = Some claim })) ≡ Ok c → c.kind ≡ kind
    by_cond (Ok claim) e = sym (ap (kind_or kind) e)
    by_cond (Err x) e = absurd (cc)

    by_atom : (r : Result Tree RuleError) → (r >>= λ atom. cond_in atom >>= λ claim. Ok (record { kind = kind; least = None; most = None; bans = no_bans; claim = Some claim })) ≡ Ok c → c.kind ≡ kind
    by_atom (Ok atom) e = by_cond (cond_in atom) e
    by_atom (Err x) e = absurd (cc)

    by_claim : (b : Bool) → (if b then claimed kind t else banned kind t) ≡ Ok c → c.kind ≡ kind
    by_claim true e = by_atom (claim_among t (clauses t)) e
    by_claim false e = by_bans (with_bans no_bans (clauses t)) e

    by_family : (f : Family) → constraint_by f kind t ≡ Ok c → c.kind ≡ kind
    by_family Meets e = by_limits (with_limits unlimited (clauses t)) e
    by_family Keeps e = by_limits (with_limits unlimited (clauses t)) e
    by_family Limits e = by_limits (with_limits unlimited (clauses t)) e
    by_family Forbids e = by_claim (is_assertion kind) e

-- one more of this sort is known
more_layer : (d : PlainDraft) (l : RuleLayer) (r : Result Sort RuleError) → knows (put d (says_layer l)) r ≡ (one_sort (Ok of_layer) r || knows d r)
more_layer d l (Ok of_layer) = refl
more_layer d l (Ok of_severity) = refl
more_layer d l (Ok of_condition) = refl
more_layer d l (Ok (of_kind m)) = refl
more_layer d l (Ok of_other) = refl
more_layer d l (Err e) = refl

more_severity : (d : PlainDraft) (l : Severity) (r : Result Sort RuleError) → knows (put d (says_severity l)) r ≡ (one_sort (Ok of_severity) r || knows d r)
more_severity d l (Ok of_layer) = refl
more_severity d l (Ok of_severity) = refl
more_severity d l (Ok of_condition) = refl
more_severity d l (Ok (of_kind m)) = refl
more_severity d l (Ok of_other) = refl
more_severity d l (Err e) = refl

more_condition : (d : PlainDraft) (l : CondTree) (r : Result Sort RuleError) → knows (put d (says_condition l)) r ≡ (one_sort (Ok of_condition) r || knows d r)
more_condition d l (Ok of_layer) = refl
more_condition d l (Ok of_severity) = refl
more_condition d l (Ok of_condition) = refl
more_condition d l (Ok (of_kind m)) = refl
more_condition d l (Ok of_other) = refl
more_condition d l (Err e) = refl

last_any : (p : PlainConstraint → Bool) (xs : List PlainConstraint) (x : PlainConstraint) → list_any p (xs ++ x ∷ []) ≡ (list_any p xs || (p x || false))
last_any p [] x = refl
last_any p (y ∷ xs) x = by (p y) (last_any p xs x)
  where
    by : (b : Bool) → list_any p (xs ++ x ∷ []) ≡ (list_any p xs || (p x || false)) → (b || list_any p (xs ++ x ∷ [])) ≡ ((b || list_any p xs) || (p x || false))
    by true h = refl
    by false h = h

or_swaps : (a b : Bool) → (a || (b || false)) ≡ (b || a)
or_swaps true true = refl
or_swaps true false = refl
or_swaps false true = refl
or_swaps false false = refl

more_kind : (d : PlainDraft) (kind : Kind) (c : PlainConstraint) → c.kind ≡ kind → (r : Result Sort RuleError) → knows (put d (says_constraint c)) r ≡ (one_sort (Ok (of_kind kind)) r || knows d r)
more_kind d kind c e (Ok of_layer) = refl
more_kind d kind c e (Ok of_severity) = refl
more_kind d kind c e (Ok of_condition) = refl
more_kind d kind c e (Ok (of_kind m)) =
    last_any (λ (x : PlainConstraint). kind_number x.kind == kind_number m) d.constraints c
    ∙ or_swaps (has_kind m d.constraints) (kind_number c.kind == kind_number m) ∙ ap (λ (k : Kind). (kind_number k == kind_number m) || has_kind m d.constraints) e
more_kind d kind c e (Ok of_other) = refl
more_kind d kind c e (Err x) = refl

more_other : (d : PlainDraft) (name : List ℕ) (r : Result Sort RuleError) → knows (put d (says_other name)) r ≡ (one_sort (Ok of_other) r || knows d r)
more_other d name (Ok of_layer) = refl
more_other d name (Ok of_severity) = refl
more_other d name (Ok of_condition) = refl
more_other d name (Ok (of_kind m)) = refl
more_other d name (Ok of_other) = refl
more_other d name (Err e) = refl

-- where a sort is known, so is each that is the same
alike : (d : PlainDraft) (a b : Result Sort RuleError) → knows d a ≡ true → not (knows d b) ≡ (not (one_sort a b) && not (knows d b))
alike d (Ok of_layer) (Ok of_layer) h = ap not h
alike d (Ok of_layer) (Ok of_severity) h = refl
alike d (Ok of_layer) (Ok of_condition) h = refl
alike d (Ok of_layer) (Ok (of_kind m)) h = refl
alike d (Ok of_layer) (Ok of_other) h = refl
alike d (Ok of_layer) (Err e) h = refl
alike d (Ok of_severity) (Ok of_layer) h = refl
alike d (Ok of_severity) (Ok of_severity) h = ap not h
alike d (Ok of_severity) (Ok of_condition) h = refl
alike d (Ok of_severity) (Ok (of_kind m)) h = refl
alike d (Ok of_severity) (Ok of_other) h = refl
alike d (Ok of_severity) (Err e) h = refl
alike d (Ok of_condition) (Ok of_layer) h = refl
alike d (Ok of_condition) (Ok of_severity) h = refl
alike d (Ok of_condition) (Ok of_condition) h = ap not h
alike d (Ok of_condition) (Ok (of_kind m)) h = refl
alike d (Ok of_condition) (Ok of_other) h = refl
alike d (Ok of_condition) (Err e) h = refl
alike d (Ok (of_kind k)) (Ok of_layer) h = refl
alike d (Ok (of_kind k)) (Ok of_severity) h = refl
alike d (Ok (of_kind k)) (Ok of_condition) h = refl
alike d (Ok (of_kind k)) (Ok (of_kind m)) h = by (kind_number k == kind_number m) refl
  where
    by : (t : Bool) → (kind_number k == kind_number m) ≡ t → not (has_kind m d.constraints) ≡ (not t && not (has_kind m d.constraints))
    by false e = refl
    by true e =
        let same : kind_number k ≡ kind_number m = grind (arith, e) in
        ap not (subst (λ (n : ℕ). list_any (λ (x : PlainConstraint). kind_number x.kind == n) d.constraints ≡ true) same h)
alike d (Ok (of_kind k)) (Ok of_other) h = refl
alike d (Ok (of_kind k)) (Err e) h = refl
alike d (Ok of_other) b h = absurd (cc)
alike d (Err e) b h = absurd (cc)

-- ---- all clauses

abbrev unknown : PlainDraft → Tree → Bool
unknown d t = not (knows d (sort_in t))

abbrev differs : Tree → Tree → Bool
differs t u = not (one_sort (sort_in t) (sort_in u))

abbrev read_all : PlainDraft → List Tree → Result PlainDraft RuleError
read_all d ts = each_of said_in ts >>= λ said. Ok (fold put d said)

neither : (a b : Bool) → not (a || b) ≡ (not a && not b)
neither true b = refl
neither false b = refl

abbrev later : Bool → List Tree → List Tree
later asked ts = firsts (filter (is_heard asked) ts)

abbrev left : Bool → PlainDraft → Tree → List Tree → List Tree
left asked d t ts = filter (unknown d) (filter (differs t) (later asked ts))

abbrev Gives : Bool → PlainDraft → Tree → List Tree → Result Said RuleError → Type 0
Gives asked d t ts said = (then_put d said >>= λ x. with_clauses asked x ts) ≡ ((said >>= λ x. each_of said_in (left asked d t ts) >>= λ xs. Ok (x ∷ xs)) >>= λ said. Ok (fold put d said))

abbrev AllClauses : Bool → List Tree → Type 0
AllClauses asked ts = (d : PlainDraft) → with_clauses asked d ts ≡ read_all d (filter (unknown d) (firsts (filter (is_heard asked) ts)))

all_clauses : (asked : Bool) (ts : List Tree) → AllClauses asked ts
unfolding with_clauses each_of said_in
all_clauses asked [] d = refl
all_clauses asked (t ∷ ts) d = ap (λ (r : Result PlainDraft RuleError). r >>= λ more. with_clauses asked more ts) (clause_is asked d t) ∙ by_heard (all_clauses asked ts) (hears asked (sort_in t))
  where
    more : (s : Said) (r : Result (List Said) RuleError) → (r >>= λ said. Ok (fold put (put d s) said)) ≡ ((r >>= λ xs. Ok (s ∷ xs)) >>= λ said. Ok (fold put d said))
    more s (Ok said) = refl
    more s (Err e) = refl

    one_more : AllClauses asked ts → (s : Said) → ((r : Result Sort RuleError) → knows (put d s) r ≡ (one_sort (sort_in t) r || knows d r))
        → with_clauses asked (put d s) ts ≡ ((each_of said_in (left asked d t ts) >>= λ xs. Ok (s ∷ xs)) >>= λ said. Ok (fold put d said))
    one_more all s h =
        all (put d s)
        ∙ ap (read_all (put d s)) (sym (both_tests (unknown d) (differs t) (unknown (put d s)) (λ u. ap not (h (sort_in u)) ∙ neither (one_sort (sort_in t) (sort_in u)) (knows d (sort_in u))) (later asked ts)))
        ∙ more s (each_of said_in (left asked d t ts))

    by_layer : AllClauses asked ts → sort_in t ≡ Ok of_layer → (r : Result RuleLayer RuleError) → Gives asked d t ts (r >>= λ layer. Ok (says_layer layer))
    by_layer all e (Ok l) = one_more all (says_layer l) (λ r. more_layer d l r ∙ ap (λ (x : Result Sort RuleError). one_sort x r || knows d r) (sym e))
    by_layer all e (Err x) = refl

    by_severity : AllClauses asked ts → sort_in t ≡ Ok of_severity → (r : Result Severity RuleError) → Gives asked d t ts (r >>= λ severity. Ok (says_severity severity))
    by_severity all e (Ok l) = one_more all (says_severity l) (λ r. more_severity d l r ∙ ap (λ (x : Result Sort RuleError). one_sort x r || knows d r) (sym e))
    by_severity all e (Err x) = refl

    by_cond : AllClauses asked ts → sort_in t ≡ Ok of_condition → (r : Result CondTree RuleError) → Gives asked d t ts (r >>= λ cond. Ok (says_condition cond))
    by_cond all e (Ok l) = one_more all (says_condition l) (λ r. more_condition d l r ∙ ap (λ (x : Result Sort RuleError). one_sort x r || knows d r) (sym e))
    by_cond all e (Err x) = refl

    by_atom : AllClauses asked ts → sort_in t ≡ Ok of_condition → (r : Result Tree RuleError) → Gives asked d t ts (r >>= λ atom. cond_in atom >>= λ cond. Ok (says_condition cond))
    by_atom all e (Ok atom) = by_cond all e (cond_in atom)
    by_atom all e (Err x) = refl

    by_kind : AllClauses asked ts → (kind : Kind) → sort_in t ≡ Ok (of_kind kind) → (r : Result PlainConstraint RuleError) → constraint_in kind t ≡ r → Gives asked d t ts (r >>= λ constraint. Ok (says_constraint constraint))
    by_kind all kind e (Ok c) is = one_more all (says_constraint c) (λ r. more_kind d kind c (kind_stays kind t c is) r ∙ ap (λ (x : Result Sort RuleError). one_sort x r || knows d r) (sym e))
    by_kind all kind e (Err x) is = refl

    by_other : AllClauses asked ts → sort_in t ≡ Ok of_other → (r : Result Tree RuleError) → Gives asked d t ts (r >>= λ name. Ok (says_other (text_of name)))
    by_other all e (Ok name) = one_more all (says_other (text_of name)) (λ r. more_other d (text_of name) r ∙ ap (λ (x : Result Sort RuleError). one_sort x r || knows d r) (sym e))
    by_other all e (Err x) = refl

    by_sort : AllClauses asked ts → (sort : Result Sort RuleError) → sort_in t ≡ sort → Gives asked d t ts (said_of t sort)
    by_sort all (Ok of_layer) e = by_layer all e (layer_in t)
    by_sort all (Ok of_severity) e = by_severity all e (severity_in t)
    by_sort all (Ok of_condition) e = by_atom all e (atom_at t)
    by_sort all (Ok (of_kind kind)) e = by_kind all kind e (constraint_in kind t) refl
    by_sort all (Ok of_other) e = by_other all e (name_at t)
    by_sort all (Err x) e = refl

    by_known : AllClauses asked ts → (k : Bool) → knows d (sort_in t) ≡ k
        → ((if k then Ok d else then_put d (said_of t (sort_in t))) >>= λ x. with_clauses asked x ts) ≡ read_all d (cond (not k) (t ∷ left asked d t ts) (left asked d t ts))
    by_known all true e = all d ∙ ap (read_all d) (sym (both_tests (unknown d) (differs t) (unknown d) (λ u. alike d (sort_in t) (sort_in u) e) (later asked ts)))
    by_known all false e = by_sort all (sort_in t) refl

    by_heard : AllClauses asked ts → (h : Bool)
        → ((if h then (if knows d (sort_in t) then Ok d else then_put d (said_of t (sort_in t))) else Ok d) >>= λ x. with_clauses asked x ts) ≡ read_all d (filter (unknown d) (firsts (cond h (t ∷ filter (is_heard asked) ts) (filter (is_heard asked) ts))))
    by_heard all true = by_known all (knows d (sort_in t)) refl
    by_heard all false = all d

-- ---- rules

nothing_known : (n : ℕ) (notes : List PlainNote) (r : Result Sort RuleError) → not (knows (blank n notes) r) ≡ true
nothing_known n notes (Ok of_layer) = refl
nothing_known n notes (Ok of_severity) = refl
nothing_known n notes (Ok of_condition) = refl
nothing_known n notes (Ok (of_kind m)) = refl
nothing_known n notes (Ok of_other) = refl
nothing_known n notes (Err e) = refl

of_rule : (n : ℕ) (notes : List PlainNote) (ts : List Tree) → with_clauses (is_asked ts) (blank n notes) ts ≡ read_all (blank n notes) (counting ts)
of_rule n notes ts =
    all_clauses (is_asked ts) ts (blank n notes) ∙ ap (read_all (blank n notes)) (all_pass (unknown (blank n notes)) (λ t. nothing_known n notes (sort_in t)) (counting ts))

rule_is : (name : List ℕ) (d : PlainDraft) (said : List Said) → rule_by name (fold put d said) ≡ fold with_said (rule_by name d) said
rule_is name d [] = refl
rule_is name d (says_layer x ∷ said) = rule_is name (put d (says_layer x)) said
rule_is name d (says_severity x ∷ said) = rule_is name (put d (says_severity x)) said
rule_is name d (says_condition x ∷ said) = rule_is name (put d (says_condition x)) said
rule_is name d (says_constraint x ∷ said) = rule_is name (put d (says_constraint x)) said
rule_is name d (says_other x ∷ said) = rule_is name (put d (says_other x)) said

notes_are : (d : PlainDraft) (said : List Said) → (fold put d said).notes ≡ d.notes ++ map (note d.number) (filter_map other_in said)
notes_are d [] = sym (append-nil d.notes)
notes_are d (says_layer x ∷ said) = notes_are (put d (says_layer x)) said
notes_are d (says_severity x ∷ said) = notes_are (put d (says_severity x)) said
notes_are d (says_condition x ∷ said) = notes_are (put d (says_condition x)) said
notes_are d (says_constraint x ∷ said) = notes_are (put d (says_constraint x)) said
notes_are d (says_other x ∷ said) = notes_are (put d (says_other x)) said ∙ append_assoc d.notes (note d.number x ∷ []) (map (note d.number) (filter_map other_in said))

abbrev both : List PlainRule → List PlainNote → Result PlainRules RuleError
both rules notes = Ok (record { rules = rules; notes = notes })

same_both : (a b : List PlainRule) (n m : List PlainNote) → a ≡ b → n ≡ m → both a n ≡ both b m
same_both a b n m h k = ap (λ (x : List PlainRule). both x n) h ∙ ap (λ (x : List PlainNote). both b x) k

abbrev grown : PlainRules → Read → PlainRules
grown rules r = record { rules = rules.rules ++ (r.rule ∷ []); notes = rules.notes ++ map (note (length rules.rules)) r.others }

abbrev from : PlainRules → PlainDraft
from rules = blank (length rules.rules) rules.notes

abbrev ended : PlainRules → Tree → Result PlainDraft RuleError → Result PlainRules RuleError
ended rules name r = r >>= λ draft. Ok (record { rules = rules.rules ++ (rule_by (text_of name) draft ∷ []); notes = draft.notes })

one_rule : (rules : PlainRules) (form : Tree) → with_rule rules form ≡ (rule_in form >>= λ r. Ok (grown rules r))
unfolding with_rule rule_in
one_rule rules form = by_head (check (Bad (place form)) (has_head (codes "rule") form))
  where
    by_said : (name : Tree) (r : Result (List Said) RuleError)
        → ended rules name (r >>= λ said. Ok (fold put (from rules) said)) ≡ ((r >>= λ said. Ok (record { rule = fold with_said (plain (text_of name)) said; others = filter_map other_in said })) >>= λ r. Ok (grown rules r))
    by_said name (Ok said) =
        same_both (rules.rules ++ (rule_by (text_of name) (fold put (from rules) said) ∷ [])) (rules.rules ++ (fold with_said (plain (text_of name)) said ∷ [])) (fold put (from rules) said).notes
        (rules.notes ++ map (note (length rules.rules)) (filter_map other_in said))
        (ap (λ (x : PlainRule). rules.rules ++ (x ∷ [])) (rule_is (text_of name) (from rules) said)) (notes_are (from rules) said)
    by_said name (Err e) = refl

    by_name : (r : Result Tree RuleError)
        → (r >>= λ name. ended rules name (with_clauses (is_asked (clauses form)) (from rules) (clauses form))) ≡ ((r >>= λ name. each_of said_in (counting (clauses form)) >>= λ said. Ok (record { rule = fold with_said (plain (text_of name)) said; others = filter_map other_in said })) >>= λ r. Ok (grown rules r))
    by_name (Ok name) = ap (ended rules name) (of_rule (length rules.rules) rules.notes (clauses form)) ∙ by_said name (each_of said_in (counting (clauses form)))
    by_name (Err e) = refl

    by_head : (r : Result (Unit {0}) RuleError)
        → (r >>= λ named. name_at form >>= λ name. ended rules name (with_clauses (is_asked (clauses form)) (from rules) (clauses form))) ≡ ((r >>= λ named. name_at form >>= λ name. each_of said_in (counting (clauses form)) >>= λ said. Ok (record { rule = fold with_said (plain (text_of name)) said; others = filter_map other_in said })) >>= λ r. Ok (grown rules r))
    by_head (Ok named) = by_name (name_at form)
    by_head (Err e) = refl

-- ---- forms

abbrev behind : PlainRules → List Read → Result PlainRules RuleError
behind rules rs = both (rules.rules ++ map (λ r. r.rule) rs) (rules.notes ++ notes_from (length rules.rules) rs)

one_longer : (rules : PlainRules) (r : Read) → length (rules.rules ++ (r.rule ∷ [])) ≡ suc (length rules.rules)
one_longer rules r = let h = length-append rules.rules (r.rule ∷ []) in omega (arith, h)

more_behind : (rules : PlainRules) (r : Read) (rs : List Read) → behind (grown rules r) rs ≡ behind rules (r ∷ rs)
more_behind rules r rs =
    same_both _ _ _ _ (append_assoc rules.rules (r.rule ∷ []) (map (λ r. r.rule) rs))
    (append_assoc rules.notes (map (note (length rules.rules)) r.others) (notes_from (length (rules.rules ++ (r.rule ∷ []))) rs)
    ∙ ap (λ (n : ℕ). rules.notes ++ (map (note (length rules.rules)) r.others ++ notes_from n rs)) (one_longer rules r))

abbrev AllForms : List Tree → Type 0
AllForms ts = (rules : PlainRules) → with_rules rules ts ≡ (each_of rule_in ts >>= λ rs. behind rules rs)

all_forms : (ts : List Tree) → AllForms ts
unfolding with_rules each_of
all_forms [] rules = same_both rules.rules (rules.rules ++ []) rules.notes (rules.notes ++ []) (sym (append-nil rules.rules)) (sym (append-nil rules.notes))
all_forms (t ∷ ts) rules = ap (λ (r : Result PlainRules RuleError). r >>= λ more. with_rules more ts) (one_rule rules t) ∙ by (all_forms ts) (rule_in t)
  where
    by_rest : (r : Read) (rs : Result (List Read) RuleError) → (rs >>= λ rs. behind (grown rules r) rs) ≡ ((rs >>= λ rs. Ok (r ∷ rs)) >>= λ rs. behind rules rs)
    by_rest r (Ok rs) = more_behind rules r rs
    by_rest r (Err e) = refl

    by : AllForms ts → (r : Result Read RuleError) → ((r >>= λ r. Ok (grown rules r)) >>= λ more. with_rules more ts) ≡ ((r >>= λ r. each_of rule_in ts >>= λ rs. Ok (r ∷ rs)) >>= λ rs. behind rules rs)
    by h (Ok r) = h (grown rules r) ∙ by_rest r (each_of rule_in ts)
    by h (Err e) = refl

pub rules_in_order : (ts : List Tree) → with_rules no_rules ts ≡ (each_of rule_in ts >>= λ rules. Ok (all_rules rules))
rules_in_order ts = all_forms ts no_rules

-- A refusal of the forms of a text stands in the text.
use Rattle.std.proofs.Common.{◌≡◌, ◌≤◌, ◌||◌, not, ℕ, ℤ, Bool, true, false, List, [], ◌∷◌, length, sym, subst, refl, arith}
use Rattle.std.specs.Prelude.{Option, None, Some, Result, Ok, Err, codes, is_some, if◌then◌else◌}
use Rattle.sexpr_read.specs.Tree.{Tree, leaf, branch, parts, is_list, content}
use Rattle.exact_dec.specs.declared.DecError.{DecError}
use Rattle.exact_dec.specs.Computed.{with_unit_answer}
use Rattle.cond_lang.specs.declared.kind.Kind.{Kind}
use Rattle.cond_lang.specs.declared.kind.Family.{Family}
use Rattle.cond_lang.specs.declared.kind.Family.TheVariants.{Meets, Keeps, Limits, Forbids}
use Rattle.cond_lang.specs.CheckKinds.{family, is_assertion}
use Rattle.cond_lang.specs.declared.rule.Disallow.{Disallow}
use Rattle.cond_lang.specs.Found.{Found, read, fault}
use Rattle.cond_lang.specs.Conditions.{reading}
use Rattle.cond_lang.specs.Rules.{no_bans}
use Rattle.cond_lang.specs.Trees.{CondTree}
use Rattle.rule_text.specs.declared.error.RuleError.{RuleError}
use Rattle.rule_text.specs.declared.error.RuleError.TheVariants.{Version, Bad, BadNumber}
use Rattle.list_read.specs.FirstRefusals.{◌>>=◌, needed, check}
use Rattle.list_read.specs.ListHeads.{place, text_of, is_text, has_head, has_word_head, behind_head}
use Rattle.rule_text.specs.RuleForms.{bad, as_atom, second_among, name_at, single_among, atom_at, clauses}
use Rattle.rule_text.specs.RuleLayers.{layer_named, layer_in}
use Rattle.plain_types.specs.Lengths.{is_length}
use Rattle.rule_text.specs.RuleLimits.{kind_named, length_from, length_in, PlainLimits, with_least, with_wished, with_most, with_limit, with_limits, unlimited, with_ban, with_bans, cond_from, cond_in}
use Rattle.rule_text.specs.RulesOf.{PlainRules, severity_named, severity_in, limited, banned, claim_among, claimed, constraint_by, constraint_in, is_asked, is_version, no_rules, rules_of}
use Rattle.rule_text.specs.RuleWalk.{PlainDraft, has_kind, with_layer, with_severity, with_cond, with_kind, with_constraint, with_clause, with_clauses, blank, with_rule, with_rules}
use Rattle.rule_text.specs.ListText.{no_form, nothing_more, list_among, list_of}
use Rattle.rule_text.specs.ShortRuleTrees.{AllShort, IsShort}
use Rattle.rule_text.specs.RuleRefusalPlaces.{IsPlaceInText, NearIfErr}
use Rattle.rule_text.proofs.InOrder.{rules_in_order}
use Rattle.rule_text.proofs.Shortness.{head_short, tail_short, parts_short, behind_head_short, clauses_short, atom_short, claim_short}

-- ---- one after another

near_then : {A B : Type 0} → (r : Result A RuleError) (f : A → Result B RuleError) → NearIfErr r → ((x : A) → Ok x ≡ r → NearIfErr (f x)) → NearIfErr (r >>= f)
near_then (Ok x) f h k = k x refl
near_then (Err e) f h k = h

near_if : {A : Type 0} → (b : Bool) (x y : Result A RuleError) → NearIfErr x → NearIfErr y → NearIfErr (if b then x else y)
near_if true x y h k = h
near_if false x y h k = k

near_needed : {A : Type 0} → (e : RuleError) (o : Option A) → IsPlaceInText e → NearIfErr (needed e o)
near_needed e None h = h
near_needed e (Some x) h = tt

near_check : (e : RuleError) (b : Bool) → IsPlaceInText e → NearIfErr (check e b)
near_check e true h = tt
near_check e false h = h

-- ---- parts of a list

pub near_place : (t : Tree) → IsShort t → place t ≤ 33554432
near_place (leaf s q c) h = h.0
near_place (branch s f) h = h.0

near_as_atom : (t : Tree) → IsShort t → NearIfErr (as_atom t)
near_as_atom t h = near_if (is_list t) (bad t) (Ok t) (near_place t h) tt

near_second : (t : Tree) (ts : List Tree) → IsShort t → NearIfErr (second_among t ts)
near_second t [] h = near_place t h
near_second t (x ∷ []) h = near_place t h
near_second t (x ∷ y ∷ ts) h = tt

second_short : (t : Tree) (ts : List Tree) (a : Tree) → Ok a ≡ second_among t ts → AllShort ts → IsShort a
second_short t [] a e h = absurd (grind (arith, e))
second_short t (x ∷ []) a e h = absurd (grind (arith, e))
second_short t (x ∷ y ∷ ts) a e h = let same : a ≡ y = grind (arith, e) in subst IsShort (sym same) (head_short y ts (tail_short x (y ∷ ts) h))

near_name : (t : Tree) → IsShort t → NearIfErr (name_at t)
unfolding name_at
near_name t h =
    near_then (second_among t (parts t)) as_atom (near_second t (parts t) h) (λ a e. near_as_atom a (second_short t (parts t) a e (parts_short t h)))

near_single : (t : Tree) (ts : List Tree) → IsShort t → NearIfErr (single_among t ts)
near_single t [] h = near_place t h
near_single t (x ∷ []) h = near_place t h
near_single t (x ∷ y ∷ []) h = tt
near_single t (x ∷ y ∷ z ∷ ts) h = near_place t h

among_short : (t : Tree) (ts : List Tree) (a : Tree) → Ok a ≡ single_among t ts → AllShort ts → IsShort a
among_short t [] a e h = absurd (grind (arith, e))
among_short t (x ∷ []) a e h = absurd (grind (arith, e))
among_short t (x ∷ y ∷ []) a e h = let same : a ≡ y = grind (arith, e) in subst IsShort (sym same) (head_short y [] (tail_short x (y ∷ []) h))
among_short t (x ∷ y ∷ z ∷ ts) a e h = absurd (grind (arith, e))

near_atom : (t : Tree) → IsShort t → NearIfErr (atom_at t)
unfolding atom_at
near_atom t h =
    near_then (single_among t (parts t)) as_atom (near_single t (parts t) h) (λ a e. near_as_atom a (among_short t (parts t) a e (parts_short t h)))

-- what is read in the one part
near_in_atom : {A : Type 0} → (t : Tree) (f : Tree → Result A RuleError) → IsShort t → ((a : Tree) → IsShort a → NearIfErr (f a)) → NearIfErr (atom_at t >>= f)
near_in_atom t f h k = near_then (atom_at t) f (near_atom t h) (λ a e. k a (atom_short t a e h))

-- ---- constraints

near_length_from : (e : RuleError) (r : Result ℤ DecError) → IsPlaceInText e → NearIfErr (length_from e r)
near_length_from e (Ok n) h = near_if (is_length n) (Ok n) (Err e) tt h
near_length_from e (Err _) h = h

near_length : (a : Tree) → IsShort a → NearIfErr (length_in a)
unfolding length_in
near_length a h =
    near_then (needed (BadNumber (place a)) (content a)) _ (near_needed (BadNumber (place a)) (content a) (near_place a h)) (λ text e. near_length_from (BadNumber (place a)) (with_unit_answer text) (near_place a h))

near_limit_by : (l : PlainLimits) (b : Bool) (t : Tree) (f : ℤ → Result PlainLimits RuleError) → IsShort t → ((n : ℤ) → NearIfErr (f n)) → NearIfErr (if b then Ok l else (atom_at t >>= λ a. length_in a >>= f))
near_limit_by l b t f h k = near_if b (Ok l) _ tt (near_in_atom t _ h (λ a s. near_then (length_in a) f (near_length a s) (λ n e. k n)))

near_limit : (l : PlainLimits) (t : Tree) → IsShort t → NearIfErr (with_limit l t)
unfolding with_limit with_least with_wished with_most
near_limit l t h =
    near_if (has_head (codes "min") t) _ _ (near_limit_by l (is_some l.least) t _ h (λ n. tt))
    (near_if (has_head (codes "opt") t) _ _ (near_limit_by l l.wished t _ h (λ n. tt))
    (near_if (has_head (codes "max") t) _ _ (near_limit_by l (is_some l.most) t _ h (λ n. tt)) (near_place t h)))

near_limits : (l : PlainLimits) (ts : List Tree) → AllShort ts → NearIfErr (with_limits l ts)
unfolding with_limits
near_limits l [] h = tt
near_limits l (t ∷ ts) h = near_then (with_limit l t) _ (near_limit l t h.0) (λ m e. near_limits m ts h.1)

near_ban : (b : Disallow) (t : Tree) → IsShort t → NearIfErr (with_ban b t)
unfolding with_ban
near_ban b t h =
    near_if (is_text t (codes "track")) _ _ tt
    (near_if (is_text t (codes "via")) _ _ tt
    (near_if (is_text t (codes "micro_via")) _ _ tt
    (near_if (is_text t (codes "buried_via")) _ _ tt
    (near_if (is_text t (codes "pad")) _ _ tt
    (near_if (is_text t (codes "zone")) _ _ tt
    (near_if (is_text t (codes "graphic")) _ _ tt
    (near_if (is_text t (codes "hole")) _ _ tt
    (near_if (is_text t (codes "footprint")) _ _ tt
    (near_if (is_text t (codes "text")) _ _ tt (near_place t h))))))))))

near_bans : (b : Disallow) (ts : List Tree) → AllShort ts → NearIfErr (with_bans b ts)
unfolding with_bans
near_bans b [] h = tt
near_bans b (t ∷ ts) h = near_then (with_ban b t) _ (near_ban b t h.0) (λ m e. near_bans m ts h.1)

near_cond_from : (at : ℕ) (f : Found CondTree) → at ≤ 33554432 → NearIfErr (cond_from at f)
near_cond_from at (read t rest) h = tt
near_cond_from at (fault e) h = h

near_cond : (a : Tree) → IsShort a → NearIfErr (cond_in a)
unfolding cond_in
near_cond a h = near_cond_from (place a) (reading (text_of a)) (near_place a h)

near_claim_among : (t : Tree) (ts : List Tree) → IsShort t → AllShort ts → NearIfErr (claim_among t ts)
near_claim_among t [] h k = near_place t h
near_claim_among t (x ∷ []) h k = near_if (is_list x) (bad x) (Ok x) (near_place x (head_short x [] k)) tt
near_claim_among t (x ∷ y ∷ ts) h k = near_place t h

near_claimed : (k : Kind) (t : Tree) → IsShort t → NearIfErr (claimed k t)
near_claimed k t h =
    near_then (claim_among t (clauses t)) _ (near_claim_among t (clauses t) h (clauses_short t h)) (λ a e.
    near_then (cond_in a) _ (near_cond a (claim_short t a e h)) (λ c l. tt))

near_banned : (k : Kind) (t : Tree) → IsShort t → NearIfErr (banned k t)
near_banned k t h = near_then (with_bans no_bans (clauses t)) _ (near_bans no_bans (clauses t) (clauses_short t h)) (λ b e. tt)

near_limited : (k : Kind) (t : Tree) → IsShort t → NearIfErr (limited k t)
near_limited k t h = near_then (with_limits unlimited (clauses t)) _ (near_limits unlimited (clauses t) (clauses_short t h)) (λ l e. tt)

near_constraint : (k : Kind) (t : Tree) → IsShort t → NearIfErr (constraint_in k t)
unfolding constraint_in
near_constraint k t h = by (family k)
  where
    by : (f : Family) → NearIfErr (constraint_by f k t)
    by Meets = near_limited k t h
    by Keeps = near_limited k t h
    by Limits = near_limited k t h
    by Forbids = near_if (is_assertion k) (claimed k t) (banned k t) (near_claimed k t h) (near_banned k t h)

-- ---- rules

near_layer : (d : PlainDraft) (t : Tree) → IsShort t → NearIfErr (with_layer d t)
unfolding with_layer layer_in
near_layer d t h =
    near_if (is_some d.layer) (Ok d) _ tt
    (near_then (layer_in t) _ (near_in_atom t _ h (λ a s. near_needed (Bad (place a)) (layer_named a) (near_place a s))) (λ l e. tt))

near_severity : (d : PlainDraft) (t : Tree) → IsShort t → NearIfErr (with_severity d t)
unfolding with_severity severity_in
near_severity d t h =
    near_if (is_some d.severity) (Ok d) _ tt
    (near_then (severity_in t) _ (near_in_atom t _ h (λ a s. near_needed (Bad (place a)) (severity_named a) (near_place a s))) (λ l e. tt))

near_with_cond : (asked : Bool) (d : PlainDraft) (t : Tree) → IsShort t → NearIfErr (with_cond asked d t)
unfolding with_cond
near_with_cond asked d t h =
    near_if (not asked || is_some d.cond) (Ok d) _ tt (near_in_atom t _ h (λ a s. near_then (cond_in a) _ (near_cond a s) (λ c e. tt)))

near_kind : (d : PlainDraft) (t name : Tree) (k : Option Kind) → IsShort t → NearIfErr (with_kind d t name k)
near_kind d t name None h = tt
near_kind d t name (Some kind) h =
    near_if (has_kind kind d.constraints) (Ok d) _ tt (near_then (constraint_in kind t) _ (near_constraint kind t h) (λ c e. tt))

near_with_constraint : (d : PlainDraft) (t : Tree) → IsShort t → NearIfErr (with_constraint d t)
unfolding with_constraint
near_with_constraint d t h = near_then (name_at t) _ (near_name t h) (λ name e. near_kind d t name (kind_named name) h)

near_clause : (asked : Bool) (d : PlainDraft) (t : Tree) → IsShort t → NearIfErr (with_clause asked d t)
unfolding with_clause
near_clause asked d t h =
    near_if (has_head (codes "layer") t) _ _ (near_layer d t h)
    (near_if (has_head (codes "severity") t) _ _ (near_severity d t h)
    (near_if (has_head (codes "condition") t) _ _ (near_with_cond asked d t h)
    (near_if (has_head (codes "constraint") t) _ _ (near_with_constraint d t h) (near_place t h))))

near_clauses : (asked : Bool) (d : PlainDraft) (ts : List Tree) → AllShort ts → NearIfErr (with_clauses asked d ts)
unfolding with_clauses
near_clauses asked d [] h = tt
near_clauses asked d (t ∷ ts) h = near_then (with_clause asked d t) _ (near_clause asked d t h.0) (λ m e. near_clauses asked m ts h.1)

near_rule : (r : PlainRules) (t : Tree) → IsShort t → NearIfErr (with_rule r t)
unfolding with_rule
near_rule r t h =
    near_then (check (Bad (place t)) (has_head (codes "rule") t)) _ (near_check (Bad (place t)) (has_head (codes "rule") t) (near_place t h)) (λ u e.
    near_then (name_at t) _ (near_name t h) (λ name k.
    near_then (with_clauses (is_asked (clauses t)) (blank (length r.rules) r.notes) (clauses t)) _ (near_clauses (is_asked (clauses t)) (blank (length r.rules) r.notes) (clauses t) (clauses_short t h)) (λ d m. tt)))

near_rules : (r : PlainRules) (ts : List Tree) → AllShort ts → NearIfErr (with_rules r ts)
unfolding with_rules
near_rules r [] h = tt
near_rules r (t ∷ ts) h = near_then (with_rule r t) _ (near_rule r t h.0) (λ m e. near_rules m ts h.1)

pub near_rules_of : (e : RuleError) (ts : List Tree) → IsPlaceInText e → AllShort ts → NearIfErr (rules_of e ts)
unfolding rules_of
near_rules_of e [] n h = n
near_rules_of e (t ∷ ts) n h =
    near_then (check (Version (place t)) (is_version t)) _ (near_check (Version (place t)) (is_version t) (near_place t h.0)) (λ u k. subst NearIfErr (rules_in_order ts) (near_rules no_rules ts h.1))

-- ---- the list in another text

near_no_form : (size : ℕ) (ts : List Tree) → size ≤ 33554432 → AllShort ts → IsPlaceInText (no_form size ts)
near_no_form size [] n h = n
near_no_form size (t ∷ ts) n h = near_place t h.0

near_more : (ts : List Tree) → AllShort ts → NearIfErr (nothing_more ts)
near_more [] h = tt
near_more (t ∷ ts) h = near_place t h.0

near_among : (size : ℕ) (ts : List Tree) → size ≤ 33554432 → AllShort ts → NearIfErr (list_among size ts)
near_among size [] n h = omega arith
near_among size (t ∷ ts) n h =
    near_then (check (Bad 0) (has_word_head (codes "rules") t)) _ (near_check (Bad 0) (has_word_head (codes "rules") t) (omega arith)) (λ u e.
    near_then (rules_of (no_form size ts) (behind_head t)) _ (near_rules_of (no_form size ts) (behind_head t) (near_no_form size ts n h.1) (behind_head_short t h.0)) (λ r k.
    near_then (nothing_more ts) _ (near_more ts h.1) (λ v m. tt)))

pub near_list : (size : ℕ) (root : Tree) → size ≤ 33554432 → AllShort (parts root) → NearIfErr (list_of size root)
unfolding list_of
near_list size root n h = near_among size (parts root) n h

pub near_answer : (size : ℕ) (root : Tree) (e : RuleError) → list_of size root ≡ Err e → size ≤ 33554432 → AllShort (parts root) → IsPlaceInText e
near_answer size root e is n h = subst NearIfErr is (near_list size root n h)

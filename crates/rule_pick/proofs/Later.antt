-- Rules that were passed over, the last one first.
use Rattle.std.proofs.Common.{◌≡◌, sym, ap, ◌∙◌, ℕ, ◌+◌, ◌<◌, ◌≤◌, Bool, false, List, length, get_or, map, Some, slice_get, ◌⊎◌, inl, inr, arith}
use Rattle.std.specs.Option.{option_map}
use Rattle.std.proofs.lemmas.Bool.{cases_lt}
use Rattle.std.proofs.lemmas.Option.{slice_get-map, slice_get-get_or}
use Rattle.cond_lang.specs.declared.constraints.Rule.{Rule}
use Rattle.cond_lang.specs.Rules.{PlainRule, plain_rule}

-- the rule at the place
pub at_place : (rules : List Rule) (k : ℕ) (rule : Rule) → k < length rules → rule ≡ get_or rules k rule → slice_get (map plain_rule rules) k ≡ Some (plain_rule rule)
at_place rules k rule h e =
    slice_get-map plain_rule rules k
    ∙ ap (option_map plain_rule) (slice_get-get_or rules k rule h)
    ∙ ap (λ (r : Rule). Some (plain_rule r)) (sym e)

some_same : (a b : PlainRule) → Some a ≡ Some b → a ≡ b
some_same a b e = cc

-- the one at the place does not pass, and none behind it does
pub none_from : (test : PlainRule → Bool) (rules : List PlainRule) (k : ℕ) (rule : PlainRule) → slice_get rules k ≡ Some rule → test rule ≡ false → ((later : ℕ) (other : PlainRule) → k + 1 ≤ later → slice_get rules later ≡ Some other → test other ≡ false) → (later : ℕ) (other : PlainRule) → k ≤ later → slice_get rules later ≡ Some other → test other ≡ false
none_from test rules k rule s t h later other l e = by (cases_lt k later)
  where
    here : later ≡ k → test other ≡ false
    here q = ap test (some_same other rule (sym e ∙ ap (slice_get rules) q ∙ s)) ∙ t

    by : (k < later) ⊎ (later ≤ k) → test other ≡ false
    by (inl b) = h later other (omega arith) e
    by (inr b) = here (omega arith)

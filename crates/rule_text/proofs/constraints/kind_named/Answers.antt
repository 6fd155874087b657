use Rattle.std.proofs.Common.{◌≡◌, ◌∙◌, ◌↔◌, ◌<◌, ◌+◌, sym, ap, subst, refl, arith, ℕ, zero, suc, Bool, IsTrue, cond, List, [], ◌∷◌, length, drop, find, get_or, Some}
use Rattle.sexpr_read.specs.Tree.{Tree, value}
use Rattle.sexpr_read.specs.TreeViews.{tree_of}
use Rattle.cond_lang.specs.declared.kind.Kind.TheVariants.{Short}
use Rattle.cond_lang.specs.CheckKinds.{kind_name}
use Rattle.list_read.specs.ListHeads.{is_text}
use Rattle.list_read.proofs.Words.{text_is}
use Rattle.rule_text.specs.RuleLimits.{constrained_kinds, is_name_of}
use Rattle.rule_text.proofs.constraints.kind_named.Goals as goal

find_step : {A : Type 0} (p : A → Bool) (xs : List A) (k : ℕ) (d : A) → k < length xs → find p (drop k xs) ≡ cond (p (get_or xs k d)) (Some (get_or xs k d)) (find p (drop (k + 1) xs))
find_step p [] k d h = absurd (omega (arith, h))
find_step p (x ∷ xs) zero d h = refl
find_step p (x ∷ xs) (suc k) d h = let e : suc k + 1 ≡ suc (k + 1) = omega arith in rw e (find_step p xs k d (omega (arith, h)))

-- the call `is` answers whether it is this kind
one_less : (atom : Tree) (k : ℕ) (word : List ℕ) (called answer : Bool) → k < 13 → word ≡ kind_name (get_or constrained_kinds k Short) → (IsTrue called ↔ (value atom ≡ Some word)) → called ≡ answer
    → find (is_name_of atom) (drop k constrained_kinds) ≡ cond answer (Some (get_or constrained_kinds k Short)) (find (is_name_of atom) (drop (k + 1) constrained_kinds))
one_less atom k word called answer h is told e =
    let kind = get_or constrained_kinds k Short in
    let named : is_name_of atom kind ≡ answer = subst (λ w. is_text atom w ≡ called) is (text_is atom word called told) ∙ e in
    find_step (is_name_of atom) constrained_kinds k Short h ∙ ap (λ b. cond b (Some kind) (find (is_name_of atom) (drop (k + 1) constrained_kinds))) named

pub loop-kind-preserved : goal.loop-kind-preserved
loop-kind-preserved c =
    sym (one_less (tree_of c.args.atom) c.loop-kind.kind-index c.as_bytes.result.now c.is.result _ c.loop-kind-test.true (c.as_bytes.ensures.value ∙ c.name.ensures) c.is.ensures c.if-is.false) ∙ c.loop-kind.invariant

pub returns-then-is : goal.returns-then-is
returns-then-is c =
    sym (one_less (tree_of c.args.atom) c.loop-kind.kind-index c.as_bytes.result.now c.is.result _ c.loop-kind-test.true (c.as_bytes.ensures.value ∙ c.name.ensures) c.is.ensures c.if-is.true) ∙ c.loop-kind.invariant

pub returns : goal.returns
returns c =
    let all : c.loop-kind.kind-index ≡ 13 = omega (arith, c.loop-kind.auto.kind-index-end, c.loop-kind-test.false) in
    sym (ap (λ k. find (is_name_of (tree_of c.args.atom)) (drop k constrained_kinds)) all) ∙ c.loop-kind.invariant

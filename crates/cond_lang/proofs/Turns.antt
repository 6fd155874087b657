-- A negation with and without levels left.
use Rattle.std.proofs.Common.{◌≡◌, ℕ, zero, suc, ◌-◌, ◌<◌, ◌⊎◌, inl, inr, true, false, ◌==◌, if◌then◌else◌, List, [], ◌∷◌, drop, refl, sym, ◌∙◌, ap, subst, arith}
use Rattle.cond_lang.specs.declared.error.CondError.{CondError}
use Rattle.cond_lang.specs.declared.error.CondError.TheVariants.{OutOfMemory}
use Rattle.cond_lang.specs.Found.{Found, read, fault, and_then, byte}
use Rattle.cond_lang.specs.Signs.{after_blanks}
use Rattle.cond_lang.specs.Trees.{CondTree, negated}
use Rattle.cond_lang.specs.Values.{head, atom}
use Rattle.cond_lang.proofs.Steps.{then_read, then_fault}
use Rattle.cond_lang.specs.Conditions.{negation, shallow_at, nested_at, nested, begins_with, bang, bracket, plain, alternatives, closed}

pub no_level : (n levels : ℕ) (text : List ℕ) (x : Found CondTree) → levels ≡ 0 → shallow_at n (after_blanks text) ≡ x → negation n levels text ≡ x
unfolding negation
no_level n zero text x e h = h
no_level n (suc k) text x e h = absurd (omega (arith, e))

pub with_level : (n levels : ℕ) (text : List ℕ) (x : Found CondTree) → 0 < levels → nested_at n levels (negation n (levels - 1)) (after_blanks text) ≡ x → negation n levels text ≡ x
unfolding negation
with_level n zero text x e h = absurd (omega (arith, e))
with_level n (suc k) text x e h = let less : suc k - 1 ≡ k = omega arith in sym (ap (λ j. nested_at n (suc k) (negation n j) (after_blanks text)) less) ∙ h

module _ (n levels : ℕ) (inner : List ℕ → Found CondTree) where
  pub nested_bang : (at : List ℕ) → begins_with 33 at ≡ true → nested_at n levels inner at ≡ and_then (inner (drop 1 at)) (λ t rest. read (negated t) rest)
  nested_bang [] e = absurd (grind (arith, e))
  nested_bang (c ∷ cs) e = ap (nested n levels inner (c ∷ cs) cs) (ap (λ b. if b then bang else (if c == 40 then bracket else plain)) e)

  pub nested_bracket : (at : List ℕ) → begins_with 33 at ≡ false → begins_with 40 at ≡ true → nested_at n levels inner at ≡ and_then (alternatives n inner (drop 1 at)) (closed n)
  nested_bracket [] other e = absurd (grind (arith, e))
  nested_bracket (c ∷ cs) other e = ap (nested n levels inner (c ∷ cs) cs) (ap (λ b. if b then bang else (if c == 40 then bracket else plain)) other ∙ ap (λ b. if b then bracket else plain) e)

  pub nested_plain : (at : List ℕ) → begins_with 33 at ≡ false → begins_with 40 at ≡ false → nested_at n levels inner at ≡ atom n levels at
  unfolding atom head
  nested_plain [] other e = refl
  nested_plain (c ∷ cs) other e = ap (nested n levels inner (c ∷ cs) cs) (ap (λ b. if b then bang else (if c == 40 then bracket else plain)) other ∙ ap (λ b. if b then bracket else plain) e)

-- a negation whose text behind space is this
pub turned : (n levels : ℕ) (text at : List ℕ) (x : Found CondTree) → 0 < levels → at ≡ after_blanks text → nested_at n levels (negation n (levels - 1)) at ≡ x → negation n levels text ≡ x
turned n levels text at x some blanks h = with_level n levels text x some (subst (λ y. nested_at n levels (negation n (levels - 1)) y ≡ x) blanks h)

module _ (n levels : ℕ) (text at behind : List ℕ) (some : 0 < levels) (blanks : at ≡ after_blanks text) (first : behind ≡ drop 1 at) where
  pub bang_read : (t : CondTree) (rest : List ℕ) → begins_with 33 at ≡ true → negation n (levels - 1) behind ≡ read t rest → negation n levels text ≡ read (negated t) rest
  bang_read t rest e h = turned n levels text at _ some blanks (nested_bang n levels (negation n (levels - 1)) at e ∙ then_read _ _ t rest _ (subst (λ y. negation n (levels - 1) y ≡ read t rest) first h) refl)

  pub bang_lost : (e : CondError) → begins_with 33 at ≡ true → (e ≡ OutOfMemory) ⊎ (negation n (levels - 1) behind ≡ fault e) → (e ≡ OutOfMemory) ⊎ (negation n levels text ≡ fault e)
  bang_lost e b (inl memory) = inl memory
  bang_lost e b (inr h) = inr (turned n levels text at _ some blanks (nested_bang n levels (negation n (levels - 1)) at b ∙ then_fault _ _ e (subst (λ y. negation n (levels - 1) y ≡ fault e) first h)))

  pub bracket_read : (t : CondTree) (rest next end : List ℕ) → begins_with 33 at ≡ false → begins_with 40 at ≡ true → alternatives n (negation n (levels - 1)) behind ≡ read t rest → next ≡ after_blanks rest → byte n 41 next ≡ read tt end → negation n levels text ≡ read t end
  bracket_read t rest next end other e h skipped close =
      turned n levels text at _ some blanks (nested_bracket n levels (negation n (levels - 1)) at other e
      ∙ then_read _ _ t rest _ (subst (λ y. alternatives n (negation n (levels - 1)) y ≡ read t rest) first h)
      (then_read (byte n 41 (after_blanks rest)) _ tt end _ (subst (λ y. byte n 41 y ≡ read tt end) skipped close) refl))

  pub bracket_lost : (e : CondError) → begins_with 33 at ≡ false → begins_with 40 at ≡ true → (e ≡ OutOfMemory) ⊎ (alternatives n (negation n (levels - 1)) behind ≡ fault e) → (e ≡ OutOfMemory) ⊎ (negation n levels text ≡ fault e)
  bracket_lost e other b (inl memory) = inl memory
  bracket_lost e other b (inr h) =
      inr (turned n levels text at _ some blanks (nested_bracket n levels (negation n (levels - 1)) at other b
      ∙ then_fault _ _ e (subst (λ y. alternatives n (negation n (levels - 1)) y ≡ fault e) first h)))

  pub bracket_open : (t : CondTree) (rest next : List ℕ) (e : CondError) → begins_with 33 at ≡ false → begins_with 40 at ≡ true → alternatives n (negation n (levels - 1)) behind ≡ read t rest → next ≡ after_blanks rest → byte n 41 next ≡ fault e → negation n levels text ≡ fault e
  bracket_open t rest next e other b h skipped close =
      turned n levels text at _ some blanks (nested_bracket n levels (negation n (levels - 1)) at other b
      ∙ then_read _ _ t rest _ (subst (λ y. alternatives n (negation n (levels - 1)) y ≡ read t rest) first h)
      (then_fault (byte n 41 (after_blanks rest)) _ e (subst (λ y. byte n 41 y ≡ fault e) skipped close)))

pub plain_turn : (n levels : ℕ) (text at : List ℕ) (x : Found CondTree) → 0 < levels → at ≡ after_blanks text → begins_with 33 at ≡ false → begins_with 40 at ≡ false → atom n levels at ≡ x → negation n levels text ≡ x
plain_turn n levels text at x some blanks other e h = turned n levels text at x some blanks (nested_plain n levels (negation n (levels - 1)) at other e ∙ h)

pub plain_same : (n levels : ℕ) (text at : List ℕ) → 0 < levels → at ≡ after_blanks text → begins_with 33 at ≡ false → begins_with 40 at ≡ false → negation n levels text ≡ atom n levels at
plain_same n levels text at some blanks other e = plain_turn n levels text at (atom n levels at) some blanks other e refl

use Rattle.std.proofs.Common.{◌≡◌, ◌⊎◌, inl, inr, refl, sym, subst, ◌∙◌, ℕ, ◌+◌, ◌<◌, Bool, true, false, length, get_or, arith}
use Rattle.std.proofs.lemmas.List.{get_or_read}
use Rattle.one_item.specs.declared.parts.Part.{Part}
use Rattle.copper_layers.specs.Layers.{has_layer}
use Rattle.kind_subjects.proofs.single_layers.some_on.Goals as goal

unmet : (r : Bool) → r ≡ false → r ≡ true → ⊥
unmet r e f = cc

last_case : (m n : ℕ) → m < n + 1 → (m < n) ⊎ (n ≡ m)
last_case m n h = grind arith

pub loop-part-init : goal.loop-part-init
loop-part-init c = λ k d h. absurd (omega arith)

pub returns-then-has : goal.returns-then-has
returns-then-has c = (λ _. (c.loop-part.part-index, c.part-item.result, c.loop-part-test.true, sym c.part-item.is, sym c.has.ensures ∙ c.if-has.true), λ _. refl)

pub loop-part-preserved : goal.loop-part-preserved
loop-part-preserved c = λ k d h. by k d (last_case k c.loop-part.part-index h)
  where
    here : (d : Part) → has_layer (get_or c.args.parts.now c.loop-part.part-index d).layers c.args.layer ≡ false
    here d = subst (λ (p : Part). has_layer p.layers c.args.layer ≡ false) (get_or_read c.args.parts.now _ _ c.loop-part-test.true c.part-item.is d) (sym c.has.ensures ∙ c.if-has.false)

    by : (k : ℕ) (d : Part) → (k < c.loop-part.part-index) ⊎ (c.loop-part.part-index ≡ k) → has_layer (get_or c.args.parts.now k d).layers c.args.layer ≡ false
    by k d (inl lt) = c.loop-part.invariant k d lt
    by k d (inr e) = subst (λ (j : ℕ). has_layer (get_or c.args.parts.now j d).layers c.args.layer ≡ false) e (here d)

pub returns : goal.returns
returns c = (λ t. absurd (unmet false refl t), λ s. absurd (none s.0 s.1 s.2 s.3 s.4))
  where
    none : (k : ℕ) (p : Part) → k < length c.args.parts.now → get_or c.args.parts.now k p ≡ p → has_layer p.layers c.args.layer ≡ true → ⊥
    none k p lt e h = unmet (has_layer p.layers c.args.layer) (subst (λ (q : Part). has_layer q.layers c.args.layer ≡ false) e (c.loop-part.invariant k p (omega arith))) h

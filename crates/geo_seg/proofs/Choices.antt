-- What `||`, `&&` and `!` answer, from what their operands answer: the value is that of the operand that decides.
use Rattle.std.proofs.Common.{not, ◌≡◌, ◌⊎◌, Bool, true, false, IsTrue, ◌↔◌, sym, ◌∙◌, inl, inr}

pub fails_by : {P : Type 0} (b : Bool) → (IsTrue b ↔ P) → b ≡ false → P → ⊥
fails_by b e h p = let t : b ≡ true = e.1 p in cc

pub either_way : {A B C : Type 0} → (A → C) → (B → C) → A ⊎ B → C
either_way f g (inl a) = f a
either_way f g (inr b) = g b

pub or_first : {P Q : Type 0} (b v : Bool) → (IsTrue b ↔ P) → b ≡ true → v ≡ b → (IsTrue v ↔ (P ⊎ Q))
or_first b v e h k = (λ t. inl (e.0 h), λ t. k ∙ h)

pub or_second : {P Q : Type 0} (b c v : Bool) → (IsTrue b ↔ P) → (IsTrue c ↔ Q) → b ≡ false → v ≡ c → (IsTrue v ↔ (P ⊎ Q))
or_second b c v e f h k = (λ t. inr (f.0 (sym k ∙ t)), either_way (λ p. absurd (fails_by b e h p)) (λ q. k ∙ f.1 q))

pub and_first : {P Q : Type 0} (b v : Bool) → (IsTrue b ↔ P) → b ≡ false → v ≡ b → (IsTrue v ↔ (P × Q))
and_first b v e h k = (λ t. absurd (differ b h (sym k ∙ t)), λ q. k ∙ e.1 q.0)
  where
    differ : (b : Bool) → b ≡ false → b ≡ true → ⊥
    differ b h k = cc

pub and_second : {P Q : Type 0} (b c v : Bool) → (IsTrue b ↔ P) → (IsTrue c ↔ Q) → b ≡ true → v ≡ c → (IsTrue v ↔ (P × Q))
and_second b c v e f h k = (λ t. (e.0 h, f.0 (sym k ∙ t)), λ q. k ∙ f.1 q.1)

pub through : {P Q : Type 0} (b : Bool) → (IsTrue b ↔ P) → (Q ↔ P) → (IsTrue b ↔ Q)
through b e f = (λ t. f.1 (e.0 t), λ q. e.1 (f.0 q))

pub not_and_first : {P Q : Type 0} (b v : Bool) → (IsTrue b ↔ P) → b ≡ true → v ≡ not b → (IsTrue v ↔ ((¬ P) × Q))
not_and_first b v e h k = (λ t. absurd (clash b v h k t), λ q. absurd (q.0 (e.0 h)))
  where
    clash : (b v : Bool) → b ≡ true → v ≡ not b → v ≡ true → ⊥
    clash true v h k t = let l : false ≡ true = sym k ∙ t in cc
    clash false v h k t = cc

pub not_and_second : {P Q : Type 0} (b c v : Bool) → (IsTrue b ↔ P) → (IsTrue c ↔ Q) → b ≡ false → v ≡ c → (IsTrue v ↔ ((¬ P) × Q))
not_and_second b c v e f h k = (λ t. (fails_by b e h, f.0 (sym k ∙ t)), λ q. k ∙ f.1 q.1)

left_assoc : {A B C : Type 0} → A ⊎ (B ⊎ C) → (A ⊎ B) ⊎ C
left_assoc (inl a) = inl (inl a)
left_assoc (inr (inl b)) = inl (inr b)
left_assoc (inr (inr c)) = inr c

right_assoc : {A B C : Type 0} → (A ⊎ B) ⊎ C → A ⊎ (B ⊎ C)
right_assoc (inl (inl a)) = inl a
right_assoc (inl (inr b)) = inr (inl b)
right_assoc (inr c) = inr (inr c)

pub or_assoc : {A B C Q : Type 0} → (Q ↔ (A ⊎ (B ⊎ C))) → (Q ↔ ((A ⊎ B) ⊎ C))
or_assoc e = (λ q. left_assoc (e.0 q), λ x. e.1 (right_assoc x))

pub and_assoc : {A B C Q : Type 0} → (Q ↔ (A × B × C)) → (Q ↔ ((A × B) × C))
and_assoc e = (λ q. let r = e.0 q in ((r.0, r.1), r.2), λ x. e.1 (x.0.0, x.0.1, x.1))

-- a value that is known
pub surely : {P : Type 0} (v : Bool) → v ≡ true → P → (IsTrue v ↔ P)
surely v e p = (λ _. p, λ _. e)

pub surely_not : {P : Type 0} (v : Bool) → v ≡ false → ¬ P → (IsTrue v ↔ P)
surely_not v e n = (λ t. absurd (clash v e t), λ p. absurd (n p))
  where
    clash : (v : Bool) → v ≡ false → v ≡ true → ⊥
    clash v e t = cc

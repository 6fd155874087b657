-- Reading one thing and then another.
use Rattle.std.proofs.Common.{◌≡◌, ◌⊎◌, inl, inr, ℕ, List, ap, ◌∙◌}
use Rattle.cond_lang.specs.declared.error.CondError.{CondError}
use Rattle.cond_lang.specs.declared.error.CondError.TheVariants.{OutOfMemory}
use Rattle.cond_lang.specs.Found.{Found, read, fault, and_then}

pub then_read : {A B : Type 0} → (f : Found A) (next : A → List ℕ → Found B) (a : A) (rest : List ℕ) (x : Found B) → f ≡ read a rest → next a rest ≡ x → and_then f next ≡ x
then_read f next a rest x e h = ap (λ y. and_then y next) e ∙ h

pub then_fault : {A B : Type 0} → (f : Found A) (next : A → List ℕ → Found B) (e : CondError) → f ≡ fault e → and_then f next ≡ fault e
then_fault f next e h = ap (λ y. and_then y next) h

-- the same where memory may run out
pub then_lost : {A B : Type 0} → (f : Found A) (next : A → List ℕ → Found B) (e : CondError) → (e ≡ OutOfMemory) ⊎ (f ≡ fault e) → (e ≡ OutOfMemory) ⊎ (and_then f next ≡ fault e)
then_lost f next e (inl memory) = inl memory
then_lost f next e (inr h) = inr (then_fault f next e h)

pub then_later : {A B : Type 0} → (f : Found A) (next : A → List ℕ → Found B) (a : A) (rest : List ℕ) (e : CondError) → f ≡ read a rest → (e ≡ OutOfMemory) ⊎ (next a rest ≡ fault e) → (e ≡ OutOfMemory) ⊎ (and_then f next ≡ fault e)
then_later f next a rest e h (inl memory) = inl memory
then_later f next a rest e h (inr k) = inr (then_read f next a rest (fault e) h k)

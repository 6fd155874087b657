-- What a reading of the whole text means.
use Rattle.std.proofs.Common.{◌≡◌, ◌⊎◌, inl, inr, ℕ, List, [], sym, ◌∙◌, arith}
use Rattle.std.specs.Prelude.{Result, Ok, Err, MatchResult, IfOk}
use Rattle.cond_lang.specs.declared.error.CondError.{CondError}
use Rattle.cond_lang.specs.declared.error.CondError.TheVariants.{OutOfMemory}
use Rattle.cond_lang.specs.declared.cond.Cond.{Cond}
use Rattle.cond_lang.specs.Found.{read, fault}
use Rattle.cond_lang.specs.Trees.{CondTree, cond_tree_of}
use Rattle.cond_lang.specs.Conditions.{reading}
use Rattle.cond_lang.specs.ConditionGrammar.{Spells}
use Rattle.cond_lang.proofs.Spelled.{reading_sound}
use Rattle.cond_lang.proofs.Complete.{reading_complete}

abbrev pub IsExact : List ℕ → Result Cond CondError → Type 0
IsExact text r = MatchResult r (λ c. reading text ≡ read (cond_tree_of c) []) (λ e. (e ≡ OutOfMemory) ⊎ (reading text ≡ fault e))

pub is_spelled : (text : List ℕ) (r : Result Cond CondError) → IsExact text r → IfOk r (λ c. Spells text (cond_tree_of c))
is_spelled text (Ok c) h = reading_sound text (cond_tree_of c) h
is_spelled text (Err e) h = tt

same_tree : (a b : CondTree) → read a [] ≡ read b [] → a ≡ b
same_tree a b h = grind (arith, h)

never : {Q : Type 0} (a : CondTree) (e : CondError) → fault e ≡ read a [] → Q
never a e h = absurd (grind (arith, h))

pub only_tree : (text : List ℕ) (r : Result Cond CondError) → IsExact text r → (t : CondTree) → Spells text t → MatchResult r (λ c. cond_tree_of c ≡ t) (λ e. e ≡ OutOfMemory)
only_tree text (Ok c) h t s = same_tree (cond_tree_of c) t (sym h ∙ reading_complete text t s)
only_tree text (Err e) (inl memory) t s = memory
only_tree text (Err e) (inr h) t s = never t e (sym h ∙ reading_complete text t s)

pub one_tree : (text : List ℕ) (t u : CondTree) → Spells text t → Spells text u → t ≡ u
one_tree text t u s v = same_tree t u (sym (reading_complete text t s) ∙ reading_complete text u v)

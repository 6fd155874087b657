-- Members of a chain, one after another.
use Rattle.std.proofs.Common.{◌≡◌, ℕ, zero, suc, ◌+◌, ◌<◌, ◌≤◌, ◌⊎◌, inl, inr, Bool, true, false, List, [], ◌∷◌, ◌++◌, length, map, refl, sym, ◌∙◌, ap, subst, arith}
use Rattle.std.proofs.lemmas.List.{map-append, length-map, length-append}
use Rattle.cond_lang.specs.declared.error.CondError.{CondError}
use Rattle.cond_lang.specs.declared.error.CondError.TheVariants.{OutOfMemory}
use Rattle.cond_lang.specs.declared.cond.Cond.{Cond}
use Rattle.cond_lang.specs.Found.{Found, read, fault, and_then}
use Rattle.cond_lang.specs.Signs.{is_blank, after_blanks}
use Rattle.cond_lang.specs.Trees.{CondTree, Trees, cond_tree_of, trees_of}
use Rattle.cond_lang.specs.Conditions.{joined, begins_with, twice, link, links, chain}
use Rattle.cond_lang.proofs.Steps.{then_read, then_fault}

pub blanks_shorter : (text : List ℕ) → length (after_blanks text) ≤ length text
blanks_shorter [] = omega arith
blanks_shorter (c ∷ cs) = by_test (blanks_shorter cs) (is_blank c) refl
  where
    by_test : length (after_blanks cs) ≤ length cs → (b : Bool) → is_blank c ≡ b → length (after_blanks (c ∷ cs)) ≤ length (c ∷ cs)
    by_test h true e = rw e (omega (arith, h))
    by_test h false e = rw e (omega arith)

-- what the chain finds is what is found behind these members
pub record IsLinked (n sign : ℕ) (make : Trees → CondTree) (part : List ℕ → Found CondTree) (found : Found CondTree) (ts : List CondTree) (rest : List ℕ) : Type 0 where
  pub more : ℕ
  pub enough : length rest ≤ more
  pub same : found ≡ links n sign make part more ts rest

module _ (n sign : ℕ) (make : Trees → CondTree) (part : List ℕ → Found CondTree) where
  pub linked_first : (text : List ℕ) (t : CondTree) (behind : List ℕ) → part text ≡ read t behind → length behind ≤ length text → IsLinked n sign make part (chain n sign make part text) (t ∷ []) (after_blanks behind)
  unfolding chain
  linked_first text t behind e short = record {
    more = length text;
    enough = let h = blanks_shorter behind in omega arith;
    same = then_read (part text) (λ u rest. links n sign make part (length text) (u ∷ []) (after_blanks rest)) t behind _ e refl;
  }

  pub linked_end : (found : Found CondTree) (ts : List CondTree) (rest : List ℕ) → IsLinked n sign make part found ts rest → begins_with sign rest ≡ false → found ≡ read (joined make ts) rest
  unfolding links
  linked_end found ts rest h e = h.same ∙ by_more h.more
    where
      by_more : (k : ℕ) → links n sign make part k ts rest ≡ read (joined make ts) rest
      by_more zero = refl
      by_more (suc k) = ap (link n sign make part (links n sign make part k) ts rest) e

  not_empty : (rest : List ℕ) → begins_with sign rest ≡ true → 0 < length rest
  not_empty [] e = absurd (grind (arith, e))
  not_empty (c ∷ cs) e = omega arith

  unrolled : (found : Found CondTree) (ts : List CondTree) (rest : List ℕ) → IsLinked n sign make part found ts rest → begins_with sign rest ≡ true
      → (k : ℕ) × (length rest ≤ suc k) × (found ≡ and_then (twice n sign rest) (λ _ inner. and_then (part inner) (λ t behind. links n sign make part k (ts ++ (t ∷ [])) (after_blanks behind))))
  unfolding links
  unrolled found ts rest h e = by_more h.more h.enough h.same
    where
      by_more : (m : ℕ) → length rest ≤ m → found ≡ links n sign make part m ts rest
          → (k : ℕ) × (length rest ≤ suc k) × (found ≡ and_then (twice n sign rest) (λ _ inner. and_then (part inner) (λ t behind. links n sign make part k (ts ++ (t ∷ [])) (after_blanks behind))))
      by_more zero enough same = absurd (let h = not_empty rest e in omega (arith, enough, h))
      by_more (suc k) enough same = (k, enough, same ∙ ap (link n sign make part (links n sign make part k) ts rest) e)

  pub linked_next : (found : Found CondTree) (ts : List CondTree) (rest inner : List ℕ) (t : CondTree) (behind : List ℕ) → IsLinked n sign make part found ts rest → begins_with sign rest ≡ true
      → twice n sign rest ≡ read tt inner → part inner ≡ read t behind → length inner + 1 ≤ length rest → length behind ≤ length inner
      → IsLinked n sign make part found (ts ++ (t ∷ [])) (after_blanks behind)
  linked_next found ts rest inner t behind h e two one inside short =
      let u = unrolled found ts rest h e in record {
        more = u.0;
        enough = let k = blanks_shorter behind in omega (arith, k, u.1, inside, short);
        same = u.2 ∙ then_read (twice n sign rest) _ tt inner _ two (then_read (part inner) _ t behind _ one refl);
      }

  pub linked_sign : (found : Found CondTree) (ts : List CondTree) (rest : List ℕ) (e : CondError) → IsLinked n sign make part found ts rest → begins_with sign rest ≡ true
      → twice n sign rest ≡ fault e → found ≡ fault e
  linked_sign found ts rest e h begins two = (unrolled found ts rest h begins).2 ∙ then_fault (twice n sign rest) _ e two

  pub linked_part : (found : Found CondTree) (ts : List CondTree) (rest inner : List ℕ) (e : CondError) → IsLinked n sign make part found ts rest → begins_with sign rest ≡ true
      → twice n sign rest ≡ read tt inner → (e ≡ OutOfMemory) ⊎ (part inner ≡ fault e) → (e ≡ OutOfMemory) ⊎ (found ≡ fault e)
  linked_part found ts rest inner e h begins two (inl memory) = inl memory
  linked_part found ts rest inner e h begins two (inr one) =
      inr ((unrolled found ts rest h begins).2 ∙ then_read (twice n sign rest) _ tt inner _ two (then_fault (part inner) _ e one))

pub joined_many : (make : Trees → CondTree) (ts : List CondTree) → 2 ≤ length ts → joined make ts ≡ make (trees_of ts)
joined_many make [] h = absurd (omega (arith, h))
joined_many make (t ∷ []) h = absurd (omega (arith, h))
joined_many make (t ∷ u ∷ ts) h = refl

pub linked_lost : (n sign : ℕ) (make : Trees → CondTree) (part : List ℕ → Found CondTree) (text : List ℕ) (e : CondError) → (e ≡ OutOfMemory) ⊎ (part text ≡ fault e) → (e ≡ OutOfMemory) ⊎ (chain n sign make part text ≡ fault e)
unfolding chain
linked_lost n sign make part text e (inl memory) = inl memory
linked_lost n sign make part text e (inr h) = inr (then_fault (part text) _ e h)

-- a chain of one member
pub linked_alone : (n sign : ℕ) (make : Trees → CondTree) (part : List ℕ → Found CondTree) (text : List ℕ) (t : CondTree) (behind rest : List ℕ) → part text ≡ read t behind → length behind ≤ length text → rest ≡ after_blanks behind → begins_with sign rest ≡ false → chain n sign make part text ≡ read t rest
linked_alone n sign make part text t behind rest e short blanks none =
    linked_end n sign make part (chain n sign make part text) (t ∷ []) rest (subst (IsLinked n sign make part (chain n sign make part text) (t ∷ [])) (sym blanks) (linked_first n sign make part text t behind e short)) none

-- one member more of a vector
pub linked_push : (n sign : ℕ) (make : Trees → CondTree) (part : List ℕ → Found CondTree) (found : Found CondTree) (cs more : List Cond) (c : Cond) (rest inner behind next : List ℕ) → IsLinked n sign make part found (map cond_tree_of cs) rest → begins_with sign rest ≡ true
    → twice n sign rest ≡ read tt inner → part inner ≡ read (cond_tree_of c) behind → length inner + 1 ≤ length rest → length behind ≤ length inner → more ≡ cs ++ (c ∷ []) → next ≡ after_blanks behind
    → IsLinked n sign make part found (map cond_tree_of more) next
linked_push n sign make part found cs more c rest inner behind next h e two one inside short pushed blanks =
    rw (pushed, blanks, map-append cond_tree_of cs (c ∷ [])) (linked_next n sign make part found (map cond_tree_of cs) rest inner (cond_tree_of c) behind h e two one inside short)

-- the whole chain
pub linked_whole : (n sign : ℕ) (make : Trees → CondTree) (part : List ℕ → Found CondTree) (found : Found CondTree) (cs : List Cond) (rest : List ℕ) → IsLinked n sign make part found (map cond_tree_of cs) rest → begins_with sign rest ≡ false → 2 ≤ length cs → found ≡ read (make (trees_of (map cond_tree_of cs))) rest
linked_whole n sign make part found cs rest h none two =
    linked_end n sign make part found (map cond_tree_of cs) rest h none ∙ ap (λ x. read x rest) (joined_many make (map cond_tree_of cs) (rw (length-map cs cond_tree_of) two))

pub two_after : (cs more : List Cond) (c : Cond) → 1 ≤ length cs → more ≡ cs ++ (c ∷ []) → 2 ≤ length more
two_after cs more c some pushed = rw pushed (let h = length-append cs (c ∷ []) in omega (arith, some, h))

pub two_at_end : (sign : ℕ) (cs : List Cond) (rest : List ℕ) → (2 ≤ length cs) ⊎ (begins_with sign rest ≡ true) → begins_with sign rest ≡ false → 2 ≤ length cs
two_at_end sign cs rest (inl two) none = two
two_at_end sign cs rest (inr begins) none = absurd (grind (arith, begins, none))

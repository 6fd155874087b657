-- What is spelled is read.
use Rattle.std.proofs.Common.{◌≡◌, inl, inr, ℕ, zero, suc, ◌≤◌, Bool, true, false, ◌==◌, if◌then◌else◌, List, [], ◌∷◌, ◌++◌, length, refl, sym, ◌∙◌, ap, subst, arith}
use Rattle.std.proofs.lemmas.List.{append_assoc, length-append}
use Rattle.cond_lang.specs.Found.{Found, read, and_then, byte}
use Rattle.cond_lang.specs.Signs.{is_blank, after_blanks, side}
use Rattle.cond_lang.specs.Trees.{CondTree, Trees, any, all}
use Rattle.cond_lang.specs.Values.{atom, head, member}
use Rattle.cond_lang.specs.Conditions.{joined, begins_with, link, links, chain, alternatives, closed, bang, bracket, plain, shallow, shallow_at, nested_at, negation, disjunction, reading}
use Rattle.cond_lang.specs.Atoms.{Blanks}
use Rattle.cond_lang.specs.ConditionGrammar.{Members, Chain, Alternatives, Negation, Spells}
use Rattle.cond_lang.proofs.Steps.{then_read}
use Rattle.cond_lang.proofs.Turns.{nested_plain}
use Rattle.cond_lang.proofs.Atoms.{atom_complete}
use Rattle.cond_lang.proofs.Blanks.{blanks_of, skipped}
use Rattle.cond_lang.proofs.Shrinking.{atom_shorter}

pub blanks_longer : (text rest : List ℕ) → Blanks text rest → length rest ≤ length text
blanks_longer text rest h = let e = length-append h.0 rest in subst (λ y. length rest ≤ length y) (sym h.2) (omega (arith, e))

abbrev pub Shortens : (CondTree → List ℕ → List ℕ → Type 0) → Type 0
Shortens Part = (t : CondTree) (text rest : List ℕ) → Part t text rest → length rest ≤ length text

-- a tree that stands there is read there, where what follows behind space does not go on
abbrev pub IsRead : (List ℕ → Found CondTree) → (CondTree → List ℕ → List ℕ → Type 0) → (List ℕ → Type 0) → Type 0
IsRead part Part Stop = (t : CondTree) (text rest : List ℕ) → Part t text rest → Stop (after_blanks rest) → (r : List ℕ) × (part text ≡ read t r) × (after_blanks r ≡ after_blanks rest)

module _ (sign : ℕ) (make : Trees → CondTree) (Part : CondTree → List ℕ → List ℕ → Type 0) (shorter : Shortens Part) where
  pub members_shorter : (ts : List CondTree) (text rest : List ℕ) → Members sign Part ts text rest → length rest ≤ length text
  members_shorter [] text rest h = absurd h
  members_shorter (t ∷ []) text rest h = shorter t text rest h
  members_shorter (t ∷ u ∷ ts) text rest h =
      let a = shorter t text h.0 h.2 in let b = blanks_longer h.0 (sign ∷ sign ∷ h.1) h.3 in let c = members_shorter (u ∷ ts) h.1 rest h.4 in omega (arith, a, b, c)

  pub chain_shorter : Shortens (Chain sign make Part)
  chain_shorter t text rest h = let a = members_shorter h.0 text h.1 h.2 in let b = blanks_longer h.1 rest h.3 in omega (arith, a, b)

module _ (n sign : ℕ) (make : Trees → CondTree) (part : List ℕ → Found CondTree) (Part : CondTree → List ℕ → List ℕ → Type 0) (Stop : List ℕ → Type 0)
    (solid : is_blank sign ≡ false) (shorter : Shortens Part) (is_read : IsRead part Part Stop) (stops : (v : List ℕ) → Stop (sign ∷ sign ∷ v)) where
  sign_stays : (v : List ℕ) → after_blanks (sign ∷ sign ∷ v) ≡ sign ∷ sign ∷ v
  sign_stays v = ap (λ t. if t then after_blanks (sign ∷ v) else (sign ∷ sign ∷ v)) solid

  links_end : (k : ℕ) (ts : List CondTree) (text : List ℕ) → begins_with sign text ≡ false → links n sign make part k ts text ≡ read (joined make ts) text
  unfolding links
  links_end zero ts text e = refl
  links_end (suc k) ts text e = ap (link n sign make part (links n sign make part k) ts text) e

  byte_same : (v : List ℕ) → byte n sign (sign ∷ v) ≡ read tt v
  byte_same v = by_test (sign == sign) refl
    where
      by_test : (t : Bool) → (sign == sign) ≡ t → byte n sign (sign ∷ v) ≡ read tt v
      by_test true e = grind (arith, e)
      by_test false e = absurd (grind (arith, e))

  begins_same : (v : List ℕ) → begins_with sign (sign ∷ v) ≡ true
  begins_same v = grind arith

  links_on : (k : ℕ) (ts : List CondTree) (v : List ℕ) → links n sign make part (suc k) ts (sign ∷ sign ∷ v) ≡ and_then (part v) (λ t behind. links n sign make part k (ts ++ (t ∷ [])) (after_blanks behind))
  unfolding links
  links_on k ts v = ap (link n sign make part (links n sign make part k) ts (sign ∷ sign ∷ v)) (begins_same (sign ∷ v)) ∙ then_read (byte n sign (sign ∷ v)) _ tt v _ (byte_same v) refl

  pub members_read : (us : List CondTree) (t : CondTree) (ts : List CondTree) (text s : List ℕ) (k : ℕ) → Members sign Part (t ∷ us) text s → Stop (after_blanks s) → begins_with sign (after_blanks s) ≡ false → length text ≤ k
      → and_then (part text) (λ u rest. links n sign make part k (ts ++ (u ∷ [])) (after_blanks rest)) ≡ read (joined make (ts ++ (t ∷ us))) (after_blanks s)
  members_read [] t ts text s k h stop ends enough =
      let one = is_read t text s h stop in
      then_read (part text) _ t one.0 _ one.1 (ap (λ y. links n sign make part k (ts ++ (t ∷ [])) y) one.2 ∙ links_end k (ts ++ (t ∷ [])) (after_blanks s) ends)
  members_read (u ∷ us) t ts text s zero h stop ends enough =
      absurd (let a = shorter t text h.0 h.2 in let b = blanks_longer h.0 (sign ∷ sign ∷ h.1) h.3 in omega (arith, a, b, enough))
  members_read (u ∷ us) t ts text s (suc k) h stop ends enough =
      let here : after_blanks h.0 ≡ sign ∷ sign ∷ h.1 = skipped h.0 (sign ∷ sign ∷ h.1) h.3 ∙ sign_stays h.1 in
      let one = is_read t text h.0 h.2 (subst Stop (sym here) (stops h.1)) in
      let a = shorter t text h.0 h.2 in let b = blanks_longer h.0 (sign ∷ sign ∷ h.1) h.3 in
      then_read (part text) _ t one.0 _ one.1 (ap (λ y. links n sign make part (suc k) (ts ++ (t ∷ [])) y) (one.2 ∙ here) ∙ links_on k (ts ++ (t ∷ [])) h.1
      ∙ members_read us u (ts ++ (t ∷ [])) h.1 s k h.4 stop ends (omega (arith, a, b, enough))
      ∙ ap (λ y. read (joined make y) (after_blanks s)) (append_assoc ts (t ∷ []) (u ∷ us)))

  pub chain_read : (t : CondTree) (text rest : List ℕ) → Chain sign make Part t text rest → Stop (after_blanks rest) → begins_with sign (after_blanks rest) ≡ false → chain n sign make part text ≡ read t (after_blanks rest)
  unfolding chain
  chain_read t text rest h stop ends = by_members h.0 h.2 h.4
    where
      same : after_blanks h.1 ≡ after_blanks rest
      same = skipped h.1 rest h.3

      by_members : (ts : List CondTree) → Members sign Part ts text h.1 → t ≡ joined make ts → chain n sign make part text ≡ read t (after_blanks rest)
      by_members [] m e = absurd m
      by_members (u ∷ us) m e =
          members_read us u [] text h.1 (length text) m (subst Stop (sym same) stop) (subst (λ y. begins_with sign y ≡ false) (sym same) ends) (omega arith)
          ∙ ap (λ y. read (joined make (u ∷ us)) y) same ∙ ap (λ y. read y (after_blanks rest)) (sym e)

idem : (rest : List ℕ) → after_blanks (after_blanks rest) ≡ after_blanks rest
idem rest = sym (skipped rest (after_blanks rest) (blanks_of rest))

module _ (n : ℕ) (part : List ℕ → Found CondTree) (Part : CondTree → List ℕ → List ℕ → Type 0) (shorter : Shortens Part) (is_read : IsRead part Part (λ _. Unit {0})) where
  all_read : IsRead (chain n 38 all part) (Chain 38 all Part) (λ w. begins_with 38 w ≡ false)
  all_read t text rest h stop = (after_blanks rest, chain_read n 38 all part Part (λ _. Unit {0}) refl shorter is_read (λ v. tt) t text rest h tt stop, idem rest)

  pub alternatives_read : (t : CondTree) (text rest : List ℕ) → Alternatives Part t text rest → begins_with 38 (after_blanks rest) ≡ false → begins_with 124 (after_blanks rest) ≡ false → alternatives n part text ≡ read t (after_blanks rest)
  alternatives_read t text rest h one two =
      chain_read n 124 any (chain n 38 all part) (Chain 38 all Part) (λ w. begins_with 38 w ≡ false) refl (chain_shorter 38 all Part shorter) all_read (λ v. refl) t text rest h one two

pub negation_shorter : (n levels : ℕ) → Shortens (Negation n levels)
unfolding Negation
negation_shorter n zero t text rest h = let a = atom_shorter n 0 h.0 t rest (atom_complete n 0 t h.0 rest h.2) in let b = blanks_longer text h.0 h.1 in omega (arith, a, b)
negation_shorter n (suc k) t text rest (s, b, inl (u, v, e, e2, p)) =
    let a = negation_shorter n k u v rest p in let c = blanks_longer text s b in let d : length s ≡ suc (length v) = ap length e in omega (arith, a, c, d)
negation_shorter n (suc k) t text rest (s, b, inr (inl (v, w, e, alt, close))) =
    let a = chain_shorter 124 any (Chain 38 all (Negation n k)) (chain_shorter 38 all (Negation n k) (negation_shorter n k)) t v w alt in
    let c = blanks_longer text s b in let d : length s ≡ suc (length v) = ap length e in let f = blanks_longer w (41 ∷ rest) close in omega (arith, a, c, d, f)
negation_shorter n (suc k) t text rest (s, b, inr (inr h)) = let a = atom_shorter n (suc k) s t rest (atom_complete n (suc k) t s rest h) in let c = blanks_longer text s b in omega (arith, a, c)

-- an atom begins with no space, no `!` and no bracket
record Solid (at : List ℕ) : Type 0 where
  pub stays : after_blanks at ≡ at
  pub no_bang : begins_with 33 at ≡ false
  pub no_bracket : begins_with 40 at ≡ false

solid_atom : (n levels : ℕ) (at : List ℕ) (t : CondTree) (rest : List ℕ) → atom n levels at ≡ read t rest → Solid at
unfolding atom head member side
solid_atom n levels [] t rest h = absurd (grind (arith, h))
solid_atom n levels (c ∷ cs) t rest h = by_tests (is_blank c) refl (c == 33) refl (c == 40) refl
  where
    at_32 : c ≡ 32 → ⊥
    at_32 e = let k : atom n levels (32 ∷ cs) ≡ read t rest = subst (λ y. atom n levels (y ∷ cs) ≡ read t rest) e h in grind (arith, k)

    at_9 : c ≡ 9 → ⊥
    at_9 e = let k : atom n levels (9 ∷ cs) ≡ read t rest = subst (λ y. atom n levels (y ∷ cs) ≡ read t rest) e h in grind (arith, k)

    at_10 : c ≡ 10 → ⊥
    at_10 e = let k : atom n levels (10 ∷ cs) ≡ read t rest = subst (λ y. atom n levels (y ∷ cs) ≡ read t rest) e h in grind (arith, k)

    at_13 : c ≡ 13 → ⊥
    at_13 e = let k : atom n levels (13 ∷ cs) ≡ read t rest = subst (λ y. atom n levels (y ∷ cs) ≡ read t rest) e h in grind (arith, k)

    at_33 : c ≡ 33 → ⊥
    at_33 e = let k : atom n levels (33 ∷ cs) ≡ read t rest = subst (λ y. atom n levels (y ∷ cs) ≡ read t rest) e h in grind (arith, k)

    at_40 : c ≡ 40 → ⊥
    at_40 e = let k : atom n levels (40 ∷ cs) ≡ read t rest = subst (λ y. atom n levels (y ∷ cs) ≡ read t rest) e h in grind (arith, k)

    by_tests : (x : Bool) → is_blank c ≡ x → (y : Bool) → (c == 33) ≡ y → (z : Bool) → (c == 40) ≡ z → Solid (c ∷ cs)
    by_tests true e y f z g = absurd (grind (arith, e, at_32, at_9, at_10, at_13))
    by_tests false e true f z g = absurd (at_33 (grind (arith, f)))
    by_tests false e false f true g = absurd (at_40 (grind (arith, g)))
    by_tests false e false f false g = record { stays = ap (λ x. if x then after_blanks cs else (c ∷ cs)) e; no_bang = f; no_bracket = g }

shallow_atom : (n : ℕ) (at : List ℕ) → begins_with 33 at ≡ false → begins_with 40 at ≡ false → shallow_at n at ≡ atom n 0 at
unfolding atom head
shallow_atom n [] other e = refl
shallow_atom n (c ∷ cs) other e = ap (shallow n (c ∷ cs)) (ap (λ b. if b then bang else (if c == 40 then bracket else plain)) other ∙ ap (λ b. if b then bracket else plain) e)

pub negation_read : (n levels : ℕ) → IsRead (negation n levels) (Negation n levels) (λ _. Unit {0})
unfolding negation Negation
negation_read n zero t text rest (s, b, h) stop =
    let found = atom_complete n 0 t s rest h in
    let solid = solid_atom n 0 s t rest found in
    (rest, ap (shallow_at n) (skipped text s b ∙ solid.stays) ∙ shallow_atom n s solid.no_bang solid.no_bracket ∙ found, refl)
negation_read n (suc k) t text rest (s, b, inl (u, v, e, e2, p)) stop =
    let inner = negation_read n k u v rest p tt in
    let here : after_blanks text ≡ 33 ∷ v = skipped text s b ∙ ap after_blanks e in
    (inner.0, ap (nested_at n (suc k) (negation n k)) here ∙ then_read (negation n k v) _ u inner.0 _ inner.1 refl ∙ ap (λ y. read y inner.0) (sym e2), inner.2)
negation_read n (suc k) t text rest (s, b, inr (inl (v, w, e, alt, close))) stop =
    let here : after_blanks text ≡ 40 ∷ v = skipped text s b ∙ ap after_blanks e in
    let ends : after_blanks w ≡ 41 ∷ rest = skipped w (41 ∷ rest) close in
    let inner = alternatives_read n (negation n k) (Negation n k) (negation_shorter n k) (negation_read n k) t v w alt (ap (begins_with 38) ends) (ap (begins_with 124) ends) in
    (rest, ap (nested_at n (suc k) (negation n k)) here ∙ then_read (alternatives n (negation n k) v) (closed n) t (after_blanks w) (read t rest) inner (ap (closed n t) ends), refl)
negation_read n (suc k) t text rest (s, b, inr (inr h)) stop =
    let found = atom_complete n (suc k) t s rest h in
    let solid = solid_atom n (suc k) s t rest found in
    (rest, ap (nested_at n (suc k) (negation n k)) (skipped text s b ∙ solid.stays) ∙ nested_plain n (suc k) (negation n k) s solid.no_bang solid.no_bracket ∙ found, refl)

pub reading_complete : (text : List ℕ) (t : CondTree) → Spells text t → reading text ≡ read t []
unfolding reading disjunction Spells
reading_complete text t h =
    then_read (alternatives (length text) (negation (length text) 64) text) _ t [] _
    (alternatives_read (length text) (negation (length text) 64) (Negation (length text) 64) (negation_shorter (length text) 64) (negation_read (length text) 64) t text [] h refl refl)
    refl

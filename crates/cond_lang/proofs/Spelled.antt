-- What is read is spelled.
use Rattle.std.proofs.Common.{◌≡◌, ◌⊎◌, inl, inr, ℕ, zero, suc, Bool, true, false, ◌==◌, List, [], ◌∷◌, ◌++◌, length, refl, sym, ◌∙◌, ap, subst, arith}
use Rattle.cond_lang.specs.Found.{Found, read, byte}
use Rattle.cond_lang.specs.Signs.{after_blanks}
use Rattle.cond_lang.specs.Trees.{CondTree, Trees, any, all}
use Rattle.cond_lang.specs.Conditions.{begins_with, twice, link, links, chain, alternatives, closed, Begin, bang, bracket, plain, begin_of, shallow, nested, shallow_at, nested_at, negation, disjunction, ended, reading}
use Rattle.cond_lang.specs.Atoms.{AreBlanks, Blanks, Atom}
use Rattle.cond_lang.proofs.Blanks.{then_back, blanks_of, byte_back}
use Rattle.cond_lang.proofs.Atoms.{atom_sound}
use Rattle.cond_lang.specs.ConditionGrammar.{Members, Chain, Alternatives, Negated, Bracketed, Negation, Spells}

module _ (sign : ℕ) (Part : CondTree → List ℕ → List ℕ → Type 0) where
  pub members_on : (ts : List CondTree) (t : CondTree) (text s v rest : List ℕ) → Members sign Part ts text s → Blanks s (sign ∷ sign ∷ v) → Part t v rest → Members sign Part (ts ++ (t ∷ [])) text rest
  members_on [] t text s v rest h b p = absurd h
  members_on (u ∷ []) t text s v rest h b p = (s, v, h, b, p)
  members_on (u ∷ w ∷ ts) t text s v rest h b p = (h.0, h.1, h.2, h.3, members_on (w ∷ ts) t h.1 s v rest h.4 b p)

  module _ (n : ℕ) (make : Trees → CondTree) (part : List ℕ → Found CondTree) (sound : (text : List ℕ) (t : CondTree) (rest : List ℕ) → part text ≡ read t rest → Part t text rest) where
    twice_back : (text rest : List ℕ) → begins_with sign text ≡ true → twice n sign text ≡ read tt rest → text ≡ sign ∷ sign ∷ rest
    twice_back [] rest b h = absurd (grind (arith, b))
    twice_back (c ∷ cs) rest b h = let second = byte_back n sign cs rest h in grind (arith, b, second)

    pub links_sound : (k : ℕ) (ts : List CondTree) (whole s text : List ℕ) (t : CondTree) (rest : List ℕ) → Members sign Part ts whole s → Blanks s text → links n sign make part k ts text ≡ read t rest → Chain sign make Part t whole rest
    unfolding links
    links_sound zero ts whole s text t rest m b h = (ts, s, m, grind (arith, b, h), grind (arith, h))
    links_sound (suc k) ts whole s text t rest m b h =
        by_test (λ us v text2 mm bb hh. links_sound k us whole v text2 t rest mm bb hh) (begins_with sign text) refl
      where
        by_test : ((us : List CondTree) (v text2 : List ℕ) → Members sign Part us whole v → Blanks v text2 → links n sign make part k us text2 ≡ read t rest → Chain sign make Part t whole rest) → (f : Bool) → begins_with sign text ≡ f → Chain sign make Part t whole rest
        by_test on true e =
            let one : link n sign make part (links n sign make part k) ts text true ≡ read t rest = ap (link n sign make part (links n sign make part k) ts text) (sym e) ∙ h in
            let first = then_back (twice n sign text) _ t rest one in
            let second = then_back (part first.1) _ t rest first.3 in
            let two = twice_back text first.1 e first.2 in
            on (ts ++ (second.0 ∷ [])) second.1 (after_blanks second.1) (members_on ts second.0 whole s first.1 second.1 m (subst (Blanks s) two b) (sound first.1 second.0 second.1 second.2)) (blanks_of second.1) second.3
        by_test on false e =
            let one : link n sign make part (links n sign make part k) ts text false ≡ read t rest = ap (link n sign make part (links n sign make part k) ts text) (sym e) ∙ h in
            (ts, s, m, grind (arith, b, one), grind (arith, one))

    pub chain_sound : (text : List ℕ) (t : CondTree) (rest : List ℕ) → chain n sign make part text ≡ read t rest → Chain sign make Part t text rest
    unfolding chain
    chain_sound text t rest h =
        let first = then_back (part text) _ t rest h in
        links_sound (length text) (first.0 ∷ []) text first.1 (after_blanks first.1) t rest (sound text first.0 first.1 first.2) (blanks_of first.1) first.3

shallow_sound : (n : ℕ) (at : List ℕ) (t : CondTree) (rest : List ℕ) → shallow_at n at ≡ read t rest → Atom n 0 t at rest
shallow_sound n [] t rest h = absurd (grind (arith, h))
shallow_sound n (c ∷ cs) t rest h = by_begin (begin_of c) h
  where
    by_begin : (b : Begin) → shallow n (c ∷ cs) b ≡ read t rest → Atom n 0 t (c ∷ cs) rest
    by_begin bang e = absurd (grind (arith, e))
    by_begin bracket e = absurd (grind (arith, e))
    by_begin plain e = atom_sound n 0 (c ∷ cs) t rest e

-- a chain of `||` of chains of `&&`
alternatives_sound : (n : ℕ) (part : List ℕ → Found CondTree) (Part : CondTree → List ℕ → List ℕ → Type 0) → ((text : List ℕ) (t : CondTree) (rest : List ℕ) → part text ≡ read t rest → Part t text rest)
    → (text : List ℕ) (t : CondTree) (rest : List ℕ) → alternatives n part text ≡ read t rest → Alternatives Part t text rest
alternatives_sound n part Part sound =
    chain_sound 124 (Chain 38 all Part) n any (chain n 38 all part) (chain_sound 38 Part n all part sound)

is_bang : (c : ℕ) → begin_of c ≡ bang → c ≡ 33
is_bang c e = by_test (c == 33) refl
  where
    by_test : (t : Bool) → (c == 33) ≡ t → c ≡ 33
    by_test true h = grind (arith, h)
    by_test false h = by_other (c == 40) refl
      where
        by_other : (u : Bool) → (c == 40) ≡ u → c ≡ 33
        by_other true k = absurd (grind (arith, h, k, e))
        by_other false k = absurd (grind (arith, h, k, e))

is_bracket : (c : ℕ) → begin_of c ≡ bracket → c ≡ 40
is_bracket c e = by_test (c == 33) refl
  where
    by_test : (t : Bool) → (c == 33) ≡ t → c ≡ 40
    by_test true h = absurd (grind (arith, h, e))
    by_test false h = by_other (c == 40) refl
      where
        by_other : (u : Bool) → (c == 40) ≡ u → c ≡ 40
        by_other true k = grind (arith, k)
        by_other false k = absurd (grind (arith, h, k, e))

module _ (n levels : ℕ) (inner : List ℕ → Found CondTree) (Inner : CondTree → List ℕ → List ℕ → Type 0) (sound : (text : List ℕ) (t : CondTree) (rest : List ℕ) → inner text ≡ read t rest → Inner t text rest) where
  nested_sound : (at : List ℕ) (t : CondTree) (rest : List ℕ) → nested_at n levels inner at ≡ read t rest → Negated Inner t at rest ⊎ (Bracketed Inner t at rest ⊎ Atom n levels t at rest)
  nested_sound [] t rest h = absurd (grind (arith, h))
  nested_sound (c ∷ cs) t rest h = by_begin (begin_of c) refl h
    where
      by_begin : (b : Begin) → begin_of c ≡ b → nested n levels inner (c ∷ cs) cs b ≡ read t rest → Negated Inner t (c ∷ cs) rest ⊎ (Bracketed Inner t (c ∷ cs) rest ⊎ Atom n levels t (c ∷ cs) rest)
      by_begin bang b e =
          let first = then_back (inner cs) _ t rest e in
          inl (first.0, cs, ap (λ y. y ∷ cs) (is_bang c b), grind (arith, first.3), subst (λ y. Inner first.0 cs y) (grind (arith, first.3)) (sound cs first.0 first.1 first.2))
      by_begin bracket b e =
          let first = then_back (alternatives n inner cs) (closed n) t rest e in
          let second = then_back (byte n 41 (after_blanks first.1)) _ t rest first.3 in
          let close = byte_back n 41 (after_blanks first.1) second.1 second.2 in
          let same : first.0 ≡ t = grind (arith, second.3) in
          let ends : second.1 ≡ rest = grind (arith, second.3) in
          inr (inl (cs, first.1, ap (λ y. y ∷ cs) (is_bracket c b), subst (λ y. Alternatives Inner y cs first.1) same (alternatives_sound n inner Inner sound cs first.0 first.1 first.2), subst (λ y. Blanks first.1 y) (close ∙ ap (λ y. 41 ∷ y) ends) (blanks_of first.1)))
      by_begin plain b e = inr (inr (atom_sound n levels (c ∷ cs) t rest e))

pub negation_sound : (n levels : ℕ) (text : List ℕ) (t : CondTree) (rest : List ℕ) → negation n levels text ≡ read t rest → Negation n levels t text rest
unfolding negation Negation
negation_sound n zero text t rest h = (after_blanks text, blanks_of text, shallow_sound n (after_blanks text) t rest h)
negation_sound n (suc levels) text t rest h =
    (after_blanks text, blanks_of text, nested_sound n (suc levels) (negation n levels) (Negation n levels) (negation_sound n levels) (after_blanks text) t rest h)

-- space may follow a chain
blanks_joined : (text s rest : List ℕ) → Blanks text s → Blanks s rest → Blanks text rest
blanks_joined text s rest h k = by_list h.0 text h.1 h.2
  where
    by_list : (bs : List ℕ) (text : List ℕ) → AreBlanks bs → text ≡ bs ++ s → Blanks text rest
    by_list [] text b e = subst (λ y. Blanks y rest) (sym e) k
    by_list (c ∷ bs) text b e = let m = by_list bs (bs ++ s) b.1 refl in (c ∷ m.0, (b.0, m.1), e ∙ ap (λ y. c ∷ y) m.2)

chain_longer : (sign : ℕ) (make : Trees → CondTree) (Part : CondTree → List ℕ → List ℕ → Type 0) (t : CondTree) (text s rest : List ℕ) → Chain sign make Part t text s → Blanks s rest → Chain sign make Part t text rest
chain_longer sign make Part t text s rest h k = (h.0, h.1, h.2, blanks_joined h.1 s rest h.3 k, h.4)

ended_back : (n : ℕ) (u t : CondTree) (text : List ℕ) → ended n u text ≡ read t [] → (text ≡ []) × (u ≡ t)
ended_back n u t [] h = (refl, grind (arith, h))
ended_back n u t (c ∷ cs) h = absurd (grind (arith, h))

pub reading_sound : (text : List ℕ) (t : CondTree) → reading text ≡ read t [] → Spells text t
unfolding reading disjunction Spells
reading_sound text t h =
    let first = then_back (alternatives (length text) (negation (length text) 64) text) _ t [] h in
    let last = ended_back (length text) first.0 t (after_blanks first.1) first.3 in
    chain_longer 124 any (Chain 38 all (Negation (length text) 64)) t text first.1 []
    (subst (λ y. Alternatives (Negation (length text) 64) y text first.1) last.1 (alternatives_sound (length text) (negation (length text) 64) (Negation (length text) 64) (negation_sound (length text) 64) text first.0 first.1 first.2))
    (subst (λ y. Blanks first.1 y) last.0 (blanks_of first.1))

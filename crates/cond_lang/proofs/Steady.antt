-- Steady readers look one byte ahead, and stand stuck only where no text goes on as theirs does up to there; two of them in turn are one.
use Rattle.std.proofs.Common.{◌≡◌, ◌⊎◌, inl, inr, ℕ, List, [], ◌∷◌, ◌++◌, refl, sym, ◌∙◌, ap, subst, arith}
use Rattle.std.proofs.lemmas.List.{append_assoc}
use Rattle.cond_lang.specs.declared.error.CondError.{CondError}
use Rattle.cond_lang.specs.declared.error.CondError.TheVariants.{Bad}
use Rattle.cond_lang.specs.Found.{Found, read, fault, and_then, place, stuck}
use Rattle.cond_lang.specs.Signs.{after_blanks}
use Rattle.cond_lang.proofs.Steps.{then_read, then_fault}
use Rattle.cond_lang.proofs.Blanks.{then_back}

-- the first component is the length of the whole text
abbrev pub Reader : Type 0 → Type 0
Reader A = (ℕ × List ℕ) → List ℕ → Found A

-- a fault of this type
abbrev pub refused : (A : Type 0) → CondError → Found A
refused A e = fault e

pub bad_error : {A : Type 0} (e : CondError) (k : ℕ) → refused A e ≡ fault (Bad k) → e ≡ Bad k
bad_error e k h = grind (arith, h)

-- z begins with the first byte of r
abbrev pub SameHead : List ℕ → List ℕ → Type 0
SameHead [] z = ⊥
SameHead (c ∷ s) [] = ⊥
SameHead (c ∷ s) (d ∷ z) = c ≡ d

abbrev pub Next : (List ℕ → Type 0) → List ℕ → List ℕ → Type 0
Next S r z = S z ⊎ SameHead r z

-- no space comes first
abbrev pub Stays : List ℕ → Type 0
Stays z = after_blanks z ≡ z

pub same_prefix : (w : List ℕ) (c : ℕ) (s z : List ℕ) → SameHead (w ++ (c ∷ s)) (w ++ (c ∷ z))
same_prefix [] c s z = refl
same_prefix (b ∷ w) c s z = refl

pub next_wider : (S T : List ℕ → Type 0) (r z : List ℕ) → (S z → T z) → Next S r z → Next T r z
next_wider S T r z wide (inl h) = inl (wide h)
next_wider S T r z wide (inr h) = inr h

then_assoc : {A B C : Type 0} (x : Found A) (g : A → List ℕ → Found B) (k : B → List ℕ → Found C) → and_then (and_then x g) k ≡ and_then x (λ a r. and_then (g a r) k)
then_assoc (read a r) g k = refl
then_assoc (fault e) g k = refl

-- what a reader gives does not change with what stands behind the next byte
abbrev pub KeptAt : {A : Type 0} → Reader A → (List ℕ → Type 0) → List ℕ → A → List ℕ → Type 0
KeptAt f S u a r = (w : List ℕ) × (u ≡ w ++ r) × ((d : ℕ × List ℕ) (z : List ℕ) → Next S r z → f d (w ++ z) ≡ read a z)

-- nothing is read without a byte
abbrev pub Eats : {A : Type 0} → Reader A → Type 0
Eats {A} f = (e : ℕ × List ℕ) (u : List ℕ) (a : A) → f e u ≡ read a u → ⊥

-- one reader and then another
abbrev pub both : {A B : Type 0} → Reader A → (A → Reader B) → Reader B
both f g e u = and_then (f e u) (λ a r. g a e r)

-- behind space
abbrev pub past : {A : Type 0} → Reader A → Reader A
past f e u = f e (after_blanks u)

module _ {B : Type 0} (P : Found B → Type 0) (Spoils : ℕ → List ℕ → ℕ → Type 0) where
  -- for each value that may be read there is a text that may follow and with which all goes on
  abbrev pub Finish : {A : Type 0} → (A → Type 0) → (List ℕ → Type 0) → ((ℕ × List ℕ) → A → List ℕ → Found B) → Type 0
  Finish {A} Q S K = (a : A) → Q a → (z : List ℕ) × S z × ((e : ℕ × List ℕ) → P (K e a z))

  abbrev pub OpensTo : {A : Type 0} → Reader A → (A → Type 0) → (List ℕ → Type 0) → (List ℕ → Type 0) → Type 0
  OpensTo {A} f Q S T = (K : (ℕ × List ℕ) → A → List ℕ → Found B) → Finish Q S K → (z : List ℕ) × T z × ((e : ℕ × List ℕ) → P (and_then (f e z) (K e)))

  -- stuck at v, behind w
  abbrev pub Misfit : {A : Type 0} → Reader A → List ℕ → List ℕ → ℕ → ℕ → Type 0
  Misfit f w v n k = (k ≡ place n v) × ((c : ℕ) (s : List ℕ) → v ≡ c ∷ s → (d : ℕ × List ℕ) (z : List ℕ) → f d (w ++ (c ∷ z)) ≡ stuck d.0 (c ∷ z))

  abbrev pub OnwardFrom : {A : Type 0} → Reader A → (A → Type 0) → (List ℕ → Type 0) → (List ℕ → Type 0) → List ℕ → List ℕ → Type 0
  OnwardFrom {A} f Q S T u w =
      (K : (ℕ × List ℕ) → A → List ℕ → Found B) → Finish Q S K → (more : List ℕ) × Next T u (w ++ more) × ((d : ℕ × List ℕ) → P (and_then (f d (w ++ more)) (K d)))

  abbrev pub BarredAt : {A : Type 0} → Reader A → (A → Type 0) → (List ℕ → Type 0) → (List ℕ → Type 0) → ℕ → List ℕ → ℕ → Type 0
  BarredAt f Q S T n u k = (w v : List ℕ) × (u ≡ w ++ v) × (Misfit f w v n k ⊎ Spoils n v k) × OnwardFrom f Q S T u w

  pub record Steady {A : Type 0} (f : Reader A) (Q : A → Type 0) (S T : List ℕ → Type 0) : Type 0 where
    pub reads : (e : ℕ × List ℕ) (u : List ℕ) (a : A) (r : List ℕ) → f e u ≡ read a r → Q a
    pub kept : (e : ℕ × List ℕ) (u : List ℕ) (a : A) (r : List ℕ) → f e u ≡ read a r → KeptAt f S u a r
    pub barred : (e : ℕ × List ℕ) (u : List ℕ) (k : ℕ) → f e u ≡ fault (Bad k) → BarredAt f Q S T e.0 u k
    pub opens : OpensTo f Q S T

  pub opens_onward : {A : Type 0} (f : Reader A) (Q : A → Type 0) (S T : List ℕ → Type 0) (u : List ℕ) → OpensTo f Q S T → OnwardFrom f Q S T u []
  opens_onward f Q S T u opens K ends = let o = opens K ends in (o.0, inl o.1, o.2)

  -- stuck at once, where it can be opened
  pub barred_at_once : {A : Type 0} (f : Reader A) (Q : A → Type 0) (S T : List ℕ → Type 0) (n : ℕ) (u : List ℕ) (k : ℕ) → OpensTo f Q S T → k ≡ place n u
      → ((c : ℕ) (s : List ℕ) → u ≡ c ∷ s → (d : ℕ × List ℕ) (z : List ℕ) → f d (c ∷ z) ≡ stuck d.0 (c ∷ z)) → BarredAt f Q S T n u k
  barred_at_once f Q S T n u k opens e m = ([], u, refl, inl (e, m), opens_onward f Q S T u opens)

  -- ---- one reader and then another

  module _ {A C : Type 0} (f : Reader A) (g : A → Reader C) (Q : A → Type 0) (R : C → Type 0) (S T Trailing Leading : List ℕ → Type 0) (first : (z : List ℕ) → Leading z → S z) where
    pub both_kept : (u : List ℕ) (a : A) (r : List ℕ) (c : C) (q : List ℕ) → KeptAt f S u a r → KeptAt (g a) Trailing r c q
        → (r ≡ q → (z : List ℕ) → Trailing z → S z) → KeptAt (both f g) Trailing u c q
    both_kept u a r c q (w, eq, one) (v, eq2, two) quiet = (
      w ++ v,
      eq ∙ ap (λ y. w ++ y) eq2 ∙ sym (append_assoc w v q),
      λ d z next.
          ap (λ y. both f g d y) (append_assoc w v z)
          ∙ then_read (f d (w ++ (v ++ z))) _ a (v ++ z) (read c z) (one d (v ++ z) (between v eq2 z next)) (two d z next),
    )
      where
        between : (x : List ℕ) → r ≡ x ++ q → (z : List ℕ) → Next Trailing q z → Next S r (x ++ z)
        between [] e z (inl h) = inl (quiet e z h)
        between [] e z (inr h) = inr (subst (λ y. SameHead y z) (sym e) h)
        between (b ∷ x) e z h = inr (subst (λ y. SameHead y (b ∷ (x ++ z))) (sym e) refl)

    module _ (opening : (a : A) → Q a → OpensTo (g a) R Trailing Leading) where
      later : (K : (ℕ × List ℕ) → C → List ℕ → Found B) → Finish R Trailing K → Finish Q S (λ e a z. and_then (g a e z) (K e))
      later K ends a q = let o = opening a q K ends in (o.0, first o.0 o.1, o.2)

      pub both_opens : OpensTo f Q S T → OpensTo (both f g) R Trailing T
      both_opens opens K ends =
          let o = opens (λ e a z. and_then (g a e z) (K e)) (later K ends) in
          (o.0, o.1, λ e. subst P (sym (then_assoc (f e o.0) (λ a r. g a e r) (K e))) (o.2 e))

      pub both_left : (n : ℕ) (u : List ℕ) (k : ℕ) → BarredAt f Q S T n u k → BarredAt (both f g) R Trailing T n u k
      both_left n u k (w, v, eq, why, on) = (
        w,
        v,
        eq,
        cause why,
        λ K ends.
            let o = on (λ e a z. and_then (g a e z) (K e)) (later K ends) in
            (o.0, o.1, λ d. subst P (sym (then_assoc (f d (w ++ o.0)) (λ a r. g a d r) (K d))) (o.2 d)),
      )
        where
          cause : Misfit f w v n k ⊎ Spoils n v k → Misfit (both f g) w v n k ⊎ Spoils n v k
          cause (inl m) = inl (m.0, λ c s e d z. then_fault (f d (w ++ (c ∷ z))) _ (Bad (place d.0 (c ∷ z))) (m.1 c s e d z))
          cause (inr s) = inr s

    pub both_right : (n : ℕ) (u : List ℕ) (a : A) (r : List ℕ) (k : ℕ) → KeptAt f S u a r → BarredAt (g a) R Trailing Leading n r k → (u ≡ r → (z : List ℕ) → Leading z → T z) → BarredAt (both f g) R Trailing T n u k
    both_right n u a r k (w, eq, one) (x, v, eq2, why, on) early =
        (w ++ x, v, eq ∙ ap (λ y. w ++ y) eq2 ∙ sym (append_assoc w x v), cause why, onward)
      where
        cause : Misfit (g a) x v n k ⊎ Spoils n v k → Misfit (both f g) (w ++ x) v n k ⊎ Spoils n v k
        cause (inl m) = inl (
          m.0,
          λ c s e d z.
              ap (λ y. both f g d y) (append_assoc w x (c ∷ z))
              ∙ then_read (f d (w ++ (x ++ (c ∷ z)))) _ a (x ++ (c ∷ z)) _
              (one d (x ++ (c ∷ z)) (inr (subst (λ y. SameHead y (x ++ (c ∷ z))) (sym (eq2 ∙ ap (λ y. x ++ y) e)) (same_prefix x c s z)))) (m.1 c s e d z),
        )
        cause (inr s) = inr s

        begins : (y : List ℕ) → u ≡ y ++ r → (z : List ℕ) → Next Leading r z → Next T u (y ++ z)
        begins [] e z (inl h) = inl (early e z h)
        begins [] e z (inr h) = inr (subst (λ y. SameHead y z) (sym e) h)
        begins (b ∷ y) e z h = inr (subst (λ q. SameHead q (b ∷ (y ++ z))) (sym e) refl)

        onward : OnwardFrom (both f g) R Trailing T u (w ++ x)
        onward K ends =
            let o = on K ends in (
              o.0,
              subst (λ y. Next T u y) (sym (append_assoc w x o.0)) (begins w eq (x ++ o.0) o.1),
              λ d.
                  subst P (sym (ap (λ y. and_then (both f g d y) (K d)) (append_assoc w x o.0)
                  ∙ then_assoc (f d (w ++ (x ++ o.0))) (λ b r2. g b d r2) (K d)
                  ∙ then_read (f d (w ++ (x ++ o.0))) _ a (x ++ o.0) _ (one d (x ++ o.0) (next_wider Leading S r (x ++ o.0) (first (x ++ o.0)) o.1)) refl)) (o.2 d),
            )

  module _ {A C : Type 0} (f : Reader A) (g : A → Reader C) (Q : A → Type 0) (R : C → Type 0) (S T Trailing Leading : List ℕ → Type 0) (first : (z : List ℕ) → Leading z → S z)
      (one : Steady f Q S T) (two : (a : A) → Q a → Steady (g a) R Trailing Leading) (early : (e : ℕ × List ℕ) (u : List ℕ) (a : A) → f e u ≡ read a u → (z : List ℕ) → Leading z → T z) where
    both_barred : (e : ℕ × List ℕ) (u : List ℕ) (k : ℕ) (x : Found A) → f e u ≡ x → and_then x (λ a r. g a e r) ≡ fault (Bad k) → BarredAt (both f g) R Trailing T e.0 u k
    both_barred e u k (read a r) h i =
        both_right f g Q R S T Trailing Leading first e.0 u a r k (one.kept e u a r h) ((two a (one.reads e u a r h)).barred e r k i)
        (λ same. early e u a (subst (λ y. f e u ≡ read a y) (sym same) h))
    both_barred e u k (fault x) h i = both_left f g Q R S T Trailing Leading first (λ a q. (two a q).opens) e.0 u k (one.barred e u k (h ∙ ap fault (bad_error {A = C} x k i)))

  -- quiet and early: where one of the two reads nothing, what may follow the other may follow it
  pub both_steady : {A C : Type 0} {f : Reader A} {g : A → Reader C} {Q : A → Type 0} {R : C → Type 0} {S T Trailing Leading : List ℕ → Type 0}
      → Steady f Q S T → ((a : A) → Q a → Steady (g a) R Trailing Leading) → ((z : List ℕ) → Leading z → S z)
      → ((e : ℕ × List ℕ) (u : List ℕ) (a : A) (c : C) → g a e u ≡ read c u → (z : List ℕ) → Trailing z → S z)
      → ((e : ℕ × List ℕ) (u : List ℕ) (a : A) → f e u ≡ read a u → (z : List ℕ) → Leading z → T z)
      → Steady (both f g) R Trailing T
  both_steady {f = f} {g = g} {Q = Q} {R = R} {S = S} {T = T} {Trailing = Trailing} {Leading = Leading} one two first quiet early = record {
    reads = λ e u c q h. let b = then_back (f e u) (λ a r. g a e r) c q h in (two b.0 (one.reads e u b.0 b.1 b.2)).reads e b.1 c q b.3;
    kept = λ e u c q h. let b = then_back (f e u) (λ a r. g a e r) c q h in
        both_kept f g Q R S T Trailing Leading first u b.0 b.1 c q (one.kept e u b.0 b.1 b.2) ((two b.0 (one.reads e u b.0 b.1 b.2)).kept e b.1 c q b.3)
        (λ same. quiet e b.1 b.0 c (subst (λ y. g b.0 e b.1 ≡ read c y) (sym same) b.3));
    barred = λ e u k h. both_barred f g Q R S T Trailing Leading first one two early e u k (f e u) refl h;
    opens = both_opens f g Q R S T Trailing Leading first (λ a q. (two a q).opens) one.opens;
  }

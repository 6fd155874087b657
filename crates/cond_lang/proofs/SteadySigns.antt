-- One byte, what stands behind space, and a byte with a reader behind it are steady.
use Rattle.std.proofs.Common.{◌≡◌, ◌⊎◌, inl, inr, ℕ, suc, ◌≤◌, Bool, true, false, ◌==◌, if◌then◌else◌, List, [], ◌∷◌, ◌++◌, length, refl, sym, ◌∙◌, ap, subst, arith}
use Rattle.std.proofs.lemmas.List.{append_assoc, length-append}
use Rattle.cond_lang.specs.declared.error.CondError.TheVariants.{Bad}
use Rattle.cond_lang.specs.Found.{Found, read, fault, and_then, stuck, byte}
use Rattle.cond_lang.specs.Signs.{is_blank, after_blanks}
use Rattle.cond_lang.specs.Trees.{CondTree}
use Rattle.cond_lang.specs.Atoms.{AreBlanks, Blanks}
use Rattle.cond_lang.specs.Conditions.{closed}
use Rattle.cond_lang.proofs.Steps.{then_read}
use Rattle.cond_lang.proofs.Blanks.{blanks_of, byte_back, skipped}
use Rattle.cond_lang.proofs.Links.{blanks_shorter}
use Rattle.cond_lang.proofs.Follows.{Anything, Begins, Closes}
use Rattle.cond_lang.proofs.Steady.{Reader, SameHead, Next, Stays, KeptAt, Eats, both, past, same_prefix, OpensTo, Misfit, OnwardFrom, BarredAt, Steady, barred_at_once}
use Rattle.cond_lang.proofs.SteadyForms.{no_fault, stuck_place, Eating, both_eating, map_eating, pure_steady, Chosen, chosen_as}

-- ---- one byte

abbrev pub sign : ℕ → Reader (Unit {0})
sign b e u = byte e.0 b u

pub byte_same : (n b : ℕ) (v : List ℕ) → byte n b (b ∷ v) ≡ read tt v
byte_same n b v = by_test (b == b) refl
  where
    by_test : (t : Bool) → (b == b) ≡ t → byte n b (b ∷ v) ≡ read tt v
    by_test true e = grind (arith, e)
    by_test false e = absurd (grind (arith, e))

byte_other : (n b c : ℕ) (v : List ℕ) → (c == b) ≡ false → byte n b (c ∷ v) ≡ stuck n (c ∷ v)
byte_other n b c v e = ap (λ t. if t then read tt v else stuck n (c ∷ v)) e

pub longer_than : (c : ℕ) (u : List ℕ) → u ≡ c ∷ u → ⊥
longer_than c u e = let k : length u ≡ suc (length u) = ap length e in omega (arith, k)

byte_eats : (b : ℕ) → Eats (sign b)
byte_eats b e u a h = longer_than b u (byte_back e.0 b u u h)

-- ---- space

after_blanks_stay : (u : List ℕ) → Stays (after_blanks u)
after_blanks_stay u = sym (skipped u (after_blanks u) (blanks_of u))

solid_head : (c : ℕ) (s : List ℕ) → Stays (c ∷ s) → is_blank c ≡ false
solid_head c s h = by_test (is_blank c) refl
  where
    by_test : (t : Bool) → is_blank c ≡ t → is_blank c ≡ false
    by_test true e =
        let same : after_blanks s ≡ c ∷ s = sym (ap (λ t. if t then after_blanks s else (c ∷ s)) e) ∙ h in
        let k : length (after_blanks s) ≡ suc (length s) = ap length same in
        let m = blanks_shorter s in absurd (omega (arith, k, m))
    by_test false e = e

solid_stays : (c : ℕ) (s : List ℕ) → is_blank c ≡ false → Stays (c ∷ s)
solid_stays c s e = ap (λ t. if t then after_blanks s else (c ∷ s)) e

head_stays : (r z : List ℕ) → Stays r → SameHead r z → Stays z
head_stays [] z h same = absurd same
head_stays (c ∷ s) [] h same = absurd same
head_stays (c ∷ s) (d ∷ z) h same = solid_stays d z (subst (λ y. is_blank y ≡ false) same (solid_head c s h))

-- behind space w z is read as it is
past_blanks : (bs w z : List ℕ) → AreBlanks bs → Stays (w ++ z) → after_blanks ((bs ++ w) ++ z) ≡ w ++ z
past_blanks bs w z blank h = skipped ((bs ++ w) ++ z) (w ++ z) (bs, blank, append_assoc bs w z) ∙ h

prefix_stays : (w r z : List ℕ) → Stays (w ++ r) → (w ≡ [] → Stays z) → Stays (w ++ z)
prefix_stays [] r z h none = none refl
prefix_stays (c ∷ w) r z h none = head_stays (c ∷ (w ++ r)) (c ∷ (w ++ z)) h refl

pub begins_stays : (b : ℕ) → is_blank b ≡ false → (z : List ℕ) → Begins b z → Stays z
begins_stays b solid z h = ap after_blanks h.1 ∙ solid_stays b h.0 solid ∙ sym h.1

pub closes_stays : (z : List ℕ) → Closes z → Stays z
closes_stays [] h = refl
closes_stays (c ∷ cs) h = solid_stays c cs (ap is_blank h)

-- a byte and then a value
abbrev pub sign_for : {A : Type 0} → ℕ → A → Reader A
sign_for b a = both (sign b) (λ _ e u. read a u)

-- behind a tree: the closing bracket
abbrev pub closing : CondTree → Reader CondTree
closing t e u = closed e.0 t u

module _ {B : Type 0} (P : Found B → Type 0) (Spoils : ℕ → List ℕ → ℕ → Type 0) where
  byte_steady : (b : ℕ) → Steady P Spoils (sign b) Anything Anything (Begins b)
  byte_steady b = record {
    reads = λ e u a r h. tt;
    kept = λ e u a r h. (b ∷ [], byte_back e.0 b u r h, λ d z next. byte_same d.0 b z);
    barred = barred;
    opens = opens;
  }
    where
      opens : OpensTo P Spoils (sign b) Anything Anything (Begins b)
      opens K ends = let o = ends tt tt in (b ∷ o.0, (o.0, refl), λ e. subst P (sym (then_read (byte e.0 b (b ∷ o.0)) (K e) tt o.0 _ (byte_same e.0 b o.0) refl)) (o.2 e))

      barred : (e : ℕ × List ℕ) (u : List ℕ) (k : ℕ) → sign b e u ≡ fault (Bad k) → BarredAt P Spoils (sign b) Anything Anything (Begins b) e.0 u k
      barred e [] k h = barred_at_once P Spoils (sign b) Anything Anything (Begins b) e.0 [] k opens (stuck_place {A = Unit {0}} e.0 k [] h) (λ c s no d z. absurd (grind (arith, no)))
      barred e (c ∷ cs) k h = by_test (c == b) refl
        where
          by_test : (t : Bool) → (c == b) ≡ t → BarredAt P Spoils (sign b) Anything Anything (Begins b) e.0 (c ∷ cs) k
          by_test true t = no_fault (Bad k) tt cs (sym (ap (λ y. if y then read tt cs else stuck e.0 (c ∷ cs)) t) ∙ h)
          by_test false t =
              barred_at_once P Spoils (sign b) Anything Anything (Begins b) e.0 (c ∷ cs) k opens (stuck_place {A = Unit {0}} e.0 k (c ∷ cs) (sym (byte_other e.0 b c cs t) ∙ h))
              (λ c2 s eq d z. let same : c ≡ c2 = grind (arith, eq) in byte_other d.0 b c2 z (subst (λ y. (y == b) ≡ false) same t))

  module _ {A : Type 0} (f : Reader A) (Q : A → Type 0) (S T : List ℕ → Type 0) where
    pub past_kept : (u : List ℕ) (a : A) (r : List ℕ) → KeptAt f S (after_blanks u) a r → (after_blanks u ≡ r → (z : List ℕ) → S z → Stays z) → KeptAt (past f) S u a r
    past_kept u a r (w, eq, keep) quiet =
        let b = blanks_of u in
        (b.0 ++ w, b.2 ∙ ap (λ y. b.0 ++ y) eq ∙ sym (append_assoc b.0 w r), λ d z next. ap (f d) (past_blanks b.0 w z b.1 (begins z next)) ∙ keep d z next)
      where
        behind : (w z : List ℕ) → after_blanks u ≡ w ++ r → Next S r z → w ≡ [] → Stays z
        behind w z eq (inl h) none = quiet (eq ∙ ap (λ y. y ++ r) none) z h
        behind w z eq (inr h) none = head_stays r z (subst Stays (eq ∙ ap (λ y. y ++ r) none) (after_blanks_stay u)) h

        begins : (z : List ℕ) → Next S r z → Stays (w ++ z)
        begins z next = prefix_stays w r z (subst Stays eq (after_blanks_stay u)) (behind w z eq next)

    module _ (staying : (z : List ℕ) → T z → Stays z) where
      next_stays : (r z : List ℕ) → Stays r → Next T r z → Stays z
      next_stays r z h (inl t) = staying z t
      next_stays r z h (inr s) = head_stays r z h s

      pub past_opens : OpensTo P Spoils f Q S T → OpensTo P Spoils (past f) Q S T
      past_opens opens K ends = let o = opens K ends in (o.0, o.1, λ e. subst (λ y. P (and_then (f e y) (K e))) (sym (staying o.0 o.1)) (o.2 e))

      pub past_barred : (n : ℕ) (u : List ℕ) (k : ℕ) → BarredAt P Spoils f Q S T n (after_blanks u) k → BarredAt P Spoils (past f) Q S T n u k
      past_barred n u k (w, v, eq, why, on) =
          (b.0 ++ w, v, b.2 ∙ ap (λ y. b.0 ++ y) eq ∙ sym (append_assoc b.0 w v), cause why, onward)
        where
          b : Blanks u (after_blanks u)
          b = blanks_of u

          cause : Misfit P Spoils f w v n k ⊎ Spoils n v k → Misfit P Spoils (past f) (b.0 ++ w) v n k ⊎ Spoils n v k
          cause (inl m) = inl (
            m.0,
            λ c s e d z.
                ap (f d) (past_blanks b.0 w (c ∷ z) b.1 (head_stays (w ++ (c ∷ s)) (w ++ (c ∷ z)) (subst Stays (eq ∙ ap (λ y. w ++ y) e) (after_blanks_stay u)) (same_prefix w c s z)))
                ∙ m.1 c s e d z,
          )
          cause (inr s) = inr s

          begins : (bs : List ℕ) → u ≡ bs ++ after_blanks u → (z : List ℕ) → Next T (after_blanks u) z → Next T u (bs ++ z)
          begins [] e z h = subst (λ y. Next T y z) (sym e) h
          begins (c ∷ bs) e z h = inr (subst (λ y. SameHead y (c ∷ (bs ++ z))) (sym e) refl)

          onward : OnwardFrom P Spoils (past f) Q S T u (b.0 ++ w)
          onward K ends =
              let o = on K ends in (
                o.0,
                subst (λ y. Next T u y) (sym (append_assoc b.0 w o.0)) (begins b.0 b.2 (w ++ o.0) o.1),
                λ d. subst (λ y. P (and_then (f d y) (K d))) (sym (past_blanks b.0 w o.0 b.1 (next_stays (after_blanks u) (w ++ o.0) (after_blanks_stay u) o.1))) (o.2 d),
              )

    past_eats : Steady P Spoils f Q S T → Eats f → Eats (past f)
    past_eats one eats e u a h =
        let k = one.kept e (after_blanks u) a u h in
        let l : length (after_blanks u) ≡ length (k.0 ++ u) = ap length k.1 in
        let m = length-append k.0 u in
        by_blanks (let g = blanks_of u in g.0) (let g = blanks_of u in g.2) (omega (arith, l, m))
      where
        by_blanks : (bs : List ℕ) → u ≡ bs ++ after_blanks u → length u ≤ length (after_blanks u) → ⊥
        by_blanks [] same short = eats e u a (ap (f e) same ∙ h)
        by_blanks (c ∷ bs) same short =
            let l : length u ≡ suc (length (bs ++ after_blanks u)) = ap length same in
            let m = length-append bs (after_blanks u) in omega (arith, l, m, short)

  -- what may stand behind a reader that reads nothing begins with no space
  pub past_steady : {A : Type 0} {f : Reader A} {Q : A → Type 0} {S T : List ℕ → Type 0} → ((z : List ℕ) → T z → Stays z)
      → ((e : ℕ × List ℕ) (u : List ℕ) (a : A) → f e u ≡ read a u → (z : List ℕ) → S z → Stays z) → Steady P Spoils f Q S T → Steady P Spoils (past f) Q S T
  past_steady {f = f} {Q = Q} {S = S} {T = T} staying quiet one = record {
    reads = λ e u a r h. one.reads e (after_blanks u) a r h;
    kept = λ e u a r h. past_kept f Q S T u a r (one.kept e (after_blanks u) a r h) (λ same. quiet e (after_blanks u) a (h ∙ ap (read a) (sym same)));
    barred = λ e u k h. past_barred f Q S T staying e.0 u k (one.barred e (after_blanks u) k h);
    opens = past_opens f Q S T staying one.opens;
  }

  pub past_eating : {A : Type 0} {f : Reader A} {Q : A → Type 0} {S T : List ℕ → Type 0} → ((z : List ℕ) → T z → Stays z) → Eating P Spoils f Q S T → Eating P Spoils (past f) Q S T
  past_eating {f = f} {Q = Q} {S = S} {T = T} staying one = record {
    steady = past_steady staying (λ e u a same. absurd (one.eats e u a same)) one.steady;
    eats = past_eats f Q S T one.steady one.eats;
  }

  -- ---- signs

  pub sign_eating : (b : ℕ) → Eating P Spoils (sign b) Anything Anything (Begins b)
  sign_eating b = record { steady = byte_steady b; eats = byte_eats b }

  pub sign_for_eating : {A : Type 0} (b : ℕ) (a : A) → Eating P Spoils (sign_for b a) Anything Anything (Begins b)
  sign_for_eating b a = map_eating P Spoils (λ _. a) (sign_eating b) (λ _ _. tt)

  pub closing_eating : (t : CondTree) → Eating P Spoils (closing t) Anything Anything (Begins 41)
  closing_eating t = both_eating P Spoils (past_eating (begins_stays 41 refl) (sign_eating 41)) (λ _ q. pure_steady P Spoils tt) (λ z h. h) (λ z h. h)

  -- a sign, and what stands behind it
  pub chosen_behind : {A : Type 0} {F : Reader A} {g : Reader A} {Q : A → Type 0} {S Trailing T : List ℕ → Type 0} {c : ℕ} (b : ℕ) → (c == b) ≡ true → Steady P Spoils g Q S T → ((z : List ℕ) → Trailing z → S z)
      → ((e : ℕ × List ℕ) (cs : List ℕ) → F e (c ∷ cs) ≡ g e cs) → Chosen P Spoils F Q Trailing c
  chosen_behind {F = F} {g = g} {c = c} b here one less same =
      chosen_as P Spoils (both_eating P Spoils (sign_eating b) (λ _ q. one) (λ z t. tt) (λ z s. tt)) less
      (λ e cs. same e cs ∙ sym (ap (λ x. and_then (if x then read tt cs else stuck e.0 (c ∷ cs)) (λ _ r. g e r)) here))

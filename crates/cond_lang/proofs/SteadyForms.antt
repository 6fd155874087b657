-- Steady readers made of others: with other texts behind them, with another value, one and then another, by the first byte, or alike.
use Rattle.std.proofs.Common.{◌≡◌, ◌⊎◌, inl, inr, ℕ, suc, Bool, true, false, if◌then◌else◌, List, [], ◌∷◌, ◌++◌, length, refl, sym, ◌∙◌, ap, subst, arith}
use Rattle.std.proofs.lemmas.List.{length-append}
use Rattle.cond_lang.specs.declared.error.CondError.{CondError}
use Rattle.cond_lang.specs.declared.error.CondError.TheVariants.{Bad}
use Rattle.cond_lang.specs.Found.{Found, read, fault, and_then, place, stuck}
use Rattle.cond_lang.proofs.Blanks.{then_back}
use Rattle.cond_lang.proofs.Follows.{Anything}
use Rattle.cond_lang.proofs.Steady.{Reader, SameHead, Next, KeptAt, Eats, OpensTo, Misfit, OnwardFrom, BarredAt, Steady}
use Rattle.cond_lang.proofs.Steady.{refused, bad_error, next_wider, same_prefix, both, opens_onward, barred_at_once, both_steady}

-- ---- what was read or refused

pub not_read : {A : Type 0} {Z : Type 0} (e : CondError) (a : A) (r : List ℕ) → fault e ≡ read a r → Z
not_read e a r h = absurd (grind (arith, h))

pub no_fault : {A : Type 0} {Z : Type 0} (e : CondError) (a : A) (r : List ℕ) → read a r ≡ fault e → Z
no_fault e a r h = absurd (grind (arith, h))

pub read_rest : {A : Type 0} (a b : A) (r q : List ℕ) → read a r ≡ read b q → r ≡ q
read_rest a b r q h = grind (arith, h)

pub read_value : {A : Type 0} (a b : A) (r q : List ℕ) → read a r ≡ read b q → a ≡ b
read_value a b r q h = grind (arith, h)

pub stuck_place : {A : Type 0} (n k : ℕ) (v : List ℕ) → stuck {A = A} n v ≡ fault (Bad k) → k ≡ place n v
stuck_place n k v h = grind (arith, h)

-- ---- a byte that passes a test, and the others

-- where the first byte passes the test, the one behind it; else the other
abbrev pub turn : {A : Type 0} → (ℕ → Bool) → Reader A → Reader A → Reader A
turn test g h e [] = h e []
turn test g h e (c ∷ cs) = if test c then g e cs else h e (c ∷ cs)

-- no byte comes first that passes
abbrev pub Other : (ℕ → Bool) → List ℕ → Type 0
Other test [] = Unit {0}
Other test (c ∷ cs) = test c ≡ false

abbrev Passing : (ℕ → Bool) → List ℕ → Type 0
Passing test u = (c : ℕ) × (cs : List ℕ) × (u ≡ c ∷ cs) × (test c ≡ true)

other_or_passing : (test : ℕ → Bool) (u : List ℕ) → Other test u ⊎ Passing test u
other_or_passing test [] = inl tt
other_or_passing test (c ∷ cs) = by_test (test c) refl
  where
    by_test : (b : Bool) → test c ≡ b → Other test (c ∷ cs) ⊎ Passing test (c ∷ cs)
    by_test true e = inr (c, cs, refl, e)
    by_test false e = inl e

other_same : (test : ℕ → Bool) (r z : List ℕ) → SameHead r z → Other test r → Other test z
other_same test [] z same o = absurd same
other_same test (c ∷ s) [] same o = absurd same
other_same test (c ∷ s) (d ∷ z) same o = subst (λ y. test y ≡ false) same o

pub other_next : (test : ℕ → Bool) (S : List ℕ → Type 0) (r z : List ℕ) → (S z → Other test z) → Other test r → Next S r z → Other test z
other_next test S r z wide o (inl h) = wide h
other_next test S r z wide o (inr h) = other_same test r z h o

module _ {A : Type 0} (test : ℕ → Bool) (g h : Reader A) where
  turn_other : (e : ℕ × List ℕ) (u : List ℕ) → Other test u → turn test g h e u ≡ h e u
  turn_other e [] o = refl
  turn_other e (c ∷ cs) o = ap (λ b. if b then g e cs else h e (c ∷ cs)) o

  turn_this : (e : ℕ × List ℕ) (c : ℕ) (cs : List ℕ) → test c ≡ true → turn test g h e (c ∷ cs) ≡ g e cs
  turn_this e c cs o = ap (λ b. if b then g e cs else h e (c ∷ cs)) o

-- a byte and then another reader
abbrev Behind : {A : Type 0} → Reader A → ℕ → Reader A → Type 0
Behind f c g = (d : ℕ × List ℕ) (y : List ℕ) → f d (c ∷ y) ≡ g d y

cons_kept : {A : Type 0} (f g : Reader A) (S : List ℕ → Type 0) (c : ℕ) (cs : List ℕ) (a : A) (r : List ℕ) → Behind f c g → KeptAt g S cs a r → KeptAt f S (c ∷ cs) a r
cons_kept f g S c cs a r same k = (c ∷ k.0, ap (λ y. c ∷ y) k.1, λ d z next. same d (k.0 ++ z) ∙ k.2 d z next)

-- ---- alike but for faults that are excused

abbrev pub Lost : {A : Type 0} → (CondError → Type 0) → Found A → Type 0
Lost Excused x = (e : CondError) × (x ≡ fault e) × Excused e

abbrev pub Alike : {A : Type 0} → (CondError → Type 0) → Found A → Found A → Type 0
Alike Excused x y = (x ≡ y) ⊎ (Lost Excused x × Lost Excused y)

alike_back : {A : Type 0} (Excused : CondError → Type 0) (x y : Found A) → Alike Excused x y → Alike Excused y x
alike_back Excused x y (inl e) = inl (sym e)
alike_back Excused x y (inr (a, b)) = inr (b, a)

alike_read : {A : Type 0} (Excused : CondError → Type 0) (x y : Found A) (a : A) (r : List ℕ) → Alike Excused x y → x ≡ read a r → y ≡ read a r
alike_read Excused x y a r (inl e) h = sym e ∙ h
alike_read Excused x y a r (inr ((e, same, _), _)) h = not_read e a r (sym same ∙ h)

alike_bad : {A : Type 0} (Excused : CondError → Type 0) (never : (k : ℕ) → Excused (Bad k) → ⊥) (x y : Found A) (k : ℕ) → Alike Excused x y → x ≡ fault (Bad k) → y ≡ fault (Bad k)
alike_bad Excused never x y k (inl e) h = sym e ∙ h
alike_bad {A = A} Excused never x y k (inr ((e, same, why), _)) h = absurd (never k (subst Excused (bad_error {A = A} e k (sym same ∙ h)) why))

pub then_alike : {A C : Type 0} (Excused : CondError → Type 0) (x : Found A) (g h : A → List ℕ → Found C) → ((a : A) (r : List ℕ) → Alike Excused (g a r) (h a r))
    → Alike Excused (and_then x g) (and_then x h)
then_alike Excused (read a r) g h each = each a r
then_alike Excused (fault e) g h each = inl refl

module _ {B : Type 0} (P : Found B → Type 0) (Spoils : ℕ → List ℕ → ℕ → Type 0) where
  -- steady, and nothing is read without a byte
  pub record Eating {A : Type 0} (f : Reader A) (Q : A → Type 0) (S T : List ℕ → Type 0) : Type 0 where
    pub steady : Steady P Spoils f Q S T
    pub eats : Eats f

  -- other texts may follow, and the completion may begin otherwise
  pub wider : {A : Type 0} {f : Reader A} {Q : A → Type 0} {S Trailing T Leading : List ℕ → Type 0}
      → ((z : List ℕ) → Trailing z → S z) → ((z : List ℕ) → T z → Leading z) → Steady P Spoils f Q S T → Steady P Spoils f Q Trailing Leading
  wider {S = S} {Trailing = Trailing} {T = T} {Leading = Leading} less more h = record {
    reads = h.reads;
    kept = λ e u a r eq. let k = h.kept e u a r eq in (k.0, k.1, λ d z next. k.2 d z (next_wider Trailing S r z (less z) next));
    barred = λ e u k eq. let b = h.barred e u k eq in (
      b.0,
      b.1,
      b.2,
      b.3,
      λ K ends.
          let o = b.4 K (λ a q. let z = ends a q in (z.0, less z.0 z.1, z.2)) in (o.0, next_wider T Leading u (b.0 ++ o.0) (more (b.0 ++ o.0)) o.1, o.2),
    );
    opens = λ K ends. let o = h.opens K (λ a q. let z = ends a q in (z.0, less z.0 z.1, z.2)) in (o.0, more o.0 o.1, o.2);
  }

  wider_eating : {A : Type 0} {f : Reader A} {Q : A → Type 0} {S Trailing T Leading : List ℕ → Type 0}
      → ((z : List ℕ) → Trailing z → S z) → ((z : List ℕ) → T z → Leading z) → Eating f Q S T → Eating f Q Trailing Leading
  wider_eating less more one = record { steady = wider less more one.steady; eats = one.eats }

  -- nothing is read
  pub pure_steady : {A : Type 0} {a : A} {Q : A → Type 0} {S : List ℕ → Type 0} → Q a → Steady P Spoils (λ e u. read a u) Q S S
  pure_steady {a = a} {Q = Q} q = record {
    reads = λ e u b r h. subst Q (read_value a b u r h) q;
    kept = λ e u b r h. ([], read_rest a b u r h, λ d z next. ap (λ y. read y z) (read_value a b u r h));
    barred = λ e u k h. no_fault (Bad k) a u h;
    opens = λ K ends. let z = ends a q in (z.0, z.1, z.2);
  }

  -- a refusal that is taken as it comes
  pub refused_eating : {A : Type 0} {Q : A → Type 0} {S T : List ℕ → Type 0} (why : ℕ → CondError) (at : (ℕ × List ℕ) → List ℕ → ℕ)
      → ((at k : ℕ) → why at ≡ Bad k → ⊥) → ((at : ℕ) → P (fault (why at))) → (z : List ℕ) → T z → Eating (λ e u. refused A (why (at e u))) Q S T
  refused_eating why at other passes z begins = record {
    steady = record {
      reads = λ e u a r h. not_read (why (at e u)) a r h;
      kept = λ e u a r h. not_read (why (at e u)) a r h;
      barred = λ e u k h. absurd (other (at e u) k (grind (arith, h)));
      opens = λ K ends. (z, begins, λ e. passes (at e z));
    };
    eats = λ e u a h. not_read (why (at e u)) a u h;
  }

  -- ---- one reader and then another, where the first takes a byte at least

  both_eats : {A C : Type 0} {f : Reader A} {g : A → Reader C} {Q : A → Type 0} {R : C → Type 0} {S T Trailing Leading : List ℕ → Type 0}
      → Eating f Q S T → ((a : A) → Q a → Steady P Spoils (g a) R Trailing Leading) → Eats (both f g)
  both_eats {A = A} {f = f} {g = g} one two e u c h =
      let b = then_back (f e u) (λ a r. g a e r) c u h in
      let k = one.steady.kept e u b.0 b.1 b.2 in
      let m = (two b.0 (one.steady.reads e u b.0 b.1 b.2)).kept e b.1 c u b.3 in
      by k.0 b.1 b.0 m.0 k.1 b.2 m.1
    where
      by : (w r : List ℕ) (a : A) (x : List ℕ) → u ≡ w ++ r → f e u ≡ read a r → r ≡ x ++ u → ⊥
      by [] r a x same found again = one.eats e u a (found ∙ ap (read a) (sym same))
      by (d ∷ w) r a x same found again =
          let i : length u ≡ suc (length (w ++ r)) = ap length same in
          let j = length-append w r in
          let k : length r ≡ length (x ++ u) = ap length again in
          let l = length-append x u in omega (arith, i, j, k, l)

  pub both_eating : {A C : Type 0} {f : Reader A} {g : A → Reader C} {Q : A → Type 0} {R : C → Type 0} {S T Trailing Leading : List ℕ → Type 0}
      → Eating f Q S T → ((a : A) → Q a → Steady P Spoils (g a) R Trailing Leading) → ((z : List ℕ) → Leading z → S z) → ((z : List ℕ) → Trailing z → S z) → Eating (both f g) R Trailing T
  both_eating one two first quiet = record {
    steady = both_steady P Spoils one.steady two first (λ e u a c same. quiet) (λ e u a same. absurd (one.eats e u a same));
    eats = both_eats one two;
  }

  -- where the second takes a byte too
  pub each_eating : {A C : Type 0} {f : Reader A} {g : A → Reader C} {R : C → Type 0} {S T Trailing Leading : List ℕ → Type 0}
      → Eating f Anything S T → ((a : A) → Eating (g a) R Trailing Leading) → ((z : List ℕ) → Leading z → S z) → Eating (both f g) R Trailing T
  each_eating one two first = record {
    steady = both_steady P Spoils one.steady (λ a q. (two a).steady) first (λ e u a c same. absurd ((two a).eats e u c same)) (λ e u a same. absurd (one.eats e u a same));
    eats = both_eats one (λ a q. (two a).steady);
  }

  -- the same with another value
  pub map_eating : {A C : Type 0} {f : Reader A} {Q : A → Type 0} {R : C → Type 0} {S T : List ℕ → Type 0} (g : A → C)
      → Eating f Q S T → ((a : A) → Q a → R (g a)) → Eating (both f (λ a e u. read (g a) u)) R S T
  map_eating g one fits = both_eating one (λ a q. pure_steady (fits a q)) (λ z s. s) (λ z s. s)

  -- ---- by the first byte

  pub record Chosen {A : Type 0} (F : Reader A) (Q : A → Type 0) (S : List ℕ → Type 0) (c : ℕ) : Type 0 where
    pub chosen : Reader A
    pub taken : Eating chosen Q S Anything
    pub same : (e : ℕ × List ℕ) (cs : List ℕ) → F e (c ∷ cs) ≡ chosen e (c ∷ cs)

  pub chosen_as : {A : Type 0} {F G : Reader A} {Q : A → Type 0} {S Trailing T : List ℕ → Type 0} {c : ℕ} → Eating G Q S T → ((z : List ℕ) → Trailing z → S z)
      → ((e : ℕ × List ℕ) (cs : List ℕ) → F e (c ∷ cs) ≡ G e (c ∷ cs)) → Chosen F Q Trailing c
  chosen_as {G = G} one less same = record { chosen = G; taken = wider_eating less (λ z t. tt) one; same = same }

  abbrev pub StuckWith : {A : Type 0} → Reader A → ℕ → Type 0
  StuckWith F c = (e : ℕ × List ℕ) (cs : List ℕ) → F e (c ∷ cs) ≡ stuck e.0 (c ∷ cs)

  module _ {A : Type 0} (F : Reader A) (Q : A → Type 0) (S T : List ℕ → Type 0) (none : (e : ℕ × List ℕ) → F e [] ≡ stuck e.0 [])
      (choice : (c : ℕ) → Chosen F Q S c ⊎ StuckWith F c) (opens : OpensTo P Spoils F Q S T) where
    reads_by : (c : ℕ) → Chosen F Q S c ⊎ StuckWith F c → (e : ℕ × List ℕ) (cs : List ℕ) (a : A) (r : List ℕ) → F e (c ∷ cs) ≡ read a r → Q a
    reads_by c (inl h) e cs a r eq = h.taken.steady.reads e (c ∷ cs) a r (sym (h.same e cs) ∙ eq)
    reads_by c (inr h) e cs a r eq = not_read (Bad (place e.0 (c ∷ cs))) a r (sym (h e cs) ∙ eq)

    kept_by : (c : ℕ) → Chosen F Q S c ⊎ StuckWith F c → (e : ℕ × List ℕ) (cs : List ℕ) (a : A) (r : List ℕ) → F e (c ∷ cs) ≡ read a r → KeptAt F S (c ∷ cs) a r
    kept_by c (inr h) e cs a r eq = not_read (Bad (place e.0 (c ∷ cs))) a r (sym (h e cs) ∙ eq)
    kept_by c (inl h) e cs a r eq = by_prefix k.0 k.1 k.2
      where
        found : h.chosen e (c ∷ cs) ≡ read a r
        found = sym (h.same e cs) ∙ eq

        k : KeptAt h.chosen S (c ∷ cs) a r
        k = h.taken.steady.kept e (c ∷ cs) a r found

        by_prefix : (w : List ℕ) → c ∷ cs ≡ w ++ r → ((d : ℕ × List ℕ) (z : List ℕ) → Next S r z → h.chosen d (w ++ z) ≡ read a z) → KeptAt F S (c ∷ cs) a r
        by_prefix [] same one = absurd (h.taken.eats e (c ∷ cs) a (subst (λ y. h.chosen e (c ∷ cs) ≡ read a y) (sym same) found))
        by_prefix (b ∷ w) same one =
            let first : c ≡ b = grind (arith, same) in
            (b ∷ w, same, λ d z next. ap (λ y. F d (y ∷ (w ++ z))) (sym first) ∙ h.same d (w ++ z) ∙ ap (λ y. h.chosen d (y ∷ (w ++ z))) first ∙ one d z next)

    barred_by : (c : ℕ) → Chosen F Q S c ⊎ StuckWith F c → (e : ℕ × List ℕ) (cs : List ℕ) (k : ℕ) → F e (c ∷ cs) ≡ fault (Bad k) → BarredAt P Spoils F Q S T e.0 (c ∷ cs) k
    barred_by c (inr h) e cs k eq =
        barred_at_once P Spoils F Q S T e.0 (c ∷ cs) k opens (stuck_place {A = A} e.0 k (c ∷ cs) (sym (h e cs) ∙ eq))
        (λ b s same d z. let first : c ≡ b = grind (arith, same) in subst (λ y. F d (y ∷ z) ≡ stuck d.0 (y ∷ z)) first (h d z))
    barred_by c (inl h) e cs k eq = by_prefix b.0 b.1 b.2 b.3 b.4
      where
        b : BarredAt P Spoils h.chosen Q S Anything e.0 (c ∷ cs) k
        b = h.taken.steady.barred e (c ∷ cs) k (sym (h.same e cs) ∙ eq)

        by_prefix : (w v : List ℕ) → c ∷ cs ≡ w ++ v → Misfit P Spoils h.chosen w v e.0 k ⊎ Spoils e.0 v k → OnwardFrom P Spoils h.chosen Q S Anything (c ∷ cs) w
            → BarredAt P Spoils F Q S T e.0 (c ∷ cs) k
        by_prefix [] v same (inr s) on = ([], v, same, inr s, opens_onward P Spoils F Q S T (c ∷ cs) opens)
        by_prefix [] v same (inl m) on =
            subst (λ q. BarredAt P Spoils F Q S T e.0 q k) (sym same)
            (barred_at_once P Spoils F Q S T e.0 v k opens m.0
            (λ y s eq2 d z. let first : c ≡ y = grind (arith, same, eq2) in subst (λ x. F d (x ∷ z) ≡ h.chosen d (x ∷ z)) first (h.same d z) ∙ m.1 y s eq2 d z))
        by_prefix (x ∷ w) v same why on = (
          x ∷ w,
          v,
          same,
          cause why,
          λ K ends.
              let o = on K ends in (o.0, inr first, λ d. subst (λ y. P (and_then y (K d))) (sym (moved d (w ++ o.0))) (o.2 d)),
        )
          where
            first : c ≡ x
            first = grind (arith, same)

            moved : (d : ℕ × List ℕ) (z : List ℕ) → F d (x ∷ z) ≡ h.chosen d (x ∷ z)
            moved d z = subst (λ y. F d (y ∷ z) ≡ h.chosen d (y ∷ z)) first (h.same d z)

            cause : Misfit P Spoils h.chosen (x ∷ w) v e.0 k ⊎ Spoils e.0 v k → Misfit P Spoils F (x ∷ w) v e.0 k ⊎ Spoils e.0 v k
            cause (inr s) = inr s
            cause (inl m) = inl (m.0, λ y s eq2 d z. moved d (w ++ (y ∷ z)) ∙ m.1 y s eq2 d z)

    choice_steady : Steady P Spoils F Q S T
    choice_steady = record { reads = reads_at; kept = kept_at; barred = barred_at; opens = opens }
      where
        reads_at : (e : ℕ × List ℕ) (u : List ℕ) (a : A) (r : List ℕ) → F e u ≡ read a r → Q a
        reads_at e [] a r h = not_read (Bad (place e.0 [])) a r (sym (none e) ∙ h)
        reads_at e (c ∷ cs) a r h = reads_by c (choice c) e cs a r h

        kept_at : (e : ℕ × List ℕ) (u : List ℕ) (a : A) (r : List ℕ) → F e u ≡ read a r → KeptAt F S u a r
        kept_at e [] a r h = not_read (Bad (place e.0 [])) a r (sym (none e) ∙ h)
        kept_at e (c ∷ cs) a r h = kept_by c (choice c) e cs a r h

        barred_at : (e : ℕ × List ℕ) (u : List ℕ) (k : ℕ) → F e u ≡ fault (Bad k) → BarredAt P Spoils F Q S T e.0 u k
        barred_at e [] k h = barred_at_once P Spoils F Q S T e.0 [] k opens (stuck_place {A = A} e.0 k [] (sym (none e) ∙ h)) (λ c s same d z. absurd (grind (arith, same)))
        barred_at e (c ∷ cs) k h = barred_by c (choice c) e cs k h

    choice_eats : Eats F
    choice_eats e [] a h = not_read (Bad (place e.0 [])) a [] (sym (none e) ∙ h)
    choice_eats e (c ∷ cs) a h = by (choice c)
      where
        by : Chosen F Q S c ⊎ StuckWith F c → ⊥
        by (inl g) = g.taken.eats e (c ∷ cs) a (sym (g.same e cs) ∙ h)
        by (inr g) = not_read (Bad (place e.0 (c ∷ cs))) a (c ∷ cs) (sym (g e cs) ∙ h)

  pub choice_eating : {A : Type 0} {F : Reader A} {Q : A → Type 0} {S T : List ℕ → Type 0} → ((e : ℕ × List ℕ) → F e [] ≡ stuck e.0 []) → ((c : ℕ) → Chosen F Q S c ⊎ StuckWith F c)
      → OpensTo P Spoils F Q S T → Eating F Q S T
  choice_eating {F = F} {Q = Q} {S = S} {T = T} none choice opens = record { steady = choice_steady F Q S T none choice opens; eats = choice_eats F Q S T none choice opens }

  -- ---- by a test of the first byte

  cons_barred : {A : Type 0} (f g : Reader A) (Q : A → Type 0) (S T U : List ℕ → Type 0) (c n : ℕ) (cs : List ℕ) (k : ℕ)
      → Behind f c g → BarredAt P Spoils g Q S U n cs k → BarredAt P Spoils f Q S T n (c ∷ cs) k
  cons_barred {A} f g Q S T U c n cs k same b = (
    c ∷ b.0,
    b.1,
    ap (λ y. c ∷ y) b.2,
    cause b.3,
    λ K ends.
        let o = b.4 K ends in (o.0, inr refl, λ d. subst P (sym (ap (λ y. and_then y (K d)) (same d (b.0 ++ o.0)))) (o.2 d)),
  )
    where
      cause : Misfit P Spoils g b.0 b.1 n k ⊎ Spoils n b.1 k → Misfit P Spoils f (c ∷ b.0) b.1 n k ⊎ Spoils n b.1 k
      cause (inl m) = inl (m.0, λ c2 s e d z. same d (b.0 ++ (c2 ∷ z)) ∙ m.1 c2 s e d z)
      cause (inr s) = inr s

  module _ {A : Type 0} (test : ℕ → Bool) (g h : Reader A) (Q : A → Type 0) (S U T : List ℕ → Type 0) (one : Steady P Spoils g Q S U) (two : Steady P Spoils h Q S T)
      (begins : (z : List ℕ) → T z → Other test z) (quiet : (e : ℕ × List ℕ) (u : List ℕ) (a : A) → h e u ≡ read a u → (z : List ℕ) → S z → Other test z) where
    behind : (c : ℕ) → test c ≡ true → Behind (turn test g h) c g
    behind c t d y = turn_this test g h d c y t

    other_kept : (e : ℕ × List ℕ) (u : List ℕ) (a : A) (r : List ℕ) → Other test u → h e u ≡ read a r → KeptAt (turn test g h) S u a r
    other_kept e u a r o i = let k = two.kept e u a r i in (k.0, k.1, λ d z next. turn_other test g h d (k.0 ++ z) (still k.0 k.1 z next) ∙ k.2 d z next)
      where
        still : (w : List ℕ) → u ≡ w ++ r → (z : List ℕ) → Next S r z → Other test (w ++ z)
        still [] eq z next = other_next test S r z (quiet e u a (subst (λ y. h e u ≡ read a y) (sym eq) i) z) (subst (Other test) eq o) next
        still (b ∷ w) eq z next = other_same test (b ∷ (w ++ r)) (b ∷ (w ++ z)) refl (subst (Other test) eq o)

    other_barred : (e : ℕ × List ℕ) (u : List ℕ) (k : ℕ) → Other test u → BarredAt P Spoils h Q S T e.0 u k → BarredAt P Spoils (turn test g h) Q S T e.0 u k
    other_barred e u k o b = (
      b.0,
      b.1,
      b.2,
      cause b.3,
      λ K ends.
          let p = b.4 K ends in
          (p.0, p.1, λ d. subst P (sym (ap (λ y. and_then y (K d)) (turn_other test g h d (b.0 ++ p.0) (other_next test T u (b.0 ++ p.0) (begins (b.0 ++ p.0)) o p.1)))) (p.2 d)),
    )
      where
        cause : Misfit P Spoils h b.0 b.1 e.0 k ⊎ Spoils e.0 b.1 k → Misfit P Spoils (turn test g h) b.0 b.1 e.0 k ⊎ Spoils e.0 b.1 k
        cause (inl m) = inl (
          m.0,
          λ c s eq d z.
              turn_other test g h d (b.0 ++ (c ∷ z)) (other_same test (b.0 ++ (c ∷ s)) (b.0 ++ (c ∷ z)) (same_prefix b.0 c s z) (subst (Other test) (b.2 ∙ ap (λ y. b.0 ++ y) eq) o))
              ∙ m.1 c s eq d z,
        )
        cause (inr s) = inr s

    turn_reads : (e : ℕ × List ℕ) (u : List ℕ) (a : A) (r : List ℕ) → turn test g h e u ≡ read a r → Other test u ⊎ Passing test u → Q a
    turn_reads e u a r i (inl o) = two.reads e u a r (sym (turn_other test g h e u o) ∙ i)
    turn_reads e u a r i (inr (c, cs, eq, t)) = one.reads e cs a r (sym (turn_this test g h e c cs t) ∙ ap (turn test g h e) (sym eq) ∙ i)

    turn_kept : (e : ℕ × List ℕ) (u : List ℕ) (a : A) (r : List ℕ) → turn test g h e u ≡ read a r → Other test u ⊎ Passing test u → KeptAt (turn test g h) S u a r
    turn_kept e u a r i (inl o) = other_kept e u a r o (sym (turn_other test g h e u o) ∙ i)
    turn_kept e u a r i (inr (c, cs, eq, t)) =
        subst (λ y. KeptAt (turn test g h) S y a r) (sym eq)
        (cons_kept (turn test g h) g S c cs a r (behind c t) (one.kept e cs a r (sym (turn_this test g h e c cs t) ∙ ap (turn test g h e) (sym eq) ∙ i)))

    turn_barred : (e : ℕ × List ℕ) (u : List ℕ) (k : ℕ) → turn test g h e u ≡ fault (Bad k) → Other test u ⊎ Passing test u → BarredAt P Spoils (turn test g h) Q S T e.0 u k
    turn_barred e u k i (inl o) = other_barred e u k o (two.barred e u k (sym (turn_other test g h e u o) ∙ i))
    turn_barred e u k i (inr (c, cs, eq, t)) =
        subst (λ y. BarredAt P Spoils (turn test g h) Q S T e.0 y k) (sym eq)
        (cons_barred (turn test g h) g Q S T U c e.0 cs k (behind c t) (one.barred e cs k (sym (turn_this test g h e c cs t) ∙ ap (turn test g h e) (sym eq) ∙ i)))

    pub turn_steady : Steady P Spoils (turn test g h) Q S T
    turn_steady = record {
      reads = λ e u a r i. turn_reads e u a r i (other_or_passing test u);
      kept = λ e u a r i. turn_kept e u a r i (other_or_passing test u);
      barred = λ e u k i. turn_barred e u k i (other_or_passing test u);
      opens = λ K ends. let o = two.opens K ends in (o.0, o.1, λ e. subst P (sym (ap (λ y. and_then y (K e)) (turn_other test g h e o.0 (begins o.0 o.1)))) (o.2 e));
    }

  -- ---- alike but for faults that are excused

  module _ {A : Type 0} (Excused : CondError → Type 0) (f g : Reader A) (never : (k : ℕ) → Excused (Bad k) → ⊥) (passes : (e : CondError) → Excused e → P (fault e))
      (alike : (e : ℕ × List ℕ) (u : List ℕ) → Alike Excused (f e u) (g e u)) where
    back_read : (e : ℕ × List ℕ) (u : List ℕ) (a : A) (r : List ℕ) → g e u ≡ read a r → f e u ≡ read a r
    back_read e u a r h = alike_read Excused (g e u) (f e u) a r (alike_back Excused (f e u) (g e u) (alike e u)) h

    back_bad : (e : ℕ × List ℕ) (u : List ℕ) (k : ℕ) → g e u ≡ fault (Bad k) → f e u ≡ fault (Bad k)
    back_bad e u k h = alike_bad Excused never (g e u) (f e u) k (alike_back Excused (f e u) (g e u) (alike e u)) h

    on_passes : (e : ℕ × List ℕ) (u : List ℕ) (K : A → List ℕ → Found B) → P (and_then (f e u) K) → P (and_then (g e u) K)
    on_passes e u K p = by (alike e u)
      where
        by : Alike Excused (f e u) (g e u) → P (and_then (g e u) K)
        by (inl same) = subst (λ y. P (and_then y K)) same p
        by (inr (x, (e, y, why))) = subst (λ q. P (and_then q K)) (sym y) (passes e why)

    alike_steady : {Q : A → Type 0} {S T : List ℕ → Type 0} → Steady P Spoils f Q S T → Steady P Spoils g Q S T
    alike_steady h = record {
      reads = λ e u a r eq. h.reads e u a r (back_read e u a r eq);
      kept = λ e u a r eq. let k = h.kept e u a r (back_read e u a r eq) in (k.0, k.1, λ d z next. alike_read Excused (f d (k.0 ++ z)) (g d (k.0 ++ z)) a z (alike d (k.0 ++ z)) (k.2 d z next));
      barred = λ e u j eq. let b = h.barred e u j (back_bad e u j eq) in (
        b.0,
        b.1,
        b.2,
        cause e.0 b.0 b.1 j b.3,
        λ K ends.
            let o = b.4 K ends in (o.0, o.1, λ d. on_passes d (b.0 ++ o.0) (K d) (o.2 d)),
      );
      opens = λ K ends. let o = h.opens K ends in (o.0, o.1, λ e. on_passes e o.0 (K e) (o.2 e));
    }
      where
        cause : (n : ℕ) (w v : List ℕ) (j : ℕ) → Misfit P Spoils f w v n j ⊎ Spoils n v j → Misfit P Spoils g w v n j ⊎ Spoils n v j
        cause n w v j (inl m) = inl (m.0, λ c s eq d z. alike_bad Excused never (f d (w ++ (c ∷ z))) (g d (w ++ (c ∷ z))) (place d.0 (c ∷ z)) (alike d (w ++ (c ∷ z))) (m.1 c s eq d z))
        cause n w v j (inr s) = inr s

    pub alike_eating : {Q : A → Type 0} {S T : List ℕ → Type 0} → Eating f Q S T → Eating g Q S T
    alike_eating one = record { steady = alike_steady one.steady; eats = λ e u a h. one.eats e u a (back_read e u a u h) }

  -- the same reader in other words
  pub same_steady : {A : Type 0} {f g : Reader A} {Q : A → Type 0} {S T : List ℕ → Type 0} → ((e : ℕ × List ℕ) (u : List ℕ) → g e u ≡ f e u) → Steady P Spoils f Q S T → Steady P Spoils g Q S T
  same_steady {f = f} {g = g} same one = alike_steady (λ e. ⊥) f g (λ k no. no) (λ e no. absurd no) (λ e u. inl (sym (same e u))) one

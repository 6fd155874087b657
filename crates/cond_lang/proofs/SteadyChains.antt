-- Chains and the end of a text are steady.
use Rattle.std.proofs.Common.{◌≡◌, ◌⊎◌, inl, inr, ℕ, zero, suc, ◌≤◌, Bool, true, false, ◌==◌, List, [], ◌∷◌, ◌++◌, length, refl, sym, ◌∙◌, ap, subst, arith}
use Rattle.std.proofs.lemmas.List.{length-append}
use Rattle.cond_lang.specs.declared.error.CondError.TheVariants.{Bad}
use Rattle.cond_lang.specs.Found.{Found, read, fault, and_then, byte}
use Rattle.cond_lang.specs.Signs.{after_blanks}
use Rattle.cond_lang.specs.Trees.{CondTree, Trees}
use Rattle.cond_lang.specs.Conditions.{joined, begins_with, link, links, chain, ended}
use Rattle.cond_lang.proofs.Steps.{then_read}
use Rattle.cond_lang.proofs.Blanks.{then_back, byte_back}
use Rattle.cond_lang.proofs.Links.{blanks_shorter}
use Rattle.cond_lang.proofs.Follows.{Anything, Begins, Closes}
use Rattle.cond_lang.proofs.Steady.{Reader, SameHead, Next, KeptAt, OpensTo, Misfit, OnwardFrom, BarredAt, Steady}
use Rattle.cond_lang.proofs.Steady.{both, past, same_prefix, bad_error, barred_at_once, both_kept, both_opens, both_left, both_right}
use Rattle.cond_lang.proofs.SteadyForms.{stuck_place, Eating, same_steady, both_eating}
use Rattle.cond_lang.proofs.SteadySigns.{byte_same, closes_stays, past_kept, past_opens, past_barred, past_steady, sign_eating}

then_equal : {A B : Type 0} (x : Found A) (g h : A → List ℕ → Found B) → ((a : A) (r : List ℕ) → x ≡ read a r → g a r ≡ h a r) → and_then x g ≡ and_then x h
then_equal (read a r) g h same = same a r refl
then_equal (fault e) g h same = refl

-- ---- what begins with the sign

module _ (sign : ℕ) where
  begins_at : (u : List ℕ) → begins_with sign u ≡ true → Begins sign u
  begins_at [] h = absurd (grind (arith, h))
  begins_at (c ∷ cs) h = let same : c ≡ sign = grind (arith, h) in (cs, ap (λ y. y ∷ cs) same)

  begins_same : (v : List ℕ) → begins_with sign (sign ∷ v) ≡ true
  begins_same v = grind arith

  short_none : (u : List ℕ) → length u ≤ 0 → begins_with sign u ≡ false
  short_none [] h = refl
  short_none (c ∷ cs) h = absurd (omega (arith, h))

  head_none : (u z : List ℕ) → begins_with sign u ≡ false → SameHead u z → begins_with sign z ≡ false
  head_none [] z h same = absurd same
  head_none (c ∷ s) [] h same = refl
  head_none (c ∷ s) (d ∷ z) h same = subst (λ y. (y == sign) ≡ false) same h

  head_begins : (u z : List ℕ) → Begins sign u → SameHead u z → Begins sign z
  head_begins [] z b same = absurd same
  head_begins (c ∷ s) [] b same = absurd same
  head_begins (c ∷ s) (d ∷ z) (v, e) same = let first : c ≡ sign = grind (arith, e) in (z, ap (λ y. y ∷ z) (sym same ∙ first))

  begins_head : (u z : List ℕ) → Begins sign u → Begins sign z → SameHead u z
  begins_head u z (s, e) (v, i) = subst (λ y. SameHead y z) (sym e) (subst (λ y. SameHead (sign ∷ s) y) (sym i) refl)

  closes_none : (sign == 41) ≡ false → (z : List ℕ) → Closes z → begins_with sign z ≡ false
  closes_none other [] h = refl
  closes_none other (c ∷ cs) h = by_test (c == sign) refl
    where
      by_test : (t : Bool) → (c == sign) ≡ t → (c == sign) ≡ false
      by_test true e = absurd (grind (arith, e, h, other))
      by_test false e = e

module _ (P : Found CondTree → Type 0) (Spoils : ℕ → List ℕ → ℕ → Type 0) where
  -- ---- one reader and then another, at one text

  module _ {A : Type 0} (f : Reader A) (g : A → Reader CondTree) (S T Trailing Leading : List ℕ → Type 0) (first : (z : List ℕ) → Leading z → S z) (taken : Eating P Spoils f Anything S T) where
    both_kept_at : (e : ℕ × List ℕ) (u : List ℕ) (t : CondTree) (q : List ℕ) → ((z : List ℕ) → Trailing z → S z)
        → ((a : A) (r : List ℕ) → f e u ≡ read a r → g a e r ≡ read t q → KeptAt (g a) Trailing r t q) → both f g e u ≡ read t q → KeptAt (both f g) Trailing u t q
    both_kept_at e u t q quiet two h =
        let b = then_back (f e u) (λ a r. g a e r) t q h in
        both_kept P Spoils f g Anything Anything S T Trailing Leading first u b.0 b.1 t q (taken.steady.kept e u b.0 b.1 b.2) (two b.0 b.1 b.2 b.3) (λ same. quiet)

    both_barred_at : (e : ℕ × List ℕ) (u : List ℕ) (k : ℕ) → ((a : A) → OpensTo P Spoils (g a) Anything Trailing Leading)
        → ((a : A) (r : List ℕ) → f e u ≡ read a r → g a e r ≡ fault (Bad k) → BarredAt P Spoils (g a) Anything Trailing Leading e.0 r k) → both f g e u ≡ fault (Bad k)
        → BarredAt P Spoils (both f g) Anything Trailing T e.0 u k
    both_barred_at e u k opening two h = by_first (f e u) refl h
      where
        by_first : (x : Found A) → f e u ≡ x → and_then x (λ a r. g a e r) ≡ fault (Bad k) → BarredAt P Spoils (both f g) Anything Trailing T e.0 u k
        by_first (read a r) i j = both_right P Spoils f g Anything Anything S T Trailing Leading first e.0 u a r k (taken.steady.kept e u a r i) (two a r i j) (λ same. absurd (taken.eats e u a (i ∙ ap (read a) (sym same))))
        by_first (fault x) i j = both_left P Spoils f g Anything Anything S T Trailing Leading first (λ a q. opening a) e.0 u k (taken.steady.barred e u k (i ∙ ap fault (bad_error {A = CondTree} x k j)))

  -- ---- chains

  module _ (sign : ℕ) (make : Trees → CondTree) (part : Reader CondTree) (S T : List ℕ → Type 0) (other : (sign == 41) ≡ false)
      (closes : (z : List ℕ) → Closes z → S z) (taken : Eating P Spoils part Anything S T) where
    -- further members, as many as there are
    abbrev further : List CondTree → Reader CondTree
    further ts e u = links e.0 sign make (part e) (length u) ts u

    abbrev sign_byte : Reader (Unit {0})
    sign_byte e u = byte e.0 sign u

    -- a member, and further ones
    abbrev member : List CondTree → Reader CondTree
    member ts = both part (λ t. past (further (ts ++ (t ∷ []))))

    abbrev second : List CondTree → Reader CondTree
    second ts = both sign_byte (λ _. member ts)

    abbrev doubled : List CondTree → Reader CondTree
    doubled ts = both sign_byte (λ _. second ts)

    part_shorter : (e : ℕ × List ℕ) (u : List ℕ) (t : CondTree) (r : List ℕ) → part e u ≡ read t r → length r ≤ length u
    part_shorter e u t r h =
        let k = taken.steady.kept e u t r h in
        let l : length u ≡ length (k.0 ++ r) = ap length k.1 in
        let m = length-append k.0 r in omega (arith, l, m)

    -- a member, and at most k further ones
    abbrev going : ℕ → List CondTree → Reader CondTree
    going k ts e v = and_then (part e v) (λ t behind. links e.0 sign make (part e) k (ts ++ (t ∷ [])) (after_blanks behind))

    abbrev SameLinks : (ℕ × List ℕ) → ℕ → ℕ → Type 0
    SameLinks e j k = (ts : List CondTree) (u : List ℕ) → length u ≤ j → length u ≤ k → links e.0 sign make (part e) j ts u ≡ links e.0 sign make (part e) k ts u

    going_same : (e : ℕ × List ℕ) (j k : ℕ) (ts : List CondTree) (v : List ℕ) → SameLinks e j k → length v ≤ j → length v ≤ k → going j ts e v ≡ going k ts e v
    going_same e j k ts v same a b =
        then_equal (part e v) (λ t behind. links e.0 sign make (part e) j (ts ++ (t ∷ [])) (after_blanks behind)) (λ t behind. links e.0 sign make (part e) k (ts ++ (t ∷ [])) (after_blanks behind))
        (λ t behind h. let s = part_shorter e v t behind h in let m = blanks_shorter behind in same (ts ++ (t ∷ [])) (after_blanks behind) (omega (arith, a, s, m)) (omega (arith, b, s, m)))

    byte_shorter : (n : ℕ) (u v : List ℕ) (a : Unit {0}) → byte n sign u ≡ read a v → length u ≡ suc (length v)
    byte_shorter n u v a h = ap length (byte_back n sign u v h)

    same_more : (e : ℕ × List ℕ) (j k : ℕ) → SameLinks e j k → SameLinks e (suc j) (suc k)
    unfolding links
    same_more e j k same ts [] a b = refl
    same_more e j k same ts (c ∷ cs) a b = by_test (begins_with sign (c ∷ cs)) refl
      where
        by_test : (t : Bool) → begins_with sign (c ∷ cs) ≡ t → links e.0 sign make (part e) (suc j) ts (c ∷ cs) ≡ links e.0 sign make (part e) (suc k) ts (c ∷ cs)
        by_test false t = ap (link e.0 sign make (part e) (links e.0 sign make (part e) j) ts (c ∷ cs)) t ∙ sym (ap (link e.0 sign make (part e) (links e.0 sign make (part e) k) ts (c ∷ cs)) t)
        by_test true t =
            ap (link e.0 sign make (part e) (links e.0 sign make (part e) j) ts (c ∷ cs)) t
            ∙ then_equal (byte e.0 sign cs) (λ _ v. going j ts e v) (λ _ v. going k ts e v)
            (λ x v h. let l = byte_shorter e.0 cs v x h in going_same e j k ts v same (omega (arith, a, l)) (omega (arith, b, l)))
            ∙ sym (ap (link e.0 sign make (part e) (links e.0 sign make (part e) k) ts (c ∷ cs)) t)

    links_enough : (e : ℕ × List ℕ) (j k : ℕ) → SameLinks e j k
    unfolding links
    links_enough e zero zero ts u a b = refl
    links_enough e zero (suc k) ts [] a b = refl
    links_enough e zero (suc k) ts (c ∷ cs) a b = absurd (omega (arith, a))
    links_enough e (suc j) zero ts [] a b = refl
    links_enough e (suc j) zero ts (c ∷ cs) a b = absurd (omega (arith, b))
    links_enough e (suc j) (suc k) ts u a b = same_more e j k (links_enough e j k) ts u a b

    going_enough : (k : ℕ) (ts : List CondTree) (e : ℕ × List ℕ) (v : List ℕ) → length v ≤ k → going k ts e v ≡ member ts e v
    going_enough k ts e v a =
        then_equal (part e v) (λ t behind. links e.0 sign make (part e) k (ts ++ (t ∷ [])) (after_blanks behind)) (λ t behind. further (ts ++ (t ∷ [])) e (after_blanks behind))
        (λ t behind h. let s = part_shorter e v t behind h in let m = blanks_shorter behind in
        links_enough e k (length (after_blanks behind)) (ts ++ (t ∷ [])) (after_blanks behind) (omega (arith, a, s, m)) (omega arith))

    further_begun : (ts : List CondTree) (e : ℕ × List ℕ) (s : List ℕ) → further ts e (sign ∷ s) ≡ doubled ts e (sign ∷ s)
    unfolding links
    further_begun ts e s =
        ap (link e.0 sign make (part e) (links e.0 sign make (part e) (length s)) ts (sign ∷ s)) (begins_same sign s)
        ∙ then_equal (byte e.0 sign s) (λ _ v. going (length s) ts e v) (λ _ v. member ts e v)
        (λ a v h. let l = byte_shorter e.0 s v a h in going_enough (length s) ts e v (omega (arith, l)))
        ∙ sym (then_read (byte e.0 sign (sign ∷ s)) (λ _ v. second ts e v) tt s (second ts e s) (byte_same e.0 sign s) refl)

    same_doubled : (ts : List CondTree) (e : ℕ × List ℕ) (u : List ℕ) → Begins sign u → further ts e u ≡ doubled ts e u
    same_doubled ts e u (s, eq) = subst (λ y. further ts e y ≡ doubled ts e y) (sym eq) (further_begun ts e s)

    further_ending : (ts : List CondTree) (e : ℕ × List ℕ) (u : List ℕ) → begins_with sign u ≡ false → further ts e u ≡ read (joined make ts) u
    unfolding links
    further_ending ts e [] h = refl
    further_ending ts e (c ∷ cs) h = ap (link e.0 sign make (part e) (links e.0 sign make (part e) (length cs)) ts (c ∷ cs)) h

    -- ---- what opens them

    further_opens : (ts : List CondTree) → OpensTo P Spoils (further ts) Anything Closes Closes
    further_opens ts K ends =
        let o = ends (joined make ts) tt in
        (o.0, o.1, λ e. subst P (sym (then_read (further ts e o.0) (K e) (joined make ts) o.0 _ (further_ending ts e o.0 (closes_none sign other o.0 o.1)) refl)) (o.2 e))

    past_further_opens : (ts : List CondTree) → OpensTo P Spoils (past (further ts)) Anything Closes Closes
    past_further_opens ts = past_opens P Spoils (further ts) Anything Closes Closes closes_stays (further_opens ts)

    member_opens : (ts : List CondTree) → OpensTo P Spoils (member ts) Anything Closes T
    member_opens ts = both_opens P Spoils part (λ t. past (further (ts ++ (t ∷ [])))) Anything Anything S T Closes Closes closes (λ t q. past_further_opens (ts ++ (t ∷ []))) taken.steady.opens

    second_opens : (ts : List CondTree) → OpensTo P Spoils (second ts) Anything Closes (Begins sign)
    second_opens ts = both_opens P Spoils sign_byte (λ _. member ts) Anything Anything Anything (Begins sign) Closes T (λ z t. tt) (λ _ q. member_opens ts) (sign_eating P Spoils sign).steady.opens

    -- ---- what is kept

    left_shorter : (e : ℕ × List ℕ) (u s v : List ℕ) (a b : Unit {0}) (t : CondTree) (y : List ℕ) (k : ℕ)
        → byte e.0 sign u ≡ read a s → byte e.0 sign s ≡ read b v → part e v ≡ read t y → length u ≤ suc k → length (after_blanks y) ≤ k
    left_shorter e u s v a b t y k h i j short =
        let l = byte_shorter e.0 u s a h in let m = byte_shorter e.0 s v b i in let p = part_shorter e v t y j in let q = blanks_shorter y in omega (arith, l, m, p, q, short)

    abbrev KeptFor : ℕ → Type 0
    KeptFor k = (ts : List CondTree) (e : ℕ × List ℕ) (u : List ℕ) (t : CondTree) (r : List ℕ) → length u ≤ k → further ts e u ≡ read t r → KeptAt (further ts) Closes u t r

    further_kept_end : (ts : List CondTree) (e : ℕ × List ℕ) (u : List ℕ) (t : CondTree) (r : List ℕ) → begins_with sign u ≡ false → further ts e u ≡ read t r → KeptAt (further ts) Closes u t r
    further_kept_end ts e u t r none h = ([], rest, λ d z next. further_ending ts d z (still z next) ∙ ap (λ y. read y z) value)
      where
        found : read (joined make ts) u ≡ read t r
        found = sym (further_ending ts e u none) ∙ h

        rest : u ≡ r
        rest = grind (arith, found)

        value : joined make ts ≡ t
        value = grind (arith, found)

        still : (z : List ℕ) → Next Closes r z → begins_with sign z ≡ false
        still z (inl c) = closes_none sign other z c
        still z (inr same) = head_none sign u z none (subst (λ y. SameHead y z) (sym rest) same)

    kept_back : (ts : List CondTree) (u : List ℕ) (t : CondTree) (r : List ℕ) → KeptAt (doubled ts) Closes u t r → KeptAt (further ts) Closes u t r
    kept_back ts u t r (w, eq, keep) = (w, eq, λ d z next. same_doubled ts d (w ++ z) (begins d z (keep d z next)) ∙ keep d z next)
      where
        begins : (d : ℕ × List ℕ) (z : List ℕ) → doubled ts d (w ++ z) ≡ read t z → Begins sign (w ++ z)
        begins d z h = let b = then_back (byte d.0 sign (w ++ z)) (λ _ r. second ts d r) t z h in (b.1, byte_back d.0 sign (w ++ z) b.1 b.2)

    kept_doubled : (k : ℕ) → KeptFor k → (ts : List CondTree) (e : ℕ × List ℕ) (u : List ℕ) (t : CondTree) (r : List ℕ) → length u ≤ suc k → doubled ts e u ≡ read t r → KeptAt (doubled ts) Closes u t r
    kept_doubled k before ts e u t r short h =
        both_kept_at sign_byte (λ _. second ts) Anything (Begins sign) Closes (Begins sign) (λ z _. tt) (sign_eating P Spoils sign) e u t r (λ z _. tt)
        (λ a s i1 h1. both_kept_at sign_byte (λ _. member ts) Anything (Begins sign) Closes T (λ z _. tt) (sign_eating P Spoils sign) e s t r (λ z _. tt)
        (λ b v i2 h2. both_kept_at part (λ x. past (further (ts ++ (x ∷ [])))) S T Closes Closes closes taken e v t r closes
        (λ x y i3 h3. past_kept P Spoils (further (ts ++ (x ∷ []))) Anything Closes Closes y t r
        (before (ts ++ (x ∷ [])) e (after_blanks y) t r (left_shorter e u s v a b x y k i1 i2 i3 short) h3) (λ same. closes_stays)) h2) h1) h

    kept_more : (k : ℕ) → KeptFor k → KeptFor (suc k)
    kept_more k before ts e u t r short h = by_test (begins_with sign u) refl
      where
        by_test : (x : Bool) → begins_with sign u ≡ x → KeptAt (further ts) Closes u t r
        by_test false n = further_kept_end ts e u t r n h
        by_test true b = kept_back ts u t r (kept_doubled k before ts e u t r short (sym (same_doubled ts e u (begins_at sign u b)) ∙ h))

    kept_for : (k : ℕ) → KeptFor k
    kept_for zero ts e u t r short h = further_kept_end ts e u t r (short_none sign u short) h
    kept_for (suc k) ts e u t r short h = kept_more k (kept_for k) ts e u t r short h

    -- ---- where they are barred

    abbrev BarredFor : ℕ → Type 0
    BarredFor k = (ts : List CondTree) (e : ℕ × List ℕ) (u : List ℕ) (q : ℕ) → length u ≤ k → further ts e u ≡ fault (Bad q) → BarredAt P Spoils (further ts) Anything Closes Closes e.0 u q

    further_barred_end : (ts : List CondTree) (e : ℕ × List ℕ) (u : List ℕ) (q : ℕ) → begins_with sign u ≡ false → further ts e u ≡ fault (Bad q)
        → BarredAt P Spoils (further ts) Anything Closes Closes e.0 u q
    further_barred_end ts e u q none h = let i : read (joined make ts) u ≡ fault (Bad q) = sym (further_ending ts e u none) ∙ h in absurd (grind (arith, i))

    barred_back : (ts : List CondTree) (n : ℕ) (u : List ℕ) (q : ℕ) → Begins sign u → BarredAt P Spoils (doubled ts) Anything Closes (Begins sign) n u q
        → BarredAt P Spoils (further ts) Anything Closes Closes n u q
    barred_back ts n u q begins (w, v, eq, why, on) = (w, v, eq, cause why, onward)
      where
        cause : Misfit P Spoils (doubled ts) w v n q ⊎ Spoils n v q → Misfit P Spoils (further ts) w v n q ⊎ Spoils n v q
        cause (inl m) = inl (
          m.0,
          λ c s e d z.
              same_doubled ts d (w ++ (c ∷ z)) (head_begins sign u (w ++ (c ∷ z)) begins (subst (λ y. SameHead y (w ++ (c ∷ z))) (sym (eq ∙ ap (λ y. w ++ y) e)) (same_prefix w c s z)))
              ∙ m.1 c s e d z,
        )
        cause (inr s) = inr s

        next_begins : (z : List ℕ) → Next (Begins sign) u z → Begins sign z
        next_begins z (inl b) = b
        next_begins z (inr same) = head_begins sign u z begins same

        onward : OnwardFrom P Spoils (further ts) Anything Closes Closes u w
        onward K ends =
            let o = on K ends in (
              o.0,
              inr (begins_head sign u (w ++ o.0) begins (next_begins (w ++ o.0) o.1)),
              λ d. subst (λ y. P (and_then y (K d))) (sym (same_doubled ts d (w ++ o.0) (next_begins (w ++ o.0) o.1))) (o.2 d),
            )

    barred_doubled : (k : ℕ) → BarredFor k → (ts : List CondTree) (e : ℕ × List ℕ) (u : List ℕ) (q : ℕ) → length u ≤ suc k → doubled ts e u ≡ fault (Bad q)
        → BarredAt P Spoils (doubled ts) Anything Closes (Begins sign) e.0 u q
    barred_doubled k before ts e u q short h =
        both_barred_at sign_byte (λ _. second ts) Anything (Begins sign) Closes (Begins sign) (λ z _. tt) (sign_eating P Spoils sign) e u q (λ _. second_opens ts)
        (λ a s i1 h1. both_barred_at sign_byte (λ _. member ts) Anything (Begins sign) Closes T (λ z _. tt) (sign_eating P Spoils sign) e s q (λ _. member_opens ts)
        (λ b v i2 h2. both_barred_at part (λ x. past (further (ts ++ (x ∷ [])))) S T Closes Closes closes taken e v q (λ x. past_further_opens (ts ++ (x ∷ [])))
        (λ x y i3 h3. past_barred P Spoils (further (ts ++ (x ∷ []))) Anything Closes Closes closes_stays e.0 y q
        (before (ts ++ (x ∷ [])) e (after_blanks y) q (left_shorter e u s v a b x y k i1 i2 i3 short) h3)) h2) h1) h

    barred_more : (k : ℕ) → BarredFor k → BarredFor (suc k)
    barred_more k before ts e u q short h = by_test (begins_with sign u) refl
      where
        by_test : (x : Bool) → begins_with sign u ≡ x → BarredAt P Spoils (further ts) Anything Closes Closes e.0 u q
        by_test false n = further_barred_end ts e u q n h
        by_test true b = barred_back ts e.0 u q (begins_at sign u b) (barred_doubled k before ts e u q short (sym (same_doubled ts e u (begins_at sign u b)) ∙ h))

    barred_for : (k : ℕ) → BarredFor k
    barred_for zero ts e u q short h = further_barred_end ts e u q (short_none sign u short) h
    barred_for (suc k) ts e u q short h = barred_more k (barred_for k) ts e u q short h

    -- ---- all

    further_steady : (ts : List CondTree) → Steady P Spoils (further ts) Anything Closes Closes
    further_steady ts = record {
      reads = λ e u a r h. tt;
      kept = λ e u a r h. kept_for (length u) ts e u a r (omega arith) h;
      barred = λ e u k h. barred_for (length u) ts e u k (omega arith) h;
      opens = further_opens ts;
    }

    member_eating : (ts : List CondTree) → Eating P Spoils (member ts) Anything Closes T
    member_eating ts = both_eating P Spoils taken (λ t q. past_steady P Spoils closes_stays (λ e u a h. closes_stays) (further_steady (ts ++ (t ∷ [])))) closes closes

    chain_same : (e : ℕ × List ℕ) (u : List ℕ) → chain e.0 sign make (part e) u ≡ member [] e u
    unfolding chain
    chain_same e u = going_enough (length u) [] e u (omega arith)

    pub chain_eating : Eating P Spoils (λ e u. chain e.0 sign make (part e) u) Anything Closes T
    chain_eating = record {
      steady = same_steady P Spoils chain_same (member_eating []).steady;
      eats = λ e u t h. (member_eating []).eats e u t (sym (chain_same e u) ∙ h);
    }

  -- ---- the end

  pub ended_steady : (t : CondTree) → Steady P Spoils (λ (e : ℕ × List ℕ) u. ended e.0 t u) Anything (λ z. z ≡ []) (λ z. z ≡ [])
  ended_steady t = record {
    reads = λ e u a r h. tt;
    kept = kept;
    barred = barred;
    opens = opens;
  }
    where
      last : Reader CondTree
      last e u = ended e.0 t u

      kept : (e : ℕ × List ℕ) (u : List ℕ) (a : CondTree) (r : List ℕ) → last e u ≡ read a r → KeptAt last (λ z. z ≡ []) u a r
      kept e [] a r h =
          let rest : [] ≡ r = grind (arith, h) in let value : t ≡ a = grind (arith, h) in
          ([], rest, λ d z next. by_next (subst (λ y. Next (λ z. z ≡ []) y z) (sym rest) next) d value)
        where
          by_next : {z : List ℕ} → Next (λ z. z ≡ []) [] z → (d : ℕ × List ℕ) → t ≡ a → last d z ≡ read a z
          by_next (inl none) d value = subst (λ y. last d y ≡ read a y) (sym none) (ap (λ y. read y []) value)
          by_next (inr same) d value = absurd same
      kept e (c ∷ cs) a r h = absurd (grind (arith, h))

      opens : OpensTo P Spoils last Anything (λ z. z ≡ []) (λ z. z ≡ [])
      opens K ends = let o = ends t tt in ([], refl, λ e. subst (λ y. P (K e t y)) o.1 (o.2 e))

      barred : (e : ℕ × List ℕ) (u : List ℕ) (k : ℕ) → last e u ≡ fault (Bad k) → BarredAt P Spoils last Anything (λ z. z ≡ []) (λ z. z ≡ []) e.0 u k
      barred e [] k h = absurd (grind (arith, h))
      barred e (c ∷ cs) k h =
          barred_at_once P Spoils last Anything (λ z. z ≡ []) (λ z. z ≡ []) e.0 (c ∷ cs) k opens (stuck_place {A = CondTree} e.0 k (c ∷ cs) h) (λ b s eq d z. refl)

-- Space that is skipped, and one byte.
use Rattle.std.proofs.Common.{◌≡◌, ℕ, Bool, true, false, ◌==◌, if◌then◌else◌, List, [], ◌∷◌, ◌++◌, refl, ◌∙◌, ap, arith}
use Rattle.cond_lang.specs.Found.{Found, read, fault, and_then, byte}
use Rattle.cond_lang.specs.Signs.{is_blank, after_blanks}
use Rattle.cond_lang.specs.Atoms.{AreBlanks, Blanks}

-- the first value of what was read in two steps
pub then_back : {A B : Type 0} → (f : Found A) (next : A → List ℕ → Found B) (x : B) (r : List ℕ) → and_then f next ≡ read x r → (a : A) × (rest : List ℕ) × (f ≡ read a rest) × (next a rest ≡ read x r)
then_back (read a rest) next x r h = (a, rest, refl, h)
then_back (fault e) next x r h = absurd (grind (arith, h))

pub blanks_of : (text : List ℕ) → Blanks text (after_blanks text)
blanks_of [] = ([], tt, refl)
blanks_of (c ∷ cs) = by_test (blanks_of cs) (is_blank c) refl
  where
    by_test : Blanks cs (after_blanks cs) → (b : Bool) → is_blank c ≡ b → Blanks (c ∷ cs) (after_blanks (c ∷ cs))
    by_test h true e = rw e (c ∷ h.0, (grind (arith, e), h.1), ap (λ y. c ∷ y) h.2)
    by_test h false e = rw e ([], tt, refl)

pub byte_back : (n b : ℕ) (text rest : List ℕ) → byte n b text ≡ read tt rest → text ≡ b ∷ rest
byte_back n b [] rest h = absurd (grind (arith, h))
byte_back n b (c ∷ cs) rest h = by_test (c == b) refl
  where
    by_test : (t : Bool) → (c == b) ≡ t → c ∷ cs ≡ b ∷ rest
    by_test true e = grind (arith, e, h)
    by_test false e = grind (arith, e, h)

pub skipped : (text rest : List ℕ) → Blanks text rest → after_blanks text ≡ after_blanks rest
skipped text rest h = by_list h.0 text h.1 h.2
  where
    by_list : (bs text : List ℕ) → AreBlanks bs → text ≡ bs ++ rest → after_blanks text ≡ after_blanks rest
    by_list [] text b e = ap after_blanks e
    by_list (c ∷ bs) text b e =
        let blank : is_blank c ≡ true = grind (arith, b.0) in
        ap after_blanks e ∙ ap (λ t. if t then after_blanks (bs ++ rest) else (c ∷ bs ++ rest)) blank ∙ by_list bs (bs ++ rest) b.1 refl

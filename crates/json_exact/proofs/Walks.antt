-- Walks along the ways of characters.
use Rattle.std.proofs.Common.{◌≡◌, ◌≢◌, ℕ, List, [], ◌∷◌, ◌++◌, refl, sym, subst}
use Rattle.json_exact.specs.Characters.{Way, refused, whole, step, steps}

pub steps-append : (w : Way) (p q : List ℕ) → steps w (p ++ q) ≡ steps (steps w p) q
steps-append w [] q = refl
steps-append w (b ∷ p) q = steps-append (step w b) p q

pub steps-refused : (p : List ℕ) → steps refused p ≡ refused
steps-refused [] = refl
steps-refused (b ∷ p) = steps-refused p

whole_refused : whole ≡ refused → ⊥
whole_refused e = cc

-- what is refused once is not whole later
pub refused_not_whole : (w : Way) (p : List ℕ) → w ≡ refused → steps w p ≡ whole → ⊥
refused_not_whole w p e h =
    let s : steps w p ≡ refused = subst (λ (v : Way). steps v p ≡ refused) (sym e) (steps-refused p) in cc

-- a quote between characters is no character
pub quote_refused : (w : Way) (q : List ℕ) → w ≡ whole → steps w (34 ∷ q) ≡ refused
quote_refused w q e = subst (λ (v : Way). steps v (34 ∷ q) ≡ refused) (sym e) (steps-refused q)

-- the closing quote of a string stands at one place
pub characters_unique : (w : Way) (raw other r s : List ℕ) → steps w raw ≡ whole → steps w other ≡ whole
    → raw ++ 34 ∷ r ≡ other ++ 34 ∷ s → (raw ≡ other) × (r ≡ s)
characters_unique w [] [] r s h k e = (refl, cc)
characters_unique w [] (b ∷ other) r s h k e =
    let first : b ≡ 34 = cc in
    absurd (refused_not_whole (step w b) other (subst (λ (c : ℕ). step w c ≡ refused) (sym first) (quote_refused w [] h)) k)
characters_unique w (b ∷ raw) [] r s h k e =
    let first : b ≡ 34 = cc in
    absurd (refused_not_whole (step w b) raw (subst (λ (c : ℕ). step w c ≡ refused) (sym first) (quote_refused w [] k)) h)
characters_unique w (b ∷ raw) (c ∷ other) r s h k e =
    let first : b ≡ c = cc in
    let others : raw ++ 34 ∷ r ≡ other ++ 34 ∷ s = cc in
    let k' : steps (step w b) other ≡ whole = subst (λ (x : ℕ). steps (step w x) other ≡ whole) (sym first) k in
    let both : (raw ≡ other) × (r ≡ s) = characters_unique (step w b) raw other r s h k' others in
    (let e' : raw ≡ other = both.0 in cc, both.1)

-- where characters stop with a byte, no string goes on so
pub string_stuck : (w : Way) (p : List ℕ) (b : ℕ) (rest raw m : List ℕ) → steps w p ≢ refused → (steps w p ≡ whole → b ≢ 34)
    → step (steps w p) b ≡ refused → steps w raw ≡ whole → p ++ b ∷ rest ≡ raw ++ 34 ∷ m → ⊥
string_stuck w [] b rest [] m alive quote stuck h e = quote h cc
string_stuck w [] b rest (c ∷ raw) m alive quote stuck h e =
    let first : b ≡ c = cc in
    refused_not_whole (step w c) raw (subst (λ (x : ℕ). step w x ≡ refused) first stuck) h
string_stuck w (c ∷ p) b rest [] m alive quote stuck h e =
    let first : c ≡ 34 = cc in
    alive (subst (λ (x : ℕ). steps (step w x) p ≡ refused) (sym first) (quote_refused w p h))
string_stuck w (c ∷ p) b rest (d ∷ raw) m alive quote stuck h e =
    let first : c ≡ d = cc in
    let others : p ++ b ∷ rest ≡ raw ++ 34 ∷ m = cc in
    let h' : steps (step w c) raw ≡ whole = subst (λ (x : ℕ). steps (step w x) raw ≡ whole) (sym first) h in
    string_stuck (step w c) p b rest raw m alive quote stuck h' others

-- a string that is still open holds no closing quote
pub string_open : (w : Way) (p raw m : List ℕ) → steps w p ≢ refused → steps w raw ≡ whole → p ≡ raw ++ 34 ∷ m → ⊥
string_open w [] [] m alive h e = cc
string_open w [] (c ∷ raw) m alive h e = cc
string_open w (c ∷ p) [] m alive h e =
    let first : c ≡ 34 = cc in
    alive (subst (λ (x : ℕ). steps (step w x) p ≡ refused) (sym first) (quote_refused w p h))
string_open w (c ∷ p) (d ∷ raw) m alive h e =
    let first : c ≡ d = cc in
    let others : p ≡ raw ++ 34 ∷ m = cc in
    let h' : steps (step w c) raw ≡ whole = subst (λ (x : ℕ). steps (step w x) raw ≡ whole) (sym first) h in
    string_open (step w c) p raw m alive h' others

-- Parts of a text from one place to another.
use Rattle.std.proofs.Common.{◌≡◌, ℕ, zero, suc, ◌+◌, ◌-◌, ◌<◌, ◌≤◌, List, [], ◌∷◌, ◌++◌, length, get_or, take, sym, ◌∙◌, ap, subst, append_assoc, arith}
use Rattle.std.specs.Prelude.{slice_range}
use Rattle.std.proofs.lemmas.List.{take_more, append-nil}
use Rattle.std.proofs.lemmas.List.Edits.{between_none, between_more, length-between, get_or-between}

pub range_none : (t : List ℕ) (a : ℕ) → slice_range t a a ≡ []
range_none t a = between_none t a

pub range_more : (t : List ℕ) (a i : ℕ) → a ≤ i → i < length t → slice_range t a (suc i) ≡ slice_range t a i ++ get_or t i 0 ∷ []
range_more t a i h k =
    let e : i + 1 ≡ suc i = omega arith in
    subst (λ (n : ℕ). slice_range t a n ≡ slice_range t a i ++ get_or t i 0 ∷ []) e (between_more t a i 0 h k)

up_to_by : (t : List ℕ) (a n : ℕ) → a + n ≤ length t → take (a + n) t ≡ take a t ++ slice_range t a (a + n)
up_to_by t a zero h =
    let e : a + 0 ≡ a = omega arith in
    subst (λ (m : ℕ). take m t ≡ take a t ++ slice_range t a m) (sym e) (sym (ap (λ (q : List ℕ). take a t ++ q) (range_none t a) ∙ append-nil (take a t)))
up_to_by t a (suc n) h =
    let e : a + suc n ≡ suc (a + n) = omega arith in
    let lt : a + n < length t = omega arith in
    let one : take (a + n + 1) t ≡ take (a + n) t ++ get_or t (a + n) 0 ∷ [] = take_more t (a + n) 0 lt in
    let e1 : a + n + 1 ≡ suc (a + n) = omega arith in
    let one' : take (suc (a + n)) t ≡ take (a + n) t ++ get_or t (a + n) 0 ∷ [] = subst (λ (m : ℕ). take m t ≡ take (a + n) t ++ get_or t (a + n) 0 ∷ []) e1 one in
    let more : slice_range t a (suc (a + n)) ≡ slice_range t a (a + n) ++ get_or t (a + n) 0 ∷ [] = range_more t a (a + n) (omega arith) lt in
    let shorter : take (a + n) t ≡ take a t ++ slice_range t a (a + n) = up_to_by t a n (omega arith) in
    subst (λ (m : ℕ). take m t ≡ take a t ++ slice_range t a m) (sym e)
    (one' ∙ ap (λ (q : List ℕ). q ++ get_or t (a + n) 0 ∷ []) shorter ∙ append_assoc (take a t) (slice_range t a (a + n)) (get_or t (a + n) 0 ∷ []) ∙ ap (λ (q : List ℕ). take a t ++ q) (sym more))

-- a text up to e is the text up to a, and then the part from a to e
pub up_to : (t : List ℕ) (a e : ℕ) → a ≤ e → e ≤ length t → take e t ≡ take a t ++ slice_range t a e
up_to t a e h k =
    let s : a + (e - a) ≡ e = omega arith in
    let le : a + (e - a) ≤ length t = omega arith in
    subst (λ (m : ℕ). take m t ≡ take a t ++ slice_range t a m) s (up_to_by t a (e - a) le)

-- the same, where something follows
pub up_to_with : (t rest : List ℕ) (a e : ℕ) → a ≤ e → e ≤ length t → take e t ++ rest ≡ take a t ++ (slice_range t a e ++ rest)
up_to_with t rest a e h k = ap (λ (q : List ℕ). q ++ rest) (up_to t a e h k) ∙ append_assoc (take a t) (slice_range t a e) rest

pub length_range : (t : List ℕ) (a e : ℕ) → e ≤ length t → length (slice_range t a e) ≡ e - a
length_range t a e h = length-between t a e h

-- a part is its front and its back
range_split_by : (t : List ℕ) (a b n : ℕ) → a ≤ b → b + n ≤ length t → slice_range t a (b + n) ≡ slice_range t a b ++ slice_range t b (b + n)
range_split_by t a b zero h k =
    let e : b + 0 ≡ b = omega arith in
    subst (λ (m : ℕ). slice_range t a m ≡ slice_range t a b ++ slice_range t b m) (sym e) (sym (ap (λ (q : List ℕ). slice_range t a b ++ q) (range_none t b) ∙ append-nil (slice_range t a b)))
range_split_by t a b (suc n) h k =
    let e : b + suc n ≡ suc (b + n) = omega arith in
    let lt : b + n < length t = omega arith in
    let le : a ≤ b + n = omega arith in
    let g : List ℕ = get_or t (b + n) 0 ∷ [] in
    let shorter : slice_range t a (b + n) ≡ slice_range t a b ++ slice_range t b (b + n) = range_split_by t a b n h (omega arith) in
    subst (λ (m : ℕ). slice_range t a m ≡ slice_range t a b ++ slice_range t b m) (sym e)
    (range_more t a (b + n) le lt ∙ ap (λ (q : List ℕ). q ++ g) shorter ∙ append_assoc (slice_range t a b) (slice_range t b (b + n)) g
    ∙ ap (λ (q : List ℕ). slice_range t a b ++ q) (sym (range_more t b (b + n) (omega arith) lt)))

pub range_split : (t : List ℕ) (a b e : ℕ) → a ≤ b → b ≤ e → e ≤ length t → slice_range t a e ≡ slice_range t a b ++ slice_range t b e
range_split t a b e h k l =
    let s : b + (e - b) ≡ e = omega arith in
    let le : b + (e - b) ≤ length t = omega arith in
    subst (λ (m : ℕ). slice_range t a m ≡ slice_range t a b ++ slice_range t b m) s (range_split_by t a b (e - b) h le)

-- a part of one byte, and a part by its first byte
pub range_one : (t : List ℕ) (a : ℕ) → a < length t → slice_range t a (suc a) ≡ get_or t a 0 ∷ []
range_one t a h = range_more t a a (omega arith) h ∙ ap (λ (q : List ℕ). q ++ get_or t a 0 ∷ []) (range_none t a)

pub range_first : (t : List ℕ) (a e : ℕ) → a < e → e ≤ length t → slice_range t a e ≡ get_or t a 0 ∷ slice_range t (suc a) e
range_first t a e h k =
    range_split t a (suc a) e (omega arith) (omega arith) k ∙ ap (λ (q : List ℕ). q ++ slice_range t (suc a) e) (range_one t a (omega arith))

pub range_byte : (t : List ℕ) (a e j : ℕ) → a + j < e → get_or (slice_range t a e) j 0 ≡ get_or t (a + j) 0
range_byte t a e j h = get_or-between t a e j 0 h

-- two steps of one byte more
pub range_two : (t : List ℕ) (a : ℕ) → suc a < length t → slice_range t a (suc (suc a)) ≡ get_or t a 0 ∷ get_or t (suc a) 0 ∷ []
range_two t a h = range_first t a (suc (suc a)) (omega arith) (omega arith) ∙ ap (λ (q : List ℕ). get_or t a 0 ∷ q) (range_one t (suc a) h)

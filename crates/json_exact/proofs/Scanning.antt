-- One byte more in a scan.
use Rattle.std.proofs.Common.{◌≡◌, ◌≢◌, ℕ, zero, suc, ◌+◌, ◌-◌, ◌<◌, ◌≤◌, List, [], ◌∷◌, ◌++◌, length, get_or, drop, Bool, true, false, cond, refl, sym, ◌∙◌, ap, subst, arith, ◌⊎◌, inl, inr, Result, Ok, Err}
use Rattle.std.specs.Prelude.{slice_range, MatchResult}
use denote.Enum.Bare.{sameb}
use Rattle.json_exact.specs.contracts.scan.Last.{the_type}
use Rattle.std.proofs.lemmas.Bool.{both_ways, cases_lt}
use Rattle.std.proofs.lemmas.List.{drop_more}
use Rattle.json_exact.specs.Characters.{Way, refused, whole, step, steps, character, AreCharacters, is_d, is_low_digit, is_high_digit, is_plain}
use Rattle.json_exact.specs.Scans.{then, written, way_of, accepts, PassesWay, StopsWay, PassesCharacter, StopsCharacter, StopsString, IsHalf}
use Rattle.json_exact.specs.declared.strings.Class.{Class}
use Rattle.json_exact.specs.JsonText.{is_blank, AreBlanks}
use Rattle.json_exact.specs.declared.scan.Last.{Last}
use Rattle.json_exact.specs.declared.scan.Last.TheVariants.{Nothing, Misplaced}
use Rattle.json_exact.proofs.Ranges.{range_more, range_one, range_first, range_none, range_byte, range_split, length_range}
use Rattle.json_exact.proofs.Digits.{written-append}
use Rattle.json_exact.proofs.Walks.{steps-append}

one_more : (t : List ℕ) (a i : ℕ) → a ≤ i → i < length t → slice_range t a (i + 1) ≡ slice_range t a i ++ get_or t i 0 ∷ []
one_more t a i h k =
    let e : suc i ≡ i + 1 = omega arith in
    subst (λ (m : ℕ). slice_range t a m ≡ slice_range t a i ++ get_or t i 0 ∷ []) e (range_more t a i h k)

blanks_push : (bs : List ℕ) (b : ℕ) → AreBlanks bs → is_blank b ≡ true → AreBlanks (bs ++ b ∷ [])
blanks_push [] b h k = (k, tt)
blanks_push (c ∷ bs) b h k = (h.0, blanks_push bs b h.1 k)

pub blanks_step : (t : List ℕ) (a i : ℕ) → a ≤ i → i < length t → AreBlanks (slice_range t a i) → is_blank (get_or t i 0) ≡ true → AreBlanks (slice_range t a (i + 1))
blanks_step t a i h k b e = subst AreBlanks (sym (one_more t a i h k)) (blanks_push (slice_range t a i) (get_or t i 0) b e)

pub written_step : (t : List ℕ) (a i : ℕ) (s x : Last) → a ≤ i → i < length t → written Nothing (slice_range t a i) ≡ s → x ≡ then s (get_or t i 0) → written Nothing (slice_range t a (i + 1)) ≡ x
written_step t a i s x h k e f =
    ap (written Nothing) (one_more t a i h k) ∙ written-append Nothing (slice_range t a i) (get_or t i 0 ∷ []) ∙ ap (λ (l : Last). then l (get_or t i 0)) e ∙ sym f

pub steps_step : (w v : Way) (t : List ℕ) (a i : ℕ) → a ≤ i → i < length t → steps w (slice_range t a i) ≡ v → steps w (slice_range t a (i + 1)) ≡ step v (get_or t i 0)
steps_step w v t a i h k e =
    ap (steps w) (one_more t a i h k) ∙ steps-append w (slice_range t a i) (get_or t i 0 ∷ []) ∙ ap (λ (x : Way). step x (get_or t i 0)) e

pub not_misplaced : (s : Last) → sameb the_type s Misplaced ≡ false → s ≢ Misplaced
not_misplaced s h e = both_ways (sameb the_type s Misplaced) h (ap (λ (l : Last). sameb the_type l Misplaced) e ∙ refl)

-- ---- a character, byte by byte

within_range : (t : List ℕ) (w : Way) (a e : ℕ) → a < e → e ≤ length t → steps w (slice_range t a e) ≡ steps (step w (get_or t a 0)) (slice_range t (suc a) e)
within_range t w a e h k = ap (steps w) (range_first t a e h k)

pub pass_on : (w v : Way) (t : List ℕ) (a e : ℕ) → a < length t → step w (get_or t a 0) ≡ v → PassesWay v t (suc a) e → PassesWay w t a e
pass_on w v t a e h s p =
    let f : suc a ≤ e = p.forward in
    record { forward = omega arith; in_text = p.in_text; written = within_range t w a e (omega arith) p.in_text ∙ ap (λ (x : Way). steps x (slice_range t (suc a) e)) s ∙ p.written }

pub pass_here : (w : Way) (t : List ℕ) (a : ℕ) → a < length t → step w (get_or t a 0) ≡ whole → PassesWay w t a (suc a)
pass_here w t a h s = record { forward = omega arith; in_text = omega arith; written = ap (steps w) (range_one t a h) ∙ s }

inside_by : (w v : Way) (t : List ℕ) (a k j : ℕ) → k ≤ length t → w ≢ whole → step w (get_or t a 0) ≡ v
    → ((i : ℕ) → suc a ≤ i → i ≤ k → steps v (slice_range t (suc a) i) ≢ whole) → a ≤ j → j ≤ k → ((j < suc a) ⊎ (suc a ≤ j)) → steps w (slice_range t a j) ≢ whole
inside_by w v t a k j l n s inside h m (inl lt) e =
    let here : j ≡ a = omega arith in
    n (sym (ap (λ (i : ℕ). steps w (slice_range t a i)) here ∙ ap (steps w) (range_none t a)) ∙ e)
inside_by w v t a k j l n s inside h m (inr le) e =
    inside j le m (ap (λ (x : Way). steps x (slice_range t (suc a) j)) (sym s) ∙ sym (within_range t w a j (omega arith) (omega arith)) ∙ e)

pub stop_on : (w v : Way) (t : List ℕ) (a k : ℕ) → a < length t → w ≢ whole → step w (get_or t a 0) ≡ v → StopsWay v t (suc a) k → StopsWay w t a k
stop_on w v t a k h n s p =
    let f : suc a ≤ k = p.forward in
    let l : k ≤ length t = p.in_text in
    record {
      forward = omega arith;
      in_text = l;
      inside = λ j le m. inside_by w v t a k j l n s p.inside le m (cases_lt j (suc a));
      before = λ e. p.before (ap (λ (x : Way). steps x (slice_range t (suc a) k)) (sym s) ∙ sym (within_range t w a k (omega arith) l) ∙ e);
      byte = λ in'. within_range t w a (suc k) (omega arith) (omega arith) ∙ ap (λ (x : Way). steps x (slice_range t (suc a) (suc k))) s ∙ p.byte in';
    }

here_by : (w : Way) (t : List ℕ) (a j : ℕ) (x : Way) → a ≤ j → j ≤ a → w ≢ x → steps w (slice_range t a j) ≢ x
here_by w t a j x h k n e =
    let here : j ≡ a = omega arith in
    n (sym (ap (λ (i : ℕ). steps w (slice_range t a i)) here ∙ ap (steps w) (range_none t a)) ∙ e)

pub stop_here : (w : Way) (t : List ℕ) (a : ℕ) → a < length t → w ≢ whole → w ≢ refused → step w (get_or t a 0) ≡ refused → StopsWay w t a a
stop_here w t a h n m s = record {
  forward = omega arith;
  in_text = omega arith;
  inside = λ j le l. here_by w t a j whole le l n;
  before = here_by w t a a refused (omega arith) (omega arith) m;
  byte = λ in'. ap (steps w) (range_one t a h) ∙ s;
}

pub stop_end : (w : Way) (t : List ℕ) (a : ℕ) → a ≡ length t → w ≢ whole → w ≢ refused → StopsWay w t a a
stop_end w t a h n m = record {
  forward = omega arith;
  in_text = omega arith;
  inside = λ j le l. here_by w t a j whole le l n;
  before = here_by w t a a refused (omega arith) (omega arith) m;
  byte = λ in'. absurd (omega arith);
}

-- a character whose first byte leads to a way
pub character_passes : (v : Way) (t : List ℕ) (a e : ℕ) → a < length t → character (get_or t a 0) ≡ v → PassesWay v t (suc a) e → PassesCharacter t a e
character_passes v t a e h s p =
    let f : suc a ≤ e = p.forward in
    record { forward = f; in_text = p.in_text; characters = within_range t whole a e f p.in_text ∙ ap (λ (x : Way). steps x (slice_range t (suc a) e)) s ∙ p.written }

pub character_stops : (v : Way) (t : List ℕ) (a k : ℕ) → a < length t → character (get_or t a 0) ≡ v → StopsWay v t (suc a) k → StopsCharacter t a k
character_stops v t a k h s p =
    let f : suc a ≤ k = p.forward in
    let l : k ≤ length t = p.in_text in
    record {
      forward = omega arith;
      in_text = l;
      inside = λ j lt m e. p.inside j lt m (ap (λ (x : Way). steps x (slice_range t (suc a) j)) (sym s) ∙ sym (within_range t whole a j lt (omega arith)) ∙ e);
      before = λ e. p.before (ap (λ (x : Way). steps x (slice_range t (suc a) k)) (sym s) ∙ sym (within_range t whole a k f l) ∙ e);
      byte = λ in'. within_range t whole a (suc k) (omega arith) (omega arith) ∙ ap (λ (x : Way). steps x (slice_range t (suc a) (suc k))) s ∙ p.byte in';
    }

pub character_stops_here : (t : List ℕ) (a : ℕ) → a < length t → character (get_or t a 0) ≡ refused → StopsCharacter t a a
character_stops_here t a h s = record {
  forward = omega arith;
  in_text = omega arith;
  inside = λ j lt m. absurd (omega arith);
  before = here_by whole t a a refused (omega arith) (omega arith) (λ e. cc);
  byte = λ in'. ap (steps whole) (range_one t a h) ∙ s;
}

-- ---- a choice of ways

pub off : {A : Type 0} (b : Bool) (x y z : A) → b ≡ false → y ≡ z → cond b x y ≡ z
off true x y z e h = cc
off false x y z e h = h

pub on : {A : Type 0} (b : Bool) (x y z : A) → b ≡ true → x ≡ z → cond b x y ≡ z
on true x y z e h = h
on false x y z e h = cc

pub row_more : (row : List Class) (i : ℕ) (d : Class) (b : ℕ) → i < length row → accepts (get_or row i d) b ≡ true → step (way_of (drop i row)) b ≡ way_of (drop (i + 1) row)
row_more row i d b h k =
    ap (λ (x : List Class). step (way_of x) b) (drop_more row i d h) ∙ on (accepts (get_or row i d) b) (way_of (drop (i + 1) row)) refused (way_of (drop (i + 1) row)) k refl

pub row_less : (row : List Class) (i : ℕ) (d : Class) (b : ℕ) → i < length row → accepts (get_or row i d) b ≡ false → step (way_of (drop i row)) b ≡ refused
row_less row i d b h k =
    ap (λ (x : List Class). step (way_of x) b) (drop_more row i d h) ∙ off (accepts (get_or row i d) b) (way_of (drop (i + 1) row)) refused refused k refl

row_next : (row : List Class) (i : ℕ) → i < length row → (c : Class) × (cs : List Class) × (drop i row ≡ c ∷ cs)
row_next [] i h = absurd (omega arith)
row_next (c ∷ row) zero h = (c, row, refl)
row_next (c ∷ row) (suc i) h = row_next row i (omega arith)

pub row_not_whole : (row : List Class) (i : ℕ) → i < length row → way_of (drop i row) ≢ whole
row_not_whole row i h e = (let n = row_next row i h in let f : way_of (n.0 ∷ n.1) ≡ whole = ap way_of (sym n.2) ∙ e in cc)

pub row_not_refused : (row : List Class) (i : ℕ) → i < length row → way_of (drop i row) ≢ refused
row_not_refused row i h e = (let n = row_next row i h in let f : way_of (n.0 ∷ n.1) ≡ refused = ap way_of (sym n.2) ∙ e in cc)

inside_more : (w : Way) (t : List ℕ) (a i j : ℕ) → ((k : ℕ) → a ≤ k → k < i → steps w (slice_range t a k) ≢ whole) → steps w (slice_range t a i) ≢ whole
    → a ≤ j → j ≤ i → ((j < i) ⊎ (i ≤ j)) → steps w (slice_range t a j) ≢ whole
inside_more w t a i j below here h k (inl lt) = below j h lt
inside_more w t a i j below here h k (inr le) = (let e : j ≡ i = omega arith in subst (λ (m : ℕ). steps w (slice_range t a m) ≢ whole) (sym e) here)

-- a row that stops
pub row_stops : (row : List Class) (n : ℕ) (t : List ℕ) (a i : ℕ) → n < length row → a ≤ i → i ≤ length t → steps (way_of row) (slice_range t a i) ≡ way_of (drop n row)
    → ((j : ℕ) → a ≤ j → j < i → steps (way_of row) (slice_range t a j) ≢ whole) → (i < length t → step (way_of (drop n row)) (get_or t i 0) ≡ refused) → StopsWay (way_of row) t a i
row_stops row n t a i h k l e below stuck = record {
  forward = k;
  in_text = l;
  inside = λ j le m. inside_more (way_of row) t a i j below (λ w. row_not_whole row n h (sym e ∙ w)) le m (cases_lt j i);
  before = λ w. row_not_refused row n h (sym e ∙ w);
  byte = λ in'. ap (steps (way_of row)) (range_more t a i k in') ∙ steps-append (way_of row) (slice_range t a i) (get_or t i 0 ∷ []) ∙ ap (λ (x : Way). step x (get_or t i 0)) e ∙ stuck in';
}

pub row_inside : (row : List Class) (n : ℕ) (t : List ℕ) (a i j : ℕ) → n < length row → steps (way_of row) (slice_range t a i) ≡ way_of (drop n row)
    → ((k : ℕ) → a ≤ k → k < i → steps (way_of row) (slice_range t a k) ≢ whole) → a ≤ j → j < i + 1 → steps (way_of row) (slice_range t a j) ≢ whole
row_inside row n t a i j h e below k l = inside_more (way_of row) t a i j below (λ w. row_not_whole row n h (sym e ∙ w)) k (omega arith) (cases_lt j i)

-- ---- what a reader of the rest answers, answered for the whole

pub way_on : (w v : Way) (t : List ℕ) (a : ℕ) (r : Result ℕ ℕ) → a < length t → w ≢ whole → step w (get_or t a 0) ≡ v
    → MatchResult r (PassesWay v t (a + 1)) (StopsWay v t (a + 1)) → MatchResult r (PassesWay w t a) (StopsWay w t a)
way_on w v t a (Ok e) h n s p = (let one' : a + 1 ≡ suc a = omega arith in pass_on w v t a e h s (subst (λ (m : ℕ). PassesWay v t m e) one' p))
way_on w v t a (Err k) h n s p = (let one' : a + 1 ≡ suc a = omega arith in stop_on w v t a k h n s (subst (λ (m : ℕ). StopsWay v t m k) one' p))

pub character_on : (v : Way) (t : List ℕ) (a : ℕ) (r : Result ℕ ℕ) → a < length t → character (get_or t a 0) ≡ v
    → MatchResult r (PassesWay v t (a + 1)) (StopsWay v t (a + 1)) → MatchResult r (PassesCharacter t a) (StopsCharacter t a)
character_on v t a (Ok e) h s p = (let one' : a + 1 ≡ suc a = omega arith in character_passes v t a e h s (subst (λ (m : ℕ). PassesWay v t m e) one' p))
character_on v t a (Err k) h s p = (let one' : a + 1 ≡ suc a = omega arith in character_stops v t a k h s (subst (λ (m : ℕ). StopsWay v t m k) one' p))

-- ---- a surrogate's escape

pub half_if : (t : List ℕ) (a k : ℕ) → k < length t → a + 3 ≤ k → get_or t a 0 ≡ 92 → get_or t (a + 1) 0 ≡ 117 → is_d (get_or t (a + 2) 0) ≡ true
    → ((is_low_digit (get_or t (a + 3) 0) ≡ true) ⊎ ((is_high_digit (get_or t (a + 3) 0) ≡ true) × (a + 6 ≤ k))) → IsHalf t a k
half_if t a k in' h b u d l =
    let a1 : suc a ≡ a + 1 = omega arith in
    let a2 : suc (suc a) ≡ a + 2 = omega arith in
    let a3 : suc (suc (suc a)) ≡ a + 3 = omega arith in
    let r : List ℕ = slice_range t (suc (suc (suc (suc a)))) (suc k) in
    let e : slice_range t a (suc k) ≡ get_or t a 0 ∷ get_or t (suc a) 0 ∷ get_or t (suc (suc a)) 0 ∷ get_or t (suc (suc (suc a))) 0 ∷ r
    = range_first t a (suc k) (omega arith) (omega arith) ∙ ap (λ (q : List ℕ). get_or t a 0 ∷ q) (range_first t (suc a) (suc k) (omega arith) (omega arith)
    ∙ ap (λ (q : List ℕ). get_or t (suc a) 0 ∷ q) (range_first t (suc (suc a)) (suc k) (omega arith) (omega arith)
    ∙ ap (λ (q : List ℕ). get_or t (suc (suc a)) 0 ∷ q) (range_first t (suc (suc (suc a))) (suc k) (omega arith) (omega arith)))) in
    let u' : get_or t (suc a) 0 ≡ 117 = ap (λ (m : ℕ). get_or t m 0) a1 ∙ u in
    let d' : is_d (get_or t (suc (suc a)) 0) ≡ true = ap (λ (m : ℕ). is_d (get_or t m 0)) a2 ∙ d in
    let e' : slice_range t a (suc k) ≡ 92 ∷ 117 ∷ get_or t (suc (suc a)) 0 ∷ get_or t (suc (suc (suc a))) 0 ∷ r
    = e ∙ ap (λ (x : ℕ). x ∷ get_or t (suc a) 0 ∷ get_or t (suc (suc a)) 0 ∷ get_or t (suc (suc (suc a))) 0 ∷ r) b
    ∙ ap (λ (x : ℕ). 92 ∷ x ∷ get_or t (suc (suc a)) 0 ∷ get_or t (suc (suc (suc a))) 0 ∷ r) u' in
    let len : length r ≡ suc k - suc (suc (suc (suc a))) = length_range t (suc (suc (suc (suc a)))) (suc k) (omega arith) in
    let last : (is_low_digit (get_or t (suc (suc (suc a))) 0) ≡ true) ⊎ ((is_high_digit (get_or t (suc (suc (suc a))) 0) ≡ true) × (2 < length r))
    = elim l [
      | inl x ↦ inl (ap (λ (m : ℕ). is_low_digit (get_or t m 0)) a3 ∙ x)
      | inr x ↦ inr (ap (λ (m : ℕ). is_high_digit (get_or t m 0)) a3 ∙ x.0, omega (arith, x.1))
    ] in
    record { stops_inside = in'; surrogate = (get_or t (suc (suc a)) 0, get_or t (suc (suc (suc a))) 0, r, e', d', last) }

half_byte : (t : List ℕ) (a k j x : ℕ) (q : List ℕ) → slice_range t a (suc k) ≡ q → a + j < suc k → get_or q j 0 ≡ x → get_or t (a + j) 0 ≡ x
half_byte t a k j x q e h f = sym (range_byte t a (suc k) j h) ∙ ap (λ (y : List ℕ). get_or y j 0) e ∙ f

pub record Half (t : List ℕ) (a k : ℕ) : Type 0 where
  pub in_text : k < length t
  pub long : a + 3 ≤ k
  pub backslash : get_or t a 0 ≡ 92
  pub u : get_or t (a + 1) 0 ≡ 117
  pub d : is_d (get_or t (a + 2) 0) ≡ true
  pub digit : (is_low_digit (get_or t (a + 3) 0) ≡ true) ⊎ ((is_high_digit (get_or t (a + 3) 0) ≡ true) × (a + 6 ≤ k))

pub half_only : (t : List ℕ) (a k : ℕ) → a ≤ k → IsHalf t a k → Half t a k
half_only t a k le h =
    let in' : k < length t = h.stops_inside in
    let s = h.surrogate in
    let q : List ℕ = 92 ∷ 117 ∷ s.0 ∷ s.1 ∷ s.2 in
    let len : suc k - a ≡ length q = sym (length_range t a (suc k) in') ∙ ap length s.3 in
    let long : a + 3 ≤ k = omega arith in
    let z : a + 0 ≡ a = omega arith in
    let b0 : get_or t (a + 0) 0 ≡ 92 = half_byte t a k 0 92 q s.3 (omega arith) refl in
    let b1 : get_or t (a + 1) 0 ≡ 117 = half_byte t a k 1 117 q s.3 (omega arith) refl in
    let b2 : get_or t (a + 2) 0 ≡ s.0 = half_byte t a k 2 s.0 q s.3 (omega arith) refl in
    let b3 : get_or t (a + 3) 0 ≡ s.1 = half_byte t a k 3 s.1 q s.3 (omega arith) refl in
    record {
      in_text = in';
      long = long;
      backslash = subst (λ (m : ℕ). get_or t m 0 ≡ 92) z b0;
      u = b1;
      d = ap is_d b2 ∙ s.4;
      digit = elim s.5 [ inl x ↦ inl (ap is_low_digit b3 ∙ x) | inr x ↦ inr (ap is_high_digit b3 ∙ x.0, omega (arith, x.1)) ];
    }

-- ---- a string, character by character

pub characters_on : (t : List ℕ) (a i e : ℕ) → a ≤ i → AreCharacters (slice_range t a i) → PassesCharacter t i e → AreCharacters (slice_range t a e)
characters_on t a i e h w p =
    let f : i < e = p.forward in
    ap (steps whole) (range_split t a i e h (omega arith) p.in_text) ∙ steps-append whole (slice_range t a i) (slice_range t i e) ∙ ap (λ (x : Way). steps x (slice_range t i e)) w ∙ p.characters

pub plain_on : (t : List ℕ) (a i : ℕ) → a ≤ i → i < length t → AreCharacters (slice_range t a i) → is_plain (get_or t i 0) ≡ true → AreCharacters (slice_range t a (i + 1))
plain_on t a i h k w p =
    ap (steps whole) (one_more t a i h k) ∙ steps-append whole (slice_range t a i) (get_or t i 0 ∷ []) ∙ ap (λ (x : Way). step x (get_or t i 0)) w
    ∙ on (is_plain (get_or t i 0)) whole _ whole p refl

shift : (t : List ℕ) (a i j : ℕ) → a ≤ i → i ≤ j → j ≤ length t → AreCharacters (slice_range t a i) → steps whole (slice_range t a j) ≡ steps whole (slice_range t i j)
shift t a i j h k l w = ap (steps whole) (range_split t a i j h k l) ∙ steps-append whole (slice_range t a i) (slice_range t i j) ∙ ap (λ (x : Way). steps x (slice_range t i j)) w

pub string_stops_at : (t : List ℕ) (a i k : ℕ) → a ≤ i → i < length t → AreCharacters (slice_range t a i) → get_or t i 0 ≢ 34 → StopsCharacter t i k → StopsString t a i k
string_stops_at t a i k h lt w q p =
    let f : i ≤ k = p.forward in
    let l : k ≤ length t = p.in_text in
    record {
      forward = h;
      order = f;
      in_text = l;
      characters = w;
      inside = λ j m n e. p.inside j m n (sym (shift t a i j h (omega arith) (omega arith) w) ∙ e);
      before = λ e. p.before (sym (shift t a i k h f l w) ∙ e);
      quote = λ in' e x. q (ap (λ (m : ℕ). get_or t m 0) e ∙ x);
      byte = λ in'. shift t a i (suc k) h (omega arith) (omega arith) w ∙ p.byte in';
    }

pub string_stops_end : (t : List ℕ) (a i : ℕ) → a ≤ i → i ≡ length t → AreCharacters (slice_range t a i) → StopsString t a i i
string_stops_end t a i h e w = record {
  forward = h;
  order = omega arith;
  in_text = omega arith;
  characters = w;
  inside = λ j m n. absurd (omega arith);
  before = λ x. (let y : whole ≡ refused = sym w ∙ x in cc);
  quote = λ in'. absurd (omega arith);
  byte = λ in'. absurd (omega arith);
}

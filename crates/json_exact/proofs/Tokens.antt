-- Where the tokens stop, as a refusal of the text.
use Rattle.std.proofs.Common.{◌≡◌, ◌≢◌, ℕ, zero, suc, ◌+◌, ◌-◌, ◌<◌, ◌≤◌, List, [], ◌∷◌, ◌++◌, length, get_or, take, Bool, true, false, cond, refl, sym, ◌∙◌, ap, subst, arith, ◌⊎◌, inl, inr, eqb, append_assoc}
use Rattle.std.proofs.lemmas.Bool.{both_ways, eqb-false, eqb-true}
use Rattle.json_exact.specs.Json.{Word, null_word, true_word, false_word, string, Bracket, square, curly, Json}
use Rattle.json_exact.specs.JsonNumbers.{is_digit}
use Rattle.json_exact.specs.Scans.{is_in_number, then, written, may_end}
use Rattle.json_exact.specs.JsonText.{is_blank, AreBlanks, Blanks, letters, opening, closing}
use Rattle.json_exact.specs.JsonRests.{Frame, Before, BeforeName, Limit, any, no_number, no_closing, Counts}
use Rattle.json_exact.specs.declared.scan.Last.{Last}
use Rattle.json_exact.specs.declared.scan.Last.TheVariants.{Nothing, Minus, Zero, Whole, Misplaced}
use Rattle.json_exact.proofs.Digits.{in_number}
use Rattle.json_exact.proofs.Blanks.{Firm, firm_prefix, closing_firm}
use Rattle.json_exact.proofs.Steps.{heads}
use Rattle.std.proofs.lemmas.Bool.{cases_lt}
use Rattle.std.specs.Prelude.{slice_range, slice_index}
use Rattle.json_exact.specs.JsonRefusals.{depth_limit, IsBad}
use Rattle.json_exact.specs.Scans.{StopsWord, StopsNumber}
use Rattle.json_exact.specs.JsonRests.{Agrees, IsOpenFor, IsHere, StopsLeaf, no_leaf, in_word, in_number as stops_number, in_string}
use Rattle.json_exact.proofs.Ranges.{range_first, range_none, range_more, range_one, range_byte, length_range}
use Rattle.json_exact.proofs.Blanks.{blanks_pass, spells_firm, spells_leaf_firm}
use Rattle.json_exact.proofs.Steps.{value_not_closing, leaf_not_closing}
use Rattle.json_exact.proofs.Scanning.{on, off}
use Rattle.json_exact.proofs.Stuck as stuck
use Rattle.json_exact.proofs.Endings.{EndsBehind, before_ends, word_ends, number_ends_so, string_ends, name_ends, same_prefix}
use Rattle.json_exact.proofs.Agreeing.{Halts, bad_here, TakesString, string_stops}

-- ---- which rests count

pub blanks_same : (t : List ℕ) (c : ℕ) (s r : List ℕ) → is_blank c ≡ false → Firm r → Blanks t (c ∷ s) → Blanks t r → r ≡ c ∷ s
blanks_same t c s r f g h k =
    firm_prefix c s r f (blanks_pass h.0 (c ∷ s) r h.1 g (subst (λ (q : List ℕ). Blanks q r) h.2 k))

pub before_counts : (d n : ℕ) (fs : List Frame) (b : Bracket) (rest : List ℕ) (v : Json) → Before d n fs rest v → Counts (no_closing b) rest
before_counts d n fs b rest v (w, s, t, bl, sp, bh) c h =
    let at : s ≡ closing b ∷ c = blanks_same rest (closing b) c s (closing_firm b) (spells_firm n _ w s t sp) h bl in
    value_not_closing n _ w b c t s at sp

pub name_counts : (d n : ℕ) (f : Frame) (fs : List Frame) (b : Bracket) (rest : List ℕ) (v : Json) → BeforeName d n f fs rest v → Counts (no_closing b) rest
name_counts d n f fs b rest v (name, s, r, u, bl, sl, bc, bf) c h =
    let at : s ≡ closing b ∷ c = blanks_same rest (closing b) c s (closing_firm b) (spells_leaf_firm n (string name.text) name.from name.to s r sl) h bl in
    leaf_not_closing n (string name.text) name.from name.to b c r s at sl

-- a limit that lets a part begin
abbrev pub Wide : Limit → Type 0
Wide any = Unit {0}
Wide no_number = ⊥
Wide (no_closing b) = Unit {0}

pub wide_here : (limit : Limit) (c : ℕ) → IsOpenFor limit c → Wide limit
wide_here any c h = tt
wide_here no_number c h = h
wide_here (no_closing b) c h = tt

pub wide_before : (limit : Limit) (d n : ℕ) (fs : List Frame) (rest : List ℕ) (v : Json) → Wide limit → Before d n fs rest v → Counts limit rest
wide_before any d n fs rest v w h = tt
wide_before no_number d n fs rest v w h = absurd w
wide_before (no_closing b) d n fs rest v w h = before_counts d n fs b rest v h

pub wide_name : (limit : Limit) (d n : ℕ) (f : Frame) (fs : List Frame) (rest : List ℕ) (v : Json) → Wide limit → BeforeName d n f fs rest v → Counts limit rest
wide_name any d n f fs rest v w h = tt
wide_name no_number d n f fs rest v w h = absurd w
wide_name (no_closing b) d n f fs rest v w h = name_counts d n f fs b rest v h

-- a token that stands there counts
pub token_counts : (limit : Limit) (c : ℕ) (q : List ℕ) → is_blank c ≡ false → IsOpenFor limit c → Counts limit (c ∷ q)
token_counts any c q f h = tt
token_counts no_number c q f h = absurd h
token_counts (no_closing b) c q f h = λ s bl. h (sym (heads (closing b) c s q (firm_prefix c q (closing b ∷ s) f bl)))

pub prefix_counts : (limit : Limit) (text : List ℕ) (at e : ℕ) (rest : List ℕ) → at < e → e ≤ length text → IsHere text at limit → Counts limit (slice_range text at e ++ rest)
prefix_counts limit text at e rest h k here =
    subst (λ (q : List ℕ). Counts limit (q ++ rest)) (sym (range_first text at e h k)) (token_counts limit (slice_index text at) (slice_range text (suc at) e ++ rest) here.firm here.allowed)

prefix_counts' : (limit : Limit) (text : List ℕ) (at e : ℕ) → at < e → e ≤ length text → IsHere text at limit → Counts limit (slice_range text at e)
prefix_counts' limit text at e h k here =
    subst (λ (q : List ℕ). Counts limit q) (sym (range_first text at e h k)) (token_counts limit (slice_index text at) (slice_range text (suc at) e) here.firm here.allowed)

-- ---- a token that stops

pub token_halts : (text : List ℕ) (at k : ℕ) (limit : Limit) (Rest : ℕ → ℕ → List ℕ → Json → Type 0) → at ≤ k → k ≤ length text → IsHere text at limit
    → ((n : ℕ) (rest : List ℕ) (v : Json) → Rest depth_limit n rest v → Counts limit rest)
    → EndsBehind depth_limit at (slice_range text at k) Rest
    → (k < length text → (more n : ℕ) (rest : List ℕ) (v : Json) → Rest (depth_limit + more) n (slice_range text at (suc k) ++ rest) v → ⊥)
    → (k ≡ length text → (more n : ℕ) (v : Json) → Rest (depth_limit + more) n (slice_range text at k) v → ⊥)
    → Halts text at k limit Rest
token_halts text at k limit Rest h j here rc alive dead over = record {
  alive = alive;
  alive_counts = λ rest v r. rc _ (slice_range text at k ++ rest) v r;
  dead = dead;
  dead_counts = λ in' rest. prefix_counts limit text at (suc k) rest (omega arith) (omega arith) here;
  over = over;
  over_counts = λ e. (let in' : at < length text = here.in_text in prefix_counts' limit text at k (omega arith) j here);
}

-- no token stands there
pub other_halts : (text : List ℕ) (at : ℕ) (limit : Limit) (Rest : ℕ → ℕ → List ℕ → Json → Type 0) → at < length text
    → ((n : ℕ) (rest : List ℕ) (v : Json) → Rest depth_limit n rest v → Counts limit rest) → ((rest : List ℕ) → Counts limit (slice_index text at ∷ rest))
    → EndsBehind depth_limit at [] Rest
    → ((more n : ℕ) (rest : List ℕ) (v : Json) → Rest (depth_limit + more) n (slice_index text at ∷ rest) v → ⊥)
    → Halts text at at limit Rest
other_halts text at limit Rest h rc counts alive dead = record {
  alive = same_prefix depth_limit at [] (slice_range text at at) Rest (sym (range_none text at)) alive;
  alive_counts = λ rest v r. rc _ (slice_range text at at ++ rest) v r;
  dead = λ in' more n rest v r. dead more n rest v (subst (λ (q : List ℕ). Rest (depth_limit + more) n (q ++ rest) v) (range_one text at h) r);
  dead_counts = λ in' rest. subst (λ (q : List ℕ). Counts limit (q ++ rest)) (sym (range_one text at h)) (counts rest);
  over = λ e. absurd (omega arith);
  over_counts = λ e. absurd (omega arith);
}

-- the text ends there
pub end_halts : (text : List ℕ) (at : ℕ) (limit : Limit) (Rest : ℕ → ℕ → List ℕ → Json → Type 0) → at ≡ length text
    → ((n : ℕ) (rest : List ℕ) (v : Json) → Rest depth_limit n rest v → Counts limit rest) → Counts limit []
    → EndsBehind depth_limit at [] Rest
    → ((more n : ℕ) (v : Json) → Rest (depth_limit + more) n [] v → ⊥)
    → Halts text at at limit Rest
end_halts text at limit Rest h rc counts alive over = record {
  alive = same_prefix depth_limit at [] (slice_range text at at) Rest (sym (range_none text at)) alive;
  alive_counts = λ rest v r. rc _ (slice_range text at at ++ rest) v r;
  dead = λ in'. absurd (omega arith);
  dead_counts = λ in'. absurd (omega arith);
  over = λ e more n v r. over more n v (subst (λ (q : List ℕ). Rest (depth_limit + more) n q v) (range_none text at) r);
  over_counts = λ e. subst (λ (q : List ℕ). Counts limit q) (sym (range_none text at)) counts;
}

nothing_between : (text : List ℕ) (at : ℕ) (s : ℕ) → at ≤ s → s < at → slice_index text s ≢ 92
nothing_between text at s h k = absurd (omega arith)

pub bad_at : (text : List ℕ) (at : ℕ) (limit : Limit) (Rest : ℕ → ℕ → List ℕ → Json → Type 0) → Agrees text at limit Rest → Halts text at at limit Rest → IsBad text at
bad_at text at limit Rest a h = bad_here text at at limit Rest a (omega arith) a.in_text h (nothing_between text at)

-- ---- a leaf that stops

pub takes_value : (fs : List Frame) → TakesString (λ d n. Before d n fs)
takes_value fs = record {
  dead = λ more n p b rest v s r. stuck.string_dead (depth_limit + more) n fs p b rest v s r;
  over = λ more n p v s r. stuck.string_end (depth_limit + more) n fs p v s r;
  ends = λ at p s. string_ends depth_limit at fs p s;
}

pub takes_name : (f : Frame) (fs : List Frame) → TakesString (λ d n. BeforeName d n f fs)
takes_name f fs = record {
  dead = λ more n p b rest v s r. stuck.name_dead (depth_limit + more) n f fs p b rest v s r;
  over = λ more n p v s r. stuck.name_end (depth_limit + more) n f fs p v s r;
  ends = λ at p s. name_ends depth_limit at f fs p s;
}

-- the bytes of a part that are those of a list below are none but backslashes if that has none
in_prefix : (text : List ℕ) (at k s : ℕ) (q : List ℕ) → slice_range text at k ≡ q → at ≤ s → s < k → get_or q (s - at) 0 ≡ slice_index text s
in_prefix text at k s q e h j =
    let z : at + (s - at) ≡ s = omega arith in
    let b : get_or (slice_range text at k) (s - at) 0 ≡ get_or text (at + (s - at)) 0 = range_byte text at k (s - at) (omega arith) in
    ap (λ (y : List ℕ). get_or y (s - at) 0) (sym e) ∙ b ∙ ap (λ (m : ℕ). get_or text m 0) z

abbrev pub All92 : List ℕ → Type 0
All92 [] = Unit {0}
All92 (b ∷ q) = (b ≢ 92) × All92 q

pub within_word : (w : Word) → All92 (letters w)
within_word null_word = (eqb-false 110 92 refl, (eqb-false 117 92 refl, (eqb-false 108 92 refl, (eqb-false 108 92 refl, tt))))
within_word true_word = (eqb-false 116 92 refl, (eqb-false 114 92 refl, (eqb-false 117 92 refl, (eqb-false 101 92 refl, tt))))
within_word false_word = (eqb-false 102 92 refl, (eqb-false 97 92 refl, (eqb-false 108 92 refl, (eqb-false 115 92 refl, (eqb-false 101 92 refl, tt)))))

pub all_at : (q : List ℕ) (i : ℕ) → i < length q → All92 q → get_or q i 0 ≢ 92
all_at [] i h a = absurd (omega arith)
all_at (b ∷ q) zero h a = a.0
all_at (b ∷ q) (suc i) h a = all_at q i (omega arith) a.1

pub all_take : (q : List ℕ) (i : ℕ) → All92 q → All92 (take i q)
all_take q zero a = tt
all_take [] (suc i) a = tt
all_take (b ∷ q) (suc i) a = (a.0, all_take q i a.1)

pub plain_part : (text : List ℕ) (at k : ℕ) (q : List ℕ) → k ≤ length text → slice_range text at k ≡ q → All92 q → (s : ℕ) → at ≤ s → s < k → slice_index text s ≢ 92
plain_part text at k q h e a s l m x =
    let len : length q ≡ k - at = ap length (sym e) ∙ length_range text at k h in
    all_at q (s - at) (omega arith) a (in_prefix text at k s q e l m ∙ x)

pub number_plain : (s : Last) (p : List ℕ) → written s p ≢ Misplaced → All92 p
number_plain s [] h = tt
number_plain s (b ∷ p) h =
    (λ e. both_ways (is_in_number 92) refl (subst (λ (x : ℕ). is_in_number x ≡ true) e (in_number s [] b p h)), number_plain (then s b) p h)

pub blanks_plain : (bs : List ℕ) → AreBlanks bs → All92 bs
blanks_plain [] h = tt
blanks_plain (b ∷ bs) h = (λ e. both_ways (is_blank 92) refl (subst (λ (x : ℕ). is_blank x ≡ true) e h.0), blanks_plain bs h.1)

not_opening : (c : ℕ) → c ≢ 91 → c ≢ 123 → (b : Bracket) → c ≢ opening b
not_opening c h k square e = h e
not_opening c h k curly e = k e

digit_is_no_minus : (c : ℕ) → is_digit c ≡ true → eqb c 45 ≡ false
digit_is_no_minus c d = elim (eqb c 45) as (λ v. eqb c 45 ≡ v → v ≡ false)
    [ true ↦ λ e. absurd (both_ways (is_digit 45) refl (ap is_digit (sym (eqb-true c 45 e)) ∙ d)) | false ↦ λ e. refl ] refl

false_if : (b : Bool) → (b ≡ true → ⊥) → b ≡ false
false_if true h = absurd (h refl)
false_if false h = refl

starts_placed : (c : ℕ) → ((c ≡ 45) ⊎ (is_digit c ≡ true)) → then Nothing c ≢ Misplaced
starts_placed c (inl e) h = (let x : then Nothing 45 ≡ Misplaced = ap (then Nothing) (sym e) ∙ h in cc)
starts_placed c (inr d) h =
    elim (eqb c 48) as (λ v. eqb c 48 ≡ v → ⊥) [
      | true ↦ λ e. (let x : then Nothing 48 ≡ Misplaced = ap (then Nothing) (sym (eqb-true c 48 e)) ∙ h in cc)
      | false ↦ λ e. (let y : then Nothing c ≡ Whole = off (eqb c 45) Minus (cond (eqb c 48) Zero (cond (is_digit c) Whole Misplaced)) Whole (digit_is_no_minus c d)
          (off (eqb c 48) Zero (cond (is_digit c) Whole Misplaced) Whole e (on (is_digit c) Whole Misplaced Whole d refl)) in let z : Whole ≡ Misplaced = sym y ∙ h in cc)
    ] refl

word_bad : (text : List ℕ) (at k i : ℕ) (limit : Limit) (fs : List Frame) (w : Word) → Agrees text at limit (λ d n. Before d n fs) → IsHere text at limit → k ≡ at + suc i
    → StopsWord text at (letters w) k → IsBad text k
word_bad text at k i limit fs w a here e h =
    let f : k ≤ length text = h.in_text in
    let lt : suc i < length (letters w) = omega (arith, h.shorter) in
    let size : k - at ≡ suc i = omega arith in
    let before : slice_range text at k ≡ take (suc i) (letters w) = h.before ∙ ap (λ (m : ℕ). take m (letters w)) size in
    let byte : k < length text → slice_index text k ≢ get_or (letters w) (suc i) 0 = λ in' x. h.byte in' (x ∙ ap (λ (m : ℕ). get_or (letters w) m 0) (sym size)) in
    let alive : EndsBehind depth_limit at (slice_range text at k) (λ d n. Before d n fs) = same_prefix depth_limit at (take (suc i) (letters w)) (slice_range text at k) (λ d n. Before d n fs) (sym before) (word_ends depth_limit at fs w (suc i)) in
    let t : Halts text at k limit (λ d n. Before d n fs) = token_halts text at k limit (λ d n. Before d n fs) (omega arith) f here (λ n rest v r. wide_before limit depth_limit n fs rest v (wide_here limit _ here.allowed) r) alive
    (λ in' more n rest v r. stuck.word_dead (depth_limit + more) n fs w i (slice_index text k) rest v lt (byte in')
    (subst (λ (q : List ℕ). Before (depth_limit + more) n fs q v)
    (ap (λ (q : List ℕ). q ++ rest) (range_more text at k (omega arith) in' ∙ ap (λ (q : List ℕ). q ++ slice_index text k ∷ []) before) ∙ append_assoc (take (suc i) (letters w)) (slice_index text k ∷ []) rest) r))
    (λ j more n v r. stuck.word_end (depth_limit + more) n fs w i v lt (subst (λ (q : List ℕ). Before (depth_limit + more) n fs q v) before r)) in
    bad_here text at k limit (λ d n. Before d n fs) a (omega arith) f t (plain_part text at k (take (suc i) (letters w)) f before (all_take (letters w) (suc i) (within_word w)))

number_bad : (text : List ℕ) (at k : ℕ) (limit : Limit) (fs : List Frame) → Agrees text at limit (λ d n. Before d n fs) → IsHere text at limit → at < k
    → ((slice_index text at ≡ 45) ⊎ (is_digit (slice_index text at) ≡ true)) → StopsNumber text at k → IsBad text k
number_bad text at k limit fs a here lt st h =
    let f : k ≤ length text = h.in_text in
    let c : ℕ = slice_index text at in
    let p : List ℕ = slice_range text (suc at) k in
    let all : slice_range text at k ≡ c ∷ p = range_first text at k lt f in
    let placed : written Nothing (c ∷ p) ≢ Misplaced = subst (λ (q : List ℕ). written Nothing q ≢ Misplaced) all h.before in
    let alive : EndsBehind depth_limit at (slice_range text at k) (λ d n. Before d n fs) = number_ends_so depth_limit at fs (slice_range text at k) h.before in
    let t : Halts text at k limit (λ d n. Before d n fs) = token_halts text at k limit (λ d n. Before d n fs) (omega arith) f here (λ n rest v r. wide_before limit depth_limit n fs rest v (wide_here limit _ here.allowed) r) alive
    (λ in' more n rest v r. stuck.number_dead (depth_limit + more) n fs c p (slice_index text k) rest v st placed
    (subst (λ (q : List ℕ). then (written Nothing q) (slice_index text k) ≡ Misplaced) all (h.byte in'))
    (λ e. (h.whole (ap (λ (q : List ℕ). may_end (written Nothing q)) all ∙ e)).1)
    (subst (λ (q : List ℕ). Before (depth_limit + more) n fs q v)
    (ap (λ (q : List ℕ). q ++ rest) (range_more text at k (omega arith) in' ∙ ap (λ (q : List ℕ). q ++ slice_index text k ∷ []) all) ∙ append_assoc (c ∷ p) (slice_index text k ∷ []) rest) r))
    (λ j more n v r. stuck.number_end (depth_limit + more) n fs c p v st placed
    (false_if (may_end (written Nothing (c ∷ p))) (λ e. (let w = h.whole (ap (λ (q : List ℕ). may_end (written Nothing q)) all ∙ e) in let in' : k < length text = w.0 in omega arith)))
    (subst (λ (q : List ℕ). Before (depth_limit + more) n fs q v) all r)) in
    bad_here text at k limit (λ d n. Before d n fs) a (omega arith) f t (plain_part text at k (slice_range text at k) f refl (number_plain Nothing (slice_range text at k) h.before))

number_bad_at : (text : List ℕ) (at k : ℕ) → ((slice_index text at ≡ 45) ⊎ (is_digit (slice_index text at) ≡ true)) → at < length text → StopsNumber text at k → ((at < k) ⊎ (k ≤ at)) → at < k
number_bad_at text at k st lt h (inl x) = x
number_bad_at text at k st lt h (inr x) =
    let f : at ≤ k = h.forward in
    let e : k ≡ at = omega arith in
    let b : then (written Nothing (slice_range text at k)) (slice_index text k) ≡ Misplaced = h.byte (omega arith) in
    let b' : then (written Nothing (slice_range text at at)) (slice_index text at) ≡ Misplaced = subst (λ (m : ℕ). then (written Nothing (slice_range text at m)) (slice_index text m) ≡ Misplaced) e b in
    absurd (starts_placed (slice_index text at) st (ap (λ (q : List ℕ). then (written Nothing q) (slice_index text at)) (sym (range_none text at)) ∙ b'))

word_longer : (text : List ℕ) (at k : ℕ) (w : Word) → slice_index text at ≡ slice_index (letters w) 0 → at < length text → StopsWord text at (letters w) k → ((at < k) ⊎ (k ≤ at)) → at < k
word_longer text at k w st lt h (inl x) = x
word_longer text at k w st lt h (inr x) =
    let f : at ≤ k = h.forward in
    let e : k ≡ at = omega arith in
    let z : k - at ≡ 0 = omega arith in
    absurd (h.byte (omega arith) (ap (λ (m : ℕ). slice_index text m) e ∙ st ∙ ap (λ (m : ℕ). slice_index (letters w) m) (sym z)))

pub leaf_bad : (text : List ℕ) (at k : ℕ) (limit : Limit) (fs : List Frame) → Agrees text at limit (λ d n. Before d n fs) → IsHere text at limit
    → slice_index text at ≢ 91 → slice_index text at ≢ 123 → StopsLeaf text at k → IsBad text k
leaf_bad text at k limit fs a here ne ne' (no_leaf e n1 n2 n3 n4 n5 n6) =
    subst (λ (m : ℕ). IsBad text m) (sym e)
    (bad_at text at limit (λ d n. Before d n fs) a
    (other_halts text at limit (λ d n. Before d n fs) here.in_text (λ n rest v r. wide_before limit depth_limit n fs rest v (wide_here limit _ here.allowed) r)
    (λ rest. token_counts limit (slice_index text at) rest here.firm here.allowed) (before_ends depth_limit at fs)
    (λ more n rest v r. stuck.before_dead (depth_limit + more) n fs (slice_index text at) rest v here.firm (not_opening (slice_index text at) ne ne') (stuck.no_leaf (slice_index text at) n1 n2 n3 n4 n5 n6) r)))
leaf_bad text at k limit fs a here ne ne' (in_word w st h) =
    let lt : at < k = word_longer text at k w st here.in_text h (cases_lt at k) in
    word_bad text at k (k - at - 1) limit fs w a here (omega arith) h
leaf_bad text at k limit fs a here ne ne' (stops_number st h) =
    number_bad text at k limit fs a here (number_bad_at text at k st here.in_text h (cases_lt at k)) st h
leaf_bad text at k limit fs a here ne ne' (in_string q h) =
    string_stops text at k limit (λ d n. Before d n fs) a (takes_value fs) (λ r. token_counts limit 34 r refl (subst (IsOpenFor limit) q here.allowed)) q h

-- From point to point of a text, and where it stops.
use Rattle.std.proofs.Common.{◌≡◌, ◌≢◌, ℕ, suc, ◌+◌, ◌-◌, ◌<◌, ◌≤◌, List, [], ◌∷◌, ◌++◌, length, get_or, take, refl, sym, ◌∙◌, ap, subst, arith, ◌⊎◌, inl, inr, append_assoc, length-append}
use Rattle.std.proofs.lemmas.Bool.{eqb-false, cases_lt}
use Rattle.json_exact.specs.Json.{Json}
use Rattle.json_exact.specs.Characters.{Way, refused, whole, steps, AreCharacters}
use Rattle.json_exact.specs.JsonRests.{Limit, Counts}
use Rattle.json_exact.proofs.Walks.{steps-append, steps-refused}
use Rattle.std.specs.Prelude.{slice_range, slice_index}
use Rattle.std.proofs.lemmas.List.{take_all}
use Rattle.json_exact.specs.JsonText.{SpelledWithin}
use Rattle.json_exact.specs.JsonRefusals.{depth_limit, CanGoOn, Stops, IsSurrogate, IsAlone, IsBad}
use Rattle.json_exact.specs.JsonRests.{Agrees}
use Rattle.json_exact.specs.Scans.{IsHalf, StopsString, CountsString, EndsString}
use Rattle.json_exact.proofs.Ways.{tidy_steps, no_letter_inside}
use Rattle.json_exact.proofs.Ranges.{up_to_with, up_to, length_range, range_more, range_first, range_split, range_byte}
use Rattle.json_exact.proofs.Stuck.{Stuck}
use Rattle.json_exact.proofs.Endings.{EndsBehind}

abbrev pub Rests : Type 1
Rests = ℕ → ℕ → List ℕ → Json → Type 0

-- ---- one step on

pub record Advances (text : List ℕ) (at e : ℕ) (limit to : Limit) (Rest Next : ℕ → ℕ → List ℕ → Json → Type 0) : Type 0 where
  pub into : (more : ℕ) (rest : List ℕ) (v : Json) → Counts to rest → Rest (depth_limit + more) (e + length rest) (slice_range text at e ++ rest) v → Next (depth_limit + more) (e + length rest) rest v
  pub back : (more : ℕ) (rest : List ℕ) (v : Json) → Counts to rest → Next (depth_limit + more) (e + length rest) rest v → Rest (depth_limit + more) (e + length rest) (slice_range text at e ++ rest) v
  pub counts : (rest : List ℕ) → Counts to rest → Counts limit (slice_range text at e ++ rest)
  pub letters : (s : ℕ) → at ≤ s → s < e → slice_index text s ≡ 92 → CanGoOn depth_limit (take s text ++ 120 ∷ [])
      → (j : ℕ) × (s < j) × (j ≤ e) × CanGoOn depth_limit (take j text ++ 120 ∷ [])

place : (text rest : List ℕ) (at e : ℕ) → at ≤ e → e ≤ length text → at + length (slice_range text at e ++ rest) ≡ e + length rest
place text rest at e h k = omega (arith, length-append (slice_range text at e) rest, length_range text at e k)

letters_on : (text : List ℕ) (at e : ℕ) (limit to : Limit) (Rest Next : ℕ → ℕ → List ℕ → Json → Type 0)
    → Agrees text at limit Rest → at ≤ e → Advances text at e limit to Rest Next → (s : ℕ) → s < e → slice_index text s ≡ 92 → CanGoOn depth_limit (take s text ++ 120 ∷ [])
    → ((s < at) ⊎ (at ≤ s)) → (j : ℕ) × (s < j) × (j ≤ e) × CanGoOn depth_limit (take j text ++ 120 ∷ [])
letters_on text at e limit to Rest Next a h d s lt b can (inl k) = (let o = a.letters s k b can in (o.0, o.1, omega (arith, o.2), o.3))
letters_on text at e limit to Rest Next a h d s lt b can (inr k) = d.letters s k lt b can

pub advance : (text : List ℕ) (at e : ℕ) (limit to : Limit) (Rest Next : ℕ → ℕ → List ℕ → Json → Type 0)
    → Agrees text at limit Rest → at ≤ e → e ≤ length text → Advances text at e limit to Rest Next → Agrees text e to Next
advance text at e limit to Rest Next a h k d = record {
  in_text = k;
  into = λ more rest v c sp.
      d.into more rest v c (subst (λ (n : ℕ). Rest (depth_limit + more) n (slice_range text at e ++ rest) v) (place text rest at e h k)
      (a.into more (slice_range text at e ++ rest) v (d.counts rest c) (subst (λ (q : List ℕ). SpelledWithin (depth_limit + more) q v) (up_to_with text rest at e h k) sp)));
  back = λ more rest v c nx.
      subst (λ (q : List ℕ). SpelledWithin (depth_limit + more) q v) (sym (up_to_with text rest at e h k))
      (a.back more (slice_range text at e ++ rest) v (d.counts rest c) (subst (λ (n : ℕ). Rest (depth_limit + more) n (slice_range text at e ++ rest) v) (sym (place text rest at e h k)) (d.back more rest v c nx)));
  letters = λ s lt b can. letters_on text at e limit to Rest Next a h d s lt b can (cases_lt s at);
}

-- ---- where it stops

pub record Halts (text : List ℕ) (at k : ℕ) (limit : Limit) (Rest : ℕ → ℕ → List ℕ → Json → Type 0) : Type 0 where
  pub alive : EndsBehind depth_limit at (slice_range text at k) Rest
  pub alive_counts : (rest : List ℕ) (v : Json) → Rest depth_limit (at + length (slice_range text at k ++ rest)) (slice_range text at k ++ rest) v → Counts limit (slice_range text at k ++ rest)
  pub dead : k < length text → (more n : ℕ) (rest : List ℕ) (v : Json) → Rest (depth_limit + more) n (slice_range text at (suc k) ++ rest) v → ⊥
  pub dead_counts : k < length text → (rest : List ℕ) → Counts limit (slice_range text at (suc k) ++ rest)
  pub over : k ≡ length text → (more n : ℕ) (v : Json) → Rest (depth_limit + more) n (slice_range text at k) v → ⊥
  pub over_counts : k ≡ length text → Counts limit (slice_range text at k)

pub stops : (text : List ℕ) (at k : ℕ) (limit : Limit) (Rest : ℕ → ℕ → List ℕ → Json → Type 0)
    → Agrees text at limit Rest → at ≤ k → k ≤ length text → Halts text at k limit Rest → Stops text k
stops text at k limit Rest a h j t = record {
  in_text = j;
  before = (
    t.alive.rest,
    t.alive.value,
    subst (λ (q : List ℕ). SpelledWithin depth_limit q t.alive.value) (sym (up_to_with text t.alive.rest at k h j))
        (a.back 0 (slice_range text at k ++ t.alive.rest) t.alive.value (t.alive_counts t.alive.rest t.alive.value t.alive.ends) t.alive.ends),
  );
  byte = λ lt more can.
      t.dead lt more _ can.0 can.1 (a.into more (slice_range text at (suc k) ++ can.0) can.1 (t.dead_counts lt can.0)
      (subst (λ (q : List ℕ). SpelledWithin (depth_limit + more) q can.1) (up_to_with text can.0 at (suc k) (omega arith) (omega arith)) can.2));
  whole = λ e more v sp.
      (let all : text ≡ take at text ++ slice_range text at k = sym (take_all k text (omega arith)) ∙ up_to text at k h j in
      t.over e more _ v (a.into more (slice_range text at k) v (t.over_counts e) (subst (λ (q : List ℕ). SpelledWithin (depth_limit + more) q v) all sp)));
}

-- ---- no surrogate is to blame

surrogate_first : (text : List ℕ) (s k : ℕ) → s ≤ k → IsSurrogate (slice_range text s (suc k)) → slice_index text s ≡ 92
surrogate_first text s k h u =
    let lt : s + 0 < suc k = omega arith in
    let e : get_or (slice_range text s (suc k)) 0 0 ≡ 92 = ap (λ (q : List ℕ). get_or q 0 0) u.3 in
    let z : s + 0 ≡ s = omega arith in
    subst (λ (m : ℕ). get_or text m 0 ≡ 92) z (sym (range_byte text s (suc k) 0 lt) ∙ e)

surrogate_long : (text : List ℕ) (s k : ℕ) → suc k ≤ length text → IsSurrogate (slice_range text s (suc k)) → s + 4 ≤ suc k
surrogate_long text s k h u =
    let len : suc k - s ≡ length (92 ∷ 117 ∷ u.0 ∷ u.1 ∷ u.2) = sym (length_range text s (suc k) h) ∙ ap length u.3 in
    omega arith

-- no backslash stands from at to k
pub no_surrogate : (text : List ℕ) (at k : ℕ) (limit : Limit) (Rest : ℕ → ℕ → List ℕ → Json → Type 0)
    → Agrees text at limit Rest → at ≤ k → ((s : ℕ) → at ≤ s → s < k → slice_index text s ≢ 92) → (s : ℕ) → IsAlone text s k → ⊥
no_surrogate text at k limit Rest a h plain s i =
    let b : slice_index text s ≡ 92 = surrogate_first text s k i.order i.surrogate in
    let long : s + 4 ≤ suc k = surrogate_long text s k i.stops_inside i.surrogate in
    elim (cases_lt s at) [
      | inl lt ↦ (let o = a.letters s lt b i.letter in i.no_letter o.0 o.1 (omega (arith, o.2)) o.3)
      | inr le ↦ plain s le (omega arith) b
    ]

pub bad_here : (text : List ℕ) (at k : ℕ) (limit : Limit) (Rest : ℕ → ℕ → List ℕ → Json → Type 0)
    → Agrees text at limit Rest → at ≤ k → k ≤ length text → Halts text at k limit Rest → ((s : ℕ) → at ≤ s → s < k → slice_index text s ≢ 92) → IsBad text k
bad_here text at k limit Rest a h j t plain = (k, stops text at k limit Rest a h j t, inr (no_surrogate text at k limit Rest a h plain, refl))

-- ---- strings

-- what is left before a string is to be read is a string, or begins with one
pub record TakesString (Rest : ℕ → ℕ → List ℕ → Json → Type 0) : Type 0 where
  pub dead : (more n : ℕ) (p : List ℕ) (b : ℕ) (rest : List ℕ) (v : Json) → Stuck p b → Rest (depth_limit + more) n (34 ∷ (p ++ b ∷ rest)) v → ⊥
  pub over : (more n : ℕ) (p : List ℕ) (v : Json) → steps whole p ≢ refused → Rest (depth_limit + more) n (34 ∷ p) v → ⊥
  pub ends : (at : ℕ) (p : List ℕ) → steps whole p ≢ refused → EndsBehind depth_limit at (34 ∷ p) Rest

-- the bytes from a quote to j
from_quote : (text : List ℕ) (at j : ℕ) → at < j → j ≤ length text → slice_index text at ≡ 34 → slice_range text at j ≡ 34 ∷ slice_range text (suc at) j
from_quote text at j h k q = range_first text at j h k ∙ ap (λ (x : ℕ). x ∷ slice_range text (suc at) j) q

refused_on : (text : List ℕ) (a j k : ℕ) → a ≤ j → j ≤ k → k ≤ length text → steps whole (slice_range text a k) ≢ refused → steps whole (slice_range text a j) ≢ refused
refused_on text a j k h l m alive e =
    alive (ap (steps whole) (range_split text a j k h l m) ∙ steps-append whole (slice_range text a j) (slice_range text j k)
    ∙ ap (λ (w : Way). steps w (slice_range text j k)) e ∙ steps-refused (slice_range text j k))

-- a letter may stand between characters
pub letter_between : (text : List ℕ) (at j : ℕ) (limit : Limit) (Rest : ℕ → ℕ → List ℕ → Json → Type 0) → Agrees text at limit Rest → TakesString Rest
    → ((q : List ℕ) → Counts limit (34 ∷ q)) → at < j → j ≤ length text → slice_index text at ≡ 34 → AreCharacters (slice_range text (suc at) j)
    → CanGoOn depth_limit (take j text ++ 120 ∷ [])
letter_between text at j limit Rest a t c h k q w =
    let p : List ℕ = slice_range text (suc at) j in
    let alive : steps whole (p ++ 120 ∷ []) ≡ whole = steps-append whole p (120 ∷ []) ∙ ap (λ (x : Way). steps x (120 ∷ [])) w in
    let i : EndsBehind depth_limit at (34 ∷ (p ++ 120 ∷ [])) Rest = t.ends at (p ++ 120 ∷ []) (λ e. (let z : whole ≡ refused = sym alive ∙ e in cc)) in
    let e1 : (take j text ++ 120 ∷ []) ++ i.rest ≡ take j text ++ (120 ∷ [] ++ i.rest) = append_assoc (take j text) (120 ∷ []) i.rest in
    let e2 : take j text ++ (120 ∷ [] ++ i.rest) ≡ take at text ++ (slice_range text at j ++ (120 ∷ [] ++ i.rest)) = up_to_with text (120 ∷ [] ++ i.rest) at j (omega arith) k in
    let e3 : slice_range text at j ++ (120 ∷ [] ++ i.rest) ≡ (34 ∷ (p ++ 120 ∷ [])) ++ i.rest
    = ap (λ (x : List ℕ). x ++ (120 ∷ [] ++ i.rest)) (from_quote text at j h k q) ∙ ap (λ (x : List ℕ). 34 ∷ x) (sym (append_assoc p (120 ∷ []) i.rest)) in
    let e : (take j text ++ 120 ∷ []) ++ i.rest ≡ take at text ++ ((34 ∷ (p ++ 120 ∷ [])) ++ i.rest) = e1 ∙ e2 ∙ ap (λ (x : List ℕ). take at text ++ x) e3 in
    (i.rest, i.value, subst (λ (x : List ℕ). SpelledWithin depth_limit x i.value) (sym e) (a.back 0 ((34 ∷ (p ++ 120 ∷ [])) ++ i.rest) i.value (c ((p ++ 120 ∷ []) ++ i.rest)) i.ends))

-- and not inside one
pub letter_inside : (text : List ℕ) (at j : ℕ) (limit : Limit) (Rest : ℕ → ℕ → List ℕ → Json → Type 0) → Agrees text at limit Rest → TakesString Rest
    → ((q : List ℕ) → Counts limit (34 ∷ q)) → at < j → j ≤ length text → slice_index text at ≡ 34 → steps whole (slice_range text (suc at) j) ≢ refused
    → steps whole (slice_range text (suc at) j) ≢ whole → CanGoOn depth_limit (take j text ++ 120 ∷ []) → ⊥
letter_inside text at j limit Rest a t c h k q alive inside can =
    let p : List ℕ = slice_range text (suc at) j in
    let r : List ℕ = can.0 in
    let e1 : (take j text ++ 120 ∷ []) ++ r ≡ take j text ++ (120 ∷ [] ++ r) = append_assoc (take j text) (120 ∷ []) r in
    let e2 : take j text ++ (120 ∷ [] ++ r) ≡ take at text ++ (slice_range text at j ++ (120 ∷ [] ++ r)) = up_to_with text (120 ∷ [] ++ r) at j (omega arith) k in
    let e3 : slice_range text at j ++ (120 ∷ [] ++ r) ≡ 34 ∷ (p ++ 120 ∷ r) = ap (λ (x : List ℕ). x ++ (120 ∷ [] ++ r)) (from_quote text at j h k q) in
    let e : (take j text ++ 120 ∷ []) ++ r ≡ take at text ++ (34 ∷ (p ++ 120 ∷ r)) = e1 ∙ e2 ∙ ap (λ (x : List ℕ). take at text ++ x) e3 in
    let stuck : Stuck p 120 = record { alive = alive; quote = λ _. eqb-false 120 34 refl; stuck = no_letter_inside (steps whole p) (tidy_steps whole p tt) inside } in
    t.dead 0 _ p 120 r can.1 stuck (a.into 0 (34 ∷ (p ++ 120 ∷ r)) can.1 (c (p ++ 120 ∷ r)) (subst (λ (x : List ℕ). SpelledWithin depth_limit x can.1) e can.2))

-- ---- a string that ends, and one that does not

pub string_letters : (text : List ℕ) (at e : ℕ) (limit : Limit) (Rest : ℕ → ℕ → List ℕ → Json → Type 0) → Agrees text at limit Rest → TakesString Rest
    → ((q : List ℕ) → Counts limit (34 ∷ q)) → slice_index text at ≡ 34 → EndsString text (suc at) e
    → (s : ℕ) → at ≤ s → s < e → slice_index text s ≡ 92 → (j : ℕ) × (s < j) × (j ≤ e) × CanGoOn depth_limit (take j text ++ 120 ∷ [])
string_letters text at e limit Rest a t c q h s le lt b =
    let f : suc at < e = h.forward in
    let g : e ≤ length text = h.in_text in
    let ne : s ≡ e - 1 → ⊥ = λ i. eqb-false 92 34 refl (sym b ∙ ap (λ (x : ℕ). slice_index text x) i ∙ h.quote) in
    (e - 1, omega (arith, ne), omega arith, letter_between text at (e - 1) limit Rest a t c (omega arith) (omega arith) q h.characters)

-- what a string is, as a leaf
pub string_bytes : (text : List ℕ) (at e : ℕ) → slice_index text at ≡ 34 → EndsString text (suc at) e
    → slice_range text at e ≡ 34 ∷ slice_range text (suc at) (e - 1) ++ 34 ∷ []
string_bytes text at e q h =
    let f : suc at < e = h.forward in
    let g : e ≤ length text = h.in_text in
    let l : suc (e - 1) ≡ e = omega arith in
    let lt : e - 1 < length text = omega arith in
    let le : at ≤ e - 1 = omega arith in
    let le' : at < e - 1 = omega arith in
    let last : slice_range text at (suc (e - 1)) ≡ slice_range text at (e - 1) ++ slice_index text (e - 1) ∷ [] = range_more text at (e - 1) le lt in
    let last' : slice_range text at e ≡ slice_range text at (e - 1) ++ slice_index text (e - 1) ∷ [] = subst (λ (m : ℕ). slice_range text at m ≡ slice_range text at (e - 1) ++ slice_index text (e - 1) ∷ []) l last in
    last' ∙ ap (λ (x : ℕ). slice_range text at (e - 1) ++ x ∷ []) h.quote ∙ ap (λ (x : List ℕ). x ++ 34 ∷ []) (from_quote text at (e - 1) le' (omega arith) q)

not_alone_here : (text : List ℕ) (at i k : ℕ) (limit : Limit) (Rest : ℕ → ℕ → List ℕ → Json → Type 0) → Agrees text at limit Rest → TakesString Rest
    → ((q : List ℕ) → Counts limit (34 ∷ q)) → slice_index text at ≡ 34 → StopsString text (suc at) i k → (IsHalf text i k → ⊥) → (s : ℕ) → IsAlone text s k
    → slice_index text s ≡ 92 → at ≤ s → ((s < i) ⊎ (i ≤ s)) → ((i < s) ⊎ (s ≤ i)) → ⊥
not_alone_here text at i k limit Rest a t c q h half s x b le (inl lt) z =
    let f : suc at ≤ i = h.forward in
    let o : i ≤ k = h.order in
    let l : k ≤ length text = h.in_text in
    x.no_letter i lt o (letter_between text at i limit Rest a t c (omega arith) (omega arith) q h.characters)
not_alone_here text at i k limit Rest a t c q h half s x b le (inr ge) (inl gt) =
    let f : suc at ≤ i = h.forward in
    let o : s ≤ k = x.order in
    let l : k ≤ length text = h.in_text in
    letter_inside text at s limit Rest a t c (omega arith) (omega arith) q (refused_on text (suc at) s k (omega arith) o l h.before) (h.inside s gt o) x.letter
not_alone_here text at i k limit Rest a t c q h half s x b le (inr ge) (inr le') =
    let e : s ≡ i = omega arith in
    half (record { stops_inside = x.stops_inside; surrogate = subst (λ (m : ℕ). IsSurrogate (slice_range text m (suc k))) e x.surrogate })

no_later_by : (text : List ℕ) (a i k : ℕ) → ((j : ℕ) → i < j → j ≤ k → steps whole (slice_range text a j) ≢ whole) → steps whole (slice_range text a k) ≡ whole → ((i < k) ⊎ (k ≤ i)) → k ≤ i
no_later_by text a i k inside w (inl lt) = absurd (inside k lt (omega arith) w)
no_later_by text a i k inside w (inr le) = le

no_later : (text : List ℕ) (a i k : ℕ) → i ≤ k → ((j : ℕ) → i < j → j ≤ k → steps whole (slice_range text a j) ≢ whole) → steps whole (slice_range text a k) ≡ whole → i ≡ k
no_later text a i k h inside w = (let le : k ≤ i = no_later_by text a i k inside w (cases_lt i k) in omega arith)

not_alone : (text : List ℕ) (at i k : ℕ) (limit : Limit) (Rest : ℕ → ℕ → List ℕ → Json → Type 0) → Agrees text at limit Rest → TakesString Rest
    → ((q : List ℕ) → Counts limit (34 ∷ q)) → slice_index text at ≡ 34 → StopsString text (suc at) i k → (IsHalf text i k → ⊥) → (s : ℕ) → IsAlone text s k → ⊥
not_alone text at i k limit Rest a t c q h half s x =
    let f : suc at ≤ i = h.forward in
    let o : i ≤ k = h.order in
    let l : k ≤ length text = h.in_text in
    let b : slice_index text s ≡ 92 = surrogate_first text s k x.order x.surrogate in
    elim (cases_lt s at) [
      | inl lt ↦ (let y = a.letters s lt b x.letter in x.no_letter y.0 y.1 (omega (arith, y.2)) y.3)
      | inr le ↦ not_alone_here text at i k limit Rest a t c q h half s x b le (cases_lt s i) (cases_lt i s)
    ]

string_halts : (text : List ℕ) (at i k : ℕ) (limit : Limit) (Rest : ℕ → ℕ → List ℕ → Json → Type 0) → Agrees text at limit Rest → TakesString Rest
    → ((q : List ℕ) → Counts limit (34 ∷ q)) → slice_index text at ≡ 34 → StopsString text (suc at) i k → Halts text at k limit Rest
string_halts text at i k limit Rest a t c q h =
    let f : suc at ≤ i = h.forward in
    let o : i ≤ k = h.order in
    let l : k ≤ length text = h.in_text in
    let lt : at < k = omega arith in
    let p : List ℕ = slice_range text (suc at) k in
    let all : slice_range text at k ≡ 34 ∷ p = from_quote text at k lt l q in
    let counts : (r : List ℕ) → Counts limit (slice_range text at k ++ r) = λ r. subst (λ (x : List ℕ). Counts limit (x ++ r)) (sym all) (c (p ++ r)) in
    let longer : k < length text → slice_range text at (suc k) ≡ 34 ∷ (p ++ slice_index text k ∷ []) = λ in'. range_more text at k (omega arith) in' ∙ ap (λ (x : List ℕ). x ++ slice_index text k ∷ []) all in
    let stuck : k < length text → Stuck p (slice_index text k) = λ in'. record {
      alive = h.before;
      quote = λ w. h.quote in' (no_later text (suc at) i k o h.inside w);
      stuck = sym (ap (steps whole) (range_more text (suc at) k (omega arith) in') ∙ steps-append whole p (slice_index text k ∷ [])) ∙ h.byte in';
    } in
    let i' : EndsBehind depth_limit at (34 ∷ p) Rest = t.ends at p h.before in
    record {
      alive = record { rest = i'.rest; value = i'.value; ends = subst (λ (x : List ℕ). Rest depth_limit (at + length (x ++ i'.rest)) (x ++ i'.rest) i'.value) (sym all) i'.ends };
      alive_counts = λ r v _. counts r;
      dead = λ in' more n r v x. t.dead more n p (slice_index text k) r v (stuck in')
          (subst (λ (y : List ℕ). Rest (depth_limit + more) n y v) (ap (λ (y : List ℕ). y ++ r) (longer in') ∙ ap (λ (y : List ℕ). 34 ∷ y) (append_assoc p (slice_index text k ∷ []) r)) x);
      dead_counts = λ in' r. subst (λ (y : List ℕ). Counts limit (y ++ r)) (sym (longer in')) (c ((p ++ slice_index text k ∷ []) ++ r));
      over = λ e more n v x. t.over more n p v h.before (subst (λ (y : List ℕ). Rest (depth_limit + more) n y v) all x);
      over_counts = λ e. subst (λ (y : List ℕ). Counts limit y) (sym all) (c p);
    }

pub string_stops : (text : List ℕ) (at counted : ℕ) (limit : Limit) (Rest : ℕ → ℕ → List ℕ → Json → Type 0) → Agrees text at limit Rest → TakesString Rest
    → ((q : List ℕ) → Counts limit (34 ∷ q)) → slice_index text at ≡ 34 → CountsString text (suc at) counted → IsBad text counted
string_stops text at counted limit Rest a t c q (i, k, h, inl half) =
    let f : suc at ≤ i = h.forward in
    let o : i ≤ k = h.order in
    let l : k ≤ length text = h.in_text in
    let alone : IsAlone text i k = record {
      order = o;
      stops_inside = half.0.stops_inside;
      letter = letter_between text at i limit Rest a t c (omega arith) (omega arith) q h.characters;
      no_letter = λ j lt le can. letter_inside text at j limit Rest a t c (omega arith) (omega arith) q (refused_on text (suc at) j k (omega arith) le l h.before) (h.inside j lt le) can;
      surrogate = half.0.surrogate;
    } in
    (k, stops text at k limit Rest a (omega arith) l (string_halts text at i k limit Rest a t c q h), inl (i, alone, half.1))
string_stops text at counted limit Rest a t c q (i, k, h, inr other) =
    let f : suc at ≤ i = h.forward in
    let o : i ≤ k = h.order in
    let l : k ≤ length text = h.in_text in
    (k, stops text at k limit Rest a (omega arith) l (string_halts text at i k limit Rest a t c q h), inr (λ s x. not_alone text at i k limit Rest a t c q h other.0 s x, other.1))

-- One step of the reader.
use Rattle.std.proofs.Common.{◌≡◌, ◌≢◌, ℕ, suc, ◌+◌, ◌-◌, ◌<◌, ◌≤◌, List, [], ◌∷◌, ◌++◌, length, take, true, false, refl, sym, ◌∙◌, ap, subst, arith, ◌⊎◌, inl, inr, None, length-append}
use Rattle.std.proofs.lemmas.Bool.{both_ways, eqb-false, cases_lt}
use Rattle.std.proofs.lemmas.List.{append-nil}
use Rattle.json_exact.specs.Json.{Word, null_word, true_word, false_word, word, number, string, Bracket, square, curly, Json}
use Rattle.json_exact.specs.Characters.{decoded}
use Rattle.json_exact.specs.JsonNumbers.{is_digit}
use Rattle.json_exact.specs.Scans.{written, may_end}
use Rattle.json_exact.specs.JsonText.{AreBlanks, letters, opening, closing}
use Rattle.json_exact.specs.JsonRests.{Frame, Before, Opened, Limit, any, Counts}
use Rattle.json_exact.specs.declared.scan.Last.TheVariants.{Nothing}
use Rattle.json_exact.proofs.Digits.{ends_placed, is_number}
use Rattle.json_exact.proofs.Steps.{frame}
use Rattle.std.proofs.Common.{Result, Ok, Err}
use Rattle.std.specs.Prelude.{slice_range, slice_index, MatchResult}
use Rattle.json_exact.specs.JsonText.{SpelledWithin}
use Rattle.json_exact.specs.JsonRefusals.{depth_limit, IsBad, IsTooDeep, IsRefused}
use Rattle.json_exact.specs.Scans.{StopsWord, StopsNumber, CountsString, EndsString, PassesBlanks, PassesWord, PassesNumber}
use Rattle.json_exact.specs.JsonRests.{Agrees, IsHere, IsClear, Holds, ReadsValue, ReadsValueHere, Reads, Opens, with_kind, StopsLeaf, in_word, in_number as stops_number, in_string, EndsLeaf, kind_of, kind_of_bracket, limit_of_kind, cell, cells_done, name_cells, open_cells, top_of}
use Rattle.json_exact.specs.declared.error.JsonError.{JsonError}
use Rattle.json_exact.specs.declared.reader.Reader.{Reader}
use Rattle.json_exact.specs.declared.reader.Next.{Next}
use Rattle.json_exact.specs.declared.cells.Cell.{Cell}
use Rattle.json_exact.specs.declared.cells.Kind.{Kind}
use Rattle.json_exact.specs.declared.cells.Kind.TheVariants.{Number, String}
use Rattle.json_exact.proofs.Ranges.{up_to_with, range_none, range_one}
use Rattle.json_exact.proofs.Blanks.{before_pass, before_more}
use Rattle.json_exact.proofs.Steps.{open_into, open_back, open_too_deep}
use Rattle.json_exact.proofs.Stuck as stuck
use Rattle.json_exact.proofs.Endings.{Ends, before_ends, opened_ends}
use Rattle.json_exact.proofs.Agreeing.{advance, string_bytes}
use Rattle.json_exact.proofs.Tokens.{blanks_plain, plain_part, within_word, number_plain, end_halts, bad_at, wide_before, wide_here, token_counts}

pub one_on : (at : ℕ) → suc at ≡ at + 1
one_on at = omega arith

-- ---- leaves

pub leaf_string : (text : List ℕ) (at : ℕ) (r : Result ℕ ℕ) (y : Result (Kind × ℕ) ℕ) → y ≡ with_kind String r → slice_index text at ≡ 34
    → MatchResult r (EndsString text (at + 1)) (CountsString text (at + 1)) → MatchResult y (λ x. EndsLeaf text at x.0 x.1) (StopsLeaf text at)
leaf_string text at (Ok e) y f q h =
    let h' : EndsString text (suc at) e = subst (λ (m : ℕ). EndsString text m e) (sym (one_on at)) h in
    let lt : suc at < e = h'.forward in
    subst (λ (z : Result (Kind × ℕ) ℕ). MatchResult z (λ x. EndsLeaf text at x.0 x.1) (StopsLeaf text at)) (sym f)
    (string (decoded (slice_range text (suc at) (e - 1))), (slice_range text (suc at) (e - 1), h'.characters, string_bytes text at e q h', refl), refl, omega arith, h'.in_text, tt, inr (q, h'))
leaf_string text at (Err k) y f q h =
    subst (λ (z : Result (Kind × ℕ) ℕ). MatchResult z (λ x. EndsLeaf text at x.0 x.1) (StopsLeaf text at)) (sym f)
    (in_string q (subst (λ (m : ℕ). CountsString text m k) (sym (one_on at)) h))

longer : (text : List ℕ) (at e : ℕ) → PassesNumber text at e → ((at < e) ⊎ (e ≤ at)) → at < e
longer text at e h (inl x) = x
longer text at e h (inr x) =
    let f : at ≤ e = h.forward in
    let z : e ≡ at = omega arith in
    absurd (both_ways false refl (ap (λ (q : List ℕ). may_end (written Nothing q)) (sym (range_none text at)) ∙ subst (λ (m : ℕ). may_end (written Nothing (slice_range text at m)) ≡ true) z h.number))

pub leaf_number : (text : List ℕ) (at : ℕ) (r : Result ℕ ℕ) (y : Result (Kind × ℕ) ℕ) → y ≡ with_kind Number r → (slice_index text at ≡ 45) ⊎ (is_digit (slice_index text at) ≡ true)
    → MatchResult r (PassesNumber text at) (StopsNumber text at) → MatchResult y (λ x. EndsLeaf text at x.0 x.1) (StopsLeaf text at)
leaf_number text at (Ok e) y f q h =
    subst (λ (z : Result (Kind × ℕ) ℕ). MatchResult z (λ x. EndsLeaf text at x.0 x.1) (StopsLeaf text at)) (sym f) (
      number (slice_range text at e),
      (is_number (slice_range text at e) h.number, refl),
      refl,
      longer text at e h (cases_lt at e),
      h.in_text,
      h.next,
      inl (plain_part text at e (slice_range text at e) h.in_text refl (number_plain Nothing (slice_range text at e) (ends_placed (written Nothing (slice_range text at e)) h.number))),
    )
leaf_number text at (Err k) y f q h =
    subst (λ (z : Result (Kind × ℕ) ℕ). MatchResult z (λ x. EndsLeaf text at x.0 x.1) (StopsLeaf text at)) (sym f) (stops_number q h)

word_length : (w : Word) → 0 < length (letters w)
word_length null_word = omega arith
word_length true_word = omega arith
word_length false_word = omega arith

word_clear : (w : Word) (text : List ℕ) (e : ℕ) → IsClear (limit_of_kind (kind_of (word w))) text e
word_clear null_word text e = tt
word_clear true_word text e = tt
word_clear false_word text e = tt

pub leaf_word : (w : Word) (text : List ℕ) (at : ℕ) (r : Result ℕ ℕ) (y : Result (Kind × ℕ) ℕ) → y ≡ with_kind (kind_of (word w)) r → slice_index text at ≡ slice_index (letters w) 0
    → MatchResult r (PassesWord text at (letters w)) (StopsWord text at (letters w)) → MatchResult y (λ x. EndsLeaf text at x.0 x.1) (StopsLeaf text at)
leaf_word w text at (Ok e) y f q h =
    let len : 0 < length (letters w) = word_length w in
    subst (λ (z : Result (Kind × ℕ) ℕ). MatchResult z (λ x. EndsLeaf text at x.0 x.1) (StopsLeaf text at)) (sym f)
    (word w, h.word, refl, omega (arith, h.end_at), h.in_text, word_clear w text e, inl (plain_part text at e (letters w) h.in_text h.word (within_word w)))
leaf_word w text at (Err k) y f q h =
    subst (λ (z : Result (Kind × ℕ) ℕ). MatchResult z (λ x. EndsLeaf text at x.0 x.1) (StopsLeaf text at)) (sym f) (in_word w q h)

-- ---- blanks

pub advance_blanks : (text : List ℕ) (at e : ℕ) (Rest : ℕ → ℕ → List ℕ → Json → Type 0) → Agrees text at any Rest → PassesBlanks text at e
    → ((d n : ℕ) (ws rest : List ℕ) (v : Json) → AreBlanks ws → Rest d n (ws ++ rest) v → Rest d n rest v)
    → ((d n : ℕ) (ws rest : List ℕ) (v : Json) → AreBlanks ws → Rest d n rest v → Rest d n (ws ++ rest) v)
    → Agrees text e any Rest
advance_blanks text at e Rest a p pass more =
    advance text at e any any Rest Rest a p.forward p.in_text (record {
      into = λ m rest v c r. pass (depth_limit + m) _ (slice_range text at e) rest v p.blanks r;
      back = λ m rest v c r. more (depth_limit + m) _ (slice_range text at e) rest v p.blanks r;
      counts = λ rest c. tt;
      letters = λ s h k b can. absurd (plain_part text at e (slice_range text at e) p.in_text refl (blanks_plain (slice_range text at e) p.blanks) s h k b);
    })

pub hold_blanks : (text : List ℕ) (r : Reader) (e : ℕ) (fs : List Frame) (tail : List Cell) (Rest : ℕ → ℕ → List ℕ → Json → Type 0) → Holds text r any fs tail Rest → PassesBlanks text r.at e
    → ((d n : ℕ) (ws rest : List ℕ) (v : Json) → AreBlanks ws → Rest d n (ws ++ rest) v → Rest d n rest v)
    → ((d n : ℕ) (ws rest : List ℕ) (v : Json) → AreBlanks ws → Rest d n rest v → Rest d n (ws ++ rest) v)
    → Holds text (record r { at = e }) any fs tail Rest
hold_blanks text r e fs tail Rest h p pass more = record {
  agrees = advance_blanks text r.at e Rest h.agrees p pass more;
  laid = h.laid;
  top_is = h.top_is;
  depth_is = h.depth_is;
  shallow = h.shallow;
  few = (let f : r.at ≤ e = p.forward in omega (arith, h.few));
}

pub here : (text : List ℕ) (at e : ℕ) → PassesBlanks text at e → e ≢ length text → IsHere text e any
here text at e p n = (let le : e ≤ length text = p.in_text in let lt : e < length text = omega arith in record { in_text = lt; firm = p.next lt; allowed = tt })

-- ---- before a value

pub value_on : (text : List ℕ) (r : Reader) (e : ℕ) → ReadsValue text r → PassesBlanks text r.at e → e ≢ length text → ReadsValueHere text (record r { at = e })
value_on text r e (fs, h) p n =
    (fs, any, hold_blanks text r e fs [] (λ d m. Before d m fs) h p (λ d m ws rest v b x. before_pass d m fs ws rest v b x) (λ d m ws rest v b x. before_more d m fs ws rest v b x), here text r.at e p n)

pub value_over : (text : List ℕ) (r : Reader) (e : ℕ) → ReadsValue text r → PassesBlanks text r.at e → e ≡ length text → IsBad text e
value_over text r e (fs, h) p n =
    let h' : Holds text (record r { at = e }) any fs [] (λ d m. Before d m fs)
    = hold_blanks text r e fs [] (λ d m. Before d m fs) h p (λ d m ws rest v b x. before_pass d m fs ws rest v b x) (λ d m ws rest v b x. before_more d m fs ws rest v b x) in
    bad_at text e any (λ d m. Before d m fs) h'.agrees
    (end_halts text e any (λ d m. Before d m fs) n (λ m rest v x. tt) tt (before_ends depth_limit e fs) (λ more m v x. stuck.before_end (depth_limit + more) m fs v x))

-- one byte that is no backslash
one_letter : (text : List ℕ) (at c : ℕ) → slice_index text at ≡ c → c ≢ 92 → (s : ℕ) → at ≤ s → s < at + 1 → slice_index text s ≢ 92
one_letter text at c e n s h k b = (let z : s ≡ at = omega arith in n (sym e ∙ ap (λ (m : ℕ). slice_index text m) (sym z) ∙ b))

pub one_range : (text : List ℕ) (at c : ℕ) (rest : List ℕ) → at < length text → slice_index text at ≡ c → slice_range text at (at + 1) ++ rest ≡ c ∷ rest
one_range text at c rest h e =
    ap (λ (m : ℕ). slice_range text at m ++ rest) (sym (one_on at)) ∙ ap (λ (q : List ℕ). q ++ rest) (range_one text at h) ∙ ap (λ (x : ℕ). x ∷ rest) e

-- one byte on
pub advance_one : (text : List ℕ) (at c : ℕ) (limit : Limit) (Rest Next' : ℕ → ℕ → List ℕ → Json → Type 0) → Agrees text at limit Rest → at < length text → slice_index text at ≡ c → c ≢ 92
    → ((q : List ℕ) → Counts limit (c ∷ q))
    → ((m : ℕ) (rest : List ℕ) (v : Json) → Rest (depth_limit + m) (at + 1 + length rest) (c ∷ rest) v → Next' (depth_limit + m) (at + 1 + length rest) rest v)
    → ((m : ℕ) (rest : List ℕ) (v : Json) → Next' (depth_limit + m) (at + 1 + length rest) rest v → Rest (depth_limit + m) (at + 1 + length rest) (c ∷ rest) v)
    → Agrees text (at + 1) any Next'
advance_one text at c limit Rest Next' a lt e n counts into back =
    advance text at (at + 1) limit any Rest Next' a (omega arith) (omega arith) (record {
      into = λ m rest v k r. into m rest v (subst (λ (q : List ℕ). Rest (depth_limit + m) (at + 1 + length rest) q v) (one_range text at c rest lt e) r);
      back = λ m rest v k r. subst (λ (q : List ℕ). Rest (depth_limit + m) (at + 1 + length rest) q v) (sym (one_range text at c rest lt e)) (back m rest v r);
      counts = λ rest k. subst (λ (q : List ℕ). Counts limit q) (sym (one_range text at c rest lt e)) (counts rest);
      letters = λ s h k b can. absurd (one_letter text at c e n s h k b);
    })

opening_plain : (b : Bracket) → opening b ≢ 92
opening_plain square = eqb-false 91 92 refl
opening_plain curly = eqb-false 123 92 refl

pub closing_plain : (b : Bracket) → closing b ≢ 92
closing_plain square = eqb-false 93 92 refl
closing_plain curly = eqb-false 125 92 refl

bracket_of : (b : Bracket) → (opening b ≡ 91) ⊎ (opening b ≡ 123)
bracket_of square = inl refl
bracket_of curly = inr refl

pub here_counts : (text : List ℕ) (at c : ℕ) (limit : Limit) → IsHere text at limit → slice_index text at ≡ c → (q : List ℕ) → Counts limit (c ∷ q)
here_counts text at c limit h e q = subst (λ (x : ℕ). Counts limit (x ∷ q)) e (token_counts limit (slice_index text at) q h.firm h.allowed)

pub open_turn : (text : List ℕ) (r new : Reader) (b : Bracket) (kind : Kind) (res : Result Next JsonError) → ReadsValueHere text r → slice_index text r.at ≡ opening b → kind ≡ kind_of_bracket b
    → Opens r kind new res → MatchResult res (Reads text new) (IsRefused text)
open_turn text r new b kind (Ok next) (fs, limit, h, hr) q k o =
    let d1 : r.depth < 64 = o.1 in
    let fl : length fs < 64 = omega (arith, h.depth_is) in
    let f : Frame = frame b r.at [] None in
    let old : r.cells.items ≡ open_cells fs = h.laid ∙ append-nil (open_cells fs) in
    let items : new.cells.items ≡ open_cells (f ∷ fs) ++ [] =
    o.2 ∙ ap (λ (x : List Cell). x ++ cell kind r.at r.top 0 ∷ []) old ∙ ap (λ (x : Kind). open_cells fs ++ cell x r.at r.top 0 ∷ []) k
    ∙ ap (λ (x : ℕ). open_cells fs ++ cell (kind_of_bracket b) r.at x 0 ∷ []) h.top_is ∙ sym (append-nil (open_cells (f ∷ fs))) in
    let a1 : Agrees text (r.at + 1) any (λ d n. Opened d n f fs) = advance_one text r.at (opening b) limit (λ d n. Before d n fs) (λ d n. Opened d n f fs) h.agrees hr.in_text q (opening_plain b)
    (here_counts text r.at (opening b) limit hr q)
    (λ m rest v x. open_into (depth_limit + m) (r.at + 1 + length rest) fs b r.at rest v (omega arith) x)
    (λ m rest v x. open_back (depth_limit + m) (r.at + 1 + length rest) fs b r.at rest v (omega arith) (omega arith) x) in
    let n1 : length new.cells.items ≡ length r.cells.items + 1 = ap length o.2 ∙ length-append r.cells.items (cell kind r.at r.top 0 ∷ []) in
    let hold : Holds text new any (f ∷ fs) [] (λ d n. Opened d n f fs) = record {
      agrees = subst (λ (m : ℕ). Agrees text m any (λ d n. Opened d n f fs)) (sym o.3) a1;
      laid = items;
      top_is = o.4 ∙ ap length old;
      depth_is = omega (arith, o.5, h.depth_is);
      shallow = omega arith;
      few = omega (arith, n1, h.few, o.3);
    } in
    subst (λ (x : Next). Reads text new x) (sym o.0) (b, r.at, fs, hold)
open_turn text r new b kind (Err e) (fs, limit, h, hr) q k (inr o) = subst (IsRefused text) (sym o) tt
open_turn text r new b kind (Err e) (fs, limit, h, hr) q k (inl o) =
    let at : ℕ = r.at in
    let in' : at < length text = hr.in_text in
    let deep : length fs ≡ 64 = sym h.depth_is ∙ o.0 in
    let w = wide_here limit (slice_index text at) hr.allowed in
    let i = before_ends depth_limit at fs in
    let f : Frame = frame b at [] None in
    let j : Ends 65 (suc at) (λ d n. Opened d n f fs) = opened_ends 65 (suc at) f fs in
    let len : suc at + length j.rest ≡ at + length (opening b ∷ j.rest) = omega arith in
    let opened : Before 65 (at + length (opening b ∷ j.rest)) fs (opening b ∷ j.rest) j.value = open_back 65 (at + length (opening b ∷ j.rest)) fs b at j.rest j.value refl (omega arith)
    (subst (λ (n : ℕ). Opened 65 n f fs j.rest j.value) len j.ends) in
    let seam : (rest : List ℕ) → take (suc at) text ++ rest ≡ take at text ++ (opening b ∷ rest) = λ rest. up_to_with text rest at (suc at) (omega arith) (omega arith)
    ∙ ap (λ (x : List ℕ). take at text ++ (x ++ rest)) (range_one text at in') ∙ ap (λ (x : ℕ). take at text ++ (x ∷ rest)) q in
    let t : IsTooDeep text at = record {
      in_text = in';
      bracket = elim (bracket_of b) [ inl x ↦ inl (q ∙ x) | inr x ↦ inr (q ∙ x) ];
      before = (i.rest, i.value, h.agrees.back 0 i.rest i.value (wide_before limit depth_limit _ fs i.rest i.value w i.ends) i.ends);
      too_deep = λ can. open_too_deep depth_limit _ fs b can.0 can.1 (omega arith) (h.agrees.into 0 (opening b ∷ can.0) can.1 (here_counts text at (opening b) limit hr q can.0) (subst (λ (x : List ℕ). SpelledWithin depth_limit x can.1) (seam can.0) can.2));
      deeper = (j.rest, j.value, subst (λ (x : List ℕ). SpelledWithin 65 x j.value) (sym (seam j.rest)) (h.agrees.back 1 (opening b ∷ j.rest) j.value (here_counts text at (opening b) limit hr q j.rest) opened));
    } in
    subst (IsRefused text) (sym o.1) t

pub top_within : (text : List ℕ) (r : Reader) (limit : Limit) (fs : List Frame) (tail : List Cell) (Rest : ℕ → ℕ → List ℕ → Json → Type 0) → Holds text r limit fs tail Rest → r.top ≤ length r.cells.items
top_within text r limit [] tail Rest h = omega (arith, h.top_is)
top_within text r limit (f ∷ fs) tail Rest h =
    let c : List Cell = cell (kind_of_bracket f.kind) f.from (top_of fs) 0 ∷ (cells_done f.done ++ name_cells f.name) in
    let n : length r.cells.items ≡ length (open_cells fs) + length c + length tail = ap length h.laid ∙ length-append (open_cells fs ++ c) tail ∙ ap (λ (m : ℕ). m + length tail) (length-append (open_cells fs) c) in
    omega (arith, h.top_is)

pub top_below : (text : List ℕ) (r : Reader) → ReadsValueHere text r → r.top ≤ length r.cells.items
top_below text r (fs, limit, h, hr) = top_within text r limit fs [] (λ d n. Before d n fs) h

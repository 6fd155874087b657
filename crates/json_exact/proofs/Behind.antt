-- Steps of the reader behind a value, and at the end.
use Rattle.std.proofs.Common.{◌≡◌, ◌≢◌, ℕ, suc, ◌+◌, ◌<◌, ◌≤◌, List, [], ◌∷◌, ◌++◌, length, take, false, refl, sym, ◌∙◌, ap, subst, arith, ◌⊎◌, inl, inr, Option, None, append_assoc}
use Rattle.std.proofs.lemmas.Bool.{eqb-false, cases_lt}
use Rattle.std.proofs.lemmas.List.{append-nil}
use Rattle.json_exact.specs.Json.{Bracket, square, curly, Name, Json, Parts, no_parts, part}
use Rattle.json_exact.specs.Scans.{is_in_number}
use Rattle.json_exact.specs.JsonText.{is_blank, AreBlanks, closing}
use Rattle.json_exact.specs.JsonRests.{Frame, Behind, Before, BeforeName, closed, onto, Limit, any, no_number, no_closing, Counts}
use Rattle.json_exact.proofs.Blanks.{no_blanks}
use Rattle.json_exact.proofs.Steps.{frame, behind_clear}
use Rattle.std.specs.Prelude.{slice_range, slice_index}
use Rattle.json_exact.specs.JsonText.{SpelledWithin}
use Rattle.json_exact.specs.JsonRefusals.{depth_limit, IsBad}
use Rattle.json_exact.specs.Scans.{PassesBlanks}
use Rattle.json_exact.specs.JsonRests.{Agrees, IsClear, Holds, ReadsValue, ReadsName, ReadsBehind, Closes, kind_of_bracket, cell, cells_of, cells_in, cells_done, name_cells, open_cells, top_of}
use Rattle.json_exact.specs.declared.reader.Reader.{Reader}
use Rattle.json_exact.specs.declared.cells.Cell.{Cell}
use Rattle.json_exact.proofs.Ranges.{range_first}
use Rattle.json_exact.proofs.Blanks.{behind_pass, behind_more, in_number_firm}
use Rattle.json_exact.proofs.Steps.{close_into, close_back, comma_item_into, comma_item_back, comma_name_into, comma_name_back}
use Rattle.json_exact.proofs.Stuck as stuck
use Rattle.json_exact.proofs.Endings.{Ends, behind_ends}
use Rattle.json_exact.proofs.Agreeing.{advance}
use Rattle.json_exact.proofs.Tokens.{blanks_plain, plain_part, other_halts, end_halts, bad_at}
use Rattle.json_exact.proofs.Steps.{closing_clear}
use Rattle.json_exact.proofs.Onward.{close_cells, cells_onto}
use Rattle.json_exact.specs.JsonRests.{IsRead}
use Rattle.std.proofs.lemmas.List.{take_all}
use Rattle.json_exact.proofs.Turns.{advance_one, closing_plain}

-- which rests count behind a value
behind_counts : (limit : Limit) (text : List ℕ) (at d n : ℕ) (fs : List Frame) (w : Json) (rest : List ℕ) (v : Json) → IsClear limit text at → Behind d n fs w rest v → Counts limit rest
behind_counts any text at d n fs w rest v c h = tt
behind_counts no_number text at d n fs w rest v c h = behind_clear d n fs w rest v h
behind_counts (no_closing b) text at d n fs w rest v c h = absurd c

none_counts : (limit : Limit) (text : List ℕ) (at : ℕ) → IsClear limit text at → Counts limit []
none_counts any text at c = tt
none_counts no_number text at c = tt
none_counts (no_closing b) text at c = absurd c

byte_counts : (limit : Limit) (text : List ℕ) (at c : ℕ) (rest : List ℕ) → IsClear limit text at → is_in_number c ≡ false → Counts limit (c ∷ rest)
byte_counts any text at c rest k h = tt
byte_counts no_number text at c rest k h = h
byte_counts (no_closing b) text at c rest k h = absurd k

next_counts : (limit : Limit) (text : List ℕ) (at : ℕ) (rest : List ℕ) → IsClear limit text at → at < length text → Counts limit (slice_index text at ∷ rest)
next_counts any text at rest k h = tt
next_counts no_number text at rest k h = k h
next_counts (no_closing b) text at rest k h = absurd k

blank_counts : (limit : Limit) (text : List ℕ) (at e : ℕ) (rest : List ℕ) → IsClear limit text at → at < e → e ≤ length text → AreBlanks (slice_range text at e) → Counts limit (slice_range text at e ++ rest)
blank_counts limit text at e rest k lt le bl =
    let all : slice_range text at e ≡ slice_index text at ∷ slice_range text (suc at) e = range_first text at e lt le in
    let b : AreBlanks (slice_index text at ∷ slice_range text (suc at) e) = subst AreBlanks all bl in
    subst (λ (q : List ℕ). Counts limit (q ++ rest)) (sym all) (byte_counts limit text at (slice_index text at) (slice_range text (suc at) e ++ rest) k (in_number_firm (slice_index text at) b.0))

pub record Blanked (text : List ℕ) (r : Reader) (e : ℕ) (fs : List Frame) (w : Json) : Type 0 where
  pub limit : Limit
  pub holds : Holds text (record r { at = e }) limit fs (cells_of w) (λ d n. Behind d n fs w)
  pub clear : IsClear limit text e

blanked_by : (text : List ℕ) (r : Reader) (e : ℕ) (fs : List Frame) (w : Json) (limit : Limit) → Holds text r limit fs (cells_of w) (λ d n. Behind d n fs w) → IsClear limit text r.at
    → PassesBlanks text r.at e → ((r.at < e) ⊎ (e ≤ r.at)) → Blanked text r e fs w
blanked_by text r e fs w limit h c p (inr le) =
    let f : r.at ≤ e = p.forward in
    let same : r.at ≡ e = omega arith in
    record {
      limit = limit;
      holds = record { agrees = subst (λ (m : ℕ). Agrees text m limit (λ d n. Behind d n fs w)) same h.agrees; laid = h.laid; top_is = h.top_is; depth_is = h.depth_is; shallow = h.shallow; few = omega (arith, h.few) };
      clear = subst (λ (m : ℕ). IsClear limit text m) same c;
    }
blanked_by text r e fs w limit h c p (inl lt) =
    record {
      limit = any;
      holds = record {
        agrees = advance text r.at e limit any (λ d n. Behind d n fs w) (λ d n. Behind d n fs w) h.agrees p.forward p.in_text (record {
          into = λ m rest v k x. behind_pass (depth_limit + m) _ fs w (slice_range text r.at e) rest v p.blanks x;
          back = λ m rest v k x. behind_more (depth_limit + m) _ fs w (slice_range text r.at e) rest v p.blanks x;
          counts = λ rest k. blank_counts limit text r.at e rest c lt p.in_text p.blanks;
          letters = λ s i j b can. absurd (plain_part text r.at e (slice_range text r.at e) p.in_text refl (blanks_plain (slice_range text r.at e) p.blanks) s i j b);
        });
        laid = h.laid;
        top_is = h.top_is;
        depth_is = h.depth_is;
        shallow = h.shallow;
        few = omega (arith, h.few);
      };
      clear = tt;
    }

pub blanked : (text : List ℕ) (r : Reader) (e : ℕ) (fs : List Frame) (w : Json) (limit : Limit) → Holds text r limit fs (cells_of w) (λ d n. Behind d n fs w) → IsClear limit text r.at
    → PassesBlanks text r.at e → Blanked text r e fs w
blanked text r e fs w limit h c p = blanked_by text r e fs w limit h c p (cases_lt r.at e)

-- ---- in brackets

pub behind_over : (text : List ℕ) (r : Reader) (e : ℕ) (f : Frame) (fs : List Frame) (w : Json) → Blanked text r e (f ∷ fs) w → e ≡ length text → IsBad text e
behind_over text r e f fs w b n =
    let j : Ends depth_limit e (λ d n. Behind d n (f ∷ fs) w) = behind_ends depth_limit e (f ∷ fs) w in
    bad_at text e b.limit (λ d m. Behind d m (f ∷ fs) w) b.holds.agrees
    (end_halts text e b.limit (λ d m. Behind d m (f ∷ fs) w) n (λ m rest v x. behind_counts b.limit text e depth_limit m (f ∷ fs) w rest v b.clear x) (none_counts b.limit text e b.clear)
    (record { rest = j.rest; value = j.value; ends = j.ends }) (λ more m v x. stuck.behind_none (depth_limit + more) m f fs w v x))

pub behind_bad : (text : List ℕ) (r : Reader) (e : ℕ) (f : Frame) (fs : List Frame) (w : Json) → Blanked text r e (f ∷ fs) w → e < length text → is_blank (slice_index text e) ≡ false
    → slice_index text e ≢ 44 → slice_index text e ≢ closing f.kind → IsBad text e
behind_bad text r e f fs w b lt firm n1 n2 =
    let j : Ends depth_limit e (λ d n. Behind d n (f ∷ fs) w) = behind_ends depth_limit e (f ∷ fs) w in
    bad_at text e b.limit (λ d m. Behind d m (f ∷ fs) w) b.holds.agrees
    (other_halts text e b.limit (λ d m. Behind d m (f ∷ fs) w) lt (λ m rest v x. behind_counts b.limit text e depth_limit m (f ∷ fs) w rest v b.clear x) (λ rest. next_counts b.limit text e rest b.clear lt)
    (record { rest = j.rest; value = j.value; ends = j.ends }) (λ more m rest v x. stuck.behind_other (depth_limit + more) m f fs w (slice_index text e) rest v firm n1 n2 x))

pub behind_close : (text : List ℕ) (r new : Reader) (e : ℕ) (f : Frame) (fs : List Frame) (w : Json) → Blanked text r e (f ∷ fs) w → e < length text → slice_index text e ≡ closing f.kind
    → Closes (record r { at = e }) new → ReadsBehind text new
behind_close text r new e f fs w b lt q k =
    let h = b.holds in
    let ps : Parts = part f.name w no_parts in
    let inside : cells_in (onto f.done ps) ≡ (cells_done f.done ++ name_cells f.name) ++ cells_of w =
    cells_onto f.done ps ∙ ap (λ (x : List Cell). cells_done f.done ++ (name_cells f.name ++ x)) (append-nil (cells_of w)) ∙ sym (append_assoc (cells_done f.done) (name_cells f.name) (cells_of w)) in
    let c = close_cells text (record r { at = e }) new b.limit f fs (cells_of w) (λ d n. Behind d n (f ∷ fs) w) ps h k inside in
    let a : Agrees text (e + 1) any (λ d n. Behind d n fs (closed f (e + 1) ps)) =
    advance_one text e (closing f.kind) b.limit (λ d n. Behind d n (f ∷ fs) w) (λ d n. Behind d n fs (closed f (e + 1) ps)) h.agrees lt q (closing_plain f.kind)
    (λ x. byte_counts b.limit text e (closing f.kind) x b.clear (closing_clear f.kind))
    (λ m rest v x. close_into (depth_limit + m) (e + 1 + length rest) f fs w (e + 1) rest v refl x)
    (λ m rest v x. close_back (depth_limit + m) (e + 1 + length rest) f fs w (e + 1) rest v refl x) in (
      fs,
      closed f (e + 1) ps,
      any,
      record {
        agrees = subst (λ (m : ℕ). Agrees text m any (λ d n. Behind d n fs (closed f (e + 1) ps))) (sym k.3) a;
        laid = c.0;
        top_is = c.1;
        depth_is = c.2;
        shallow = omega (arith, h.shallow);
        few = omega (arith, c.3, h.few, k.3);
      },
      tt,
    )

comma_cells : (text : List ℕ) (r : Reader) (limit : Limit) (k : Bracket) (from : ℕ) (done : List (Option Name × Json)) (name : Option Name) (fs : List Frame) (w : Json) (Rest : ℕ → ℕ → List ℕ → Json → Type 0)
    → Holds text r limit (frame k from done name ∷ fs) (cells_of w) Rest → r.cells.items ≡ open_cells (frame k from ((name, w) ∷ done) None ∷ fs) ++ []
comma_cells text r limit k from done name fs w Rest h =
    let ph : Cell = cell (kind_of_bracket k) from (top_of fs) 0 in
    let old : r.cells.items ≡ (open_cells fs ++ (ph ∷ (cells_done done ++ name_cells name))) ++ cells_of w = h.laid in
    old ∙ simp (append_assoc, append-nil)

pub comma_item : (text : List ℕ) (r : Reader) (e : ℕ) (from : ℕ) (done : List (Option Name × Json)) (name : Option Name) (fs : List Frame) (w : Json)
    → Blanked text r e (frame square from done name ∷ fs) w → e < length text → slice_index text e ≡ 44 → ReadsValue text (record r { at = e + 1 })
comma_item text r e from done name fs w b lt q =
    let h = b.holds in
    let f : Frame = frame square from done name in
    let g : Frame = frame square from ((name, w) ∷ done) None in
    let a : Agrees text (e + 1) any (λ d n. Before d n (g ∷ fs)) =
    advance_one text e 44 b.limit (λ d n. Behind d n (f ∷ fs) w) (λ d n. Before d n (g ∷ fs)) h.agrees lt q (eqb-false 44 92 refl) (λ x. byte_counts b.limit text e 44 x b.clear refl)
    (λ m rest v x. comma_item_into (depth_limit + m) (e + 1 + length rest) from done name fs w rest v x)
    (λ m rest v x. comma_item_back (depth_limit + m) (e + 1 + length rest) from done name fs w rest v x) in (
      g ∷ fs,
      record {
        agrees = a;
        laid = comma_cells text (record r { at = e }) b.limit square from done name fs w (λ d n. Behind d n (f ∷ fs) w) h;
        top_is = h.top_is;
        depth_is = h.depth_is;
        shallow = h.shallow;
        few = omega (arith, h.few);
      },
    )

pub comma_name : (text : List ℕ) (r : Reader) (e : ℕ) (from : ℕ) (done : List (Option Name × Json)) (name : Option Name) (fs : List Frame) (w : Json)
    → Blanked text r e (frame curly from done name ∷ fs) w → e < length text → slice_index text e ≡ 44 → ReadsName text (record r { at = e + 1 })
comma_name text r e from done name fs w b lt q =
    let h = b.holds in
    let f : Frame = frame curly from done name in
    let g : Frame = frame curly from ((name, w) ∷ done) None in
    let a : Agrees text (e + 1) any (λ d n. BeforeName d n g fs) =
    advance_one text e 44 b.limit (λ d n. Behind d n (f ∷ fs) w) (λ d n. BeforeName d n g fs) h.agrees lt q (eqb-false 44 92 refl) (λ x. byte_counts b.limit text e 44 x b.clear refl)
    (λ m rest v x. comma_name_into (depth_limit + m) (e + 1 + length rest) from done name fs w rest v x)
    (λ m rest v x. comma_name_back (depth_limit + m) (e + 1 + length rest) from done name fs w rest v x) in (
      from,
      (name, w) ∷ done,
      fs,
      record {
        agrees = a;
        laid = comma_cells text (record r { at = e }) b.limit curly from done name fs w (λ d n. Behind d n (f ∷ fs) w) h;
        top_is = h.top_is;
        depth_is = h.depth_is;
        shallow = h.shallow;
        few = omega (arith, h.few);
      },
    )

-- ---- behind the value of the whole text

pub root_bad : (text : List ℕ) (r : Reader) (e : ℕ) (w : Json) → Blanked text r e [] w → e < length text → is_blank (slice_index text e) ≡ false → IsBad text e
root_bad text r e w b lt firm =
    let j : Ends depth_limit e (λ d n. Behind d n [] w) = behind_ends depth_limit e [] w in
    bad_at text e b.limit (λ d m. Behind d m [] w) b.holds.agrees
    (other_halts text e b.limit (λ d m. Behind d m [] w) lt (λ m rest v x. behind_counts b.limit text e depth_limit m [] w rest v b.clear x) (λ rest. next_counts b.limit text e rest b.clear lt)
    (record { rest = j.rest; value = j.value; ends = j.ends }) (λ more m rest v x. stuck.behind_all (depth_limit + more) m w (slice_index text e) rest v firm x))

pub root_read : (text : List ℕ) (r : Reader) (e : ℕ) (w : Json) → Blanked text r e [] w → e ≡ length text → IsRead text r.cells.items
root_read text r e w b n =
    let all : take e text ++ [] ≡ text = append-nil (take e text) ∙ take_all e text (omega arith) in
    let c : Counts b.limit [] = none_counts b.limit text e b.clear in (
      w,
      b.holds.laid,
      subst (λ (q : List ℕ). SpelledWithin depth_limit q w) all (b.holds.agrees.back 0 [] w c (no_blanks [], refl)),
      λ v sp. (b.holds.agrees.into 0 [] v c (subst (λ (q : List ℕ). SpelledWithin depth_limit q v) (sym all) sp)).1,
    )

-- Steps of the reader behind a token.
use Rattle.std.proofs.Common.{◌≡◌, ◌≢◌, ℕ, suc, ◌+◌, ◌-◌, ◌<◌, ◌≤◌, List, [], ◌∷◌, ◌++◌, length, get_or, refl, sym, ◌∙◌, ap, subst, arith, ◌⊎◌, inl, inr, Option, Some, None, append_assoc, length-append}
use Rattle.std.proofs.lemmas.Bool.{eqb-false}
use Rattle.std.proofs.lemmas.List.{append-nil, get_or_at, set_at, length-set}
use Rattle.json_exact.specs.Json.{null_word, true_word, false_word, Leaf, word, number, string, Bracket, square, curly, Name, Json, leaf, Parts, no_parts, part}
use Rattle.json_exact.specs.Characters.{decoded}
use Rattle.json_exact.specs.JsonText.{IsLeaf, closing}
use Rattle.json_exact.specs.JsonRests.{Frame, Behind, Before, Opened, BeforeName, BeforeColon, closed, onto, Limit, any, no_closing}
use Rattle.json_exact.proofs.Steps.{frame, leaf_back}
use Rattle.std.proofs.Common.{Result, Ok, Err}
use Rattle.std.specs.Prelude.{slice_range, slice_index, slice_set}
use Rattle.json_exact.specs.JsonRefusals.{depth_limit, IsBad}
use Rattle.json_exact.specs.Scans.{CountsString, EndsString, PassesBlanks}
use Rattle.json_exact.specs.JsonRests.{Agrees, IsHere, IsClear, Holds, ReadsValue, ReadsValueHere, ReadsName, ReadsNameHere, ReadsColon, ReadsFirst, ReadsBehind, Puts, Closes, EndsLeaf, kind_of, kind_of_bracket, limit_of_kind, cell, cells_of, cells_in, cells_done, name_cells, open_cells, top_of}
use Rattle.json_exact.specs.declared.error.JsonError.{JsonError}
use Rattle.json_exact.specs.declared.reader.Reader.{Reader}
use Rattle.json_exact.specs.declared.cells.Cell.{Cell}
use Rattle.json_exact.specs.declared.cells.Kind.{Kind}
use Rattle.json_exact.specs.declared.cells.Kind.TheVariants.{String, Object}
use Rattle.json_exact.proofs.Ranges.{length_range}
use Rattle.json_exact.proofs.Blanks.{opened_pass, opened_more, name_pass, name_more, colon_pass, colon_more}
use Rattle.json_exact.proofs.Steps.{first_close_into, first_close_back, first_item_into, first_item_back, first_name_into, first_name_back, colon_into, colon_back}
use Rattle.json_exact.proofs.Leaves.{limit_of, leaf_into, name_into, name_back}
use Rattle.json_exact.proofs.Stuck as stuck
use Rattle.json_exact.proofs.Endings.{EndsBehind, Ends, name_ends, colon_ends, opened_ends}
use Rattle.json_exact.proofs.Agreeing.{advance, string_stops, string_letters, string_bytes}
use Rattle.json_exact.proofs.Tokens.{other_halts, end_halts, bad_at, takes_value, takes_name, wide_name, wide_here, token_counts, prefix_counts}
use Rattle.json_exact.proofs.Turns.{hold_blanks, advance_one, one_on, here, here_counts, closing_plain}

-- ---- a leaf

same_limit : (l : Leaf) → limit_of_kind (kind_of l) ≡ limit_of l
same_limit (word null_word) = refl
same_limit (word true_word) = refl
same_limit (word false_word) = refl
same_limit (number ds) = refl
same_limit (string t) = refl

leaf_advance : (text : List ℕ) (at e : ℕ) (kind : Kind) (limit : Limit) (fs : List Frame) (l : Leaf) → Agrees text at limit (λ d n. Before d n fs) → IsHere text at limit
    → IsLeaf l (slice_range text at e) → at < e → e ≤ length text
    → (((s : ℕ) → at ≤ s → s < e → slice_index text s ≢ 92) ⊎ ((slice_index text at ≡ 34) × EndsString text (suc at) e))
    → Agrees text e (limit_of l) (λ d n. Behind d n fs (leaf l at e))
leaf_advance text at e kind limit fs l a hr is lt le lets =
    advance text at e limit (limit_of l) (λ d n. Before d n fs) (λ d n. Behind d n fs (leaf l at e)) a (omega arith) le (record {
      into = λ m rest v c x. leaf_into (depth_limit + m) (e + length rest) fs l (slice_range text at e) at e rest v is c
          (omega (arith, length-append (slice_range text at e) rest, length_range text at e le)) refl x;
      back = λ m rest v c x. leaf_back (depth_limit + m) (e + length rest) fs l (slice_range text at e) at e rest v is
          (omega (arith, length-append (slice_range text at e) rest, length_range text at e le)) refl x;
      counts = λ rest c. prefix_counts limit text at e rest lt le hr;
      letters = λ s h k b can. elim lets [
        | inl plain ↦ absurd (plain s h k b)
        | inr q ↦ string_letters text at e limit (λ d n. Before d n fs) a (takes_value fs) (here_counts text at 34 limit hr q.0) q.0 q.1 s h k b
      ];
    })

pub leaf_turn : (text : List ℕ) (r new : Reader) (kind : Kind) (e : ℕ) (res : Result (Unit {0}) JsonError) → ReadsValueHere text r → EndsLeaf text r.at kind e
    → Puts r kind e new res → (u : Unit {0}) → res ≡ Ok u → ReadsBehind text new
leaf_turn text r new kind e (Err x) (fs, limit, h, hr) (l, is, k, lt, le, clear, lets) p u o = cc
leaf_turn text r new kind e (Ok x) (fs, limit, h, hr) (l, is, k, lt, le, clear, lets) p u o =
    let a : Agrees text e (limit_of l) (λ d n. Behind d n fs (leaf l r.at e)) = leaf_advance text r.at e kind limit fs l h.agrees hr is lt le lets in
    let old : r.cells.items ≡ open_cells fs = h.laid ∙ append-nil (open_cells fs) in
    let n1 : length new.cells.items ≡ length r.cells.items + 1 = ap length p.0 ∙ length-append r.cells.items (cell kind r.at e 0 ∷ []) in
    let hold : Holds text new (limit_of l) fs (cells_of (leaf l r.at e)) (λ d n. Behind d n fs (leaf l r.at e)) = record {
      agrees = subst (λ (m : ℕ). Agrees text m (limit_of l) (λ d n. Behind d n fs (leaf l r.at e))) (sym p.1) a;
      laid = p.0 ∙ ap (λ (x : List Cell). x ++ cell kind r.at e 0 ∷ []) old ∙ ap (λ (x : Kind). open_cells fs ++ cell x r.at e 0 ∷ []) k;
      top_is = p.2 ∙ h.top_is;
      depth_is = p.3 ∙ h.depth_is;
      shallow = h.shallow;
      few = omega (arith, n1, h.few, p.1);
    } in
    let same : limit_of_kind kind ≡ limit_of l = ap limit_of_kind k ∙ same_limit l in
    let cl : IsClear (limit_of l) text e = subst (λ (x : Limit). IsClear x text e) same clear in
    (fs, leaf l r.at e, limit_of l, hold, subst (λ (m : ℕ). IsClear (limit_of l) text m) (sym p.1) cl)

-- ---- the innermost open bracket

pub top_cell : (text : List ℕ) (r : Reader) (limit : Limit) (f : Frame) (fs : List Frame) (tail : List Cell) (Rest : ℕ → ℕ → List ℕ → Json → Type 0) (d : Cell)
    → Holds text r limit (f ∷ fs) tail Rest → get_or r.cells.items r.top d ≡ cell (kind_of_bracket f.kind) f.from (top_of fs) 0
top_cell text r limit f fs tail Rest d h =
    let c : Cell = cell (kind_of_bracket f.kind) f.from (top_of fs) 0 in
    let e : r.cells.items ≡ open_cells fs ++ (c ∷ ((cells_done f.done ++ name_cells f.name) ++ tail)) = h.laid ∙ append_assoc (open_cells fs) (c ∷ (cells_done f.done ++ name_cells f.name)) tail in
    ap (λ (q : List Cell). get_or q r.top d) e ∙ get_or_at (open_cells fs) c ((cells_done f.done ++ name_cells f.name) ++ tail) d r.top (sym h.top_is)

pub top_in : (text : List ℕ) (r : Reader) (limit : Limit) (f : Frame) (fs : List Frame) (tail : List Cell) (Rest : ℕ → ℕ → List ℕ → Json → Type 0)
    → Holds text r limit (f ∷ fs) tail Rest → r.top < length r.cells.items
top_in text r limit f fs tail Rest h =
    let c : Cell = cell (kind_of_bracket f.kind) f.from (top_of fs) 0 in
    let x : List Cell = (cells_done f.done ++ name_cells f.name) ++ tail in
    let e : r.cells.items ≡ open_cells fs ++ (c ∷ x) = h.laid ∙ append_assoc (open_cells fs) (c ∷ (cells_done f.done ++ name_cells f.name)) tail in
    let n : length r.cells.items ≡ length (open_cells fs) + length (c ∷ x) = ap length e ∙ length-append (open_cells fs) (c ∷ x) in
    omega (arith, h.top_is)

pub cells_onto : (ds : List (Option Name × Json)) (ps : Parts) → cells_in (onto ds ps) ≡ cells_done ds ++ cells_in ps
cells_onto [] ps = refl
cells_onto (d ∷ ds) ps =
    cells_onto ds (part d.0 d.1 ps) ∙ ap (λ (x : List Cell). cells_done ds ++ x) (sym (append_assoc (name_cells d.0) (cells_of d.1) (cells_in ps)))
    ∙ sym (append_assoc (cells_done ds) (name_cells d.0 ++ cells_of d.1) (cells_in ps))

-- the cells when the innermost bracket closes behind the parts
pub close_cells : (text : List ℕ) (r new : Reader) (limit : Limit) (f : Frame) (fs : List Frame) (tail : List Cell) (Rest : ℕ → ℕ → List ℕ → Json → Type 0) (ps : Parts)
    → Holds text r limit (f ∷ fs) tail Rest → Closes r new → cells_in (onto f.done ps) ≡ (cells_done f.done ++ name_cells f.name) ++ tail
    → (new.cells.items ≡ open_cells fs ++ cells_of (closed f (r.at + 1) ps)) × (new.top ≡ top_of fs) × (new.depth ≡ length fs) × (length new.cells.items ≡ length r.cells.items)
close_cells text r new limit f fs tail Rest ps h k inside =
    let c : Cell = cell (kind_of_bracket f.kind) f.from (top_of fs) 0 in
    let x : List Cell = (cells_done f.done ++ name_cells f.name) ++ tail in
    let e : r.cells.items ≡ open_cells fs ++ (c ∷ x) = h.laid ∙ append_assoc (open_cells fs) (c ∷ (cells_done f.done ++ name_cells f.name)) tail in
    let n : length r.cells.items ≡ length (open_cells fs) + length (c ∷ x) = ap length e ∙ length-append (open_cells fs) (c ∷ x) in
    let open' : k.0 ≡ c = k.1 ∙ top_cell text r limit f fs tail Rest k.0 h in
    let count : length r.cells.items - r.top - 1 ≡ length (cells_in (onto f.done ps)) = omega (arith, h.top_is, ap length inside) in
    let made : cell k.0.kind k.0.at (r.at + 1) (length r.cells.items - r.top - 1) ≡ cell (kind_of_bracket f.kind) f.from (r.at + 1) (length (cells_in (onto f.done ps)))
    = ap (λ (y : Cell). cell y.kind y.at (r.at + 1) (length r.cells.items - r.top - 1)) open' ∙ ap (λ (m : ℕ). cell (kind_of_bracket f.kind) f.from (r.at + 1) m) count in
    let new' : Cell = cell (kind_of_bracket f.kind) f.from (r.at + 1) (length (cells_in (onto f.done ps))) in
    let items : new.cells.items ≡ open_cells fs ++ (new' ∷ cells_in (onto f.done ps)) =
    k.2 ∙ ap (λ (y : Cell). slice_set r.cells.items r.top y) made ∙ ap (λ (q : List Cell). slice_set q r.top new') e
    ∙ set_at (open_cells fs) c x new' r.top (sym h.top_is) ∙ ap (λ (q : List Cell). open_cells fs ++ (new' ∷ q)) (sym inside) in
    let size : length new.cells.items ≡ length r.cells.items = ap length k.2 ∙ length-set r.cells.items r.top (cell k.0.kind k.0.at (r.at + 1) (length r.cells.items - r.top - 1)) in
    (items, k.4 ∙ ap (λ (y : Cell). y.end) open', omega (arith, k.5, h.depth_is), size)

-- ---- behind an opening bracket

pub first_on : (text : List ℕ) (r : Reader) (e : ℕ) (b : Bracket) (from : ℕ) (fs : List Frame)
    → Holds text r any (frame b from [] None ∷ fs) [] (λ d n. Opened d n (frame b from [] None) fs) → PassesBlanks text r.at e
    → Holds text (record r { at = e }) any (frame b from [] None ∷ fs) [] (λ d n. Opened d n (frame b from [] None) fs)
first_on text r e b from fs h p =
    hold_blanks text r e (frame b from [] None ∷ fs) [] (λ d n. Opened d n (frame b from [] None) fs) h p
    (λ d m ws rest v x y. opened_pass d m (frame b from [] None) fs ws rest v x y) (λ d m ws rest v x y. opened_more d m (frame b from [] None) fs ws rest v x y)

pub first_over : (text : List ℕ) (r : Reader) (e : ℕ) → ReadsFirst text r → PassesBlanks text r.at e → e ≡ length text → IsBad text e
first_over text r e (b, from, fs, h) p n =
    let f : Frame = frame b from [] None in
    let h' = first_on text r e b from fs h p in
    let j : Ends depth_limit e (λ d n. Opened d n f fs) = opened_ends depth_limit e f fs in
    bad_at text e any (λ d m. Opened d m f fs) h'.agrees
    (end_halts text e any (λ d m. Opened d m f fs) n (λ m rest v x. tt) tt (record { rest = j.rest; value = j.value; ends = j.ends }) (λ more m v x. stuck.opened_none (depth_limit + more) m f fs v x))

pub first_close : (text : List ℕ) (r new : Reader) (e : ℕ) (b : Bracket) (from : ℕ) (fs : List Frame)
    → Holds text (record r { at = e }) any (frame b from [] None ∷ fs) [] (λ d n. Opened d n (frame b from [] None) fs) → e < length text → slice_index text e ≡ closing b
    → Closes (record r { at = e }) new → ReadsBehind text new
first_close text r new e b from fs h lt q k =
    let f : Frame = frame b from [] None in
    let c = close_cells text (record r { at = e }) new any f fs [] (λ d n. Opened d n f fs) no_parts h k refl in
    let a : Agrees text (e + 1) any (λ d n. Behind d n fs (closed f (e + 1) no_parts)) =
    advance_one text e (closing b) any (λ d n. Opened d n f fs) (λ d n. Behind d n fs (closed f (e + 1) no_parts)) h.agrees lt q (closing_plain b) (λ x. tt)
    (λ m rest v x. first_close_into (depth_limit + m) (e + 1 + length rest) f fs (e + 1) rest v refl x)
    (λ m rest v x. first_close_back (depth_limit + m) (e + 1 + length rest) f fs (e + 1) rest v refl x) in (
      fs,
      closed f (e + 1) no_parts,
      any,
      record {
        agrees = subst (λ (m : ℕ). Agrees text m any (λ d n. Behind d n fs (closed f (e + 1) no_parts))) (sym k.3) a;
        laid = c.0;
        top_is = c.1;
        depth_is = c.2;
        shallow = omega (arith, h.shallow);
        few = omega (arith, c.3, h.few, k.3);
      },
      tt,
    )

-- the closing bracket is not there: then a part comes first
pub first_item : (text : List ℕ) (r : Reader) (from : ℕ) (fs : List Frame)
    → Holds text r any (frame square from [] None ∷ fs) [] (λ d n. Opened d n (frame square from [] None) fs) → IsHere text r.at any → slice_index text r.at ≢ 93
    → ReadsValueHere text r
first_item text r from fs h hr n =
    let f : Frame = frame square from [] None in (
      f ∷ fs,
      no_closing square,
      record {
        agrees = record {
          in_text = h.agrees.in_text;
          into = λ m rest v c sp. first_item_into (depth_limit + m) (r.at + length rest) from [] fs rest v c (h.agrees.into m rest v tt sp);
          back = λ m rest v c x. h.agrees.back m rest v tt (first_item_back (depth_limit + m) (r.at + length rest) from [] fs rest v x);
          letters = h.agrees.letters;
        };
        laid = h.laid;
        top_is = h.top_is;
        depth_is = h.depth_is;
        shallow = h.shallow;
        few = h.few;
      },
      record { in_text = hr.in_text; firm = hr.firm; allowed = n },
    )

pub first_name : (text : List ℕ) (r : Reader) (from : ℕ) (fs : List Frame)
    → Holds text r any (frame curly from [] None ∷ fs) [] (λ d n. Opened d n (frame curly from [] None) fs) → IsHere text r.at any → slice_index text r.at ≢ 125
    → ReadsNameHere text r
first_name text r from fs h hr n = (
  from,
  [],
  fs,
  no_closing curly,
  record {
    agrees = record {
      in_text = h.agrees.in_text;
      into = λ m rest v c sp. first_name_into (depth_limit + m) (r.at + length rest) from [] fs rest v c (h.agrees.into m rest v tt sp);
      back = λ m rest v c x. h.agrees.back m rest v tt (first_name_back (depth_limit + m) (r.at + length rest) from [] fs rest v x);
      letters = h.agrees.letters;
    };
    laid = h.laid;
    top_is = h.top_is;
    depth_is = h.depth_is;
    shallow = h.shallow;
    few = h.few;
  },
  record { in_text = hr.in_text; firm = hr.firm; allowed = n },
)

-- ---- a name and its colon

pub name_on : (text : List ℕ) (r : Reader) (e : ℕ) → ReadsName text r → PassesBlanks text r.at e → e ≢ length text → ReadsNameHere text (record r { at = e })
name_on text r e (from, done, fs, h) p n =
    let f : Frame = frame curly from done None in
    (from, done, fs, any, hold_blanks text r e (f ∷ fs) [] (λ d m. BeforeName d m f fs) h p (λ d m ws rest v b x. name_pass d m f fs ws rest v b x) (λ d m ws rest v b x. name_more d m f fs ws rest v b x), here text r.at e p n)

empty_name : (at : ℕ) (f : Frame) (fs : List Frame) → EndsBehind depth_limit at [] (λ d n. BeforeName d n f fs)
empty_name at f fs = (let i = name_ends depth_limit at f fs [] (λ e. cc) in record { rest = 34 ∷ i.rest; value = i.value; ends = i.ends })

pub name_over : (text : List ℕ) (r : Reader) (e : ℕ) → ReadsName text r → PassesBlanks text r.at e → e ≡ length text → IsBad text e
name_over text r e (from, done, fs, h) p n =
    let f : Frame = frame curly from done None in
    let h' : Holds text (record r { at = e }) any (f ∷ fs) [] (λ d m. BeforeName d m f fs)
    = hold_blanks text r e (f ∷ fs) [] (λ d m. BeforeName d m f fs) h p (λ d m ws rest v b x. name_pass d m f fs ws rest v b x) (λ d m ws rest v b x. name_more d m f fs ws rest v b x) in
    bad_at text e any (λ d m. BeforeName d m f fs) h'.agrees
    (end_halts text e any (λ d m. BeforeName d m f fs) n (λ m rest v x. tt) tt (empty_name e f fs) (λ more m v x. stuck.name_none (depth_limit + more) m f fs v x))

pub name_bad : (text : List ℕ) (r : Reader) → ReadsNameHere text r → slice_index text r.at ≢ 34 → IsBad text r.at
name_bad text r (from, done, fs, limit, h, hr) n =
    let f : Frame = frame curly from done None in
    let c : ℕ = slice_index text r.at in
    bad_at text r.at limit (λ d m. BeforeName d m f fs) h.agrees
    (other_halts text r.at limit (λ d m. BeforeName d m f fs) hr.in_text (λ m rest v x. wide_name limit depth_limit m f fs rest v (wide_here limit c hr.allowed) x)
    (λ rest. token_counts limit c rest hr.firm hr.allowed) (empty_name r.at f fs) (λ more m rest v x. stuck.name_other (depth_limit + more) m f fs c rest v hr.firm n x))

pub name_stops : (text : List ℕ) (r : Reader) (k : ℕ) → ReadsNameHere text r → slice_index text r.at ≡ 34 → CountsString text (r.at + 1) k → IsBad text k
name_stops text r k (from, done, fs, limit, h, hr) q c =
    let f : Frame = frame curly from done None in
    string_stops text r.at k limit (λ d m. BeforeName d m f fs) h.agrees (takes_name f fs) (here_counts text r.at 34 limit hr q) q (subst (λ (m : ℕ). CountsString text m k) (sym (one_on r.at)) c)

pub name_turn : (text : List ℕ) (r new : Reader) (e : ℕ) (res : Result (Unit {0}) JsonError) → ReadsNameHere text r → slice_index text r.at ≡ 34 → EndsString text (r.at + 1) e
    → Puts r String e new res → (u : Unit {0}) → res ≡ Ok u → ReadsColon text new
name_turn text r new e (Err x) (from, done, fs, limit, h, hr) q s p u o = cc
name_turn text r new e (Ok x) (from, done, fs, limit, h, hr) q s' p u o =
    let at : ℕ = r.at in
    let f : Frame = frame curly from done None in
    let s : EndsString text (suc at) e = subst (λ (m : ℕ). EndsString text m e) (sym (one_on at)) s' in
    let raw : List ℕ = slice_range text (suc at) (e - 1) in
    let bytes : slice_range text at e ≡ 34 ∷ raw ++ 34 ∷ [] = string_bytes text at e q s in
    let lt : suc at < e = s.forward in
    let le : e ≤ length text = s.in_text in
    let name : Name = record { from = at; to = e; text = decoded raw } in
    let g : Frame = frame curly from done (Some name) in
    let size : (rest : List ℕ) → at + length ((34 ∷ raw ++ 34 ∷ []) ++ rest) ≡ e + length rest = λ rest.
    omega (arith, length-append (34 ∷ raw ++ 34 ∷ []) rest, ap length bytes, length_range text at e le) in
    let a : Agrees text e any (λ d n. BeforeColon d n (g ∷ fs)) = advance text at e limit any (λ d n. BeforeName d n f fs) (λ d n. BeforeColon d n (g ∷ fs)) h.agrees (omega arith) le (record {
      into = λ m rest v c y. name_into (depth_limit + m) (e + length rest) f fs raw at e rest v s.characters (size rest) refl
          (subst (λ (z : List ℕ). BeforeName (depth_limit + m) (e + length rest) f fs (z ++ rest) v) bytes y);
      back = λ m rest v c y. subst (λ (z : List ℕ). BeforeName (depth_limit + m) (e + length rest) f fs (z ++ rest) v) (sym bytes)
          (name_back (depth_limit + m) (e + length rest) f fs raw at e rest v s.characters (size rest) refl y);
      counts = λ rest c. prefix_counts limit text at e rest (omega arith) le hr;
      letters = λ i b c d can. string_letters text at e limit (λ d n. BeforeName d n f fs) h.agrees (takes_name f fs) (here_counts text at 34 limit hr q) q s i b c d;
    }) in
    let ph : Cell = cell Object from (top_of fs) 0 in
    let nc : List Cell = cell String at e 0 ∷ [] in
    let n1 : length new.cells.items ≡ length r.cells.items + 1 = ap length p.0 ∙ length-append r.cells.items nc in
    let old : r.cells.items ≡ (open_cells fs ++ (ph ∷ (cells_done done ++ []))) ++ [] = h.laid in (
      g ∷ fs,
      record {
        agrees = subst (λ (m : ℕ). Agrees text m any (λ d n. BeforeColon d n (g ∷ fs))) (sym p.1) a;
        laid = p.0 ∙ ap (λ (x : List Cell). x ++ nc) old ∙ simp (append_assoc, append-nil);
        top_is = p.2 ∙ h.top_is;
        depth_is = p.3 ∙ h.depth_is;
        shallow = h.shallow;
        few = omega (arith, n1, h.few, p.1);
      },
    )

pub colon_over : (text : List ℕ) (r : Reader) (e : ℕ) → ReadsColon text r → PassesBlanks text r.at e → e ≡ length text → IsBad text e
colon_over text r e (fs, h) p n =
    let h' : Holds text (record r { at = e }) any fs [] (λ d m. BeforeColon d m fs)
    = hold_blanks text r e fs [] (λ d m. BeforeColon d m fs) h p (λ d m ws rest v b x. colon_pass d m fs ws rest v b x) (λ d m ws rest v b x. colon_more d m fs ws rest v b x) in
    bad_at text e any (λ d m. BeforeColon d m fs) h'.agrees
    (end_halts text e any (λ d m. BeforeColon d m fs) n (λ m rest v x. tt) tt (colon_ends depth_limit e fs) (λ more m v x. stuck.colon_none (depth_limit + more) m fs v x))

pub colon_bad : (text : List ℕ) (r : Reader) (e : ℕ) → ReadsColon text r → PassesBlanks text r.at e → e ≢ length text → slice_index text e ≢ 58 → IsBad text e
colon_bad text r e (fs, h) p n ne =
    let h' : Holds text (record r { at = e }) any fs [] (λ d m. BeforeColon d m fs)
    = hold_blanks text r e fs [] (λ d m. BeforeColon d m fs) h p (λ d m ws rest v b x. colon_pass d m fs ws rest v b x) (λ d m ws rest v b x. colon_more d m fs ws rest v b x) in
    let hr : IsHere text e any = here text r.at e p n in
    bad_at text e any (λ d m. BeforeColon d m fs) h'.agrees
    (other_halts text e any (λ d m. BeforeColon d m fs) hr.in_text (λ m rest v x. tt) (λ rest. tt) (colon_ends depth_limit e fs)
    (λ more m rest v x. stuck.colon_other (depth_limit + more) m fs (slice_index text e) rest v hr.firm ne x))

pub colon_turn : (text : List ℕ) (r : Reader) (e : ℕ) → ReadsColon text r → PassesBlanks text r.at e → e ≢ length text → slice_index text e ≡ 58 → ReadsValue text (record r { at = e + 1 })
colon_turn text r e (fs, h) p n q =
    let h' : Holds text (record r { at = e }) any fs [] (λ d m. BeforeColon d m fs)
    = hold_blanks text r e fs [] (λ d m. BeforeColon d m fs) h p (λ d m ws rest v b x. colon_pass d m fs ws rest v b x) (λ d m ws rest v b x. colon_more d m fs ws rest v b x) in
    let hr : IsHere text e any = here text r.at e p n in
    let a : Agrees text (e + 1) any (λ d m. Before d m fs) = advance_one text e 58 any (λ d m. BeforeColon d m fs) (λ d m. Before d m fs) h'.agrees hr.in_text q (eqb-false 58 92 refl) (λ x. tt)
    (λ m rest v x. colon_into (depth_limit + m) (e + 1 + length rest) fs rest v x) (λ m rest v x. colon_back (depth_limit + m) (e + 1 + length rest) fs rest v x) in
    (fs, record { agrees = a; laid = h'.laid; top_is = h'.top_is; depth_is = h'.depth_is; shallow = h'.shallow; few = omega (arith, h'.few) })

-- The steps of the reader in the words of its own calls.
use Rattle.std.proofs.Common.{◌≡◌, ◌≢◌, ℕ, ◌+◌, ◌<◌, ◌≤◌, List, [], ◌∷◌, length, get_or, true, false, refl, sym, ◌∙◌, ap, subst, arith, Option, None}
use Rattle.std.proofs.lemmas.Bool.{both_ways, eqb-true}
use denote.Enum.Bare.{sameb}
use Rattle.json_exact.specs.contracts.cells.Kind.{the_type}
use Rattle.std.specs.Prelude.{slice_index}
use Rattle.json_exact.specs.Json.{Bracket, square, curly, Name, Json}
use Rattle.json_exact.specs.JsonText.{closing, SpelledWithin, Spells}
use Rattle.json_exact.specs.JsonRefusals.{depth_limit, IsBad}
use Rattle.json_exact.specs.Scans.{PassesBlanks}
use Rattle.json_exact.specs.JsonRests.{Frame, levels_left, Agrees, ReadsValue, ReadsValueHere, ReadsName, ReadsNameHere, ReadsFirst, ReadsBehind, Reads, Closes, any, closing_of, kind_of_bracket, cells_of, Before, Opened, Behind, IsRead, finished}
use Rattle.json_exact.specs.declared.reader.Reader.{Reader}
use Rattle.json_exact.specs.declared.reader.Next.{Next}
use Rattle.json_exact.specs.declared.reader.Next.TheVariants.{Value, First, After}
use Rattle.json_exact.specs.declared.cells.Cell.{Cell}
use Rattle.json_exact.specs.declared.cells.Kind.{Kind}
use Rattle.json_exact.specs.declared.cells.Kind.TheVariants.{Object, List as AList}
use Rattle.json_exact.proofs.Steps.{frame}
use Rattle.json_exact.proofs.Turns.{here}
use Rattle.json_exact.proofs.Onward.{first_on, first_close, first_item, first_name, top_cell, top_in}
use Rattle.json_exact.proofs.Behind.{Blanked, blanked, behind_over, behind_bad, behind_close, comma_item, comma_name, root_bad, root_read}

closing_kind : (b : Bracket) → closing_of (kind_of_bracket b) ≡ closing b
closing_kind square = refl
closing_kind curly = refl

is_in : (text : List ℕ) (at e : ℕ) → PassesBlanks text at e → e ≢ length text → e < length text
is_in text at e p n = (let le : e ≤ length text = p.in_text in omega arith)

pub first_closes : (text : List ℕ) (r new : Reader) (e : ℕ) (k : Cell) → ReadsFirst text r → PassesBlanks text r.at e → e ≢ length text → k ≡ get_or r.cells.items r.top k
    → slice_index text e ≡ closing_of k.kind → Closes (record r { at = e }) new → ReadsBehind text new
first_closes text r new e k (b, from, fs, h) p n i q c =
    let f : Frame = frame b from [] None in
    let kind : k.kind ≡ kind_of_bracket b = ap (λ (x : Cell). x.kind) (i ∙ top_cell text r any f fs [] (λ d m. Opened d m f fs) k h) in
    first_close text r new e b from fs (first_on text r e b from fs h p) (is_in text r.at e p n) (q ∙ ap closing_of kind ∙ closing_kind b) c

pub first_names : (text : List ℕ) (r : Reader) (e : ℕ) (k : Cell) → ReadsFirst text r → PassesBlanks text r.at e → e ≢ length text → k ≡ get_or r.cells.items r.top k
    → slice_index text e ≢ closing_of k.kind → sameb the_type k.kind Object ≡ true → ReadsNameHere text (record r { at = e })
first_names text r e k (square, from, fs, h) p n i q s =
    let f : Frame = frame square from [] None in
    let kind : k.kind ≡ AList = ap (λ (x : Cell). x.kind) (i ∙ top_cell text r any f fs [] (λ d m. Opened d m f fs) k h) in
    absurd (both_ways false refl (subst (λ (x : Kind). sameb the_type x Object ≡ true) kind s))
first_names text r e k (curly, from, fs, h) p n i q s =
    let f : Frame = frame curly from [] None in
    let kind : k.kind ≡ Object = ap (λ (x : Cell). x.kind) (i ∙ top_cell text r any f fs [] (λ d m. Opened d m f fs) k h) in
    first_name text (record r { at = e }) from fs (first_on text r e curly from fs h p) (here text r.at e p n) (λ x. q (x ∙ ap closing_of (sym kind)))

pub first_items : (text : List ℕ) (r : Reader) (e : ℕ) (k : Cell) → ReadsFirst text r → PassesBlanks text r.at e → e ≢ length text → k ≡ get_or r.cells.items r.top k
    → slice_index text e ≢ closing_of k.kind → sameb the_type k.kind Object ≡ false → ReadsValueHere text (record r { at = e })
first_items text r e k (curly, from, fs, h) p n i q s =
    let f : Frame = frame curly from [] None in
    let kind : k.kind ≡ Object = ap (λ (x : Cell). x.kind) (i ∙ top_cell text r any f fs [] (λ d m. Opened d m f fs) k h) in
    absurd (both_ways true (subst (λ (x : Kind). sameb the_type x Object ≡ false) kind s) refl)
first_items text r e k (square, from, fs, h) p n i q s =
    let f : Frame = frame square from [] None in
    let kind : k.kind ≡ AList = ap (λ (x : Cell). x.kind) (i ∙ top_cell text r any f fs [] (λ d m. Opened d m f fs) k h) in
    first_item text (record r { at = e }) from fs (first_on text r e square from fs h p) (here text r.at e p n) (λ x. q (x ∙ ap closing_of (sym kind)))

-- ---- behind a value in brackets

-- the innermost bracket
record InBrackets (text : List ℕ) (r : Reader) (e : ℕ) : Type 0 where
  f : Frame
  fs : List Frame
  w : Json
  blanks : Blanked text r e (f ∷ fs) w
  cell_is : (k : Cell) → k ≡ get_or r.cells.items r.top k → k.kind ≡ kind_of_bracket f.kind

in_brackets : (text : List ℕ) (r : Reader) (e : ℕ) → ReadsBehind text r → 0 < r.depth → PassesBlanks text r.at e → InBrackets text r e
in_brackets text r e ([], w, limit, h, c) lt p = absurd (omega (arith, h.depth_is))
in_brackets text r e (f ∷ fs, w, limit, h, c) lt p = record {
  f = f;
  fs = fs;
  w = w;
  blanks = blanked text r e (f ∷ fs) w limit h c p;
  cell_is = λ k i. ap (λ (x : Cell). x.kind) (i ∙ top_cell text r limit f fs (cells_of w) (λ d m. Behind d m (f ∷ fs) w) k h);
}

pub behind_top : (text : List ℕ) (r : Reader) → ReadsBehind text r → 0 < r.depth → r.top < length r.cells.items
behind_top text r ([], w, limit, h, c) lt = absurd (omega (arith, h.depth_is))
behind_top text r (f ∷ fs, w, limit, h, c) lt = top_in text r limit f fs (cells_of w) (λ d m. Behind d m (f ∷ fs) w) h

pub after_over : (text : List ℕ) (r : Reader) (e : ℕ) → ReadsBehind text r → 0 < r.depth → PassesBlanks text r.at e → e ≡ length text → IsBad text e
after_over text r e b lt p n = (let i = in_brackets text r e b lt p in behind_over text r e i.f i.fs i.w i.blanks n)

pub after_closes : (text : List ℕ) (r new : Reader) (e : ℕ) (k : Cell) → ReadsBehind text r → 0 < r.depth → PassesBlanks text r.at e → e ≢ length text → k ≡ get_or r.cells.items r.top k
    → slice_index text e ≡ closing_of k.kind → Closes (record r { at = e }) new → ReadsBehind text new
after_closes text r new e k b lt p n i q c =
    let x = in_brackets text r e b lt p in
    behind_close text r new e x.f x.fs x.w x.blanks (is_in text r.at e p n) (q ∙ ap closing_of (x.cell_is k i) ∙ closing_kind x.f.kind) c

pub after_bad : (text : List ℕ) (r : Reader) (e : ℕ) (k : Cell) → ReadsBehind text r → 0 < r.depth → PassesBlanks text r.at e → e ≢ length text → k ≡ get_or r.cells.items r.top k
    → slice_index text e ≢ closing_of k.kind → slice_index text e ≢ 44 → IsBad text e
after_bad text r e k b lt p n i q ne =
    let x = in_brackets text r e b lt p in
    let l : e < length text = is_in text r.at e p n in
    behind_bad text r e x.f x.fs x.w x.blanks l (p.next l) ne (λ y. q (y ∙ sym (closing_kind x.f.kind) ∙ ap closing_of (sym (x.cell_is k i))))

comma_names_by : (text : List ℕ) (r : Reader) (e : ℕ) (b : Bracket) (from : ℕ) (done : List (Option Name × Json)) (name : Option Name) (fs : List Frame) (w : Json) (k : Cell)
    → Blanked text r e (frame b from done name ∷ fs) w → e < length text → slice_index text e ≡ 44 → k.kind ≡ kind_of_bracket b → sameb the_type k.kind Object ≡ true → ReadsName text (record r { at = e + 1 })
comma_names_by text r e square from done name fs w k b lt q kind s = absurd (both_ways false refl (subst (λ (x : Kind). sameb the_type x Object ≡ true) kind s))
comma_names_by text r e curly from done name fs w k b lt q kind s = comma_name text r e from done name fs w b lt q

comma_items_by : (text : List ℕ) (r : Reader) (e : ℕ) (b : Bracket) (from : ℕ) (done : List (Option Name × Json)) (name : Option Name) (fs : List Frame) (w : Json) (k : Cell)
    → Blanked text r e (frame b from done name ∷ fs) w → e < length text → slice_index text e ≡ 44 → k.kind ≡ kind_of_bracket b → sameb the_type k.kind Object ≡ false → ReadsValue text (record r { at = e + 1 })
comma_items_by text r e curly from done name fs w k b lt q kind s = absurd (both_ways true (subst (λ (x : Kind). sameb the_type x Object ≡ false) kind s) refl)
comma_items_by text r e square from done name fs w k b lt q kind s = comma_item text r e from done name fs w b lt q

pub after_names : (text : List ℕ) (r : Reader) (e : ℕ) (k : Cell) → ReadsBehind text r → 0 < r.depth → PassesBlanks text r.at e → e ≢ length text → k ≡ get_or r.cells.items r.top k
    → slice_index text e ≡ 44 → sameb the_type k.kind Object ≡ true → ReadsName text (record r { at = e + 1 })
after_names text r e k b lt p n i q s =
    let x = in_brackets text r e b lt p in
    comma_names_by text r e x.f.kind x.f.from x.f.done x.f.name x.fs x.w k x.blanks (is_in text r.at e p n) q (x.cell_is k i) s

pub after_items : (text : List ℕ) (r : Reader) (e : ℕ) (k : Cell) → ReadsBehind text r → 0 < r.depth → PassesBlanks text r.at e → e ≢ length text → k ≡ get_or r.cells.items r.top k
    → slice_index text e ≡ 44 → sameb the_type k.kind Object ≡ false → ReadsValue text (record r { at = e + 1 })
after_items text r e k b lt p n i q s =
    let x = in_brackets text r e b lt p in
    comma_items_by text r e x.f.kind x.f.from x.f.done x.f.name x.fs x.w k x.blanks (is_in text r.at e p n) q (x.cell_is k i) s

-- ---- the whole text

all_levels : (levels : ℕ) → levels_left levels [] ≡ levels
all_levels levels = omega arith

no_more : (n : ℕ) → 0 + n ≡ n
no_more n = omega arith

begin : (levels : ℕ) (rest : List ℕ) (v : Json) → Before levels (0 + length rest) [] rest v → SpelledWithin levels rest v
begin levels rest v (w, s, t, bl, sp, (b, e)) =
    let one : Spells (length rest) (levels_left levels []) w s t = subst (λ (n : ℕ). Spells n (levels_left levels []) w s t) (no_more (length rest)) sp in
    let two : Spells (length rest) levels w s t = subst (λ (n : ℕ). Spells (length rest) n w s t) (all_levels levels) one in
    (s, t, bl, subst (λ (x : Json). Spells (length rest) levels x s t) (sym e) two, b)

unbegin : (levels : ℕ) (rest : List ℕ) (v : Json) → SpelledWithin levels rest v → Before levels (0 + length rest) [] rest v
unbegin levels rest v (s, t, bl, sp, b) =
    let one : Spells (length rest) (levels_left levels []) v s t = subst (λ (n : ℕ). Spells (length rest) n v s t) (sym (all_levels levels)) sp in
    (v, s, t, bl, subst (λ (n : ℕ). Spells n (levels_left levels []) v s t) (sym (no_more (length rest))) one, (b, refl))

pub starts : (text : List ℕ) (r : Reader) → r.cells.items ≡ [] → r.at ≡ 0 → r.top ≡ 0 → r.depth ≡ 0 → ReadsValue text r
starts text r c a t d = (
  [],
  record {
    agrees = subst (λ (m : ℕ). Agrees text m any (λ x n. Before x n [])) (sym a) (record {
      in_text = omega arith;
      into = λ m rest v k sp. unbegin (depth_limit + m) rest v sp;
      back = λ m rest v k b. begin (depth_limit + m) rest v b;
      letters = λ s lt. absurd (omega arith);
    });
    laid = c;
    top_is = t;
    depth_is = d;
    shallow = omega arith;
    few = omega (arith, ap length c);
  },
)

ended : (text : List ℕ) (r : Reader) (e : ℕ) → ReadsBehind text r → r.depth ≡ 0 → PassesBlanks text r.at e → (w : Json) × Blanked text r e [] w
ended text r e (f ∷ fs, w, limit, h, c) z p = absurd (omega (arith, h.depth_is))
ended text r e ([], w, limit, h, c) z p = (w, blanked text r e [] w limit h c p)

at_end : (text : List ℕ) (r : Reader) (next : Next) → Reads text r next → finished next r.depth ≡ true → ReadsBehind text r × (r.depth ≡ 0)
at_end text r Value h f = absurd (both_ways false refl f)
at_end text r First h f = absurd (both_ways false refl f)
at_end text r After h f = (h, eqb-true r.depth 0 f)

pub read_bad : (text : List ℕ) (r : Reader) (next : Next) (e : ℕ) → Reads text r next → finished next r.depth ≡ true → PassesBlanks text r.at e → e ≢ length text → IsBad text e
read_bad text r next e h f p n =
    let x = at_end text r next h f in
    let y = ended text r e x.0 x.1 p in
    let l : e < length text = is_in text r.at e p n in
    root_bad text r e y.0 y.1 l (p.next l)

pub read_whole : (text : List ℕ) (r : Reader) (next : Next) (e : ℕ) → Reads text r next → finished next r.depth ≡ true → PassesBlanks text r.at e → e ≡ length text → IsRead text r.cells.items
read_whole text r next e h f p n =
    let x = at_end text r next h f in
    let y = ended text r e x.0 x.1 p in
    root_read text r e y.0 y.1 n

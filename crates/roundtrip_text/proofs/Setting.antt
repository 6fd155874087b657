-- What bytes spell, they spell wherever they are set into a text.
use Rattle.std.proofs.Common.{◌≡◌, ◌∙◌, refl, sym, ap, subst, ℕ, zero, suc, ◌+◌, ◌-◌, ◌<◌, ◌≤◌, arith, Bool, true, false, List, [], ◌∷◌, ◌++◌, length, take, drop, get_or, append_assoc, length-append, inl, inr}
use Rattle.std.specs.Prelude.{slice_range}
use Rattle.std.proofs.Math.Seq.{drop-append_seam, take-append_seam}
use Rattle.std.proofs.Math.Nat.{eq-or-lt_of_le}
use Rattle.sexpr_read.specs.declared.place.Span.{Span}
use Rattle.sexpr_read.specs.declared.bytes.ByteClass.TheVariants.{Space, Open, Close, Quote}
use Rattle.sexpr_read.specs.ByteClasses.{class_of, sign_of, is_word, is_itself}
use Rattle.sexpr_read.specs.Tree.{Forest, none, atom, list}
use Rattle.sexpr_read.specs.Spelling.{IsSpaceBetween, IsWord, IsContent, empty, itself, escape, IsString, IsAtom, SpellsForest}
use Rattle.sexpr_read.proofs.Spelled.{past_end}
use Rattle.sexpr_read.proofs.Joined.{no_gap, gap_join}
use Rattle.roundtrip_text.specs.Pieces.{IsBlank, AreOfWord, IsQuotedContent, IsContentOf, written, IsWordEnd, MayFollow, WritesForest, SameTrees}
use Rattle.roundtrip_text.specs.Pieces.IsQuotedContent.{empty as no_more, itself as goes_on, escape as escapes}
use Rattle.roundtrip_text.proofs.Cutting.{sign_at}

-- the bytes stand in the text behind so many others
pub record StandsAt (text : List ℕ) (at : ℕ) (bytes : List ℕ) : Type 0 where
  pub prefix : List ℕ
  pub long : length prefix ≡ at
  pub joined : text ≡ prefix ++ bytes

pub first_at : (t : List ℕ) (a x : ℕ) (xs : List ℕ) → StandsAt t a (x ∷ xs) → sign_of t a ≡ class_of x
first_at t a x xs h = sign_at t a ∙ ap class_of (ap (λ l. get_or l a 32) h.joined ∙ seam h.prefix a h.long)
  where
    seam : (p : List ℕ) (k : ℕ) → length p ≡ k → get_or (p ++ (x ∷ xs)) k 32 ≡ x
    seam [] zero e = refl
    seam [] (suc k) e = absurd (omega arith)
    seam (y ∷ p) zero e = absurd (omega arith)
    seam (y ∷ p) (suc k) e = seam p k (omega arith)

pub behind : (t : List ℕ) (a : ℕ) (xs ys : List ℕ) → StandsAt t a (xs ++ ys) → StandsAt t (a + length xs) ys
behind t a xs ys h = record {
  prefix = h.prefix ++ xs;
  long = length-append h.prefix xs ∙ ap (λ k. k + length xs) h.long;
  joined = h.joined ∙ sym (append_assoc h.prefix xs ys);
}

pub one_on : (t : List ℕ) (a x : ℕ) (xs : List ℕ) → StandsAt t a (x ∷ xs) → StandsAt t (suc a) xs
one_on t a x xs h = subst (λ k. StandsAt t k xs) (omega arith) (behind t a (x ∷ []) xs h)

pub as_well : (t : List ℕ) (a : ℕ) {xs ys : List ℕ} → xs ≡ ys → StandsAt t a xs → StandsAt t a ys
as_well t a e h = subst (StandsAt t a) e h

pub slice_at : (t : List ℕ) (a : ℕ) (xs ys : List ℕ) → StandsAt t a (xs ++ ys) → slice_range t a (a + length xs) ≡ xs
slice_at t a xs ys h =
    let size : (a + length xs) - a ≡ length xs = omega arith in
    let rest : drop a t ≡ xs ++ ys = ap (drop a) h.joined ∙ ap (λ k. drop k (h.prefix ++ (xs ++ ys))) (sym h.long) ∙ drop-append_seam h.prefix (xs ++ ys) in
    ap (λ n. take n (drop a t)) size ∙ ap (take (length xs)) rest ∙ take-append_seam xs ys

-- ---- gaps

one_gap : (t : List ℕ) (a : ℕ) → sign_of t a ≡ Space → IsSpaceBetween (sign_of t) a (suc a)
one_gap t a e = record { ordered = omega arith; blank = λ i low high. let same : i ≡ a = omega arith in rw same e }

pub set_gap : (t : List ℕ) (gap rest : List ℕ) (a : ℕ) → StandsAt t a (gap ++ rest) → IsBlank gap → IsSpaceBetween (sign_of t) a (a + length gap)
set_gap t [] rest a h g = subst (IsSpaceBetween (sign_of t) a) (omega arith) (no_gap (sign_of t) a)
set_gap t (b ∷ gap) rest a h g =
    let first = one_gap t a (first_at t a b (gap ++ rest) h ∙ g.0) in
    let others = set_gap t gap rest (suc a) (one_on t a b (gap ++ rest) h) g.1 in
    subst (IsSpaceBetween (sign_of t) a) (let e : suc a + length gap ≡ a + suc (length gap) = omega arith in e) (gap_join (sign_of t) a (suc a) (suc a + length gap) first others)

-- ---- words

each_of_word : (t : List ℕ) (w rest : List ℕ) (a : ℕ) → StandsAt t a (w ++ rest) → AreOfWord w → (i : ℕ) → a ≤ i → i < a + length w → is_word (sign_of t i) ≡ true
each_of_word t [] rest a h all i low high = absurd (omega arith)
each_of_word t (b ∷ w) rest a h all i low high = elim (eq-or-lt_of_le low) [
  | inl e ↦ subst (λ k. is_word (sign_of t k) ≡ true) e (ap is_word (first_at t a b (w ++ rest) h) ∙ all.0)
  | inr lt ↦ each_of_word t w rest (suc a) (one_on t a b (w ++ rest) h) all.1 i lt (omega arith)
]

pub apart_at : (t : List ℕ) (xs : List ℕ) (a : ℕ) → StandsAt t a xs → IsWordEnd xs → is_word (sign_of t a) ≡ false
apart_at t [] a h apart =
    let long : length t ≡ a = ap length h.joined ∙ length-append h.prefix [] ∙ (let e : length h.prefix + 0 ≡ length h.prefix = omega arith in e) ∙ h.long in
    ap is_word (past_end t a (omega arith)) ∙ refl
apart_at t (b ∷ xs) a h apart = ap is_word (first_at t a b xs h) ∙ apart

pub all_apart : (xs ys : List ℕ) → IsWordEnd xs → IsWordEnd ys → IsWordEnd (xs ++ ys)
all_apart [] ys h k = k
all_apart (b ∷ xs) ys h k = h

word_of : (w : List ℕ) → IsContentOf false w → AreOfWord w × (0 < length w)
word_of [] h = absurd h
word_of (b ∷ w) h = (h, omega arith)

pub set_word : (t : List ℕ) (w rest : List ℕ) (a : ℕ) → StandsAt t a (w ++ rest) → IsContentOf false w → IsWordEnd rest → IsWord (sign_of t) a (a + length w)
set_word t w rest a h c apart =
    let k = word_of w c in
    let some : 0 < length w = k.1 in
    record {
      ordered = omega arith;
      each = each_of_word t w rest a h k.0;
      longest = apart_at t rest (a + length w) (behind t a w rest h) apart;
    }

-- ---- strings

set_inside : (t : List ℕ) (c rest : List ℕ) (a b : ℕ) → a + length c ≡ b → StandsAt t a (c ++ rest) → IsQuotedContent c → IsContent (sign_of t) a b
set_inside t _ rest a b e h no_more = subst (IsContent (sign_of t) a) (let z : a ≡ b = omega arith in z) empty
set_inside t _ rest a b e h (goes_on {b = x} {bytes = c} is more) =
    itself (ap is_itself (first_at t a x (c ++ rest) h) ∙ is) (set_inside t c rest (suc a) b (omega arith) (one_on t a x (c ++ rest) h) more)
set_inside t _ rest a b e h (escapes {b = x} {c = y} {bytes = c} is more) =
    escape (first_at t a x (y ∷ (c ++ rest)) h ∙ is)
    (set_inside t c rest (suc (suc a)) b (omega arith) (one_on t (suc a) y (c ++ rest) (one_on t a x (y ∷ (c ++ rest)) h)) more)

pub quote_class : class_of 34 ≡ Quote
unfolding class_of
quote_class = refl

pub open_class : class_of 40 ≡ Open
unfolding class_of
open_class = refl

pub close_class : class_of 41 ≡ Close
unfolding class_of
close_class = refl

pub set_string : (t : List ℕ) (c rest : List ℕ) (a : ℕ) → StandsAt t a (written true c ++ rest) → IsContentOf true c → IsString (sign_of t) a (a + length (written true c))
set_string t c rest a h k =
    let whole : StandsAt t a (34 ∷ (c ++ (34 ∷ rest))) = as_well t a (ap (λ l. 34 ∷ l) (append_assoc c (34 ∷ []) rest)) h in
    let inner = one_on t a 34 (c ++ (34 ∷ rest)) whole in
    let last = behind t (suc a) c (34 ∷ rest) inner in
    let size : length (c ++ 34 ∷ []) ≡ length c + 1 = length-append c (34 ∷ []) in
    record {
      opens = first_at t a 34 (c ++ (34 ∷ rest)) whole ∙ quote_class;
      close = suc a + length c;
      ends = omega (arith, size);
      inside = set_inside t c (34 ∷ rest) (suc a) (suc a + length c) refl inner k;
      closes = first_at t (suc a + length c) 34 rest last ∙ quote_class;
    }

string_slice : (t : List ℕ) (c rest : List ℕ) (a : ℕ) → StandsAt t a (written true c ++ rest) → c ≡ slice_range t (a + 1) ((a + length (written true c)) - 1)
string_slice t c rest a h =
    let whole : StandsAt t a (34 ∷ (c ++ (34 ∷ rest))) = as_well t a (ap (λ l. 34 ∷ l) (append_assoc c (34 ∷ []) rest)) h in
    let inner = one_on t a 34 (c ++ (34 ∷ rest)) whole in
    let size : length (c ++ 34 ∷ []) ≡ length c + 1 = length-append c (34 ∷ []) in
    let low : suc a ≡ a + 1 = omega arith in
    let high : suc a + length c ≡ (a + length (written true c)) - 1 = omega (arith, size) in
    sym (slice_at t (suc a) c (34 ∷ rest) inner) ∙ ap (λ k. slice_range t k (suc a + length c)) low ∙ ap (λ k. slice_range t (a + 1) k) high

-- an atom that is written at a place is spelled there
pub set_atom : (t : List ℕ) (q : Bool) (c rest : List ℕ) (a : ℕ) → StandsAt t a (written q c ++ rest) → IsContentOf q c → MayFollow q rest
    → IsAtom (sign_of t) t (record { at = a; end = a + length (written q c) }) q c
set_atom t false c rest a h k apart = (set_word t c rest a h k apart, sym (slice_at t a c rest h))
set_atom t true c rest a h k apart = (set_string t c rest a h k, string_slice t c rest a h)

may_follow : (q : Bool) (rest post : List ℕ) → MayFollow q rest → IsWordEnd post → MayFollow q (rest ++ post)
may_follow false rest post h k = all_apart rest post h k
may_follow true rest post h k = tt

-- ---- trees

-- trees that are the same but for their spans, spelled in the text from one place to another
pub record SpelledTranslated (t : List ℕ) (from to : ℕ) (f : Forest) : Type 0 where
  pub forest : Forest
  pub same : SameTrees f forest
  pub spelled : SpellsForest (sign_of t) t from to forest

pub set_forest : (f : Forest) (t bytes post : List ℕ) (a : ℕ) → StandsAt t a (bytes ++ post) → IsWordEnd post → WritesForest bytes f → SpelledTranslated t a (a + length bytes) f
set_forest none t bytes post a h apart w = record { forest = none; same = tt; spelled = set_gap t bytes post a h w }
set_forest (atom s q c others) t bytes post a h apart (gap, rest, joined, blank, is, follow, w) =
    let word : List ℕ = written q c in
    let whole : StandsAt t a (gap ++ (word ++ (rest ++ post))) = as_well t a (ap (λ l. l ++ post) joined ∙ simp append_assoc) h in
    let at_word = behind t a gap (word ++ (rest ++ post)) whole in
    let at_rest = behind t (a + length gap) word (rest ++ post) at_word in
    let tail = set_forest others t rest post ((a + length gap) + length word) at_rest apart w in
    let size : length bytes ≡ length gap + (length word + length rest) = ap length joined ∙ length-append gap (word ++ rest) ∙ ap (λ k. length gap + k) (length-append word rest) in
    let here : Span = record { at = a + length gap; end = (a + length gap) + length word } in
    let ends : ((a + length gap) + length word) + length rest ≡ a + length bytes = omega (arith, size) in
    record {
      forest = atom here q c tail.forest;
      same = (refl, refl, tail.same);
      spelled = (
        set_gap t gap (word ++ (rest ++ post)) a whole blank,
        set_atom t q c (rest ++ post) (a + length gap) at_word is (may_follow q rest post follow apart),
        subst (λ k. SpellsForest (sign_of t) t ((a + length gap) + length word) k tail.forest) ends tail.spelled,
      );
    }
set_forest (list s inside others) t bytes post a h apart (gap, within, rest, joined, blank, w, v) =
    let whole : StandsAt t a (gap ++ (40 ∷ (within ++ (41 ∷ (rest ++ post))))) = as_well t a (ap (λ l. l ++ post) joined ∙ simp append_assoc) h in
    let open_at : ℕ = a + length gap in
    let at_open = behind t a gap (40 ∷ (within ++ (41 ∷ (rest ++ post)))) whole in
    let at_inside = one_on t open_at 40 (within ++ (41 ∷ (rest ++ post))) at_open in
    let close : ℕ = suc open_at + length within in
    let at_close = behind t (suc open_at) within (41 ∷ (rest ++ post)) at_inside in
    let at_rest = one_on t close 41 (rest ++ post) at_close in
    let head = set_forest inside t within (41 ∷ (rest ++ post)) (suc open_at) at_inside (ap is_word close_class) w in
    let tail = set_forest others t rest post (suc close) at_rest apart v in
    let size : length bytes ≡ length gap + suc (length within + suc (length rest)) =
    ap length joined ∙ length-append gap (40 ∷ (within ++ (41 ∷ rest))) ∙ ap (λ k. length gap + suc k) (length-append within (41 ∷ rest)) in
    let ends : suc close + length rest ≡ a + length bytes = omega (arith, size) in
    record {
      forest = list (record { at = open_at; end = suc close }) head.forest tail.forest;
      same = (head.same, tail.same);
      spelled = (
        set_gap t gap (40 ∷ (within ++ (41 ∷ (rest ++ post)))) a whole blank,
        first_at t open_at 40 (within ++ (41 ∷ (rest ++ post))) at_open ∙ open_class,
        (close, refl, head.spelled, first_at t close 41 (rest ++ post) at_close ∙ close_class),
        subst (λ k. SpellsForest (sign_of t) t (suc close) k tail.forest) ends tail.spelled,
      );
    }

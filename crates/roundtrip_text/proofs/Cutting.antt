-- What a part of a text spells is spelled by its bytes.
use Rattle.std.proofs.Common.{◌≡◌, ◌∙◌, refl, sym, ap, subst, ℕ, zero, suc, ◌+◌, ◌-◌, ◌<◌, ◌≤◌, arith, Bool, true, false, ◌||◌, ◌==◌, List, [], ◌∷◌, ◌++◌, length, take, drop, get_or}
use Rattle.std.specs.Prelude.{slice_range, if◌then◌else◌}
use Rattle.std.proofs.lemmas.Bool.{eqb-true}
use Rattle.std.proofs.Math.Seq.{drop-cons}
use Rattle.sexpr_read.specs.declared.place.Span.{Span}
use Rattle.sexpr_read.specs.declared.bytes.ByteClass.{ByteClass}
use Rattle.sexpr_read.specs.declared.bytes.ByteClass.TheVariants.{Space, Open, Close, Quote, Backslash, Plain}
use Rattle.sexpr_read.specs.ByteClasses.{class_of, sign_of, is_word, is_itself}
use Rattle.sexpr_read.specs.Tree.{Forest, none, atom, list}
use Rattle.sexpr_read.specs.Spelling.{IsSpaceBetween, IsWord, IsContent, empty, itself, escape, IsAtom, SpellsForest}
use Rattle.sexpr_read.proofs.Unique.{content_ordered, atom_ordered, forest_ordered}
use Rattle.roundtrip_text.specs.Pieces.{IsBlank, AreOfWord, IsQuotedContent, IsContentOf, written, IsWordEnd, MayFollow, WritesForest}
use Rattle.roundtrip_text.specs.Pieces.IsQuotedContent.{empty as no_more, itself as goes_on, escape as escapes}

-- ---- parts of a list

-- n elements, from a on
abbrev pub part : ℕ → ℕ → List ℕ → List ℕ
part n a t = take n (drop a t)

pub part_first : (t : List ℕ) (n a : ℕ) → a < length t → part (suc n) a t ≡ get_or t a 32 ∷ part n (suc a) t
part_first t n a h = ap (take (suc n)) (drop-cons t a 32 h)

drop_drop : (n a : ℕ) (t : List ℕ) → drop n (drop a t) ≡ drop (a + n) t
drop_drop n zero t = ap (λ k. drop k t) (omega arith)
drop_drop n (suc a) [] = drop_nil n ∙ sym (drop_nil (suc a + n))
  where
    drop_nil : (k : ℕ) → drop k (let x : List ℕ = [] in x) ≡ []
    drop_nil zero = refl
    drop_nil (suc k) = refl
drop_drop n (suc a) (x ∷ t) = drop_drop n a t ∙ ap (λ k. drop k (x ∷ t)) (let e : suc (a + n) ≡ suc a + n = omega arith in e)

take_plus : (n m : ℕ) (t : List ℕ) → take (n + m) t ≡ take n t ++ take m (drop n t)
take_plus zero m t = ap (λ k. take k t) (omega arith)
take_plus (suc n) m [] = take_nil (suc n + m) ∙ sym (take_nil m)
  where
    take_nil : (k : ℕ) → take k (let x : List ℕ = [] in x) ≡ []
    take_nil zero = refl
    take_nil (suc k) = refl
take_plus (suc n) m (x ∷ t) = ap (λ k. take k (x ∷ t)) (let e : suc n + m ≡ suc (n + m) = omega arith in e) ∙ ap (λ l. x ∷ l) (take_plus n m t)

pub slice_split : (t : List ℕ) (a m b : ℕ) → a ≤ m → m ≤ b → slice_range t a b ≡ slice_range t a m ++ slice_range t m b
slice_split t a m b h k =
    let sizes : b - a ≡ (m - a) + (b - m) = omega arith in
    let there : a + (m - a) ≡ m = omega arith in
    ap (λ n. take n (drop a t)) sizes
    ∙ take_plus (m - a) (b - m) (drop a t)
    ∙ ap (λ l. take (m - a) (drop a t) ++ take (b - m) l) (drop_drop (m - a) a t ∙ ap (λ k. drop k t) there)

pub slice_first : (t : List ℕ) (a b : ℕ) → a < b → b ≤ length t → slice_range t a b ≡ get_or t a 32 ∷ slice_range t (suc a) b
slice_first t a b h k =
    let sizes : b - a ≡ suc (b - suc a) = omega arith in
    ap (λ n. take n (drop a t)) sizes ∙ part_first t (b - suc a) a (omega arith)

pub slice_none : (t : List ℕ) (a : ℕ) → slice_range t a a ≡ []
slice_none t a = let z : a - a ≡ 0 = omega arith in ap (λ n. take n (drop a t)) z

-- the byte at a place
pub sign_at : (t : List ℕ) (i : ℕ) → sign_of t i ≡ class_of (get_or t i 32)
unfolding sign_of
sign_at t i = refl

blank_within : (t : List ℕ) (n a : ℕ) → a + n ≤ length t → ((i : ℕ) → a ≤ i → i < a + n → sign_of t i ≡ Space) → IsBlank (part n a t)
blank_within t zero a h each = tt
blank_within t (suc n) a h each =
    subst IsBlank (sym (part_first t n a (omega arith)))
    (sym (sign_at t a) ∙ each a (omega arith) (omega arith), blank_within t n (suc a) (omega arith) (λ i low high. each i (omega arith) (omega arith)))

pub cut_gap : (t : List ℕ) (a b : ℕ) → b ≤ length t → IsSpaceBetween (sign_of t) a b → IsBlank (slice_range t a b)
cut_gap t a b h g = let o : a ≤ b = g.ordered in blank_within t (b - a) a (omega arith) (λ i low high. g.blank i low (omega arith))

word_within : (t : List ℕ) (n a : ℕ) → a + n ≤ length t → ((i : ℕ) → a ≤ i → i < a + n → is_word (sign_of t i) ≡ true) → AreOfWord (part n a t)
word_within t zero a h each = tt
word_within t (suc n) a h each =
    subst AreOfWord (sym (part_first t n a (omega arith)))
    (ap is_word (sym (sign_at t a)) ∙ each a (omega arith) (omega arith), word_within t n (suc a) (omega arith) (λ i low high. each i (omega arith) (omega arith)))

content_of_word : (b : ℕ) (bytes : List ℕ) → AreOfWord (b ∷ bytes) → IsContentOf false (b ∷ bytes)
content_of_word b bytes h = h

pub cut_word : (t : List ℕ) (a b : ℕ) → b ≤ length t → IsWord (sign_of t) a b → IsContentOf false (slice_range t a b)
cut_word t a b h w =
    let o : a < b = w.ordered in
    let all : AreOfWord (slice_range t a b) = word_within t (b - a) a (omega arith) (λ i low high. w.each i low (omega arith)) in
    let e = slice_first t a b o h in
    subst (IsContentOf false) (sym e) (content_of_word (get_or t a 32) (slice_range t (suc a) b) (subst AreOfWord e all))

-- what stands between two quotes
inside_within : (t : List ℕ) {a b : ℕ} → IsContent (sign_of t) a b → b ≤ length t → IsQuotedContent (slice_range t a b)
inside_within t (empty {to = b}) h = subst IsQuotedContent (sym (slice_none t b)) no_more
inside_within t (itself {from = a} {to = b} e more) h =
    let o : suc a ≤ b = content_ordered (sign_of t) t more in
    subst IsQuotedContent (sym (slice_first t a b o h)) (goes_on (ap is_itself (sym (sign_at t a)) ∙ e) (inside_within t more h))
inside_within t (escape {from = a} {to = b} e more) h =
    let o : suc (suc a) ≤ b = content_ordered (sign_of t) t more in
    let first = slice_first t a b (omega arith) h in
    let second = slice_first t (suc a) b o h in
    subst IsQuotedContent (sym (first ∙ ap (λ l. get_or t a 32 ∷ l) second)) (escapes (sym (sign_at t a) ∙ e) (inside_within t more h))

pub apart_after : (t : List ℕ) (a b : ℕ) → a ≤ b → b ≤ length t → is_word (sign_of t a) ≡ false → IsWordEnd (slice_range t a b)
apart_after t a b o h w = by_size (b - a) refl
  where
    by_size : (n : ℕ) → b - a ≡ n → IsWordEnd (slice_range t a b)
    by_size zero e = subst IsWordEnd (sym (let same : a ≡ b = omega arith in ap (λ k. slice_range t a k) (sym same) ∙ slice_none t a)) tt
    by_size (suc n) e = subst IsWordEnd (sym (slice_first t a b (omega arith) h)) (ap is_word (sym (sign_at t a)) ∙ w)

-- the byte of a bracket or a quote is known by its class
by_tests : Bool → Bool → Bool → Bool → Bool → ByteClass
by_tests s p q r u = if s then Space else (if p then Open else (if q then Close else (if r then Quote else (if u then Backslash else Plain))))

open_test : (s p q r u : Bool) → by_tests s p q r u ≡ Open → p ≡ true
unfolding by_tests
open_test true p q r u e = cc
open_test false true q r u e = refl
open_test false false true r u e = cc
open_test false false false true u e = cc
open_test false false false false true e = cc
open_test false false false false false e = cc

close_test : (s p q r u : Bool) → by_tests s p q r u ≡ Close → q ≡ true
unfolding by_tests
close_test true p q r u e = cc
close_test false true q r u e = cc
close_test false false true r u e = refl
close_test false false false true u e = cc
close_test false false false false true e = cc
close_test false false false false false e = cc

quote_test : (s p q r u : Bool) → by_tests s p q r u ≡ Quote → r ≡ true
unfolding by_tests
quote_test true p q r u e = cc
quote_test false true q r u e = cc
quote_test false false true r u e = cc
quote_test false false false true u e = refl
quote_test false false false false true e = cc
quote_test false false false false false e = cc

class_is : (b : ℕ) → class_of b ≡ by_tests (b == 0x20 || b == 0x09 || b == 0x0A || b == 0x0D) (b == 0x28) (b == 0x29) (b == 0x22) (b == 0x5C)
unfolding class_of by_tests
class_is b = refl

pub open_byte : (b : ℕ) → class_of b ≡ Open → b ≡ 40
open_byte b e = eqb-true b 40 (open_test (b == 0x20 || b == 0x09 || b == 0x0A || b == 0x0D) (b == 0x28) (b == 0x29) (b == 0x22) (b == 0x5C) (sym (class_is b) ∙ e))

pub close_byte : (b : ℕ) → class_of b ≡ Close → b ≡ 41
close_byte b e = eqb-true b 41 (close_test (b == 0x20 || b == 0x09 || b == 0x0A || b == 0x0D) (b == 0x28) (b == 0x29) (b == 0x22) (b == 0x5C) (sym (class_is b) ∙ e))

pub quote_byte : (b : ℕ) → class_of b ≡ Quote → b ≡ 34
quote_byte b e = eqb-true b 34 (quote_test (b == 0x20 || b == 0x09 || b == 0x0A || b == 0x0D) (b == 0x28) (b == 0x29) (b == 0x22) (b == 0x5C) (sym (class_is b) ∙ e))

-- ---- trees

pub slice_of_byte : (t : List ℕ) (a b x : ℕ) → a < b → b ≤ length t → get_or t a 32 ≡ x → slice_range t a b ≡ x ∷ slice_range t (suc a) b
slice_of_byte t a b x h k e = slice_first t a b h k ∙ ap (λ y. y ∷ slice_range t (suc a) b) e

pub byte_at : (t : List ℕ) (a : ℕ) (c : ByteClass) (x : ℕ) → sign_of t a ≡ c → ((b : ℕ) → class_of b ≡ c → b ≡ x) → get_or t a 32 ≡ x
byte_at t a c x e known = known (get_or t a 32) (sym (sign_at t a) ∙ e)

pub cut_atom : (t : List ℕ) (s : Span) (q : Bool) (x : List ℕ) → s.end ≤ length t → IsAtom (sign_of t) t s q x → slice_range t s.at s.end ≡ written q x
cut_atom t s false x h g = sym g.1
cut_atom t s true x h g =
    let o : suc s.at ≤ g.0.close = content_ordered (sign_of t) t g.0.inside in
    let e : s.end ≡ suc g.0.close = g.0.ends in
    let first = slice_of_byte t s.at s.end 34 (omega arith) h (byte_at t s.at Quote 34 g.0.opens quote_byte) in
    let middle = slice_split t (suc s.at) g.0.close s.end o (omega arith) in
    let last = slice_of_byte t g.0.close s.end 34 (omega arith) h (byte_at t g.0.close Quote 34 g.0.closes quote_byte) in
    let nothing : slice_range t (suc g.0.close) s.end ≡ [] = ap (λ k. slice_range t (suc g.0.close) k) e ∙ slice_none t (suc g.0.close) in
    let low : s.at + 1 ≡ suc s.at = omega arith in
    let high : s.end - 1 ≡ g.0.close = omega arith in
    let same : slice_range t (suc s.at) g.0.close ≡ x = sym (g.1 ∙ ap (λ k. slice_range t k (s.end - 1)) low ∙ ap (λ k. slice_range t (suc s.at) k) high) in
    first
    ∙ ap (λ l. 34 ∷ l) middle
    ∙ ap (λ l. 34 ∷ (slice_range t (suc s.at) g.0.close ++ l)) (last ∙ ap (λ l. 34 ∷ l) nothing)
    ∙ ap (λ l. 34 ∷ (l ++ 34 ∷ [])) same

pub atom_content : (t : List ℕ) (s : Span) (q : Bool) (x : List ℕ) → s.end ≤ length t → IsAtom (sign_of t) t s q x → IsContentOf q x
atom_content t s false x h g = subst (IsContentOf false) (sym g.1) (cut_word t s.at s.end h g.0)
atom_content t s true x h g =
    let o : suc s.at ≤ g.0.close = content_ordered (sign_of t) t g.0.inside in
    let e : s.end ≡ suc g.0.close = g.0.ends in
    let low : s.at + 1 ≡ suc s.at = omega arith in
    let high : s.end - 1 ≡ g.0.close = omega arith in
    subst IsQuotedContent (sym (g.1 ∙ ap (λ k. slice_range t k (s.end - 1)) low ∙ ap (λ k. slice_range t (suc s.at) k) high)) (inside_within t g.0.inside (omega arith))

follows : (t : List ℕ) (s : Span) (q : Bool) (x : List ℕ) (to : ℕ) → s.end ≤ to → to ≤ length t → IsAtom (sign_of t) t s q x → MayFollow q (slice_range t s.end to)
follows t s false x to o h g = apart_after t s.end to o h g.0.longest
follows t s true x to o h g = tt

pub cut_forest : (t : List ℕ) (from to : ℕ) (f : Forest) → to ≤ length t → SpellsForest (sign_of t) t from to f → WritesForest (slice_range t from to) f
cut_forest t from to none h g = cut_gap t from to h g
cut_forest t from to (atom s q x others) h g =
    let o : s.end ≤ to = forest_ordered (sign_of t) t others s.end to g.2 in
    let within : s.at < s.end = atom_ordered (sign_of t) t s q x g.1 in
    let whole = slice_split t from s.at to g.0.ordered (omega arith) in
    let behind = slice_split t s.at s.end to (omega arith) o in (
      slice_range t from s.at,
      slice_range t s.end to,
      whole ∙ ap (λ l. slice_range t from s.at ++ l) (behind ∙ ap (λ l. l ++ slice_range t s.end to) (cut_atom t s q x (omega arith) g.1)),
      cut_gap t from s.at (omega arith) g.0,
      atom_content t s q x (omega arith) g.1,
      follows t s q x to o h g.1,
      cut_forest t s.end to others h g.2,
    )
cut_forest t from to (list s inside others) h g =
    let close : ℕ = g.2.0 in
    let o : s.end ≤ to = forest_ordered (sign_of t) t others s.end to g.3 in
    let e : s.end ≡ suc close = g.2.1 in
    let within : suc s.at ≤ close = forest_ordered (sign_of t) t inside (suc s.at) close g.2.2 in
    let low : from ≤ s.at = g.0.ordered in
    let whole = slice_split t from s.at to low (omega arith) in
    let first = slice_of_byte t s.at to 40 (omega arith) h (byte_at t s.at Open 40 g.1 open_byte) in
    let middle = slice_split t (suc s.at) close to within (omega arith) in
    let last = slice_of_byte t close to 41 (omega arith) h (byte_at t close Close 41 g.2.3 close_byte) in
    let ends : slice_range t (suc close) to ≡ slice_range t s.end to = ap (λ k. slice_range t k to) (sym e) in (
      slice_range t from s.at,
      slice_range t (suc s.at) close,
      slice_range t s.end to,
      whole ∙ ap (λ l. slice_range t from s.at ++ l) (first ∙ ap (λ l. 40 ∷ l) (middle ∙ ap (λ l. slice_range t (suc s.at) close ++ l) (last ∙ ap (λ l. 41 ∷ l) ends))),
      cut_gap t from s.at (omega arith) g.0,
      cut_forest t (suc s.at) close inside (omega arith) g.2.2,
      cut_forest t s.end to others h g.3,
    )

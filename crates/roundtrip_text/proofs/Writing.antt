-- What is rewritten spells the trees that it was written from.
use Rattle.std.proofs.Common.{◌≡◌, ◌∙◌, refl, sym, ap, subst, ℕ, suc, ◌+◌, ◌-◌, ◌<◌, ◌≤◌, arith, Bool, true, false, List, [], ◌∷◌, ◌++◌, length}
use Rattle.std.specs.Prelude.{slice_range}
use Rattle.sexpr_read.specs.declared.place.Span.{Span}
use Rattle.sexpr_read.specs.declared.bytes.ByteClass.TheVariants.{Space}
use Rattle.sexpr_read.specs.ByteClasses.{class_of, sign_of, is_word}
use Rattle.sexpr_read.specs.Tree.{Forest, none, atom, list}
use Rattle.sexpr_read.specs.Spelling.{IsAtom, SpellsForest}
use Rattle.sexpr_read.proofs.Unique.{atom_ordered, forest_ordered}
use Rattle.roundtrip_text.specs.Pieces.{IsBlank, IsContentOf, written, IsWordEnd, MayFollow, WritesForest}
use Rattle.roundtrip_text.specs.RewrittenText.{text_rewritten, IsRespelled, space_before, spaced, AreAtoms}
use Rattle.roundtrip_text.proofs.Cutting.{slice_split, cut_gap, cut_atom, atom_content, apart_after}
use Rattle.roundtrip_text.proofs.Setting.{quote_class, open_class, close_class}

-- ---- what is apart from a word before it

space_apart : (b : ℕ) → class_of b ≡ Space → is_word (class_of b) ≡ false
space_apart b e = ap is_word e ∙ refl

pub blank_apart : (gap xs : List ℕ) → IsBlank gap → IsWordEnd xs → IsWordEnd (gap ++ xs)
blank_apart [] xs h k = k
blank_apart (b ∷ gap) xs h k = space_apart b h.0

pub open_apart : (xs : List ℕ) → IsWordEnd (40 ∷ xs)
open_apart xs = ap is_word open_class

pub close_apart : (xs : List ℕ) → IsWordEnd (41 ∷ xs)
close_apart xs = ap is_word close_class

pub quoted_apart : (content xs : List ℕ) → IsWordEnd (written true content ++ xs)
quoted_apart content xs = ap is_word quote_class

-- a word can't stand at once behind another
word_there : (gap w rest other : List ℕ) → IsBlank gap → IsContentOf false w → IsWordEnd (gap ++ (w ++ rest)) → IsWordEnd (gap ++ other)
word_there [] [] rest other h c k = absurd c
word_there [] (b ∷ w) rest other h c k = let word : is_word (class_of b) ≡ true = c.0 in absurd (let e : true ≡ false = sym word ∙ k in cc)
word_there (b ∷ gap) w rest other h c k = space_apart b h.0

pub atom_there : (q : Bool) (gap content rest other more : List ℕ) → IsBlank gap → IsContentOf q content → IsWordEnd (gap ++ (written q content ++ rest)) → IsWordEnd (gap ++ (written q other ++ more))
atom_there false gap content rest other more h c k = word_there gap content rest (other ++ more) h c k
atom_there true gap content rest other more h c k = blank_apart gap (written true other ++ more) h (quoted_apart other more)

module _ (t : List ℕ) where
  -- a part that begins with a space before an atom, and the atom
  pub prefix_of_atom : (s : Span) (q : Bool) (c : List ℕ) (from to : ℕ) → from ≤ s.at → s.end ≤ to → to ≤ length t → IsAtom (sign_of t) t s q c
      → slice_range t from to ≡ slice_range t from s.at ++ (written q c ++ slice_range t s.end to)
  prefix_of_atom s q c from to low high h a =
      let within : s.at < s.end = atom_ordered (sign_of t) t s q c a in
      slice_split t from s.at to low (omega arith)
      ∙ ap (λ l. slice_range t from s.at ++ l) (slice_split t s.at s.end to (omega arith) high ∙ ap (λ l. l ++ slice_range t s.end to) (cut_atom t s q c (omega arith) a))

  text_rewritten_apart : (f g : Forest) (from to : ℕ) → to ≤ length t → SpellsForest (sign_of t) t from to f → IsRespelled f g → IsWordEnd (slice_range t from to) → IsWordEnd (text_rewritten t from to g)
  text_rewritten_apart none none from to h k r apart = apart
  text_rewritten_apart none (atom u p d rest) from to h k r apart = absurd r
  text_rewritten_apart none (list u within rest) from to h k r apart = absurd r
  text_rewritten_apart (atom s q c others) none from to h k r apart = absurd r
  text_rewritten_apart (atom s q c others) (atom u p d rest) from to h k r apart =
      let o : s.end ≤ to = forest_ordered (sign_of t) t others s.end to k.2 in
      let low : s.at < s.end = atom_ordered (sign_of t) t s q c k.1 in
      let here = subst IsWordEnd (prefix_of_atom s q c from to k.0.ordered o h k.1) apart in
      let there : IsWordEnd (slice_range t from s.at ++ (written q d ++ text_rewritten t u.end to rest)) =
      atom_there q (slice_range t from s.at) c (slice_range t s.end to) d (text_rewritten t u.end to rest) (cut_gap t from s.at (omega arith) k.0) (atom_content t s q c (omega arith) k.1) here in
      subst (λ (z : Span). IsWordEnd (slice_range t from z.at ++ (written p d ++ text_rewritten t u.end to rest))) r.0
      (subst (λ (z : Bool). IsWordEnd (slice_range t from s.at ++ (written z d ++ text_rewritten t u.end to rest))) r.1 there)
  text_rewritten_apart (atom s q c others) (list u within rest) from to h k r apart = absurd r
  text_rewritten_apart (list s inside others) none from to h k r apart = absurd r
  text_rewritten_apart (list s inside others) (atom u p d rest) from to h k r apart = absurd r
  text_rewritten_apart (list s inside others) (list u within rest) from to h k r apart =
      let low : s.at ≤ length t =
      (let o : s.end ≤ to = forest_ordered (sign_of t) t others s.end to k.3 in
      let w : suc s.at ≤ k.2.0 = forest_ordered (sign_of t) t inside (suc s.at) k.2.0 k.2.2 in omega (arith, k.2.1)) in
      subst (λ (z : Span). IsWordEnd (slice_range t from z.at ++ (40 ∷ (text_rewritten t (u.at + 1) (u.end - 1) within ++ (41 ∷ text_rewritten t u.end to rest))))) r.0
      (blank_apart (slice_range t from s.at) (40 ∷ (text_rewritten t (u.at + 1) (u.end - 1) within ++ (41 ∷ text_rewritten t u.end to rest))) (cut_gap t from s.at low k.0) (open_apart (text_rewritten t (u.at + 1) (u.end - 1) within ++ (41 ∷ text_rewritten t u.end to rest))))

  follows_text_rewritten : (q : Bool) (s : Span) (c : List ℕ) (others rest : Forest) (to : ℕ) → to ≤ length t → s.end ≤ to → IsAtom (sign_of t) t s q c → SpellsForest (sign_of t) t s.end to others → IsRespelled others rest
      → MayFollow q (text_rewritten t s.end to rest)
  follows_text_rewritten false s c others rest to h o a k r = text_rewritten_apart others rest s.end to h k r (apart_after t s.end to o h a.0.longest)
  follows_text_rewritten true s c others rest to h o a k r = tt

  -- what is rewritten spells these trees
  pub text_rewritten_writes : (f g : Forest) (from to : ℕ) → to ≤ length t → SpellsForest (sign_of t) t from to f → IsRespelled f g → WritesForest (text_rewritten t from to g) g
  text_rewritten_writes none none from to h k r = cut_gap t from to h k
  text_rewritten_writes none (atom u p d rest) from to h k r = absurd r
  text_rewritten_writes none (list u within rest) from to h k r = absurd r
  text_rewritten_writes (atom s q c others) none from to h k r = absurd r
  text_rewritten_writes (atom s q c others) (atom u p d rest) from to h k r =
      let o : s.end ≤ to = forest_ordered (sign_of t) t others s.end to k.2 in
      let low : s.at < s.end = atom_ordered (sign_of t) t s q c k.1 in
      let ends : ℕ = u.end in
      let tail : WritesForest (text_rewritten t u.end to rest) rest = subst (λ (z : Span). WritesForest (text_rewritten t z.end to rest) rest) r.0 (text_rewritten_writes others rest s.end to h k.2 r.3) in
      let follow : MayFollow p (text_rewritten t u.end to rest) =
      subst (λ (z : Span). MayFollow p (text_rewritten t z.end to rest)) r.0 (subst (λ (z : Bool). MayFollow z (text_rewritten t s.end to rest)) r.1 (follows_text_rewritten q s c others rest to h o k.1 k.2 r.3)) in
      let gap : IsBlank (slice_range t from u.at) = subst (λ (z : Span). IsBlank (slice_range t from z.at)) r.0 (cut_gap t from s.at (omega arith) k.0) in
      (slice_range t from u.at, text_rewritten t u.end to rest, refl, gap, r.2, follow, tail)
  text_rewritten_writes (atom s q c others) (list u within rest) from to h k r = absurd r
  text_rewritten_writes (list s inside others) none from to h k r = absurd r
  text_rewritten_writes (list s inside others) (atom u p d rest) from to h k r = absurd r
  text_rewritten_writes (list s inside others) (list u within rest) from to h k r =
      let o : s.end ≤ to = forest_ordered (sign_of t) t others s.end to k.3 in
      let w : suc s.at ≤ k.2.0 = forest_ordered (sign_of t) t inside (suc s.at) k.2.0 k.2.2 in
      let e : s.end ≡ suc k.2.0 = k.2.1 in
      let first : suc s.at ≡ s.at + 1 = omega arith in
      let last : k.2.0 ≡ s.end - 1 = omega arith in
      let inner : WritesForest (text_rewritten t (s.at + 1) (s.end - 1) within) within =
      subst (λ z. WritesForest (text_rewritten t z (s.end - 1) within) within) first (subst (λ z. WritesForest (text_rewritten t (suc s.at) z within) within) last (text_rewritten_writes inside within (suc s.at) k.2.0 (omega arith) k.2.2 r.1)) in
      let tail : WritesForest (text_rewritten t u.end to rest) rest = subst (λ (z : Span). WritesForest (text_rewritten t z.end to rest) rest) r.0 (text_rewritten_writes others rest s.end to h k.3 r.2) in
      let gap : IsBlank (slice_range t from u.at) = subst (λ (z : Span). IsBlank (slice_range t from z.at)) r.0 (cut_gap t from s.at (omega arith) k.0) in
      (slice_range t from u.at, text_rewritten t (u.at + 1) (u.end - 1) within, text_rewritten t u.end to rest, refl, gap, subst (λ (z : Span). WritesForest (text_rewritten t (z.at + 1) (z.end - 1) within) within) r.0 inner, tail)

-- ---- a tree by itself

space_class : class_of 32 ≡ Space
unfolding class_of
space_class = refl

blank_before : (first : Bool) → IsBlank (space_before first)
blank_before true = tt
blank_before false = (space_class, tt)

pub spaced_apart : (f : Forest) → IsWordEnd (spaced false f)
spaced_apart none = tt
spaced_apart (atom s q c others) = ap is_word space_class
spaced_apart (list s inside others) = ap is_word space_class

follows_spaced : (q : Bool) (f : Forest) → MayFollow q (spaced false f)
follows_spaced false f = spaced_apart f
follows_spaced true f = tt

pub spaced_writes : (first : Bool) (f : Forest) → AreAtoms f → WritesForest (spaced first f) f
spaced_writes first none h = tt
spaced_writes first (atom s q c others) h =
    (space_before first, spaced false others, refl, blank_before first, h.0, follows_spaced q others, spaced_writes false others h.1)
spaced_writes first (list s inside others) h =
    (space_before first, spaced true inside, spaced false others, refl, blank_before first, spaced_writes true inside h.0, spaced_writes false others h.1)

-- A text of which lists are left out or rewritten still spells the others, in order. Words that come to stand side by side become one.
use Rattle.std.proofs.Common.{◌≡◌, ◌∙◌, refl, sym, ap, subst, ℕ, suc, ◌+◌, ◌-◌, ◌<◌, ◌≤◌, arith, Bool, true, false, List, [], ◌∷◌, ◌++◌, length, append_assoc}
use Rattle.std.specs.Prelude.{slice_range}
use Rattle.sexpr_read.specs.declared.place.Span.{Span}
use Rattle.sexpr_read.specs.declared.bytes.ByteClass.{ByteClass}
use Rattle.sexpr_read.specs.declared.bytes.ByteClass.TheVariants.{Space, Open, Close, Quote}
use Rattle.sexpr_read.specs.ByteClasses.{class_of, sign_of, is_word}
use Rattle.sexpr_read.specs.Tree.{Forest, none, atom, list}
use Rattle.sexpr_read.specs.Spelling.{IsAtom, SpellsForest}
use Rattle.sexpr_read.proofs.Unique.{atom_ordered, forest_ordered}
use Rattle.roundtrip_text.specs.Pieces.{IsBlank, AreOfWord, IsContentOf, written, IsWordEnd, MayFollow, WritesForest}
use Rattle.roundtrip_text.specs.RewrittenText.{text_rewritten, Disposition, stays, leaves, becomes, list_by, edited, insides, inside_by, insides_after, IsFit, AreFit, IsThere, FirstIsThere, first_disposition, later}
use Rattle.roundtrip_text.proofs.Cutting.{slice_split, slice_none, slice_of_byte, byte_at, open_byte, close_byte, cut_gap, atom_content, apart_after, cut_forest}
use Rattle.roundtrip_text.proofs.Setting.{quote_class, open_class}
use Rattle.roundtrip_text.proofs.Writing.{blank_apart, open_apart, prefix_of_atom, text_rewritten_writes, atom_there}

-- ---- in front of what spells trees

blank_both : (a b : List ℕ) → IsBlank a → IsBlank b → IsBlank (a ++ b)
blank_both [] b h k = k
blank_both (x ∷ a) b h k = (h.0, blank_both a b h.1 k)

word_both : (a b : List ℕ) → AreOfWord a → AreOfWord b → AreOfWord (a ++ b)
word_both [] b h k = k
word_both (x ∷ a) b h k = (h.0, word_both a b h.1 k)

pub glue_gap : (gap rest : List ℕ) (g : Forest) → IsBlank gap → WritesForest rest g → WritesForest (gap ++ rest) g
glue_gap gap rest none h w = blank_both gap rest h w
glue_gap gap rest (atom s q c others) h (first, more, joined, blank, is, follow, w) =
    (gap ++ first, more, ap (λ l. gap ++ l) joined ∙ sym (append_assoc gap first (written q c ++ more)), blank_both gap first h blank, is, follow, w)
glue_gap gap rest (list s inside others) h (first, within, more, joined, blank, w, v) =
    (gap ++ first, within, more, ap (λ l. gap ++ l) joined ∙ sym (append_assoc gap first (40 ∷ (within ++ (41 ∷ more)))), blank_both gap first h blank, w, v)

-- trees with the same lists
pub record WritesLists (bytes : List ℕ) (lists : List Forest) : Type 0 where
  pub forest : Forest
  pub writes : WritesForest bytes forest
  pub same : insides forest ≡ lists

no_span : Span
no_span = record { at = 0; end = 0 }

both_ways : (c : ByteClass) → is_word c ≡ true → is_word c ≡ false → ⊥
both_ways c h k = let e : true ≡ false = sym h ∙ k in cc

head_same : {a b : ℕ} {x y : List ℕ} → a ∷ x ≡ b ∷ y → a ≡ b
head_same h = cc

tail_same : {a b : ℕ} {x y : List ℕ} → a ∷ x ≡ b ∷ y → x ≡ y
tail_same h = cc

begins_with : (b x : ℕ) (c : ByteClass) → b ≡ x → class_of x ≡ c → is_word c ≡ false → is_word (class_of b) ≡ false
begins_with b x c e k w = ap (λ y. is_word (class_of y)) e ∙ ap is_word k ∙ w

space_no_word : (b : ℕ) → class_of b ≡ Space → is_word (class_of b) ≡ false
space_no_word b e = ap is_word e ∙ refl

-- a word before bytes that go on with a word is one word with it
module _ (v : ℕ) (w : List ℕ) (b : ℕ) (rest : List ℕ) (word : AreOfWord (v ∷ w)) (goes_on : is_word (class_of b) ≡ true) where
  merged : (g : Forest) → WritesForest (b ∷ rest) g → WritesLists ((v ∷ w) ++ (b ∷ rest)) (insides g)
  merged none h = absurd (both_ways (class_of b) goes_on (space_no_word b h.0))
  merged (atom s true c others) ([], more, joined, blank, is, follow, h) =
      absurd (both_ways (class_of b) goes_on (begins_with b 34 Quote (head_same joined) quote_class refl))
  merged (atom s true c others) (x ∷ gap, more, joined, blank, is, follow, h) =
      absurd (both_ways (class_of b) goes_on (begins_with b x Space (head_same joined) blank.0 refl))
  merged (atom s false c others) (x ∷ gap, more, joined, blank, is, follow, h) =
      absurd (both_ways (class_of b) goes_on (begins_with b x Space (head_same joined) blank.0 refl))
  merged (atom s false [] others) ([], more, joined, blank, is, follow, h) = absurd is
  merged (atom s false (y ∷ c) others) ([], more, joined, blank, is, follow, h) = record {
    forest = atom s false ((v ∷ w) ++ (y ∷ c)) others;
    writes = ([], more, ap (λ l. (v ∷ w) ++ l) joined ∙ sym (append_assoc (v ∷ w) (y ∷ c) more), tt, word_both (v ∷ w) (y ∷ c) word is, follow, h);
    same = refl;
  }
  merged (list s inside others) ([], within, more, joined, blank, h, k) =
      absurd (both_ways (class_of b) goes_on (begins_with b 40 Open (head_same joined) open_class refl))
  merged (list s inside others) (x ∷ gap, within, more, joined, blank, h, k) =
      absurd (both_ways (class_of b) goes_on (begins_with b x Space (head_same joined) blank.0 refl))

alone : (w rest : List ℕ) (g : Forest) → IsContentOf false w → IsWordEnd rest → WritesForest rest g → WritesLists (w ++ rest) (insides g)
alone w rest g is apart h = record { forest = atom no_span false w g; writes = ([], rest, refl, tt, is, apart, h); same = refl }

glue_by : (w : List ℕ) (b : ℕ) (rest : List ℕ) (g : Forest) → IsContentOf false w → WritesForest (b ∷ rest) g → (c : Bool) → is_word (class_of b) ≡ c → WritesLists (w ++ (b ∷ rest)) (insides g)
glue_by [] b rest g is h c e = absurd is
glue_by (v ∷ w) b rest g is h true e = merged v w b rest is e g h
glue_by (v ∷ w) b rest g is h false e = alone (v ∷ w) (b ∷ rest) g is e h

pub glue_word : (w rest : List ℕ) (g : Forest) → IsContentOf false w → WritesForest rest g → WritesLists (w ++ rest) (insides g)
glue_word w [] g is h = alone w [] g is tt h
glue_word w (b ∷ rest) g is h = glue_by w b rest g is h (is_word (class_of b)) refl

glue_atom : (q : Bool) (c rest : List ℕ) (g : Forest) → IsContentOf q c → WritesForest rest g → WritesLists (written q c ++ rest) (insides g)
glue_atom false c rest g is h = glue_word c rest g is h
glue_atom true c rest g is h = record { forest = atom no_span true c g; writes = ([], rest, refl, tt, is, tt, h); same = refl }

after_gap : (gap rest : List ℕ) (lists : List Forest) → IsBlank gap → WritesLists rest lists → WritesLists (gap ++ rest) lists
after_gap gap rest lists h w = record { forest = w.forest; writes = glue_gap gap rest w.forest h w.writes; same = w.same }

-- ---- a text that is edited

module _ (t : List ℕ) where
  -- a list with its brackets
  pub list_slice : (s : Span) (inside : Forest) (close : ℕ) → suc s.at ≤ close → s.end ≡ suc close → s.end ≤ length t → sign_of t s.at ≡ Open → sign_of t close ≡ Close
      → slice_range t s.at s.end ≡ 40 ∷ (slice_range t (suc s.at) close ++ 41 ∷ [])
  list_slice s inside close o e h opens closes =
      let first = slice_of_byte t s.at s.end 40 (omega arith) h (byte_at t s.at Open 40 opens open_byte) in
      let middle = slice_split t (suc s.at) close s.end o (omega arith) in
      let last = slice_of_byte t close s.end 41 (omega arith) h (byte_at t close Close 41 closes close_byte) in
      let nothing : slice_range t (suc close) s.end ≡ [] = ap (λ k. slice_range t (suc close) k) e ∙ slice_none t (suc close) in
      first ∙ ap (λ l. 40 ∷ l) (middle ∙ ap (λ l. slice_range t (suc s.at) close ++ l) (last ∙ ap (λ l. 41 ∷ l) nothing))

  one_list : (s : Span) (inside : Forest) (within tail bytes : List ℕ) (lists : List Forest) → bytes ≡ 40 ∷ (within ++ 41 ∷ []) → WritesForest within inside → WritesLists tail lists
      → WritesLists (bytes ++ tail) (inside ∷ lists)
  one_list s inside within tail bytes lists e h w = record {
    forest = list s inside w.forest;
    writes = ([], within, tail, ap (λ l. l ++ tail) e ∙ ap (λ l. 40 ∷ l) (append_assoc within (41 ∷ []) tail), tt, h, w.writes);
    same = ap (λ l. inside ∷ l) w.same;
  }

  with_disposition : (s : Span) (inside : Forest) (becoming : Disposition) (tail : List ℕ) (lists : List Forest) (close : ℕ) → suc s.at ≤ close → s.end ≡ suc close → s.end ≤ length t
      → sign_of t s.at ≡ Open → sign_of t close ≡ Close → SpellsForest (sign_of t) t (suc s.at) close inside → IsFit inside becoming → WritesLists tail lists
      → WritesLists (list_by t s becoming ++ tail) (inside_by inside becoming ++ lists)
  with_disposition s inside stays tail lists close o e h opens closes k fit w =
      one_list s inside (slice_range t (suc s.at) close) tail (slice_range t s.at s.end) lists (list_slice s inside close o e h opens closes) (cut_forest t (suc s.at) close inside (omega arith) k) w
  with_disposition s inside leaves tail lists close o e h opens closes k fit w = w
  with_disposition s inside (becomes other) tail lists close o e h opens closes k fit w =
      let first : suc s.at ≡ s.at + 1 = omega arith in
      let last : close ≡ s.end - 1 = omega arith in
      let inner : WritesForest (text_rewritten t (s.at + 1) (s.end - 1) other) other =
      subst (λ z. WritesForest (text_rewritten t z (s.end - 1) other) other) first (subst (λ z. WritesForest (text_rewritten t (suc s.at) z other) other) last (text_rewritten_writes t inside other (suc s.at) close (omega arith) k fit)) in
      one_list s other (text_rewritten t (s.at + 1) (s.end - 1) other) tail (40 ∷ (text_rewritten t (s.at + 1) (s.end - 1) other ++ 41 ∷ [])) lists refl inner w

  -- the lists that are left, in order, as they have become
  pub edited_writes : (f : Forest) (dispositions : List Disposition) (from to : ℕ) → to ≤ length t → SpellsForest (sign_of t) t from to f → AreFit dispositions f → WritesLists (edited t from to dispositions f) (insides_after dispositions f)
  edited_writes none dispositions from to h k fit = record { forest = none; writes = cut_gap t from to h k; same = refl }
  edited_writes (atom s q c others) dispositions from to h k fit =
      let o : s.end ≤ to = forest_ordered (sign_of t) t others s.end to k.2 in
      let low : s.at < s.end = atom_ordered (sign_of t) t s q c k.1 in
      let tail = edited_writes others dispositions s.end to h k.2 fit in
      let glued = glue_atom q c (edited t s.end to dispositions others) tail.forest (atom_content t s q c (omega arith) k.1) tail.writes in
      after_gap (slice_range t from s.at) (written q c ++ edited t s.end to dispositions others) (insides_after dispositions others) (cut_gap t from s.at (omega arith) k.0)
      (record { forest = glued.forest; writes = glued.writes; same = glued.same ∙ tail.same })
  edited_writes (list s inside others) dispositions from to h k fit =
      let o : s.end ≤ to = forest_ordered (sign_of t) t others s.end to k.3 in
      let w : suc s.at ≤ k.2.0 = forest_ordered (sign_of t) t inside (suc s.at) k.2.0 k.2.2 in
      let e : s.end ≡ suc k.2.0 = k.2.1 in
      after_gap (slice_range t from s.at) (list_by t s (first_disposition dispositions) ++ edited t s.end to (later dispositions) others) (insides_after dispositions (list s inside others)) (cut_gap t from s.at (omega arith) k.0)
      (with_disposition s inside (first_disposition dispositions) (edited t s.end to (later dispositions) others) (insides_after (later dispositions) others) k.2.0 w e (omega arith) k.1 k.2.3 k.2.2 fit.0 (edited_writes others (later dispositions) s.end to h k.3 fit.1))

  there_apart : (s : Span) (inside : Forest) (becoming : Disposition) (rest : List ℕ) (close : ℕ) → suc s.at ≤ close → s.end ≡ suc close → s.end ≤ length t → sign_of t s.at ≡ Open → sign_of t close ≡ Close
      → IsThere becoming → IsWordEnd (list_by t s becoming ++ rest)
  there_apart s inside stays rest close o e h opens closes there =
      subst (λ l. IsWordEnd (l ++ rest)) (sym (list_slice s inside close o e h opens closes)) (open_apart ((slice_range t (suc s.at) close ++ 41 ∷ []) ++ rest))
  there_apart s inside leaves rest close o e h opens closes there = absurd there
  there_apart s inside (becomes other) rest close o e h opens closes there = open_apart ((text_rewritten t (s.at + 1) (s.end - 1) other ++ 41 ∷ []) ++ rest)

  -- behind a word, which stays apart
  edited_apart : (f : Forest) (dispositions : List Disposition) (from to : ℕ) → to ≤ length t → SpellsForest (sign_of t) t from to f → FirstIsThere dispositions f → IsWordEnd (slice_range t from to) → IsWordEnd (edited t from to dispositions f)
  edited_apart none dispositions from to h k first apart = apart
  edited_apart (atom s q c others) dispositions from to h k first apart =
      let o : s.end ≤ to = forest_ordered (sign_of t) t others s.end to k.2 in
      let low : s.at < s.end = atom_ordered (sign_of t) t s q c k.1 in
      atom_there q (slice_range t from s.at) c (slice_range t s.end to) c (edited t s.end to dispositions others) (cut_gap t from s.at (omega arith) k.0) (atom_content t s q c (omega arith) k.1)
      (subst IsWordEnd (prefix_of_atom t s q c from to k.0.ordered o h k.1) apart)
  edited_apart (list s inside others) dispositions from to h k first apart =
      let o : s.end ≤ to = forest_ordered (sign_of t) t others s.end to k.3 in
      let w : suc s.at ≤ k.2.0 = forest_ordered (sign_of t) t inside (suc s.at) k.2.0 k.2.2 in
      let e : s.end ≡ suc k.2.0 = k.2.1 in
      blank_apart (slice_range t from s.at) (list_by t s (first_disposition dispositions) ++ edited t s.end to (later dispositions) others) (cut_gap t from s.at (omega arith) k.0)
      (there_apart s inside (first_disposition dispositions) (edited t s.end to (later dispositions) others) k.2.0 w e (omega arith) k.1 k.2.3 first)

  may_follow : (dispositions : List Disposition) (q : Bool) (s : Span) (c : List ℕ) (others : Forest) (to : ℕ) → s.end ≤ to → to ≤ length t → IsAtom (sign_of t) t s q c → SpellsForest (sign_of t) t s.end to others → FirstIsThere dispositions others
      → MayFollow q (edited t s.end to dispositions others)
  may_follow dispositions false s c others to o h a k first = edited_apart others dispositions s.end to h k first (apart_after t s.end to o h a.0.longest)
  may_follow dispositions true s c others to o h a k first = tt

  -- the head of a list stays, where what follows it is not left out
  pub head_stays : (dispositions : List Disposition) (s : Span) (q : Bool) (c : List ℕ) (others : Forest) (from to : ℕ) → to ≤ length t → SpellsForest (sign_of t) t from to (atom s q c others) → AreFit dispositions others → FirstIsThere dispositions others
      → (g : Forest) × WritesForest (edited t from to dispositions (atom s q c others)) (atom s q c g) × (insides g ≡ insides_after dispositions others)
  head_stays dispositions s q c others from to h k fit first =
      let o : s.end ≤ to = forest_ordered (sign_of t) t others s.end to k.2 in
      let low : s.at < s.end = atom_ordered (sign_of t) t s q c k.1 in
      let tail = edited_writes others dispositions s.end to h k.2 fit in (
        tail.forest,
        (slice_range t from s.at, edited t s.end to dispositions others, refl, cut_gap t from s.at (omega arith) k.0, atom_content t s q c (omega arith) k.1, may_follow dispositions q s c others to o h k.1 k.2 first, tail.writes),
        tail.same,
      )

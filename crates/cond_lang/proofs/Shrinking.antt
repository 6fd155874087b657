-- What is left is no longer than what was there.
use Rattle.std.proofs.Common.{◌≡◌, ℕ, ◌≤◌, Bool, true, false, ◌==◌, ◌||◌, nat_lt, int_lt, if◌then◌else◌, List, [], ◌∷◌, length, ℤ, pos, subst, arith}
use Rattle.std.specs.Prelude.{Result, Ok, Err, bytes_eq}
use Rattle.std.specs.Str.{is_utf8}
use Rattle.std.specs.Char.{is_ascii_digit}
use Rattle.exact_dec.specs.declared.DecError.{DecError}
use Rattle.exact_dec.specs.Computed.{after_sign, prefix_digits, after_digits, with_unit_answer}
use Rattle.cond_lang.specs.declared.terms.Side.{Side}
use Rattle.cond_lang.specs.declared.error.CondError.TheVariants.{UnknownName, TypeClash}
use Rattle.cond_lang.specs.declared.terms.Side.TheVariants.{A, B}
use Rattle.cond_lang.specs.declared.terms.Func.{Func}
use Rattle.cond_lang.specs.declared.terms.Func.TheVariants.{ExistsOnLayer, IsPlated, IntersectsArea, IntersectsCourtyard}
use Rattle.cond_lang.specs.declared.terms.Op.{Op}
use Rattle.cond_lang.specs.declared.terms.Term.{Term}
use Rattle.cond_lang.specs.declared.scan.Word.{Word}
use Rattle.cond_lang.specs.declared.scan.Word.TheVariants.{Property, Function, Unknown}
use Rattle.cond_lang.specs.declared.values.Head.{Head}
use Rattle.cond_lang.specs.declared.values.Head.TheVariants.{Value, Asked}
use Rattle.cond_lang.specs.Found.{Found, read, fault, and_then, place, stuck, byte}
use Rattle.cond_lang.specs.Signs.{is_in_name, after_blanks, after_name, after_text, begins_name, name, side, text_of, quoted, word_of}
use Rattle.cond_lang.specs.UnitNumbers.{digits, fraction, mantissa, power, metric, unit, spelled, in_range, measure}
use Rattle.cond_lang.specs.Values.{meant, selected, member, begins_number, head, argument, opened, called, with_equals, operator, clash, compared, comparison, atom_of, atom}
use Rattle.cond_lang.specs.Trees.{CondTree, compare}
use Rattle.cond_lang.proofs.Links.{blanks_shorter}

abbrev pub Shrinks : {A : Type 0} → Found A → List ℕ → Type 0
Shrinks (read a rest) text = length rest ≤ length text
Shrinks (fault e) text = Unit {0}

pub longer : {A : Type 0} (f : Found A) (rest text : List ℕ) → Shrinks f rest → length rest ≤ length text → Shrinks f text
longer (read a r) rest text h k = omega (arith, h, k)
longer (fault e) rest text h k = tt

pub shrinks_then : {A B : Type 0} (f : Found A) (next : A → List ℕ → Found B) (text : List ℕ) → Shrinks f text → ((a : A) (rest : List ℕ) → Shrinks (next a rest) rest) → Shrinks (and_then f next) text
shrinks_then (read a rest) next text h k = longer (next a rest) rest text (k a rest) h
shrinks_then (fault e) next text h k = tt

either : {A : Type 0} (b : Bool) (f g : Found A) (text : List ℕ) → Shrinks f text → Shrinks g text → Shrinks (if b then f else g) text
either true f g text h k = h
either false f g text h k = k

name_shorter : (text : List ℕ) → length (after_name text) ≤ length text
name_shorter [] = omega arith
name_shorter (c ∷ cs) = by_test (is_in_name c) (name_shorter cs)
  where
    by_test : (b : Bool) → length (after_name cs) ≤ length cs → length (if b then after_name cs else (c ∷ cs)) ≤ length (c ∷ cs)
    by_test true h = omega (arith, h)
    by_test false h = omega arith

text_shorter : (text : List ℕ) → length (after_text text) ≤ length text
text_shorter [] = omega arith
text_shorter (c ∷ cs) = by_test (c == 39) (text_shorter cs)
  where
    by_test : (b : Bool) → length (after_text cs) ≤ length cs → length (if b then (c ∷ cs) else after_text cs) ≤ length (c ∷ cs)
    by_test true h = omega arith
    by_test false h = omega (arith, h)

digits_shorter : (text : List ℕ) → length (after_digits text) ≤ length text
digits_shorter [] = omega arith
digits_shorter (c ∷ cs) = by_test (is_ascii_digit c) (digits_shorter cs)
  where
    by_test : (b : Bool) → length (after_digits cs) ≤ length cs → length (if b then after_digits cs else (c ∷ cs)) ≤ length (c ∷ cs)
    by_test true h = omega (arith, h)
    by_test false h = omega arith

pub sign_shorter : (text : List ℕ) → length (after_sign text) ≤ length text
sign_shorter [] = omega arith
sign_shorter (c ∷ cs) = by_test ((c == 43) || (c == 45))
  where
    by_test : (b : Bool) → length (if b then cs else (c ∷ cs)) ≤ length (c ∷ cs)
    by_test true = omega arith
    by_test false = omega arith

byte_shrinks : (n b : ℕ) (text : List ℕ) → Shrinks (byte n b text) text
byte_shrinks n b [] = tt
byte_shrinks n b (c ∷ cs) = either (c == b) _ _ (c ∷ cs) (omega arith) tt

name_shrinks : (n : ℕ) (text : List ℕ) → Shrinks (name n text) text
name_shrinks n text = either (begins_name text) _ _ text (name_shorter text) tt

side_shrinks : (n : ℕ) (text : List ℕ) → Shrinks (side n text) text
unfolding side
side_shrinks n text = shrinks_then (name n text) _ text (name_shrinks n text) (λ word rest. either {A = Side} (bytes_eq word (65 ∷ [])) (read A rest) (if bytes_eq word (66 ∷ []) then read B rest else fault (UnknownName (place n text))) rest (omega arith) (either {A = Side} (bytes_eq word (66 ∷ [])) (read B rest) (fault (UnknownName (place n text))) rest (omega arith) tt))

quoted_shrinks : (n : ℕ) (text : List ℕ) → Shrinks (quoted n text) text
unfolding quoted
quoted_shrinks n text = by_test (is_utf8 _)
  where
    by_test : (b : Bool) → Shrinks (text_of n text b) text
    by_test true = shrinks_then (byte n 39 (after_text text)) _ text (longer (byte n 39 (after_text text)) (after_text text) text (byte_shrinks n 39 (after_text text)) (text_shorter text)) (λ _ rest. omega arith)
    by_test false = tt

digits_shrinks : (n : ℕ) (text : List ℕ) → Shrinks (digits n text) text
digits_shrinks n text = either {A = List ℕ} (nat_lt 0 (length (prefix_digits text))) (read (prefix_digits text) (after_digits text)) (stuck n text) text (digits_shorter text) tt

pub fraction_shrinks : (zero_so_far : Bool) (text : List ℕ) → Shrinks (fraction zero_so_far text) text
fraction_shrinks z [] = omega arith
fraction_shrinks z (c ∷ cs) = either (c == 46) _ _ (c ∷ cs) (let h = digits_shorter cs in omega (arith, h)) (omega arith)

mantissa_shrinks : (n : ℕ) (text : List ℕ) → Shrinks (mantissa n text) text
unfolding mantissa
mantissa_shrinks n [] = tt
mantissa_shrinks n (c ∷ cs) = either (c == 46) _ _ (c ∷ cs)
    (longer (and_then (digits n cs) _) cs (c ∷ cs) (shrinks_then (digits n cs) _ cs (digits_shrinks n cs) (λ ds rest. omega arith)) (omega arith))
    (shrinks_then (digits n (c ∷ cs)) _ (c ∷ cs) (digits_shrinks n (c ∷ cs)) (λ ds rest. fraction_shrinks _ rest))

-- nothing of what was read
abbrev pass : {A : Type 0} → A → List ℕ → Found (Unit {0})
pass a rest = read tt rest

digits_skipped : (n : ℕ) (text : List ℕ) → Shrinks (and_then (digits n text) pass) text
digits_skipped n text = shrinks_then (digits n text) pass text (digits_shrinks n text) (λ ds rest. omega arith)

pub power_shrinks : (n : ℕ) (text : List ℕ) → Shrinks (power n text) text
unfolding power
power_shrinks n [] = omega arith
power_shrinks n (c ∷ cs) = either {A = Unit {0}} ((c == 101) || (c == 69)) (and_then (digits n (after_sign cs)) pass) (read tt (c ∷ cs)) (c ∷ cs)
    (longer (and_then (digits n (after_sign cs)) pass) (after_sign cs) (c ∷ cs) (digits_skipped n (after_sign cs)) (let h = sign_shorter cs in omega (arith, h)))
    (omega arith)

metric_shrinks : (n : ℕ) (text : List ℕ) → Shrinks (metric n text) text
metric_shrinks n [] = tt
metric_shrinks n (c ∷ cs) = either (c == 109) _ _ (c ∷ cs) (omega arith)
    (either (c == 105) _ _ (c ∷ cs) (longer (byte n 108 cs) cs (c ∷ cs) (byte_shrinks n 108 cs) (omega arith)) tt)

pub unit_shrinks : (n : ℕ) (z : Bool) (text : List ℕ) → Shrinks (unit n z text) text
unfolding unit
unit_shrinks n z [] = either z _ _ [] (omega arith) tt
unit_shrinks n z (c ∷ cs) = either (c == 109) _ _ (c ∷ cs) (longer (metric n cs) cs (c ∷ cs) (metric_shrinks n cs) (omega arith))
    (either (c == 105) _ _ (c ∷ cs) (longer (byte n 110 cs) cs (c ∷ cs) (byte_shrinks n 110 cs) (omega arith)) (either z _ _ (c ∷ cs) (omega arith) tt))

spelled_shrinks : (n : ℕ) (text : List ℕ) → Shrinks (spelled n text) text
unfolding spelled
spelled_shrinks n text = longer (spelled n text) (after_sign text) text
    (shrinks_then (mantissa n (after_sign text)) _ (after_sign text) (mantissa_shrinks n (after_sign text)) (λ z rest. shrinks_then (power n rest) _ rest (power_shrinks n rest) (λ _ behind. unit_shrinks n z behind)))
    (sign_shorter text)

measure_shrinks : (n : ℕ) (text : List ℕ) → Shrinks (measure n text) text
unfolding measure
measure_shrinks n text = shrinks_then (spelled n text) _ text (spelled_shrinks n text) (λ _ rest. by_answer rest (with_unit_answer _))
  where
    by_answer : (rest : List ℕ) (r : Result ℤ DecError) → Shrinks (in_range n text rest r) rest
    by_answer rest (Ok nm) = either {A = ℤ} (int_lt nm (pos 0) || int_lt (pos 500000000) nm) (stuck n text) (read nm rest) rest tt (omega arith)
    by_answer rest (Err e) = tt

selected_shrinks : (n : ℕ) (calls : Bool) (s : Side) (text : List ℕ) → Shrinks (selected n calls s text) text
selected_shrinks n calls s text = shrinks_then (name n text) _ text (name_shrinks n text) (λ word rest. by_word rest (word_of word))
  where
    by_word : (rest : List ℕ) (w : Word) → Shrinks (meant n calls s text rest w) rest
    by_word rest (Property p) = omega arith
    by_word rest (Function f) = either calls _ _ rest (omega arith) tt
    by_word rest Unknown = tt

member_shrinks : (n : ℕ) (calls : Bool) (text : List ℕ) → Shrinks (member n calls text) text
unfolding member
member_shrinks n calls text = shrinks_then (side n text) _ text (side_shrinks n text) (λ s rest.
    longer (and_then (byte n 46 (after_blanks rest)) _) (after_blanks rest) rest
    (shrinks_then (byte n 46 (after_blanks rest)) _ (after_blanks rest) (byte_shrinks n 46 (after_blanks rest)) (λ _ behind. longer (selected n calls s (after_blanks behind)) (after_blanks behind) behind (selected_shrinks n calls s (after_blanks behind)) (blanks_shorter behind)))
    (blanks_shorter rest))

head_shrinks : (n : ℕ) (calls : Bool) (text : List ℕ) → Shrinks (head n calls text) text
unfolding head
head_shrinks n calls [] = tt
head_shrinks n calls (c ∷ cs) = either (c == 39) _ _ (c ∷ cs)
    (longer (and_then (quoted n cs) _) cs (c ∷ cs) (shrinks_then (quoted n cs) _ cs (quoted_shrinks n cs) (λ x rest. omega arith)) (omega arith))
    (either (begins_number c) _ _ (c ∷ cs)
    (shrinks_then (measure n (c ∷ cs)) _ (c ∷ cs) (measure_shrinks n (c ∷ cs)) (λ nm rest. omega arith))
    (member_shrinks n calls (c ∷ cs)))

argument_shrinks : (n : ℕ) (f : Func) (text : List ℕ) → Shrinks (argument n f text) text
argument_shrinks n IsPlated text = omega arith
argument_shrinks n ExistsOnLayer text = shrinks_then (byte n 39 text) _ text (byte_shrinks n 39 text) (λ _ rest. quoted_shrinks n rest)
argument_shrinks n IntersectsArea text = shrinks_then (byte n 39 text) _ text (byte_shrinks n 39 text) (λ _ rest. quoted_shrinks n rest)
argument_shrinks n IntersectsCourtyard text = shrinks_then (byte n 39 text) _ text (byte_shrinks n 39 text) (λ _ rest. quoted_shrinks n rest)

opened_shrinks : (n levels : ℕ) (text : List ℕ) → Shrinks (opened n levels text) text
opened_shrinks n levels [] = tt
opened_shrinks n levels (c ∷ cs) = either (c == 40) _ _ (c ∷ cs) (either (levels == 0) _ _ (c ∷ cs) tt (omega arith)) tt

-- behind space
past : {A : Type 0} (f : Found A) (text : List ℕ) → Shrinks f (after_blanks text) → Shrinks f text
past f text h = longer f (after_blanks text) text h (blanks_shorter text)

called_shrinks : (n levels : ℕ) (s : Side) (f : Func) (text : List ℕ) → Shrinks (called n levels s f text) text
unfolding called
called_shrinks n levels s f text = shrinks_then (opened n levels (after_blanks text)) _ text (past (opened n levels (after_blanks text)) text (opened_shrinks n levels (after_blanks text))) (λ _ rest.
    shrinks_then (argument n f (after_blanks rest)) _ rest (past (argument n f (after_blanks rest)) rest (argument_shrinks n f (after_blanks rest))) (λ arg behind.
    shrinks_then (byte n 41 (after_blanks behind)) _ behind (past (byte n 41 (after_blanks behind)) behind (byte_shrinks n 41 (after_blanks behind))) (λ _ end. omega arith)))

equals_shrinks : (short long : Op) (text : List ℕ) → Shrinks (with_equals short long text) text
equals_shrinks short long [] = omega arith
equals_shrinks short long (c ∷ cs) = either (c == 61) _ _ (c ∷ cs) (omega arith) (omega arith)

operator_shrinks : (n : ℕ) (text : List ℕ) → Shrinks (operator n text) text
unfolding operator
operator_shrinks n [] = tt
operator_shrinks n (c ∷ cs) = either (c == 61) _ _ (c ∷ cs) (one _) (either (c == 33) _ _ (c ∷ cs) (one _)
    (either (c == 60) _ _ (c ∷ cs) (longer (with_equals _ _ cs) cs (c ∷ cs) (equals_shrinks _ _ cs) (omega arith))
    (either (c == 62) _ _ (c ∷ cs) (longer (with_equals _ _ cs) cs (c ∷ cs) (equals_shrinks _ _ cs) (omega arith)) tt)))
  where
    one : (op : Op) → Shrinks (and_then (byte n 61 cs) (λ _ rest. read op rest)) (c ∷ cs)
    one op = longer (and_then (byte n 61 cs) (λ _ rest. read op rest)) cs (c ∷ cs) (shrinks_then (byte n 61 cs) _ cs (byte_shrinks n 61 cs) (λ _ rest. omega arith)) (omega arith)

comparison_shrinks : (n : ℕ) (left : Term) (text : List ℕ) → Shrinks (comparison n left text) text
unfolding comparison
comparison_shrinks n left text = shrinks_then (operator n (after_blanks text)) _ text (past (operator n (after_blanks text)) text (operator_shrinks n (after_blanks text))) (λ op rest.
    shrinks_then (head n false (after_blanks rest)) _ rest (past (head n false (after_blanks rest)) rest (head_shrinks n false (after_blanks rest))) (λ right behind. by_head op behind right))
  where
    by_head : (op : Op) (behind : List ℕ) (h : Head) → Shrinks (compared n (after_blanks text) left op h behind) behind
    by_head op behind (Value right) = either {A = CondTree} (clash left op right) (fault (TypeClash (place n (after_blanks text)))) (read (compare left op right) behind) behind tt (omega arith)
    by_head op behind (Asked s f) = tt

pub atom_shrinks : (n levels : ℕ) (text : List ℕ) → Shrinks (atom n levels text) text
unfolding atom
atom_shrinks n levels text = shrinks_then (head n true text) _ text (head_shrinks n true text) by_head
  where
    by_head : (h : Head) (rest : List ℕ) → Shrinks (atom_of n levels h rest) rest
    by_head (Value left) rest = comparison_shrinks n left rest
    by_head (Asked s f) rest = called_shrinks n levels s f rest

pub atom_shorter : (n levels : ℕ) (text : List ℕ) (t : CondTree) (rest : List ℕ) → atom n levels text ≡ read t rest → length rest ≤ length text
atom_shorter n levels text t rest h = subst (λ f. Shrinks f text) h (atom_shrinks n levels text)

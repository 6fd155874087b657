-- Sides, names, texts and lengths are steady.
use Rattle.std.proofs.Common.{◌≡◌, ◌⊎◌, inl, inr, ℕ, suc, ◌+◌, Bool, true, false, ◌==◌, if◌then◌else◌, List, [], ◌∷◌, ◌++◌, length, refl, sym, ◌∙◌, ap, subst, arith, bytes_eq, ℤ}
use Rattle.std.specs.Prelude.{pos}
use Rattle.std.proofs.lemmas.List.{append_assoc, length-append}
use Rattle.std.specs.Str.{is_utf8}
use Rattle.std.proofs.lemmas.Str.{IsUtf8-nil}
use Rattle.cond_lang.proofs.Utf8.{passes}
use Rattle.std.specs.Str.Lossy.{utf8_valid_len}
use Rattle.cond_lang.specs.declared.error.CondError.TheVariants.{Bad, UnknownName}
use Rattle.cond_lang.specs.declared.terms.Side.{Side}
use Rattle.cond_lang.specs.declared.terms.Side.TheVariants.{A, B}
use Rattle.cond_lang.specs.declared.terms.Prop.TheVariants.{ItemType}
use Rattle.cond_lang.specs.declared.terms.Term.TheVariants.{Of}
use Rattle.cond_lang.specs.declared.scan.Word.{Word}
use Rattle.cond_lang.specs.declared.scan.Word.TheVariants.{Property, Function, Unknown}
use Rattle.cond_lang.specs.declared.values.Head.{Head}
use Rattle.cond_lang.specs.declared.values.Head.TheVariants.{Value, Asked}
use Rattle.cond_lang.specs.Found.{Found, read, fault, and_then, place, stuck, byte}
use Rattle.cond_lang.specs.Signs.{prefix_name, after_name, begins_name, name, word_of, side_of, side, prefix_text, after_text, text_of, quoted}
use Rattle.cond_lang.specs.UnitNumbers.{measure}
use Rattle.cond_lang.specs.Values.{meant, selected, member}
use Rattle.cond_lang.specs.Atoms.{goes_on, side_letter, no_equals}
use Rattle.cond_lang.proofs.Steps.{then_read, then_fault}
use Rattle.cond_lang.proofs.Blanks.{then_back}
use Rattle.cond_lang.proofs.Atoms.{name_sound, name_complete, side_sound, side_complete, split_text, prefix_has_none, quoted_sound, quoted_complete}
use Rattle.cond_lang.proofs.Follows.{EndsValue, Begins, Anything}
use Rattle.cond_lang.proofs.Steady.{Reader, refused, bad_error, SameHead, Next, KeptAt, both, past, Eats, OpensTo, BarredAt, opens_onward, barred_at_once}
use Rattle.cond_lang.proofs.SteadyForms.{not_read, no_fault, read_rest, read_value, stuck_place, Eating, each_eating}
use Rattle.cond_lang.proofs.SteadySigns.{byte_same, longer_than, begins_stays, sign, past_eating, sign_eating}
use Rattle.cond_lang.proofs.SteadyNumbers.{measure_kept, measure_zero, measure_eats}

abbrev pub NoName : List ℕ → Type 0
NoName z = goes_on z ≡ false

abbrev pub NoEquals : List ℕ → Type 0
NoEquals z = no_equals z ≡ true

pub empty_utf8 : is_utf8 [] ≡ true
empty_utf8 = passes [] IsUtf8-nil

-- a length that is refused, or a text between quotes that is no UTF-8
abbrev pub Spoilt : ℕ → List ℕ → ℕ → Type 0
Spoilt n v k = (measure n v ≡ fault (Bad k)) ⊎ ((is_utf8 (prefix_text v) ≡ false) × (k ≡ place n v + utf8_valid_len (prefix_text v)))

-- a call stands only where calls may
abbrev pub Fits : Bool → Head → Type 0
Fits calls (Value t) = Unit {0}
Fits calls (Asked s f) = calls ≡ true

goes_on_same : (r z : List ℕ) → SameHead r z → goes_on z ≡ goes_on r
goes_on_same [] z h = absurd h
goes_on_same (c ∷ s) [] h = absurd h
goes_on_same (c ∷ s) (d ∷ z) h = subst (λ y. goes_on (y ∷ z) ≡ goes_on (c ∷ s)) h refl

no_name_next : (r z : List ℕ) → goes_on r ≡ false → Next NoName r z → goes_on z ≡ false
no_name_next r z stops (inl h) = h
no_name_next r z stops (inr h) = goes_on_same r z h ∙ stops

pub equals_same : (r z : List ℕ) → SameHead r z → no_equals z ≡ no_equals r
equals_same [] z h = absurd h
equals_same (c ∷ s) [] h = absurd h
equals_same (c ∷ s) (d ∷ z) h = subst (λ y. no_equals (y ∷ z) ≡ no_equals (c ∷ s)) h refl

-- a value that ends is no name
pub value_no_name : (z : List ℕ) → EndsValue z → goes_on z ≡ false
value_no_name [] h = refl
value_no_name (c ∷ cs) h = grind (arith, h)

-- ---- the readers

abbrev sides : Reader Side
sides e u = side e.0 u

abbrev selections : Bool → Side → Reader Head
selections calls s e u = selected e.0 calls s u

-- a dot (46) and a name, with space round the dot
abbrev dotted : Bool → Side → Reader Head
dotted calls s = both (past (sign 46)) (λ _. past (selections calls s))

abbrev pub members : Bool → Reader Head
members calls e u = member e.0 calls u

-- behind the first quote
abbrev pub texts : Reader (List ℕ)
texts e u = quoted e.0 u

abbrev pub lengths : Reader ℤ
lengths e u = measure e.0 u

-- ---- names

-- where no name begins, nothing is read
name_stuck : (n : ℕ) (u : List ℕ) → begins_name u ≡ false → name n u ≡ stuck n u
name_stuck n u e = ap (λ b. if b then read (prefix_name u) (after_name u) else stuck n u) e

name_bad : (n : ℕ) (u : List ℕ) (k : ℕ) → name n u ≡ fault (Bad k) → (begins_name u ≡ false) × (k ≡ place n u)
name_bad n u k h = by (begins_name u) refl
  where
    by : (b : Bool) → begins_name u ≡ b → (begins_name u ≡ false) × (k ≡ place n u)
    by true e = no_fault (Bad k) (prefix_name u) (after_name u) (sym (ap (λ b. if b then read (prefix_name u) (after_name u) else stuck n u) e) ∙ h)
    by false e = (e, stuck_place {A = List ℕ} n k u (sym (name_stuck n u e) ∙ h))

-- ---- sides

side_of_bad : {Z : Type 0} (n : ℕ) (text word rest : List ℕ) (k : ℕ) → side_of n text word rest ≡ fault (Bad k) → Z
side_of_bad n text word rest k h = by (bytes_eq word (65 ∷ [])) refl (bytes_eq word (66 ∷ [])) refl
  where
    at : (x y : Bool) → Found Side
    at x y = if x then read A rest else (if y then read B rest else fault (UnknownName (place n text)))

    other : {Z : Type 0} (p q : ℕ) → refused Side (UnknownName p) ≡ fault (Bad q) → Z
    other p q e = absurd (grind (arith, e))

    by : {Z : Type 0} (x : Bool) → bytes_eq word (65 ∷ []) ≡ x → (y : Bool) → bytes_eq word (66 ∷ []) ≡ y → Z
    by true e y f = no_fault (Bad k) A rest (sym (ap (λ b. at b (bytes_eq word (66 ∷ []))) e) ∙ h)
    by false e true f = no_fault (Bad k) B rest (sym (ap (λ b. at b (bytes_eq word (66 ∷ []))) e ∙ ap (at false) f) ∙ h)
    by false e false f = other (place n text) k (sym (ap (λ b. at b (bytes_eq word (66 ∷ []))) e ∙ ap (at false) f) ∙ h)

side_bad : (n : ℕ) (u : List ℕ) (k : ℕ) → side n u ≡ fault (Bad k) → (begins_name u ≡ false) × (k ≡ place n u)
unfolding side
side_bad n u k h = by (name n u) refl h
  where
    by : (x : Found (List ℕ)) → name n u ≡ x → and_then x (side_of n u) ≡ fault (Bad k) → (begins_name u ≡ false) × (k ≡ place n u)
    by (read w r) e i = side_of_bad n u w r k i
    by (fault x) e i = name_bad n u k (e ∙ ap fault (bad_error {A = Side} x k i))

side_stuck : (n : ℕ) (u : List ℕ) → begins_name u ≡ false → side n u ≡ stuck n u
unfolding side
side_stuck n u e = then_fault (name n u) (side_of n u) (Bad (place n u)) (name_stuck n u e)

side_a : (n : ℕ) (z : List ℕ) → goes_on z ≡ false → side n (65 ∷ z) ≡ read A z
side_a n z stops = side_complete n (65 ∷ z) A z (refl, (refl, tt), refl, stops)

side_kept : (e : ℕ × List ℕ) (u : List ℕ) (s : Side) (r : List ℕ) → side e.0 u ≡ read s r → KeptAt sides NoName u s r
side_kept e u s r h =
    let named = side_sound e.0 u s r h in
    (side_letter s, named.0, λ d z next. side_complete d.0 (side_letter s ++ z) s z (refl, named.1, named.2, no_name_next r z named.3 next))

side_eats : Eats sides
side_eats e u s h = by s (side_sound e.0 u s u h).0
  where
    by : (s : Side) → u ≡ side_letter s ++ u → ⊥
    by A eq = longer_than 65 u eq
    by B eq = longer_than 66 u eq

-- ---- names behind a side

meant_moves : (n m : ℕ) (calls : Bool) (s : Side) (text text2 rest rest2 : List ℕ) (w : Word) (h : Head) (r : List ℕ) → meant n calls s text rest w ≡ read h r
    → (r ≡ rest) × (meant m calls s text2 rest2 w ≡ read h rest2) × Fits calls h
meant_moves n m calls s text text2 rest rest2 (Property p) h r e =
    let value = read_value (Value (Of s p)) h rest r e in (sym (read_rest (Value (Of s p)) h rest r e), ap (λ y. read y rest2) value, subst (Fits calls) value tt)
meant_moves n m true s text text2 rest rest2 (Function f) h r e =
    let value = read_value (Asked s f) h rest r e in (sym (read_rest (Asked s f) h rest r e), ap (λ y. read y rest2) value, subst (Fits true) value refl)
meant_moves n m false s text text2 rest rest2 (Function f) h r e = not_read (UnknownName (place n text)) h r e
meant_moves n m calls s text text2 rest rest2 Unknown h r e = not_read (UnknownName (place n text)) h r e

meant_bad : {Z : Type 0} (n : ℕ) (calls : Bool) (s : Side) (text rest : List ℕ) (w : Word) (k : ℕ) → meant n calls s text rest w ≡ fault (Bad k) → Z
meant_bad n calls s text rest (Property p) k e = no_fault (Bad k) (Value (Of s p)) rest e
meant_bad n true s text rest (Function f) k e = no_fault (Bad k) (Asked s f) rest e
meant_bad n false s text rest (Function f) k e = absurd (grind (arith, e))
meant_bad n calls s text rest Unknown k e = absurd (grind (arith, e))

-- the name of the type of an item
abbrev type_word : List ℕ
type_word = 84 ∷ 121 ∷ 112 ∷ 101 ∷ []

selected_type : (n : ℕ) (calls : Bool) (s : Side) (z : List ℕ) → goes_on z ≡ false → selected n calls s (type_word ++ z) ≡ read (Value (Of s ItemType)) z
selected_type n calls s z stops =
    then_read (name n (type_word ++ z)) (λ w r. meant n calls s (type_word ++ z) r (word_of w)) type_word z (read (Value (Of s ItemType)) z)
    (name_complete n (type_word ++ z) type_word z (refl, (refl, (refl, (refl, (refl, tt)))), refl, stops)) refl

selected_bad : (n : ℕ) (calls : Bool) (s : Side) (u : List ℕ) (k : ℕ) → selected n calls s u ≡ fault (Bad k) → (begins_name u ≡ false) × (k ≡ place n u)
selected_bad n calls s u k h = by (name n u) refl h
  where
    by : (x : Found (List ℕ)) → name n u ≡ x → and_then x (λ word rest. meant n calls s u rest (word_of word)) ≡ fault (Bad k) → (begins_name u ≡ false) × (k ≡ place n u)
    by (read w r) e i = meant_bad n calls s u r (word_of w) k i
    by (fault x) e i = name_bad n u k (e ∙ ap fault (bad_error {A = Head} x k i))

selected_eats : (calls : Bool) (s : Side) → Eats (selections calls s)
selected_eats calls s e u h eq =
    let b = then_back (name e.0 u) (λ word rest. meant e.0 calls s u rest (word_of word)) h u eq in
    let named = name_sound e.0 u b.0 b.1 b.2 in
    let ends = (meant_moves e.0 e.0 calls s u u b.1 b.1 (word_of b.0) h u b.3).0 in
    by b.0 named.2 (named.0 ∙ ap (λ y. b.0 ++ y) (sym ends))
  where
    by : (w : List ℕ) → begins_name w ≡ true → u ≡ w ++ u → ⊥
    by [] begins same = absurd (grind (arith, begins))
    by (c ∷ w) begins same = let l : length u ≡ suc (length (w ++ u)) = ap length same in let m = length-append w u in omega (arith, l, m)

-- ---- texts

quote_found : (u : List ℕ) (c : ℕ) (cs : List ℕ) → after_text u ≡ c ∷ cs → c ≡ 39
quote_found [] c cs h = absurd (grind (arith, h))
quote_found (b ∷ bs) c cs h = by (quote_found bs c cs) (b == 39) refl
  where
    by : (after_text bs ≡ c ∷ cs → c ≡ 39) → (x : Bool) → (b == 39) ≡ x → c ≡ 39
    by on true e = let k : b ∷ bs ≡ c ∷ cs = sym (ap (λ y. if y then (b ∷ bs) else after_text bs) e) ∙ h in grind (arith, k, e)
    by on false e = on (sym (ap (λ y. if y then (b ∷ bs) else after_text bs) e) ∙ h)

quoted_kept : (e : ℕ × List ℕ) (u signs r : List ℕ) → quoted e.0 u ≡ read signs r → KeptAt texts Anything u signs r
quoted_kept e u signs r h =
    let q = quoted_sound e.0 u signs r h in (
      signs ++ (39 ∷ []),
      tail q.0 ∙ sym (append_assoc signs (39 ∷ []) r),
      λ d z next.
          ap (quoted d.0) (append_assoc signs (39 ∷ []) z) ∙ quoted_complete d.0 signs z q.1 q.2,
    )
  where
    tail : (39 ∷ u) ≡ 39 ∷ (signs ++ (39 ∷ r)) → u ≡ signs ++ (39 ∷ r)
    tail q = grind (arith, q)

-- ---- all are steady

module _ {X : Type 0} (P : Found X → Type 0) where
  side_eating : Eating P Spoilt sides Anything NoName (Begins 65)
  side_eating = record {
    steady = record {
      reads = λ e u a r h. tt;
      kept = side_kept;
      barred = λ e u k h. let b = side_bad e.0 u k h in
          barred_at_once P Spoilt sides Anything NoName (Begins 65) e.0 u k opens b.1 (λ c s same d z. side_stuck d.0 (c ∷ z) (subst (λ y. begins_name y ≡ false) same b.0));
      opens = opens;
    };
    eats = side_eats;
  }
    where
      opens : OpensTo P Spoilt sides Anything NoName (Begins 65)
      opens K ends = let o = ends A tt in (65 ∷ o.0, (o.0, refl), λ e. subst P (sym (then_read (side e.0 (65 ∷ o.0)) (K e) A o.0 _ (side_a e.0 o.0 o.1) refl)) (o.2 e))

  selected_eating : (calls : Bool) (s : Side) → Eating P Spoilt (selections calls s) (Fits calls) NoName (Begins 84)
  selected_eating calls s = record {
    steady = record {
      reads = λ e u h r eq. let b = then_back (name e.0 u) (λ word rest. meant e.0 calls s u rest (word_of word)) h r eq in
          (meant_moves e.0 e.0 calls s u u b.1 b.1 (word_of b.0) h r b.3).2;
      kept = λ e u h r eq. let b = then_back (name e.0 u) (λ word rest. meant e.0 calls s u rest (word_of word)) h r eq in
          let named = name_sound e.0 u b.0 b.1 b.2 in
          let ends = (meant_moves e.0 e.0 calls s u u b.1 b.1 (word_of b.0) h r b.3).0 in (
            b.0,
            named.0 ∙ ap (λ y. b.0 ++ y) (sym ends),
            λ d z next.
                then_read (name d.0 (b.0 ++ z)) _ b.0 z _
                (name_complete d.0 (b.0 ++ z) b.0 z (refl, named.1, named.2, no_name_next r z (subst (λ y. goes_on y ≡ false) (sym ends) named.3) next))
                (meant_moves e.0 d.0 calls s u (b.0 ++ z) b.1 z (word_of b.0) h r b.3).1,
          );
      barred = λ e u k h. let b = selected_bad e.0 calls s u k h in
          barred_at_once P Spoilt (selections calls s) (Fits calls) NoName (Begins 84) e.0 u k opens b.1
          (λ c y same d z. then_fault (name d.0 (c ∷ z)) _ (Bad (place d.0 (c ∷ z))) (name_stuck d.0 (c ∷ z) (subst (λ q. begins_name q ≡ false) same b.0)));
      opens = opens;
    };
    eats = selected_eats calls s;
  }
    where
      opens : OpensTo P Spoilt (selections calls s) (Fits calls) NoName (Begins 84)
      opens K ends =
          let o = ends (Value (Of s ItemType)) tt in (
            type_word ++ o.0,
            (121 ∷ 112 ∷ 101 ∷ o.0, refl),
            λ d.
                subst P (sym (then_read (selected d.0 calls s (type_word ++ o.0)) (K d) (Value (Of s ItemType)) o.0 _ (selected_type d.0 calls s o.0 o.1) refl)) (o.2 d),
          )

  dotted_eating : (calls : Bool) (s : Side) → Eating P Spoilt (dotted calls s) (Fits calls) NoName (Begins 46)
  dotted_eating calls s =
      each_eating P Spoilt (past_eating P Spoilt (begins_stays 46 refl) (sign_eating P Spoilt 46)) (λ _. past_eating P Spoilt (begins_stays 84 refl) (selected_eating calls s)) (λ z b. tt)

  pub member_eating : (calls : Bool) → Eating P Spoilt (members calls) (Fits calls) NoName (Begins 65)
  unfolding member
  member_eating calls = each_eating P Spoilt side_eating (dotted_eating calls) (λ z b. subst (λ y. goes_on y ≡ false) (sym b.1) refl)

  quoted_opens : OpensTo P Spoilt texts Anything Anything (Begins 39)
  quoted_opens K ends = let o = ends [] tt in (39 ∷ o.0, (o.0, refl), λ e. subst P (sym (then_read (quoted e.0 (39 ∷ o.0)) (K e) [] o.0 _ (quoted_complete e.0 [] o.0 tt empty_utf8) refl)) (o.2 e))

  quoted_barred : (e : ℕ × List ℕ) (u : List ℕ) (k : ℕ) → quoted e.0 u ≡ fault (Bad k) → BarredAt P Spoilt texts Anything Anything (Begins 39) e.0 u k
  unfolding quoted
  quoted_barred e u k h = by (is_utf8 (prefix_text u)) refl
    where
      by : (b : Bool) → is_utf8 (prefix_text u) ≡ b → BarredAt P Spoilt texts Anything Anything (Begins 39) e.0 u k
      by false f =
          let i : refused (List ℕ) (Bad (place e.0 u + utf8_valid_len (prefix_text u))) ≡ fault (Bad k) = sym (ap (text_of e.0 u) f) ∙ h in
          ([], u, refl, inr (inr (f, grind (arith, i))), λ K ends. let o = quoted_opens K ends in (o.0, inl o.1, o.2))
      by true f = at_end (after_text u) refl
        where
          i : text_of e.0 u true ≡ fault (Bad k)
          i = sym (ap (text_of e.0 u) f) ∙ h

          at_end : (v : List ℕ) → after_text u ≡ v → BarredAt P Spoilt texts Anything Anything (Begins 39) e.0 u k
          at_end (c ∷ cs) g =
              let sign = quote_found u c cs g in
              let closes : byte e.0 39 (after_text u) ≡ read tt cs = ap (byte e.0 39) (g ∙ ap (λ y. y ∷ cs) sign) ∙ byte_same e.0 39 cs in
              no_fault (Bad k) (prefix_text u) cs (sym (then_read (byte e.0 39 (after_text u)) (λ _ rest. read (prefix_text u) rest) tt cs _ closes refl) ∙ i)
          at_end [] g =
              let j : stuck e.0 [] ≡ fault (Bad k) = sym (ap (λ y. and_then (byte e.0 39 y) (λ _ rest. read (prefix_text u) rest)) g) ∙ i in (
                prefix_text u,
                [],
                split_text u ∙ ap (λ y. prefix_text u ++ y) g,
                inl (stuck_place {A = List ℕ} e.0 k [] j, λ c s no d z. absurd (grind (arith, no))),
                λ K ends.
                    let o = ends (prefix_text u) tt in (
                      39 ∷ o.0,
                      begins (prefix_text u) (split_text u ∙ ap (λ y. prefix_text u ++ y) g) o.0,
                      λ d.
                          subst P (sym (then_read (quoted d.0 (prefix_text u ++ (39 ∷ o.0))) (K d) (prefix_text u) o.0 _ (quoted_complete d.0 (prefix_text u) o.0 (prefix_has_none u) f) refl)) (o.2 d),
                    ),
              )
            where
              begins : (w : List ℕ) → u ≡ w ++ [] → (z : List ℕ) → Next (Begins 39) u (w ++ (39 ∷ z))
              begins [] same z = inl (z, refl)
              begins (c ∷ w) same z = inr (subst (λ y. SameHead y (c ∷ (w ++ (39 ∷ z)))) (sym same) refl)

  pub quoted_eating : Eating P Spoilt texts Anything Anything (Begins 39)
  quoted_eating = record {
    steady = record { reads = λ e u a r h. tt; kept = quoted_kept; barred = quoted_barred; opens = quoted_opens };
    eats = λ e u signs h.
        let q = quoted_sound e.0 u signs u h in
        let l : length (39 ∷ u) ≡ length (39 ∷ (signs ++ (39 ∷ u))) = ap length q.0 in
        let m = length-append signs (39 ∷ u) in omega (arith, l, m);
  }

  pub measure_eating : Eating P Spoilt lengths Anything EndsValue (Begins 48)
  measure_eating = record {
    steady = record {
      reads = λ e u a r h. tt;
      kept = measure_kept;
      barred = λ e u k h. ([], u, refl, inr (inl h), opens_onward P Spoilt lengths Anything EndsValue (Begins 48) u opens);
      opens = opens;
    };
    eats = λ e u a h. measure_eats e.0 u a h;
  }
    where
      opens : OpensTo P Spoilt lengths Anything EndsValue (Begins 48)
      opens K ends = let o = ends (pos 0) tt in (48 ∷ o.0, (o.0, refl), λ e. subst P (sym (then_read (measure e.0 (48 ∷ o.0)) (K e) (pos 0) o.0 _ (measure_zero e.0 o.0 o.1) refl)) (o.2 e))

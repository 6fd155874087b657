-- A call or a comparison that is read stands there, and one that stands there is read.
use Rattle.std.proofs.Common.{◌≡◌, ℕ, zero, suc, ◌<◌, Bool, true, false, ◌==◌, ◌||◌, if◌then◌else◌, List, [], ◌∷◌, ◌++◌, refl, sym, ◌∙◌, ap, subst, arith, bytes_eq, ℤ}
use Rattle.std.specs.Str.{is_utf8}
use Rattle.std.proofs.lemmas.Slice.Eq.{bytes_eq-Decides}
use Rattle.cond_lang.specs.declared.error.CondError.TheVariants.{UnknownName, TypeClash, TooDeep}
use Rattle.cond_lang.specs.declared.terms.Side.{Side}
use Rattle.cond_lang.specs.declared.terms.Side.TheVariants.{A, B}
use Rattle.cond_lang.specs.declared.terms.Func.{Func}
use Rattle.cond_lang.specs.declared.terms.Func.TheVariants.{ExistsOnLayer, IsPlated, IntersectsArea, IntersectsCourtyard}
use Rattle.cond_lang.specs.declared.terms.Op.{Op}
use Rattle.cond_lang.specs.declared.terms.Op.TheVariants.{Same, Differs, Less, AtMost, More, AtLeast}
use Rattle.cond_lang.specs.declared.terms.Term.{Term}
use Rattle.cond_lang.specs.declared.terms.Term.TheVariants.{Of, Text, Length}
use Rattle.cond_lang.specs.declared.scan.Word.{Word}
use Rattle.cond_lang.specs.declared.scan.Word.TheVariants.{Property, Function, Unknown}
use Rattle.cond_lang.specs.declared.values.Head.{Head}
use Rattle.cond_lang.specs.declared.values.Head.TheVariants.{Value, Asked}
use Rattle.cond_lang.specs.Found.{Found, read, fault, and_then, place, stuck, byte}
use Rattle.cond_lang.specs.Signs.{is_blank, after_blanks, is_letter, is_digit, is_in_name, prefix_name, after_name, begins_name, name, word_of, side_of, side, prefix_text, after_text, text_of, quoted}
use Rattle.cond_lang.specs.UnitNumbers.{measure}
use Rattle.cond_lang.specs.Trees.{CondTree, any, all, negated, call, compare}
use Rattle.cond_lang.specs.Values.{meant, member, begins_number, head, argument, opened, called, with_equals, operator, clash, compared, comparison, atom_of, atom}
use Rattle.cond_lang.specs.Atoms.{Blanks, AreInName, goes_on, Named, side_letter, Selected, HasNoQuote, Quoted, Measured, Valued, Argued, Called, no_equals, Operates, Compared, Atom}
use Rattle.cond_lang.proofs.Steps.{then_read}
use Rattle.cond_lang.proofs.Blanks.{then_back, blanks_of, byte_back, skipped}

-- ---- signs that are no space

module _ (P : ℕ → Bool) (p32 : P 32 ≡ false) (p9 : P 9 ≡ false) (p10 : P 10 ≡ false) (p13 : P 13 ≡ false) where
  solid : (c : ℕ) → P c ≡ true → is_blank c ≡ false
  solid c h = by_test (is_blank c) refl
    where
      at_32 : c ≡ 32 → ⊥
      at_32 e = let k : P 32 ≡ true = subst (λ y. P y ≡ true) e h in grind (arith, k, p32)

      at_9 : c ≡ 9 → ⊥
      at_9 e = let k : P 9 ≡ true = subst (λ y. P y ≡ true) e h in grind (arith, k, p9)

      at_10 : c ≡ 10 → ⊥
      at_10 e = let k : P 10 ≡ true = subst (λ y. P y ≡ true) e h in grind (arith, k, p10)

      at_13 : c ≡ 13 → ⊥
      at_13 e = let k : P 13 ≡ true = subst (λ y. P y ≡ true) e h in grind (arith, k, p13)

      by_test : (b : Bool) → is_blank c ≡ b → is_blank c ≡ false
      by_test true e = absurd (grind (arith, e, at_32, at_9, at_10, at_13))
      by_test false e = e

pub stays : (c : ℕ) (cs : List ℕ) → is_blank c ≡ false → after_blanks (c ∷ cs) ≡ c ∷ cs
stays c cs e = ap (λ b. if b then after_blanks cs else (c ∷ cs)) e

-- ---- names

split_name : (text : List ℕ) → text ≡ prefix_name text ++ after_name text
split_name [] = refl
split_name (c ∷ cs) = by_test (split_name cs) (is_in_name c) refl
  where
    by_test : cs ≡ prefix_name cs ++ after_name cs → (b : Bool) → is_in_name c ≡ b → c ∷ cs ≡ prefix_name (c ∷ cs) ++ after_name (c ∷ cs)
    by_test h true e = rw e (ap (λ y. c ∷ y) h)
    by_test h false e = rw e refl

prefix_in_name : (text : List ℕ) → AreInName (prefix_name text)
prefix_in_name [] = tt
prefix_in_name (c ∷ cs) = by_test (prefix_in_name cs) (is_in_name c) refl
  where
    by_test : AreInName (prefix_name cs) → (b : Bool) → is_in_name c ≡ b → AreInName (prefix_name (c ∷ cs))
    by_test h true e = subst AreInName (sym (ap (λ b. if b then (c ∷ prefix_name cs) else []) e)) (e, h)
    by_test h false e = subst AreInName (sym (ap (λ b. if b then (c ∷ prefix_name cs) else []) e)) tt

after_stops : (text : List ℕ) → goes_on (after_name text) ≡ false
after_stops [] = refl
after_stops (c ∷ cs) = by_test (after_stops cs) (is_in_name c) refl
  where
    by_test : goes_on (after_name cs) ≡ false → (b : Bool) → is_in_name c ≡ b → goes_on (after_name (c ∷ cs)) ≡ false
    by_test h true e = ap goes_on (ap (λ b. if b then after_name cs else (c ∷ cs)) e) ∙ h
    by_test h false e = ap goes_on (ap (λ b. if b then after_name cs else (c ∷ cs)) e) ∙ e

begins_prefix : (text : List ℕ) → begins_name text ≡ true → begins_name (prefix_name text) ≡ true
begins_prefix [] h = h
begins_prefix (c ∷ cs) h = ap begins_name (ap (λ b. if (b || is_digit c) then (c ∷ prefix_name cs) else []) h) ∙ h

pub name_sound : (n : ℕ) (text w r : List ℕ) → name n text ≡ read w r → Named w text r
name_sound n text w r h = by_test (begins_name text) refl
  where
    by_test : (b : Bool) → begins_name text ≡ b → Named w text r
    by_test true e =
        let k : read (prefix_name text) (after_name text) ≡ read w r = sym (ap (λ b. if b then read (prefix_name text) (after_name text) else stuck n text) e) ∙ h in
        let word : prefix_name text ≡ w = grind (arith, k) in
        let rest : after_name text ≡ r = grind (arith, k) in
        subst (λ y. Named y text r) word (subst (λ y. Named (prefix_name text) text y) rest (split_name text, prefix_in_name text, begins_prefix text e, after_stops text))
    by_test false e =
        let k : stuck n text ≡ read w r = sym (ap (λ b. if b then read (prefix_name text) (after_name text) else stuck n text) e) ∙ h in absurd (grind (arith, k))

prefix_of : (w r : List ℕ) → AreInName w → goes_on r ≡ false → prefix_name (w ++ r) ≡ w
prefix_of [] [] a s = refl
prefix_of [] (c ∷ cs) a s = ap (λ b. if b then (c ∷ prefix_name cs) else []) s
prefix_of (c ∷ cs) r a s = ap (λ b. if b then (c ∷ prefix_name (cs ++ r)) else []) a.0 ∙ ap (λ y. c ∷ y) (prefix_of cs r a.1 s)

after_of : (w r : List ℕ) → AreInName w → goes_on r ≡ false → after_name (w ++ r) ≡ r
after_of [] [] a s = refl
after_of [] (c ∷ cs) a s = ap (λ b. if b then after_name cs else (c ∷ cs)) s
after_of (c ∷ cs) r a s = ap (λ b. if b then after_name (cs ++ r) else (c ∷ cs ++ r)) a.0 ∙ after_of cs r a.1 s

begins_of : (w r : List ℕ) → begins_name w ≡ true → begins_name (w ++ r) ≡ true
begins_of [] r h = absurd (grind (arith, h))
begins_of (c ∷ cs) r h = h

pub name_complete : (n : ℕ) (text w r : List ℕ) → Named w text r → name n text ≡ read w r
name_complete n text w r h =
    ap (name n) h.0 ∙ ap (λ b. if b then read (prefix_name (w ++ r)) (after_name (w ++ r)) else stuck n (w ++ r)) (begins_of w r h.2)
    ∙ ap (λ y. read y (after_name (w ++ r))) (prefix_of w r h.1 h.3) ∙ ap (read w) (after_of w r h.1 h.3)

name_stays : (text w r : List ℕ) → Named w text r → after_blanks text ≡ text
name_stays text [] r h = absurd (let k = h.2 in grind (arith, k))
name_stays text (c ∷ cs) r h =
    ap after_blanks h.0 ∙ stays c (cs ++ r) (solid is_letter refl refl refl refl c h.2) ∙ sym h.0

-- ---- sides

same_bytes : (v w : List ℕ) → bytes_eq v w ≡ true → v ≡ w
same_bytes v w h = let d = bytes_eq-Decides v w in d.0 h

pub side_sound : (n : ℕ) (text : List ℕ) (s : Side) (r : List ℕ) → side n text ≡ read s r → Named (side_letter s) text r
unfolding side
side_sound n text s r h =
    let first = then_back (name n text) (side_of n text) s r h in
    by_tests first.0 first.1 (name_sound n text first.0 first.1 first.2) first.3 (bytes_eq first.0 (65 ∷ [])) refl (bytes_eq first.0 (66 ∷ [])) refl
  where
    by_tests : (w u : List ℕ) → Named w text u → side_of n text w u ≡ read s r → (x : Bool) → bytes_eq w (65 ∷ []) ≡ x → (y : Bool) → bytes_eq w (66 ∷ []) ≡ y → Named (side_letter s) text r
    by_tests w u named k true e y f =
        let one : read A u ≡ read s r = sym (ap (λ b. if b then read A u else (if bytes_eq w (66 ∷ []) then read B u else fault (UnknownName (place n text)))) e) ∙ k in
        let which : A ≡ s = grind (arith, one) in
        let rest : u ≡ r = grind (arith, one) in
        subst (λ z. Named (side_letter z) text r) which (subst (Named (65 ∷ []) text) rest (subst (λ z. Named z text u) (same_bytes w (65 ∷ []) e) named))
    by_tests w u named k false e true f =
        let one : read B u ≡ read s r = sym (ap (λ b. if b then read A u else (if bytes_eq w (66 ∷ []) then read B u else fault (UnknownName (place n text)))) e ∙ ap (λ b. if b then read B u else fault (UnknownName (place n text))) f) ∙ k in
        let which : B ≡ s = grind (arith, one) in
        let rest : u ≡ r = grind (arith, one) in
        subst (λ z. Named (side_letter z) text r) which (subst (Named (66 ∷ []) text) rest (subst (λ z. Named z text u) (same_bytes w (66 ∷ []) f) named))
    by_tests w u named k false e false f =
        let one : fault (UnknownName (place n text)) ≡ read s r = sym (ap (λ b. if b then read A u else (if bytes_eq w (66 ∷ []) then read B u else fault (UnknownName (place n text)))) e ∙ ap (λ b. if b then read B u else fault (UnknownName (place n text))) f) ∙ k in
        absurd (grind (arith, one))

pub side_complete : (n : ℕ) (text : List ℕ) (s : Side) (r : List ℕ) → Named (side_letter s) text r → side n text ≡ read s r
unfolding side
side_complete n text A r h = then_read (name n text) (side_of n text) (65 ∷ []) r (read A r) (name_complete n text (65 ∷ []) r h) refl
side_complete n text B r h = then_read (name n text) (side_of n text) (66 ∷ []) r (read B r) (name_complete n text (66 ∷ []) r h) refl

-- ---- what stands behind a side

abbrev pub Headed : ℕ → Head → List ℕ → List ℕ → Type 0
Headed n (Value term) text rest = Valued n term text rest
Headed n (Asked s f) text rest = Selected s (Function f) text rest

meant_sound : (n : ℕ) (calls : Bool) (s : Side) (text at rest : List ℕ) (w : Word) (h : Head) (r : List ℕ) → Selected s w text rest → meant n calls s at rest w ≡ read h r → Headed n h text r
meant_sound n calls s text at rest (Property p) h r k e =
    let what : Value (Of s p) ≡ h = grind (arith, e) in
    let end : rest ≡ r = grind (arith, e) in
    subst (λ z. Headed n z text r) what (subst (Selected s (Property p) text) end k)
meant_sound n true s text at rest (Function f) h r k e =
    let what : Asked s f ≡ h = grind (arith, e) in
    let end : rest ≡ r = grind (arith, e) in
    subst (λ z. Headed n z text r) what (subst (Selected s (Function f) text) end k)
meant_sound n false s text at rest (Function f) h r k e = absurd (grind (arith, e))
meant_sound n calls s text at rest Unknown h r k e = absurd (grind (arith, e))

member_sound : (n : ℕ) (calls : Bool) (text : List ℕ) (h : Head) (r : List ℕ) → member n calls text ≡ read h r → Headed n h text r
unfolding member
member_sound n calls text h r e =
    let a = then_back (side n text) _ h r e in
    let b = then_back (byte n 46 (after_blanks a.1)) _ h r a.3 in
    let c = then_back (name n (after_blanks b.1)) _ h r b.3 in
    let dot = byte_back n 46 (after_blanks a.1) b.1 b.2 in
    meant_sound n calls a.0 text (after_blanks b.1) c.1 (word_of c.0) h r
    (a.1, b.1, after_blanks b.1, c.0, side_sound n text a.0 a.1 a.2, subst (Blanks a.1) dot (blanks_of a.1), blanks_of b.1, name_sound n (after_blanks b.1) c.0 c.1 c.2, refl) c.3

member_complete : (n : ℕ) (calls : Bool) (s : Side) (w : Word) (text r : List ℕ) (x : Found Head) → Selected s w text r → ((at : List ℕ) → meant n calls s at r w ≡ x) → member n calls text ≡ x
unfolding member
member_complete n calls s w text r x (u, v, y, word, sided, dot, blanks, named, means) k =
    then_read (side n text) _ s u x (side_complete n text s u sided)
    (then_read (byte n 46 (after_blanks u)) _ tt v x (ap (byte n 46) (skipped u (46 ∷ v) dot))
    (then_read (name n (after_blanks v)) _ word r x (ap (name n) (skipped v y blanks ∙ name_stays y word r named) ∙ name_complete n y word r named)
    (ap (meant n calls s (after_blanks v) r) means ∙ k (after_blanks v))))

-- ---- texts

pub split_text : (text : List ℕ) → text ≡ prefix_text text ++ after_text text
split_text [] = refl
split_text (c ∷ cs) = by_test (split_text cs) (c == 39) refl
  where
    by_test : cs ≡ prefix_text cs ++ after_text cs → (b : Bool) → (c == 39) ≡ b → c ∷ cs ≡ prefix_text (c ∷ cs) ++ after_text (c ∷ cs)
    by_test h true e = rw e refl
    by_test h false e = rw e (ap (λ y. c ∷ y) h)

pub prefix_has_none : (text : List ℕ) → HasNoQuote (prefix_text text)
prefix_has_none [] = tt
prefix_has_none (c ∷ cs) = by_test (prefix_has_none cs) (c == 39) refl
  where
    by_test : HasNoQuote (prefix_text cs) → (b : Bool) → (c == 39) ≡ b → HasNoQuote (prefix_text (c ∷ cs))
    by_test h true e = subst HasNoQuote (sym (ap (λ b. if b then [] else (c ∷ prefix_text cs)) e)) tt
    by_test h false e = subst HasNoQuote (sym (ap (λ b. if b then [] else (c ∷ prefix_text cs)) e)) ((λ same. let k : (39 == 39) ≡ false = subst (λ y. (y == 39) ≡ false) same e in grind (arith, k)), h)

pub quoted_sound : (n : ℕ) (text signs r : List ℕ) → quoted n text ≡ read signs r → Quoted signs (39 ∷ text) r
unfolding quoted
quoted_sound n text signs r h = by_test (is_utf8 (prefix_text text)) refl
  where
    by_test : (b : Bool) → is_utf8 (prefix_text text) ≡ b → Quoted signs (39 ∷ text) r
    by_test true e =
        let k : text_of n text true ≡ read signs r = sym (ap (text_of n text) e) ∙ h in
        let first = then_back (byte n 39 (after_text text)) _ signs r k in
        let close = byte_back n 39 (after_text text) first.1 first.2 in
        let last = first.3 in
        let same : prefix_text text ≡ signs = grind (arith, last) in
        let end : first.1 ≡ r = grind (arith, last) in
        subst (λ y. Quoted y (39 ∷ text) r) same
        (subst (Quoted (prefix_text text) (39 ∷ text)) end
        (ap (λ y. 39 ∷ y) (split_text text ∙ ap (λ y. prefix_text text ++ y) close), prefix_has_none text, e))
    by_test false e = let k : text_of n text false ≡ read signs r = sym (ap (text_of n text) e) ∙ h in absurd (grind (arith, k))

no_quote : (c : ℕ) → (c ≡ 39 → ⊥) → (c == 39) ≡ false
no_quote c h = by_test (c == 39) refl
  where
    by_test : (b : Bool) → (c == 39) ≡ b → (c == 39) ≡ false
    by_test true e = absurd (h (grind (arith, e)))
    by_test false e = e

prefix_text_of : (signs r : List ℕ) → HasNoQuote signs → prefix_text (signs ++ (39 ∷ r)) ≡ signs
prefix_text_of [] r h = refl
prefix_text_of (c ∷ cs) r h = ap (λ b. if b then [] else (c ∷ prefix_text (cs ++ (39 ∷ r)))) (no_quote c h.0) ∙ ap (λ y. c ∷ y) (prefix_text_of cs r h.1)

after_text_of : (signs r : List ℕ) → HasNoQuote signs → after_text (signs ++ (39 ∷ r)) ≡ 39 ∷ r
after_text_of [] r h = refl
after_text_of (c ∷ cs) r h = ap (λ b. if b then (c ∷ cs ++ (39 ∷ r)) else after_text (cs ++ (39 ∷ r))) (no_quote c h.0) ∙ after_text_of cs r h.1

pub quoted_complete : (n : ℕ) (signs r : List ℕ) → HasNoQuote signs → is_utf8 signs ≡ true → quoted n (signs ++ (39 ∷ r)) ≡ read signs r
unfolding quoted
quoted_complete n signs r h e =
    let prefix = prefix_text_of signs r h in
    ap (text_of n (signs ++ (39 ∷ r))) (ap is_utf8 prefix ∙ e)
    ∙ then_read (byte n 39 (after_text (signs ++ (39 ∷ r)))) _ tt r (read signs r) (ap (byte n 39) (after_text_of signs r h)) (ap (λ y. read y r) prefix)

-- ---- values

head_sound : (n : ℕ) (calls : Bool) (text : List ℕ) (h : Head) (r : List ℕ) → head n calls text ≡ read h r → Headed n h text r
unfolding head
head_sound n calls [] h r e = absurd (grind (arith, e))
head_sound n calls (c ∷ cs) h r e = by_tests (c == 39) refl (begins_number c) refl
  where
    at_quote : (c ≡ 39) → and_then (quoted n cs) (λ text rest. read (Value (Text text)) rest) ≡ read h r → Headed n h (c ∷ cs) r
    at_quote same k =
        let first = then_back (quoted n cs) _ h r k in
        let last = first.3 in
        let what : Value (Text first.0) ≡ h = grind (arith, last) in
        let end : first.1 ≡ r = grind (arith, last) in
        subst (λ z. Headed n z (c ∷ cs) r) what (subst (Quoted first.0 (c ∷ cs)) end (subst (λ z. Quoted first.0 (z ∷ cs) first.1) (sym same) (quoted_sound n cs first.0 first.1 first.2)))

    at_number : begins_number c ≡ true → and_then (measure n (c ∷ cs)) (λ nm rest. read (Value (Length nm)) rest) ≡ read h r → Headed n h (c ∷ cs) r
    at_number begins k =
        let first = then_back (measure n (c ∷ cs)) _ h r k in
        let last = first.3 in
        let what : Value (Length first.0) ≡ h = grind (arith, last) in
        let end : first.1 ≡ r = grind (arith, last) in
        subst (λ z. Headed n z (c ∷ cs) r) what (subst (Measured n first.0 (c ∷ cs)) end (c, cs, refl, begins, first.2))

    whole : Bool → Bool → Found Head
    whole a b = if a then and_then (quoted n cs) (λ text rest. read (Value (Text text)) rest) else (if b then and_then (measure n (c ∷ cs)) (λ nm rest. read (Value (Length nm)) rest) else member n calls (c ∷ cs))

    by_tests : (a : Bool) → (c == 39) ≡ a → (b : Bool) → begins_number c ≡ b → Headed n h (c ∷ cs) r
    by_tests true x b y = at_quote (grind (arith, x)) (sym (ap (λ z. whole z (begins_number c)) x) ∙ e)
    by_tests false x true y = at_number y (sym (ap (λ z. whole z (begins_number c)) x ∙ ap (whole false) y) ∙ e)
    by_tests false x false y = member_sound n calls (c ∷ cs) h r (sym (ap (λ z. whole z (begins_number c)) x ∙ ap (whole false) y) ∙ e)

head_of_text : (n : ℕ) (calls : Bool) (signs text r : List ℕ) → Quoted signs text r → head n calls text ≡ read (Value (Text signs)) r
unfolding head
head_of_text n calls signs text r h =
    ap (head n calls) h.0 ∙ then_read (quoted n (signs ++ (39 ∷ r))) _ signs r _ (quoted_complete n signs r h.1 h.2) refl

head_of_number : (n : ℕ) (calls : Bool) (nm : ℤ) (text r : List ℕ) → Measured n nm text r → head n calls text ≡ read (Value (Length nm)) r
unfolding head
head_of_number n calls nm text r (c, cs, is, begins, found) =
    ap (head n calls) is ∙ ap (λ z. if z then and_then (quoted n cs) (λ text rest. read (Value (Text text)) rest) else (if begins_number c then and_then (measure n (c ∷ cs)) (λ m rest. read (Value (Length m)) rest) else member n calls (c ∷ cs))) (no_quote c other)
    ∙ ap (λ z. if z then and_then (measure n (c ∷ cs)) (λ m rest. read (Value (Length m)) rest) else member n calls (c ∷ cs)) begins
    ∙ then_read (measure n (c ∷ cs)) _ nm r _ (sym (ap (measure n) is) ∙ found) refl
  where
    other : c ≡ 39 → ⊥
    other e = let k : begins_number 39 ≡ true = subst (λ y. begins_number y ≡ true) e begins in grind (arith, k)

head_of_member : (n : ℕ) (calls : Bool) (s : Side) (w : Word) (text r : List ℕ) → Selected s w text r → head n calls text ≡ member n calls text
unfolding head
head_of_member n calls A w text r (u, v, y, word, sided, dot, blanks, named, means) = ap (head n calls) sided.0 ∙ sym (ap (member n calls) sided.0)
head_of_member n calls B w text r (u, v, y, word, sided, dot, blanks, named, means) = ap (head n calls) sided.0 ∙ sym (ap (member n calls) sided.0)

value_complete : (n : ℕ) (calls : Bool) (term : Term) (text r : List ℕ) → Valued n term text r → head n calls text ≡ read (Value term) r
value_complete n calls (Of s p) text r h =
    head_of_member n calls s (Property p) text r h ∙ member_complete n calls s (Property p) text r (read (Value (Of s p)) r) h (λ at. refl)
value_complete n calls (Text signs) text r h = head_of_text n calls signs text r h
value_complete n calls (Length nm) text r h = head_of_number n calls nm text r h

asked_complete : (n : ℕ) (s : Side) (f : Func) (text r : List ℕ) → Selected s (Function f) text r → head n true text ≡ read (Asked s f) r
asked_complete n s f text r h =
    head_of_member n true s (Function f) text r h ∙ member_complete n true s (Function f) text r (read (Asked s f) r) h (λ at. refl)

value_stays : (n : ℕ) (term : Term) (text r : List ℕ) → Valued n term text r → after_blanks text ≡ text
value_stays n (Of s p) text r (u, v, y, word, sided, dot, blanks, named, means) = name_stays text (side_letter s) u sided
value_stays n (Text signs) text r h = ap after_blanks h.0 ∙ sym h.0
value_stays n (Length nm) text r (c, cs, is, begins, found) =
    ap after_blanks is ∙ stays c cs (solid begins_number refl refl refl refl c begins) ∙ sym is

-- ---- calls

no_zero : (k : ℕ) → (k == 0) ≡ false → 0 < k
no_zero zero e = absurd (grind (arith, e))
no_zero (suc j) e = omega arith

no_zero_test : (k : ℕ) → 0 < k → (k == 0) ≡ false
no_zero_test k h = by_test (k == 0) refl
  where
    by_test : (b : Bool) → (k == 0) ≡ b → (k == 0) ≡ false
    by_test true e = let none : k ≡ 0 = grind (arith, e) in absurd (omega (arith, none, h))
    by_test false e = e

opened_sound : (n levels : ℕ) (text r : List ℕ) → opened n levels text ≡ read tt r → (0 < levels) × (text ≡ 40 ∷ r)
opened_sound n levels [] r h = absurd (grind (arith, h))
opened_sound n levels (c ∷ cs) r h = by_tests (c == 40) refl (levels == 0) refl
  where
    inside : Bool → Found (Unit {0})
    inside z = if z then fault (TooDeep (place n (c ∷ cs))) else read tt cs

    by_tests : (a : Bool) → (c == 40) ≡ a → (z : Bool) → (levels == 0) ≡ z → (0 < levels) × (c ∷ cs ≡ 40 ∷ r)
    by_tests true x true y =
        let k : inside true ≡ read tt r = sym (ap (λ b. if b then inside (levels == 0) else stuck n (c ∷ cs)) x ∙ ap inside y) ∙ h in absurd (grind (arith, k))
    by_tests true x false y =
        let k : inside false ≡ read tt r = sym (ap (λ b. if b then inside (levels == 0) else stuck n (c ∷ cs)) x ∙ ap inside y) ∙ h in
        let same : cs ≡ r = grind (arith, k) in
        let bracket : c ≡ 40 = grind (arith, x) in
        (no_zero levels y, ap (λ y. y ∷ cs) bracket ∙ ap (λ y. 40 ∷ y) same)
    by_tests false x z y =
        let k : stuck n (c ∷ cs) ≡ read tt r = sym (ap (λ b. if b then inside (levels == 0) else stuck n (c ∷ cs)) x) ∙ h in absurd (grind (arith, k))

opened_complete : (n levels : ℕ) (r : List ℕ) → 0 < levels → opened n levels (40 ∷ r) ≡ read tt r
opened_complete n levels r h = ap (λ z. if z then fault (TooDeep (place n (40 ∷ r))) else read tt r) (no_zero_test levels h)

text_sound : (n : ℕ) (text signs r : List ℕ) → and_then (byte n 39 text) (λ _ rest. quoted n rest) ≡ read signs r → Quoted signs text r
text_sound n text signs r h =
    let first = then_back (byte n 39 text) _ signs r h in
    let quote = byte_back n 39 text first.1 first.2 in
    subst (λ z. Quoted signs z r) (sym quote) (quoted_sound n first.1 signs r first.3)

argument_sound : (n : ℕ) (f : Func) (text signs r : List ℕ) → argument n f text ≡ read signs r → Argued f signs text r
argument_sound n IsPlated text signs r h = let a : [] ≡ signs = grind (arith, h) in let b : text ≡ r = grind (arith, h) in (sym a, b)
argument_sound n ExistsOnLayer text signs r h = text_sound n text signs r h
argument_sound n IntersectsArea text signs r h = text_sound n text signs r h
argument_sound n IntersectsCourtyard text signs r h = text_sound n text signs r h

text_complete : (n : ℕ) (v x signs y : List ℕ) → Blanks v x → Quoted signs x y → and_then (byte n 39 (after_blanks v)) (λ _ rest. quoted n rest) ≡ read signs y
text_complete n v x signs y b h =
    ap (λ z. and_then (byte n 39 z) (λ _ rest. quoted n rest)) (skipped v x b ∙ ap after_blanks h.0) ∙ quoted_complete n signs y h.1 h.2

-- what the function takes, and the closing bracket behind it
argument_complete : (n : ℕ) (f : Func) (v x signs y rest : List ℕ) → Blanks v x → Argued f signs x y → Blanks y (41 ∷ rest) → (end : List ℕ) × (argument n f (after_blanks v) ≡ read signs end) × (after_blanks end ≡ 41 ∷ rest)
argument_complete n IsPlated v x signs y rest b h close =
    let here : after_blanks v ≡ 41 ∷ rest = skipped v x b ∙ ap after_blanks h.1 ∙ skipped y (41 ∷ rest) close in
    (after_blanks v, ap (λ z. read z (after_blanks v)) (sym h.0), ap after_blanks here ∙ refl)
argument_complete n ExistsOnLayer v x signs y rest b h close = (y, text_complete n v x signs y b h, skipped y (41 ∷ rest) close)
argument_complete n IntersectsArea v x signs y rest b h close = (y, text_complete n v x signs y b h, skipped y (41 ∷ rest) close)
argument_complete n IntersectsCourtyard v x signs y rest b h close = (y, text_complete n v x signs y b h, skipped y (41 ∷ rest) close)

called_sound : (n levels : ℕ) (s : Side) (f : Func) (text u : List ℕ) (t : CondTree) (r : List ℕ) → Selected s (Function f) text u → called n levels s f u ≡ read t r → Atom n levels t text r
unfolding called
called_sound n levels s f text u t r selects h =
    let a = then_back (opened n levels (after_blanks u)) _ t r h in
    let b = then_back (argument n f (after_blanks a.1)) _ t r a.3 in
    let c = then_back (byte n 41 (after_blanks b.1)) _ t r b.3 in
    let opens = opened_sound n levels (after_blanks u) a.1 a.2 in
    let close = byte_back n 41 (after_blanks b.1) c.1 c.2 in
    let last = c.3 in
    let what : call s f b.0 ≡ t = grind (arith, last) in
    let end : c.1 ≡ r = grind (arith, last) in
    subst (λ z. Atom n levels z text r) what
    (opens.0, (u, a.1, after_blanks a.1, b.1, selects, subst (Blanks u) opens.1 (blanks_of u), blanks_of a.1, argument_sound n f (after_blanks a.1) b.0 b.1 b.2, subst (Blanks b.1) (close ∙ ap (λ y. 41 ∷ y) end) (blanks_of b.1)))

called_complete : (n levels : ℕ) (s : Side) (f : Func) (signs text r : List ℕ) → Called levels s f signs text r → atom n levels text ≡ read (call s f signs) r
unfolding atom called
called_complete n levels s f signs text r (some, (u, v, x, y, selects, opens, blanks, argued, close)) =
    let arg = argument_complete n f v x signs y r blanks argued close in
    then_read (head n true text) (atom_of n levels) (Asked s f) u (read (call s f signs) r) (asked_complete n s f text u selects)
    (then_read (opened n levels (after_blanks u)) _ tt v (read (call s f signs) r) (ap (opened n levels) (skipped u (40 ∷ v) opens) ∙ opened_complete n levels v some)
    (then_read (argument n f (after_blanks v)) _ signs arg.0 (read (call s f signs) r) arg.1
    (then_read (byte n 41 (after_blanks arg.0)) _ tt r (read (call s f signs) r) (ap (byte n 41) arg.2) refl)))

-- ---- comparisons

no_equals_by : (c : ℕ) (cs : List ℕ) → (c == 61) ≡ false → no_equals (c ∷ cs) ≡ true
no_equals_by c cs e = ap (λ b. if b then false else true) e

module _ (first : ℕ) (short long : Op) (short_at : (r : List ℕ) → no_equals r ≡ true → Operates short (first ∷ r) r) (long_at : (r : List ℕ) → Operates long (first ∷ 61 ∷ r) r) where
  with_sound : (cs : List ℕ) (op : Op) (r : List ℕ) → with_equals short long cs ≡ read op r → Operates op (first ∷ cs) r
  with_sound [] op r h =
      let what : short ≡ op = grind (arith, h) in let end : [] ≡ r = grind (arith, h) in
      subst (λ z. Operates z (first ∷ []) r) what (subst (λ z. Operates short (first ∷ []) z) end (short_at [] refl))
  with_sound (c ∷ cs) op r h = by_test (c == 61) refl
    where
      by_test : (b : Bool) → (c == 61) ≡ b → Operates op (first ∷ c ∷ cs) r
      by_test true e =
          let k : read long cs ≡ read op r = sym (ap (λ b. if b then read long cs else read short (c ∷ cs)) e) ∙ h in
          let what : long ≡ op = grind (arith, k) in let end : cs ≡ r = grind (arith, k) in let sign : c ≡ 61 = grind (arith, e) in
          subst (λ z. Operates z (first ∷ c ∷ cs) r) what (subst (λ z. Operates long (first ∷ c ∷ cs) z) end (subst (λ z. Operates long (first ∷ z ∷ cs) cs) (sym sign) (long_at cs)))
      by_test false e =
          let k : read short (c ∷ cs) ≡ read op r = sym (ap (λ b. if b then read long cs else read short (c ∷ cs)) e) ∙ h in
          let what : short ≡ op = grind (arith, k) in let end : c ∷ cs ≡ r = grind (arith, k) in
          subst (λ z. Operates z (first ∷ c ∷ cs) r) what (subst (λ z. Operates short (first ∷ c ∷ cs) z) end (short_at (c ∷ cs) (no_equals_by c cs e)))

twice_sound : (n first : ℕ) (it : Op) (cs : List ℕ) (op : Op) (r : List ℕ) → ((r : List ℕ) → Operates it (first ∷ 61 ∷ r) r) → and_then (byte n 61 cs) (λ _ rest. read it rest) ≡ read op r → Operates op (first ∷ cs) r
twice_sound n first it cs op r at h =
    let a = then_back (byte n 61 cs) _ op r h in
    let second = byte_back n 61 cs a.1 a.2 in
    let last = a.3 in
    let what : it ≡ op = grind (arith, last) in let end : a.1 ≡ r = grind (arith, last) in
    subst (λ z. Operates z (first ∷ cs) r) what (subst (λ z. Operates it (first ∷ cs) z) end (subst (λ z. Operates it (first ∷ z) a.1) (sym second) (at a.1)))

operator_sound : (n : ℕ) (text : List ℕ) (op : Op) (r : List ℕ) → operator n text ≡ read op r → Operates op text r
unfolding operator
operator_sound n [] op r h = absurd (grind (arith, h))
operator_sound n (c ∷ cs) op r h = by_tests (c == 61) refl (c == 33) refl (c == 60) refl (c == 62) refl
  where
    last_two : Bool → Bool → Found Op
    last_two x y = if x then with_equals Less AtMost cs else (if y then with_equals More AtLeast cs else stuck n (c ∷ cs))

    all_four : Bool → Bool → Bool → Bool → Found Op
    all_four a b x y = if a then and_then (byte n 61 cs) (λ _ rest. read Same rest) else (if b then and_then (byte n 61 cs) (λ _ rest. read Differs rest) else last_two x y)

    turned : (a b x y : Bool) → (c == 61) ≡ a → (c == 33) ≡ b → (c == 60) ≡ x → (c == 62) ≡ y → all_four a b x y ≡ read op r
    turned a b x y e f g k =
        sym (ap (λ z. all_four z (c == 33) (c == 60) (c == 62)) e ∙ ap (λ z. all_four a z (c == 60) (c == 62)) f ∙ ap (λ z. all_four a b z (c == 62)) g ∙ ap (all_four a b x) k) ∙ h

    by_tests : (a : Bool) → (c == 61) ≡ a → (b : Bool) → (c == 33) ≡ b → (x : Bool) → (c == 60) ≡ x → (y : Bool) → (c == 62) ≡ y → Operates op (c ∷ cs) r
    by_tests true e b f x g y k =
        let sign : c ≡ 61 = grind (arith, e) in
        subst (λ z. Operates op (z ∷ cs) r) (sym sign) (twice_sound n 61 Same cs op r (λ q. refl) (turned true b x y e f g k))
    by_tests false e true f x g y k =
        let sign : c ≡ 33 = grind (arith, f) in
        subst (λ z. Operates op (z ∷ cs) r) (sym sign) (twice_sound n 33 Differs cs op r (λ q. refl) (turned false true x y e f g k))
    by_tests false e false f true g y k =
        let sign : c ≡ 60 = grind (arith, g) in
        subst (λ z. Operates op (z ∷ cs) r) (sym sign) (with_sound 60 Less AtMost (λ q none. (refl, none)) (λ q. refl) cs op r (turned false false true y e f g k))
    by_tests false e false f false g true k =
        let sign : c ≡ 62 = grind (arith, k) in
        subst (λ z. Operates op (z ∷ cs) r) (sym sign) (with_sound 62 More AtLeast (λ q none. (refl, none)) (λ q. refl) cs op r (turned false false false true e f g k))
    by_tests false e false f false g false k =
        let none = turned false false false false e f g k in absurd (grind (arith, none))

pub with_none : (short long : Op) (r : List ℕ) → no_equals r ≡ true → with_equals short long r ≡ read short r
with_none short long [] h = refl
with_none short long (c ∷ cs) h = by_test (c == 61) refl
  where
    by_test : (b : Bool) → (c == 61) ≡ b → with_equals short long (c ∷ cs) ≡ read short (c ∷ cs)
    by_test true e = let k : false ≡ true = sym (ap (λ b. if b then false else true) e) ∙ h in absurd (grind (arith, k))
    by_test false e = ap (λ b. if b then read long cs else read short (c ∷ cs)) e

operator_complete : (n : ℕ) (op : Op) (text r : List ℕ) → Operates op text r → (operator n text ≡ read op r) × (after_blanks text ≡ text)
unfolding operator
operator_complete n Same text r h = (ap (operator n) h ∙ refl, ap after_blanks h ∙ sym h)
operator_complete n Differs text r h = (ap (operator n) h ∙ refl, ap after_blanks h ∙ sym h)
operator_complete n Less text r h = (ap (operator n) h.0 ∙ with_none Less AtMost r h.1, ap after_blanks h.0 ∙ sym h.0)
operator_complete n AtMost text r h = (ap (operator n) h ∙ refl, ap after_blanks h ∙ sym h)
operator_complete n More text r h = (ap (operator n) h.0 ∙ with_none More AtLeast r h.1, ap after_blanks h.0 ∙ sym h.0)
operator_complete n AtLeast text r h = (ap (operator n) h ∙ refl, ap after_blanks h ∙ sym h)

compared_sound : (n levels : ℕ) (at : List ℕ) (left : Term) (op : Op) (right : Head) (text u v x y end : List ℕ) (t : CondTree) (r : List ℕ)
    → Valued n left text u → Blanks u v → Operates op v x → Blanks x y → Headed n right y end → compared n at left op right end ≡ read t r → Atom n levels t text r
compared_sound n levels at left op (Asked s f) text u v x y end t r a b c d e h = absurd (grind (arith, h))
compared_sound n levels at left op (Value right) text u v x y end t r a b c d e h = by_test (clash left op right) refl
  where
    by_test : (z : Bool) → clash left op right ≡ z → Atom n levels t text r
    by_test true k =
        let m : fault (TypeClash (place n at)) ≡ read t r = sym (ap (λ z. if z then fault (TypeClash (place n at)) else read (compare left op right) end) k) ∙ h in absurd (grind (arith, m))
    by_test false k =
        let m : read (compare left op right) end ≡ read t r = sym (ap (λ z. if z then fault (TypeClash (place n at)) else read (compare left op right) end) k) ∙ h in
        let what : compare left op right ≡ t = grind (arith, m) in
        let last : end ≡ r = grind (arith, m) in
        subst (λ z. Atom n levels z text r) what (u, v, x, y, a, b, c, d, subst (Valued n right y) last e, k)

comparison_sound : (n levels : ℕ) (left : Term) (text u : List ℕ) (t : CondTree) (r : List ℕ) → Valued n left text u → comparison n left u ≡ read t r → Atom n levels t text r
unfolding comparison
comparison_sound n levels left text u t r valued h =
    let a = then_back (operator n (after_blanks u)) _ t r h in
    let b = then_back (head n false (after_blanks a.1)) (compared n (after_blanks u) left a.0) t r a.3 in
    compared_sound n levels (after_blanks u) left a.0 b.0 text u (after_blanks u) a.1 (after_blanks a.1) b.1 t r
    valued (blanks_of u) (operator_sound n (after_blanks u) a.0 a.1 a.2) (blanks_of a.1) (head_sound n false (after_blanks a.1) b.0 b.1 b.2) b.3

compared_complete : (n levels : ℕ) (left : Term) (op : Op) (right : Term) (text r : List ℕ) → Compared n left op right text r → atom n levels text ≡ read (compare left op right) r
unfolding atom comparison
compared_complete n levels left op right text r (u, v, x, y, valued, blanks, operates, more, other, fits) =
    let sign = operator_complete n op v x operates in
    then_read (head n true text) (atom_of n levels) (Value left) u (read (compare left op right) r) (value_complete n true left text u valued)
    (then_read (operator n (after_blanks u)) _ op x (read (compare left op right) r) (ap (operator n) (skipped u v blanks ∙ sign.1) ∙ sign.0)
    (then_read (head n false (after_blanks x)) (compared n (after_blanks u) left op) (Value right) r (read (compare left op right) r)
    (ap (head n false) (skipped x y more ∙ value_stays n right y r other) ∙ value_complete n false right y r other)
    (ap (λ z. if z then fault (TypeClash (place n (after_blanks u))) else read (compare left op right) r) fits)))

-- ---- both

atom_of_sound : (n levels : ℕ) (h : Head) (text u : List ℕ) (t : CondTree) (r : List ℕ) → Headed n h text u → atom_of n levels h u ≡ read t r → Atom n levels t text r
atom_of_sound n levels (Value left) text u t r k e = comparison_sound n levels left text u t r k e
atom_of_sound n levels (Asked s f) text u t r k e = called_sound n levels s f text u t r k e

pub atom_sound : (n levels : ℕ) (text : List ℕ) (t : CondTree) (r : List ℕ) → atom n levels text ≡ read t r → Atom n levels t text r
unfolding atom
atom_sound n levels text t r h =
    let first = then_back (head n true text) (atom_of n levels) t r h in
    atom_of_sound n levels first.0 text first.1 t r (head_sound n true text first.0 first.1 first.2) first.3

pub atom_complete : (n levels : ℕ) (t : CondTree) (text r : List ℕ) → Atom n levels t text r → atom n levels text ≡ read t r
atom_complete n levels (call s f signs) text r h = called_complete n levels s f signs text r h
atom_complete n levels (compare left op right) text r h = compared_complete n levels left op right text r h
atom_complete n levels (any ts) text r h = absurd h
atom_complete n levels (all ts) text r h = absurd h
atom_complete n levels (negated t) text r h = absurd h

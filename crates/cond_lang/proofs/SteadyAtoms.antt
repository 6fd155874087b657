-- Values and operators are steady.
use Rattle.std.proofs.Common.{◌≡◌, ◌⊎◌, inl, inr, ℕ, Bool, true, false, ◌==◌, if◌then◌else◌, List, [], ◌∷◌, refl, sym, ◌∙◌, ap, subst}
use Rattle.cond_lang.specs.declared.error.CondError.TheVariants.{Bad}
use Rattle.cond_lang.specs.declared.terms.Op.{Op}
use Rattle.cond_lang.specs.declared.terms.Op.TheVariants.{Same, Differs, Less, AtMost, More, AtLeast}
use Rattle.cond_lang.specs.declared.terms.Term.TheVariants.{Text, Length}
use Rattle.cond_lang.specs.declared.values.Head.{Head}
use Rattle.cond_lang.specs.declared.values.Head.TheVariants.{Value}
use Rattle.cond_lang.specs.Found.{Found, read, fault, stuck}
use Rattle.cond_lang.specs.Signs.{quoted}
use Rattle.cond_lang.specs.Values.{begins_number, head, with_equals, operator}
use Rattle.cond_lang.specs.Atoms.{no_equals}
use Rattle.cond_lang.proofs.Steps.{then_read}
use Rattle.cond_lang.proofs.Atoms.{quoted_complete, with_none}
use Rattle.cond_lang.proofs.Follows.{EndsValue, Begins, Anything}
use Rattle.cond_lang.proofs.Steady.{Reader, Next, KeptAt, both, OpensTo, Steady}
use Rattle.cond_lang.proofs.SteadyForms.{no_fault, read_rest, read_value, Eating, map_eating, Chosen, StuckWith, chosen_as, choice_eating}
use Rattle.cond_lang.proofs.SteadySigns.{sign_for, sign_for_eating, chosen_behind}
use Rattle.cond_lang.proofs.SteadyValues.{NoEquals, Spoilt, Fits, equals_same, value_no_name, empty_utf8, members, texts, lengths, member_eating, quoted_eating, measure_eating}

abbrev pub heads : Bool → Reader Head
heads calls e u = head e.0 calls u

-- behind the first quote
abbrev text_values : Reader Head
text_values = both texts (λ text e u. read (Value (Text text)) u)

abbrev length_values : Reader Head
length_values = both lengths (λ nm e u. read (Value (Length nm)) u)

abbrev pub operators : Reader Op
operators e u = operator e.0 u

-- behind an operator that may be longer
abbrev ordered : Op → Op → Reader Op
ordered short long e u = with_equals short long u

short_kept : (short long : Op) (u : List ℕ) (op : Op) (r : List ℕ) → no_equals u ≡ true → read short u ≡ read op r → KeptAt (ordered short long) NoEquals u op r
short_kept short long u op r none h = (
  [],
  read_rest short op u r h,
  λ d z next.
      with_none short long z (ends z (subst (λ y. Next NoEquals y z) (sym (read_rest short op u r h)) next)) ∙ ap (λ y. read y z) (read_value short op u r h),
)
  where
    ends : (z : List ℕ) → Next NoEquals u z → no_equals z ≡ true
    ends z (inl e) = e
    ends z (inr e) = equals_same u z e ∙ none

ordered_kept : (short long : Op) (u : List ℕ) (op : Op) (r : List ℕ) → with_equals short long u ≡ read op r → KeptAt (ordered short long) NoEquals u op r
ordered_kept short long [] op r h = short_kept short long [] op r refl h
ordered_kept short long (c ∷ cs) op r h = by (c == 61) refl
  where
    by : (x : Bool) → (c == 61) ≡ x → KeptAt (ordered short long) NoEquals (c ∷ cs) op r
    by false f = short_kept short long (c ∷ cs) op r (ap (λ x. if x then false else true) f) (sym (ap (λ x. if x then read long cs else read short (c ∷ cs)) f) ∙ h)
    by true f =
        let i : read long cs ≡ read op r = sym (ap (λ x. if x then read long cs else read short (c ∷ cs)) f) ∙ h in (
          c ∷ [],
          ap (λ y. c ∷ y) (read_rest long op cs r i),
          λ d z next.
              ap (λ x. if x then read long z else read short (c ∷ z)) f ∙ ap (λ y. read y z) (read_value long op cs r i),
        )

ordered_never_bad : {Z : Type 0} (short long : Op) (u : List ℕ) (k : ℕ) → with_equals short long u ≡ fault (Bad k) → Z
ordered_never_bad short long [] k h = no_fault (Bad k) short [] h
ordered_never_bad short long (c ∷ cs) k h = by (c == 61) refl
  where
    by : {Z : Type 0} (x : Bool) → (c == 61) ≡ x → Z
    by true f = no_fault (Bad k) long cs (sym (ap (λ x. if x then read long cs else read short (c ∷ cs)) f) ∙ h)
    by false f = no_fault (Bad k) short (c ∷ cs) (sym (ap (λ x. if x then read long cs else read short (c ∷ cs)) f) ∙ h)

module _ {X : Type 0} (P : Found X → Type 0) where
  -- ---- values

  module _ (calls : Bool) where
    text_eating : Eating P Spoilt text_values (Fits calls) Anything (Begins 39)
    text_eating = map_eating P Spoilt (λ text. Value (Text text)) (quoted_eating P) (λ text q. tt)

    length_eating : Eating P Spoilt length_values (Fits calls) EndsValue (Begins 48)
    length_eating = map_eating P Spoilt (λ nm. Value (Length nm)) (measure_eating P) (λ nm q. tt)

    head_choice : (c : ℕ) → Chosen P Spoilt (heads calls) (Fits calls) EndsValue c ⊎ StuckWith P Spoilt (heads calls) c
    unfolding head
    head_choice c = inl (by (c == 39) refl (begins_number c) refl)
      where
        at : (e : ℕ × List ℕ) (cs : List ℕ) → Bool → Bool → Found Head
        at e cs x y = if x then text_values e cs else (if y then length_values e (c ∷ cs) else members calls e (c ∷ cs))

        by : (x : Bool) → (c == 39) ≡ x → (y : Bool) → begins_number c ≡ y → Chosen P Spoilt (heads calls) (Fits calls) EndsValue c
        by true f y g = chosen_behind P Spoilt 39 f text_eating.steady (λ z h. tt) (λ e cs. ap (λ x. at e cs x (begins_number c)) f)
        by false f true g = chosen_as P Spoilt length_eating (λ z h. h) (λ e cs. ap (λ x. at e cs x (begins_number c)) f ∙ ap (at e cs false) g)
        by false f false g = chosen_as P Spoilt (member_eating P calls) value_no_name (λ e cs. ap (λ x. at e cs x (begins_number c)) f ∙ ap (at e cs false) g)

    pub head_eating : Eating P Spoilt (heads calls) (Fits calls) EndsValue (Begins 39)
    unfolding head
    head_eating = choice_eating P Spoilt (λ e. refl) head_choice opens
      where
        opens : OpensTo P Spoilt (heads calls) (Fits calls) EndsValue (Begins 39)
        opens K ends =
            let o = ends (Value (Text [])) tt in (
              39 ∷ 39 ∷ o.0,
              (39 ∷ o.0, refl),
              λ e. subst P (sym (then_read (head e.0 calls (39 ∷ 39 ∷ o.0)) (K e) (Value (Text [])) o.0 _
                  (then_read (quoted e.0 (39 ∷ o.0)) (λ text rest. read (Value (Text text)) rest) [] o.0 _ (quoted_complete e.0 [] o.0 tt empty_utf8) refl) refl)) (o.2 e),
            )

  -- ---- operators

  ordered_steady : (short long : Op) → Steady P Spoilt (ordered short long) Anything NoEquals NoEquals
  ordered_steady short long = record {
    reads = λ e u a r h. tt;
    kept = λ e u a r h. ordered_kept short long u a r h;
    barred = λ e u k h. ordered_never_bad short long u k h;
    opens = λ K ends. let o = ends short tt in (o.0, o.1, λ e. subst P (sym (then_read (with_equals short long o.0) (K e) short o.0 _ (with_none short long o.0 o.1) refl)) (o.2 e));
  }

  operator_choice : (c : ℕ) → Chosen P Spoilt operators Anything NoEquals c ⊎ StuckWith P Spoilt operators c
  unfolding operator
  operator_choice c = by (c == 61) refl (c == 33) refl (c == 60) refl (c == 62) refl
    where
      at : (e : ℕ × List ℕ) (cs : List ℕ) → Bool → Bool → Bool → Bool → Found Op
      at e cs a b x y =
          if a then sign_for 61 Same e cs else (if b then sign_for 61 Differs e cs else (if x then with_equals Less AtMost cs else (if y then with_equals More AtLeast cs else stuck e.0 (c ∷ cs))))

      turned : (a b x y : Bool) → (c == 61) ≡ a → (c == 33) ≡ b → (c == 60) ≡ x → (c == 62) ≡ y → (e : ℕ × List ℕ) (cs : List ℕ) → operators e (c ∷ cs) ≡ at e cs a b x y
      turned a b x y f g h k e cs = ap (λ z. at e cs z (c == 33) (c == 60) (c == 62)) f ∙ ap (λ z. at e cs a z (c == 60) (c == 62)) g ∙ ap (λ z. at e cs a b z (c == 62)) h ∙ ap (at e cs a b x) k

      by : (a : Bool) → (c == 61) ≡ a → (b : Bool) → (c == 33) ≡ b → (x : Bool) → (c == 60) ≡ x → (y : Bool) → (c == 62) ≡ y
          → Chosen P Spoilt operators Anything NoEquals c ⊎ StuckWith P Spoilt operators c
      by true f b g x h y k = inl (chosen_behind P Spoilt 61 f (sign_for_eating P Spoilt 61 Same).steady (λ z h. tt) (turned true b x y f g h k))
      by false f true g x h y k = inl (chosen_behind P Spoilt 33 g (sign_for_eating P Spoilt 61 Differs).steady (λ z h. tt) (turned false true x y f g h k))
      by false f false g true h y k = inl (chosen_behind P Spoilt 60 h (ordered_steady Less AtMost) (λ z h. h) (turned false false true y f g h k))
      by false f false g false h true k = inl (chosen_behind P Spoilt 62 k (ordered_steady More AtLeast) (λ z h. h) (turned false false false true f g h k))
      by false f false g false h false k = inr (turned false false false false f g h k)

  pub operator_eating : Eating P Spoilt operators Anything NoEquals (Begins 61)
  unfolding operator
  operator_eating = choice_eating P Spoilt (λ e. refl) operator_choice (λ K ends. let o = ends Same tt in (61 ∷ 61 ∷ o.0, (61 ∷ o.0, refl), λ e. o.2 e))

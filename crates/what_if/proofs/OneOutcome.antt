-- Commands have one outcome, each of them alone has one count, and there is one survey.
use Rattle.std.proofs.Common.{◌≡◌, ℕ, zero, suc, ◌<◌, List, [], ◌∷◌, length, Option, None, Some, Result, Ok, Err, refl, sym, ap, subst, ◌∙◌, arith}
use Rattle.std.specs.List.{AllZip}
use Rattle.edit_script.specs.Commands.{PlainCommand}
use Rattle.pair_check.specs.PlainRow.{PlainRow}
use Rattle.pair_check.specs.Rows.{Checked, IsRow, AreRows}
use Rattle.row_check.proofs.OneList.{one_list_where}
use Rattle.drc_state.specs.declared.error.EditError.{EditError}
use Rattle.drc_state.specs.States.{State, checked_in}
use Rattle.drc_state.specs.CommandSteps.{Answers}
use Rattle.what_if.specs.Trials.{LeadTo, StopsAt, IsDifference, IsCount, IsFirstLeast, IsLeast, IsSurvey}
use Rattle.what_if.proofs.Stopping.{Stops, stops}

-- ---- rows

pub one_difference : (before after : State) (come others gone lost : List PlainRow) → IsDifference before after come gone → IsDifference before after others lost → (come ≡ others) × (gone ≡ lost)
one_difference before after come others gone lost d e = (
  one_list_where (λ row. IsRow (checked_in after) row × ¬ (IsRow (checked_in before) row)) come others d.come_are e.come_are,
  one_list_where (λ row. IsRow (checked_in before) row × ¬ (IsRow (checked_in after) row)) gone lost d.gone_are e.gone_are,
)

-- ---- the least

not_apart : (p q : ℕ) → (p < q → ⊥) → (q < p → ⊥) → p ≡ q
not_apart zero zero f g = refl
not_apart zero (suc q) f g = absurd (f (omega arith))
not_apart (suc p) zero f g = absurd (g (omega arith))
not_apart (suc p) (suc q) f g = ap suc (not_apart p q (λ h. f (omega (arith, h))) (λ h. g (omega (arith, h))))

-- a place before the first of the least has a greater count
later : (counts : List (Option ℕ)) (p q m n : ℕ) → IsFirstLeast counts p m → IsFirstLeast counts q n → p < q → ⊥
later counts p q m n f g lt = let more = g.none_before p m lt f.stands in let least = f.least q n g.stands in omega (arith, more, least)

pub one_least : (counts : List (Option ℕ)) (a b : Option ℕ) → IsLeast counts a → IsLeast counts b → a ≡ b
one_least counts None None f g = refl
one_least counts None (Some q) f g = absurd (f q g.0 g.1.stands)
one_least counts (Some p) None f g = absurd (g p f.0 f.1.stands)
one_least counts (Some p) (Some q) f g = ap Some (not_apart p q (later counts p q f.0 g.0 f.1 g.1) (later counts q p g.0 f.0 g.1 f.1))

-- ---- one after another

module _ (one_answer : (s : State) (command : PlainCommand) (a b : Result State EditError) → Answers s command a → Answers s command b → a ≡ b) where
  -- a command leads to one state, is refused for one reason, and not both
  same_next : (s : State) (command : PlainCommand) (a b : State) → Answers s command (Ok a) → Answers s command (Ok b) → a ≡ b
  same_next s command a b h k = let e = one_answer s command (Ok a) (Ok b) h k in cc

  same_why : (s : State) (command : PlainCommand) (a b : EditError) → Answers s command (Err a) → Answers s command (Err b) → a ≡ b
  same_why s command a b h k = let e = one_answer s command (Err a) (Err b) h k in cc

  not_both : (s : State) (command : PlainCommand) (a : State) (why : EditError) → Answers s command (Ok a) → Answers s command (Err why) → ⊥
  not_both s command a why h k = let e = one_answer s command (Ok a) (Err why) h k in absurd cc

  pub one_last : (s : State) (commands : List PlainCommand) (a b : State) → LeadTo s commands a → LeadTo s commands b → a ≡ b
  one_last s [] a b h k = h ∙ sym k
  one_last s (c ∷ cs) a b h k =
      let e : k.0 ≡ h.0 = same_next s c k.0 h.0 k.1 h.1 in
      one_last h.0 cs a b h.2 (subst (λ (x : State). LeadTo x cs b) e k.2)

  stops_once : (s : State) (commands : List PlainCommand) (a b : ℕ) (why other : EditError) → Stops s commands a why → Stops s commands b other → (a ≡ b) × (why ≡ other)
  stops_once s [] a b why other h k = absurd h
  stops_once s (c ∷ cs) zero zero why other h k = (refl, same_why s c why other h k)
  stops_once s (c ∷ cs) zero (suc b) why other h k = absurd (not_both s c k.0 why k.1 h)
  stops_once s (c ∷ cs) (suc a) zero why other h k = absurd (not_both s c h.0 other h.1 k)
  stops_once s (c ∷ cs) (suc a) (suc b) why other h k =
      let e : k.0 ≡ h.0 = same_next s c k.0 h.0 k.1 h.1 in
      let rest = stops_once h.0 cs a b why other h.2 (subst (λ (x : State). Stops x cs b other) e k.2) in
      (ap suc rest.0, rest.1)

  pub one_stop : (s : State) (commands : List PlainCommand) (a b : ℕ) (why other : EditError) → StopsAt s commands a why → StopsAt s commands b other → (a ≡ b) × (why ≡ other)
  one_stop s commands a b why other h k = stops_once s commands a b why other (stops s commands a why h) (stops s commands b other k)

  goes_on : (s : State) (commands : List PlainCommand) (last : State) (place : ℕ) (why : EditError) → LeadTo s commands last → Stops s commands place why → ⊥
  goes_on s [] last place why led h = h
  goes_on s (c ∷ cs) last zero why led h = not_both s c led.0 why led.1 h
  goes_on s (c ∷ cs) last (suc place) why led h =
      let e : h.0 ≡ led.0 = same_next s c h.0 led.0 h.1 led.1 in
      goes_on led.0 cs last place why led.2 (subst (λ (x : State). Stops x cs place why) e h.2)

  pub one_or_other : (s : State) (commands : List PlainCommand) (last : State) (place : ℕ) (why : EditError) → LeadTo s commands last → StopsAt s commands place why → ⊥
  one_or_other s commands last place why led at = goes_on s commands last place why led (stops s commands place why at)

  -- ---- each alone

  module _ (one_list : (c : Checked) (a b : List PlainRow) → AreRows c a → AreRows c b → a ≡ b) where
    one_count : (s : State) (command : PlainCommand) (a b : Option ℕ) → IsCount s command a → IsCount s command b → a ≡ b
    one_count s command None None h k = refl
    one_count s command None (Some n) h k = absurd (not_both s command k.0 h.0 k.2 h.1)
    one_count s command (Some m) None h k = absurd (not_both s command h.0 k.0 h.2 k.1)
    one_count s command (Some m) (Some n) h k =
        let e : k.0 ≡ h.0 = same_next s command k.0 h.0 k.2 h.2 in
        let rows = one_list (checked_in h.0) h.1 k.1 h.3 (subst (λ (x : State). AreRows (checked_in x) k.1) e k.3) in
        ap Some (h.4 ∙ ap length rows ∙ sym k.4)

    one_counts : (s : State) (commands : List PlainCommand) (counts others : List (Option ℕ)) → AllZip (IsCount s) commands counts → AllZip (IsCount s) commands others → counts ≡ others
    one_counts s [] [] [] h k = refl
    one_counts s [] [] (y ∷ ys) h k = absurd k
    one_counts s [] (x ∷ xs) others h k = absurd h
    one_counts s (c ∷ cs) [] others h k = absurd h
    one_counts s (c ∷ cs) (x ∷ xs) [] h k = absurd k
    one_counts s (c ∷ cs) (x ∷ xs) (y ∷ ys) h k = ap (λ z. z ∷ xs) (one_count s c x y h.0 k.0) ∙ ap (λ zs. y ∷ zs) (one_counts s cs xs ys h.1 k.1)

    pub one_survey : (s : State) (commands : List PlainCommand) (counts others : List (Option ℕ)) (least other : Option ℕ) → IsSurvey s commands counts least → IsSurvey s commands others other → (counts ≡ others) × (least ≡ other)
    one_survey s commands counts others least other h k =
        let e = one_counts s commands counts others h.each k.each in
        (e, one_least others least other (subst (λ (cs : List (Option ℕ)). IsLeast cs least) e h.least_is) k.least_is)

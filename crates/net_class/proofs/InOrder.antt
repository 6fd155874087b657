-- The walk over the entries keeps what they give in their order, and of each name the first.
use Rattle.std.proofs.Common.{◌≡◌, ℕ, ℤ, refl, sym, ◌∙◌, ap, subst, List, [], ◌∷◌, ◌++◌, append_assoc, append-nil, Bool, true, false, not, cond, ◌&&◌, Option, Some, None, is_some, bytes_eq, Result, Ok, Err}
use Rattle.std.specs.Prelude.{filter, find, codes, option_map, option_and_then, if◌then◌else◌}
use Rattle.std.specs.List.{cons_option}
use Rattle.std.proofs.lemmas.Slice.Eq.{bytes_eq-Decides}
use Rattle.json_exact.specs.Json.{Json}
use Rattle.net_class.specs.declared.error.ProjectError.{ProjectError}
use Rattle.net_class.specs.NetClasses.{PlainPattern}
use Rattle.net_class.specs.ClassesOf.{Written, is_named, class_in, firsts, pattern_in}
use Rattle.net_class.specs.ProjectMembers.{◌>>=◌, each_in, entry_of, text_in, length_in}
use Rattle.net_class.specs.ProjectWalk.{with_written, with_class, with_classes, with_texts, with_pattern, with_patterns}
use Rattle.net_class.proofs.Named.{find_last}

-- what passes two tests passes the one that stands for both
both_tests : {A : Type 0} → (p q r : A → Bool) → ((x : A) → r x ≡ (q x && p x)) → (xs : List A) → filter p (filter q xs) ≡ filter r xs
both_tests p q r h [] = refl
both_tests p q r h (x ∷ xs) =
    rw (h x) (elim (q x) as (λ b. filter p (cond b (x ∷ filter q xs) (filter q xs)) ≡ cond (b && p x) (x ∷ filter r xs) (filter r xs))
    [ true ↦ ap (λ l. cond (p x) (x ∷ l) l) (both_tests p q r h xs) | false ↦ both_tests p q r h xs ])

-- ---- classes

abbrev kept : List Written → Option Written → List Written
kept before None = before
kept before (Some w) = if is_some (find (is_named w.name) before) then before else before ++ w ∷ []

with_name : (before : List Written) (name : Option (List ℕ)) (clearance : Option ℤ) → with_written before name clearance ≡ kept before (option_map (λ n. record { name = n; clearance = clearance }) name)
unfolding with_written
with_name before None clearance = refl
with_name before (Some name) clearance = refl

one_class : (before : List Written) (v : Json) → with_class before v ≡ (class_in v >>= λ w. Ok (kept before w))
unfolding with_class class_in
one_class before v = by (entry_of v)
  where
    by_clearance : (name : Option (List ℕ)) (r : Result (Option ℤ) ProjectError)
        → (r >>= λ clearance. Ok (with_written before name clearance)) ≡ ((r >>= λ clearance. Ok (option_map (λ n. record { name = n; clearance = clearance }) name)) >>= λ w. Ok (kept before w))
    by_clearance name (Err e) = refl
    by_clearance name (Ok clearance) = ap (λ (l : List Written). Ok l) (with_name before name clearance)

    by_name : (object : Option Json) (r : Result (Option (List ℕ)) ProjectError)
        → (r >>= λ name. length_in (codes "clearance") object >>= λ clearance. Ok (with_written before name clearance)) ≡ ((r >>= λ name. length_in (codes "clearance") object >>= λ clearance. Ok (option_map (λ n. record { name = n; clearance = clearance }) name)) >>= λ w. Ok (kept before w))
    by_name object (Err e) = refl
    by_name object (Ok name) = by_clearance name (length_in (codes "clearance") object)

    by : (r : Result (Option Json) ProjectError)
        → (r >>= λ object. text_in (codes "name") object >>= λ name. length_in (codes "clearance") object >>= λ clearance. Ok (with_written before name clearance)) ≡ ((r >>= λ object. text_in (codes "name") object >>= λ name. length_in (codes "clearance") object >>= λ clearance. Ok (option_map (λ n. record { name = n; clearance = clearance }) name)) >>= λ w. Ok (kept before w))
    by (Err e) = refl
    by (Ok object) = by_name object (text_in (codes "name") object)

abbrev is_new : List Written → Written → Bool
is_new before x = not (is_some (find (is_named x.name) before))

abbrev other_name : Written → Written → Bool
other_name w x = not (is_named x.name w)

abbrev behind : List Written → List Written → List Written
behind before ws = before ++ filter (is_new before) ws

known_again : (before : List Written) (w : Written) → is_some (find (is_named w.name) before) ≡ true → (x : Written) → is_new before x ≡ (other_name w x && is_new before x)
known_again before w h x = by (bytes_eq w.name x.name) refl
  where
    by : (b : Bool) → bytes_eq w.name x.name ≡ b → is_new before x ≡ (not b && is_new before x)
    by true e = ap not (subst (λ (n : List ℕ). is_some (find (is_named n) before) ≡ true) ((bytes_eq-Decides w.name x.name).0 e) h)
    by false e = refl

new_again : (before : List Written) (w x : Written) → is_new (before ++ w ∷ []) x ≡ (other_name w x && is_new before x)
new_again before w x = ap not (find_last (is_named x.name) before w) ∙ by (is_named x.name w) (is_some (find (is_named x.name) before))
  where
    by : (a b : Bool) → not (cond a true b) ≡ (not a && not b)
    by true b = refl
    by false b = refl

more : (before ws : List Written) (w : Written) → behind (kept before (Some w)) (firsts ws) ≡ behind before (firsts (w ∷ ws))
more before ws w = by (is_some (find (is_named w.name) before)) refl
  where
    by : (b : Bool) → is_some (find (is_named w.name) before) ≡ b
        → behind (if b then before else before ++ w ∷ []) (firsts ws) ≡ before ++ cond (not b) (w ∷ filter (is_new before) (filter (other_name w) (firsts ws))) (filter (is_new before) (filter (other_name w) (firsts ws)))
    by true e = ap (λ (l : List Written). before ++ l) (sym (both_tests (is_new before) (other_name w) (is_new before) (known_again before w e) (firsts ws)))
    by false e =
        append_assoc before (w ∷ []) (filter (is_new (before ++ w ∷ [])) (firsts ws))
        ∙ ap (λ (l : List Written). before ++ w ∷ l) (sym (both_tests (is_new before) (other_name w) (is_new (before ++ w ∷ [])) (new_again before w) (firsts ws)))

abbrev AllClasses : List Json → Type 0
AllClasses vs = (before : List Written) → with_classes before vs ≡ (each_in class_in vs >>= λ ws. Ok (behind before (firsts ws)))

all_classes : (vs : List Json) → AllClasses vs
all_classes [] before = ap (λ (l : List Written). Ok l) (sym (append-nil before))
all_classes (v ∷ vs) before = ap (λ (r : Result (List Written) ProjectError). r >>= λ ws. with_classes ws vs) (one_class before v) ∙ by (all_classes vs) (class_in v)
  where
    by_rest : (o : Option Written) (r : Result (List Written) ProjectError)
        → (r >>= λ ws. Ok (behind (kept before o) (firsts ws))) ≡ ((r >>= λ ws. Ok (cons_option o ws)) >>= λ ws. Ok (behind before (firsts ws)))
    by_rest o (Err e) = refl
    by_rest None (Ok ws) = refl
    by_rest (Some w) (Ok ws) = ap (λ (l : List Written). Ok l) (more before ws w)

    by : AllClasses vs → (r : Result (Option Written) ProjectError)
        → ((r >>= λ w. Ok (kept before w)) >>= λ ws. with_classes ws vs) ≡ ((r >>= λ w. each_in class_in vs >>= λ ws. Ok (cons_option w ws)) >>= λ ws. Ok (behind before (firsts ws)))
    by h (Err e) = refl
    by h (Ok o) = h (kept before o) ∙ by_rest o (each_in class_in vs)

all_new : (ws : List Written) → filter (is_new []) ws ≡ ws
all_new [] = refl
all_new (w ∷ ws) = ap (λ (l : List Written). w ∷ l) (all_new ws)

pub classes_in_order : (vs : List Json) → with_classes [] vs ≡ (each_in class_in vs >>= λ ws. Ok (firsts ws))
classes_in_order vs = all_classes vs [] ∙ by (each_in class_in vs)
  where
    by : (r : Result (List Written) ProjectError) → (r >>= λ ws. Ok (behind [] (firsts ws))) ≡ (r >>= λ ws. Ok (firsts ws))
    by (Err e) = refl
    by (Ok ws) = ap (λ (l : List Written). Ok l) (all_new (firsts ws))

-- ---- patterns

abbrev pattern_from : Option (List ℕ) → Option (List ℕ) → Option PlainPattern
pattern_from class pattern = option_and_then (λ c. option_map (λ p. record { class = c; pattern = p }) pattern) class

with_both : (before : List PlainPattern) (class pattern : Option (List ℕ)) (after : List PlainPattern) → with_texts before class pattern ++ after ≡ before ++ cons_option (pattern_from class pattern) after
with_both before None pattern after = refl
with_both before (Some class) None after = refl
with_both before (Some class) (Some pattern) after = append_assoc before (record { class = class; pattern = pattern } ∷ []) after

abbrev followed : List PlainPattern → Result (List PlainPattern) ProjectError → Result (List PlainPattern) ProjectError
followed before r = r >>= λ ps. Ok (before ++ ps)

abbrev AllPatterns : List Json → Type 0
AllPatterns vs = (before : List PlainPattern) → with_patterns before vs ≡ followed before (each_in pattern_in vs)

all_patterns : (vs : List Json) → AllPatterns vs
unfolding with_pattern pattern_in
all_patterns [] before = ap (λ (l : List PlainPattern). Ok l) (sym (append-nil before))
all_patterns (v ∷ vs) before = by (all_patterns vs) (entry_of v)
  where
    by_rest : (class pattern : Option (List ℕ)) (r : Result (List PlainPattern) ProjectError)
        → followed (with_texts before class pattern) r ≡ followed before (r >>= λ ps. Ok (cons_option (pattern_from class pattern) ps))
    by_rest class pattern (Err e) = refl
    by_rest class pattern (Ok ps) = ap (λ (l : List PlainPattern). Ok l) (with_both before class pattern ps)

    by_pattern : AllPatterns vs → (class : Option (List ℕ)) (r : Result (Option (List ℕ)) ProjectError)
        → ((r >>= λ pattern. Ok (with_texts before class pattern)) >>= λ ps. with_patterns ps vs) ≡ followed before ((r >>= λ pattern. Ok (pattern_from class pattern)) >>= λ p. each_in pattern_in vs >>= λ ps. Ok (cons_option p ps))
    by_pattern h class (Err e) = refl
    by_pattern h class (Ok pattern) = h (with_texts before class pattern) ∙ by_rest class pattern (each_in pattern_in vs)

    by_class : AllPatterns vs → (object : Option Json) (r : Result (Option (List ℕ)) ProjectError)
        → ((r >>= λ class. text_in (codes "pattern") object >>= λ pattern. Ok (with_texts before class pattern)) >>= λ ps. with_patterns ps vs) ≡ followed before ((r >>= λ class. text_in (codes "pattern") object >>= λ pattern. Ok (pattern_from class pattern)) >>= λ p. each_in pattern_in vs >>= λ ps. Ok (cons_option p ps))
    by_class h object (Err e) = refl
    by_class h object (Ok class) = by_pattern h class (text_in (codes "pattern") object)

    by : AllPatterns vs → (r : Result (Option Json) ProjectError)
        → ((r >>= λ object. text_in (codes "netclass") object >>= λ class. text_in (codes "pattern") object >>= λ pattern. Ok (with_texts before class pattern)) >>= λ ps. with_patterns ps vs) ≡ followed before ((r >>= λ object. text_in (codes "netclass") object >>= λ class. text_in (codes "pattern") object >>= λ pattern. Ok (pattern_from class pattern)) >>= λ p. each_in pattern_in vs >>= λ ps. Ok (cons_option p ps))
    by h (Err e) = refl
    by h (Ok object) = by_class h object (text_in (codes "netclass") object)

pub patterns_in_order : (vs : List Json) → with_patterns [] vs ≡ each_in pattern_in vs
patterns_in_order vs = all_patterns vs [] ∙ by (each_in pattern_in vs)
  where
    by : (r : Result (List PlainPattern) ProjectError) → followed [] r ≡ r
    by (Err e) = refl
    by (Ok ps) = refl

-- The pieces of a line that tells why something is refused.
use Rattle.std.proofs.Common.{◌≡◌, ◌∙◌, refl, sym, ap, ℕ, List, [], ◌∷◌, ◌++◌, append_assoc, append-nil, map, codes, decimal, Option, None, Some}
use Rattle.plain_types.specs.declared.reason.Cause.{Cause}
use Rattle.plain_types.specs.declared.reason.Causes.{Causes}
use Rattle.plain_types.specs.Reasons.{PlainCause, PlainReason, cause_before, listed_causes, pointed, names_of, numbers_of, written}
use Rattle.drc_state.specs.declared.error.EditError.{EditError}
use Rattle.undo_log.specs.declared.error.HistoryError.{HistoryError}
use Rattle.undo_log.specs.declared.error.HistoryError.TheVariants.{Edit, NothingToUndo, NothingToRedo, Stopped, OutOfMemory}
use Rattle.undo_log.specs.HistoryReasons.{step_reason}
use Rattle.run_texts.specs.declared.texts.Which.{Which}
use Rattle.run_texts.specs.NamedTexts.{word_of, inner_text, why_at, reason_text}
use Rattle.run_texts.specs.RunFindings.{plus_text, digits_text}
use Rattle.run_output.specs.declared.lines.Told.{Told}
use Rattle.run_output.specs.Output.{refusal}
use Rattle.run_output.specs.Reports.{step_told, refused_behind}
use Rattle.run_output.specs.Lines.{at_text, inner_behind, point_text, name_text, number_text, reason_told, reason_line}

grouped : (a b c : List ℕ) → a ++ (b ++ c) ≡ a ++ b ++ c
grouped a b c = simp append_assoc

-- ---- names and numbers, with points between them

-- texts, each behind a point
abbrev each_pointed : List (List ℕ) → List ℕ
each_pointed [] = []
each_pointed (text ∷ texts) = codes "." ++ (text ++ each_pointed texts)

all_pointed : (text : List ℕ) (texts : List (List ℕ)) → text ++ each_pointed texts ≡ pointed (text ∷ texts)
all_pointed text [] = append-nil text
all_pointed text (next ∷ texts) = grouped text (codes ".") (next ++ each_pointed texts) ∙ ap (λ (l : List ℕ). text ++ codes "." ++ l) (all_pointed next texts)

abbrev names : List PlainCause → List (List ℕ)
names causes = map (λ (c : PlainCause). c.name) causes

abbrev numbers : List PlainCause → List (List ℕ)
numbers causes = map (λ (c : PlainCause). decimal c.number) causes

next_name : (cause : Option Cause) (causes : List PlainCause) → point_text cause ++ (name_text cause ++ each_pointed (names causes)) ≡ each_pointed (names (cause_before cause causes))
next_name None causes = refl
next_name (Some cause) causes = refl

last_name : (cause : Option Cause) → point_text cause ++ name_text cause ≡ each_pointed (names (cause_before cause []))
last_name None = refl
last_name (Some cause) = ap (λ (l : List ℕ). codes "." ++ l) (sym (append-nil cause.name.now))

next_number : (cause : Option Cause) (causes : List PlainCause) → point_text cause ++ (number_text cause ++ each_pointed (numbers causes)) ≡ each_pointed (numbers (cause_before cause causes))
next_number None causes = refl
next_number (Some cause) causes = refl

last_number : (cause : Option Cause) → point_text cause ++ number_text cause ≡ each_pointed (numbers (cause_before cause []))
last_number None = refl
last_number (Some cause) = ap (λ (l : List ℕ). codes "." ++ l) (sym (append-nil (decimal cause.number)))

-- four texts, and the points between them
abbrev in_a_row : (first p second q third r fourth : List ℕ) → List ℕ
in_a_row first p second q third r fourth = first ++ (p ++ (second ++ (q ++ (third ++ (r ++ fourth)))))

module _ (c : Causes) where
  abbrev last_of : List PlainCause
  last_of = cause_before c.fourth []

  abbrev behind_second : List PlainCause
  behind_second = cause_before c.third last_of

  names_row : in_a_row c.first.name.now (point_text c.second) (name_text c.second) (point_text c.third) (name_text c.third) (point_text c.fourth) (name_text c.fourth) ≡ names_of (listed_causes c)
  names_row =
      ap (λ (l : List ℕ). c.first.name.now ++ (point_text c.second ++ (name_text c.second ++ (point_text c.third ++ (name_text c.third ++ l))))) (last_name c.fourth)
      ∙ (ap (λ (l : List ℕ). c.first.name.now ++ (point_text c.second ++ (name_text c.second ++ l))) (next_name c.third last_of)
      ∙ (ap (λ (l : List ℕ). c.first.name.now ++ l) (next_name c.second behind_second)
      ∙ all_pointed c.first.name.now (names (cause_before c.second behind_second))))

  numbers_row : in_a_row (decimal c.first.number) (point_text c.second) (number_text c.second) (point_text c.third) (number_text c.third) (point_text c.fourth) (number_text c.fourth) ≡ numbers_of (listed_causes c)
  numbers_row =
      ap (λ (l : List ℕ). decimal c.first.number ++ (point_text c.second ++ (number_text c.second ++ (point_text c.third ++ (number_text c.third ++ l))))) (last_number c.fourth)
      ∙ (ap (λ (l : List ℕ). decimal c.first.number ++ (point_text c.second ++ (number_text c.second ++ l))) (next_number c.third last_of)
      ∙ (ap (λ (l : List ℕ). decimal c.first.number ++ l) (next_number c.second behind_second)
      ∙ all_pointed (decimal c.first.number) (numbers (cause_before c.second behind_second))))

-- ---- places

two_pieces : (inner : Option ℕ) → plus_text inner ++ digits_text inner ≡ inner_text inner
two_pieces None = refl
two_pieces (Some inner) = refl

-- the places behind what is refused
abbrev placed : (place inner : Option ℕ) → List ℕ
placed place both = at_text place ++ (digits_text place ++ (plus_text both ++ digits_text both))

four_grouped : (r a d i : List ℕ) → r ++ (a ++ (d ++ i)) ≡ r ++ a ++ d ++ i
four_grouped r a d i = simp append_assoc

behind_reason : (why : List ℕ) (place inner : Option ℕ) → why ++ placed place (inner_behind place inner) ≡ why_at why place inner
behind_reason why None inner = append-nil why
behind_reason why (Some at) inner = ap (λ (l : List ℕ). why ++ (codes " at " ++ (decimal at ++ l))) (two_pieces inner) ∙ four_grouped why (codes " at ") (decimal at) (inner_text inner)

-- ---- the line

-- seven pieces, and more behind them
abbrev followed : (first p second q third r fourth more : List ℕ) → List ℕ
followed first p second q third r fourth more = first ++ (p ++ (second ++ (q ++ (third ++ (r ++ (fourth ++ more))))))

apart : (first p second q third r fourth more : List ℕ) → followed first p second q third r fourth more ≡ in_a_row first p second q third r fourth ++ more
apart first p second q third r fourth more = simp append_assoc

all_in_a_row : (a b n c names opens numbers closes at digits plus inner end : List ℕ)
    → a ++ (b ++ (n ++ (c ++ (names ++ (opens ++ (numbers ++ (closes ++ (at ++ (digits ++ (plus ++ (inner ++ end))))))))))) ≡ a ++ (b ++ n) ++ c ++ ((names ++ opens ++ numbers ++ closes) ++ (at ++ (digits ++ (plus ++ inner)))) ++ end
all_in_a_row a b n c names opens numbers closes at digits plus inner end = simp append_assoc

-- the pieces of the line
abbrev pub row : (prefix word digits behind name a second_name b third_name c fourth_name number d second e third f fourth at place plus inner : List ℕ) → List ℕ
row prefix word digits behind name a second_name b third_name c fourth_name number d second e third f fourth at place plus inner =
    prefix ++ (word ++ (digits ++ (behind ++ followed name a second_name b third_name c fourth_name
    (codes " (" ++ followed number d second e third f fourth (codes ")" ++ (at ++ (place ++ (plus ++ (inner ++ codes "\n")))))))))

abbrev pub row_of : (prefix word digits behind : List ℕ) → Told → List ℕ
row_of prefix word digits behind told =
    let c = told.causes in
    let both = inner_behind told.place told.inner in
    row prefix word digits behind c.first.name.now (point_text c.second) (name_text c.second) (point_text c.third) (name_text c.third) (point_text c.fourth) (name_text c.fourth)
    (decimal c.first.number) (point_text c.second) (number_text c.second) (point_text c.third) (number_text c.third) (point_text c.fourth) (number_text c.fourth)
    (at_text told.place) (digits_text told.place) (plus_text both) (digits_text both)

pub line_of : (prefix word digits behind : List ℕ) (told : Told) → row_of prefix word digits behind told ≡ reason_line prefix (word ++ digits) behind (reason_told told)
unfolding reason_line
line_of prefix word digits behind told =
    let c = told.causes in
    let both = inner_behind told.place told.inner in
    let places : List ℕ = codes ")" ++ (at_text told.place ++ (digits_text told.place ++ (plus_text both ++ (digits_text both ++ codes "\n")))) in
    let numbers : List ℕ = followed (decimal c.first.number) (point_text c.second) (number_text c.second) (point_text c.third) (number_text c.third) (point_text c.fourth) (number_text c.fourth) places in
    ap (λ (l : List ℕ). prefix ++ (word ++ (digits ++ (behind ++ l))))
    (apart c.first.name.now (point_text c.second) (name_text c.second) (point_text c.third) (name_text c.third) (point_text c.fourth) (name_text c.fourth) (codes " (" ++ numbers)
    ∙ (ap (λ (l : List ℕ). l ++ (codes " (" ++ numbers)) (names_row c)
    ∙ ap (λ (l : List ℕ). names_of (listed_causes c) ++ (codes " (" ++ l))
    (apart (decimal c.first.number) (point_text c.second) (number_text c.second) (point_text c.third) (number_text c.third) (point_text c.fourth) (number_text c.fourth) places
    ∙ ap (λ (l : List ℕ). l ++ places) (numbers_row c))))
    ∙ (all_in_a_row prefix word digits behind (names_of (listed_causes c)) (codes " (") (numbers_of (listed_causes c)) (codes ")") (at_text told.place) (digits_text told.place) (plus_text both) (digits_text both) (codes "\n")
    ∙ ap (λ (l : List ℕ). prefix ++ (word ++ digits) ++ behind ++ l ++ codes "\n") (behind_reason (written (reason_told told)) told.place told.inner))

-- the line of a text that is refused
pub refusal_line : (which : Which) (word : List ℕ) (told why : PlainReason) → word ≡ word_of which → told ≡ why → reason_line (codes "refused ") (word ++ []) (codes ": ") told ≡ (refusal which (reason_text why)).text
unfolding reason_line
refusal_line which word told why w s =
    ap (λ (l : List ℕ). codes "refused " ++ l ++ codes ": " ++ reason_text told ++ codes "\n") (append-nil word ∙ w)
    ∙ ap (λ (x : PlainReason). codes "refused " ++ word_of which ++ codes ": " ++ reason_text x ++ codes "\n") s

-- the line of what has a number
pub numbered_line : (before : List ℕ) (number : ℕ) (why : PlainReason) → reason_line before (decimal number) (codes " refused: ") why ≡ refused_behind before number (reason_text why)
unfolding reason_line refused_behind
numbered_line before number why = refl

-- a step that is no refused command is told by its own reason
pub by_itself : (why : HistoryError) → ((e : EditError) → why ≡ Edit e → ⊥) → step_reason why ≡ step_told why
by_itself (Edit e) other = absurd (other e refl)
by_itself NothingToUndo other = refl
by_itself NothingToRedo other = refl
by_itself Stopped other = refl
by_itself OutOfMemory other = refl

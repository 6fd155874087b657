-- The words and the files have one output.
use Rattle.std.proofs.Common.{◌≡◌, ℕ, ◌≤◌, Bool, List, [], ◌∷◌, ◌++◌, length, append-nil, slice_get, Some, Result, Ok, Err, inl, inr, sym, ap, subst, ◌∙◌, refl, arith}
use Rattle.std.proofs.lemmas.Option.{slice_get_within}
use Rattle.drc_io.specs.Files.{file_of}
use Rattle.board_errors.specs.declared.errors.BoardError.{BoardError}
use Rattle.board_items.specs.Boards.{PlainBoard}
use Rattle.board_errors.specs.BoardReasons.{board_reason}
use Rattle.pcb_read.specs.BoardText.{BoardSays}
use Rattle.net_class.specs.NetClasses.{PlainClasses}
use Rattle.net_class.specs.ProjectText.{ProjectSays}
use Rattle.net_class.specs.ProjectReasons.{class_reason}
use Rattle.rule_text.specs.declared.error.RuleError.{RuleError}
use Rattle.rule_text.specs.RuleReasons.{rules_reason}
use Rattle.rule_text.specs.RulesOf.{PlainRules}
use Rattle.rule_text.specs.RuleText.{RulesSays}
use Rattle.edit_script.specs.declared.error.ScriptError.{ScriptError}
use Rattle.edit_script.specs.Commands.{PlainCommand, PlainStep, place_of}
use Rattle.edit_script.specs.ScriptReasons.{script_reason}
use Rattle.edit_script.specs.ScriptText.{ScriptSays, SaysSteps}
use Rattle.drc_state.specs.States.{State}
use Rattle.run_words.specs.Calls.{PlainSource, file, made, PlainCall, nothing, check, undo, try, steal, write}
use Rattle.run_texts.specs.declared.texts.Which.{Which}
use Rattle.run_texts.specs.declared.texts.Which.TheVariants.{Board, Project, Rules, Script, Steps, Trials, Text}
use Rattle.plain_types.specs.Limits.{most_trials}
use Rattle.plain_types.specs.Reasons.{PlainReason}
use Rattle.run_texts.specs.NamedTexts.{Named, texts_of, Value, a_board, a_project, a_rules, a_script, some_steps, Said, accepted, refused, reason_text, IsRefusalText, too_many, RefusesScript, RefusesTrials, ReaderSays, TextSays, longer, read, AreBytesOf, SourceSays, AreAccepted, IsReached, a_text}
use Rattle.run_output.specs.Output.{Output, commands_among, steps_among, IsOpenedBy, is_short, IsTold, IsToldSoFar, AreStepsTold, AreStepsToldSoFar, AreTrialsTold, AreFirstTrials, IsTextOf, IsBegunBy, IsOutputFor, unclear, stopped, given, IsBegunFor, whole, begun_by, usage, refusal, AreRowsTold, IsBoardWritten}
use Rattle.drc_run.proofs.OneProject.{one_project}

-- ---- what a text says

same_line : (why : PlainReason) (a b : List ℕ) → IsRefusalText why a → IsRefusalText why b → a ≡ b
same_line why a b p q = p.text_is ∙ sym q.text_is

same_file : (files : List (List ℕ × List ℕ)) (name a b : List ℕ) → file_of files name ≡ Some a → file_of files name ≡ Some b → a ≡ b
same_file files name a b p q = let both : Some a ≡ Some b = sym p ∙ q in cc

same_bytes : (files : List (List ℕ × List ℕ)) (source : PlainSource) (a b : List ℕ) → AreBytesOf (Some files) source a → AreBytesOf (Some files) source b → a ≡ b
same_bytes files (file name) a b p q = same_file files name a b p q
same_bytes files (made count) a b p q = p ∙ sym q

same_values : (v w : Value) → accepted v ≡ accepted w → v ≡ w
same_values v w e = cc

not_both : (v : Value) (why : List ℕ) → accepted v ≡ refused why → ⊥
not_both v why e = cc

same_whys : (a b : List ℕ) → refused a ≡ refused b → a ≡ b
same_whys a b e = cc

-- what a reader finds, where its bytes say one thing
module _ {A E : Type 0} (BoardSays : Result A E → Type 0) (one : (a b : Result A E) → BoardSays a → BoardSays b → a ≡ b)
    (value : A → Value) (reason : E → PlainReason) where
  abbrev Refuses : List ℕ → Type 0
  Refuses why = (e : E) × BoardSays (Err e) × IsRefusalText (reason e) why

  value_once : (x y : A) → BoardSays (Ok x) → BoardSays (Ok y) → accepted (value x) ≡ accepted (value y)
  value_once x y p q =
      let both : Ok x ≡ Ok y = one (Ok x) (Ok y) p q in
      let same : x ≡ y = cc in
      ap (λ (z : A). accepted (value z)) same

  value_or_not : (x : A) (why : List ℕ) → BoardSays (Ok x) → Refuses why → ⊥
  value_or_not x why p q = let both : Ok x ≡ Err q.0 = one (Ok x) (Err q.0) p q.1 in cc

  why_once : (a b : List ℕ) → Refuses a → Refuses b → refused a ≡ refused b
  why_once a b p q =
      let both : Err p.0 ≡ Err q.0 = one (Err p.0) (Err q.0) p.1 q.1 in
      let same : p.0 ≡ q.0 = cc in
      ap refused (same_line (reason q.0) a b (subst (λ (e : E). IsRefusalText (reason e) a) same p.2) q.2)

module _ (one_reading : (text : List ℕ) (a b : Result PlainBoard BoardError) → BoardSays text a → BoardSays text b → a ≡ b)
    (one_rules : (text : List ℕ) (a b : Result PlainRules RuleError) → RulesSays text a → RulesSays text b → a ≡ b)
    (one_script : (text : List ℕ) (a b : Result (List PlainCommand) ScriptError) → ScriptSays text a → ScriptSays text b → a ≡ b)
    (one_steps : (text : List ℕ) (a b : Result (List PlainStep) ScriptError) → SaysSteps text a → SaysSteps text b → a ≡ b)
    (one_told : (short : Bool) (s : State) (commands : List PlainCommand) (a b : Output) → IsTold short s commands a → IsTold short s commands b → a ≡ b)
    (prefix_of_told : (short : Bool) (s : State) (commands : List PlainCommand) (text : List ℕ) (out : Output) → IsToldSoFar short s commands text → IsTold short s commands out → (rest : List ℕ) × (out.text ≡ text ++ rest))
    (one_stepped : (s : State) (steps : List PlainStep) (a b : Output) → AreStepsTold s steps a → AreStepsTold s steps b → a ≡ b)
    (prefix_of_stepped : (s : State) (steps : List PlainStep) (text : List ℕ) (out : Output) → AreStepsToldSoFar s steps text → AreStepsTold s steps out → (rest : List ℕ) × (out.text ≡ text ++ rest))
    (one_tried : (s : State) (commands : List PlainCommand) (a b : Output) → AreTrialsTold s commands a → AreTrialsTold s commands b → a ≡ b)
    (prefix_of_tried : (s : State) (commands : List PlainCommand) (text : List ℕ) (out : Output) → AreFirstTrials s commands text → AreTrialsTold s commands out → (rest : List ℕ) × (out.text ≡ text ++ rest))
    (one_stolen : (s : State) (a b : Output) → AreRowsTold s a → AreRowsTold s b → a ≡ b)
    (one_written : (text : List ℕ) (commands : List PlainCommand) (a b : Output) → IsBoardWritten text commands a → IsBoardWritten text commands b → a ≡ b) where
  board_once : (bytes : List ℕ) (s t : Said) → ReaderSays Board bytes s → ReaderSays Board bytes t → s ≡ t
  board_once bytes (accepted (a_board x)) (accepted (a_board y)) p q = value_once (BoardSays bytes) (one_reading bytes) a_board board_reason x y p q
  board_once bytes (accepted (a_board x)) (accepted (a_project y)) p q = absurd q
  board_once bytes (accepted (a_board x)) (accepted (a_rules y)) p q = absurd q
  board_once bytes (accepted (a_board x)) (accepted (a_script y)) p q = absurd q
  board_once bytes (accepted (a_board x)) (accepted (some_steps y)) p q = absurd q
  board_once bytes (accepted (a_board x)) (accepted (a_text y)) p q = absurd q
  board_once bytes (accepted (a_board x)) (refused b) p q = absurd (value_or_not (BoardSays bytes) (one_reading bytes) a_board board_reason x b p q)
  board_once bytes (accepted (a_project x)) t p q = absurd p
  board_once bytes (accepted (a_rules x)) t p q = absurd p
  board_once bytes (accepted (a_script x)) t p q = absurd p
  board_once bytes (accepted (some_steps x)) t p q = absurd p
  board_once bytes (accepted (a_text x)) t p q = absurd p
  board_once bytes (refused a) (accepted (a_board y)) p q = absurd (value_or_not (BoardSays bytes) (one_reading bytes) a_board board_reason y a q p)
  board_once bytes (refused a) (accepted (a_project y)) p q = absurd q
  board_once bytes (refused a) (accepted (a_rules y)) p q = absurd q
  board_once bytes (refused a) (accepted (a_script y)) p q = absurd q
  board_once bytes (refused a) (accepted (some_steps y)) p q = absurd q
  board_once bytes (refused a) (accepted (a_text y)) p q = absurd q
  board_once bytes (refused a) (refused b) p q = why_once (BoardSays bytes) (one_reading bytes) a_board board_reason a b p q

  project_once : (bytes : List ℕ) (s t : Said) → ReaderSays Project bytes s → ReaderSays Project bytes t → s ≡ t
  project_once bytes (accepted (a_board x)) t p q = absurd p
  project_once bytes (accepted (a_project x)) (accepted (a_board y)) p q = absurd q
  project_once bytes (accepted (a_project x)) (accepted (a_project y)) p q = value_once (ProjectSays bytes) (one_project bytes) a_project class_reason x y p q
  project_once bytes (accepted (a_project x)) (accepted (a_rules y)) p q = absurd q
  project_once bytes (accepted (a_project x)) (accepted (a_script y)) p q = absurd q
  project_once bytes (accepted (a_project x)) (accepted (some_steps y)) p q = absurd q
  project_once bytes (accepted (a_project x)) (accepted (a_text y)) p q = absurd q
  project_once bytes (accepted (a_project x)) (refused b) p q = absurd (value_or_not (ProjectSays bytes) (one_project bytes) a_project class_reason x b p q)
  project_once bytes (accepted (a_rules x)) t p q = absurd p
  project_once bytes (accepted (a_script x)) t p q = absurd p
  project_once bytes (accepted (some_steps x)) t p q = absurd p
  project_once bytes (accepted (a_text x)) t p q = absurd p
  project_once bytes (refused a) (accepted (a_board y)) p q = absurd q
  project_once bytes (refused a) (accepted (a_project y)) p q = absurd (value_or_not (ProjectSays bytes) (one_project bytes) a_project class_reason y a q p)
  project_once bytes (refused a) (accepted (a_rules y)) p q = absurd q
  project_once bytes (refused a) (accepted (a_script y)) p q = absurd q
  project_once bytes (refused a) (accepted (some_steps y)) p q = absurd q
  project_once bytes (refused a) (accepted (a_text y)) p q = absurd q
  project_once bytes (refused a) (refused b) p q = why_once (ProjectSays bytes) (one_project bytes) a_project class_reason a b p q

  rules_once : (bytes : List ℕ) (s t : Said) → ReaderSays Rules bytes s → ReaderSays Rules bytes t → s ≡ t
  rules_once bytes (accepted (a_board x)) t p q = absurd p
  rules_once bytes (accepted (a_project x)) t p q = absurd p
  rules_once bytes (accepted (a_rules x)) (accepted (a_board y)) p q = absurd q
  rules_once bytes (accepted (a_rules x)) (accepted (a_project y)) p q = absurd q
  rules_once bytes (accepted (a_rules x)) (accepted (a_rules y)) p q = value_once (RulesSays bytes) (one_rules bytes) a_rules rules_reason x y p q
  rules_once bytes (accepted (a_rules x)) (accepted (a_script y)) p q = absurd q
  rules_once bytes (accepted (a_rules x)) (accepted (some_steps y)) p q = absurd q
  rules_once bytes (accepted (a_rules x)) (accepted (a_text y)) p q = absurd q
  rules_once bytes (accepted (a_rules x)) (refused b) p q = absurd (value_or_not (RulesSays bytes) (one_rules bytes) a_rules rules_reason x b p q)
  rules_once bytes (accepted (a_script x)) t p q = absurd p
  rules_once bytes (accepted (some_steps x)) t p q = absurd p
  rules_once bytes (accepted (a_text x)) t p q = absurd p
  rules_once bytes (refused a) (accepted (a_board y)) p q = absurd q
  rules_once bytes (refused a) (accepted (a_project y)) p q = absurd q
  rules_once bytes (refused a) (accepted (a_rules y)) p q = absurd (value_or_not (RulesSays bytes) (one_rules bytes) a_rules rules_reason y a q p)
  rules_once bytes (refused a) (accepted (a_script y)) p q = absurd q
  rules_once bytes (refused a) (accepted (some_steps y)) p q = absurd q
  rules_once bytes (refused a) (accepted (a_text y)) p q = absurd q
  rules_once bytes (refused a) (refused b) p q = why_once (RulesSays bytes) (one_rules bytes) a_rules rules_reason a b p q

  script_once : (bytes : List ℕ) (s t : Said) → ReaderSays Script bytes s → ReaderSays Script bytes t → s ≡ t
  script_once bytes (accepted (a_board x)) t p q = absurd p
  script_once bytes (accepted (a_project x)) t p q = absurd p
  script_once bytes (accepted (a_rules x)) t p q = absurd p
  script_once bytes (accepted (a_script x)) (accepted (a_board y)) p q = absurd q
  script_once bytes (accepted (a_script x)) (accepted (a_project y)) p q = absurd q
  script_once bytes (accepted (a_script x)) (accepted (a_rules y)) p q = absurd q
  script_once bytes (accepted (a_script x)) (accepted (a_script y)) p q = value_once (ScriptSays bytes) (one_script bytes) a_script script_reason x y p q
  script_once bytes (accepted (a_script x)) (accepted (some_steps y)) p q = absurd q
  script_once bytes (accepted (a_script x)) (accepted (a_text y)) p q = absurd q
  script_once bytes (accepted (a_script x)) (refused b) p q = absurd (value_or_not (ScriptSays bytes) (one_script bytes) a_script script_reason x b p q)
  script_once bytes (accepted (some_steps x)) t p q = absurd p
  script_once bytes (accepted (a_text x)) t p q = absurd p
  script_once bytes (refused a) (accepted (a_board y)) p q = absurd q
  script_once bytes (refused a) (accepted (a_project y)) p q = absurd q
  script_once bytes (refused a) (accepted (a_rules y)) p q = absurd q
  script_once bytes (refused a) (accepted (a_script y)) p q = absurd (value_or_not (ScriptSays bytes) (one_script bytes) a_script script_reason y a q p)
  script_once bytes (refused a) (accepted (some_steps y)) p q = absurd q
  script_once bytes (refused a) (accepted (a_text y)) p q = absurd q
  script_once bytes (refused a) (refused b) p q = why_once (ScriptSays bytes) (one_script bytes) a_script script_reason a b p q

  steps_once : (bytes : List ℕ) (s t : Said) → ReaderSays Steps bytes s → ReaderSays Steps bytes t → s ≡ t
  steps_once bytes (accepted (a_board x)) t p q = absurd p
  steps_once bytes (accepted (a_project x)) t p q = absurd p
  steps_once bytes (accepted (a_rules x)) t p q = absurd p
  steps_once bytes (accepted (a_script x)) t p q = absurd p
  steps_once bytes (accepted (some_steps x)) (accepted (a_board y)) p q = absurd q
  steps_once bytes (accepted (some_steps x)) (accepted (a_project y)) p q = absurd q
  steps_once bytes (accepted (some_steps x)) (accepted (a_rules y)) p q = absurd q
  steps_once bytes (accepted (some_steps x)) (accepted (a_script y)) p q = absurd q
  steps_once bytes (accepted (some_steps x)) (accepted (some_steps y)) p q = value_once (SaysSteps bytes) (one_steps bytes) some_steps script_reason x y p q
  steps_once bytes (accepted (some_steps x)) (accepted (a_text y)) p q = absurd q
  steps_once bytes (accepted (some_steps x)) (refused b) p q = absurd (value_or_not (SaysSteps bytes) (one_steps bytes) some_steps script_reason x b p q)
  steps_once bytes (accepted (a_text x)) t p q = absurd p
  steps_once bytes (refused a) (accepted (a_board y)) p q = absurd q
  steps_once bytes (refused a) (accepted (a_project y)) p q = absurd q
  steps_once bytes (refused a) (accepted (a_rules y)) p q = absurd q
  steps_once bytes (refused a) (accepted (a_script y)) p q = absurd q
  steps_once bytes (refused a) (accepted (some_steps y)) p q = absurd (value_or_not (SaysSteps bytes) (one_steps bytes) some_steps script_reason y a q p)
  steps_once bytes (refused a) (accepted (a_text y)) p q = absurd q
  steps_once bytes (refused a) (refused b) p q = why_once (SaysSteps bytes) (one_steps bytes) some_steps script_reason a b p q

  -- one script has one list of commands
  one_commands : (bytes : List ℕ) (xs ys : List PlainCommand) → ScriptSays bytes (Ok xs) → ScriptSays bytes (Ok ys) → xs ≡ ys
  one_commands bytes xs ys p q = let both : Ok xs ≡ Ok ys = one_script bytes (Ok xs) (Ok ys) p q in cc

  -- a script has too many commands to be tried, or not
  few_or_many : (bytes : List ℕ) (xs : List PlainCommand) (why : List ℕ) → ScriptSays bytes (Ok xs) → length xs ≤ most_trials → RefusesTrials bytes why → ⊥
  few_or_many bytes xs why p few q =
      let same = one_commands bytes q.0 xs q.1 p in
      let stands = subst (λ (l : List PlainCommand). slice_get l most_trials ≡ Some q.2.command) same q.2.stands in
      let within = slice_get_within xs most_trials q.2.command stands in
      omega (arith, few, within)

  many_once : (bytes a b : List ℕ) → RefusesTrials bytes a → RefusesTrials bytes b → refused a ≡ refused b
  many_once bytes a b p q =
      let same = one_commands bytes p.0 q.0 p.1 q.1 in
      let here : Some p.2.command ≡ Some q.2.command = sym (subst (λ (l : List PlainCommand). slice_get l most_trials ≡ Some p.2.command) same p.2.stands) ∙ q.2.stands in
      let command : p.2.command ≡ q.2.command = cc in
      ap refused (p.2.why_is ∙ (ap (λ (c : PlainCommand). reason_text (too_many (place_of c))) command ∙ sym q.2.why_is))

  -- a script that is refused has no commands
  refused_or_many : (bytes a b : List ℕ) → RefusesScript bytes a → RefusesTrials bytes b → ⊥
  refused_or_many bytes a b p q = let both : Ok q.0 ≡ Err p.0 = one_script bytes (Ok q.0) (Err p.0) q.1 p.1 in cc

  trials_once : (bytes : List ℕ) (s t : Said) → ReaderSays Trials bytes s → ReaderSays Trials bytes t → s ≡ t
  trials_once bytes (accepted (a_board x)) t p q = absurd p
  trials_once bytes (accepted (a_project x)) t p q = absurd p
  trials_once bytes (accepted (a_rules x)) t p q = absurd p
  trials_once bytes (accepted (some_steps x)) t p q = absurd p
  trials_once bytes (accepted (a_text x)) t p q = absurd p
  trials_once bytes (accepted (a_script x)) (accepted (a_board y)) p q = absurd q
  trials_once bytes (accepted (a_script x)) (accepted (a_project y)) p q = absurd q
  trials_once bytes (accepted (a_script x)) (accepted (a_rules y)) p q = absurd q
  trials_once bytes (accepted (a_script x)) (accepted (a_script y)) p q = value_once (ScriptSays bytes) (one_script bytes) a_script script_reason x y p.0 q.0
  trials_once bytes (accepted (a_script x)) (accepted (some_steps y)) p q = absurd q
  trials_once bytes (accepted (a_script x)) (accepted (a_text y)) p q = absurd q
  trials_once bytes (accepted (a_script x)) (refused b) p (inl q) = absurd (value_or_not (ScriptSays bytes) (one_script bytes) a_script script_reason x b p.0 q)
  trials_once bytes (accepted (a_script x)) (refused b) p (inr q) = absurd (few_or_many bytes x b p.0 p.1 q)
  trials_once bytes (refused a) (accepted (a_board y)) p q = absurd q
  trials_once bytes (refused a) (accepted (a_project y)) p q = absurd q
  trials_once bytes (refused a) (accepted (a_rules y)) p q = absurd q
  trials_once bytes (refused a) (accepted (a_script y)) (inl p) q = absurd (value_or_not (ScriptSays bytes) (one_script bytes) a_script script_reason y a q.0 p)
  trials_once bytes (refused a) (accepted (a_script y)) (inr p) q = absurd (few_or_many bytes y a q.0 q.1 p)
  trials_once bytes (refused a) (accepted (some_steps y)) p q = absurd q
  trials_once bytes (refused a) (accepted (a_text y)) p q = absurd q
  trials_once bytes (refused a) (refused b) (inl p) (inl q) = why_once (ScriptSays bytes) (one_script bytes) a_script script_reason a b p q
  trials_once bytes (refused a) (refused b) (inl p) (inr q) = absurd (refused_or_many bytes a b p q)
  trials_once bytes (refused a) (refused b) (inr p) (inl q) = absurd (refused_or_many bytes b a q p)
  trials_once bytes (refused a) (refused b) (inr p) (inr q) = many_once bytes a b p q

  -- a text that stands for its bytes
  bytes_once : (bytes : List ℕ) (s t : Said) → ReaderSays Text bytes s → ReaderSays Text bytes t → s ≡ t
  bytes_once bytes (accepted (a_board x)) t p q = absurd p
  bytes_once bytes (accepted (a_project x)) t p q = absurd p
  bytes_once bytes (accepted (a_rules x)) t p q = absurd p
  bytes_once bytes (accepted (a_script x)) t p q = absurd p
  bytes_once bytes (accepted (some_steps x)) t p q = absurd p
  bytes_once bytes (accepted (a_text x)) (accepted (a_board y)) p q = absurd q
  bytes_once bytes (accepted (a_text x)) (accepted (a_project y)) p q = absurd q
  bytes_once bytes (accepted (a_text x)) (accepted (a_rules y)) p q = absurd q
  bytes_once bytes (accepted (a_text x)) (accepted (a_script y)) p q = absurd q
  bytes_once bytes (accepted (a_text x)) (accepted (some_steps y)) p q = absurd q
  bytes_once bytes (accepted (a_text x)) (accepted (a_text y)) p q = ap (λ (text : List ℕ). accepted (a_text text)) (p.0 ∙ sym q.0)
  bytes_once bytes (accepted (a_text x)) (refused b) p q = absurd (value_or_not (BoardSays bytes) (one_reading bytes) a_board board_reason p.1.0 b p.1.1 q)
  bytes_once bytes (refused a) (accepted (a_board y)) p q = absurd q
  bytes_once bytes (refused a) (accepted (a_project y)) p q = absurd q
  bytes_once bytes (refused a) (accepted (a_rules y)) p q = absurd q
  bytes_once bytes (refused a) (accepted (a_script y)) p q = absurd q
  bytes_once bytes (refused a) (accepted (some_steps y)) p q = absurd q
  bytes_once bytes (refused a) (accepted (a_text y)) p q = absurd (value_or_not (BoardSays bytes) (one_reading bytes) a_board board_reason q.1.0 a q.1.1 p)
  bytes_once bytes (refused a) (refused b) p q = why_once (BoardSays bytes) (one_reading bytes) a_board board_reason a b p q

  reader_once : (which : Which) (bytes : List ℕ) (s t : Said) → ReaderSays which bytes s → ReaderSays which bytes t → s ≡ t
  reader_once Board bytes s t p q = board_once bytes s t p q
  reader_once Project bytes s t p q = project_once bytes s t p q
  reader_once Rules bytes s t p q = rules_once bytes s t p q
  reader_once Script bytes s t p q = script_once bytes s t p q
  reader_once Steps bytes s t p q = steps_once bytes s t p q
  reader_once Trials bytes s t p q = trials_once bytes s t p q
  reader_once Text bytes s t p q = bytes_once bytes s t p q

  text_once : (which : Which) (bytes : List ℕ) (s t : Said) → TextSays which bytes s → TextSays which bytes t → s ≡ t
  text_once which bytes s t (longer h e) (longer k f) = e ∙ sym f
  text_once which bytes s t (longer h e) (read k q) = absurd (omega arith)
  text_once which bytes s t (read h p) (longer k f) = absurd (omega arith)
  text_once which bytes s t (read h p) (read k q) = reader_once which bytes s t p q

  module _ (files : List (List ℕ × List ℕ)) where
    says_once : (text : Named) (s t : Said) → SourceSays (Some files) text s → SourceSays (Some files) text t → s ≡ t
    says_once text s t p q =
        let same = same_bytes files text.source p.bytes q.bytes p.whole q.whole in
        text_once text.which q.bytes s t (subst (λ (l : List ℕ). TextSays text.which l s) same p.says) q.says

    -- a text that is refused is not accepted
    refused_once : (text : Named) (why : List ℕ) (value : Value) → SourceSays (Some files) text (refused why) → SourceSays (Some files) text (accepted value) → ⊥
    refused_once text why value p q = not_both value why (says_once text (accepted value) (refused why) q p)

    value_said : (text : Named) (v w : Value) → SourceSays (Some files) text (accepted v) → SourceSays (Some files) text (accepted w) → v ≡ w
    value_said text v w p q = same_values v w (says_once text (accepted v) (accepted w) p q)

    -- ---- lists of texts

    -- their values are one
    one_values : (texts : List Named) (vs ws : List Value) → AreAccepted (Some files) texts vs → AreAccepted (Some files) texts ws → vs ≡ ws
    one_values [] [] [] p q = refl
    one_values [] [] (w ∷ ws) p q = absurd q
    one_values [] (v ∷ vs) ws p q = absurd p
    one_values (text ∷ texts) [] ws p q = absurd p
    one_values (text ∷ texts) (v ∷ vs) [] p q = absurd q
    one_values (text ∷ texts) (v ∷ vs) (w ∷ ws) p q =
        ap (λ (x : Value). x ∷ vs) (value_said text v w p.0 q.0) ∙ ap (λ (xs : List Value). w ∷ xs) (one_values texts vs ws p.1 q.1)

    -- where all are accepted, so is each
    accepted_each : (before : List Named) (text : Named) (after : List Named) (values : List Value) → AreAccepted (Some files) (before ++ text ∷ after) values
        → (value : Value) × SourceSays (Some files) text (accepted value)
    accepted_each [] text after [] p = absurd p
    accepted_each [] text after (v ∷ vs) p = (v, p.0)
    accepted_each (first ∷ before) text after [] p = absurd p
    accepted_each (first ∷ before) text after (v ∷ vs) p = accepted_each before text after vs p.1

    heads : {t u : Named} {x y : List Named} → t ∷ x ≡ u ∷ y → t ≡ u
    heads e = cc

    tails : {t u : Named} {x y : List Named} → t ∷ x ≡ u ∷ y → x ≡ y
    tails e = cc

    -- the first text that is refused is one
    first_once : (b c : List Named) (t u : Named) (x y : List Named) (vs ws : List Value) (why how : List ℕ) → b ++ t ∷ x ≡ c ++ u ∷ y → AreAccepted (Some files) b vs → AreAccepted (Some files) c ws
        → SourceSays (Some files) t (refused why) → SourceSays (Some files) u (refused how) → t ≡ u
    first_once [] [] t u x y vs ws why how e p q r s = heads e
    first_once [] (k ∷ c) t u x y vs [] why how e p q r s = absurd q
    first_once [] (k ∷ c) t u x y vs (w ∷ ws) why how e p q r s =
        absurd (refused_once t why w r (subst (λ (z : Named). SourceSays (Some files) z (accepted w)) (sym (heads e)) q.0))
    first_once (k ∷ b) [] t u x y [] ws why how e p q r s = absurd p
    first_once (k ∷ b) [] t u x y (v ∷ vs) ws why how e p q r s =
        absurd (refused_once u how v s (subst (λ (z : Named). SourceSays (Some files) z (accepted v)) (heads e) p.0))
    first_once (k ∷ b) (l ∷ c) t u x y [] ws why how e p q r s = absurd p
    first_once (k ∷ b) (l ∷ c) t u x y (v ∷ vs) [] why how e p q r s = absurd q
    first_once (k ∷ b) (l ∷ c) t u x y (v ∷ vs) (w ∷ ws) why how e p q r s = first_once b c t u x y vs ws why how (tails e) p.1 q.1 r s

    -- no turn comes where there is no text
    none_reached : (text : Named) (before after : List Named) → [] ≡ before ++ text ∷ after → ⊥
    none_reached text [] after e = cc
    none_reached text (b ∷ before) after e = cc

    -- ---- the output

    not_stopped : (call : PlainCall) (text : Named) (why : List ℕ) (values : List Value) → IsReached (Some files) (texts_of call) text → SourceSays (Some files) text (refused why)
        → AreAccepted (Some files) (texts_of call) values → ⊥
    not_stopped call text why values r f p =
        let one = accepted_each r.before text r.after values (subst (λ (l : List Named). AreAccepted (Some files) l values) r.among p) in
        refused_once text why one.0 f one.1

    not_unclear : (call : PlainCall) (line : List ℕ) (text : Named) → call ≡ nothing line → IsReached (Some files) (texts_of call) text → ⊥
    not_unclear call line text e r = none_reached text r.before r.after (sym (ap texts_of e) ∙ r.among)

    boards : (a b : PlainBoard) → Some a ≡ Some b → a ≡ b
    boards a b e = cc

    texts : (a b : List ℕ) → Some a ≡ Some b → a ≡ b
    texts a b e = cc

    -- values open one thing
    one_opened : (values : List Value) (o p : State) → IsOpenedBy values o → IsOpenedBy values p → o ≡ p
    one_opened values o p h k =
        ap (λ (b : PlainBoard). record o { board = b }) (boards o.board p.board (sym h.board ∙ k.board))
        ∙ (ap (λ (c : PlainClasses). record o { board = p.board; classes = c }) (h.classes ∙ sym k.classes) ∙ ap (λ (r : PlainRules). record p { rules = r }) (h.rules ∙ sym k.rules))

    one_text : (call : PlainCall) (values : List Value) (a b : Output) → IsTextOf call values a → IsTextOf call values b → a ≡ b
    one_text (nothing line) values a b p q = absurd p
    one_text (check r) values a b p q =
        one_told (is_short r.board) q.0 (commands_among values) a b (subst (λ (s : State). IsTold (is_short r.board) s (commands_among values) a) (one_opened values p.0 q.0 p.1 q.1) p.2) q.2
    one_text (undo board script) values a b p q =
        one_stepped q.0 (steps_among values) a b (subst (λ (s : State). AreStepsTold s (steps_among values) a) (one_opened values p.0 q.0 p.1 q.1) p.2) q.2
    one_text (steal board workers) values a b p q = one_stolen q.0 a b (subst (λ (s : State). AreRowsTold s a) (one_opened values p.0 q.0 p.1 q.1) p.2) q.2
    one_text (try board script workers) values a b p q =
        one_tried q.0 (commands_among values) a b (subst (λ (s : State). AreTrialsTold s (commands_among values) a) (one_opened values p.0 q.0 p.1 q.1) p.2) q.2
    one_text (write board script) values a b p q =
        one_written q.0 (commands_among values) a b (subst (λ (text : List ℕ). IsBoardWritten text (commands_among values) a) (texts p.0 q.0 (sym p.1 ∙ q.1)) p.2) q.2

    -- what is written after some of the commands is a prefix of what all give
    prefix_text : (call : PlainCall) (values : List Value) (text : List ℕ) (out : Output) → IsBegunBy call values text → IsTextOf call values out → (rest : List ℕ) × (out.text ≡ text ++ rest)
    prefix_text (nothing line) values text out p q = absurd p
    prefix_text (check r) values text out p q =
        prefix_of_told (is_short r.board) q.0 (commands_among values) text out (subst (λ (s : State). IsToldSoFar (is_short r.board) s (commands_among values) text) (one_opened values p.0 q.0 p.1 q.1) p.2) q.2
    prefix_text (undo board script) values text out p q =
        prefix_of_stepped q.0 (steps_among values) text out (subst (λ (s : State). AreStepsToldSoFar s (steps_among values) text) (one_opened values p.0 q.0 p.1 q.1) p.2) q.2
    prefix_text (steal board workers) values text out p q = absurd p
    prefix_text (try board script workers) values text out p q =
        prefix_of_tried q.0 (commands_among values) text out (subst (λ (s : State). AreFirstTrials s (commands_among values) text) (one_opened values p.0 q.0 p.1 q.1) p.2) q.2
    prefix_text (write board script) values text out p q = absurd p

    same_lines : (a b : List ℕ) → nothing a ≡ nothing b → a ≡ b
    same_lines a b e = cc

    one_output_of : (call : PlainCall) (a b : Output) → IsOutputFor call (Some files) a → IsOutputFor call (Some files) b → a ≡ b
    one_output_of call a b (unclear l c e) (unclear m d f) = e ∙ (ap usage (same_lines l m (sym c ∙ d)) ∙ sym f)
    one_output_of call a b (unclear l c e) (stopped u how s g d) = absurd (not_unclear call l u c s)
    one_output_of call a b (unclear l c e) (given ws q u) = absurd (subst (λ (x : PlainCall). IsTextOf x ws b) c u)
    one_output_of call a b (stopped t why r f e) (unclear m d h) = absurd (not_unclear call m t d r)
    one_output_of call a b (stopped t why r f e) (stopped u how s g d) =
        let same : t ≡ u = first_once r.before s.before t u r.after s.after r.values s.values why how (sym r.among ∙ s.among) r.before_accepted s.before_accepted f g in
        let line : why ≡ how = same_whys why how (says_once u (refused why) (refused how) (subst (λ (z : Named). SourceSays (Some files) z (refused why)) same f) g) in
        e ∙ (ap (λ (z : Named). refusal z.which why) same ∙ (ap (refusal u.which) line ∙ sym d))
    one_output_of call a b (stopped t why r f e) (given ws q u) = absurd (not_stopped call t why ws r f q)
    one_output_of call a b (given vs p t) (unclear m d h) = absurd (subst (λ (x : PlainCall). IsTextOf x vs a) d t)
    one_output_of call a b (given vs p t) (stopped u how s g d) = absurd (not_stopped call u how vs s g p)
    one_output_of call a b (given vs p t) (given ws q u) = one_text call ws a b (subst (λ (xs : List Value). IsTextOf call xs a) (one_values (texts_of call) vs ws p q) t) u

    begun_prefix : (call : PlainCall) (values : List Value) (text : List ℕ) (out : Output) → AreAccepted (Some files) (texts_of call) values → IsBegunBy call values text → IsOutputFor call (Some files) out
        → (rest : List ℕ) × (out.text ≡ text ++ rest)
    begun_prefix call values text out p b (unclear m d h) = absurd (subst (λ (x : PlainCall). IsBegunBy x values text) d b)
    begun_prefix call values text out p b (stopped u how s g d) = absurd (not_stopped call u how values s g p)
    begun_prefix call values text out p b (given ws q u) = prefix_text call ws text out (subst (λ (xs : List Value). IsBegunBy call xs text) (one_values (texts_of call) values ws p q) b) u

    prefix_of : (call : PlainCall) (text : List ℕ) (out : Output) → IsBegunFor call (Some files) text → IsOutputFor call (Some files) out → (rest : List ℕ) × (out.text ≡ text ++ rest)
    prefix_of call text out (whole other is e) k = ([], ap (λ (o : Output). o.text) (one_output_of call out other k is) ∙ (sym e ∙ sym (append-nil text)))
    prefix_of call text out (begun_by values p b) k = begun_prefix call values text out p b k

  pub both_laws : ((call : PlainCall) (files : List (List ℕ × List ℕ)) (a b : Output) → IsOutputFor call (Some files) a → IsOutputFor call (Some files) b → a ≡ b)
      × ((call : PlainCall) (files : List (List ℕ × List ℕ)) (text : List ℕ) (out : Output) → IsBegunFor call (Some files) text → IsOutputFor call (Some files) out → (rest : List ℕ) × (out.text ≡ text ++ rest))
  both_laws = (λ call files a b p q. one_output_of files call a b p q, λ call files text out b k. prefix_of files call text out b k)

-- From the texts one by one to all of them.
use Rattle.std.proofs.Common.{◌≡◌, ◌∙◌, ap, ℕ, ◌+◌, ◌<◌, ◌≤◌, List, [], ◌∷◌, ◌++◌, length, append-nil, append_assoc, Option, Some, None, Result, Ok, Err, IfErr, MatchResult, inl, inr, refl, sym, subst, arith}
use Rattle.std.specs.Prelude.{replicate}
use Rattle.std.proofs.Math.ListN.{length-replicate}
use Rattle.drc_io.specs.FaultCounts.{Rose}
use Rattle.drc_io.specs.Files.{IsLonger, HasMore, file_of}
use Rattle.net_class.specs.NetClasses.{plain_classes}
use Rattle.rule_text.specs.RulesOf.{no_rules}
use Rattle.edit_script.specs.Commands.{PlainCommand}
use Rattle.drc_state.specs.States.{State}
use Rattle.run_words.specs.Calls.{PlainSource, file, made, Reading, PlainCall, check}
use Rattle.run_texts.specs.declared.texts.Which.{Which}
use Rattle.run_texts.specs.declared.texts.Which.TheVariants.{Board, Project, Rules, Script}
use Rattle.run_texts.specs.declared.texts.Stop.{Stop}
use Rattle.run_texts.specs.declared.texts.Stop.TheVariants.{Refused, Unread, OutOfMemory}
use Rattle.run_texts.specs.NamedTexts.{Named, named, optional, texts_of, Value, a_board, a_project, a_rules, a_script, Said, accepted, refused, ReaderSays, longer, read, too_long, AreBytesOf, SourceSays, AreAccepted, IsReached, ReadFails}
use Rattle.run_texts.specs.RunFindings.{why_of, HasRisen, StopsReading, StopsText, StopsTexts, StopsOption, StopsReadingOption, AreBytesOfOption, Gives, GivesReading, AreOpened, board_and_script}

module _ (told : Option (List (List ℕ × List ℕ))) where
  -- ---- one text

  pub text_says : (text : Named) (bytes : List ℕ) (said : Said) → AreBytesOf told text.source bytes → length bytes ≤ 33554432 → ReaderSays text.which bytes said → SourceSays told text said
  text_says text bytes said whole short says = record { bytes = bytes; whole = whole; says = read short says }

  -- a reader that refuses the bytes of a text refuses the text
  pub reading_stops : (before now : List ℕ → ℕ) (text : Named) (bytes : List ℕ) (stop : Stop) → AreBytesOf told text.source bytes → length bytes ≤ 33554432 → StopsReading text.which bytes stop
      → StopsText told before now text stop
  reading_stops before now text bytes (Refused r) whole short says = (says.0, text_says text bytes _ whole short says.1)
  reading_stops before now text bytes (Unread it) whole short says = absurd says
  reading_stops before now text bytes OutOfMemory whole short says = tt

  pub stops_if_refused : {T : Type 0} (before now : List ℕ → ℕ) (text : Named) (bytes : List ℕ) (P : T → Type 0) (r : Result T Stop) → AreBytesOf told text.source bytes → length bytes ≤ 33554432
      → MatchResult r P (StopsReading text.which bytes) → IfErr r (StopsText told before now text)
  stops_if_refused before now text bytes P (Ok x) whole short h = tt
  stops_if_refused before now text bytes P (Err stop) whole short h = reading_stops before now text bytes stop whole short h

  pub says_if_accepted : {T : Type 0} (text : Named) (bytes : List ℕ) (value : T → Value) (Q : Stop → Type 0) (r : Result T Stop) → AreBytesOf told text.source bytes → length bytes ≤ 33554432
      → MatchResult r (λ x. ReaderSays text.which bytes (accepted (value x))) Q → (x : T) → r ≡ Ok x → SourceSays told text (accepted (value x))
  says_if_accepted text bytes value Q (Ok x) whole short h y e = let same : x ≡ y = cc in text_says text bytes _ whole short (subst (λ z. ReaderSays text.which bytes (accepted (value z))) same h)
  says_if_accepted text bytes value Q (Err stop) whole short h y e = absurd (cc)

  -- the same of an option's text
  pub option_stopped : (before now : List ℕ → ℕ) (which : Which) (name : Option (List ℕ)) (bytes : List ℕ) (stop : Stop) → AreBytesOfOption told name bytes → length bytes ≤ 33554432 → StopsReadingOption which name bytes stop
      → StopsOption told before now which name stop
  option_stopped before now which None bytes stop whole short h = h
  option_stopped before now which (Some name) bytes stop whole short h = reading_stops before now (named which name) bytes stop whole short h

  pub option_gives : (which : Which) (name : Option (List ℕ)) (bytes : List ℕ) (plain value : Value) → AreBytesOfOption told name bytes → length bytes ≤ 33554432 → GivesReading which name bytes plain value
      → Gives told which name plain value
  option_gives which None bytes plain value whole short h = h
  option_gives which (Some name) bytes plain value whole short h = text_says (named which name) bytes (accepted value) whole short h

-- there are texts of every length
some_text : (n : ℕ) → (text : List ℕ) × (length text ≡ n)
some_text n = (replicate n 0, length-replicate n 0)

one_more : (n : ℕ) (text : List ℕ) → length text ≡ n + 1 → n < length text
one_more n text e = omega arith

longer_of : (files : List (List ℕ × List ℕ)) (which : Which) (name : List ℕ) (text : Option (List ℕ)) → file_of files name ≡ text → HasMore text 33554432
    → SourceSays (Some files) (named which name) (refused too_long)
longer_of files which name None e h = absurd h
longer_of files which name (Some text) e h = record { bytes = text; whole = e; says = longer h refl }

-- a text that is too long, of a shelf that tells or not
pub longer_says : (told : Option (List (List ℕ × List ℕ))) (which : Which) (name : List ℕ) → IsLonger told name 33554432 → SourceSays told (named which name) (refused too_long)
longer_says None which name h = let t = some_text (33554432 + 1) in record { bytes = t.0; whole = tt; says = longer (one_more 33554432 t.0 t.1) refl }
longer_says (Some files) which name h = longer_of files which name (file_of files name) refl h

module _ (told : Option (List (List ℕ × List ℕ))) where
  -- ---- all texts

  -- the text whose turn comes once those before it are accepted
  pub reached : (before after : List Named) (values : List Value) (text : Named) → AreAccepted told before values → IsReached told (before ++ text ∷ after) text
  reached before after values text are = record { before = before; after = after; among = refl; values = values; before_accepted = are }

  -- a text whose turn comes among some has its turn among more
  more_reached : (texts more : List Named) (text : Named) → IsReached told texts text → IsReached told (texts ++ more) text
  more_reached texts more text r = record {
    before = r.before;
    after = r.after ++ more;
    among = ap (λ (l : List Named). l ++ more) r.among ∙ append_assoc r.before (text ∷ r.after) more;
    values = r.values;
    before_accepted = r.before_accepted;
  }

  -- the value of an option's text
  abbrev pub given : Option (List ℕ) → Value → List Value
  given None value = []
  given (Some name) value = value ∷ []

  given_accepted : (which : Which) (name : Option (List ℕ)) (plain value : Value) → Gives told which name plain value → AreAccepted told (optional which name) (given name value)
  given_accepted which None plain value gives = tt
  given_accepted which (Some name) plain value gives = (gives, tt)

  both_accepted : (first second : List Named) (vs ws : List Value) → AreAccepted told first vs → AreAccepted told second ws → AreAccepted told (first ++ second) (vs ++ ws)
  both_accepted [] second [] ws p q = q
  both_accepted [] second (v ∷ vs) ws p q = absurd p
  both_accepted (text ∷ first) second [] ws p q = absurd p
  both_accepted (text ∷ first) second (v ∷ vs) ws p q = (p.0, both_accepted first second vs ws p.1 q)

  -- the values of all texts
  abbrev pub values_of : Reading → State → List PlainCommand → List Value
  values_of reading opened commands =
      a_board opened.board ∷ (given reading.project (a_project opened.classes) ++ (given reading.rules (a_rules opened.rules) ++ given reading.script (a_script commands)))

  pub all_accepted : (reading : Reading) (opened : State) (commands : List PlainCommand) → AreOpened told reading opened → Gives told Script reading.script (a_script []) (a_script commands)
      → AreAccepted told (texts_of (check reading)) (values_of reading opened commands)
  all_accepted reading opened commands are script =
      let last = given_accepted Script reading.script (a_script []) (a_script commands) script in
      let rules = given_accepted Rules reading.rules (a_rules no_rules) (a_rules opened.rules) are.rules in
      let project = given_accepted Project reading.project (a_project plain_classes) (a_project opened.classes) are.classes in
      let both = both_accepted (optional Rules reading.rules) (optional Script reading.script) (given reading.rules (a_rules opened.rules)) (given reading.script (a_script commands)) rules last in (
        are.board,
        both_accepted (optional Project reading.project) (optional Rules reading.rules ++ optional Script reading.script) (given reading.project (a_project opened.classes))
            (given reading.rules (a_rules opened.rules) ++ given reading.script (a_script commands)) project both,
      )

  -- ---- a text that is not accepted

  -- the count of a file that rose later has risen
  rose_later : (m n k : ℕ) → m ≤ n → Rose n k → Rose m k
  rose_later m n k h (inl r) = inl (omega arith)
  rose_later m n k h (inr r) = inr r

  risen_later : (before middle now : List ℕ → ℕ) (source : PlainSource) → ((other : List ℕ) → before other ≤ middle other) → HasRisen middle now source → HasRisen before now source
  risen_later before middle now (file name) up h = rose_later (before name) (middle name) (now name) (up name) h
  risen_later before middle now (made count) up h = h

  module _ (before now : List ℕ → ℕ) where
    unread_at : (call : PlainCall) (which : Which) (source : PlainSource) → IsReached told (texts_of call) (record { which = which; source = source }) → HasRisen before now source → ReadFails call told before now which
    unread_at call which (file name) turn rose = record { name = name; reached = turn; rose = rose }
    unread_at call which (made count) turn rose = absurd rose

    -- the text whose turn came is not accepted
    pub stops_at : (call : PlainCall) (text : Named) (stop : Stop) → IsReached told (texts_of call) text → StopsText told before now text stop → StopsTexts told call before now stop
    stops_at call text (Refused r) turn s = (
      text.source,
      subst (λ (w : Which). IsReached told (texts_of call) (record { which = w; source = text.source })) (sym s.0) turn,
      subst (λ (w : Which). SourceSays told (record { which = w; source = text.source }) (refused (why_of r))) (sym s.0) s.1,
    )
    stops_at call text (Unread it) turn s =
        unread_at call it text.source (subst (λ (w : Which). IsReached told (texts_of call) (record { which = w; source = text.source })) (sym s.0) turn) s.1
    stops_at call text OutOfMemory turn s = tt

    pub board_stops : (reading : Reading) (stop : Stop) → StopsText told before now (record { which = Board; source = reading.board }) stop → StopsTexts told (check reading) before now stop
    board_stops reading stop s =
        stops_at (check reading) (record { which = Board; source = reading.board }) stop
        (reached [] (optional Project reading.project ++ (optional Rules reading.rules ++ optional Script reading.script)) [] (record { which = Board; source = reading.board }) tt) s

    -- counts only rise
    pub later : (middle : List ℕ → ℕ) (text : Named) (stop : Stop) → ((other : List ℕ) → before other ≤ middle other) → StopsText told middle now text stop → StopsText told before now text stop
    later middle text (Refused r) up s = s
    later middle text (Unread it) up s = (s.0, risen_later before middle now text.source up s.1)
    later middle text OutOfMemory up s = tt

    -- the text of an option is not accepted, those before it are
    option_stops : (call : PlainCall) (which : Which) (option : Option (List ℕ)) (first last : List Named) (values : List Value) (middle : List ℕ → ℕ) (stop : Stop) → texts_of call ≡ first ++ (optional which option ++ last)
        → AreAccepted told first values → ((other : List ℕ) → before other ≤ middle other) → StopsOption told middle now which option stop → StopsTexts told call before now stop
    option_stops call which None first last values middle stop all are up s = subst (λ (x : Stop). StopsTexts told call before now x) (sym s) tt
    option_stops call which (Some name) first last values middle stop all are up s =
        let text : Named = named which name in
        stops_at call text stop (subst (λ (texts : List Named). IsReached told texts text) (sym all) (reached first last values text are)) (later middle text stop up s)

    -- so it is where more texts follow
    pub first_stops : (call other : PlainCall) (more : List Named) (stop : Stop) → texts_of other ≡ texts_of call ++ more → StopsTexts told call before now stop → StopsTexts told other before now stop
    first_stops call other more (Refused r) e s =
        (s.0, subst (λ (texts : List Named). IsReached told texts (record { which = r.which; source = s.0 })) (sym e) (more_reached (texts_of call) more (record { which = r.which; source = s.0 }) s.1), s.2)
    first_stops call other more (Unread which) e s = record {
      name = s.name;
      reached = subst (λ (texts : List Named). IsReached told texts (named which s.name)) (sym e) (more_reached (texts_of call) more (named which s.name) s.reached);
      rose = s.rose;
    }
    first_stops call other more OutOfMemory e s = tt

    -- a board is accepted, and the script behind it is not
    pub second_stops : (which : Which) (board script : List ℕ) (value : Value) (call : PlainCall) (middle : List ℕ → ℕ) (stop : Stop) → texts_of call ≡ board_and_script which board script
        → SourceSays told (named Board board) (accepted value) → ((other : List ℕ) → before other ≤ middle other) → StopsText told middle now (named which script) stop → StopsTexts told call before now stop
    second_stops which board script value call middle stop e says up s =
        let turn = reached (named Board board ∷ []) [] (value ∷ []) (named which script) (says, tt) in
        stops_at call (named which script) stop (subst (λ (texts : List Named). IsReached told texts (named which script)) (sym e) turn) (later middle (named which script) stop up s)

    module _ (reading : Reading) (middle : List ℕ → ℕ) (stop : Stop) (up : (other : List ℕ) → before other ≤ middle other) (opened : State)
        (board : SourceSays told (record { which = Board; source = reading.board }) (accepted (a_board opened.board))) where
      pub project_stops : StopsOption told middle now Project reading.project stop → StopsTexts told (check reading) before now stop
      project_stops s =
          option_stops (check reading) Project reading.project (record { which = Board; source = reading.board } ∷ []) (optional Rules reading.rules ++ optional Script reading.script) (a_board opened.board ∷ []) middle stop refl
          (board, tt) up s

      module _ (classes : Gives told Project reading.project (a_project plain_classes) (a_project opened.classes)) where
        pub rules_stop : StopsOption told middle now Rules reading.rules stop → StopsTexts told (check reading) before now stop
        rules_stop s =
            option_stops (check reading) Rules reading.rules (record { which = Board; source = reading.board } ∷ optional Project reading.project) (optional Script reading.script)
            (a_board opened.board ∷ given reading.project (a_project opened.classes)) middle stop refl
            (board, given_accepted Project reading.project (a_project plain_classes) (a_project opened.classes) classes) up s

        pub script_stops : Gives told Rules reading.rules (a_rules no_rules) (a_rules opened.rules) → StopsOption told middle now Script reading.script stop → StopsTexts told (check reading) before now stop
        script_stops rules s =
            let projects = optional Project reading.project in
            let lists = optional Rules reading.rules in
            let scripts = optional Script reading.script in
            let one = given_accepted Project reading.project (a_project plain_classes) (a_project opened.classes) classes in
            let two = given_accepted Rules reading.rules (a_rules no_rules) (a_rules opened.rules) rules in
            let all : projects ++ (lists ++ scripts) ≡ (projects ++ lists) ++ (scripts ++ []) = sym (append_assoc projects lists scripts) ∙ ap (λ (l : List Named). (projects ++ lists) ++ l) (sym (append-nil scripts)) in
            option_stops (check reading) Script reading.script (record { which = Board; source = reading.board } ∷ (projects ++ lists)) []
            (a_board opened.board ∷ (given reading.project (a_project opened.classes) ++ given reading.rules (a_rules opened.rules))) middle stop
            (ap (λ (l : List Named). record { which = Board; source = reading.board } ∷ l) all)
            (board, both_accepted projects lists (given reading.project (a_project opened.classes)) (given reading.rules (a_rules opened.rules)) one two) up s

    pub unread_has_fault : (call : PlainCall) (stop : Stop) (which : Which) → StopsTexts told call before now stop → stop ≡ Unread which → ReadFails call told before now which
    unread_has_fault call stop which s e = subst (λ (x : Stop). StopsTexts told call before now x) e s

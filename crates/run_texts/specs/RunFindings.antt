-- What the parts of a run find, and what they write.
use Rattle.std.specs.Prelude.{◌≡◌, ℕ, List, [], ◌∷◌, codes, decimal, Option, None, Some}
use Rattle.plain_types.specs.Reasons.{PlainReason, listed_causes}
use Rattle.drc_io.specs.FaultCounts.{Rose}
use Rattle.drc_io.specs.Files.{IsWholeFile}
use Rattle.net_class.specs.NetClasses.{plain_classes}
use Rattle.rule_text.specs.RulesOf.{no_rules}
use Rattle.drc_state.specs.States.{State}
use Rattle.run_words.specs.Calls.{PlainSource, file, made, Reading, PlainCall}
use Rattle.run_texts.specs.declared.texts.Which.{Which}
use Rattle.run_texts.specs.declared.texts.Which.TheVariants.{Board, Project, Rules}
use Rattle.run_texts.specs.declared.texts.Refusal.{Refusal}
use Rattle.run_texts.specs.declared.texts.Stop.{Stop}
use Rattle.run_texts.specs.declared.texts.Stop.TheVariants.{Refused, Unread, OutOfMemory}
use Rattle.run_texts.specs.NamedTexts.{Named, named, texts_of, Value, a_board, a_project, a_rules, accepted, refused, reason_text, ReaderSays, SourceSays, IsReached, ReadFails}

-- why a text is refused, as the program holds it
abbrev pub reason_in : Refusal → PlainReason
reason_in r = record { causes = listed_causes r.causes; place = Some r.at; inner_place = r.inner }

-- a refusal, as it is written
abbrev pub why_of : Refusal → List ℕ
why_of r = reason_text (reason_in r)

-- the two pieces of the place in a condition
abbrev pub plus_text : Option ℕ → List ℕ
plus_text None = []
plus_text (Some inner) = codes " + "

abbrev pub digits_text : Option ℕ → List ℕ
digits_text None = []
digits_text (Some inner) = decimal inner

-- ---- one text

-- the reader of a text refuses its bytes so
abbrev pub StopsReading : Which → List ℕ → Stop → Type 0
StopsReading which bytes (Refused r) = (r.which ≡ which) × ReaderSays which bytes (refused (why_of r))
StopsReading which bytes (Unread it) = ⊥
StopsReading which bytes OutOfMemory = Unit {0}

-- the count of a file rose. A generated board has no file
abbrev pub HasRisen : (List ℕ → ℕ) → (List ℕ → ℕ) → PlainSource → Type 0
HasRisen before now (file name) = Rose (before name) (now name)
HasRisen before now (made count) = ⊥

-- a text is not accepted: its bytes are refused, or the count of its file rose
abbrev pub StopsText : Option (List (List ℕ × List ℕ)) → (List ℕ → ℕ) → (List ℕ → ℕ) → Named → Stop → Type 0
StopsText told before now text (Refused r) = (r.which ≡ text.which) × SourceSays told text (refused (why_of r))
StopsText told before now text (Unread it) = (it ≡ text.which) × HasRisen before now text.source
StopsText told before now text OutOfMemory = Unit {0}

-- the stop of a text that is refused for this reason. Running out of memory has no place
abbrev pub IsStopOf : Which → PlainReason → Stop → Type 0
IsStopOf which why (Refused r) = (r.which ≡ which) × (reason_in r ≡ why)
IsStopOf which why (Unread it) = ⊥
IsStopOf which why OutOfMemory = why.place ≡ None

-- the option's text is not accepted
abbrev pub StopsOption : Option (List (List ℕ × List ℕ)) → (List ℕ → ℕ) → (List ℕ → ℕ) → Which → Option (List ℕ) → Stop → Type 0
StopsOption told before now which None stop = stop ≡ OutOfMemory
StopsOption told before now which (Some name) stop = StopsText told before now (named which name) stop

-- the bytes are those of the option's file; where the option is not given, they are any
abbrev pub AreBytesOfOption : Option (List (List ℕ × List ℕ)) → Option (List ℕ) → List ℕ → Type 0
AreBytesOfOption told None bytes = Unit {0}
AreBytesOfOption told (Some name) bytes = IsWholeFile told name bytes

-- the reader of the option's text refuses its bytes so
abbrev pub StopsReadingOption : Which → Option (List ℕ) → List ℕ → Stop → Type 0
StopsReadingOption which None bytes stop = stop ≡ OutOfMemory
StopsReadingOption which (Some name) bytes stop = StopsReading which bytes stop

-- an option's text is accepted with this value; where the option is not given, the value is the plain one
abbrev pub Gives : Option (List (List ℕ × List ℕ)) → Which → Option (List ℕ) → (plain value : Value) → Type 0
Gives told which None plain value = value ≡ plain
Gives told which (Some name) plain value = SourceSays told (named which name) (accepted value)

-- its reader finds this value in its bytes
abbrev pub GivesReading : Which → Option (List ℕ) → List ℕ → (plain value : Value) → Type 0
GivesReading which None bytes plain value = value ≡ plain
GivesReading which (Some name) bytes plain value = ReaderSays which bytes (accepted value)

-- ---- all texts

-- one of the texts is not accepted, those before it are
abbrev pub StopsTexts : Option (List (List ℕ × List ℕ)) → PlainCall → (List ℕ → ℕ) → (List ℕ → ℕ) → Stop → Type 0
StopsTexts told call before now (Refused r) =
    (source : PlainSource) × IsReached told (texts_of call) (record { which = r.which; source = source }) × SourceSays told (record { which = r.which; source = source }) (refused (why_of r))
StopsTexts told call before now (Unread which) = ReadFails call told before now which
StopsTexts told call before now OutOfMemory = Unit {0}

-- the texts of what is checked are accepted, and open this
pub record AreOpened (told : Option (List (List ℕ × List ℕ))) (reading : Reading) (opened : State) : Type 0 where
  pub board : SourceSays told (record { which = Board; source = reading.board }) (accepted (a_board opened.board))
  pub classes : Gives told Project reading.project (a_project plain_classes) (a_project opened.classes)
  pub rules : Gives told Rules reading.rules (a_rules no_rules) (a_rules opened.rules)

-- what is checked of a board alone
abbrev pub only_board : List ℕ → Reading
only_board name = record { board = file name; project = None; rules = None; script = None; workers = 1 }

-- the texts of a command that goes through a script of this sort
abbrev pub board_and_script : Which → (board script : List ℕ) → List Named
board_and_script which board script = named Board board ∷ named which script ∷ []

-- What `clap` answers is the reading of the words.
use Rattle.std.proofs.Common.{◌≡◌, ◌⊎◌, inl, inr, ℕ, List, [], ◌∷◌, Option, None, true, ap, sym, refl, ◌∙◌, codes}
use Rattle.clap.specs.Words.{Row, Kinds, IsAmong, fault_of, is_simple, is_simple_and_free, first_of, matches_of}
use Rattle.clap.specs.declared.error.kind.ErrorKind.{ErrorKind}
use Rattle.clap.specs.declared.error.kind.ErrorKind.TheVariants.{OutOfMemory}
use Rattle.clap.proofs.OnLiterals.{clap_on_literals}
use Rattle.run_words.specs.Calls.{Reading, drc_app, source_of, workers_of, reading_with, reading_of, reading_if, reading_by}

pub free : is_simple_and_free drc_app ≡ true
unfolding clap_on_literals
free = refl

pub simple : is_simple drc_app ≡ true
unfolding clap_on_literals
simple = refl

-- the reading of the matches
abbrev of_rows : List Row → Option Reading
of_rows rows = reading_by (λ name. first_of name rows)

if_none : (kinds : Kinds) (rows : List Row) → kinds ≡ [] → of_rows rows ≡ reading_if kinds rows
if_none kinds rows e = ap (λ (k : Kinds). reading_if k rows) (sym e)

if_one : (k : ErrorKind) (kinds : Kinds) (rows : List Row) → (k ≡ OutOfMemory → ⊥) → (k ≡ OutOfMemory) ⊎ IsAmong k kinds → None ≡ reading_if kinds rows
if_one k [] rows n (inl h) = absurd (n h)
if_one k [] rows n (inr h) = absurd h
if_one k (x ∷ xs) rows n h = refl

pub reading_is : (words : List (List ℕ)) (rows : List Row) → fault_of drc_app words ≡ [] → rows ≡ matches_of drc_app words → of_rows rows ≡ reading_of words
unfolding reading_of
reading_is words rows e f = ap of_rows f ∙ if_none (fault_of drc_app words) (matches_of drc_app words) e

pub no_reading : (words : List (List ℕ)) (k : ErrorKind) → (k ≡ OutOfMemory → ⊥) → (k ≡ OutOfMemory) ⊎ IsAmong k (fault_of drc_app words) → None ≡ reading_of words
unfolding reading_of
no_reading words k n h = if_one k (fault_of drc_app words) (matches_of drc_app words) n h

-- values that are the same give the same reading
abbrev by_values : (name count workers project rules script : Option (List ℕ)) → Option Reading
by_values name count workers project rules script = reading_with (source_of name count) (workers_of workers) project rules script

pub same_values : (f g : List ℕ → Option (List ℕ)) → ((name : List ℕ) → f name ≡ g name) → reading_by f ≡ reading_by g
same_values f g same =
    let name = codes "BOARD" in
    let count = codes "make" in
    let workers = codes "workers" in
    let project = codes "project" in
    let rules = codes "rules" in
    let script = codes "script" in
    ap (λ (x : Option (List ℕ)). by_values x (f count) (f workers) (f project) (f rules) (f script)) (same name)
    ∙ (ap (λ (x : Option (List ℕ)). by_values (g name) x (f workers) (f project) (f rules) (f script)) (same count)
    ∙ (ap (λ (x : Option (List ℕ)). by_values (g name) (g count) x (f project) (f rules) (f script)) (same workers)
    ∙ (ap (λ (x : Option (List ℕ)). by_values (g name) (g count) (g workers) x (f rules) (f script)) (same project)
    ∙ (ap (λ (x : Option (List ℕ)). by_values (g name) (g count) (g workers) (g project) x (f script)) (same rules)
    ∙ ap (λ (x : Option (List ℕ)). by_values (g name) (g count) (g workers) (g project) (g rules) x) (same script)))))

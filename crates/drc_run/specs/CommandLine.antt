-- What a whole command line says.
use Rattle.std.specs.Prelude.{ℕ, List, String, drop, map, string_bytes}
use Rattle.run_words.specs.Calls.{PlainCall, call_of}

-- the words behind the program's name, which is the first word
abbrev pub words_after_name : {A : Type 0} → List (String A) → List (List ℕ)
words_after_name line = map string_bytes (drop 1 line)

-- what the words behind the program's name ask for
abbrev pub call_of_line : {A : Type 0} → List (String A) → PlainCall
call_of_line line = call_of (words_after_name line)

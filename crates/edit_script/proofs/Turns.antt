-- Commands and steps of one script: they differ by the forms that only a history has.
use Rattle.std.proofs.Common.{◌≡◌, ◌↔◌, ◌||◌, ℕ, suc, Bool, true, false, List, [], ◌∷◌, ◌++◌, All, map, refl, sym, ap, ◌∙◌, arith}
use Rattle.std.specs.Prelude.{Option, None, Some, Result, Ok, Err, codes, if◌then◌else◌}
use Rattle.std.specs.List.{AllZip}
use Rattle.sexpr_read.specs.declared.place.TextError.{TextError}
use Rattle.sexpr_read.specs.Tree.{Tree, parts}
use Rattle.sexpr_read.specs.Spelling.{SpellsAll}
use Rattle.sexpr_read.specs.TreeRefusals.{refusal_of_all}
use Rattle.edit_script.specs.declared.error.ScriptError.{ScriptError}
use Rattle.edit_script.specs.declared.error.ScriptError.TheVariants.{Text}
use Rattle.edit_script.specs.Commands.{PlainCommand, PlainStep, again, edit, undo, redo, as_steps}
use Rattle.list_read.specs.FirstRefusals.{◌>>=◌, each_of}
use Rattle.list_read.specs.ListHeads.{place, has_word_head}
use Rattle.list_read.specs.TextResults.{IsBehindText}
use Rattle.edit_script.specs.ScriptForms.{bad}
use Rattle.edit_script.specs.CommandsOf.{is_turn, bad_behind, alone, command_of, step_of, commands_of, steps_of}
use Rattle.edit_script.specs.CommandGrammar.{IsCommand, IsStep, edits}
use Rattle.edit_script.specs.ScriptText.{ScriptSays, SaysSteps}
use Rattle.edit_script.proofs.Accepting.{form_of, head_of, commands_accepted, steps_accepted}

-- the step of any other form is its command
step_is : (script : List ℕ) (form : Tree) → is_turn form ≡ false → step_of script form ≡ (command_of script form >>= λ command. Ok (edit command))
unfolding step_of
step_is script form e = by_heads (has_word_head (codes "undo") form) (has_word_head (codes "redo") form) e
  where
    by_heads : (u r : Bool) → (u || r) ≡ false
        → (if u then alone (undo (place form)) form else if r then alone (redo (place form)) form else (command_of script form >>= λ command. Ok (edit command))) ≡ (command_of script form >>= λ command. Ok (edit command))
    by_heads true r e = cc
    by_heads false true e = cc
    by_heads false false e = refl

-- such a form is no command
undo_only : (script : List ℕ) (form : Tree) → has_word_head (codes "undo") form ≡ true → command_of script form ≡ bad form
unfolding command_of
undo_only script form h =
    let f = form_of (codes "undo") form h in
    rw (head_of (codes "undo") (codes "add") form _ f, head_of (codes "undo") (codes "delete") form _ f, head_of (codes "undo") (codes "move") form _ f, head_of (codes "undo") (codes "rules") form _ f, head_of (codes "undo") (codes "again") form _ f) refl

redo_only : (script : List ℕ) (form : Tree) → has_word_head (codes "redo") form ≡ true → command_of script form ≡ bad form
unfolding command_of
redo_only script form h =
    let f = form_of (codes "redo") form h in
    rw (head_of (codes "redo") (codes "add") form _ f, head_of (codes "redo") (codes "delete") form _ f, head_of (codes "redo") (codes "move") form _ f, head_of (codes "redo") (codes "rules") form _ f, head_of (codes "redo") (codes "again") form _ f) refl

no_command : (script : List ℕ) (form : Tree) → is_turn form ≡ true → command_of script form ≡ bad form
no_command script form e = by_heads (has_word_head (codes "undo") form) refl (has_word_head (codes "redo") form) refl e
  where
    by_heads : (u : Bool) → has_word_head (codes "undo") form ≡ u → (r : Bool) → has_word_head (codes "redo") form ≡ r → (u || r) ≡ true → command_of script form ≡ bad form
    by_heads true hu r hr e = undo_only script form hu
    by_heads false hu true hr e = redo_only script form hr
    by_heads false hu false hr e = cc

-- one more command is one more step
one_more : (r : Result PlainCommand ScriptError) (rs : Result (List PlainCommand) ScriptError)
    → ((r >>= λ command. Ok (edit command)) >>= λ x. as_steps rs >>= λ xs. Ok (x ∷ xs)) ≡ as_steps (r >>= λ x. rs >>= λ xs. Ok (x ∷ xs))
one_more (Err e) rs = refl
one_more (Ok c) (Err e) = refl
one_more (Ok c) (Ok cs) = refl

abbrev NoTurns : List Tree → Type 0
NoTurns forms = All (λ form. is_turn form ≡ false) forms

steps_are : (script : List ℕ) (forms : List Tree) → NoTurns forms → each_of (step_of script) forms ≡ as_steps (each_of (command_of script) forms)
unfolding each_of
steps_are script [] h = refl
steps_are script (t ∷ ts) h =
    rw (step_is script t (h 0 t (omega arith)), steps_are script ts (λ k d l. h (suc k) d (omega arith))) (one_more (command_of script t) (each_of (command_of script) ts))

-- ---- commands as steps tell what the commands are

abbrev command_in : PlainStep → PlainCommand
command_in (edit command) = command
command_in (undo at) = again at
command_in (redo at) = again at

back : (cs : List PlainCommand) → map command_in (map (λ command. edit command) cs) ≡ cs
back [] = refl
back (c ∷ cs) = ap (λ (l : List PlainCommand). c ∷ l) (back cs)

edits_apart : (cs ds : List PlainCommand) → map (λ command. edit command) cs ≡ map (λ command. edit command) ds → cs ≡ ds
edits_apart cs ds e = sym (back cs) ∙ ap (map command_in) e ∙ back ds

apart : (a b : Result (List PlainCommand) ScriptError) → as_steps a ≡ as_steps b → a ≡ b
apart (Ok cs) (Ok ds) e = let same : map (λ command. edit command) cs ≡ map (λ command. edit command) ds = grind (arith, e) in ap (λ (l : List PlainCommand). Ok l) (edits_apart cs ds same)
apart (Ok cs) (Err y) e = absurd (grind (arith, e))
apart (Err x) (Ok ds) e = absurd (grind (arith, e))
apart (Err x) (Err y) e = let same : x ≡ y = grind (arith, e) in ap (λ (z : ScriptError). Err z) same

-- ---- what a text says

abbrev Told : {A : Type 0} → (List ℕ → Tree → Result A ScriptError) → List ℕ → Option TextError → Result A ScriptError → Type 0
Told of text r answer = IsBehindText Text (SpellsAll text) (λ tree told. told ≡ of text tree) r answer

alike_after : (text : List ℕ) → ((tree : Tree) → SpellsAll text tree → NoTurns (parts tree)) → (r : Option TextError) (answer : Result (List PlainCommand) ScriptError)
    → Told commands_of text r answer ↔ Told steps_of text r (as_steps answer)
unfolding commands_of steps_of
alike_after text none (Some e) answer = (λ h. ap as_steps h, λ h. apart answer (Err (Text e)) h)
alike_after text none None answer = (
  λ h. (h.0, h.1, ap as_steps h.2 ∙ sym (steps_are text (parts h.0) (none h.0 h.1))),
  λ h. (h.0, h.1, apart answer (each_of (command_of text) (parts h.0)) (h.2 ∙ steps_are text (parts h.0) (none h.0 h.1))),
)

pub alike : (text : List ℕ) → ((tree : Tree) → SpellsAll text tree → NoTurns (parts tree)) → (answer : Result (List PlainCommand) ScriptError) → ScriptSays text answer ↔ SaysSteps text (as_steps answer)
alike text none answer = alike_after text none (refusal_of_all text) answer

-- ---- commands that are accepted are so as steps

to_edits : (script : List ℕ) (forms : List Tree) (cs : List PlainCommand) → AllZip (IsCommand script) forms cs → AllZip (IsStep script) forms (map (λ command. edit command) cs)
to_edits script [] [] h = tt
to_edits script [] (c ∷ cs) h = absurd h
to_edits script (t ∷ ts) [] h = absurd h
to_edits script (t ∷ ts) (c ∷ cs) h = (edits c h.0, to_edits script ts cs h.1)

command_from : (script : List ℕ) (form : Tree) (c : PlainCommand) → IsStep script form (edit c) → IsCommand script form c
command_from script form c (edits d h) = h

from_edits : (script : List ℕ) (forms : List Tree) (cs : List PlainCommand) → AllZip (IsStep script) forms (map (λ command. edit command) cs) → AllZip (IsCommand script) forms cs
from_edits script [] [] h = tt
from_edits script [] (c ∷ cs) h = absurd h
from_edits script (t ∷ ts) [] h = absurd h
from_edits script (t ∷ ts) (c ∷ cs) h = (command_from script t c h.0, from_edits script ts cs h.1)

accepted_after : (text : List ℕ) (r : Option TextError) (cs : List PlainCommand) → Told commands_of text r (Ok cs) ↔ Told steps_of text r (Ok (map (λ command. edit command) cs))
accepted_after text (Some e) cs = (λ h. absurd (grind (arith, h)), λ h. absurd (grind (arith, h)))
accepted_after text None cs = (
  λ h. (h.0, h.1, sym ((steps_accepted text h.0 (map (λ command. edit command) cs)).1 (to_edits text (parts h.0) cs ((commands_accepted text h.0 cs).0 (sym h.2))))),
  λ h. (h.0, h.1, sym ((commands_accepted text h.0 cs).1 (from_edits text (parts h.0) cs ((steps_accepted text h.0 (map (λ command. edit command) cs)).0 (sym h.2))))),
)

pub accepted : (text : List ℕ) (cs : List PlainCommand) → ScriptSays text (Ok cs) ↔ SaysSteps text (Ok (map (λ command. edit command) cs))
accepted text cs = accepted_after text (refusal_of_all text) cs

-- ---- the first form that is no command because only a history has it

-- bad there, unless the commands before are refused
abbrev stops : Tree → Result (List PlainCommand) ScriptError → Result (List PlainCommand) ScriptError
stops turn r = bad_behind turn r

stopped : (turn : Tree) (x : PlainCommand) (r : Result (List PlainCommand) ScriptError) → (stops turn r >>= λ xs. Ok (x ∷ xs)) ≡ stops turn (r >>= λ xs. Ok (x ∷ xs))
stopped turn x (Ok cs) = refl
stopped turn x (Err e) = refl

up_to : (script : List ℕ) (prefix rest : List Tree) (turn : Tree) → is_turn turn ≡ true → each_of (command_of script) (prefix ++ turn ∷ rest) ≡ stops turn (each_of (command_of script) prefix)
unfolding each_of
up_to script [] rest turn e = rw (no_command script turn e) refl
up_to script (t ∷ ts) rest turn e = by_first (command_of script t) (up_to script ts rest turn e)
  where
    by_first : (r : Result PlainCommand ScriptError) → each_of (command_of script) (ts ++ turn ∷ rest) ≡ stops turn (each_of (command_of script) ts)
        → (r >>= λ x. each_of (command_of script) (ts ++ turn ∷ rest) >>= λ xs. Ok (x ∷ xs)) ≡ stops turn (r >>= λ x. each_of (command_of script) ts >>= λ xs. Ok (x ∷ xs))
    by_first (Err z) later = refl
    by_first (Ok x) later = ap (λ (r : Result (List PlainCommand) ScriptError). r >>= λ xs. Ok (x ∷ xs)) later ∙ stopped turn x (each_of (command_of script) ts)

abbrev stops_steps : Tree → Result (List PlainStep) ScriptError → Result (List PlainCommand) ScriptError
stops_steps turn r = bad_behind turn r

either_way : (turn : Tree) (r : Result (List PlainCommand) ScriptError) → stops turn r ≡ stops_steps turn (as_steps r)
either_way turn (Ok cs) = refl
either_way turn (Err e) = refl

pub turned : (script : List ℕ) (root : Tree) (prefix rest : List Tree) (turn : Tree) → parts root ≡ prefix ++ turn ∷ rest → NoTurns prefix → is_turn turn ≡ true
    → commands_of script root ≡ bad_behind turn (each_of (step_of script) prefix)
unfolding commands_of
turned script root prefix rest turn p none e =
    ap (each_of (command_of script)) p ∙ up_to script prefix rest turn e ∙ either_way turn (each_of (command_of script) prefix)
    ∙ ap (stops_steps turn) (sym (steps_are script prefix none))

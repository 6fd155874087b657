-- A script is accepted where its forms are commands, and its commands are those.
use Rattle.std.proofs.Common.{◌≡◌, ◌↔◌, ℕ, Bool, true, false, not, ◌&&◌, List, [], ◌∷◌, refl, ap, ◌∙◌, subst, arith, bytes_eq}
use Rattle.std.specs.Prelude.{ℤ, Option, None, Some, Result, Ok, Err, codes, if◌then◌else◌}
use Rattle.std.specs.List.{AllZip}
use Rattle.std.proofs.lemmas.Slice.Eq.{bytes_eq-Decides}
use Rattle.sexpr_read.specs.Tree.{Tree, leaf, branch, parts, content, value, quoted, is_list}
use Rattle.exact_dec.specs.declared.DecError.{DecError}
use Rattle.exact_dec.specs.Computed.{mm_cut_answer}
use Rattle.edit_script.specs.declared.error.ScriptError.{ScriptError}
use Rattle.list_read.specs.FirstRefusals.{◌>>=◌, each_of}
use Rattle.list_read.specs.ListHeads.{place, text_of, is_value, first_is_word, has_word_head, behind_one, behind_head}
use Rattle.edit_script.specs.ScriptForms.{bad, no_more, shift_from, shift_in, shift_of}
use Rattle.edit_script.specs.Commands.{PlainCommand, PlainStep, add, delete, move, again, edit, undo, redo}
use Rattle.edit_script.specs.CommandsOf.{standing, added_among, added, deleted_among, deleted, moved_among, moved, ruled, alone, command_of, step_of, commands_of, steps_of}
use Rattle.edit_script.specs.CommandGrammar.{IsForm, IsShift, IsCommand, adds, deletes, moves, replaces, repeats, IsStep, edits, undoes, redoes}

-- ---- heads

value_is : (v : Option (List ℕ)) (word : List ℕ) → is_value v word ≡ true → v ≡ Some word
value_is None word e = cc
value_is (Some v) word e = ap (λ (w : List ℕ). Some w) ((bytes_eq-Decides v word).0 cc)

is_form : (word : List ℕ) (form : Tree) (ts : List Tree) → parts form ≡ ts → first_is_word ts word ≡ true → IsForm word form (behind_one ts)
is_form word form [] p e = cc
is_form word form (t ∷ ts) p e = by_quotes (quoted t) refl e
  where
    by_quotes : (q : Bool) → quoted t ≡ q → (not q && is_value (value t) word) ≡ true → IsForm word form ts
    by_quotes true q e = cc
    by_quotes false q e = record { head = t; parts_are = p; unquoted = q; says = value_is (value t) word e }

pub form_of : (word : List ℕ) (form : Tree) → has_word_head word form ≡ true → IsForm word form (behind_head form)
unfolding has_word_head behind_head
form_of word form e = is_form word form (parts form) refl e

-- a form has no other head
pub head_of : (word other : List ℕ) (form : Tree) (behind : List Tree) → IsForm word form behind → has_word_head other form ≡ bytes_eq word other
unfolding has_word_head
head_of word other form behind h = rw (h.parts_are, h.unquoted, h.says) refl

behind_of : (word : List ℕ) (form : Tree) (behind : List Tree) → IsForm word form behind → behind_head form ≡ behind
unfolding behind_head
behind_of word form behind h = ap behind_one h.parts_are

-- ---- atoms

atom_value : (t : Tree) → is_list t ≡ false → value t ≡ Some (text_of t)
atom_value (leaf s true c) e = refl
atom_value (leaf s false c) e = refl
atom_value (branch s inside) e = cc

value_atom : (t : Tree) (name : List ℕ) → value t ≡ Some name → is_list t ≡ false
value_atom (leaf s q c) name e = refl
value_atom (branch s inside) name e = cc

is_shift : (t : Tree) (n : ℤ) → shift_of t ≡ Ok n → IsShift t n
unfolding shift_of
is_shift t n e = by_content (content t) refl e
  where
    by_number : (text : List ℕ) (r : Result ℤ DecError) → content t ≡ Some text → mm_cut_answer text ≡ r → shift_from t r ≡ Ok n → IsShift t n
    by_number text (Ok m) a b e = let same : m ≡ n = grind (arith, e) in record { text = text; atom = a; number = b ∙ ap (λ (k : ℤ). Ok k) same }
    by_number text (Err x) a b e = absurd (grind (arith, e))

    by_content : (c : Option (List ℕ)) → content t ≡ c → shift_in t c ≡ Ok n → IsShift t n
    by_content None a e = absurd (grind (arith, e))
    by_content (Some text) a e = by_number text (mm_cut_answer text) a refl e

shift_is : (t : Tree) (n : ℤ) → IsShift t n → shift_of t ≡ Ok n
unfolding shift_of
shift_is t n h = rw (h.atom, h.number) refl

-- ---- each form

module _ (script : List ℕ) (form : Tree) where
  to_added : (ts : List Tree) (c : PlainCommand) → IsForm (codes "add") form ts → added_among script form ts ≡ Ok c → IsCommand script form c
  to_added [] c h e = absurd (grind (arith, e))
  to_added (t ∷ ts) c h e = by_list (is_list t) refl ts h e
    where
      by_list : (b : Bool) → is_list t ≡ b → (ts : List Tree) → IsForm (codes "add") form (t ∷ ts)
          → ((if b then Ok t else bad t) >>= λ list. no_more ts >>= λ whole. Ok (add (standing script list) (place list))) ≡ Ok c → IsCommand script form c
      by_list false b ts h e = absurd (grind (arith, e))
      by_list true b (u ∷ us) h e = absurd (grind (arith, e))
      by_list true b [] h e = let same : add (standing script t) (place t) ≡ c = grind (arith, e) in subst (IsCommand script form) same (adds t h b)

  to_deleted : (ts : List Tree) (c : PlainCommand) → IsForm (codes "delete") form ts → deleted_among form ts ≡ Ok c → IsCommand script form c
  to_deleted [] c h e = absurd (grind (arith, e))
  to_deleted (t ∷ ts) c h e = by_list (is_list t) refl ts h e
    where
      by_list : (b : Bool) → is_list t ≡ b → (ts : List Tree) → IsForm (codes "delete") form (t ∷ ts)
          → ((if b then bad t else Ok t) >>= λ name. no_more ts >>= λ whole. Ok (delete (text_of name) (place form))) ≡ Ok c → IsCommand script form c
      by_list true b ts h e = absurd (grind (arith, e))
      by_list false b (u ∷ us) h e = absurd (grind (arith, e))
      by_list false b [] h e = let same : delete (text_of t) (place form) ≡ c = grind (arith, e) in subst (IsCommand script form) same (deletes t (text_of t) h (atom_value t b))

  to_moved : (ts : List Tree) (c : PlainCommand) → IsForm (codes "move") form ts → moved_among form ts ≡ Ok c → IsCommand script form c
  to_moved [] c h e = absurd (grind (arith, e))
  to_moved (t ∷ []) c h e = absurd (grind (arith, e))
  to_moved (t ∷ x ∷ []) c h e = absurd (grind (arith, e))
  to_moved (t ∷ x ∷ y ∷ ts) c h e = by_list (is_list t) refl (shift_of x) refl (shift_of y) refl ts h e
    where
      by_list : (b : Bool) → is_list t ≡ b → (rx : Result ℤ ScriptError) → shift_of x ≡ rx → (ry : Result ℤ ScriptError) → shift_of y ≡ ry → (ts : List Tree) → IsForm (codes "move") form (t ∷ x ∷ y ∷ ts)
          → ((if b then bad t else Ok t) >>= λ name. rx >>= λ dx. ry >>= λ dy. no_more ts >>= λ whole. Ok (move (text_of name) dx dy (place form))) ≡ Ok c → IsCommand script form c
      by_list true b rx ex ry ey ts h e = absurd (grind (arith, e))
      by_list false b (Err z) ex ry ey ts h e = absurd (grind (arith, e))
      by_list false b (Ok dx) ex (Err z) ey ts h e = absurd (grind (arith, e))
      by_list false b (Ok dx) ex (Ok dy) ey (u ∷ us) h e = absurd (grind (arith, e))
      by_list false b (Ok dx) ex (Ok dy) ey [] h e =
          let same : move (text_of t) dx dy (place form) ≡ c = grind (arith, e) in
          subst (IsCommand script form) same (moves t x y (text_of t) dx dy h (atom_value t b) (is_shift x dx ex) (is_shift y dy ey))

  nothing_behind : {A : Type 0} (a c : A) (ts : List Tree) → (no_more ts >>= λ whole. Ok a) ≡ Ok c → (ts ≡ []) × (a ≡ c)
  nothing_behind a c [] e = (refl, grind (arith, e))
  nothing_behind a c (t ∷ ts) e = absurd (grind (arith, e))

  to_alone : {A : Type 0} (word : List ℕ) (a c : A) → has_word_head word form ≡ true → alone a form ≡ Ok c → IsForm word form [] × (a ≡ c)
  to_alone word a c h e = let n = nothing_behind a c (behind_head form) e in (subst (IsForm word form) n.0 (form_of word form h), n.1)

  to_command : (c : PlainCommand) → command_of script form ≡ Ok c → IsCommand script form c
  unfolding command_of added deleted moved
  to_command c e = by_add (has_word_head (codes "add") form) refl e
    where
      by_again : (b : Bool) → has_word_head (codes "again") form ≡ b → (if b then alone (again (place form)) form else bad form) ≡ Ok c → IsCommand script form c
      by_again true h e = let n = to_alone (codes "again") (again (place form)) c h e in subst (IsCommand script form) n.1 (repeats n.0)
      by_again false h e = absurd (grind (arith, e))

      by_rules : (b : Bool) → has_word_head (codes "rules") form ≡ b → (if b then Ok (ruled script form) else if has_word_head (codes "again") form then alone (again (place form)) form else bad form) ≡ Ok c → IsCommand script form c
      by_rules true h e = let same : ruled script form ≡ c = grind (arith, e) in subst (IsCommand script form) same (replaces (behind_head form) (form_of (codes "rules") form h))
      by_rules false h e = by_again (has_word_head (codes "again") form) refl e

      by_move : (b : Bool) → has_word_head (codes "move") form ≡ b → (if b then moved form else if has_word_head (codes "rules") form then Ok (ruled script form) else if has_word_head (codes "again") form then alone (again (place form)) form else bad form) ≡ Ok c → IsCommand script form c
      by_move true h e = to_moved (behind_head form) c (form_of (codes "move") form h) e
      by_move false h e = by_rules (has_word_head (codes "rules") form) refl e

      by_delete : (b : Bool) → has_word_head (codes "delete") form ≡ b → (if b then deleted form else if has_word_head (codes "move") form then moved form else if has_word_head (codes "rules") form then Ok (ruled script form) else if has_word_head (codes "again") form then alone (again (place form)) form else bad form) ≡ Ok c → IsCommand script form c
      by_delete true h e = to_deleted (behind_head form) c (form_of (codes "delete") form h) e
      by_delete false h e = by_move (has_word_head (codes "move") form) refl e

      by_add : (b : Bool) → has_word_head (codes "add") form ≡ b → (if b then added script form else if has_word_head (codes "delete") form then deleted form else if has_word_head (codes "move") form then moved form else if has_word_head (codes "rules") form then Ok (ruled script form) else if has_word_head (codes "again") form then alone (again (place form)) form else bad form) ≡ Ok c → IsCommand script form c
      by_add true h e = to_added (behind_head form) c (form_of (codes "add") form h) e
      by_add false h e = by_delete (has_word_head (codes "delete") form) refl e

  from_command : (c : PlainCommand) → IsCommand script form c → command_of script form ≡ Ok c
  unfolding command_of added deleted moved
  from_command c (adds t h l) = rw (head_of (codes "add") (codes "add") form (t ∷ []) h, behind_of (codes "add") form (t ∷ []) h, l) refl
  from_command c (deletes t name h v) =
      rw (head_of (codes "delete") (codes "add") form (t ∷ []) h, head_of (codes "delete") (codes "delete") form (t ∷ []) h, behind_of (codes "delete") form (t ∷ []) h, value_atom t name v, v) refl
  from_command c (moves t x y name dx dy h v hx hy) =
      let ts = t ∷ x ∷ y ∷ [] in
      let w = codes "move" in
      rw (head_of w (codes "add") form ts h, head_of w (codes "delete") form ts h, head_of w (codes "move") form ts h, behind_of w form ts h, value_atom t name v, shift_is x dx hx, shift_is y dy hy, v) refl
  from_command c (replaces ts h) =
      let w = codes "rules" in
      rw (head_of w (codes "add") form ts h, head_of w (codes "delete") form ts h, head_of w (codes "move") form ts h, head_of w (codes "rules") form ts h) refl
  from_command c (repeats h) =
      let w = codes "again" in
      rw (head_of w (codes "add") form [] h, head_of w (codes "delete") form [] h, head_of w (codes "move") form [] h, head_of w (codes "rules") form [] h, head_of w (codes "again") form [] h, behind_of w form [] h) refl

  to_edit : (r : Result PlainCommand ScriptError) (s : PlainStep) → command_of script form ≡ r → (r >>= λ command. Ok (edit command)) ≡ Ok s → IsStep script form s
  to_edit (Err x) s h e = absurd (grind (arith, e))
  to_edit (Ok c) s h e = let same : edit c ≡ s = grind (arith, e) in subst (IsStep script form) same (edits c (to_command c h))

  to_step : (s : PlainStep) → step_of script form ≡ Ok s → IsStep script form s
  unfolding step_of
  to_step s e = by_undo (has_word_head (codes "undo") form) refl e
    where
      by_redo : (b : Bool) → has_word_head (codes "redo") form ≡ b → (if b then alone (redo (place form)) form else (command_of script form >>= λ command. Ok (edit command))) ≡ Ok s → IsStep script form s
      by_redo true h e = let n = to_alone (codes "redo") (redo (place form)) s h e in subst (IsStep script form) n.1 (redoes n.0)
      by_redo false h e = to_edit (command_of script form) s refl e

      by_undo : (b : Bool) → has_word_head (codes "undo") form ≡ b → (if b then alone (undo (place form)) form else if has_word_head (codes "redo") form then alone (redo (place form)) form else (command_of script form >>= λ command. Ok (edit command))) ≡ Ok s → IsStep script form s
      by_undo true h e = let n = to_alone (codes "undo") (undo (place form)) s h e in subst (IsStep script form) n.1 (undoes n.0)
      by_undo false h e = by_redo (has_word_head (codes "redo") form) refl e

  -- a command has none of the two heads of steps
  no_step : (c : PlainCommand) → IsCommand script form c → (has_word_head (codes "undo") form ≡ false) × (has_word_head (codes "redo") form ≡ false)
  no_step c (adds t h l) = (head_of (codes "add") (codes "undo") form (t ∷ []) h, head_of (codes "add") (codes "redo") form (t ∷ []) h)
  no_step c (deletes t name h v) = (head_of (codes "delete") (codes "undo") form (t ∷ []) h, head_of (codes "delete") (codes "redo") form (t ∷ []) h)
  no_step c (moves t x y name dx dy h v hx hy) = (head_of (codes "move") (codes "undo") form (t ∷ x ∷ y ∷ []) h, head_of (codes "move") (codes "redo") form (t ∷ x ∷ y ∷ []) h)
  no_step c (replaces ts h) = (head_of (codes "rules") (codes "undo") form ts h, head_of (codes "rules") (codes "redo") form ts h)
  no_step c (repeats h) = (head_of (codes "again") (codes "undo") form [] h, head_of (codes "again") (codes "redo") form [] h)

  from_step : (s : PlainStep) → IsStep script form s → step_of script form ≡ Ok s
  unfolding step_of
  from_step s (edits c h) = let n = no_step c h in rw (n.0, n.1, from_command c h) refl
  from_step s (undoes h) = rw (head_of (codes "undo") (codes "undo") form [] h, behind_of (codes "undo") form [] h) refl
  from_step s (redoes h) = rw (head_of (codes "redo") (codes "undo") form [] h, head_of (codes "redo") (codes "redo") form [] h, behind_of (codes "redo") form [] h) refl

-- ---- all forms

module _ {A : Type 0} (read : Tree → Result A ScriptError) (R : Tree → A → Type 0) (to : (t : Tree) (x : A) → read t ≡ Ok x → R t x) (from : (t : Tree) (x : A) → R t x → read t ≡ Ok x) where
  to_all : (ts : List Tree) (xs : List A) → each_of read ts ≡ Ok xs → AllZip R ts xs
  unfolding each_of
  to_all [] [] e = tt
  to_all [] (x ∷ xs) e = absurd (grind (arith, e))
  to_all (t ∷ ts) xs e = by_first (read t) refl (each_of read ts) refl e (λ ys h. to_all ts ys h)
    where
      by_first : (r : Result A ScriptError) → read t ≡ r → (rs : Result (List A) ScriptError) → each_of read ts ≡ rs → (r >>= λ x. rs >>= λ xs. Ok (x ∷ xs)) ≡ Ok xs
          → ((ys : List A) → each_of read ts ≡ Ok ys → AllZip R ts ys) → AllZip R (t ∷ ts) xs
      by_first (Err z) h rs hs e later = absurd (grind (arith, e))
      by_first (Ok x) h (Err z) hs e later = absurd (grind (arith, e))
      by_first (Ok x) h (Ok ys) hs e later = let same : x ∷ ys ≡ xs = grind (arith, e) in subst (AllZip R (t ∷ ts)) same (to t x h, later ys hs)

  from_all : (ts : List Tree) (ys : List A) → AllZip R ts ys → each_of read ts ≡ Ok ys
  unfolding each_of
  from_all [] [] h = refl
  from_all [] (y ∷ ys) h = absurd h
  from_all (t ∷ ts) [] h = absurd h
  from_all (t ∷ ts) (y ∷ ys) h = rw (from t y h.0, from_all ts ys h.1) refl

  both : (ts : List Tree) (xs : List A) → (each_of read ts ≡ Ok xs) ↔ AllZip R ts xs
  both ts xs = (λ e. to_all ts xs e, λ h. from_all ts xs h)

pub commands_accepted : (script : List ℕ) (root : Tree) (commands : List PlainCommand) → (commands_of script root ≡ Ok commands) ↔ AllZip (IsCommand script) (parts root) commands
unfolding commands_of
commands_accepted script root commands = both (command_of script) (IsCommand script) (to_command script) (from_command script) (parts root) commands

pub steps_accepted : (script : List ℕ) (root : Tree) (steps : List PlainStep) → (steps_of script root ≡ Ok steps) ↔ AllZip (IsStep script) (parts root) steps
unfolding steps_of
steps_accepted script root steps = both (step_of script) (IsStep script) (to_step script) (from_step script) (parts root) steps

-- Turns as they are taken, and how a run ends after them.
use Rattle.std.proofs.Common.{◌≡◌, ◌∙◌, ◌⊎◌, inl, inr, refl, sym, ap, subst, ℕ, ◌+◌, ◌<◌, ◌≤◌, Bool, true, false, List, [], ◌∷◌, ◌++◌, length, map, take, drop, get_or, take-append-drop, append-nil, length-append, All, Option, Result, Ok, Err, IfOk, IfErr, MatchResult, arith}
use Rattle.std.specs.Io.KnownBytes.{Appends, Keeps}
use Rattle.std.proofs.KnownBytes.{Appends-nil, Appends-trans, Appends-kept}
use Rattle.std.proofs.lemmas.List.{get_or-map, length-map, map-append, map_more}
use Rattle.drc_io.specs.FaultCounts.{Rose}
use Rattle.drc_io.specs.Sinks.{AppendsPrefix, Writes}
use Rattle.drc_io.specs.declared.Failed.{Failed}
use Rattle.drc_io.proofs.Writing.{AppendsPrefix-after}
use Rattle.pair_check.specs.PlainRow.{PlainRow}
use Rattle.edit_script.specs.Commands.{PlainCommand}
use Rattle.drc_state.specs.declared.error.EditError.{EditError}
use Rattle.drc_state.specs.declared.error.EditError.TheVariants.{NoSuchItem, SharedName, PartOfFootprint, Item, Rules, Stopped, OutOfMemory as NoMemory}
use Rattle.drc_state.specs.States.{State}
use Rattle.drc_state.specs.CommandSteps.{Answers}
use Rattle.drc_session.specs.Sessions.{PlainSession, IsRefusedBy}
use Rattle.run_output.specs.declared.breaks.Break.{Break}
use Rattle.run_output.specs.declared.breaks.Break.TheVariants.{Unwritten}
use Rattle.run_output.specs.declared.status.Status.{Status}
use Rattle.run_output.specs.declared.status.Status.TheVariants.{WriteFault}
use Rattle.run_output.specs.Reports.{AreFindings, IsOpening, report_text, refused_line, why_edit}
use Rattle.run_output.specs.CommandOutputs.{AreTurns, IsTurn, refused}
use Rattle.run_output.specs.Output.{Output, status_of, IsStatusOf, IsToldBy, IsToldSoFarBy}
use Rattle.run_output.specs.RunEndings.{Whole, Prefix, Ends, number_of}
use Rattle.run_output.specs.RunResults.{found_of, IsTurnTaken, IsBroken, AreTaken, AreBroken, IsAnswered, IsEditAnswered, memory_ran_out, line, SoFar}
use Rattle.run_output.proofs.TurnLists.{one_more}
use Rattle.run_output.proofs.Written.{reporting}

-- ---- one turn

-- its text was written, or a prefix of that
module _ {S C : Type 0} (Turn : ℕ → S → C → S → List ℕ → Type 0) (number : ℕ) (s : S) (command : C) (next : S) (old new : Option (List ℕ)) (m n : ℕ) (text : List ℕ) (turn : Turn number s command next text) where
  pub taken_by : (r : Result (Unit {0}) Failed) (b : Result (Unit {0}) Break) → MatchResult r (λ u. b ≡ Ok u) (λ _. b ≡ Err Unwritten) → Writes {T = Unit {0}} {E = Failed} old new m n text r
      → IfOk b (λ _. IsTurnTaken Turn number s command next old new)
  taken_by (Ok u) b e w = subst (λ (x : Result (Unit {0}) Break). IfOk x (λ _. IsTurnTaken Turn number s command next old new)) (sym e) (record { text = text; turn = turn; written = w.bytes })
  taken_by (Err f) b e w = subst (λ (x : Result (Unit {0}) Break). IfOk x (λ _. IsTurnTaken Turn number s command next old new)) (sym e) tt

  pub broken_by : (r : Result (Unit {0}) Failed) (b : Result (Unit {0}) Break) → MatchResult r (λ u. b ≡ Ok u) (λ _. b ≡ Err Unwritten) → Writes {T = Unit {0}} {E = Failed} old new m n text r
      → IfErr b (λ _. Keeps old new ⊎ IsBroken Turn number s command old new)
  broken_by (Ok u) b e w = subst (λ (x : Result (Unit {0}) Break). IfErr x (λ _. Keeps old new ⊎ IsBroken Turn number s command old new)) (sym e) tt
  broken_by (Err f) b e w =
      subst (λ (x : Result (Unit {0}) Break). IfErr x (λ _. Keeps old new ⊎ IsBroken Turn number s command old new)) (sym e) (inr (record { next = next; text = text; turn = turn; written = w.bytes }))

-- what is refused but for running out of memory
refused_is : (old new : PlainSession) (command : PlainCommand) (why : EditError) → old.stopped ≡ false → (why ≡ NoMemory → ⊥) → IsRefusedBy old new command why → Answers old.state command (Err why) × (new ≡ old)
refused_is old new command NoSuchItem runs n h = (h.1, h.2)
refused_is old new command SharedName runs n h = (h.1, h.2)
refused_is old new command PartOfFootprint runs n h = (h.1, h.2)
refused_is old new command (Item e) runs n h = (h.1, h.2)
refused_is old new command (Rules e) runs n h = (h.1, h.2)
refused_is old new command Stopped runs n h = let both : true ≡ false = sym h.0 ∙ runs in absurd (cc)
refused_is old new command NoMemory runs n h = absurd (n refl)

module _ (short : Bool) (number : ℕ) (was is : PlainSession) (command : PlainCommand) (why : EditError) (old new : Option (List ℕ)) (m n : ℕ) (b : Result (Unit {0}) Break)
    (runs : was.stopped ≡ false) (by : IsRefusedBy was is command why) where
  its_turn : (why ≡ NoMemory → ⊥) → IsTurn short number was.state command is.state (refused_line number (why_edit why))
  its_turn other = let h = refused_is was is command why runs other by in refused why h.0 (ap (λ (x : PlainSession). x.state) h.1) refl

  pub refused_taken : IsEditAnswered number why old new m n b → IfOk b (λ _. IsTurnTaken (IsTurn short) number was.state command is.state old new)
  refused_taken (memory_ran_out w e k f) = subst (λ (x : Result (Unit {0}) Break). IfOk x (λ _. IsTurnTaken (IsTurn short) number was.state command is.state old new)) (sym e) tt
  refused_taken (line other r w e) = taken_by (IsTurn short) number was.state command is.state old new m n (refused_line number (why_edit why)) (its_turn other) r b e w

  pub refused_runs : IsEditAnswered number why old new m n b → IfOk b (λ _. is.stopped ≡ false)
  refused_runs (memory_ran_out w e k f) = subst (λ (x : Result (Unit {0}) Break). IfOk x (λ _. is.stopped ≡ false)) (sym e) tt
  refused_runs (line other r w e) = always b (ap (λ (x : PlainSession). x.stopped) (refused_is was is command why runs other by).1 ∙ runs)
    where
      always : (x : Result (Unit {0}) Break) → is.stopped ≡ false → IfOk x (λ _. is.stopped ≡ false)
      always (Ok u) h = h
      always (Err e) h = tt

  pub refused_broken : IsEditAnswered number why old new m n b → IfErr b (λ _. Keeps old new ⊎ IsBroken (IsTurn short) number was.state command old new)
  refused_broken (memory_ran_out w e k f) = subst (λ (x : Result (Unit {0}) Break). IfErr x (λ _. Keeps old new ⊎ IsBroken (IsTurn short) number was.state command old new)) (sym e) (inl k)
  refused_broken (line other r w e) = broken_by (IsTurn short) number was.state command is.state old new m n (refused_line number (why_edit why)) (its_turn other) r b e w

-- a write failed where its fault rose
pub fault_by : (old new : Option (List ℕ)) (m n : ℕ) (text : List ℕ) (r : Result (Unit {0}) Failed) (b : Result (Unit {0}) Break) → MatchResult r (λ u. b ≡ Ok u) (λ _. b ≡ Err Unwritten)
    → Writes {T = Unit {0}} {E = Failed} old new m n text r → b ≡ Err Unwritten → Rose m n
fault_by old new m n text (Ok u) b e w f = absurd (cc)
fault_by old new m n text (Err x) b e w f = w.failed

pub refused_fault : (Wants : Type 0) (text : List ℕ) (old new : Option (List ℕ)) (m n : ℕ) (b : Result (Unit {0}) Break) → IsAnswered Wants text old new m n b → b ≡ Err Unwritten → Rose m n
refused_fault Wants text old new m n b (memory_ran_out w e k f) g = absurd (cc)
refused_fault Wants text old new m n b (line other r w e) g = fault_by old new m n text r b e w g

pub refused_later : (Wants : Type 0) (text : List ℕ) (old new : Option (List ℕ)) (m n : ℕ) (b : Result (Unit {0}) Break) → IsAnswered Wants text old new m n b → m ≤ n
refused_later Wants text old new m n b (memory_ran_out w e k f) = omega (arith, f)
refused_later Wants text old new m n b (line other r w e) = w.later

-- ---- one turn after another

module _ {X C : Type 0} (f : X → C) where
  -- commands are those that were carried out, and those that are left
  pub split_at : (xs : List X) (k : ℕ) → map f xs ≡ map f (take k xs) ++ map f (drop k xs)
  split_at xs k = ap (map f) (sym (take-append-drop k xs)) ∙ map-append f (take k xs) (drop k xs)

  -- what all commands have, each has
  pub each_has : (P : C → Type 0) (xs : List X) (k : ℕ) (x : X) → All P (map f xs) → k < length xs → x ≡ get_or xs k x → P (f x)
  each_has P xs k x all h e =
      let long = length-map xs f in
      subst P (get_or-map f xs k x (f x) h ∙ ap f (sym e)) (all k (f x) (omega (arith, long)))

  -- the commands up to one and that one
  pub more_at : (xs : List X) (k : ℕ) (x : X) → k < length xs → x ≡ get_or xs k x → map f (take (k + 1) xs) ≡ map f (take k xs) ++ f x ∷ []
  more_at xs k x h e = map_more f xs k x h ∙ ap (λ y. map f (take k xs) ++ f y ∷ []) (sym e)

pub one_longer : {C : Type 0} (done : List C) (command : C) (k : ℕ) → length done ≡ k → length (done ++ command ∷ []) ≡ k + 1
one_longer done command k e = let long = length-append done (command ∷ []) in omega (arith, long, e)

module _ {S C : Type 0} (Turn : ℕ → S → C → S → List ℕ → Type 0) (s : S) where
  -- before the first
  pub none_taken : (now : S) (old : Option (List ℕ)) (n : ℕ) → now ≡ s → SoFar Turn s [] 0 0 now old old n n
  none_taken now old n same = record { counted = refl; reached = refl; text = []; turns = (same, refl); written = Appends-nil old; later = omega arith }

  module _ (done : List C) (k number : ℕ) (now : S) (old mid new : Option (List ℕ)) (before faults : ℕ) (so : SoFar Turn s done k number now old mid before faults) where
    next_number : (turn : ℕ) → turn ≡ number + 1 → turn ≡ 1 + length done
    next_number turn e = let a = so.counted in let b = so.reached in omega (arith, a, b)

    pub more_taken : (next : S) (turn : ℕ) (later : ℕ) (command : C) → turn ≡ number + 1 → IsTurnTaken Turn turn now command next mid new → faults ≤ later → length (done ++ command ∷ []) ≡ k + 1
        → SoFar Turn s (done ++ command ∷ []) (k + 1) turn next old new before later
    more_taken next turn later command e taken up long = record {
      counted = (let a = so.counted in omega (arith, a));
      reached = long;
      text = so.text ++ taken.text;
      turns = one_more Turn 1 s done now so.text command next taken.text so.turns (subst (λ (m : ℕ). Turn m now command next taken.text) (next_number turn e) taken.turn);
      written = Appends-trans old mid new so.text taken.text so.written taken.written;
      later = (let a = so.later in omega (arith, a));
    }

    pub stopped_before : (commands left : List C) → commands ≡ done ++ left → Keeps mid new → AreBroken Turn s commands old new
    stopped_before commands left split keeps = record {
      text = so.text;
      turns = record { done = done; left = left; split = split; last = now; turns = so.turns };
      written = record { prefix = so.text; rest = []; whole = sym (append-nil so.text); appended = Appends-kept old mid new so.text so.written keeps };
    }

    pub stopped_inside : (commands left : List C) (turn : ℕ) (command : C) → commands ≡ (done ++ command ∷ []) ++ left → turn ≡ number + 1 → IsBroken Turn turn now command mid new → AreBroken Turn s commands old new
    stopped_inside commands left turn command split e broken = record {
      text = so.text ++ broken.text;
      turns = record {
        done = done ++ command ∷ [];
        left = left;
        split = split;
        last = broken.next;
        turns = one_more Turn 1 s done now so.text command broken.next broken.text so.turns (subst (λ (m : ℕ). Turn m now command broken.next broken.text) (next_number turn e) broken.turn);
      };
      written = AppendsPrefix-after old mid new so.text broken.text so.written broken.written;
    }

  pub all_taken : (done commands : List C) (k number : ℕ) (now : S) (old new : Option (List ℕ)) (before faults : ℕ) → SoFar Turn s done k number now old new before faults → done ≡ commands → AreTaken Turn s commands now old new
  all_taken done commands k number now old new before faults so same = record {
    text = so.text;
    turns = subst (λ (cs : List C). AreTurns Turn 1 s cs now so.text) same so.turns;
    written = so.written;
  }

  -- a turn broke off, or nothing of it was written
  pub stopped_at : {X : Type 0} (f : X → C) (xs : List X) (k : ℕ) (x : X) → k < length xs → x ≡ get_or xs k x → (number : ℕ) (now : S) (old mid new : Option (List ℕ)) (before faults : ℕ)
      → SoFar Turn s (map f (take k xs)) k number now old mid before faults → Keeps mid new ⊎ IsBroken Turn (number + 1) now (f x) mid new → AreBroken Turn s (map f xs) old new
  stopped_at f xs k x h e number now old mid new before faults so (inl keeps) =
      stopped_before (map f (take k xs)) k number now old mid new before faults so (map f xs) (map f (drop k xs)) (split_at f xs k) keeps
  stopped_at f xs k x h e number now old mid new before faults so (inr broken) =
      let split = split_at f xs (k + 1) ∙ ap (λ (l : List C). l ++ map f (drop (k + 1) xs)) (more_at f xs k x h e) in
      stopped_inside (map f (take k xs)) k number now old mid new before faults so (map f xs) (map f (drop (k + 1) xs)) (number + 1) (f x) split refl broken

-- a later count rose
pub rose_since : (m n k : ℕ) → m ≤ n → Rose n k → Rose m k
rose_since m n k h (inl r) = inl (omega arith)
rose_since m n k h (inr r) = inr r

-- ---- the end

-- the report of a session is that of the opening, where all tiles that hold an item were gone through
pub opening_is : (short : Bool) (session : PlainSession) (done held : ℕ) → AreFindings session.state (found_of session held) → done ≡ held
    → IsOpening short session.state (report_text short 0 session.state (found_of session held) done)
opening_is short session done held are whole = record {
  found = found_of session held;
  are_findings = are;
  text_is = ap (λ (n : ℕ). report_text short 0 session.state (found_of session held) n) whole;
}

module _ {S C : Type 0} (Turn : ℕ → S → C → S → List ℕ → Type 0) (present : S → State) (short : Bool) (start : S) (commands : List C) (old mid new : Option (List ℕ)) (first : List ℕ) (is : IsOpening short (present start) first) where
  abbrev told : Output → Type 0
  told out = IsToldBy Turn present short start commands out

  abbrev told_so_far : List ℕ → Type 0
  told_so_far text = IsToldSoFarBy Turn present short start commands text

  -- all was written
  pub told_whole : (last : S) (status : Status) → Appends old mid first → AreTaken Turn start commands last mid new → IsStatusOf (present last) (number_of status) → Ends told told_so_far (λ _. ⊥) old new status
  told_whole last status w taken is_status =
      let out : Output = record { text = first ++ taken.text; status = number_of status } in
      let all : told out = record { first = first; first_is = is; rest = taken.text; last = last; turns = taken.turns; text_is = refl; status = is_status } in
      let whole : Whole told old new (number_of status) = (out, all, refl, Appends-trans old mid new first taken.text w taken.written) in
      reporting told told_so_far (λ _. ⊥) old new is_status.rows status is_status.status_is (subst (Whole told old new) is_status.status_is whole)

  -- it broke off behind the opening
  pub told_prefix : Appends old mid first → AreBroken Turn start commands mid new → Prefix told_so_far old new
  told_prefix w broken = inr (
    first ++ broken.text,
    record { first = first; first_is = is; rest = broken.text; turns = broken.turns; text_is = refl },
    AppendsPrefix-after old mid new first broken.text w broken.written,
  )

  -- it broke off in the opening
  pub first_prefix : AppendsPrefix old new first → Prefix told_so_far old new
  first_prefix w = inr (
    first,
    record {
      first = first;
      first_is = is;
      rest = [];
      turns = record { done = []; left = commands; split = refl; last = start; turns = (refl, refl) };
      text_is = sym (append-nil first);
    },
    w,
  )

-- a status of rows is no write fault
pub no_fault : (s : State) (status : Status) → IsStatusOf s (number_of status) → status ≡ WriteFault → ⊥
no_fault s status is e = by_rows is.rows (sym (ap number_of e) ∙ is.status_is)
  where
    by_rows : (rows : List PlainRow) → 5 ≡ status_of rows → ⊥
    by_rows [] h = omega (arith, h)
    by_rows (row ∷ rows) h = omega (arith, h)

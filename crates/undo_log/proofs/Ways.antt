-- What a history keeps leads through its past.
use Rattle.std.proofs.Common.{◌≡◌, refl, sym, ap, subst, ◌∙◌, ℕ, ◌+◌, ◌<◌, ◌≤◌, Bool, false, List, [], ◌∷◌, Ok, if◌then◌else◌, arith}
use Rattle.std.specs.List.{AllZip}
use Rattle.std.proofs.lemmas.List.Elements.{All-weaker}
use Rattle.one_item.specs.declared.item.Item.{Item}
use Rattle.board_items.specs.Boards.{PlainBoard, Rise}
use Rattle.board_edits.specs.Operations.{PlainOperation, nothing, append, put_back, take_out, shift, After}
use Rattle.edit_script.specs.Commands.{PlainCommand}
use Rattle.drc_state.specs.States.{State}
use Rattle.drc_state.specs.CommandSteps.{is_rules}
use Rattle.drc_state.specs.StateChanges.{PlainChange, edit, replace, is_replace, Makes, ChangeFits, returned}
use Rattle.undo_log.specs.Past.{Past, Passed, IsPassedEqualUpToNumbers, ArePastsEqualUpToNumbers, is_again, edited, undone, undone_to, redone, redone_to}
use Rattle.undo_log.specs.Ways.{PlainHistory, AddsNoItems, ChangeLeadsTo, DoLead, AreWays, IsPastOf}

-- the board, or the state, with other numbers that come next
abbrev pub numbered : PlainBoard → ℕ → ℕ → PlainBoard
numbered board id unit = record board { next_id = id; next_unit = unit }

abbrev pub renumbered : State → ℕ → ℕ → State
renumbered s id unit = record s { board = numbered s.board id unit }

-- ---- a change looks at no next number, and keeps both

operation_on : (operation : PlainOperation) (s t : PlainBoard) (id unit : ℕ) → AddsNoItems (edit operation) → After s operation t → After (numbered s id unit) operation (numbered t id unit)
operation_on nothing s t id unit none e = ap (λ (x : PlainBoard). numbered x id unit) e
operation_on (append items) s t id unit none e = absurd none
operation_on (put_back items) s t id unit none m = record { merged = m.merged; others = ap (λ (x : PlainBoard). numbered x id unit) m.others }
operation_on (take_out out) s t id unit none e = ap (λ (x : PlainBoard). numbered x id unit) e
operation_on (shift moved dx dy) s t id unit none m = record { items = m.items; others = ap (λ (x : PlainBoard). numbered x id unit) m.others }

makes_on : (change : PlainChange) (s t : State) (id unit : ℕ) → AddsNoItems change → Makes change s t → Makes change (renumbered s id unit) (renumbered t id unit)
makes_on (edit operation) s t id unit none m = (operation_on operation s.board t.board id unit none m.0, ap (λ (x : State). renumbered x id unit) m.1)
makes_on (replace rules) s t id unit none e = ap (λ (x : State). renumbered x id unit) e

operation_keeps : (operation : PlainOperation) (s t : PlainBoard) → AddsNoItems (edit operation) → After s operation t → t ≡ numbered t s.next_id s.next_unit
operation_keeps nothing s t none e = subst (λ (x : PlainBoard). x ≡ numbered x s.next_id s.next_unit) (sym e) refl
operation_keeps (append items) s t none e = absurd none
operation_keeps (put_back items) s t none m = m.others ∙ ap (λ (x : PlainBoard). numbered x s.next_id s.next_unit) (sym m.others)
operation_keeps (take_out out) s t none e = subst (λ (x : PlainBoard). x ≡ numbered x s.next_id s.next_unit) (sym e) refl
operation_keeps (shift moved dx dy) s t none m = m.others ∙ ap (λ (x : PlainBoard). numbered x s.next_id s.next_unit) (sym m.others)

keeps_numbers : (change : PlainChange) (s t : State) → AddsNoItems change → Makes change s t → t ≡ renumbered t s.board.next_id s.board.next_unit
keeps_numbers (edit operation) s t none m = ap (λ (b : PlainBoard). record t { board = b }) (operation_keeps operation s.board t.board none m.0)
keeps_numbers (replace rules) s t none e = subst (λ (x : State). x ≡ renumbered x s.board.next_id s.board.next_unit) (sym e) refl

-- ---- it fits as well where the numbers are greater

rise_on : (low high more : ℕ) (es : List (ℕ × Item)) → high ≤ more → Rise low high es → Rise low more es
rise_on low high more [] le h = omega (arith, le, h)
rise_on low high more (e ∷ es) le h = (h.0, rise_on (e.0 + 1) high more es le h.1)

fits_on : (change : PlainChange) (s : State) (id unit : ℕ) → AddsNoItems change → s.board.next_id ≤ id → s.board.next_unit ≤ unit → ChangeFits s change → ChangeFits (renumbered s id unit) change
fits_on (edit nothing) s id unit none i u f = tt
fits_on (edit (append items)) s id unit none i u f = absurd none
fits_on (edit (put_back items)) s id unit none i u f = record {
  ids = rise_on 0 s.board.next_id id items i f.ids;
  free = f.free;
  unit = f.unit;
  own = f.own;
  given = All-weaker (λ (e : ℕ × Item). e.1.unit < s.board.next_unit) (λ (e : ℕ × Item). e.1.unit < unit) (λ e h. omega (arith, h, u)) items f.given;
  gone = f.gone;
  admitted = f.admitted;
  few = f.few;
}
fits_on (edit (take_out out)) s id unit none i u f = tt
fits_on (edit (shift moved dx dy)) s id unit none i u f = f
fits_on (replace rules) s id unit none i u f = f

lead_on : (s : State) (id unit : ℕ) (changes : List PlainChange) (passed : List Passed) → s.board.next_id ≤ id → s.board.next_unit ≤ unit → DoLead s changes passed → DoLead (renumbered s id unit) changes passed
lead_on s id unit [] [] i u lead = tt
lead_on s id unit [] (passed ∷ others) i u lead = absurd lead
lead_on s id unit (change ∷ changes) [] i u lead = absurd lead
lead_on s id unit (change ∷ changes) (passed ∷ others) i u lead = (
  record {
    back = record {
      fits = fits_on change s id unit lead.0.adds_none i u lead.0.back.fits;
      leads = makes_on change s (returned passed.state s) id unit lead.0.adds_none lead.0.back.leads;
    };
    adds_none = lead.0.adds_none;
    kind = lead.0.kind;
  },
  lead_on (returned passed.state s) id unit changes others i u lead.1,
)

-- ---- edits

pub one_edit : (old new : State) (command : PlainCommand) (change : PlainChange) (back on : List PlainChange) (past : Past) → AreWays old back on past → is_again command ≡ false → old.board.next_id ≤ new.board.next_id → old.board.next_unit ≤ new.board.next_unit
    → ChangeLeadsTo change new (record { state = old; replaced = is_rules command }) → AreWays new (change ∷ back) [] (edited past command new)
one_edit old new command change back on past ways other i u leads =
    subst (λ (b : Bool). AreWays new (change ∷ back) [] (if b then past else record { earlier = record { state = past.now; replaced = is_rules command } ∷ past.earlier; now = new; later = [] })) (sym other)
    (record {
      present = refl;
      earlier = (
        subst (λ (x : State). ChangeLeadsTo change new (record { state = x; replaced = is_rules command })) (sym ways.present) leads,
        subst (λ (x : State). DoLead (returned x new) back past.earlier) (sym ways.present) (lead_on old new.board.next_id new.board.next_unit back past.earlier i u ways.earlier),
      );
      later = tt;
    })

-- ---- steps back and on

module _ (one_state : (change : PlainChange) (old a b : State) → Makes change old a → Makes change old b → a ≡ b) where
  -- changes lead through states that are alike
  lead_alike : (state : State) (changes : List PlainChange) (passed others : List Passed) → DoLead state changes passed → DoLead state changes others → AllZip IsPassedEqualUpToNumbers passed others
  lead_alike state [] [] [] h k = tt
  lead_alike state [] [] (q ∷ qs) h k = absurd k
  lead_alike state [] (p ∷ ps) others h k = absurd h
  lead_alike state (change ∷ changes) [] others h k = absurd h
  lead_alike state (change ∷ changes) (p ∷ ps) [] h k = absurd k
  lead_alike state (change ∷ changes) (p ∷ ps) (q ∷ qs) h k =
      let same : returned p.state state ≡ returned q.state state = one_state change state (returned p.state state) (returned q.state state) h.0.back.leads k.0.back.leads in (
        record { state = ap (λ (x : State). returned x p.state) same; replaced = sym h.0.kind ∙ k.0.kind },
        lead_alike (returned q.state state) changes ps qs (subst (λ (x : State). DoLead x changes ps) same h.1) k.1,
      )

  pub one_past : (history : PlainHistory) (past other : Past) → IsPastOf history past → IsPastOf history other → ArePastsEqualUpToNumbers past other
  one_past history past other h k = record {
    now = h.present ∙ sym k.present;
    earlier = lead_alike history.session.state history.back past.earlier other.earlier h.earlier k.earlier;
    later = lead_alike history.session.state history.on past.later other.later h.later k.later;
  }

  -- the nearest change on one side is made, and its inverse goes to the other
  turn : (old new : State) (change other : PlainChange) (changes others : List PlainChange) (passed : Passed) (far near : List Passed)
      → DoLead old (change ∷ changes) (passed ∷ far) → DoLead old others near → Makes change old new → ChangeLeadsTo other new (record { state = old; replaced = is_replace change })
      → (new ≡ returned passed.state old) × DoLead new changes far × DoLead new (other ∷ others) (record { state = old; replaced = passed.replaced } ∷ near)
  turn old new change other changes others passed far near lead goes makes leads = (
    one,
    subst (λ (x : State). DoLead x changes far) (sym one) lead.1,
    (
      subst (λ (b : Bool). ChangeLeadsTo other new (record { state = old; replaced = b })) lead.0.kind leads,
      subst (λ (x : State). DoLead x others near) same goes,
    ),
  )
    where
      one : new ≡ returned passed.state old
      one = one_state change old new (returned passed.state old) makes lead.0.back.leads

      same : old ≡ returned old new
      same = ap (λ (x : State). returned old x) (sym (keeps_numbers change old new lead.0.adds_none makes))

  pub one_undo : (old new : State) (change other : PlainChange) (back on : List PlainChange) (past : Past) → AreWays old (change ∷ back) on past → Makes change old new → ChangeLeadsTo other new (record { state = old; replaced = is_replace change })
      → (next : Past) × (undone past ≡ Ok next) × AreWays new back (other ∷ on) next
  one_undo old new change other back on past ways makes leads = by past.earlier refl ways.earlier
    where
      by : (earlier : List Passed) → past.earlier ≡ earlier → DoLead old (change ∷ back) earlier → (next : Past) × (undone past ≡ Ok next) × AreWays new back (other ∷ on) next
      by [] e lead = absurd lead
      by (passed ∷ far) e lead =
          let t = turn old new change other back on passed far past.later lead ways.later makes leads in (
            record { earlier = far; now = returned passed.state past.now; later = record { state = past.now; replaced = passed.replaced } ∷ past.later },
            ap (undone_to past) e,
            record {
              present = ap (returned passed.state) ways.present ∙ sym t.0;
              earlier = t.1;
              later = subst (λ (x : State). DoLead new (other ∷ on) (record { state = x; replaced = passed.replaced } ∷ past.later)) (sym ways.present) t.2;
            },
          )

  pub one_redo : (old new : State) (change other : PlainChange) (back on : List PlainChange) (past : Past) → AreWays old back (change ∷ on) past → Makes change old new → ChangeLeadsTo other new (record { state = old; replaced = is_replace change })
      → (next : Past) × (redone past ≡ Ok next) × AreWays new (other ∷ back) on next
  one_redo old new change other back on past ways makes leads = by past.later refl ways.later
    where
      by : (later : List Passed) → past.later ≡ later → DoLead old (change ∷ on) later → (next : Past) × (redone past ≡ Ok next) × AreWays new (other ∷ back) on next
      by [] e lead = absurd lead
      by (passed ∷ far) e lead =
          let t = turn old new change other on back passed far past.earlier lead ways.earlier makes leads in (
            record { earlier = record { state = past.now; replaced = passed.replaced } ∷ past.earlier; now = returned passed.state past.now; later = far },
            ap (redone_to past) e,
            record {
              present = ap (returned passed.state) ways.present ∙ sym t.0;
              earlier = subst (λ (x : State). DoLead new (other ∷ back) (record { state = x; replaced = passed.replaced } ∷ past.earlier)) (sym ways.present) t.2;
              later = t.1;
            },
          )

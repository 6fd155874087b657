-- The lists of a board's units, by where they stand and by what was read.
use Rattle.std.proofs.Common.{◌≡◌, ◌≢◌, ◌∙◌, inl, inr, is_some, refl, sym, ap, subst, ℕ, suc, zero, ◌+◌, ◌<◌, ◌≤◌, arith, max, Bool, true, false, ◌&&◌, cond, List, [], ◌∷◌, ◌++◌, length, drop, codes, Option, None, Some, Result, Ok, Err}
use Rattle.std.specs.Prelude.{nat_eq, ⊤}
use Rattle.std.proofs.lemmas.Bool.{eqb-true, eq-eqb}
use Rattle.sexpr_read.specs.declared.place.Span.{Span}
use Rattle.sexpr_read.specs.Tree.{Forest, none, atom, list, Tree, leaf, branch, trees, span}
use Rattle.sexpr_read.specs.TreePlaces.{StandBetween}
use Rattle.board_errors.specs.declared.errors.BoardError.{BoardError}
use Rattle.one_item.specs.declared.item.Item.{Item}
use Rattle.board_items.specs.Boards.{PlainBoard, name_of, with_net, with_item}
use Rattle.list_read.specs.FirstRefusals.{◌>>=◌}
use Rattle.list_read.specs.ListHeads.{has_head, text_of}
use Rattle.part_read.specs.ElementResults.{atom_of}
use Rattle.part_read.specs.BoardNumbers.{number_in}
use Rattle.copper_layers.specs.declared.set.LayerSet.{LayerSet}
use Rattle.part_read.specs.BoardLayers.{layers_listed}
use Rattle.roundtrip_text.specs.RewrittenText.{Disposition, stays}
use Rattle.pcb_read.specs.declared.sorts.Sort.{Sort}
use Rattle.pcb_read.specs.Sorts.{sort_of}
use Rattle.pcb_read.specs.Nets.{with_net_of}
use Rattle.pcb_read.specs.BoardOf.{Reading, with_items, with_layers, with_board, with_other, SaysPartBy, SaysPart, SaysParts}
use Rattle.pcb_read.specs.UnitSpans.{with_span, SaysSpans}
use Rattle.roundtrip_boards.specs.WrittenBoard.{Draft, unit_disposition, list_disposition, DispositionsAre}
use Rattle.roundtrip_boards.proofs.Plain.{one_next, atom_sort, atom_other}
use Rattle.board_write.specs.declared.marks.Mark.{Mark}
use Rattle.board_write.specs.declared.marks.Mark.TheVariants.{Stays}
use Rattle.board_write.specs.Marks.{plain_mark, mark_at, mark_in}
use Rattle.board_write.specs.Dispositions.{mark_disposition, same_span, is_first, dispositions_by}
use Rattle.board_write.proofs.Draws.{mark_is_disposition}

abbrev number : Reading → ℕ
number r = r.board.next_unit

-- ---- numbers of units only rise

items_rise : (board : PlainBoard) (items : List Item) → board.next_unit ≤ (with_items board items).next_unit
items_rise board [] = omega arith
items_rise board (item ∷ items) =
    let rest = items_rise (with_item board item) items in
    let one : board.next_unit ≤ max board.next_unit (item.unit + 1) = omega arith in
    omega (arith, rest, one)

net_same : (b : PlainBoard) (n : ℕ) (name : List ℕ) → (with_net b n name).next_unit ≡ b.next_unit
net_same b n name = by_test (is_some (name_of b n))
  where
    by_test : (t : Bool) → (let c : PlainBoard = cond t b (record b { nets = b.nets ++ (n, name) ∷ [] }) in c.next_unit) ≡ b.next_unit
    by_test true = refl
    by_test false = refl

net_of_same : (b c : PlainBoard) (t : Tree) → Ok c ≡ with_net_of b t → c.next_unit ≡ b.next_unit
unfolding with_net_of
net_of_same b c t h = by_first (atom_of 1 t) h
  where
    by_second : (n : ℕ) (r : Result Tree BoardError) → Ok c ≡ (r >>= λ second. Ok (with_net b n (text_of second))) → c.next_unit ≡ b.next_unit
    by_second n (Err e) h = absurd cc
    by_second n (Ok second) h = let e : c ≡ with_net b n (text_of second) = cc in ap (λ (x : PlainBoard). x.next_unit) e ∙ net_same b n (text_of second)

    by_number : (r : Result ℕ BoardError) → Ok c ≡ (r >>= λ n. atom_of 2 t >>= λ second. Ok (with_net b n (text_of second))) → c.next_unit ≡ b.next_unit
    by_number (Err e) h = absurd cc
    by_number (Ok n) h = by_second n (atom_of 2 t) h

    by_first : (r : Result Tree BoardError) → Ok c ≡ (r >>= λ first. number_in first >>= λ n. atom_of 2 t >>= λ second. Ok (with_net b n (text_of second))) → c.next_unit ≡ b.next_unit
    by_first (Err e) h = absurd cc
    by_first (Ok first) h = by_number (number_in first) h

layers_same : (a next : Reading) (t : Tree) → Ok next ≡ with_layers a t → number next ≡ number a
unfolding with_layers
layers_same a next t h = by_test a.layered h
  where
    by_set : (r : Result LayerSet BoardError) → Ok next ≡ (r >>= λ set. Ok (record { board = record a.board { copper = set }; layered = true })) → number next ≡ number a
    by_set (Err e) h = absurd cc
    by_set (Ok set) h = let e : next ≡ record { board = record a.board { copper = set }; layered = true } = cc in ap number e

    by_test : (b : Bool) → Ok next ≡ cond b (Ok a) (layers_listed t >>= λ set. Ok (record { board = record a.board { copper = set }; layered = true })) → number next ≡ number a
    by_test true h = let e : next ≡ a = cc in ap number e
    by_test false h = by_set (layers_listed t) h

other_same : (a next : Reading) (t : Tree) → Ok next ≡ with_other a t → number next ≡ number a
unfolding with_other
other_same a next t h = by_tests (has_head (codes "net") t) (has_head (codes "layers") t) h
  where
    by_net : (r : Result PlainBoard BoardError) → r ≡ with_net_of a.board t → Ok next ≡ with_board a r → number next ≡ number a
    by_net (Err e) is h = absurd cc
    by_net (Ok board) is h = let e : next ≡ record a { board = board } = cc in ap number e ∙ net_of_same a.board board t is

    by_tests : (b c : Bool) → Ok next ≡ cond b (with_board a (with_net_of a.board t)) (cond c (with_layers a t) (Ok a)) → number next ≡ number a
    by_tests true c h = by_net (with_net_of a.board t) refl h
    by_tests false true h = layers_same a next t h
    by_tests false false h = let e : next ≡ a = cc in ap number e

rises_by : (a next : Reading) (t : Tree) (o : Option Sort) → SaysPartBy a t o (Ok next) → number a ≤ number next
rises_by a next t None h = let e = other_same a next t h in omega (arith, e)
rises_by a next t (Some sort) (board, (items, says, with), h) = by_items items (h ∙ ap (with_board a) with)
  where
    by_items : (r : Result (List Item) BoardError) → Ok next ≡ with_board a (r >>= λ found. Ok (with_items a.board found)) → number a ≤ number next
    by_items (Err e) h = absurd cc
    by_items (Ok found) h =
        let e : next ≡ record a { board = with_items a.board found } = cc in
        let same : number next ≡ (with_items a.board found).next_unit = ap number e in
        let rise = items_rise a.board found in
        omega (arith, rise, same)

rises : (a next : Reading) (t : Tree) → SaysPart a t (Ok next) → number a ≤ number next
rises a next t h = rises_by a next t (sort_of t) h

-- the last number is at least so much further as there are spans still to come
low_after : (ts : List Tree) (a z : Reading) (spans : List Span) → SaysParts a ts (Ok z) → SaysSpans a ts spans → number a + length spans ≤ number z
low_after [] a z spans h k = let same : z ≡ a = cc in let n : number z ≡ number a = ap number same in let none_left : length spans ≡ 0 = ap length k in omega (arith, n, none_left)
low_after (t ∷ ts) a z spans (inr (e, part, same)) k = absurd cc
low_after (t ∷ ts) a z spans (inl (next, part, rest)) (other, others, said, more, is) =
    let equal : other ≡ next = one_next a next other t part said in
    let low = low_after ts next z others rest (subst (λ (r : Reading). SaysSpans r ts others) equal more) in
    by_test (nat_eq (number a) (number next)) refl low (is ∙ ap (λ (r : Reading). with_span a r t others) equal)
  where
    by_test : (b : Bool) → nat_eq (number a) (number next) ≡ b → number next + length others ≤ number z → spans ≡ cond (nat_eq (number a) (number next)) others (span t ∷ others) → number a + length spans ≤ number z
    by_test true e low is =
        let rise = rises a next t part in
        let shape : spans ≡ others = is ∙ ap (λ (b : Bool). cond b others (span t ∷ others)) e in
        let long : length spans ≡ length others = ap length shape in
        omega (arith, rise, low, long)
    by_test false e low is =
        let rise = rises a next t part in
        let shape : spans ≡ span t ∷ others = is ∙ ap (λ (b : Bool). cond b others (span t ∷ others)) e in
        let long : length spans ≡ suc (length others) = ap length shape in
        let apart : number a ≢ number next = λ k. let c : true ≡ false = sym (eq-eqb (number a) (number next) k) ∙ e in cc in
        let above : number a < number next = omega (arith, rise, apart) in
        omega (arith, above, low, long)

-- ---- spans stand behind what was passed

abbrev Behind : ℕ → List Span → Type 0
Behind from [] = ⊤
Behind from (s ∷ spans) = from ≤ s.at

sooner : (from later : ℕ) (spans : List Span) → from ≤ later → Behind later spans → Behind from spans
sooner from later [] low h = tt
sooner from later (s ∷ spans) low h = omega (arith, low, h)

behind_by : (from : ℕ) (b : Bool) (s : Span) (others spans : List Span) → spans ≡ cond b others (s ∷ others) → from ≤ s.at → Behind from others → Behind from spans
behind_by from true s others spans e low h = subst (Behind from) (sym e) h
behind_by from false s others spans e low h = subst (Behind from) (sym e) low

are_behind : (text : List ℕ) (f : Forest) (a : Reading) (from to : ℕ) (spans : List Span) → StandBetween text from to f → SaysSpans a (trees f) spans → Behind from spans
are_behind text none a from to spans h k = subst (Behind from) (sym k) tt
are_behind text (atom s q c g) a from to spans h (next, others, said, more, is) =
    let low = h.0 in
    let wide = h.1 in
    behind_by from (nat_eq (number a) (number next)) s others spans is low (sooner from s.end others (omega (arith, low, wide)) (are_behind text g next s.end to others h.3 more))
are_behind text (list s i g) a from to spans h (next, others, said, more, is) =
    let low = h.0 in
    let wide = h.1 in
    behind_by from (nat_eq (number a) (number next)) s others spans is low (sooner from s.end others (omega (arith, low, wide)) (are_behind text g next s.end to others h.3 more))

none_first : (spans : List Span) (s : Span) (after : ℕ) → s.at < after → Behind after spans → is_first spans s ≡ false
none_first [] s after low h = refl
none_first (p ∷ spans) s after low h = by_test (nat_eq p.at s.at) refl
  where
    by_test : (b : Bool) → nat_eq p.at s.at ≡ b → (b && nat_eq p.end s.end) ≡ false
    by_test true e = absurd (let k : p.at ≡ s.at = eqb-true p.at s.at e in omega (arith, k, low, h))
    by_test false e = refl

own_first : (s : Span) → same_span s s ≡ true
own_first s = let a : nat_eq s.at s.at ≡ true = eq-eqb s.at s.at refl in let b : nat_eq s.end s.end ≡ true = eq-eqb s.end s.end refl in rw (a, b) refl

one_on : (marks : List Mark) (u : ℕ) → mark_at (drop 1 marks) u ≡ mark_at marks (suc u)
one_on [] zero = refl
one_on [] (suc u) = refl
one_on (m ∷ marks) u = refl

-- ---- the dispositions of lists

atom_same : (a next : Reading) (s : Span) (q : Bool) (c : List ℕ) → SaysPart a (leaf s q c) (Ok next) → next ≡ a
atom_same a next s q c says =
    let k : Ok next ≡ with_other a (leaf s q c) = subst (λ (o : Option Sort). SaysPartBy a (leaf s q c) o (Ok next)) (atom_sort s q c) says in
    let e : (let r : Result Reading BoardError = Ok next in r) ≡ Ok a = k ∙ atom_other a s q c in cc

atom_says : (a : Reading) (s : Span) (q : Bool) (c : List ℕ) → SaysPart a (leaf s q c) (Ok a)
atom_says a s q c = subst (λ (o : Option Sort). SaysPartBy a (leaf s q c) o (Ok a)) (sym (atom_sort s q c)) (sym (atom_other a s q c))

module _ (text : List ℕ) (draft : Draft) (z : Reading) where
  abbrev Matched : Reading → List Mark → Type 0
  Matched a marks = (u : ℕ) → plain_mark (mark_at marks u) ≡ mark_in draft (number a + u)

  pub dispositions_are : (f : Forest) (a : Reading) (from to : ℕ) (marks : List Mark) (spans : List Span) → StandBetween text from to f → SaysParts a (trees f) (Ok z) → SaysSpans a (trees f) spans → number a + length spans ≡ number z → Matched a marks
      → DispositionsAre draft a (trees f) (dispositions_by marks spans (trees f))
  dispositions_are none a from to marks spans stand says said count are = refl
  dispositions_are (atom s q c g) a from to marks spans stand (inr (e, part, same)) said count are = absurd cc
  dispositions_are (atom s q c g) a from to marks spans stand (inl (next, part, rest)) (other, others, told, more, is) count are =
      let here : next ≡ a = atom_same a next s q c part in
      let there : other ≡ a = atom_same a other s q c told in
      let own : nat_eq (number a) (number a) ≡ true = eq-eqb (number a) (number a) refl in
      let shape : spans ≡ others = is ∙ ap (λ (r : Reading). with_span a r (leaf s q c) others) there ∙ ap (λ (b : Bool). cond b others (s ∷ others)) own in
      let goes = subst (λ (r : Reading). SaysParts r (trees g) (Ok z)) here rest in
      let spans_go = subst (λ (l : List Span). SaysSpans a (trees g) l) (sym shape) (subst (λ (r : Reading). SaysSpans r (trees g) others) there more) in
      (a, dispositions_by marks spans (trees g), atom_says a s q c, dispositions_are g a s.end to marks spans stand.3 goes spans_go count are, refl)
  dispositions_are (list s i g) a from to marks spans stand (inr (e, part, same)) said count are = absurd cc
  dispositions_are (list s i g) a from to marks spans stand (inl (next, part, rest)) (other, others, told, more, is) count are =
      let equal : other ≡ next = one_next a next other (branch s i) part told in
      let spans_go = subst (λ (r : Reading). SaysSpans r (trees g) others) equal more in
      by_test (nat_eq (number a) (number next)) refl (is ∙ ap (λ (r : Reading). with_span a r (branch s i) others) equal) spans_go (λ ms ss c m k. dispositions_are g next s.end to ms ss stand.3 rest k c m)
    where
      by_test : (b : Bool) → nat_eq (number a) (number next) ≡ b → spans ≡ cond (nat_eq (number a) (number next)) others (s ∷ others) → SaysSpans next (trees g) others
          → ((ms : List Mark) (ss : List Span) → number next + length ss ≡ number z → Matched next ms → SaysSpans next (trees g) ss → DispositionsAre draft next (trees g) (dispositions_by ms ss (trees g)))
          → DispositionsAre draft a (branch s i ∷ trees g) (dispositions_by marks spans (branch s i ∷ trees g))
      by_test true e is spans_go later =
          let shape : spans ≡ others = is ∙ ap (λ (b : Bool). cond b others (s ∷ others)) e in
          let same : number a ≡ number next = eqb-true (number a) (number next) e in
          let wide = stand.1 in
          let first : is_first spans s ≡ false = ap (λ (l : List Span). is_first l s) shape ∙ none_first others s s.end wide (are_behind text g next s.end to others stand.3 spans_go) in
          let goes = subst (λ (l : List Span). SaysSpans next (trees g) l) (sym shape) spans_go in
          let counted : number next + length spans ≡ number z = omega (arith, count, same) in
          let matched : Matched next marks = λ u. are u ∙ ap (λ (n : ℕ). mark_in draft (n + u)) same in
          let stays_here : dispositions_by marks spans (branch s i ∷ trees g) ≡ stays ∷ dispositions_by marks spans (trees g) =
          ap (λ (b : Bool). mark_disposition (cond b (mark_at marks 0) Stays) i ∷ dispositions_by (cond b (drop 1 marks) marks) (cond b (drop 1 spans) spans) (trees g)) first in
          let disposition_here : list_disposition draft a next i ≡ stays = ap (λ (b : Bool). cond b stays (unit_disposition draft i (Some (number a)))) e in
          (next, dispositions_by marks spans (trees g), part, later marks spans counted matched goes, stays_here ∙ ap (λ (x : Disposition). x ∷ dispositions_by marks spans (trees g)) (sym disposition_here))
      by_test false e is spans_go later =
          let shape : spans ≡ s ∷ others = is ∙ ap (λ (b : Bool). cond b others (s ∷ others)) e in
          let long : length spans ≡ suc (length others) = ap length shape in
          let rise = rises a next (branch s i) part in
          let apart : number a ≢ number next = λ k. let c : true ≡ false = sym (eq-eqb (number a) (number next) k) ∙ e in cc in
          let low = low_after (trees g) next z others rest spans_go in
          let one : number next ≡ suc (number a) = omega (arith, rise, apart, low, count, long) in
          let first : is_first spans s ≡ true = ap (λ (l : List Span). is_first l s) shape ∙ own_first s in
          let counted : number next + length others ≡ number z = omega (arith, one, count, long) in
          let matched : Matched next (drop 1 marks) = λ u.
          let at : number a + suc u ≡ number next + u = omega (arith, one) in
          ap plain_mark (one_on marks u) ∙ are (suc u) ∙ ap (mark_in draft) at in
          let zero_on : number a + 0 ≡ number a = omega arith in
          let disposition_is : mark_disposition (mark_at marks 0) i ≡ unit_disposition draft i (Some (number a)) = mark_is_disposition draft (mark_at marks 0) (number a) i (are 0 ∙ ap (mark_in draft) zero_on) in
          let unit_here : dispositions_by marks spans (branch s i ∷ trees g) ≡ mark_disposition (mark_at marks 0) i ∷ dispositions_by (drop 1 marks) others (trees g) =
          ap (λ (b : Bool). mark_disposition (cond b (mark_at marks 0) Stays) i ∷ dispositions_by (cond b (drop 1 marks) marks) (cond b (drop 1 spans) spans) (trees g)) first
          ∙ ap (λ (l : List Span). mark_disposition (mark_at marks 0) i ∷ dispositions_by (drop 1 marks) (drop 1 l) (trees g)) shape in
          let disposition_here : list_disposition draft a next i ≡ unit_disposition draft i (Some (number a)) = ap (λ (b : Bool). cond b stays (unit_disposition draft i (Some (number a)))) e in (
            next,
            dispositions_by (drop 1 marks) others (trees g),
            part,
            later (drop 1 marks) others counted matched spans_go,
            unit_here ∙ ap (λ (x : Disposition). x ∷ dispositions_by (drop 1 marks) others (trees g)) (disposition_is ∙ sym disposition_here),
          )

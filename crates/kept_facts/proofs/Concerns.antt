-- Which items the areas and bodies of an edit concern.
use Rattle.std.proofs.Common.{◌≡◌, ◌⊎◌, ◌↔◌, inl, inr, refl, sym, ap, subst, ◌∙◌, ℕ, zero, suc, ◌+◌, ◌<◌, ◌≤◌, List, [], ◌∷◌, ◌++◌, length, get_or, map, take, Contains, Option, None, Some, arith}
use Rattle.std.specs.Option.{option_flatten}
use Rattle.std.proofs.lemmas.List.{take_more, take_all, get_or_default}
use Rattle.std.proofs.lemmas.List.Elements.{Contains-append_left, Contains-push, Contains-push_cases}
use Rattle.geo_seg.specs.declared.boxes.Bounds.{Bounds}
use Rattle.geo_seg.specs.Boxes.{BoxesMeet}
use Rattle.one_item.specs.declared.item.Item.{Item}
use Rattle.one_item.specs.declared.item.What.{What}
use Rattle.one_item.specs.declared.item.What.TheVariants as what
use Rattle.board_items.specs.Boards.{PlainBoard, item_at}
use Rattle.one_item.specs.Extents.{AreBoundsOf}
use Rattle.one_item.specs.ItemParts.{parts_of}
use Rattle.board_index.specs.IndexedItems.{HoldsItems}
use Rattle.box_index.specs.Reached.{HasReached, AreSorted}
use Rattle.box_index.specs.Tiles.{PlainIndex}
use Rattle.rule_pick.specs.FactsOf.{MeetsArea, MeetsCourtyard}
use Rattle.item_facts.specs.NearItems.{MayMeetItem, HoldsMarks}
use Rattle.item_facts.proofs.MarkBoxes.{near_area, near_courtyard}
use Rattle.item_facts.proofs.Marked.{no_parts}
use Rattle.kept_facts.specs.FactUpdates.{mark_at, mark_of, GivesIf, GiveSame, IsUnconcerned, AreMarksBefore}
use Rattle.kept_facts.specs.ConcernedItems.{IsNameIf, HasNear, HasOthers, HasConcerned, AreAskedTo}
use Rattle.kept_facts.proofs.Stays.{among, giver}

-- ---- one name

some_names : (n m : List ℕ) → Some n ≡ Some m → n ≡ m
some_names n m e = cc

module _ (P Q : List ℕ → Type 0) (one_p : (n m : List ℕ) → P n → P m → n ≡ m) (one_q : (n m : List ℕ) → Q n → Q m → n ≡ m) where
  both : (n m : List ℕ) → P n → Q m → n ≡ m → (name : List ℕ) → (P name ↔ Q name)
  both n m p q e name = ((λ g. subst Q (sym e ∙ one_p n name p g) q), (λ g. subst P (e ∙ one_q m name q g) p))

  pub from_names : (a b : Option (List ℕ)) → IsNameIf P a → IsNameIf Q b → a ≡ b → (name : List ℕ) → (P name ↔ Q name)
  from_names None None p q e name = ((λ g. absurd (p name g)), (λ g. absurd (q name g)))
  from_names None (Some m) p q e name = absurd cc
  from_names (Some n) None p q e name = absurd cc
  from_names (Some n) (Some m) p q e name = both n m p q (some_names n m e) name

  pub to_names : (a b : Option (List ℕ)) → IsNameIf P a → IsNameIf Q b → ((name : List ℕ) → (P name ↔ Q name)) → a ≡ b
  to_names None None p q h = refl
  to_names None (Some m) p q h = absurd (p m ((h m).1 q))
  to_names (Some n) None p q h = absurd (q n ((h n).0 p))
  to_names (Some n) (Some m) p q h = ap Some (one_q n m ((h n).0 p) q)

one_title : (item : Item) (w : What) (n m : List ℕ) → MeetsArea item w n → MeetsArea item w m → n ≡ m
one_title item (what.Area title bans shape) n m g h = g.0 ∙ sym h.0
one_title item _ n m g h = absurd g

one_reference : (item : Item) (w : What) (n m : List ℕ) → MeetsCourtyard item w n → MeetsCourtyard item w m → n ≡ m
one_reference item (what.Body reference front back on_back) n m g h = g.0 ∙ sym h.0
one_reference item _ n m g h = absurd g

one_area : (item : Item) (x : Option Item) (n m : List ℕ) → GivesIf (MeetsArea item) x n → GivesIf (MeetsArea item) x m → n ≡ m
one_area item None n m g h = absurd g
one_area item (Some mark) n m g h = one_title item mark.what n m g h

one_courtyard : (item : Item) (x : Option Item) (n m : List ℕ) → GivesIf (MeetsCourtyard item) x n → GivesIf (MeetsCourtyard item) x m → n ≡ m
one_courtyard item None n m g h = absurd g
one_courtyard item (Some mark) n m g h = one_reference item mark.what n m g h

module _ (item : Item) (before now : Option Item) where
  abbrev IsTitle : Option Item → Option (List ℕ) → Type 0
  IsTitle x name = IsNameIf (GivesIf (MeetsArea item) x) name

  abbrev IsReference : Option Item → Option (List ℕ) → Type 0
  IsReference x name = IsNameIf (GivesIf (MeetsCourtyard item) x) name

  pub give_same : (a b r s : Option (List ℕ)) → IsTitle before a → IsTitle now b → IsReference before r → IsReference now s → a ≡ b → r ≡ s → GiveSame item before now
  give_same a b r s p q u v e f = record {
    areas = from_names (GivesIf (MeetsArea item) before) (GivesIf (MeetsArea item) now) (one_area item before) (one_area item now) a b p q e;
    courtyards = from_names (GivesIf (MeetsCourtyard item) before) (GivesIf (MeetsCourtyard item) now) (one_courtyard item before) (one_courtyard item now) r s u v f;
  }

  pub same_titles : (a b : Option (List ℕ)) → IsTitle before a → IsTitle now b → GiveSame item before now → a ≡ b
  same_titles a b p q h = to_names (GivesIf (MeetsArea item) before) (GivesIf (MeetsArea item) now) (one_area item before) (one_area item now) a b p q h.areas

  pub same_references : (r s : Option (List ℕ)) → IsReference before r → IsReference now s → GiveSame item before now → r ≡ s
  same_references r s u v h = to_names (GivesIf (MeetsCourtyard item) before) (GivesIf (MeetsCourtyard item) now) (one_courtyard item before) (one_courtyard item now) r s u v h.courtyards

-- ---- what is near

abbrev Far : Item → Option Item → Type 0
Far item x = (other : Item) → x ≡ Some other → MayMeetItem item other → ⊥

-- what is far gives nothing
pub far_same : (item : Item) (before now : Option Item) → Far item before → Far item now → GiveSame item before now
far_same item before now p q = record {
  areas = λ name. ((λ g. absurd (no_area before p name g)), (λ g. absurd (no_area now q name g)));
  courtyards = λ name. ((λ g. absurd (no_courtyard before p name g)), (λ g. absurd (no_courtyard now q name g)));
}
  where
    no_area : (x : Option Item) → Far item x → (name : List ℕ) → GivesIf (MeetsArea item) x name → ⊥
    no_area x far name g = let k = giver (MeetsArea item) x name g in far k.item k.stands (near_area item k.item name k.gives)

    no_courtyard : (x : Option Item) → Far item x → (name : List ℕ) → GivesIf (MeetsCourtyard item) x name → ⊥
    no_courtyard x far name g = let k = giver (MeetsCourtyard item) x name g in far k.item k.stands (near_courtyard item k.item name k.gives)

other_way : (b c : Bounds) → BoxesMeet b c → BoxesMeet c b
other_way b c m = record { left = m.right; right = m.left; top = m.bottom; bottom = m.top }

one_item : (a b : Item) → Some a ≡ Some b → a ≡ b
one_item a b e = cc

module _ (index : PlainIndex) (ids : List ℕ) where
  pub near_none : (mark : Option Item) → mark ≡ None → HasNear index mark ids ids
  near_none mark e = record { kept = λ id c. c; met = λ id item other is has n. absurd (missing other (sym e ∙ is)) }
    where
      missing : (other : Item) → None ≡ Some other → ⊥
      missing other h = cc

  pub near_nothing : (mark : Option Item) (own : Item) → mark ≡ Some own → AreBoundsOf (parts_of own) None → HasNear index mark ids ids
  near_nothing mark own e b = record {
    kept = λ id c. c;
    met = λ id item other is has n. absurd (n.parts (ap parts_of (one_item other own (sym is ∙ e)) ∙ no_parts (parts_of own) b));
  }

  pub near_reached : (mark : Option Item) (own : Item) (box : Bounds) (now : List ℕ) → mark ≡ Some own → AreBoundsOf (parts_of own) (Some box) → HasReached box index.entries ids now → HasNear index mark ids now
  near_reached mark own box now e b r = record {
    kept = r.kept;
    met = λ id item other is has n. (let m = n.boxes has.bounds box has.own (subst (λ (i : Item). AreBoundsOf (parts_of i) (Some box)) (one_item own other (sym e ∙ is)) b) in r.met (record { id = id; bounds = has.bounds }) has.entry (other_way has.bounds box m));
  }

-- ---- those that are near, one after the other

nothing : (id : ℕ) → Contains [] id → ⊥
nothing id c = absurd (omega (arith, c.1))

module _ (board : PlainBoard) (near : List ℕ) (before now : Option Item) where
  pub no_others : (old new : List ℕ) → new ≡ old → HasOthers board [] before now old new
  no_others old new e = subst (HasOthers board [] before now old) (sym e) record { kept = λ id c. c; others = λ id item c at. absurd (nothing id c) }

  module _ (old mid : List ℕ) (k one : ℕ) (lt : k < length near) (is : one ≡ get_or near k one) (so_far : HasOthers board (take k near) before now old mid) where
    seen : take (k + 1) near ≡ take k near ++ one ∷ []
    seen = take_more near k one lt ∙ ap (λ (e : ℕ). take k near ++ e ∷ []) (sym is)

    -- it is appended
    pub other_more : HasOthers board (take (k + 1) near) before now old (mid ++ one ∷ [])
    other_more = subst (λ (ids : List ℕ). HasOthers board ids before now old (mid ++ one ∷ [])) (sym seen) record {
      kept = λ id c. Contains-append_left mid (one ∷ []) id (so_far.kept id c);
      others = others;
    }
      where
        others : (id : ℕ) (item : Item) → Contains (take k near ++ one ∷ []) id → item_at board.items id ≡ Some item → Contains (mid ++ one ∷ []) id ⊎ GiveSame item before now
        others id item c at = elim (Contains-push_cases (take k near) one id c) [
          | inl d ↦ elim (so_far.others id item d at) [
            | inl h ↦ inl (Contains-append_left mid (one ∷ []) id h)
            | inr h ↦ inr h
          ]
          | inr same ↦ inl (subst (Contains (mid ++ one ∷ [])) same (Contains-push mid one))
        ]

    -- it is not
    pub other_skip : ((item : Item) → item_at board.items one ≡ Some item → GiveSame item before now) → HasOthers board (take (k + 1) near) before now old mid
    other_skip same_one = subst (λ (ids : List ℕ). HasOthers board ids before now old mid) (sym seen) record { kept = so_far.kept; others = others }
      where
        others : (id : ℕ) (item : Item) → Contains (take k near ++ one ∷ []) id → item_at board.items id ≡ Some item → Contains mid id ⊎ GiveSame item before now
        others id item c at = elim (Contains-push_cases (take k near) one id c) [
          | inl d ↦ so_far.others id item d at
          | inr same ↦ inr (same_one item (subst (λ (n : ℕ). item_at board.items n ≡ Some item) (sym same) at))
        ]

  pub all_others : (old new : List ℕ) (k : ℕ) → length near ≤ k → HasOthers board (take k near) before now old new → HasOthers board near before now old new
  all_others old new k l h = subst (λ (ids : List ℕ). HasOthers board ids before now old new) (take_all k near l) h

-- ---- all items that one area or body concerns

pub concerned : (board : PlainBoard) (index : PlainIndex) → HoldsItems board index → (before now : Option Item) (none first second near old new : List ℕ)
    → HasNear index before none first → HasNear index now first second → AreSorted second near → HasOthers board near before now old new → HasConcerned board before now old new
concerned board index holds before now none first second near old new p q order o = record { kept = o.kept; others = others }
  where
    others : (id : ℕ) (item : Item) → item_at board.items id ≡ Some item → Contains new id ⊎ GiveSame item before now
    others id item at = by (among near id)
      where
        by : Contains near id ⊎ ¬ (Contains near id) → Contains new id ⊎ GiveSame item before now
        by (inl c) = o.others id item c at
        by (inr out) = inr (far_same item before now (λ other e n. out (order.kept id (q.kept id (p.met id item other e (holds.each id item at n.own) n)))) (λ other e n. out (order.kept id (q.met id item other e (holds.each id item at n.own) n))))

-- ---- all areas and bodies

split : (k place : ℕ) → k < (place + 1) → (k < place) ⊎ (place ≡ k)
split zero zero lt = inr refl
split zero (suc place) lt = inl (omega arith)
split (suc k) zero lt = absurd (omega arith)
split (suc k) (suc place) lt = elim (split k place (omega arith)) [
  | inl less ↦ inl (omega arith)
  | inr e ↦ inr (ap suc e)
]

module _ (board : PlainBoard) (ids : List ℕ) (before : List (Option Item)) where
  pub asked_none : (asked : List ℕ) → asked ≡ ids → AreAskedTo 0 board ids before asked
  asked_none asked e = record { own = λ id c. subst (λ (ns : List ℕ). Contains ns id) (sym e) c; each = λ k lt. absurd (omega (arith, lt)) }

  pub asked_more : (place : ℕ) (mid new : List ℕ) → AreAskedTo place board ids before mid → HasConcerned board (mark_of before place) (mark_at board (get_or ids place 0)) mid new → AreAskedTo (place + 1) board ids before new
  asked_more place mid new so_far more = record { own = λ id c. more.kept id (so_far.own id c); each = each }
    where
      each : (k : ℕ) → k < (place + 1) → (id : ℕ) (item : Item) → item_at board.items id ≡ Some item → Contains new id ⊎ GiveSame item (mark_of before k) (mark_at board (get_or ids k 0))
      each k lt id item at = by (split k place lt)
        where
          by : (k < place) ⊎ (place ≡ k) → Contains new id ⊎ GiveSame item (mark_of before k) (mark_at board (get_or ids k 0))
          by (inl less) = elim (so_far.each k less id item at) [
            | inl h ↦ inl (more.kept id h)
            | inr h ↦ inr h
          ]
          by (inr e) = subst (λ (n : ℕ). Contains new id ⊎ GiveSame item (mark_of before n) (mark_at board (get_or ids n 0))) e (more.others id item at)

-- what is not asked is not concerned
pub unconcerned : (old new : PlainBoard) (ids : List ℕ) (before : List (Option Item)) (asked : List ℕ) → AreMarksBefore old ids before → AreAskedTo (length ids) new ids before asked
    → (id : ℕ) (item : Item) → ¬ (Contains asked id) → item_at new.items id ≡ Some item → IsUnconcerned old new ids item
unconcerned old new ids before asked are ask id item out here = record { each = each }
  where
    each : (one : ℕ) → Contains ids one → GiveSame item (mark_at old one) (mark_at new one)
    each one c = by (ask.each c.0 c.1 id item here)
      where
        is : get_or ids c.0 0 ≡ one
        is = get_or_default ids c.0 0 one c.1 ∙ c.2

        by : Contains asked id ⊎ GiveSame item (mark_of before c.0) (mark_at new (get_or ids c.0 0)) → GiveSame item (mark_at old one) (mark_at new one)
        by (inl m) = absurd (out m)
        by (inr g) = subst (λ (n : ℕ). GiveSame item (mark_at old n) (mark_at new n)) is (subst (λ (m : Option Item). GiveSame item m (mark_at new (get_or ids c.0 0))) (are.each c.0 c.1) g)

-- the areas and bodies of a board, each in the place of its id
at_place : (f : ℕ → Option Item) (ids : List ℕ) (place : ℕ) → place < length ids → mark_of (map f ids) place ≡ f (get_or ids place 0)
at_place f [] place lt = absurd (omega arith)
at_place f (id ∷ ids) zero lt = flat (f id)
  where
    flat : (x : Option Item) → option_flatten (Some x) ≡ x
    flat None = refl
    flat (Some item) = refl
at_place f (id ∷ ids) (suc place) lt = at_place f ids place (omega arith)

pub marks_before : (old : PlainBoard) (ids : List ℕ) (marks : List (Option Item)) → marks ≡ map (mark_at old) ids → AreMarksBefore old ids marks
marks_before old ids marks e = subst (AreMarksBefore old ids) (sym e) record { each = at_place (mark_at old) ids }

-- an index of all items has all areas and bodies
pub marks_held : (board : PlainBoard) (index : PlainIndex) → HoldsItems board index → HoldsMarks board.items index
marks_held board index holds = record { each = λ id item e mark parts. (let h = holds.each id item e parts in record { box = h.bounds; own = h.own; entry = h.entry }) }

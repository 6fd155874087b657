-- Facts that are found again, one id after the other.
use Rattle.std.proofs.Common.{◌≡◌, ◌≢◌, ◌⊎◌, inl, inr, refl, sym, ap, subst, ◌∙◌, ℕ, zero, suc, ◌+◌, ◌<◌, Bool, true, false, List, [], ◌∷◌, ◌++◌, length, get_or, take, filter, Option, None, Some, IsSome, is_some, Contains, arith, true≢false}
use Rattle.std.specs.List.Sorted.{IsStrictlyIncreasing}
use Rattle.std.proofs.lemmas.List.{take_more}
use Rattle.std.proofs.lemmas.List.Elements.{All-contains, All-contains_itself, All-filter, filter_passes, Contains-append_left, Contains-push, Contains-push_cases}
use Rattle.one_item.specs.declared.item.Item.{Item}
use Rattle.board_items.specs.Boards.{PlainBoard, item_at}
use Rattle.board_laws.specs.Edits.{IsEdit}
use Rattle.board_laws.proofs.Rest.{contains_filter}
use Rattle.net_class.specs.NetClasses.{PlainClasses}
use Rattle.rule_pick.specs.declared.facts.Facts.{Facts}
use Rattle.rule_pick.specs.ById.{facts_at, IsPut}
use Rattle.rule_pick.specs.FactsOf.{AreFactsOf}
use Rattle.rule_pick.specs.AllFacts.{HasFacts}
use Rattle.kept_facts.specs.FactUpdates.{AreSuspects, AreRefreshed, AreNoted, AreMarksBefore, AreChanged}
use Rattle.kept_facts.specs.ConcernedItems.{AreAsked, IsOwn, IsFoundAgain, AreFoundAgain}
use Rattle.kept_facts.proofs.Concerns.{unconcerned}
use Rattle.kept_facts.proofs.Keeps.{facts_are_kept, is_step}
use Rattle.kept_facts.proofs.Rising.{rise_push, below_at}
use Rattle.kept_facts.proofs.Stays.{among}

-- the facts of all ids
abbrev AllFacts : Type 0
AllFacts = List (Option Facts)

any_default : (xs : List ℕ) (k d e : ℕ) → k < length xs → get_or xs k d ≡ get_or xs k e
any_default [] k d e lt = absurd (omega arith)
any_default (x ∷ xs) zero d e lt = refl
any_default (x ∷ xs) (suc k) d e lt = any_default xs k d e (omega arith)

none_in : (id : ℕ) → Contains [] id → ⊥
none_in id c = absurd (omega (arith, c.1))

pub again_none : (board : PlainBoard) (classes : PlainClasses) (ids : List ℕ) (old : AllFacts) (changed : List ℕ) → changed ≡ [] → AreFoundAgain board classes ids [] old old changed
again_none board classes ids old changed e = subst (AreFoundAgain board classes ids [] old old) (sym e) record {
  own = λ id c. absurd (none_in id c);
  rest = λ id out. refl;
  rise = λ k lt. absurd (omega arith);
  from = λ id c. c;
  noted = λ id c. absurd (none_in id c);
  only = λ id c. absurd (none_in id c);
}

module _ (board : PlainBoard) (classes : PlainClasses) (ids asked : List ℕ) (k one : ℕ) (lt : k < length asked) (is : one ≡ get_or asked k one) (rise : IsStrictlyIncreasing asked) (old mid new : AllFacts) (changed : List ℕ)
    (so_far : AreFoundAgain board classes ids (take k asked) old mid changed) (differs : Bool) (found : IsFoundAgain board classes one mid new differs) where
  seen : take (k + 1) asked ≡ take k asked ++ one ∷ []
  seen = take_more asked k one lt ∙ ap (λ (e : ℕ). take k asked ++ e ∷ []) (sym is)

  below : (y : ℕ) → Contains (take k asked) y → y < one
  below y c = subst (λ (z : ℕ). y < z) (sym (is ∙ any_default asked k one 0 lt)) (below_at asked rise k lt y c)

  other : (y : ℕ) → Contains (take k asked) y → y ≢ one
  other y c e = let l = below y c in absurd (omega arith)

  fresh : ¬ (Contains (take k asked) one)
  fresh c = let l = below one c in absurd (omega arith)

  same_before : (y : ℕ) → Contains (take k asked) y → facts_at new y ≡ facts_at mid y
  same_before y c = found.rest y (other y c)

  was : facts_at mid one ≡ facts_at old one
  was = so_far.rest one fresh

  own : (id : ℕ) → Contains (take k asked ++ one ∷ []) id → IsOwn board classes new id
  own id c = elim (Contains-push_cases (take k asked) one id c) [
    | inl d ↦ (let h = so_far.own id d in record {
      there = λ item e. let t = h.there item e in (t.0, same_before id d ∙ t.1, t.2);
      gone = λ e. same_before id d ∙ h.gone e;
    })
    | inr same ↦ subst (IsOwn board classes new) same found.own
  ]

  rest : (id : ℕ) → ¬ (Contains (take k asked ++ one ∷ []) id) → facts_at new id ≡ facts_at old id
  rest id out = found.rest id (λ e. out (subst (Contains (take k asked ++ one ∷ [])) (sym e) (Contains-push (take k asked) one))) ∙ so_far.rest id (λ c. out (Contains-append_left (take k asked) (one ∷ []) id c))

  moved : (x : ℕ) → Contains (take k asked) x → facts_at mid x ≢ facts_at old x → facts_at new x ≢ facts_at old x
  moved x c h e = h (sym (same_before x c) ∙ e)

  only_before : (x : ℕ) → Contains changed x → Contains ids x ⊎ (facts_at new x ≢ facts_at old x)
  only_before x c = elim (so_far.only x c) [
    | inl h ↦ inl h
    | inr h ↦ inr (moved x (so_far.from x c) h)
  ]

  -- it is noted
  pub again_more : (differs ≡ true) ⊎ Contains ids one → AreFoundAgain board classes ids (take (k + 1) asked) old new (changed ++ one ∷ [])
  again_more flag = subst (λ (l : List ℕ). AreFoundAgain board classes ids l old new (changed ++ one ∷ [])) (sym seen) record {
    own = own;
    rest = rest;
    rise = rise_push changed one so_far.rise (λ y c. below y (so_far.from y c));
    from = from;
    noted = noted;
    only = only;
  }
    where
      from : (id : ℕ) → Contains (changed ++ one ∷ []) id → Contains (take k asked ++ one ∷ []) id
      from id c = elim (Contains-push_cases changed one id c) [
        | inl d ↦ Contains-append_left (take k asked) (one ∷ []) id (so_far.from id d)
        | inr same ↦ subst (Contains (take k asked ++ one ∷ [])) same (Contains-push (take k asked) one)
      ]

      noted : (id : ℕ) → Contains (take k asked ++ one ∷ []) id → Contains (changed ++ one ∷ []) id ⊎ (¬ (Contains ids id) × (facts_at new id ≡ facts_at old id))
      noted id c = elim (Contains-push_cases (take k asked) one id c) [
        | inl d ↦ elim (so_far.noted id d) [
          | inl h ↦ inl (Contains-append_left changed (one ∷ []) id h)
          | inr h ↦ inr (h.0, same_before id d ∙ h.1)
        ]
        | inr same ↦ inl (subst (Contains (changed ++ one ∷ [])) same (Contains-push changed one))
      ]

      at_one : (differs ≡ true) ⊎ Contains ids one → Contains ids one ⊎ (facts_at new one ≢ facts_at old one)
      at_one (inl d) = inr (λ e. found.other d (e ∙ sym was))
      at_one (inr c) = inl c

      only : (id : ℕ) → Contains (changed ++ one ∷ []) id → Contains ids id ⊎ (facts_at new id ≢ facts_at old id)
      only id c = elim (Contains-push_cases changed one id c) [
        | inl d ↦ only_before id d
        | inr same ↦ subst (λ (x : ℕ). Contains ids x ⊎ (facts_at new x ≢ facts_at old x)) same (at_one flag)
      ]

  -- it is not
  pub again_skip : differs ≡ false → ¬ (Contains ids one) → AreFoundAgain board classes ids (take (k + 1) asked) old new changed
  again_skip quiet out = subst (λ (l : List ℕ). AreFoundAgain board classes ids l old new changed) (sym seen) record {
    own = own;
    rest = rest;
    rise = so_far.rise;
    from = λ id c. Contains-append_left (take k asked) (one ∷ []) id (so_far.from id c);
    noted = noted;
    only = only_before;
  }
    where
      noted : (id : ℕ) → Contains (take k asked ++ one ∷ []) id → Contains changed id ⊎ (¬ (Contains ids id) × (facts_at new id ≡ facts_at old id))
      noted id c = elim (Contains-push_cases (take k asked) one id c) [
        | inl d ↦ elim (so_far.noted id d) [
          | inl h ↦ inl h
          | inr h ↦ inr (h.0, same_before id d ∙ h.1)
        ]
        | inr same ↦ subst (λ (x : ℕ). Contains changed x ⊎ (¬ (Contains ids x) × (facts_at new x ≡ facts_at old x))) same (inr (out, found.same quiet ∙ was))
      ]

-- ---- the facts of all items

some_differs : {X : Type 0} (x : Option X) (y : X) → x ≡ None → x ≡ Some y → ⊥
some_differs x y e g = let h = sym e ∙ g in cc

module _ (old new : PlainBoard) (classes : PlainClasses) (ids : List ℕ) (before : List (Option Item)) (edit : IsEdit old new ids) (are : AreMarksBefore old ids before) (kept now : AllFacts) (had : HasFacts old classes kept)
    (asked changed : List ℕ) (ask : AreAsked new ids before asked) (found : AreFoundAgain new classes ids asked kept now changed) where
  abbrev is_there : ℕ → Bool
  is_there id = is_some (item_at new.items id)

  abbrev suspects : List ℕ
  suspects = filter is_there asked

  suspect : (id : ℕ) → Contains asked id → IsSome (item_at new.items id) → Contains suspects id
  suspect id c h = contains_filter is_there asked id c h

  was_asked : (id : ℕ) → Contains suspects id → Contains asked id
  was_asked id c = All-contains (Contains asked) suspects id (All-filter is_there (Contains asked) asked (All-contains_itself asked)) c

  there : (id : ℕ) → Contains suspects id → IsSome (item_at new.items id)
  there id c = All-contains (λ x. is_there x ≡ true) suspects id (filter_passes is_there asked) c

  item_of : (x : Option Item) → IsSome x → (item : Item) × (x ≡ Some item)
  item_of (Some item) h = (item, refl)
  item_of None h = absurd (true≢false (sym h))

  no_item : (x : Option Item) → ¬ (IsSome x) → x ≡ None
  no_item (Some item) h = absurd (h refl)
  no_item None h = refl

  some_item : (x : Option Item) (item : Item) → x ≡ Some item → IsSome x
  some_item x item e = subst IsSome (sym e) refl

  are_suspects : AreSuspects old new ids suspects
  are_suspects = record {
    there = there;
    own = λ id item c e. suspect id (ask.all.own id c) (some_item (item_at new.items id) item e);
    far = λ id item out e. unconcerned old new ids before asked are ask.all id item (λ c. out (suspect id c (some_item (item_at new.items id) item e))) e;
  }

  -- what has no item now and is none of the edit had none
  no_facts : (id : ℕ) → ¬ (Contains ids id) → item_at new.items id ≡ None → (x : Option Facts) → facts_at kept id ≡ x → x ≡ None
  no_facts id out gone None e = refl
  no_facts id out gone (Some f) e = let h = had.right id f e in absurd (some_differs (item_at new.items id) h.item gone (edit.rest id out ∙ h.stands))

  quiet : (id : ℕ) → ¬ (Contains ids id) → Contains asked id → ¬ (Contains suspects id) → facts_at now id ≡ facts_at kept id
  quiet id out c free =
      let gone = no_item (item_at new.items id) (λ h. free (suspect id c h)) in
      (found.own id c).gone gone ∙ sym (no_facts id out gone (facts_at kept id) refl)

  asked_or : (id : ℕ) → Contains asked id ⊎ ¬ (Contains asked id)
  asked_or id = among asked id

  are_refreshed : AreRefreshed new classes ids suspects kept now
  are_refreshed = record {
    right = λ id f c e. (let item = item_of (item_at new.items id) (there id c) in let t = (found.own id (was_asked id c)).there item.0 item.1 in record { item = item.0; stands = item.1; facts_of = subst (AreFactsOf new classes item.0) (same_facts t.0 f (sym t.1 ∙ e)) t.2 });
    there = λ id c. (let item = item_of (item_at new.items id) (there id c) in let t = (found.own id (was_asked id c)).there item.0 item.1 in subst IsSome (sym t.1) refl);
    gone = λ id c free. (found.own id (ask.all.own id c)).gone (no_item (item_at new.items id) (λ h. free (suspect id (ask.all.own id c) h)));
    others = others;
  }
    where
      same_facts : (f g : Facts) → Some f ≡ Some g → f ≡ g
      same_facts f g e = cc

      others : (id : ℕ) → ¬ (Contains ids id) → ¬ (Contains suspects id) → facts_at now id ≡ facts_at kept id
      others id out free = by (asked_or id)
        where
          by : Contains asked id ⊎ ¬ (Contains asked id) → facts_at now id ≡ facts_at kept id
          by (inl c) = quiet id out c free
          by (inr other) = found.rest id other

  are_noted : AreNoted ids suspects kept now changed
  are_noted = record { rise = found.rise; own = own; noted = noted; only = only }
    where
      own : (id : ℕ) → Contains ids id → Contains changed id
      own id c = elim (found.noted id (ask.all.own id c)) [
        | inl h ↦ h
        | inr h ↦ absurd (h.0 c)
      ]

      noted : (id : ℕ) → Contains suspects id → Contains changed id ⊎ (facts_at now id ≡ facts_at kept id)
      noted id c = elim (found.noted id (was_asked id c)) [
        | inl h ↦ inl h
        | inr h ↦ inr h.1
      ]

      only : (id : ℕ) → Contains changed id → Contains ids id ⊎ (Contains suspects id × (facts_at now id ≢ facts_at kept id))
      only id c = by (found.only id c) (among suspects id) (among ids id)
        where
          by : Contains ids id ⊎ (facts_at now id ≢ facts_at kept id) → Contains suspects id ⊎ ¬ (Contains suspects id) → Contains ids id ⊎ ¬ (Contains ids id) → Contains ids id ⊎ (Contains suspects id × (facts_at now id ≢ facts_at kept id))
          by (inl h) s i = inl h
          by (inr h) s (inl i) = inl i
          by (inr h) (inl s) (inr i) = inr (s, h)
          by (inr h) (inr free) (inr out) = absurd (h (quiet id out (found.from id c) free))

  pub updated : HasFacts new classes now × AreChanged old new classes ids kept now changed
  updated = (
    facts_are_kept old new classes ids suspects edit are_suspects kept now had are_refreshed,
    record { rise = found.rise; own = are_noted.own; only = found.only; step = λ rules. is_step old new classes ids suspects edit are_suspects kept now had are_refreshed rules changed are_noted },
  )

-- ---- one id

one_item : (a b : Item) → Some a ≡ Some b → a ≡ b
one_item a b e = cc

module _ (board : PlainBoard) (classes : PlainClasses) (id : ℕ) (item : Item) (f : Facts) (stands : item_at board.items id ≡ Some item) (is : AreFactsOf board classes item f) where
  its_own : (facts : AllFacts) → facts_at facts id ≡ Some f → IsOwn board classes facts id
  its_own facts e = record {
    there = λ other s. (f, e, subst (λ (i : Item). AreFactsOf board classes i f) (one_item item other (sym stands ∙ s)) is);
    gone = λ g. absurd (some_differs (item_at board.items id) item g stands);
  }

  -- its facts were kept
  pub kept_again : (facts : AllFacts) → facts_at facts id ≡ Some f → IsFoundAgain board classes id facts facts false
  kept_again facts e = record { own = its_own facts e; rest = λ other apart. refl; same = λ q. refl; other = λ q. absurd (true≢false (sym q)) }

  -- it has others
  pub put_again : (old facts : AllFacts) → IsPut id (Some f) old facts → (facts_at old id ≡ Some f → ⊥) → IsFoundAgain board classes id old facts true
  put_again old facts u others = record { own = its_own facts u.here; rest = u.rest; same = λ q. absurd (true≢false q); other = λ q e. others (sym e ∙ u.here) }

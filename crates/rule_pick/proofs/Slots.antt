-- Rows of slots.
use Rattle.std.proofs.Common.{◌≡◌, ◌≢◌, refl, ℕ, zero, suc, ◌<◌, ◌≤◌, List, [], ◌∷◌, ◌++◌, length, get_or, set, Option, None, arith, ap, sym, ◌∙◌}
use Rattle.rule_pick.specs.declared.facts.Facts.{Facts}
use Rattle.rule_pick.specs.ById.{facts_at, IsPut, HasSameFacts}

pub none_in : (id : ℕ) → facts_at [] id ≡ None
unfolding facts_at
none_in id = refl

one_more : (slots : List (Option Facts)) (id : ℕ) → facts_at (slots ++ None ∷ []) id ≡ facts_at slots id
unfolding facts_at
one_more [] zero = refl
one_more [] (suc id) = refl
one_more (s ∷ ss) zero = refl
one_more (s ∷ ss) (suc id) = one_more ss id

last : (slots : List (Option Facts)) (slot : Option Facts) → facts_at (slots ++ slot ∷ []) (length slots) ≡ slot
unfolding facts_at
last [] slot = refl
last (s ∷ ss) slot = last ss slot

before : (slots : List (Option Facts)) (slot : Option Facts) (other : ℕ) → other ≢ length slots → facts_at (slots ++ slot ∷ []) other ≡ facts_at slots other
unfolding facts_at
before [] slot zero apart = absurd (apart refl)
before [] slot (suc other) apart = refl
before (s ∷ ss) slot zero apart = refl
before (s ∷ ss) slot (suc other) apart = before ss slot other (λ e. apart (ap suc e))

-- a slot more, behind the last
pub put_behind : (slots new : List (Option Facts)) (id : ℕ) (slot : Option Facts) → id ≡ length slots → new ≡ slots ++ slot ∷ [] → IsPut id slot slots new
put_behind slots new id slot at is = record {
  here = ap (λ (k : ℕ). facts_at new k) at ∙ (ap (λ (s : List (Option Facts)). facts_at s (length slots)) is ∙ last slots slot);
  rest = λ other apart. ap (λ (s : List (Option Facts)). facts_at s other) is ∙ before slots slot other (λ e. apart (e ∙ sym at));
}

-- an empty slot more changes nothing
pub still : (old slots : List (Option Facts)) → HasSameFacts old slots → HasSameFacts old (slots ++ None ∷ [])
still old slots h = record { each = λ id. one_more slots id ∙ h.each id }

pub past : (slots : List (Option Facts)) (id : ℕ) → length slots ≤ id → facts_at slots id ≡ None
unfolding facts_at
past [] id le = refl
past (s ∷ ss) zero le = absurd (omega arith)
past (s ∷ ss) (suc id) le = past ss id (omega arith)

pub within : (slots : List (Option Facts)) (id : ℕ) (d : Option Facts) → id < length slots → get_or slots id d ≡ facts_at slots id
unfolding facts_at
within [] id d lt = absurd (omega arith)
within (s ∷ ss) zero d lt = refl
within (s ∷ ss) (suc id) d lt = within ss id d (omega arith)

here : (slots : List (Option Facts)) (id : ℕ) (slot : Option Facts) → id < length slots → facts_at (set slots id slot) id ≡ slot
unfolding facts_at
here [] id slot lt = absurd (omega arith)
here (s ∷ ss) zero slot lt = refl
here (s ∷ ss) (suc id) slot lt = here ss id slot (omega arith)

rest : (slots : List (Option Facts)) (id : ℕ) (slot : Option Facts) (other : ℕ) → other ≢ id → facts_at (set slots id slot) other ≡ facts_at slots other
unfolding facts_at
rest [] id slot other apart = refl
rest (s ∷ ss) zero slot zero apart = absurd (apart refl)
rest (s ∷ ss) zero slot (suc other) apart = refl
rest (s ∷ ss) (suc id) slot zero apart = refl
rest (s ∷ ss) (suc id) slot (suc other) apart = rest ss id slot other (λ e. apart (ap suc e))

pub is_put : (slots : List (Option Facts)) (id : ℕ) (slot : Option Facts) → id < length slots → IsPut id slot slots (set slots id slot)
is_put slots id slot lt = record { here = here slots id slot lt; rest = rest slots id slot }

-- nothing to take past the end
pub not_put : (slots : List (Option Facts)) (id : ℕ) → length slots ≤ id → IsPut id None slots slots
not_put slots id le = record { here = past slots id le; rest = λ other apart. refl }

pub put_after : (old mid new : List (Option Facts)) (id : ℕ) (slot : Option Facts) → HasSameFacts old mid → IsPut id slot mid new → IsPut id slot old new
put_after old mid new id slot h p = record { here = p.here; rest = λ other apart. p.rest other apart ∙ h.each other }

pub nothing : (slots : List (Option Facts)) → slots ≡ [] → (id : ℕ) → facts_at slots id ≡ None
nothing slots e id = ap (λ s. facts_at s id) e ∙ none_in id

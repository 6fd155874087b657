-- Turns one after another.
use Rattle.std.proofs.Common.{◌≡◌, ◌∙◌, ap, sym, subst, refl, ℕ, ◌+◌, List, [], ◌∷◌, ◌++◌, length, arith}
use Rattle.std.proofs.lemmas.List.{append-nil, append_assoc}
use Rattle.run_output.specs.CommandOutputs.{AreTurns, AreFirstTurns}

-- a turn leads to one state and writes one text
abbrev pub IsOne : {S C : Type 0} → (ℕ → S → C → S → List ℕ → Type 0) → Type 0
IsOne {S} {C} Turn = (n : ℕ) (s : S) (command : C) (a b : S) (xs ys : List ℕ) → Turn n s command a xs → Turn n s command b ys → (a ≡ b) × (xs ≡ ys)

module _ {S C : Type 0} (Turn : ℕ → S → C → S → List ℕ → Type 0) where
  -- one command more
  pub one_more : (n : ℕ) (s : S) (done : List C) (last : S) (text : List ℕ) (command : C) (next : S) (here : List ℕ)
      → AreTurns Turn n s done last text → Turn (n + length done) last command next here → AreTurns Turn n s (done ++ command ∷ []) next (text ++ here)
  one_more n s [] last text command next here h t =
      (next, here, [], subst (λ (m : ℕ). Turn m s command next here) (omega arith) (subst (λ (x : S). Turn (n + 0) x command next here) h.0 t), (refl, refl), ap (λ xs. xs ++ here) h.1 ∙ sym (append-nil here))
  one_more n s (c ∷ done) last text command next here h t =
      let rest = one_more (n + 1) h.0 done last h.2 command next here h.4 (subst (λ (m : ℕ). Turn m last command next here) (omega arith) t) in
      (h.0, h.1, h.2 ++ here, h.3, rest, ap (λ xs. xs ++ here) h.5 ∙ append_assoc h.1 h.2 here)

  -- the same commands write the same, where each turn is one
  pub one_text : IsOne Turn → (n : ℕ) (s : S) (commands : List C) (a b : S) (xs ys : List ℕ) → AreTurns Turn n s commands a xs → AreTurns Turn n s commands b ys → (a ≡ b) × (xs ≡ ys)
  one_text one n s [] a b xs ys h k = (h.0 ∙ sym k.0, h.1 ∙ sym k.1)
  one_text one n s (c ∷ commands) a b xs ys h k =
      let here = one n s c h.0 k.0 h.1 k.1 h.3 k.3 in
      let rest = one_text one (n + 1) k.0 commands a b h.2 k.2 (subst (λ (x : S). AreTurns Turn (n + 1) x commands a h.2) here.0 h.4) k.4 in
      (rest.0, h.5 ∙ (ap (λ zs. zs ++ h.2) here.1 ∙ (ap (λ zs. k.1 ++ zs) rest.1 ∙ sym k.5)))

  -- what the first of the commands write is a prefix of what all of them write
  prefix_by : IsOne Turn → (n : ℕ) (s : S) (done left : List C) (mid last : S) (xs ys : List ℕ) → AreTurns Turn n s done mid xs → AreTurns Turn n s (done ++ left) last ys → (rest : List ℕ) × (ys ≡ xs ++ rest)
  prefix_by one n s [] left mid last xs ys h k = (ys, ap (λ zs. zs ++ ys) (sym h.1))
  prefix_by one n s (c ∷ done) left mid last xs ys h k =
      let here = one n s c h.0 k.0 h.1 k.1 h.3 k.3 in
      let more = prefix_by one (n + 1) k.0 done left mid last h.2 k.2 (subst (λ (x : S). AreTurns Turn (n + 1) x done mid h.2) here.0 h.4) k.4 in
      (more.0, k.5 ∙ (ap (λ zs. zs ++ k.2) (sym here.1) ∙ (ap (λ zs. h.1 ++ zs) more.1 ∙ (sym (append_assoc h.1 h.2 more.0) ∙ ap (λ zs. zs ++ more.0) (sym h.5)))))

  pub prefix_of_all : IsOne Turn → (s : S) (commands : List C) (last : S) (xs ys : List ℕ) → AreFirstTurns Turn s commands xs → AreTurns Turn 1 s commands last ys → (rest : List ℕ) × (ys ≡ xs ++ rest)
  prefix_of_all one s commands last xs ys f k = prefix_by one 1 s f.done f.left f.last last xs ys f.turns (subst (λ cs. AreTurns Turn 1 s cs last ys) f.split k)

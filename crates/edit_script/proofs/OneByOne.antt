-- Forms that are read one after another, behind what was read so far.
use Rattle.std.proofs.Common.{◌≡◌, ◌≤◌, ◌+◌, ℕ, List, [], ◌∷◌, ◌++◌, map, sum_by, All, refl, sym, ap, subst, ◌∙◌, arith}
use Rattle.std.specs.Prelude.{Result, Ok, Err}
use Rattle.std.proofs.lemmas.List.{append-nil, append_assoc, map-append}
use Rattle.std.proofs.lemmas.List.Elements.{All-nil, All-cons, All-append}
use Rattle.std.proofs.lemmas.List.Sums.{sum_by_push, sum_by-cons}
use Rattle.sexpr_read.specs.Tree.{Tree}
use Rattle.edit_script.specs.Fits.{size_of}
use Rattle.edit_script.specs.declared.error.ScriptError.{ScriptError}
use Rattle.list_read.specs.FirstRefusals.{◌>>=◌, each_of}

unfoldable pub read_on : {A : Type 0} → (Tree → Result A ScriptError) → List A → List Tree → Result (List A) ScriptError
read_on read so_far [] = Ok so_far
read_on read so_far (t ∷ ts) = read t >>= λ x. read_on read (so_far ++ x ∷ []) ts

module _ {A : Type 0} (read : Tree → Result A ScriptError) where
  -- what is left gives its values behind those
  abbrev behind : List A → Result (List A) ScriptError → Result (List A) ScriptError
  behind so_far r = r >>= λ xs. Ok (so_far ++ xs)

  moved_over : (so_far : List A) (x : A) (r : Result (List A) ScriptError) → behind (so_far ++ x ∷ []) r ≡ behind so_far (r >>= λ xs. Ok (x ∷ xs))
  moved_over so_far x (Ok xs) = ap (λ (l : List A). Ok l) (append_assoc so_far (x ∷ []) xs)
  moved_over so_far x (Err e) = refl

  on : (so_far : List A) (ts : List Tree) → read_on read so_far ts ≡ behind so_far (each_of read ts)
  unfolding read_on each_of
  on so_far [] = ap (λ (l : List A). Ok l) (sym (append-nil so_far))
  on so_far (t ∷ ts) = by_first (read t) (λ x. on (so_far ++ x ∷ []) ts)
    where
      by_first : (r : Result A ScriptError) → ((x : A) → read_on read (so_far ++ x ∷ []) ts ≡ behind (so_far ++ x ∷ []) (each_of read ts))
          → (r >>= λ x. read_on read (so_far ++ x ∷ []) ts) ≡ behind so_far (r >>= λ x. each_of read ts >>= λ xs. Ok (x ∷ xs))
      by_first (Err e) later = refl
      by_first (Ok x) later = later x ∙ moved_over so_far x (each_of read ts)

  same : (r : Result (List A) ScriptError) → behind [] r ≡ r
  same (Ok xs) = refl
  same (Err e) = refl

  pub from_start : (ts : List Tree) → read_on read [] ts ≡ each_of read ts
  from_start ts = on [] ts ∙ same (each_of read ts)

-- ---- one value more, which is that of the first of the forms that are left

pub one_more : {B A : Type 0} (view : B → A) (old new : List B) (x : B) → new ≡ old ++ x ∷ [] → map view new ≡ map view old ++ view x ∷ []
one_more view old new x e = ap (map view) e ∙ map-append view old (x ∷ [])

module _ {A : Type 0} (so_far after : List A) (x : A) (more : after ≡ so_far ++ x ∷ []) where
  pub all_on : (P : A → Type 0) → All P so_far → P x → All P after
  all_on P h k = subst (λ (xs : List A). All P xs) (sym more) (All-append P so_far (x ∷ []) h (All-cons P x [] k (All-nil P)))

  module _ (left rest : List Tree) (t : Tree) (steps : left ≡ t ∷ rest) where
    pub read_next : (read : Tree → Result A ScriptError) (whole : Result (List A) ScriptError) → read t ≡ Ok x → read_on read so_far left ≡ whole → read_on read after rest ≡ whole
    unfolding read_on
    read_next read whole r h =
        ap (λ (xs : List A). read_on read xs rest) more
        ∙ sym (ap (λ (ts : List Tree). read_on read so_far ts) steps ∙ ap (λ (q : Result A ScriptError). q >>= λ y. read_on read (so_far ++ y ∷ []) rest) r) ∙ h

    pub weighs_on : (weigh : A → ℕ) (most : ℕ) → weigh x ≤ size_of t → sum_by weigh so_far + sum_by size_of left ≤ most → sum_by weigh after + sum_by size_of rest ≤ most
    weighs_on weigh most h k =
        let a = ap (sum_by weigh) more ∙ sum_by_push weigh so_far x in
        let b = ap (sum_by size_of) steps ∙ sum_by-cons size_of t rest in
        omega (arith, a, b, h, k)

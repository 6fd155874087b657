-- What workers count of each command.
use Rattle.std.proofs.Common.{◌≡◌, ℕ, suc, ◌<◌, List, [], ◌∷◌, length, get_or, Some, map, refl, sym, ap, subst, ◌∙◌, arith}
use Rattle.std.specs.List.{AllZip, slice_get}
use Rattle.std.proofs.lemmas.Option.{same_Some}
use Rattle.std.proofs.lemmas.List.{length-map}
use Rattle.edit_script.specs.declared.command.Command.{Command}
use Rattle.edit_script.specs.Commands.{PlainCommand, plain_command}

-- values of the elements at each place, in their order
pub zip_at : {A X : Type 0} (R : A → X → Type 0) (xs : List A) (ys : List X) → length ys ≡ length xs → ((k : ℕ) (d : X) → k < length xs → (x : A) × (slice_get xs k ≡ Some x) × R x (get_or ys k d)) → AllZip R xs ys
zip_at R [] [] long each = tt
zip_at R [] (y ∷ ys) long each = absurd (omega (arith, long))
zip_at R (x ∷ xs) [] long each = absurd (omega (arith, long))
zip_at R (x ∷ xs) (y ∷ ys) long each =
    let first = each 0 y (omega arith) in
    (subst (λ z. R z y) (sym (same_Some x first.0 first.1)) first.2, zip_at R xs ys (omega (arith, long)) (λ k d l. each (suc k) d (omega (arith, l))))

pub zip_length : {A X : Type 0} (R : A → X → Type 0) (xs : List A) (ys : List X) → AllZip R xs ys → length ys ≡ length xs
zip_length R [] [] z = refl
zip_length R [] (y ∷ ys) z = absurd z
zip_length R (x ∷ xs) [] z = absurd z
zip_length R (x ∷ xs) (y ∷ ys) z = ap suc (zip_length R xs ys z.1)

-- the values of workers are those of the commands as contracts see them
pub counted : {X : Type 0} (R : PlainCommand → X → Type 0) (commands : List Command) (ys : List X) → length ys ≡ length commands
    → ((k : ℕ) (d : X) → k < length commands → (command : PlainCommand) × (slice_get (map plain_command commands) k ≡ Some command) × R command (get_or ys k d)) → AllZip R (map plain_command commands) ys
counted R commands ys long each =
    zip_at R (map plain_command commands) ys (long ∙ sym (length-map commands plain_command)) (λ k d l. each k d (omega (arith, l, length-map commands plain_command)))

pub as_many : {X : Type 0} (R : PlainCommand → X → Type 0) (commands : List Command) (ys : List X) → AllZip R (map plain_command commands) ys → length ys ≡ length commands
as_many R commands ys z = zip_length R (map plain_command commands) ys z ∙ length-map commands plain_command

-- That the kind of an item has lengths in range, kind by kind.
use Rattle.std.proofs.Common.{◌≡◌, ℤ, Bool, subst}
use Rattle.plain_types.specs.Lengths.{IsLength}
use Rattle.one_item.specs.declared.item.What.{What}
use Rattle.one_item.specs.declared.item.What.TheVariants.{Track, Via}
use Rattle.one_item.specs.Measures.{HasLengths}

pub track_lengths : (width : ℤ) → IsLength width → HasLengths (Track width)
track_lengths width h = record { width = λ w e. by w e; size = λ s d m b e. absurd cc; drill = λ s d m b e. absurd cc }
  where
    by : (w : ℤ) → Track width ≡ Track w → IsLength w
    by w e = let same : width ≡ w = cc in subst (λ (n : ℤ). IsLength n) same h

pub via_lengths : (size drill : ℤ) (micro blind : Bool) → IsLength size → IsLength drill → HasLengths (Via size drill micro blind)
via_lengths size drill micro blind h k = record { width = λ w e. absurd cc; size = by_size; drill = by_drill }
  where
    by_size : (s d : ℤ) (m b : Bool) → Via size drill micro blind ≡ Via s d m b → IsLength s
    by_size s d m b e = let same : size ≡ s = cc in subst (λ (n : ℤ). IsLength n) same h

    by_drill : (s d : ℤ) (m b : Bool) → Via size drill micro blind ≡ Via s d m b → IsLength d
    by_drill s d m b e = let same : drill ≡ d = cc in subst (λ (n : ℤ). IsLength n) same k

-- a kind that is neither
pub no_lengths : (what : What) → ((width : ℤ) → ¬ (what ≡ Track width)) → ((size drill : ℤ) (micro blind : Bool) → ¬ (what ≡ Via size drill micro blind)) → HasLengths what
no_lengths what h k = record { width = λ w e. absurd (h w e); size = λ s d m b e. absurd (k s d m b e); drill = λ s d m b e. absurd (k s d m b e) }

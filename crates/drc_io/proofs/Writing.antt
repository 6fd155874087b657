-- Texts that are written in several calls.
use Rattle.std.proofs.Common.{◌≡◌, ℕ, List, Option, ◌++◌, Result, Ok, Err, subst, sym, ap, ◌∙◌, append_assoc, arith, take, drop, take-append-drop}
use Rattle.std.specs.Io.KnownBytes.{Appends, Keeps}
use Rattle.std.proofs.KnownBytes.{Appends-trans, Appends-kept}
use Rattle.drc_io.specs.Sinks.{AppendsPrefix, Writes}

-- the first part is whole
pub AppendsPrefix-after : (a b c : Option (List ℕ)) (first second : List ℕ) → Appends a b first → AppendsPrefix b c second → AppendsPrefix a c (first ++ second)
AppendsPrefix-after a b c first second whole part = record {
  prefix = first ++ part.prefix;
  rest = part.rest;
  whole = ap (λ l. first ++ l) part.whole ∙ sym (append_assoc first part.prefix part.rest);
  appended = Appends-trans a b c first part.prefix whole part.appended;
}

-- more was to come
pub AppendsPrefix-more : (a b : Option (List ℕ)) (first second : List ℕ) → AppendsPrefix a b first → AppendsPrefix a b (first ++ second)
AppendsPrefix-more a b first second part = record {
  prefix = part.prefix;
  rest = part.rest ++ second;
  whole = ap (λ l. l ++ second) part.whole ∙ append_assoc part.prefix part.rest second;
  appended = part.appended;
}

pub AppendsPrefix-take : (a b : Option (List ℕ)) (text : List ℕ) (n : ℕ) → Appends a b (take n text) → AppendsPrefix a b text
AppendsPrefix-take a b text n part = record { prefix = take n text; rest = drop n text; whole = sym (take-append-drop n text); appended = part }

-- a prefix was written, and then nothing
pub AppendsPrefix-kept : (a b c : Option (List ℕ)) (text : List ℕ) (n : ℕ) → Appends a b (take n text) → Keeps b c → AppendsPrefix a c text
AppendsPrefix-kept a b c text n part kept = AppendsPrefix-take a c text n (Appends-kept a b c (take n text) part kept)

-- a call that wrote its text, and then another call
pub Writes-then : {S T E D : Type 0} (a b c : Option (List ℕ)) (m n o : ℕ) (first second : List ℕ) (x : S) (r : Result T E)
    → Writes {T = S} {E = D} a b m n first (Ok x) → Writes b c n o second r → Writes a c m o (first ++ second) r
Writes-then a b c m n o first second x (Ok y) w v = record { bytes = Appends-trans a b c first second w.bytes v.bytes; later = omega (arith, w.later, v.later); failed = tt }
Writes-then a b c m n o first second x (Err e) w v = record {
  bytes = AppendsPrefix-after a b c first second w.bytes v.bytes;
  later = omega (arith, w.later, v.later);
  failed = grind (arith, w.later, v.failed);
}

-- a call that failed, where more was to come
pub Writes-stop : {S T E D : Type 0} (a b : Option (List ℕ)) (m n : ℕ) (first second : List ℕ) (e : D) (r : Result T E) (d : E) → r ≡ Err d
    → Writes {T = S} {E = D} a b m n first (Err e) → Writes a b m n (first ++ second) r
Writes-stop a b m n first second e r d same w =
    rw same record { bytes = AppendsPrefix-more a b first second w.bytes; later = w.later; failed = w.failed }

pub Writes-text : {T E : Type 0} (a b : Option (List ℕ)) (m n : ℕ) (text same : List ℕ) (r : Result T E) → text ≡ same → Writes a b m n text r → Writes a b m n same r
Writes-text a b m n text same r e w = subst (λ l. Writes a b m n l r) e w

-- Lines that are put together piece by piece.
use Rattle.std.proofs.Common.{◌≡◌, ℕ, ◌<◌, ◌+◌, List, [], ◌∷◌, length, get_or, take, drop, take-append-drop, add-one, Option, ◌++◌, Result, Ok, Err, refl, subst, sym, ap, ◌∙◌, append_assoc, append-nil, arith}
use Rattle.std.proofs.Math.Seq.{take-suc}
use Rattle.std.proofs.lemmas.Grind.{flat_map-append}
use Rattle.std.specs.List.{flat_map}
use Rattle.std.specs.Io.KnownBytes.{Appends}
use Rattle.std.proofs.KnownBytes.{Appends-nil, Appends-trans}
use Rattle.drc_io.specs.Sinks.{AppendsPrefix, Writes}
use Rattle.drc_io.proofs.Writing.{AppendsPrefix-after, AppendsPrefix-more, Writes-stop}
use Rattle.drc_rows.specs.Buffer.{Puts}

-- nothing is put in
pub Puts-none : {T E : Type 0} (a : Option (List ℕ)) (n : ℕ) (pending : List ℕ) (x : T) → Puts {T = T} {E = E} a a n n pending [] pending (Ok x)
Puts-none a n pending x = record { bytes = record { sent = []; whole = append-nil pending; appended = Appends-nil a }; later = omega arith; failed = tt }

-- what was pending did not go out whole
pub Puts-fails : {S T E D : Type 0} (a b : Option (List ℕ)) (m n : ℕ) (text pending piece kept : List ℕ) (e : D) (r : Result T E) (d : E) → r ≡ Err d
    → text ≡ pending → Writes {T = S} {E = D} a b m n text (Err e) → Puts a b m n pending piece kept r
Puts-fails a b m n text pending piece kept e r d same is w =
    rw same record { bytes = subst (λ l. AppendsPrefix a b (l ++ piece)) is (AppendsPrefix-more a b text piece w.bytes); later = w.later; failed = w.failed }

-- what was pending went out, and then the piece, or a prefix of it
pub Puts-past : {S T E D : Type 0} (a b c : Option (List ℕ)) (m n o : ℕ) (text pending piece : List ℕ) (x : S) (r : Result T E)
    → text ≡ pending → Writes {T = S} {E = D} a b m n text (Ok x) → Writes b c n o piece r → Puts a c m o pending piece [] r
Puts-past a b c m n o text pending piece x (Ok y) is w v = record {
  bytes = record {
    sent = text ++ piece;
    whole = ap (λ l. l ++ piece) (sym is) ∙ sym (append-nil (text ++ piece));
    appended = Appends-trans a b c text piece w.bytes v.bytes;
  };
  later = omega (arith, w.later, v.later);
  failed = tt;
}
Puts-past a b c m n o text pending piece x (Err e) is w v = record {
  bytes = subst (λ l. AppendsPrefix a c (l ++ piece)) is (AppendsPrefix-after a b c text piece w.bytes v.bytes);
  later = omega (arith, w.later, v.later);
  failed = grind (arith, w.later, v.failed);
}

-- what was pending went out
pub Puts-out : {S T E D : Type 0} (a b : Option (List ℕ)) (m n : ℕ) (text pending : List ℕ) (x : S) (y : T)
    → text ≡ pending → Writes {T = S} {E = D} a b m n text (Ok x) → Puts {T = T} {E = E} a b m n pending [] [] (Ok y)
Puts-out a b m n text pending x y is w = record { bytes = record { sent = text; whole = ap (λ l. l ++ []) (sym is); appended = w.bytes }; later = w.later; failed = tt }

-- nothing was pending, and a piece went out as it is
pub Puts-through : {T E : Type 0} (a b : Option (List ℕ)) (m n : ℕ) (none piece : List ℕ) (r : Result T E) → none ≡ [] → Writes a b m n piece r → Puts a b m n none piece none r
Puts-through a b m n none piece (Ok y) is w = record { bytes = record { sent = piece; whole = rw is (sym (append-nil piece)); appended = w.bytes }; later = w.later; failed = tt }
Puts-through a b m n none piece (Err e) is w = record { bytes = subst (λ l. AppendsPrefix a b (l ++ piece)) (sym is) w.bytes; later = w.later; failed = w.failed }

-- a piece at the end of what is kept
pub Puts-append : {S T E D : Type 0} (a b : Option (List ℕ)) (m n : ℕ) (pending kept piece left : List ℕ) (x : S) (y : T)
    → Puts {T = S} {E = D} a b m n pending [] kept (Ok x) → left ≡ kept ++ piece → Puts {T = T} {E = E} a b m n pending piece left (Ok y)
Puts-append a b m n pending kept piece left x y w is = record {
  bytes = record {
    sent = w.bytes.sent;
    whole = ap (λ l. l ++ piece) (sym (append-nil pending) ∙ w.bytes.whole) ∙ (append_assoc w.bytes.sent kept piece ∙ ap (λ l. w.bytes.sent ++ l) (sym is));
    appended = w.bytes.appended;
  };
  later = w.later;
  failed = tt;
}

regroup : (pending first sent kept second : List ℕ) → pending ++ first ≡ sent ++ kept → pending ++ (first ++ second) ≡ sent ++ (kept ++ second)
regroup pending first sent kept second e =
    sym (append_assoc pending first second) ∙ (ap (λ l. l ++ second) e ∙ append_assoc sent kept second)

-- one piece, and then another
pub Puts-then : {S T E D : Type 0} (a b c : Option (List ℕ)) (m n o : ℕ) (pending first kept second left : List ℕ) (x : S) (r : Result T E)
    → Puts {T = S} {E = D} a b m n pending first kept (Ok x) → Puts b c n o kept second left r → Puts a c m o pending (first ++ second) left r
Puts-then a b c m n o pending first kept second left x (Ok y) w v = record {
  bytes = record {
    sent = w.bytes.sent ++ v.bytes.sent;
    whole = regroup pending first w.bytes.sent kept second w.bytes.whole ∙ (ap (λ l. w.bytes.sent ++ l) v.bytes.whole ∙ sym (append_assoc w.bytes.sent v.bytes.sent left));
    appended = Appends-trans a b c w.bytes.sent v.bytes.sent w.bytes.appended v.bytes.appended;
  };
  later = omega (arith, w.later, v.later);
  failed = tt;
}
Puts-then a b c m n o pending first kept second left x (Err e) w v = record {
  bytes = subst (AppendsPrefix a c) (sym (regroup pending first w.bytes.sent kept second w.bytes.whole)) (AppendsPrefix-after a b c w.bytes.sent (kept ++ second) w.bytes.appended v.bytes);
  later = omega (arith, w.later, v.later);
  failed = grind (arith, w.later, v.failed);
}

-- a piece did not go in, where more was to come
pub Puts-stop : {S T E D : Type 0} (a b : Option (List ℕ)) (m n : ℕ) (pending first second kept left : List ℕ) (e : D) (r : Result T E) (d : E) → r ≡ Err d
    → Puts {T = S} {E = D} a b m n pending first kept (Err e) → Puts a b m n pending (first ++ second) left r
Puts-stop a b m n pending first second kept left e r d same w =
    rw same record {
      bytes = subst (AppendsPrefix a b) (append_assoc pending first second) (AppendsPrefix-more a b (pending ++ first) second w.bytes);
      later = w.later;
      failed = w.failed;
    }

pub Puts-text : {T E : Type 0} (a b : Option (List ℕ)) (m n : ℕ) (pending piece same kept : List ℕ) (r : Result T E) → piece ≡ same
    → Puts a b m n pending piece kept r → Puts a b m n pending same kept r
Puts-text a b m n pending piece same kept r e w = subst (λ l. Puts a b m n pending l kept r) e w

-- all pieces of a line, and then its end
pub Puts-ends : {S T E D : Type 0} (a b c : Option (List ℕ)) (m n o : ℕ) (none text kept : List ℕ) (x : S) (r : Result T E)
    → none ≡ [] → Puts {T = S} {E = D} a b m n none text kept (Ok x) → Writes b c n o kept r → Writes a c m o text r
Puts-ends a b c m n o none text kept x (Ok y) is w v = record {
  bytes = subst (Appends a c) (sym w.bytes.whole ∙ ap (λ l. l ++ text) is) (Appends-trans a b c w.bytes.sent kept w.bytes.appended v.bytes);
  later = omega (arith, w.later, v.later);
  failed = tt;
}
Puts-ends a b c m n o none text kept x (Err e) is w v = record {
  bytes = subst (AppendsPrefix a c) (sym w.bytes.whole ∙ ap (λ l. l ++ text) is) (AppendsPrefix-after a b c w.bytes.sent kept w.bytes.appended v.bytes);
  later = omega (arith, w.later, v.later);
  failed = grind (arith, w.later, v.failed);
}

-- a line broke off
pub Puts-broke : {S T E D : Type 0} (a b : Option (List ℕ)) (m n : ℕ) (none text kept : List ℕ) (e : D) (r : Result T E) (d : E) → r ≡ Err d
    → none ≡ [] → Puts {T = S} {E = D} a b m n none text kept (Err e) → Writes a b m n text r
Puts-broke a b m n none text kept e r d same is w = rw same record { bytes = subst (λ l. AppendsPrefix a b (l ++ text)) is w.bytes; later = w.later; failed = w.failed }

-- a piece did not go in, where the whole text has more behind it
pub Puts-cut : {S T E D : Type 0} (a b : Option (List ℕ)) (m n : ℕ) (pending text rest whole kept left : List ℕ) (e : D) (r : Result T E) (d : E) → r ≡ Err d → whole ≡ text ++ rest
    → Puts {T = S} {E = D} a b m n pending text kept (Err e) → Puts a b m n pending whole left r
Puts-cut a b m n pending text rest whole kept left e r d same is w =
    rw is (Puts-stop a b m n pending text rest kept left e r d same w)

-- ---- texts of many pieces

-- the pieces up to one and that one
pub flat_more : {X : Type 0} (f : X → List ℕ) (xs : List X) (i : ℕ) (d : X) → i < length xs → flat_map f (take (i + 1) xs) ≡ flat_map f (take i xs) ++ f (get_or xs i d)
flat_more f xs i d h =
    ap (λ k. flat_map f (take k xs)) (add-one i) ∙ (ap (flat_map f) (take-suc xs i d h) ∙ (flat_map-append f (take i xs) (get_or xs i d ∷ [])
    ∙ ap (λ y. flat_map f (take i xs) ++ y) (append-nil (f (get_or xs i d)))))

-- and those behind it
pub flat_rest : {X : Type 0} (f : X → List ℕ) (xs : List X) (i : ℕ) (d : X) → i < length xs
    → flat_map f xs ≡ (flat_map f (take i xs) ++ f (get_or xs i d)) ++ flat_map f (drop (i + 1) xs)
flat_rest f xs i d h =
    ap (flat_map f) (sym (take-append-drop (i + 1) xs)) ∙ (flat_map-append f (take (i + 1) xs) (drop (i + 1) xs) ∙ ap (λ y. y ++ flat_map f (drop (i + 1) xs)) (flat_more f xs i d h))

-- the same for an element by its place
pub flat_more_at : {X : Type 0} (f : X → List ℕ) (xs : List X) (i : ℕ) (x : X) → i < length xs → x ≡ get_or xs i x → flat_map f (take (i + 1) xs) ≡ flat_map f (take i xs) ++ f x
flat_more_at f xs i x h e = flat_more f xs i x h ∙ ap (λ y. flat_map f (take i xs) ++ f y) (sym e)

pub flat_rest_at : {X : Type 0} (f : X → List ℕ) (xs : List X) (i : ℕ) (x : X) → i < length xs → x ≡ get_or xs i x
    → flat_map f xs ≡ (flat_map f (take i xs) ++ f x) ++ flat_map f (drop (i + 1) xs)
flat_rest_at f xs i x h e = flat_rest f xs i x h ∙ ap (λ y. (flat_map f (take i xs) ++ f y) ++ flat_map f (drop (i + 1) xs)) (sym e)

-- lines that broke off, where the whole text has more behind them
pub Writes-cut : {S T E D : Type 0} (a b : Option (List ℕ)) (m n : ℕ) (text rest whole : List ℕ) (e : D) (r : Result T E) (d : E) → r ≡ Err d → whole ≡ text ++ rest
    → Writes {T = S} {E = D} a b m n text (Err e) → Writes a b m n whole r
Writes-cut a b m n text rest whole e r d same is w = subst (λ l. Writes a b m n l r) (sym is) (Writes-stop a b m n text rest e r d same w)

-- lines in a buffer broke off, where the whole text has more behind them
pub Puts-broke_off : {S T E D : Type 0} (a b : Option (List ℕ)) (m n : ℕ) (none text rest whole kept : List ℕ) (e : D) (r : Result T E) (d : E) → r ≡ Err d
    → none ≡ [] → whole ≡ text ++ rest → Puts {T = S} {E = D} a b m n none text kept (Err e) → Writes a b m n whole r
Puts-broke_off {S} {T} {E} {D} a b m n none text rest whole kept e r d same is all w =
    let off : Writes {T = S} {E = D} a b m n text (Err e) = Puts-broke {S = S} {T = S} {E = D} {D = D} a b m n none text kept e (Err e) e refl is w in
    Writes-cut a b m n text rest whole e r d same all off

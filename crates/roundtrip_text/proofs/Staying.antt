-- A text of which all lists stay is as it was.
use Rattle.std.proofs.Common.{◌≡◌, ◌∙◌, refl, sym, ap, subst, ℕ, suc, ◌+◌, ◌-◌, ◌<◌, ◌≤◌, arith, List, [], ◌∷◌, ◌++◌, length}
use Rattle.std.specs.Prelude.{slice_range}
use Rattle.sexpr_read.specs.declared.place.Span.{Span}
use Rattle.sexpr_read.specs.ByteClasses.{sign_of}
use Rattle.sexpr_read.specs.Tree.{Forest, none, atom, list, branch}
use Rattle.sexpr_read.specs.Spelling.{SpellsForest, Spells}
use Rattle.sexpr_read.proofs.Unique.{atom_ordered, forest_ordered}
use Rattle.roundtrip_text.specs.RewrittenText.{Disposition, stays, first_disposition, later, list_by, edited, edited_whole, AllStay}
use Rattle.roundtrip_text.proofs.Cutting.{slice_split, cut_atom}
use Rattle.roundtrip_text.proofs.Whole.{take_all_of}

first_stays : (dispositions : List Disposition) → AllStay dispositions → first_disposition dispositions ≡ stays
first_stays [] h = refl
first_stays (disposition ∷ dispositions) h = h.0

later_stay : (dispositions : List Disposition) → AllStay dispositions → AllStay (later dispositions)
later_stay [] h = tt
later_stay (disposition ∷ dispositions) h = h.1

module _ (t : List ℕ) where
  -- two cuts, between places in order
  three : (a b c d : ℕ) → a ≤ b → b ≤ c → c ≤ d → slice_range t a b ++ (slice_range t b c ++ slice_range t c d) ≡ slice_range t a d
  three a b c d h k l = ap (λ (x : List ℕ). slice_range t a b ++ x) (sym (slice_split t b c d k l)) ∙ sym (slice_split t a b d h (omega (arith, k, l)))

  pub edited_stays : (f : Forest) (dispositions : List Disposition) (from to : ℕ) → to ≤ length t → SpellsForest (sign_of t) t from to f → AllStay dispositions → edited t from to dispositions f ≡ slice_range t from to
  edited_stays none dispositions from to h k all = refl
  edited_stays (atom s q c others) dispositions from to h k all =
      let o : s.end ≤ to = forest_ordered (sign_of t) t others s.end to k.2 in
      let low : s.at < s.end = atom_ordered (sign_of t) t s q c k.1 in
      let gap : from ≤ s.at = k.0.ordered in
      ap (λ (x : List ℕ). slice_range t from s.at ++ (x ++ edited t s.end to dispositions others)) (sym (cut_atom t s q c (omega (arith, o, h)) k.1))
      ∙ ap (λ (x : List ℕ). slice_range t from s.at ++ (slice_range t s.at s.end ++ x)) (edited_stays others dispositions s.end to h k.2 all)
      ∙ three from s.at s.end to gap (omega (arith, low)) o
  edited_stays (list s inside others) dispositions from to h k all =
      let o : s.end ≤ to = forest_ordered (sign_of t) t others s.end to k.3 in
      let w : suc s.at ≤ k.2.0 = forest_ordered (sign_of t) t inside (suc s.at) k.2.0 k.2.2 in
      let e : s.end ≡ suc k.2.0 = k.2.1 in
      let gap : from ≤ s.at = k.0.ordered in
      ap (λ (x : Disposition). slice_range t from s.at ++ (list_by t s x ++ edited t s.end to (later dispositions) others)) (first_stays dispositions all)
      ∙ ap (λ (x : List ℕ). slice_range t from s.at ++ (slice_range t s.at s.end ++ x)) (edited_stays others (later dispositions) s.end to h k.3 (later_stay dispositions all))
      ∙ three from s.at s.end to gap (omega (arith, w, e)) o

  -- and where nothing is added
  pub whole_stays : (s : Span) (dispositions : List Disposition) (inside : Forest) → Spells t (branch s inside) → AllStay dispositions → edited_whole t s dispositions inside none ≡ t
  unfolding Spells
  whole_stays s dispositions inside (utf8, k) all =
      let close : ℕ = k.2.0 in
      let e : s.end ≡ suc close = k.2.1 in
      let o : suc s.at ≤ close = forest_ordered (sign_of t) t inside (suc s.at) close k.2.2 in
      let ends : s.end ≤ length t = k.3.ordered in
      let first : suc s.at ≡ s.at + 1 = omega arith in
      let last : close ≡ s.end - 1 = omega (arith, e) in
      let body : SpellsForest (sign_of t) t (s.at + 1) (s.end - 1) inside =
      subst (λ z. SpellsForest (sign_of t) t z (s.end - 1) inside) first (subst (λ z. SpellsForest (sign_of t) t (suc s.at) z inside) last k.2.2) in
      ap (λ (x : List ℕ). slice_range t 0 (s.at + 1) ++ (x ++ slice_range t (s.end - 1) (length t))) (edited_stays inside dispositions (s.at + 1) (s.end - 1) (omega (arith, ends)) body all)
      ∙ three 0 (s.at + 1) (s.end - 1) (length t) (omega arith) (omega (arith, e, o)) (omega (arith, ends))
      ∙ take_all_of t

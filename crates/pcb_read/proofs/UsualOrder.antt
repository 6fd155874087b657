-- In the usual order each element is the first that its head finds, and so what is read in it is what the list says.
use Rattle.std.proofs.Common.{◌≡◌, ◌∙◌, refl, ap, ℕ, ℤ, codes, Bool, true, false, ◌||◌, cond, bytes_eq, List, [], ◌∷◌, ◌++◌, map, Option, None, Some, find, Result, Ok}
use Rattle.std.proofs.lemmas.Slice.Eq.{bytes_eq-Decides}
use Rattle.std.specs.List.{list_any}
use Rattle.sexpr_read.specs.Tree.{Tree, leaf, branch, parts, value, is_list}
use Rattle.board_errors.specs.declared.errors.BoardError.{BoardError}
use Rattle.copper_layers.specs.declared.set.LayerSet.{LayerSet}
use Rattle.copper_layers.specs.Layers.{single_layer}
use Rattle.list_read.specs.ListHeads.{is_value, is_text, first_is, has_head, has_word}
use Rattle.list_read.specs.NamedElements.{element, is_naming, naming}
use Rattle.part_read.specs.declared.numbers.RawPoint.{RawPoint}
use Rattle.part_read.specs.ElementResults.{in_needed, in_given, given_or, name_among}
use Rattle.part_read.specs.BoardNumbers.{raw_point_of, raw_point_at, size_of, size_at}
use Rattle.part_read.specs.BoardLayers.{layer_of, layer_at, layers_through}
use Rattle.pcb_read.specs.declared.drafts.Form.TheVariants.{Track, Via}
use Rattle.pcb_read.specs.Drafts.{number_given, net_given, track_draft, via_draft}
use Rattle.pcb_read.specs.UsualLists.{IsReadUnder}
use Rattle.pcb_read.proofs.Drafting.{all_drafted}

-- ---- the first of a list

-- none of the trees passes the test
abbrev NonePasses : (Tree → Bool) → List Tree → Type 0
NonePasses p [] = Unit {0}
NonePasses p (t ∷ ts) = (p t ≡ false) × NonePasses p ts

find_behind : (p : Tree → Bool) (before : List Tree) (t : Tree) (rest : List Tree) → NonePasses p before → p t ≡ true → find p (before ++ t ∷ rest) ≡ Some t
find_behind p [] t rest none is = ap (λ (b : Bool). cond b (Some t) (find p rest)) is
find_behind p (x ∷ xs) t rest none is = ap (λ (b : Bool). cond b (Some x) (find p (xs ++ t ∷ rest))) none.0 ∙ find_behind p xs t rest none.1 is

none_any : (p : Tree → Bool) (ts : List Tree) → NonePasses p ts → list_any p ts ≡ false
none_any p [] none = refl
none_any p (t ∷ ts) none = rw none.0 (none_any p ts none.1)

neither : (a b : Bool) → (a || b) ≡ false → (a ≡ false) × (b ≡ false)
neither true b h = absurd cc
neither false b h = (refl, h)

-- ---- heads

value_other : (v : Option (List ℕ)) (word other : List ℕ) → bytes_eq word other ≡ false → is_value v word ≡ true → is_value v other ≡ false
value_other None word other apart is = refl
value_other (Some v) word other apart is = ap (λ (w : List ℕ). bytes_eq w other) ((bytes_eq-Decides v word).0 is) ∙ apart

-- a list with one head has no other
head_other : (word other : List ℕ) (t : Tree) → bytes_eq word other ≡ false → has_head word t ≡ true → has_head other t ≡ false
unfolding has_head
head_other word other t apart is = by (parts t) is
  where
    by : (ts : List Tree) → first_is ts word ≡ true → first_is ts other ≡ false
    by [] h = refl
    by (x ∷ xs) h = value_other (value x) word other apart h

-- an atom has no head
atom_no_head : (word : List ℕ) (t : Tree) → is_list t ≡ false → has_head word t ≡ false
unfolding has_head
atom_no_head word (leaf s q c) is = refl
atom_no_head word (branch s inside) is = absurd cc

-- a list with a head stands for no text
headed_no_text : (word head : List ℕ) (t : Tree) → has_head head t ≡ true → is_text t word ≡ false
unfolding has_head
headed_no_text word head (leaf s q c) is = absurd cc
headed_no_text word head (branch s inside) is = refl

named_no_text : (word : List ℕ) (t : Tree) → is_naming t ≡ true → is_text t word ≡ false
unfolding is_naming has_head
named_no_text word (leaf s q c) is = absurd cc
named_no_text word (branch s inside) is = refl

-- what stands for a text is an atom
atom_with_text : (t : Tree) (word : List ℕ) → value t ≡ Some word → is_list t ≡ false
atom_with_text (leaf s q c) word is = refl
atom_with_text (branch s inside) word is = absurd cc

text_is : (t : Tree) (word : List ℕ) → value t ≡ Some word → is_text t word ≡ true
text_is t word is = rw is ((bytes_eq-Decides word word).1 refl)

-- ---- lists one behind the other, each with the head beside it

abbrev Headed : Type 0
Headed = List (List ℕ × Tree)

abbrev under : List ℕ → Tree → List ℕ × Tree
under head t = (head, t)

abbrev HaveHeads : Headed → Type 0
HaveHeads [] = Unit {0}
HaveHeads (e ∷ es) = (has_head e.0 e.1 ≡ true) × HaveHeads es

abbrev lists : Headed → List Tree
lists es = map (λ e. e.1) es

-- the word is one of the heads
abbrev is_among : List ℕ → Headed → Bool
is_among word [] = false
is_among word (e ∷ es) = bytes_eq e.0 word || is_among word es

no_head : (word : List ℕ) (es : Headed) → is_among word es ≡ false → HaveHeads es → NonePasses (has_head word) (lists es)
no_head word [] other have = tt
no_head word (e ∷ es) other have =
    let apart = neither (bytes_eq e.0 word) (is_among word es) other in
    (head_other e.0 word e.1 apart.0 have.0, no_head word es apart.1 have.1)

no_naming : (es : Headed) → is_among (codes "tstamp") es ≡ false → is_among (codes "uuid") es ≡ false → HaveHeads es → NonePasses is_naming (lists es)
unfolding is_naming
no_naming [] old new have = tt
no_naming (e ∷ es) old new have =
    let apart = neither (bytes_eq e.0 (codes "tstamp")) (is_among (codes "tstamp") es) old in
    let also = neither (bytes_eq e.0 (codes "uuid")) (is_among (codes "uuid") es) new in
    (rw (head_other e.0 (codes "tstamp") e.1 apart.0 have.0) (head_other e.0 (codes "uuid") e.1 also.0 have.0), no_naming es apart.1 also.1 have.1)

no_text : (word : List ℕ) (es : Headed) (t : Tree) → HaveHeads es → is_naming t ≡ true → NonePasses (λ x. is_text x word) (lists es ++ t ∷ [])
no_text word [] t have named = (named_no_text word t named, tt)
no_text word (e ∷ es) t have named = (headed_no_text word e.0 e.1 have.0, no_text word es t have.1 named)

-- ---- behind the head of a list

module _ (tree h : Tree) (atom : is_list h ≡ false) (es : Headed) (have : HaveHeads es) (t : Tree) (rest : List Tree) (are : parts tree ≡ h ∷ (lists es ++ t ∷ rest)) where
  element_there : (word : List ℕ) → is_among word es ≡ false → has_head word t ≡ true → element word tree ≡ Some t
  unfolding element
  element_there word other here = ap (find (has_head word)) are ∙ find_behind (has_head word) (h ∷ lists es) t rest (atom_no_head word h atom, no_head word es other have) here

  naming_there : is_among (codes "tstamp") es ≡ false → is_among (codes "uuid") es ≡ false → is_naming t ≡ true → naming tree ≡ Some t
  unfolding naming is_naming
  naming_there old new here =
      ap (find is_naming) are
      ∙ find_behind is_naming (h ∷ lists es) t rest (rw (atom_no_head (codes "tstamp") h atom) (atom_no_head (codes "uuid") h atom), no_naming es old new have) here

  -- a word that neither the head is nor comes behind the name
  word_not_there : (head word : List ℕ) → value h ≡ Some head → bytes_eq head word ≡ false → rest ≡ [] → is_naming t ≡ true → has_word word tree ≡ false
  unfolding has_word
  word_not_there head word is other ended named =
      ap (list_any (λ x. is_text x word)) are
      ∙ ap (λ (ts : List Tree). list_any (λ x. is_text x word) (h ∷ (lists es ++ t ∷ ts))) ended
      ∙ none_any (λ x. is_text x word) (h ∷ (lists es ++ t ∷ [])) (value_other (value h) head word other (text_is h head is), no_text word es t have named)

module _ {A : Type 0} (read : Tree → Result A BoardError) (tree t : Tree) (found : Option Tree) (x : A) (is : found ≡ Some t) (reads : read t ≡ Ok x) where
  needed_there : in_needed read tree found ≡ Ok x
  needed_there = rw is reads

  given_there : in_given read found ≡ Ok (Some x)
  given_there = rw is (rw reads refl)

  or_there : (otherwise : A) → given_or otherwise read found ≡ Ok x
  or_there otherwise = rw is reads

-- ---- tracks and vias

module _ (copper : LayerSet) (tree h t1 t2 t3 t4 t5 t6 : Tree) (rest : List Tree) (are : parts tree ≡ h ∷ t1 ∷ t2 ∷ t3 ∷ t4 ∷ t5 ∷ t6 ∷ rest) (net : ℕ) where
  pub track_usual : (a b : RawPoint) (width : ℤ) (layer : ℕ) → is_list h ≡ false
      → IsReadUnder (codes "start") raw_point_at t1 a → IsReadUnder (codes "end") raw_point_at t2 b → IsReadUnder (codes "width") size_at t3 width
      → IsReadUnder (codes "layer") (layer_at copper) t4 layer → IsReadUnder (codes "net") number_given t5 net → is_naming t6 ≡ true
      → track_draft copper tree ≡ Ok (record { form = Track (record { a = a; b = b; width = width }); name = name_among (Some t6); net = net; layers = single_layer layer })
  unfolding track_draft
  track_usual a b width layer atom r1 r2 r3 r4 r5 r6 =
      let e1 = under (codes "start") t1 in let e2 = under (codes "end") t2 in let e3 = under (codes "width") t3 in let e4 = under (codes "layer") t4 in let e5 = under (codes "net") t5 in
      let start = element_there tree h atom [] tt t1 _ are e1.0 refl r1.0 in
      let end = element_there tree h atom (e1 ∷ []) (r1.0, tt) t2 _ are e2.0 refl r2.0 in
      let wide = element_there tree h atom (e1 ∷ e2 ∷ []) (r1.0, (r2.0, tt)) t3 _ are e3.0 refl r3.0 in
      let on = element_there tree h atom (e1 ∷ e2 ∷ e3 ∷ []) (r1.0, (r2.0, (r3.0, tt))) t4 _ are e4.0 refl r4.0 in
      let own = element_there tree h atom (e1 ∷ e2 ∷ e3 ∷ e4 ∷ []) (r1.0, (r2.0, (r3.0, (r4.0, tt)))) t5 _ are e5.0 refl r5.0 in
      let named = naming_there tree h atom (e1 ∷ e2 ∷ e3 ∷ e4 ∷ e5 ∷ []) (r1.0, (r2.0, (r3.0, (r4.0, (r5.0, tt))))) t6 rest are refl refl r6 in
      all_drafted (raw_point_of (codes "start") tree) (raw_point_of (codes "end") tree) (size_of (codes "width") tree) (layer_of copper tree) (net_given tree) _ a b width layer net
      (needed_there raw_point_at tree t1 _ a start r1.1) (needed_there raw_point_at tree t2 _ b end r2.1) (needed_there size_at tree t3 _ width wide r3.1)
      (needed_there (layer_at copper) tree t4 _ layer on r4.1) (or_there number_given tree t5 _ net own r5.1 0)
      ∙ ap (λ (found : Option Tree). Ok (record { form = Track (record { a = a; b = b; width = width }); name = name_among found; net = net; layers = single_layer layer })) named

  pub via_usual : (at : RawPoint) (size drill : ℤ) (layers : LayerSet) → value h ≡ Some (codes "via") → rest ≡ []
      → IsReadUnder (codes "at") raw_point_at t1 at → IsReadUnder (codes "size") size_at t2 size → IsReadUnder (codes "drill") size_at t3 drill
      → IsReadUnder (codes "layers") (layers_through copper) t4 layers → IsReadUnder (codes "net") number_given t5 net → is_naming t6 ≡ true
      → via_draft copper tree ≡ Ok (record { form = Via (record { at = at; size = size; drill = Some drill; micro = false; blind = false }); name = name_among (Some t6); net = net; layers = layers })
  unfolding via_draft
  via_usual at size drill layers via ended r1 r2 r3 r4 r5 r6 =
      let atom = atom_with_text h (codes "via") via in
      let e1 = under (codes "at") t1 in let e2 = under (codes "size") t2 in let e3 = under (codes "drill") t3 in let e4 = under (codes "layers") t4 in let e5 = under (codes "net") t5 in
      let position = element_there tree h atom [] tt t1 _ are e1.0 refl r1.0 in
      let wide = element_there tree h atom (e1 ∷ []) (r1.0, tt) t2 _ are e2.0 refl r2.0 in
      let bored = element_there tree h atom (e1 ∷ e2 ∷ []) (r1.0, (r2.0, tt)) t3 _ are e3.0 refl r3.0 in
      let on = element_there tree h atom (e1 ∷ e2 ∷ e3 ∷ []) (r1.0, (r2.0, (r3.0, tt))) t4 _ are e4.0 refl r4.0 in
      let own = element_there tree h atom (e1 ∷ e2 ∷ e3 ∷ e4 ∷ []) (r1.0, (r2.0, (r3.0, (r4.0, tt)))) t5 _ are e5.0 refl r5.0 in
      let named = naming_there tree h atom (e1 ∷ e2 ∷ e3 ∷ e4 ∷ e5 ∷ []) (r1.0, (r2.0, (r3.0, (r4.0, (r5.0, tt))))) t6 rest are refl refl r6 in
      let gone = λ (word : List ℕ) (other : bytes_eq (codes "via") word ≡ false).
      word_not_there tree h atom (e1 ∷ e2 ∷ e3 ∷ e4 ∷ e5 ∷ []) (r1.0, (r2.0, (r3.0, (r4.0, (r5.0, tt))))) t6 rest are (codes "via") word via other ended r6 in
      all_drafted (raw_point_of (codes "at") tree) (size_of (codes "size") tree) (in_given size_at (element (codes "drill") tree))
      (in_needed (layers_through copper) tree (element (codes "layers") tree)) (net_given tree) _ at size (Some drill) layers net
      (needed_there raw_point_at tree t1 _ at position r1.1) (needed_there size_at tree t2 _ size wide r2.1) (given_there size_at tree t3 _ drill bored r3.1)
      (needed_there (layers_through copper) tree t4 _ layers on r4.1) (or_there number_given tree t5 _ net own r5.1 0)
      ∙ rw named (rw (gone (codes "micro") refl) (rw (gone (codes "blind") refl) refl))

-- Space, names and texts.
use Rattle.std.specs.Prelude.{ℕ, ◌+◌, Bool, true, false, ◌||◌, ◌&&◌, ◌==◌, nat_le, if◌then◌else◌, List, [], ◌∷◌, codes, bytes_eq}
use Rattle.std.specs.Str.{is_utf8}
use Rattle.std.specs.Str.Lossy.{utf8_valid_len}
use Rattle.cond_lang.specs.declared.error.CondError.TheVariants.{Bad, UnknownName}
use Rattle.cond_lang.specs.declared.terms.Side.{Side}
use Rattle.cond_lang.specs.declared.terms.Side.TheVariants.{A, B}
use Rattle.cond_lang.specs.declared.terms.Func.TheVariants.{ExistsOnLayer, IsPlated, IntersectsArea, IntersectsCourtyard}
use Rattle.cond_lang.specs.declared.terms.Prop.TheVariants.{ItemType, NetClass, NetName, Width, Diameter, Hole}
use Rattle.cond_lang.specs.declared.scan.Word.{Word}
use Rattle.cond_lang.specs.declared.scan.Word.TheVariants.{Property, Function, Unknown}
use Rattle.cond_lang.specs.Found.{Found, read, fault, and_then, place, stuck, byte}

-- space, tab, line feed, carriage return
abbrev pub is_blank : ℕ → Bool
is_blank b = (b == 32) || ((b == 9) || ((b == 10) || (b == 13)))

abbrev pub after_blanks : List ℕ → List ℕ
after_blanks [] = []
after_blanks (c ∷ cs) = if is_blank c then after_blanks cs else (c ∷ cs)

-- ---- names

-- a letter or `_` (95)
abbrev pub is_letter : ℕ → Bool
is_letter b = (nat_le 65 b && nat_le b 90) || ((nat_le 97 b && nat_le b 122) || (b == 95))

abbrev pub is_digit : ℕ → Bool
is_digit b = nat_le 48 b && nat_le b 57

abbrev pub is_in_name : ℕ → Bool
is_in_name b = is_letter b || is_digit b

-- the longest run of letters, digits and `_` at the front, and what follows it
abbrev pub prefix_name : List ℕ → List ℕ
prefix_name [] = []
prefix_name (c ∷ cs) = if is_in_name c then (c ∷ prefix_name cs) else []

abbrev pub after_name : List ℕ → List ℕ
after_name [] = []
after_name (c ∷ cs) = if is_in_name c then after_name cs else (c ∷ cs)

abbrev pub begins_name : List ℕ → Bool
begins_name [] = false
begins_name (c ∷ cs) = is_letter c

-- a name, which begins with a letter or `_`
abbrev pub name : ℕ → List ℕ → Found (List ℕ)
name n text = if begins_name text then read (prefix_name text) (after_name text) else stuck n text

-- what a name means behind a side and a dot
abbrev pub word_of : List ℕ → Word
word_of word =
    if bytes_eq word (codes "Type") then Property ItemType
    else (if bytes_eq word (codes "NetClass") then Property NetClass
    else (if bytes_eq word (codes "NetName") then Property NetName
    else (if bytes_eq word (codes "Width") then Property Width
    else (if bytes_eq word (codes "Diameter") then Property Diameter
    else (if bytes_eq word (codes "Hole") then Property Hole
    else (if bytes_eq word (codes "existsOnLayer") then Function ExistsOnLayer
    else (if bytes_eq word (codes "isPlated") then Function IsPlated
    else (if bytes_eq word (codes "intersectsArea") then Function IntersectsArea
    else (if bytes_eq word (codes "insideArea") then Function IntersectsArea
    else (if bytes_eq word (codes "intersectsCourtyard") then Function IntersectsCourtyard
    else Unknown))))))))))

-- a side: A (65) or B (66)
abbrev pub side_of : ℕ → List ℕ → List ℕ → List ℕ → Found Side
side_of n text word rest =
    if bytes_eq word (65 ∷ []) then read A rest
    else (if bytes_eq word (66 ∷ []) then read B rest else fault (UnknownName (place n text)))

unfoldable pub side : ℕ → List ℕ → Found Side
side n text = and_then (name n text) (side_of n text)

-- ---- texts in single quotes (39)

abbrev pub prefix_text : List ℕ → List ℕ
prefix_text [] = []
prefix_text (c ∷ cs) = if c == 39 then [] else (c ∷ prefix_text cs)

abbrev pub after_text : List ℕ → List ℕ
after_text [] = []
after_text (c ∷ cs) = if c == 39 then (c ∷ cs) else after_text cs

-- the signs of a text behind its first quote, and the other quote
abbrev pub text_of : ℕ → List ℕ → Bool → Found (List ℕ)
text_of n text true = and_then (byte n 39 (after_text text)) (λ _ rest. read (prefix_text text) rest)
text_of n text false = fault (Bad (place n text + utf8_valid_len (prefix_text text)))

-- where the signs are no UTF-8, the first byte that is none is bad
unfoldable pub quoted : ℕ → List ℕ → Found (List ℕ)
quoted n text = text_of n text (is_utf8 (prefix_text text))

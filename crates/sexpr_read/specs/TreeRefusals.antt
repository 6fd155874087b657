-- Which texts are refused, and where. A place is judged by what stands before it: how many lists are open there,
-- and whether it is in a string. Of several faults the one that comes first counts.
use Rattle.std.specs.Prelude.{ℕ, zero, suc, pred, Bool, true, false, ◌&&◌, not, ◌==◌, if◌then◌else◌, List, length, Option, Some, None, ⊤}
use Rattle.std.specs.Str.{is_utf8}
use Rattle.std.specs.Str.Lossy.{utf8_valid_len}
use Rattle.sexpr_read.specs.declared.bytes.ByteClass.{ByteClass}
use Rattle.sexpr_read.specs.declared.bytes.ByteClass.TheVariants.{Space, Open, Close, Quote, Backslash, Plain}
use Rattle.sexpr_read.specs.declared.place.TextError.{TextError}
use Rattle.sexpr_read.specs.declared.place.TextError.TheVariants.{NotUtf8, CloseWithoutOpen, EndInside, TooDeep, ExtraText, EmptyText, OutOfMemory}
use Rattle.sexpr_read.specs.ByteClasses.{sign_of}
use Rattle.sexpr_read.specs.Comments.{shown}

-- where a prefix of a text ends: outside strings, in one, or in one after a backslash, with so many open lists
pub data Where : Type 0 where
  outside : ℕ → Where
  in_string : ℕ → Where
  after_backslash : ℕ → Where

-- one byte on
abbrev pub beyond : ByteClass → Where → Where
beyond Open (outside depth) = outside (suc depth)
beyond Close (outside depth) = outside (pred depth)
beyond Quote (outside depth) = in_string depth
beyond Space (outside depth) = outside depth
beyond Backslash (outside depth) = outside depth
beyond Plain (outside depth) = outside depth
beyond Quote (in_string depth) = outside depth
beyond Backslash (in_string depth) = after_backslash depth
beyond Open (in_string depth) = in_string depth
beyond Close (in_string depth) = in_string depth
beyond Space (in_string depth) = in_string depth
beyond Plain (in_string depth) = in_string depth
beyond _ (after_backslash depth) = in_string depth

-- where the prefix of this length ends
unfoldable pub where_at : (ℕ → ByteClass) → ℕ → Where
where_at sign zero = outside 0
where_at sign (suc place) = beyond (sign place) (where_at sign place)

-- only space stands before the place
unfoldable pub is_blank_before : (ℕ → ByteClass) → ℕ → Bool
is_blank_before sign zero = true
is_blank_before sign (suc place) = is_space (sign place) && is_blank_before sign place
  where
    is_space : ByteClass → Bool
    is_space Space = true
    is_space Open = false
    is_space Close = false
    is_space Quote = false
    is_space Backslash = false
    is_space Plain = false

-- the fault of what stands at a place, outside every list. `one` says that the text is to be one list
abbrev pub outer_fault : Bool → Bool → ℕ → ByteClass → Option TextError
outer_fault one blank place Close = Some (CloseWithoutOpen place)
outer_fault one blank place Space = None
outer_fault one blank place Open = if one && not blank then Some (ExtraText place) else None
outer_fault one blank place Quote = if one then Some (ExtraText place) else None
outer_fault one blank place Backslash = if one then Some (ExtraText place) else None
outer_fault one blank place Plain = if one then Some (ExtraText place) else None

-- the same in a list: at most 64 lists stand in one another
abbrev pub inner_fault : ℕ → ℕ → ByteClass → Option TextError
inner_fault depth place Open = if depth == 64 then Some (TooDeep place) else None
inner_fault depth place Close = None
inner_fault depth place Space = None
inner_fault depth place Quote = None
inner_fault depth place Backslash = None
inner_fault depth place Plain = None

abbrev pub fault_in : Bool → Bool → ℕ → ByteClass → Where → Option TextError
fault_in one blank place c (outside zero) = outer_fault one blank place c
fault_in one blank place c (outside (suc depth)) = inner_fault (suc depth) place c
fault_in one blank place c (in_string depth) = None
fault_in one blank place c (after_backslash depth) = None

abbrev pub fault_at : Bool → (ℕ → ByteClass) → ℕ → Option TextError
fault_at one sign place = fault_in one (is_blank_before sign place) place (sign place) (where_at sign place)

-- the fault of a text that ends so
abbrev pub end_fault_in : Bool → Bool → ℕ → Where → Option TextError
end_fault_in one blank place (outside zero) = if one && blank then Some EmptyText else None
end_fault_in one blank place (outside (suc depth)) = Some (EndInside place)
end_fault_in one blank place (in_string depth) = Some (EndInside place)
end_fault_in one blank place (after_backslash depth) = Some (EndInside place)

abbrev pub end_fault : Bool → (ℕ → ByteClass) → ℕ → Option TextError
end_fault one sign place = end_fault_in one (is_blank_before sign place) place (where_at sign place)

-- the first, or else the second
abbrev pub or_else : Option TextError → Option TextError → Option TextError
or_else (Some e) other = Some e
or_else None other = other

-- the first fault at the places before a place
unfoldable pub first_fault : Bool → (ℕ → ByteClass) → ℕ → Option TextError
first_fault one sign zero = None
first_fault one sign (suc place) = or_else (first_fault one sign place) (fault_at one sign place)

-- the first fault of a text of this length
abbrev pub whole_fault : Bool → (ℕ → ByteClass) → ℕ → Option TextError
whole_fault one sign n = or_else (first_fault one sign n) (end_fault one sign n)

-- why a text is refused that is to be one list, if it is
unfoldable pub refusal_of_one : List ℕ → Option TextError
refusal_of_one text = if is_utf8 text then whole_fault true (sign_of text) (length text) else Some (NotUtf8 (utf8_valid_len text))

-- the same of a text of forms with comment lines
unfoldable pub refusal_of_all : List ℕ → Option TextError
refusal_of_all text = if is_utf8 text then whole_fault false (shown text) (length text) else Some (NotUtf8 (utf8_valid_len text))

-- a refusal that a text of forms may have: there is no text too many among forms, and none is no fault
abbrev pub IsOfForms : TextError → Type 0
IsOfForms (NotUtf8 at) = ⊤
IsOfForms (CloseWithoutOpen at) = ⊤
IsOfForms (EndInside at) = ⊤
IsOfForms (TooDeep at) = ⊤
IsOfForms (ExtraText at) = ⊥
IsOfForms EmptyText = ⊥
IsOfForms OutOfMemory = ⊤

-- What a run promises, by how it ends.
use Rattle.std.proofs.Common.{◌≡◌, ◌⊎◌, ◌<◌, ◌≤◌, ℕ, List, ◌++◌, Option, Some, None, IfSome, inl, inr, sym, ap, subst, ◌∙◌, refl, arith}
use Rattle.std.proofs.lemmas.List.{append_assoc}
use Rattle.std.specs.Io.KnownBytes.{Appends}
use Rattle.drc_io.specs.FaultCounts.{Rose}
use Rattle.drc_io.specs.Sinks.{AppendsPrefix}
use denote.Enum.Declared.{tag_of}
use Rattle.run_words.specs.Calls.{PlainCall}
use Rattle.run_texts.specs.declared.texts.Which.{Which}
use Rattle.run_texts.specs.NamedTexts.{ReadFails}
use Rattle.run_output.specs.contracts.status.Status.{the_type}
use Rattle.run_output.specs.declared.status.Status.{Status}
use Rattle.run_output.specs.declared.status.Status.TheVariants.{Clean, Rows, Usage, Refused, ReadFault, WriteFault, OutOfMemory}
use Rattle.run_output.specs.Output.{Output, IsOutputFor, IsBegunFor}
use Rattle.run_output.specs.RunEndings.{Whole, Prefix, PrefixOf, Unread, UnreadPrefix, Ends, EndsFor, Promises}

module _ (IsIt : Output → Type 0) (IsBegun : List ℕ → Type 0) (Fault : Which → Type 0) (old new : Option (List ℕ)) where
  small : (s : Status) → tag_of the_type s ≤ 6
  small Clean = omega arith
  small Rows = omega arith
  small Usage = omega arith
  small Refused = omega arith
  small ReadFault = omega arith
  small WriteFault = omega arith
  small OutOfMemory = omega arith

  whole_below : (s : Status) → Ends IsIt IsBegun Fault old new s → tag_of the_type s < 4 → Whole IsIt old new (tag_of the_type s)
  whole_below Clean w h = w
  whole_below Rows w h = w
  whole_below Usage w h = w
  whole_below Refused w h = w
  whole_below ReadFault w h = absurd (omega arith)
  whole_below WriteFault w h = absurd (omega arith)
  whole_below OutOfMemory w h = absurd (omega arith)

  unread_at : (s : Status) → Ends IsIt IsBegun Fault old new s → tag_of the_type s ≡ 4 → Unread Fault old new
  unread_at Clean w h = absurd (omega arith)
  unread_at Rows w h = absurd (omega arith)
  unread_at Usage w h = absurd (omega arith)
  unread_at Refused w h = absurd (omega arith)
  unread_at ReadFault w h = w
  unread_at WriteFault w h = absurd (omega arith)
  unread_at OutOfMemory w h = absurd (omega arith)

  part_at : (s : Status) → Ends IsIt IsBegun Fault old new s → tag_of the_type s ≡ 5 → Prefix IsBegun old new ⊎ UnreadPrefix Fault old new
  part_at Clean w h = absurd (omega arith)
  part_at Rows w h = absurd (omega arith)
  part_at Usage w h = absurd (omega arith)
  part_at Refused w h = absurd (omega arith)
  part_at ReadFault w h = absurd (omega arith)
  part_at WriteFault w h = w
  part_at OutOfMemory w h = absurd (omega arith)

  prefix_at : (s : Status) → Ends IsIt IsBegun Fault old new s → tag_of the_type s ≡ 6 → Prefix IsBegun old new
  prefix_at Clean w h = absurd (omega arith)
  prefix_at Rows w h = absurd (omega arith)
  prefix_at Usage w h = absurd (omega arith)
  prefix_at Refused w h = absurd (omega arith)
  prefix_at ReadFault w h = absurd (omega arith)
  prefix_at WriteFault w h = absurd (omega arith)
  prefix_at OutOfMemory w h = w

  module _ (m n : ℕ) where
    rose_at : (s : Status) → (s ≡ WriteFault → Rose m n) → tag_of the_type s ≡ 5 → Rose m n
    rose_at Clean f h = absurd (omega arith)
    rose_at Rows f h = absurd (omega arith)
    rose_at Usage f h = absurd (omega arith)
    rose_at Refused f h = absurd (omega arith)
    rose_at ReadFault f h = absurd (omega arith)
    rose_at WriteFault f h = f refl
    rose_at OutOfMemory f h = absurd (omega arith)

    complete_at : (s : Status) → Ends IsIt IsBegun Fault old new s → (s ≡ WriteFault → Rose m n) → ¬ (Rose m n) → ((which : Which) → ¬ (Fault which)) → (tag_of the_type s < 4) ⊎ (tag_of the_type s ≡ 6)
    complete_at Clean w f calm read = inl (omega arith)
    complete_at Rows w f calm read = inl (omega arith)
    complete_at Usage w f calm read = inl (omega arith)
    complete_at Refused w f calm read = inl (omega arith)
    complete_at ReadFault w f calm read = absurd (read w.0 w.1)
    complete_at WriteFault w f calm read = absurd (calm (f refl))
    complete_at OutOfMemory w f calm read = inr refl

  its_status : (status : ℕ) → ((a b : Output) → IsIt a → IsIt b → a ≡ b) → Whole IsIt old new status → (out : Output) → IsIt out → (status ≡ out.status) × Appends old new out.text
  its_status status same w out is =
      (sym w.2 ∙ ap (λ (o : Output). o.status) (same w.0 out w.1 is), subst (λ (o : Output). Appends old new o.text) (same w.0 out w.1 is) w.3)

-- a prefix of what a text begins with is one of the text
longer : (old new : Option (List ℕ)) (text whole rest : List ℕ) → whole ≡ text ++ rest → AppendsPrefix old new text → AppendsPrefix old new whole
longer old new text whole rest e a = record {
  prefix = a.prefix;
  rest = a.rest ++ rest;
  whole = e ∙ (ap (λ xs. xs ++ rest) a.whole ∙ append_assoc a.prefix a.rest rest);
  appended = a.appended;
}

module _ (begun : (call : PlainCall) (files : List (List ℕ × List ℕ)) (text : List ℕ) (out : Output) → IsBegunFor call (Some files) text → IsOutputFor call (Some files) out → (rest : List ℕ) × (out.text ≡ text ++ rest)) where
  prefix_of : (call : PlainCall) (files : List (List ℕ × List ℕ)) (old new : Option (List ℕ)) (out : Output) → IsOutputFor call (Some files) out → Prefix (IsBegunFor call (Some files)) old new → PrefixOf out.text old new
  prefix_of call files old new out is (inl k) = inl k
  prefix_of call files old new out is (inr f) = let more = begun call files f.0 out f.1 is in inr (longer old new f.0 out.text more.0 more.1 f.2)

  part_of : (call : PlainCall) (files : List (List ℕ × List ℕ)) (old new : Option (List ℕ)) (Fault : Which → Type 0) (out : Output) → IsOutputFor call (Some files) out
      → Prefix (IsBegunFor call (Some files)) old new ⊎ UnreadPrefix Fault old new → PrefixOf out.text old new ⊎ UnreadPrefix Fault old new
  part_of call files old new Fault out is (inl f) = inl (prefix_of call files old new out is f)
  part_of call files old new Fault out is (inr u) = inr u

  prefixes_at : (call : PlainCall) (told : Option (List (List ℕ × List ℕ))) (Fault : Which → Type 0) (old new : Option (List ℕ)) (s : Status) → Ends (IsOutputFor call told) (IsBegunFor call told) Fault old new s
      → IfSome told (λ files. (out : Output) → IsOutputFor call (Some files) out → (tag_of the_type s ≡ 6 → PrefixOf out.text old new) × (tag_of the_type s ≡ 5 → PrefixOf out.text old new ⊎ UnreadPrefix Fault old new))
  prefixes_at call None Fault old new s w = tt
  prefixes_at call (Some files) Fault old new s w = λ out is. (
    λ h. prefix_of call files old new out is (prefix_at (IsOutputFor call (Some files)) (IsBegunFor call (Some files)) Fault old new s w h),
    λ h. part_of call files old new Fault out is (part_at (IsOutputFor call (Some files)) (IsBegunFor call (Some files)) Fault old new s w h),
  )

module _ (once : (call : PlainCall) (files : List (List ℕ × List ℕ)) (a b : Output) → IsOutputFor call (Some files) a → IsOutputFor call (Some files) b → a ≡ b)
    (begun : (call : PlainCall) (files : List (List ℕ × List ℕ)) (text : List ℕ) (out : Output) → IsBegunFor call (Some files) text → IsOutputFor call (Some files) out → (rest : List ℕ) × (out.text ≡ text ++ rest)) where
  exact_at : (call : PlainCall) (told : Option (List (List ℕ × List ℕ))) (IsBegun : List ℕ → Type 0) (Fault : Which → Type 0) (old new : Option (List ℕ)) (s : Status) → Ends (IsOutputFor call told) IsBegun Fault old new s
      → IfSome told (λ files. (out : Output) → IsOutputFor call (Some files) out → tag_of the_type s < 4 → (tag_of the_type s ≡ out.status) × Appends old new out.text)
  exact_at call None IsBegun Fault old new s w = tt
  exact_at call (Some files) IsBegun Fault old new s w = λ out is h.
      its_status (IsOutputFor call (Some files)) IsBegun Fault old new (tag_of the_type s) (once call files) (whole_below (IsOutputFor call (Some files)) IsBegun Fault old new s w h) out is

  pub promised : (call : PlainCall) (told : Option (List (List ℕ × List ℕ))) (before now : List ℕ → ℕ) (old new : Option (List ℕ)) (m n : ℕ) (s : Status)
      → EndsFor call told before now old new s → (s ≡ WriteFault → Rose m n) → Promises call told before now old new m n (tag_of the_type s)
  promised call told before now old new m n s w f =
      let IsIt = IsOutputFor call told in
      let IsBegun = IsBegunFor call told in
      let Fault = ReadFails call told before now in
      record {
        bound = small IsIt IsBegun Fault old new s;
        whole = whole_below IsIt IsBegun Fault old new s w;
        read = unread_at IsIt IsBegun Fault old new s w;
        write = rose_at IsIt IsBegun Fault old new m n s f;
        part = part_at IsIt IsBegun Fault old new s w;
        memory = prefix_at IsIt IsBegun Fault old new s w;
        complete = complete_at IsIt IsBegun Fault old new m n s w f;
        exact = exact_at call told IsBegun Fault old new s w;
        prefix = prefixes_at begun call told Fault old new s w;
      }

  -- the same for the words
  pub promised_for : (call other : PlainCall) (told : Option (List (List ℕ × List ℕ))) (before now : List ℕ → ℕ) (old new : Option (List ℕ)) (m n : ℕ) (s : Status) → call ≡ other
      → EndsFor call told before now old new s → (s ≡ WriteFault → Rose m n) → Promises other told before now old new m n (tag_of the_type s)
  promised_for call other told before now old new m n s same w f =
      subst (λ (r : PlainCall). Promises r told before now old new m n (tag_of the_type s)) same (promised call told before now old new m n s w f)

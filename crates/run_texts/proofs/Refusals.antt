-- From the reason of a refusal to the stop of a run.
use Rattle.std.proofs.Common.{◌≡◌, ◌∙◌, ◌⊎◌, inl, inr, sym, ap, subst, ℕ, List, codes, Option, Some, None, Result, Err}
use Rattle.plain_types.specs.Limits.{most_text}
use Rattle.plain_types.specs.Reasons.{PlainReason, refused_at}
use Rattle.run_texts.specs.declared.texts.Which.{Which}
use Rattle.run_texts.specs.declared.texts.Refusal.{Refusal}
use Rattle.run_texts.specs.declared.texts.Stop.{Stop}
use Rattle.run_texts.specs.declared.texts.Stop.TheVariants.{Refused, Unread, OutOfMemory}
use Rattle.run_texts.specs.NamedTexts.{named, refused, reason_text, IsRefusalText, ReaderSays, SourceSays, too_long}
use Rattle.run_texts.specs.RunFindings.{reason_in, why_of, IsStopOf, StopsReading, StopsText}

-- a reader that refuses the bytes refuses them for the reason of its error. Running out of memory has no place
module _ {A E : Type 0} (reason : E → PlainReason) (none : E) (nowhere : (reason none).place ≡ None) (Says : Result A E → Type 0) where
  pub refuses_so : (e : E) (r : Refusal) → (e ≡ none) ⊎ Says (Err e) → reason_in r ≡ reason e → (error : E) × Says (Err error) × IsRefusalText (reason error) (why_of r)
  refuses_so e r (inl wants) same =
      let both : Some r.at ≡ None = ap (λ (why : PlainReason). why.place) same ∙ (ap (λ (x : E). (reason x).place) wants ∙ nowhere) in absurd (cc)
  refuses_so e r (inr says) same = (e, says, record { at = r.at; has_place = sym (ap (λ (why : PlainReason). why.place) same); text_is = ap reason_text same })

-- the stop of a text that is refused for a reason, where its reader refuses its bytes so
pub stops_so : (which : Which) (bytes : List ℕ) (why : PlainReason) (stop : Stop) → IsStopOf which why stop → ((r : Refusal) → reason_in r ≡ why → ReaderSays which bytes (refused (why_of r))) → StopsReading which bytes stop
stops_so which bytes why (Refused r) is says = (is.0, says r is.1)
stops_so which bytes why (Unread it) is says = absurd is
stops_so which bytes why OutOfMemory is says = tt

-- a text that is too long
pub long_stops : (told : Option (List (List ℕ × List ℕ))) (before now : List ℕ → ℕ) (which : Which) (name : List ℕ) (stop : Stop) → IsStopOf which (refused_at (codes "TooLong") 0 most_text) stop
    → SourceSays told (named which name) (refused too_long) → StopsText told before now (named which name) stop
long_stops told before now which name (Refused r) is says = (is.0, subst (λ (text : List ℕ). SourceSays told (named which name) (refused text)) (sym (ap reason_text is.1)) says)
long_stops told before now which name (Unread it) is says = absurd is
long_stops told before now which name OutOfMemory is says = tt

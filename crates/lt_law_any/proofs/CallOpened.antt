-- What the words, the source and the sink come to, of any program that takes no words.
use Rattle.std.proofs.Common.{◌≡◌, ◌≢◌, ◌<◌, ◌≤◌, ◌+◌, ◌++◌, ℕ, List, Option, Some, IfSome, refl, sym, ap, subst, arith, ◌∙◌, ◌⊎◌, inl, inr, take, length}
use Rattle.std.specs.Io.KnownBytes.{Appends}
use Rattle.lt_io.specs.Streams.{count_after, AppendsPart, CountsFaults, Rose, RoseBy, SourceState, Pace}
use Rattle.lt_call.specs.declared.outcome.Outcome.{Outcome}
use Rattle.lt_call.specs.declared.outcome.Outcome.TheVariants.{Done, Usage, Refused, TooLong, ReadFault, WriteFault, NoMemory, BadJournal, Share, Stuck, Cut}
use Rattle.lt_call.specs.Outcomes.{HasRead, WritesNothing}
use Rattle.lt_call.specs.Calls.{Serves}
use Rattle.lt_law_any.specs.AnyCall.{ReadAll, WroteNothing, CallSays, IsSmooth}

-- known bytes that were appended
pub appended : (held after : Option (List ℕ)) (old new text : List ℕ) → held ≡ Some old → after ≡ Some new → Appends held after text → new ≡ old ++ text
appended held after old new text was is h =
    subst (λ (o : Option (List ℕ)). Appends (Some old) o text) is (subst (λ (o : Option (List ℕ)). Appends o after text) was h)

-- known bytes of which a part was appended
pub part_appended : (held after : Option (List ℕ)) (old new text : List ℕ) → held ≡ Some old → after ≡ Some new → AppendsPart held after text
    → (size : ℕ) × (size < length text) × (new ≡ old ++ take size text)
part_appended held after old new text was is h = (h.0, h.1, appended held after old new (take h.0 text) was is h.2)

read_all : (end : Outcome) → ReadAll end → HasRead end
read_all end (inl e) = subst HasRead (sym e) tt
read_all end (inr (inl e)) = subst HasRead (sym e) tt
read_all end (inr (inr (inl e))) = subst HasRead (sym e) tt
read_all end (inr (inr (inr (inl e)))) = subst HasRead (sym e) tt
read_all end (inr (inr (inr (inr (inl e))))) = subst HasRead (sym e) tt
read_all end (inr (inr (inr (inr (inr (inl e)))))) = subst HasRead (sym e) tt
read_all end (inr (inr (inr (inr (inr (inr e)))))) = subst HasRead (sym e) tt

wrote_nothing : (end : Outcome) → WroteNothing end → WritesNothing end
wrote_nothing end (inl e) = subst WritesNothing (sym e) tt
wrote_nothing end (inr (inl e)) = subst WritesNothing (sym e) tt
wrote_nothing end (inr (inr (inl e))) = subst WritesNothing (sym e) tt
wrote_nothing end (inr (inr (inr (inl e)))) = subst WritesNothing (sym e) tt
wrote_nothing end (inr (inr (inr (inr (inl e))))) = subst WritesNothing (sym e) tt
wrote_nothing end (inr (inr (inr (inr (inr (inl e)))))) = subst WritesNothing (sym e) tt
wrote_nothing end (inr (inr (inr (inr (inr (inr e)))))) = subst WritesNothing (sym e) tt

pub no_long : (limit : ℕ) (before after : SourceState) (writes later : ℕ) → IsSmooth limit before after writes later
    → RoseBy (limit + 1) before.given after.given → ⊥
no_long limit before after writes later smooth rose = omega (arith, smooth.given, smooth.room, rose)

pub no_read_rise : (limit : ℕ) (before after : SourceState) (writes later : ℕ) → IsSmooth limit before after writes later
    → Rose before.faults after.faults → ⊥
no_read_rise limit before after writes later smooth rose = omega (arith, smooth.read.0, smooth.read.1, rose)

pub no_write_rise : (limit : ℕ) (before after : SourceState) (writes later : ℕ) → IsSmooth limit before after writes later
    → Rose writes later → ⊥
no_write_rise limit before after writes later smooth rose = omega (arith, smooth.written.0, smooth.written.1, rose)

module _ {A S K : Type 0} (outcome : A → Outcome) (makes : Option (List ℕ) → List ℕ → Type 0) (refuses : Option (List ℕ) → A → Type 0) (wants : SourceState → SourceState → Type 0) (limit : ℕ) (state : S → SourceState) (held : K → Option (List ℕ)) (faults : K → ℕ) (pace : K → Option Pace) where
  -- an answer of the program
  abbrev pub IsAnswer : ℕ → A → S → S → K → K → Type 0
  IsAnswer = Serves outcome makes refuses wants limit state held faults pace

  some_words : (words : ℕ) (answer : A) (s t : S) (k l : K) → IsAnswer words answer s t k l → words ≡ 0 → outcome answer ≢ Usage
  some_words words answer s t k l serves none e = omega (arith, none, serves.usage e)

  not_usage : {end : Outcome} → end ≡ TooLong → end ≢ Usage
  not_usage e f = cc

  long_gives : (words : ℕ) (answer : A) (s t : S) (k l : K) → IsAnswer words answer s t k l → outcome answer ≡ TooLong
      → (bytes : List ℕ) → (state s).left ≡ Some bytes → limit < length bytes
  long_gives words answer s t k l serves e bytes is =
      subst (λ (left : Option (List ℕ)). IfSome left (λ b. limit < length b)) is ((serves.reading (not_usage e)).too_many_left e)

  pub call_says : CallSays outcome IsAnswer limit state faults
  call_says = record {
    words = λ words answer s t k l serves some. serves.no_words some;
    no_words = λ words answer s t k l serves none. some_words words answer s t k l serves none;
    unread = λ words answer s t k l serves e. serves.unread e;
    unwritten = λ words answer s t k l serves e. serves.unwritten (wrote_nothing (outcome answer) e);
    too_long = λ words answer s t k l serves e. ((serves.reading (λ f. cc)).too_long e).count;
    had_more = λ words answer s t k l serves bytes e is. long_gives words answer s t k l serves e bytes is;
    not_too_long = λ words answer s t k l serves d u. (serves.reading u).not_too_long d;
    read_fault = λ words answer s t k l serves e. ((serves.reading (λ f. cc)).read_fault e).count;
    no_read_fault = λ words answer s t k l serves d u. (serves.reading u).no_read_fault d;
    whole = λ words answer s t k l serves e. ((serves.reading (λ f. subst HasRead f (read_all (outcome answer) e))).whole (read_all (outcome answer) e)).count;
    write_fault = λ words answer s t k l serves e. (serves.writing.write_fault e).count;
    no_write_fault = λ words answer s t k l serves d. serves.writing.no_write_fault d;
  }

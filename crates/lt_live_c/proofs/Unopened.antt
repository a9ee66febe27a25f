-- What is opened, and why nothing is.
use Rattle.std.proofs.Common.{◌≡◌, ◌≤◌, ℕ, List, Bool, Result, Ok, Err, Some, false, true, inl, inr, refl, sym, arith, ◌∙◌}
use Rattle.std.proofs.lemmas.Bool.{false≢true}
use Rattle.std.specs.Prelude.{IfOk, IfErr}
use Rattle.lt_modes.specs.Script.{ScriptData}
use Rattle.lt_script.specs.Reading.{read_of}
use Rattle.lt_live_c.specs.declared.code.TheConstants.{BAD_ARGUMENT, NO_MEMORY}
use Rattle.lt_live_c.specs.Nodes.{NodeOpenRefused}
use Rattle.lt_live_c.specs.declared.service.Service.{Service}
use Rattle.lt_live_c.specs.NewSets.{SetWords, with_next_sets}
use Rattle.lt_live_c.specs.Opening.{fits_for_c, IsOpenedOf, IsOpenedFrom, IsOpenedWith, TextRefused, SetsRefused, OpenRefused, OpenSetsRefused}

module _ (text : List ℕ) (limit places : ℕ) where
  pub unfit : fits_for_c text limit places ≡ false → OpenRefused BAD_ARGUMENT text limit places
  unfit h = record {
    bad_argument = λ e. h;
    unfit = λ again. refl;
    bad_script = λ e. absurd (omega (arith, e));
    only = inl refl;
  }

  pub unread : (code : ℕ) → fits_for_c text limit places ≡ true → TextRefused code text
      → OpenRefused code text limit places
  unread code fits h = record {
    bad_argument = λ e. absurd (elim h.only [ inl f ↦ omega (arith, e, f) | inr f ↦ omega (arith, e, f) ]);
    unfit = λ not. absurd (false≢true (sym not ∙ fits));
    bad_script = h.bad_script;
    only = inr h.only;
  }

  pub no_memory : (code : ℕ) → fits_for_c text limit places ≡ true → code ≡ NO_MEMORY
      → OpenRefused code text limit places
  no_memory code fits is = record {
    bad_argument = λ e. absurd (omega (arith, e, is));
    unfit = λ not. absurd (false≢true (sym not ∙ fits));
    bad_script = λ e. absurd (omega (arith, e, is));
    only = inr (inr is);
  }

  -- a test that no number fails
  pub fits_all : (passes : Bool) → passes ≡ fits_for_c text limit places → passes ≡ true
      → fits_for_c text limit places ≡ true
  fits_all passes is passed = sym is ∙ passed

  -- what was opened of the text's script
  pub opened_from : (script : ScriptData) (made : Result Service ℕ) → read_of text ≡ Ok script
      → IfOk made (IsOpenedOf script limit places) → IfOk made (IsOpenedFrom text limit places)
  opened_from script (Ok s) read is = (script, read, is)
  opened_from script (Err code) read is = tt

  pub not_opened : (made : Result Service ℕ) → fits_for_c text limit places ≡ true
      → IfErr made (λ code. code ≡ NO_MEMORY) → IfErr made (λ code. OpenRefused code text limit places)
  not_opened (Ok s) fits is = tt
  not_opened (Err code) fits is = no_memory code fits is

  -- the same where there are further sets
  module _ (sets : List SetWords) where
    -- a code of what is opened without them
    pub without_sets : (code : ℕ) → OpenRefused code text limit places → OpenSetsRefused code text sets limit places
    without_sets code h = record {
      bad_argument = h.bad_argument;
      unfit = h.unfit;
      bad_script = h.bad_script;
      too_many = λ e. absurd (elim h.only [
        | inl f ↦ omega (arith, e, f)
        | inr (inl f) ↦ omega (arith, e, f)
        | inr (inr f) ↦ omega (arith, e, f)
      ]);
      bad_set = λ e. absurd (elim h.only [
        | inl f ↦ omega (arith, e, f)
        | inr (inl f) ↦ omega (arith, e, f)
        | inr (inr f) ↦ omega (arith, e, f)
      ]);
      only = elim h.only [ inl f ↦ inl f | inr (inl f) ↦ inr (inl f) | inr (inr f) ↦ inr (inr (inr (inr f))) ];
    }

    pub no_sets : (code : ℕ) (script : ScriptData) → fits_for_c text limit places ≡ true → read_of text ≡ Ok script
        → SetsRefused code sets script → OpenSetsRefused code text sets limit places
    no_sets code script fits read h = record {
      unfit = λ not. absurd (false≢true (sym not ∙ fits));
      bad_argument = λ e. absurd (elim h.only [
        | inl f ↦ omega (arith, e, f)
        | inr (inl f) ↦ omega (arith, e, f)
        | inr (inr f) ↦ omega (arith, e, f)
      ]);
      bad_script = λ e. absurd (elim h.only [
        | inl f ↦ omega (arith, e, f)
        | inr (inl f) ↦ omega (arith, e, f)
        | inr (inr f) ↦ omega (arith, e, f)
      ]);
      too_many = λ e. (script, read, h.too_many e);
      bad_set = λ e. (script, read, h.bad_set e);
      only = inr (inr h.only);
    }

    pub no_memory_with : (code : ℕ) → fits_for_c text limit places ≡ true → code ≡ NO_MEMORY
        → OpenSetsRefused code text sets limit places
    no_memory_with code fits is = without_sets code (no_memory code fits is)

    pub opened_with : (script whole : ScriptData) (made : Result Service ℕ) → read_of text ≡ Ok script
        → with_next_sets script sets ≡ Some whole → IfOk made (IsOpenedOf whole limit places)
        → IfOk made (IsOpenedWith text sets limit places)
    opened_with script whole (Ok s) read added is = (script, whole, read, added, is)
    opened_with script whole (Err code) read added is = tt

    pub not_opened_with : (made : Result Service ℕ) → fits_for_c text limit places ≡ true
        → IfErr made (λ code. code ≡ NO_MEMORY) → IfErr made (λ code. OpenSetsRefused code text sets limit places)
    not_opened_with (Ok s) fits is = tt
    not_opened_with (Err code) fits is = without_sets code (no_memory code fits is)

  -- the same of a node
  module _ (node : ℕ) where
    pub node_unfit : fits_for_c text limit places ≡ false → NodeOpenRefused BAD_ARGUMENT text node limit places
    node_unfit h = record {
      bad_argument = λ e. inl h;
      unfit = λ again. refl;
      bad_script = λ e. absurd (omega (arith, e));
      only = inl refl;
    }

    pub node_unread : (code : ℕ) → fits_for_c text limit places ≡ true → TextRefused code text
        → NodeOpenRefused code text node limit places
    node_unread code fits h = record {
      bad_argument = λ e. absurd (elim h.only [ inl f ↦ omega (arith, e, f) | inr f ↦ omega (arith, e, f) ]);
      unfit = λ not. absurd (false≢true (sym not ∙ fits));
      bad_script = h.bad_script;
      only = inr h.only;
    }

    pub node_beyond : (script : ScriptData) → read_of text ≡ Ok script → script.nodes ≤ node
        → NodeOpenRefused BAD_ARGUMENT text node limit places
    node_beyond script read beyond = record {
      bad_argument = λ e. inr (script, (read, beyond));
      unfit = λ again. refl;
      bad_script = λ e. absurd (omega (arith, e));
      only = inl refl;
    }

    pub node_no_memory : (code : ℕ) → fits_for_c text limit places ≡ true → code ≡ NO_MEMORY
        → NodeOpenRefused code text node limit places
    node_no_memory code fits is = record {
      bad_argument = λ e. absurd (omega (arith, e, is));
      unfit = λ not. absurd (false≢true (sym not ∙ fits));
      bad_script = λ e. absurd (omega (arith, e, is));
      only = inr (inr is);
    }

-- A copy that is sent for an ask keeps the ledgers of the set.
use Rattle.std.proofs.Common.{◌≡◌, ℕ, ◌<◌, inl, inr, [], Some, Bool, true, false, refl, sym, ap, subst, arith, ◌∙◌, ◌==◌, ◌⊎◌, if◌then◌else◌, Contains, IsFalse, IsTrue, eq-eqb, ne_eqb}
use Rattle.lt_modes.specs.declared.ask.Ask.{Ask}
use Rattle.lt_modes.specs.Modes.{Modes, has, bars, covers}
use Rattle.lt_modes.specs.State.{Desk, Entry, CopyBody, Made, Post, entry_of, others}
use Rattle.lt_modes.specs.Serving.{serve_copy, owing, owed_at}
use Rattle.lt_spec.specs.World.{World}
use Rattle.lt_spec.specs.Facts.{state_at}
use Rattle.lt_model.specs.OnWay.{Acting, tell_in, freeze_in, tells_of, copies_to, freezes_to, account_of}
use Rattle.lt_law_accounts.specs.Account.{Account}
use Rattle.lt_law_accounts.specs.AccountSteps.{MayOwe, owing_copy}
use Rattle.lt_law_accounts.specs.AccountPlay.{Owe, others_counted}
use Rattle.lt_law_accounts.proofs.AccountPlay.{one_changes}
use Rattle.lt_model.proofs.AccountRules.{services_are_steps, rules_count}
use Rattle.lt_model.proofs.StandingBegins.{copies_are_on_way}
use Rattle.lt_lists.proofs.Members.{contains_cases}
use Rattle.lt_law_invariant.specs.InvariantLaws.{after_effect, copied, CopyServiceKeeps}
use Rattle.lt_law_invariant.proofs.AfterEffect.{says_none, copies_stay, freezes_stay, clock_stays, comes_or_sent, comes_still, comes_sent}
use Rattle.lt_law_invariant.proofs.Seen.{SameOwn, all_kept, kept_by, account_seen, news_change, own_stays, frozen_stays, tells_stay}

pub copy_service_keeps : CopyServiceKeeps
copy_service_keeps script w s q k stamp desk ask at waiting free h =
    kept_by script (Acting q) later s (Some q) left
    (one_changes script.nodes accounts (account_of script (Acting q) later s (Some q) left) v (Owe ask (copies_to script later s v))
    (all_kept script (Acting q) w s (Some q) desk h) waiting.node may
    (λ x under d. account_seen script (Acting q) (Acting q) w later s (Some q) (Some q) left desk x (record {
      heard = record { clock = clock_stays w q s m x; tells = tells x; copies = copies_stay script w q s m x (λ e. absurd (d (sym e)), tt); freezes = freezes x };
      own = own_stays w q s m x same;
    }) (entry_left x ∙ ap (λ (b : Bool). if b then owing ask (entry_of desk x) else entry_of desk x) (ne_eqb x v d)) refl refl)
    own)
    (λ x under. news_change script w later s q left desk x (freezes x) (frozen_stays w q s m x (record { number = refl; frozen = refl }))
    (ap (λ (entry : Entry). entry.frozen_told) (entry_left x) ∙ told_same x (x == v)) refl (h.news x under))
  where
    v : ℕ
    v = ask.node

    m : Made
    m = serve_copy s stamp k ask (state_at w s q)

    later : World
    later = after_effect w q s m

    left : Desk
    left = copied ask k desk

    accounts : ℕ → Account
    accounts x = account_of script (Acting q) w s (Some q) desk x

    post : Post
    post = record { to = v; letter = record { stamp = stamp; set = s; link = (state_at w s q).firm; body = CopyBody ask } }

    same : SameOwn (state_at w s q) m.state
    same = record { held = refl; charge = refl; pending = refl }

    entry_left : (x : ℕ) → entry_of left x ≡ (if x == v then owing ask (entry_of desk x) else entry_of desk x)
    entry_left x = services_are_steps.owes s k x stamp ask (state_at w s q) desk left at.here (ap (owed_at ask k) at.here) (subst (λ (n : ℕ). v < n) (sym at.entries) waiting.node)

    told_same : (x : ℕ) (own : Bool) → (if own then owing ask (entry_of desk x) else entry_of desk x).frozen_told ≡ (entry_of desk x).frozen_told
    told_same x true = refl
    told_same x false = refl

    tells : (x : ℕ) → tells_of script later s x ≡ tells_of script w s x
    tells x = tells_stay script w q s m x (λ b. (λ e. says_none s (tell_in x) post.letter refl, tt)) refl

    freezes : (x : ℕ) → freezes_to script later s x ≡ freezes_to script w s x
    freezes x = freezes_stay script w q s m x (λ e. says_none s freeze_in post.letter refl, tt)

    -- the account of the ask's node
    own : account_of script (Acting q) later s (Some q) left v ≡ owing_copy ask (copies_to script later s v) (accounts v)
    own =
        let entry = entry_left v ∙ ap (λ (b : Bool). if b then owing ask (entry_of desk v) else entry_of desk v) (eq-eqb v v refl) in
        let kept = own_stays w q s m v same in
        λ i. record {
          clock = clock_stays w q s m v i;
          held = kept.held i;
          charge = kept.charge i;
          pending = kept.pending i;
          entry = entry i;
          tells = tells v i;
          copies = copies_to script later s v;
          here = v == q;
          moving = v == q;
        }

    same_others : others q (state_at w s q) desk v ≡ others_counted script.nodes accounts v
    same_others = rules_count.others script (Acting q) w s q v desk at.entries

    sent_ask : (x : Ask) → Contains (copies_to script later s v) x → Contains (copies_to script w s v) x ⊎ (x ≡ ask)
    sent_ask x c = elim (comes_or_sent script w q s m v (CopyBody x) ((copies_are_on_way script later s v x).0 c)) [
      | inl old ↦ inl ((copies_are_on_way script w s v x).1 old)
      | inr new ↦ elim (contains_cases post new.0 [] new.1) [
        | inl same ↦ inr (says_ask x (sym new.4 ∙ ap (λ (p : Post). p.letter.body) (sym same)))
        | inr none ↦ absurd (omega (arith, none.1))
      ]
    ]
      where
        says_ask : (x : Ask) → CopyBody x ≡ CopyBody ask → x ≡ ask
        says_ask x e = cc

    may : MayOwe (others_counted script.nodes accounts v) ask (copies_to script later s v) (accounts v)
    may = record {
      between = ne_eqb v q free.node;
      away = ne_eqb v q free.node;
      waits = waiting.waits;
      sent = record {
        gained = (copies_are_on_way script later s v ask).1 (comes_sent script w q s m post at.node (0, omega arith, refl) refl);
        kept = λ x c. (copies_are_on_way script later s v x).1 (comes_still script w q s m v (CopyBody x) ((copies_are_on_way script w s v x).0 c));
        only = sent_ask;
      };
      free = subst (λ (o : Modes). IsFalse (has ask.mode (bars o))) same_others free.free;
      covered = subst (λ (o : Modes). IsTrue (covers o ask.mode)) same_others free.covered;
      clear = free.clear;
    }

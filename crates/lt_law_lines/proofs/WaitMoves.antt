-- The lines of a node's move tell who waits at the node.
use Rattle.lt_modes.specs.Serving.{is_gone}
use Rattle.std.proofs.Common.{◌≡◌, ◌≢◌, ℕ, ◌<◌, inl, inr, List, [], ◌∷◌, ◌++◌, Option, Some, None, refl, sym, ap, subst, ◌∙◌, ◌⊎◌, Contains, fold, false}
use Rattle.std.specs.List.{AllByRecursion}
use Rattle.std.proofs.lemmas.Bool.{cases_eq}
use Rattle.std.proofs.lemmas.List.Sums.{fold-append}
use Rattle.lt_modes.specs.declared.mode.Mode.{Mode}
use Rattle.lt_modes.specs.declared.ask.Ask.{Ask}
use Rattle.lt_modes.specs.declared.event.Event.{Event}
use Rattle.lt_modes.specs.State.{SetState, Made}
use Rattle.lt_lists.specs.Below.{put}
use Rattle.lt_lists.proofs.Puts.{put-same, put-other}
use Rattle.lt_spec.specs.Holdings.{Holding, holding, wanted_after}
use Rattle.lt_spec.specs.NodeMove.{NodeState, touched, each_touched}
use Rattle.lt_model.proofs.NodeEffects.{IsOnce}
use Rattle.lt_law_lines.proofs.WaitRules.{Unsaid, Answered, Answers, IsLive}
use Rattle.lt_law_lines.proofs.WaitActs.{NoneOf, StaysIdle, NowWaits, ActSays}

-- an unanswered ask of the client, which it didn't give up, wants the mode
abbrev pub HasAsk : SetState → ℕ → Mode → Type 0
HasAsk t c mode = (ask : Ask) × Contains t.pending ask × (ask.client ≡ c) × (ask.mode ≡ mode) × (is_gone t c ≡ false)

-- what is said of the client is what its unanswered ask wants, of these sets
pub record Told (count : ℕ) (sets : ℕ → SetState) (c : ℕ) (lock : Option Holding) : Type 0 where
  pub says : (k : Holding) → lock ≡ Some k → (k.client ≡ c) × (k.set < count) × HasAsk (sets k.set) c k.mode
  pub told : (s : ℕ) → s < count → (ask : Ask) → IsLive (sets s) c ask → ask.client ≡ c → lock ≡ Some (holding c s ask.mode)

-- the client has no unanswered ask in these sets
abbrev pub IsFree : ℕ → (ℕ → SetState) → ℕ → Type 0
IsFree count sets c = (s : ℕ) → s < count → NoneOf c (sets s)

-- the lines tell what has changed for the client, and say nothing of one that waits neither before nor after
pub record Follows (count : ℕ) (before after : ℕ → SetState) (c : ℕ) (lines : List Event) : Type 0 where
  pub told : (lock : Option Holding) → Told count before c lock → Told count after c (fold (wanted_after c) lock lines)
  pub free : IsFree count before c → IsFree count after c × ((lock : Option Holding) → fold (wanted_after c) lock lines ≡ lock)

pub stays_so : (count : ℕ) (sets : ℕ → SetState) (c : ℕ) → Follows count sets sets c []
stays_so count sets c = record { told = λ lock h. h; free = λ h. (h, λ lock. refl) }

pub then_follows : (count : ℕ) (f g h : ℕ → SetState) (c : ℕ) (first later : List Event) → Follows count f g c first → Follows count g h c later → Follows count f h c (first ++ later)
then_follows count f g h c first later one two = record {
  told = λ lock before. subst (Told count h c) (sym (fold-append (wanted_after c) lock first later)) (two.told (fold (wanted_after c) lock first) (one.told lock before));
  free = λ before.
      let middle = one.free before in
      let after = two.free middle.0 in (
        after.0,
        λ lock. fold-append (wanted_after c) lock first later ∙ after.1 (fold (wanted_after c) lock first) ∙ middle.1 lock,
      );
}

nothing_some : {A : Type 0} (lock : Option Holding) (k : Holding) → lock ≡ None → lock ≡ Some k → A
nothing_some lock k e f = cc

abbrev lock_or : Holding → Option Holding → Holding
lock_or other None = other
lock_or other (Some k) = k

same_lock : (lock : Option Holding) (a b : Holding) → lock ≡ Some a → lock ≡ Some b → a ≡ b
same_lock lock a b e f = ap (lock_or a) (sym e ∙ f)

-- who is free waits for nothing, as is said of it
pub nothing_said : (count : ℕ) (sets : ℕ → SetState) (c : ℕ) (lock : Option Holding) → Told count sets c lock → IsFree count sets c → lock ≡ None
nothing_said count sets c None h free = refl
nothing_said count sets c (Some k) h free =
    let found = h.says k refl in
    absurd (free k.set found.1 found.2.0 (found.2.1, found.2.4) found.2.2)

-- an ask in a set that was put there, or in another one
put_cases : {A : Type 0} (sets : ℕ → SetState) (s : ℕ) (now : SetState) (x c : ℕ) (ask : Ask) → IsLive (put sets s now x) c ask
    → (x ≡ s → IsLive now c ask → A) → (x ≢ s → IsLive (sets x) c ask → A) → A
put_cases sets s now x c ask there here aside = elim (cases_eq x s) [
  | inl e ↦ here e (subst (λ (t : SetState). IsLive t c ask) (ap (put sets s now) e ∙ put-same sets s now) there)
  | inr d ↦ aside d (subst (λ (t : SetState). IsLive t c ask) (put-other sets s now x d) there)
]

put_here : (sets : ℕ → SetState) (s : ℕ) (now : SetState) (x c : ℕ) (ask : Ask) → x ≡ s → IsLive now c ask → IsLive (put sets s now x) c ask
put_here sets s now x c ask e there = subst (λ (t : SetState). IsLive t c ask) (sym (ap (put sets s now) e ∙ put-same sets s now)) there

put_aside : (sets : ℕ → SetState) (s : ℕ) (now : SetState) (x c : ℕ) (ask : Ask) → x ≢ s → IsLive (sets x) c ask → IsLive (put sets s now x) c ask
put_aside sets s now x c ask d there = subst (λ (t : SetState). IsLive t c ask) (sym (put-other sets s now x d)) there

-- a rule on one set, for a client of which it says nothing or whose ask it answers
pub put_follows : (count : ℕ) (sets : ℕ → SetState) (s : ℕ) (m : Made) (c : ℕ) → s < count → Unsaid c (sets s) m ⊎ Answered c (sets s) m
    → Follows count sets (put sets s m.state) c m.events
put_follows count sets s m c inside (inl u) = record {
  told = λ lock h. record {
    says = λ k e.
        let before = h.says k (sym (u.said lock) ∙ e) in
        let still = kept k.set before.2.0 before.2.2 (before.2.1, before.2.4) in
        (before.0, before.1, (before.2.0, still.0, before.2.2, before.2.3, still.1));
    told = λ x below ask there own. u.said lock ∙ h.told x below ask (older x ask own there) own;
  };
  free = λ h. (λ x below ask there own. h x below ask (older x ask own there) own, u.said);
}
  where
    kept : (x : ℕ) (ask : Ask) → ask.client ≡ c → IsLive (sets x) c ask → IsLive (put sets s m.state x) c ask
    kept x ask own there = elim (cases_eq x s) [
      | inl e ↦ put_here sets s m.state x c ask e (u.stays ask own (subst (λ (k : ℕ). IsLive (sets k) c ask) e there))
      | inr d ↦ put_aside sets s m.state x c ask d there
    ]

    older : (x : ℕ) (ask : Ask) → ask.client ≡ c → IsLive (put sets s m.state x) c ask → IsLive (sets x) c ask
    older x ask own there = put_cases sets s m.state x c ask there
        (λ e now. subst (λ (k : ℕ). IsLive (sets k) c ask) (sym e) (u.older ask own now)) (λ d now. now)
put_follows count sets s m c inside (inr a) = record {
  told = λ lock h. record {
    says = λ k e. nothing_some (fold (wanted_after c) lock m.events) k (a.said lock) e;
    told = λ x below ask there own. put_cases sets s m.state x c ask there
        (λ e now. absurd (a.none ask now own))
        (λ d now. absurd (d (ap (λ (k : Holding). k.set) (same_lock lock (holding c x ask.mode) (holding c s a.asked.0.mode) (h.told x below ask now own) (h.told s inside a.asked.0 a.asked.1 a.asked.2)))));
  };
  free = λ h. absurd (h s inside a.asked.0 a.asked.1 a.asked.2);
}

-- a command of a client that is free, for this client
pub put_told : (count : ℕ) (sets : ℕ → SetState) (s : ℕ) (m : Made) (client : ℕ) → s < count → IsFree count sets client → ActSays client s (sets s) m
    → (lock : Option Holding) → Told count sets client lock → Told count (put sets s m.state) client (fold (wanted_after client) lock m.events)
put_told count sets s m client inside free act lock h =
    subst (λ (l : Option Holding). Told count (put sets s m.state) client (fold (wanted_after client) l m.events)) (sym (nothing_said count sets client lock h free)) (by_cases (act.own (free s inside)))
  where
    by_cases : StaysIdle client m ⊎ NowWaits client s m → Told count (put sets s m.state) client (fold (wanted_after client) None m.events)
    by_cases (inl idle) = record {
      says = λ k e. nothing_some (fold (wanted_after client) None m.events) k idle.said e;
      told = λ x below ask there own. put_cases sets s m.state x client ask there (λ e now. absurd (idle.none ask now own)) (λ d now. absurd (free x below ask now own));
    }
    by_cases (inr waits) = record {
      says = λ k e. says_this k (sym waits.said ∙ e);
      told = λ x below ask there own. put_cases sets s m.state x client ask there
          (λ e now. waits.said ∙ ap (λ (mode : Mode). Some (holding client s mode)) (sym (waits.only ask now own)) ∙ ap (λ (k : ℕ). Some (holding client k ask.mode)) (sym e))
          (λ d now. absurd (free x below ask now own));
    }
      where
        says_this : (k : Holding) → Some (holding client s waits.mode) ≡ Some k → (k.client ≡ client) × (k.set < count) × HasAsk (put sets s m.state k.set) client k.mode
        says_this k e =
            let is : holding client s waits.mode ≡ k = same_lock (Some k) (holding client s waits.mode) k (sym e) refl in
            subst (λ (x : Holding). (x.client ≡ client) × (x.set < count) × HasAsk (put sets s m.state x.set) client x.mode) is
            (refl, inside, (waits.asked.0, here.0, waits.asked.2, waits.asked.3, here.1))
          where
            here : IsLive (put sets s m.state s) client waits.asked.0
            here = put_here sets s m.state s client waits.asked.0 refl waits.asked.1

-- a rule on each of several sets that differ
pub each_follows : (count : ℕ) (rule : ℕ → SetState → Made) (c : ℕ) (sets : List ℕ) → ((s : ℕ) → IsOnce s sets ⊎ AllByRecursion (λ k. k ≢ s) sets) → AllByRecursion (λ s. s < count) sets
    → (n : NodeState) → AllByRecursion (λ s. Answers (n.set s) (rule s (n.set s))) sets → Follows count n.set (each_touched rule sets n).node.set c (each_touched rule sets n).events
each_follows count rule c [] once inside n answers = stays_so count n.set c
each_follows count rule c (s ∷ rest) once inside n answers =
    let m = rule s (n.set s) in
    let next = (touched n s m).node in
    then_follows count n.set next.set (each_touched rule rest next).node.set c m.events (each_touched rule rest next).events
    (put_follows count n.set s m c inside.0 (answers.0 c))
    (each_follows count rule c rest (λ k. later k (once k)) inside.1 next (still rest (first (once s)) answers.1))
  where
    later : (k : ℕ) → IsOnce k (s ∷ rest) ⊎ AllByRecursion (λ x. x ≢ k) (s ∷ rest) → IsOnce k rest ⊎ AllByRecursion (λ x. x ≢ k) rest
    later k (inl (inl own)) = inr own.1
    later k (inl (inr more)) = inl more.1
    later k (inr aside) = inr aside.1

    first : IsOnce s (s ∷ rest) ⊎ AllByRecursion (λ x. x ≢ s) (s ∷ rest) → AllByRecursion (λ x. x ≢ s) rest
    first (inl (inl own)) = own.1
    first (inl (inr more)) = absurd (more.0 refl)
    first (inr aside) = absurd (aside.0 refl)

    still : (others : List ℕ) → AllByRecursion (λ x. x ≢ s) others → AllByRecursion (λ k. Answers (n.set k) (rule k (n.set k))) others
        → AllByRecursion (λ k. Answers (put n.set s (rule s (n.set s)).state k) (rule k (put n.set s (rule s (n.set s)).state k))) others
    still [] apart h = tt
    still (k ∷ more) apart h = (
      subst (λ (t : SetState). Answers t (rule k t)) (sym (put-other n.set s (rule s (n.set s)).state k apart.0)) h.0,
      still more apart.1 h.1,
    )

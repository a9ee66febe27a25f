-- What clients hold and wait for is sound after each move.
use Rattle.std.specs.List.{list_any}
use Rattle.lt_law_invariant.proofs.FittingLetters.{few_each}
use Rattle.std.proofs.Common.{◌≡◌, ◌≢◌, ℕ, ◌+◌, ◌<◌, ◌≤◌, inl, inr, List, [], ◌∷◌, ◌++◌, length, Option, Some, None, Bool, true, false, refl, sym, ap, subst, arith, ◌∙◌, ◌⊎◌, ◌==◌, not, nat_lt, if◌then◌else◌, Contains, AllPairs, IsTrue, count_by, drop as drop_front, eq-eqb, ne_eqb, ◌&&◌, ◌||◌}
use Rattle.std.proofs.lemmas.List.Elements.{All-contains, All-weaker}
use Rattle.std.proofs.lemmas.Bool.{cases_eq, and_parts}
use Rattle.lt_modes.specs.declared.stamp.Stamp.{Stamp}
use Rattle.lt_modes.specs.declared.ask.Ask.{Ask}
use Rattle.lt_modes.specs.declared.mode.Mode.{Mode}
use Rattle.lt_modes.specs.declared.parts.Row.{Row}
use Rattle.lt_modes.specs.Sound.{HoldsGivenUp, SoundRow, SoundPending}
use Rattle.lt_modes.specs.declared.command.Command.{Command}
use Rattle.lt_modes.specs.declared.command.Command.TheVariants.{Lock, Unlock, Try, Change, DropAll, Withdraw}
use Rattle.lt_modes.specs.declared.moves.Step.{Step}
use Rattle.lt_modes.specs.declared.moves.Step.TheVariants.{Act, Take}
use Rattle.lt_modes.specs.Script.{ScriptData}
use Rattle.lt_modes.specs.State.{SetState, Body, AskBody, TellBody, CopyBody, TokenBody, FreezeBody, Letter, ParkedAsk, ParkedTell, Made, without}
use Rattle.lt_modes.specs.Serving.{answered, is_gone, rows_after, without_gone as left_gone}
use Rattle.lt_modes.specs.SetMove.{drop, finish, withdraw}
use Rattle.lt_modes.specs.Routing.{learn}
use Rattle.lt_modes.specs.Taking.{arrive, take_body, take as take_letter}
use Rattle.lt_lists.specs.Below.{put}
use Rattle.lt_spec.specs.NodeMove.{home, related, IsWhole, NodeState, node_waits, next_command, act_stamp, take_stamp, at_clock, one_made, node_take, touched, each_touched, drop_all, obey, withdraws_itself}
use Rattle.lt_model.specs.Invariant.{AsksStand, WorldInvariant, unanswered_asks}
use Rattle.lt_modes.specs.Fits.{numbers_of}
use Rattle.lt_spec.specs.World.{World, is_enabled, is_waiting, is_some_letter, put_mail, take_front, node_move, is_free_to_act}
use Rattle.lt_spec.specs.Facts.{state_at}
use Rattle.lt_lists.proofs.Sums.{sum_below-none}
use Rattle.lt_model.proofs.Effects.{take_by_effects, both}
use Rattle.lt_lists.proofs.Puts.{put-same, put-other}
use Rattle.lt_model.proofs.PathsMove.{has_mail_parts, desk_somewhere, kept_stands}
use Rattle.lt_model.proofs.HomesMove.{IsMaker, maker, next_targets}
use Rattle.lt_model.proofs.SentInMove.{stands}
use Rattle.lt_model.proofs.StandingBegins.{stands_arrived, elsewhere, unanswered, only_here, copies_are_on_way}
use Rattle.lt_law_invariant.proofs.OwnSteps.{route_same}
use Rattle.lt_law_invariant.proofs.ClientEffects.{GivenBy, Clients, clients, clients_ends, answers_kept, same_clients, live_by, route_gone}
use Rattle.lt_law_invariant.proofs.ClientCommands.{count_within, one_for}
use Rattle.lt_law_invariant.proofs.ClientMoves.{SoundClients, bonus_at, node_after, at_first, act_clients, idle_in, bonus_of}

-- what clients hold and wait for as it arrives
pub clients_arrived : (stamp : Stamp) (letter : Letter) (t : SetState) → Clients (λ c. 0) t t → AllPairs (λ (x y : Ask). x.stamp ≢ y.stamp) t.pending
    → ((ask : Ask) → letter.body ≡ CopyBody ask → Contains t.pending ask) → Clients (λ c. 0) t (arrive stamp letter t).state
clients_arrived stamp letter t h apart waits = by_body letter.body refl
  where
    u : SetState
    u = learn letter.link t

    learnt : (newer : Bool)
        → ((if newer then record t { firm = letter.link; hoped = None } else t).held ≡ t.held) ×
        ((if newer then record t { firm = letter.link; hoped = None } else t).pending ≡ t.pending) ×
        ((if newer then record t { firm = letter.link; hoped = None } else t).gone ≡ t.gone)
    learnt true = (refl, refl, refl)
    learnt false = (refl, refl, refl)

    same : (u.held ≡ t.held) × (u.pending ≡ t.pending) × (u.gone ≡ t.gone)
    same = learnt (nat_lt t.firm.epoch letter.link.epoch)

    by_body : (body : Body) → letter.body ≡ body → Clients (λ c. 0) t (take_body letter.set stamp body u).state
    by_body (AskBody ask marked) says =
        let r = (route_same letter.set stamp marked (ParkedAsk ask) u).1 in same_clients (λ c. 0) t t _ (r.held ∙ same.0) (r.pending ∙ same.1) (route_gone letter.set stamp marked (ParkedAsk ask) u ∙ same.2) h
    by_body (TellBody tell) says =
        let r = (route_same letter.set stamp false (ParkedTell tell) u).1 in same_clients (λ c. 0) t t _ (r.held ∙ same.0) (r.pending ∙ same.1) (route_gone letter.set stamp false (ParkedTell tell) u ∙ same.2) h
    by_body (CopyBody ask) says = answers_kept (λ c. 0) t t (take_body letter.set stamp (CopyBody ask) u).state ask h (waits ask says) apart
        (λ i. if list_any (λ other. other == ask.client) (same.2 i) then same.0 i else answered (same.0 i) ask)
        (ap (λ (l : List Ask). without l ask.stamp) same.1) (ap (λ (g : List ℕ). left_gone g ask.client) same.2)
    by_body (TokenBody desk) says = same_clients (λ c. 0) t t _ same.0 same.1 same.2 h
    by_body (FreezeBody number modes) says = by_test (nat_lt u.number number)
      where
        by_test : (newer : Bool) → Clients (λ c. 0) t (if newer then record u { frozen = modes; number = number } else u)
        by_test true = same_clients (λ c. 0) t t _ same.0 same.1 same.2 h
        by_test false = same_clients (λ c. 0) t t _ same.0 same.1 same.2 h

-- what is done on sets counts no command
each_made : (rule : ℕ → SetState → Made) (sets : List ℕ) (n : NodeState) (c : ℕ) → (each_touched rule sets n).node.made c ≡ n.made c
each_made rule [] n c = refl
each_made rule (s ∷ rest) n c = each_made rule rest (touched n s (rule s (n.set s))).node c

-- what clients hold and wait for in a world that is kept
pub sound_clients : (script : ScriptData) (w : World) (x : ℕ) → WorldInvariant script w → x < script.nodes → SoundClients script (w.node x)
sound_clients script w x h below = record {
  kept = h.clients x below;
  gives =
      λ s under ask there free. given (state_at w s x).held ask.gives_up ask.client
      ((All-contains (SoundPending (numbers_of script) x (state_at w s x)) (state_at w s x).pending ask
      ((h.sets s under).states x below).pending there).gives_up free);
  one = λ s under. few_each (state_at w s x).pending ((h.sets s under).states x below).one_ask;
  some = λ s under. All-weaker (SoundRow (numbers_of script) x) (λ (row : Row). 1 ≤ row.count) (λ row own. own.count) (state_at w s x).held
      ((h.sets s under).states x below).rows;
}
  where
    given : (rows : List Row) (o : Option Mode) (client : ℕ) → HoldsGivenUp rows client o → GivenBy rows client o
    given rows None client held = tt
    given rows (Some mode) client held = omega (arith, held, count_within rows client mode)

-- the mover's clients after its move
pub clients_kept : (script : ScriptData) (w : World) → IsWhole script → WorldInvariant script w → (q : ℕ) (step : Step) → IsTrue (is_enabled script w q step)
    → SoundClients script (node_move script w q step).node
clients_kept script w whole h q (Act client) enabled = by_command (next_command script n client) refl
  where
    n : NodeState
    n = w.node q

    own : IsMaker script q client
    own = maker script w q client enabled

    below : q < script.nodes
    below = subst (λ (x : ℕ). x < script.nodes) own.own (whole.homes client own.known)

    not_true : (t : Bool) → not t ≡ true → t ≡ false
    not_true true e = cc
    not_true false e = refl

    alone : (first second : Bool) → second ≡ false → (first || second) ≡ true → first ≡ true
    alone true second e f = refl
    alone false true e f = cc
    alone false false e f = cc

    waits_not : withdraws_itself n client (next_command script n client) ≡ false → node_waits script n client ≡ false
    waits_not other =
        let first = and_parts (nat_lt client (length script.clients)) _ enabled in
        let second = and_parts (home script client == q) _ first.1 in
        let third = and_parts (is_free_to_act script w client) _ second.1 in
        let here : withdraws_itself (w.node (home script client)) client (next_command script (w.node (home script client)) client) ≡ false =
        ap (λ (x : ℕ). withdraws_itself (w.node x) client (next_command script (w.node x) client)) own.own ∙ other in
        ap (λ (x : ℕ). node_waits script (w.node x) client) (sym own.own)
        ∙ not_true (is_waiting script w client) (alone (not (is_waiting script w client)) _ here third.0)

    no_asks_at : node_waits script n client ≡ false → unanswered_asks script n client ≡ 0
    no_asks_at none =
        sum_below-none (length script.sets) (λ s. count_by (live_by (is_gone (n.set s) client) client) (n.set s).pending)
        (λ s under. idle_in script n client none s under)

    bonus_made : (c : ℕ) → n.made c + one_for client c ≤ put n.made client (n.made client + 1) c
    bonus_made c = elim (cases_eq c client) [
      | inl e ↦
          let one : ◌≡◌ {A = ℕ} (if client == c then 1 else 0) 1 = ap (λ (b : Bool). if b then 1 else 0) (eq-eqb client c (sym e)) in
          omega (arith, one, ap n.made e, ap (put n.made client (n.made client + 1)) e, put-same n.made client (n.made client + 1))
      | inr d ↦
          let none : ◌≡◌ {A = ℕ} (if client == c then 1 else 0) 0 = ap (λ (b : Bool). if b then 1 else 0) (ne_eqb client c (λ e. d (sym e))) in
          omega (arith, none, put-other n.made client (n.made client + 1) c d)
    ]

    free : node_waits script n client ≡ false → (c : ℕ) → (one_for client c ≡ 0) ⊎ ((one_for client c ≤ 1) × (unanswered_asks script n c ≡ 0))
    free none c = elim (cases_eq client c) [
      | inl e ↦
          let one : ◌≡◌ {A = ℕ} (if client == c then 1 else 0) 1 = ap (λ (b : Bool). if b then 1 else 0) (eq-eqb client c e) in
          inr (omega (arith, one), subst (λ (x : ℕ). unanswered_asks script n x ≡ 0) e (no_asks_at none))
      | inr d ↦ inl (ap (λ (b : Bool). if b then 1 else 0) (ne_eqb client c d))
    ]

    by_command : (command : Option Command) → next_command script n client ≡ command
        → SoundClients script (obey script (act_stamp q n) client command (one_made client (at_clock (n.clock + 1) n))).node
    by_command None e = record {
      kept = record {
        one_ask = (sound_clients script w q h below).kept.one_ask;
        counts = λ c. omega
            (arith, (sound_clients script w q h below).kept.counts c, bonus_made c);
      };
      gives = (sound_clients script w q h below).gives;
      one = (sound_clients script w q h below).one;
      some = (sound_clients script w q h below).some;
    }
    by_command (Some command) e =
        let each =
        act_clients script w q client command whole (λ s under. kept_stands script w s (h.sets s under)) below (sound_clients script w q h below) (λ other. waits_not (ap (withdraws_itself n client) e ∙ other))
        (next_targets script n client command whole e) in
        node_after script n (obey script (act_stamp q n) client (Some command) (one_made client (at_clock (n.clock + 1) n))).node each.0 (bonus_of client command)
        (sound_clients script w q h below) each.1
        (λ c. omega (arith, bonus_made c, made_stays command c, least command c)) (free_by command (λ other. waits_not (ap (withdraws_itself n client) e ∙ other)))
      where
        least : (command : Command) (c : ℕ) → bonus_of client command c ≤ one_for client c
        least (Lock s mode) c = omega arith
        least (Try s mode) c = omega arith
        least (Unlock s mode) c = omega arith
        least (Change s gives_up mode) c = omega arith
        least (DropAll other s) c = omega arith
        least (Withdraw other s) c = omega arith

        free_by : (command : Command) → (withdraws_itself n client (Some command) ≡ false → node_waits script n client ≡ false)
            → (c : ℕ) → (bonus_of client command c ≡ 0) ⊎ ((bonus_of client command c ≤ 1) × (unanswered_asks script n c ≡ 0))
        free_by (Lock s mode) none c = free (none refl) c
        free_by (Try s mode) none c = free (none refl) c
        free_by (Unlock s mode) none c = free (none refl) c
        free_by (Change s gives_up mode) none c = free (none refl) c
        free_by (DropAll other s) none c = free (none refl) c
        free_by (Withdraw other s) none c = inl refl

        made_stays : (command : Command) (c : ℕ)
            → (obey script (act_stamp q n) client (Some command) (one_made client (at_clock (n.clock + 1) n))).node.made c ≡ put n.made client (n.made client + 1) c
        made_stays (Lock s mode) c = refl
        made_stays (Try s mode) c = refl
        made_stays (Unlock s mode) c = refl
        made_stays (Change s gives_up mode) c = refl
        made_stays (Withdraw other s) c = refl
        made_stays (DropAll other s) c = by_waits (node_waits script (one_made client (at_clock (n.clock + 1) n)) other)
          where
            by_waits : (waiting : Bool)
                → (drop_all waiting (act_stamp q n) client other s (related script s)
                (one_made client (at_clock (n.clock + 1) n))).node.made c ≡ put n.made client (n.made client + 1) c
            by_waits true = each_made (λ k. finish k (act_stamp q n)) (related script s) (one_made client (at_clock (n.clock + 1) n)) c
            by_waits false = each_made (λ k. drop k (act_stamp q n) other) (related script s) (one_made client (at_clock (n.clock + 1) n)) c
clients_kept script w whole h q (Take p) enabled =
    let is_there = has_mail_parts script w p q enabled in
    by_letters (w.mail p q) refl is_there.letter is_there.sender is_there.receiver
  where
    n : NodeState
    n = w.node q

    taken : (letter : Letter) (rest : List Letter) → w.mail p q ≡ letter ∷ rest → p < script.nodes → q < script.nodes → SoundClients script (node_take q letter n).node
    taken letter rest front from below =
        node_after script n (node_take q letter n).node letter.set (λ c. 0) (sound_clients script w q h below)
        (λ s under. elim (cases_eq s letter.set) [
          | inl e ↦ none_more s (n.set s) _ (subst (λ (k : ℕ). Clients (λ c. 0) (n.set k) (put n.set letter.set m.state k)) (sym e)
              (subst (Clients (λ c. 0) (n.set letter.set)) (sym (put-same n.set letter.set m.state)) ended.1))
          | inr d ↦
              none_more s (n.set s) _ (subst (Clients (λ c. 0) (n.set s)) (sym (put-other n.set letter.set m.state s d))
              (at_first script n (sound_clients script w q h below) s under))
        ])
        (λ c. omega arith) (λ c. inl refl)
      where
        stamp : Stamp
        stamp = take_stamp q n letter

        m : Made
        m = take_letter stamp letter (n.set letter.set)

        among : Contains (w.mail p q) letter
        among = subst (λ (l : List Letter). Contains l letter) (sym front) (0, omega arith, refl)

        in_sets : letter.set < length script.sets
        in_sets = All-contains (λ (l : Letter). l.set < length script.sets) (w.mail p q) letter (h.letters p q from below) among

        none_more : (s : ℕ) (t u : SetState) → Clients (λ c. 0) t u → Clients (bonus_at letter.set (λ c. 0) s) t u
        none_more s t u k = record { asks = λ c. omega (arith, k.asks c); counts = λ c. omega (arith, k.counts c); one = k.one; gives = k.gives; some = k.some }

        waits : (ask : Ask) → letter.body ≡ CopyBody ask → Contains (n.set letter.set).pending ask
        waits ask says =
            let found = desk_somewhere script w letter.set (h.sets letter.set in_sets).paths in
            (((h.sets letter.set in_sets).known found.0 found.1 found.2).accounts q below).owed.waits ask
            ((copies_are_on_way script w letter.set q ask).1 (p, letter, from, record { among = among; set = refl }, says))

        left : ℕ → ℕ → List Letter
        left = put_mail w.mail p q (drop_front 1 (w.mail p q))

        stood : AsksStand script w letter.set
        stood = kept_stands script w letter.set (h.sets letter.set in_sets)

        ended : both (stands letter.set q stamp.clock (elsewhere script w letter.set q left) (unanswered script w letter.set q))
            (clients (λ c. 0) (n.set letter.set)) m.state ([] ++ m.posts)
        ended = take_by_effects stamp letter _ _ _
            (clients_ends letter.set stamp (elsewhere script w letter.set q left) (unanswered script w letter.set q) (λ c. 0) (n.set letter.set)
            (only_here script w letter.set q stood below))
            (n.set letter.set) [] (
              stands_arrived script w letter.set p q letter rest (h.sets letter.set in_sets).paths stood from below front refl,
              clients_arrived stamp letter (n.set letter.set) (at_first script n (sound_clients script w q h below) letter.set in_sets) (stood.apart q below) waits,
            )

    by_letters : (letters : List Letter) → w.mail p q ≡ letters → is_some_letter letters ≡ true → p < script.nodes → q < script.nodes
        → SoundClients script (take_front q n (w.mail p q)).node
    by_letters [] e none hp hq = cc
    by_letters (letter ∷ rest) e there hp hq = subst (λ (l : List Letter). SoundClients script (take_front q n l).node) (sym e) (taken letter rest e hp hq)

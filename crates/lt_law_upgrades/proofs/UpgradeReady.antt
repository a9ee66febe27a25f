-- What is so in a run of an upgrading script as a client makes its next command.
use Rattle.std.proofs.Common.{◌≡◌, ◌≢◌, ℕ, ◌<◌, ◌≤◌, inl, inr, length, Option, Some, None, Bool, true, false, refl, sym, subst, arith, ◌∙◌, ◌+◌, List, [], ◌∷◌, ◌++◌, ◌⊎◌, IsTrue, Contains, is_some, drop as drop_front}
use Rattle.std.proofs.lemmas.Bool.{cases_eq, and_parts, or_cases, false≢true}
use Rattle.std.proofs.lemmas.List.Elements.{All-contains}
use Rattle.lt_modes.specs.declared.mode.Mode.{Mode}
use Rattle.lt_modes.specs.declared.mode.Mode.TheVariants.{Read, IntentionWrite}
use Rattle.lt_modes.specs.declared.ask.Ask.{Ask}
use Rattle.lt_modes.specs.declared.parts.Row.{Row}
use Rattle.lt_modes.specs.declared.command.Command.{Command}
use Rattle.lt_modes.specs.declared.command.Command.TheVariants.{Lock, Change}
use Rattle.lt_modes.specs.Modes.{conflicts, excludes_itself, has, one, covers, held_modes}
use Rattle.lt_modes.specs.Fits.{numbers_of}
use Rattle.lt_modes.specs.Script.{ScriptData}
use Rattle.lt_modes.specs.Serving.{queue_of, is_gone}
use Rattle.lt_modes.specs.Sound.{SoundDesk}
use Rattle.lt_modes.specs.State.{SetState, Desk, Body, TokenBody, CopyBody, Letter, Made, Post}
use Rattle.lt_modes.specs.declared.stamp.Stamp.{Stamp}
use Rattle.lt_modes.specs.Taking.{take as take_letter}
use Rattle.lt_lists.specs.Below.{put, one_if}
use Rattle.lt_lists.proofs.Puts.{put-same, put-other}
use Rattle.lt_spec.specs.Facts.{state_at, tokens_in}
use Rattle.lt_spec.specs.NodeMove.{home, NodeState, node_waits, next_command, IsWhole, take_stamp, node_take}
use Rattle.lt_spec.specs.World.{World, put_mail}
use Rattle.lt_law_accounts.proofs.Rows.{held-which, held-at}
use Rattle.lt_law_accounts.proofs.RowTotals.{total}
use Rattle.lt_model.specs.Homes.{Homes, IsRowAtHome, IsAskAtHome}
use Rattle.lt_model.specs.Invariant.{WorldInvariant, BodyOnPath, AsksStand}
use Rattle.lt_model.proofs.PathsMove.{desk_somewhere, kept_stands}
use Rattle.lt_model.proofs.Effects.{take_by_effects, both}
use Rattle.lt_model.proofs.StandingBegins.{copies_are_on_way, LetterTaken, letter_taken, stands_arrived, elsewhere, unanswered, only_here}
use Rattle.lt_law_invariant.proofs.HeldUpMoves.{locks_agree}
use Rattle.lt_law_invariant.proofs.ClientEffects.{GivenBy, Clients}
use Rattle.lt_law_invariant.proofs.ClientCommands.{no_ask_of}
use Rattle.lt_law_invariant.proofs.ClientMoves.{idle_in, at_first}
use Rattle.lt_law_invariant.proofs.ClientsKept.{sound_clients}
use Rattle.lt_law_lines.proofs.KeptLines.{row_of}
use Rattle.lt_law_waiting.proofs.WaitsAtRest.{row_counts, queue_waits}
use Rattle.lt_law_upgrades.specs.UpgradeLaws.{upgrades_in_order, may_still_hold, IsUpgrading}
use Rattle.lt_law_upgrades.proofs.TakingModes.{taking_clash, read_write}
use Rattle.lt_law_upgrades.proofs.LiveAsks.{idle_gives, two_totals}
use Rattle.lt_law_upgrades.proofs.Balance.{Balance, even, with_balance, balance_arrived}
use Rattle.lt_law_upgrades.proofs.DeskStays.{IsSettled, HasLeft}
use Rattle.lt_law_upgrades.proofs.DeskGrants.{Begins}
use Rattle.lt_law_upgrades.proofs.MayUpgrade.{upgrades_at, asks_none}
use Rattle.lt_law_upgrades.proofs.UpgradeWithin.{IsWithin, held_within}
use Rattle.lt_law_upgrades.proofs.DeskAsks.{not_holder}
use Rattle.lt_law_upgrades.proofs.UpgradeActs.{Ready}
use Rattle.lt_law_upgrades.proofs.DeskEffects.{settled_or_left, desk_ends, arrived_keeps}

-- each client holds no more than it may, and at each node the desk of each set is where it must be
pub record IsSteadfast (script : ScriptData) (w : World) : Type 0 where
  pub within : (c : ℕ) → c < length script.clients → IsWithin script (w.node (home script c)) c
  pub keeps : (s x : ℕ) → s < length script.sets → x < script.nodes → IsSettled script.nodes (state_at w s x)

-- nobody holds `read` and `intention_write` of one set
none_has_both : (script : ScriptData) (w : World) (s q : ℕ) → WorldInvariant script w → Homes script w → IsSteadfast script w → s < length script.sets → q < script.nodes
    → IsTrue (has Read (held_modes (state_at w s q).held)) → IsTrue (has IntentionWrite (held_modes (state_at w s q).held)) → ⊥
none_has_both script w s q kept homes h under below reads writes = by_clients (cases_eq a.0.client b.0.client)
  where
    t : SetState
    t = state_at w s q

    a : (row : Row) × Contains t.held row × (row.mode ≡ Read)
    a = held-which t.held Read reads

    b : (row : Row) × Contains t.held row × (row.mode ≡ IntentionWrite)
    b = held-which t.held IntentionWrite writes

    c : ℕ
    c = a.0.client

    at_home : (row : Row) → Contains t.held row → IsRowAtHome script q row
    at_home row there = All-contains (IsRowAtHome script q) t.held row (homes.states q s).rows there

    counts : (row : Row) (mode : Mode) → Contains t.held row → row.client ≡ c → row.mode ≡ mode → 1 ≤ total t.held c mode
    counts row mode there same is = subst (λ (m : Mode). 1 ≤ total t.held c m) is (subst (λ (d : ℕ). 1 ≤ total t.held d row.mode) same (row_counts t.held row there (at_home row there).count))

    within : IsWithin script (w.node q) c
    within = subst (λ (x : ℕ). IsWithin script (w.node x) c) (at_home a.0 a.1).home (h.within c (at_home a.0 a.1).client)

    differ : Read ≢ IntentionWrite
    differ e = cc

    by_clients : (a.0.client ≡ b.0.client) ⊎ (a.0.client ≢ b.0.client) → ⊥
    by_clients (inl same) = omega (
      arith,
      counts a.0 Read a.1 refl a.2,
      counts b.0 IntentionWrite b.1 (sym same) b.2,
      two_totals t.held c Read IntentionWrite differ,
      within.few s under,
    )
    by_clients (inr d) =
        let found = desk_somewhere script w s (kept.sets s under).paths in
        let account = ((kept.sets s under).known found.0 found.1 found.2).accounts q below in
        false≢true (sym (account.clear.clients a.0 b.0 a.1 b.1 d) ∙ (λ i. conflicts (a.2 i) (b.2 i)) ∙ read_write)

-- a set of a node as a move begins
begins_so : (script : ScriptData) (w : World) (s q : ℕ) → WorldInvariant script w → Homes script w → IsSteadfast script w → s < length script.sets → q < script.nodes
    → Begins script.nodes (state_at w s q)
begins_so script w s q kept homes h under below = record {
  keeps = (h.keeps s q under below).keeps;
  live = (h.keeps s q under below).live;
  charge = λ away. subst (SoundDesk (numbers_of script) false false (w.node q).clock (state_at w s q)) away ((kept.sets s under).states q below).desk;
  apart = none_has_both script w s q kept homes h under below;
}

-- what is so as a client makes its next command
pub ready_so : (script : ScriptData) (w : World) (rank : ℕ → ℕ) (q client : ℕ) (command : Command) → IsWhole script → WorldInvariant script w → Homes script w → IsUpgrading script rank → IsSteadfast script w
    → client < length script.clients → home script client ≡ q → q < script.nodes → node_waits script (w.node q) client ≡ false → next_command script (w.node q) client ≡ Some command
    → Ready script (w.node q) client command
ready_so script w rank q client command whole kept homes upgrading h known own below waits_not next = record {
  begins = λ s under. begins_so script w s q kept homes h under below;
  locks = λ s mode under is. not_holder (n.set s) client
      (λ row there. (All-contains (IsRowAtHome script q) (n.set s).held row (homes.states q s).rows there).count)
      (λ m. holds_none s mode m under is);
  changes = λ s g mode under is higher some. (
    takes s g mode is higher,
    (h.keeps s q under below).keeps.desk g (held_mode s g some) (takes s g mode is higher),
    λ b there. no_holder s g mode under is higher some b there b.holder refl,
  );
}
  where
    n : NodeState
    n = w.node q

    within : IsWithin script n client
    within = subst (λ (x : ℕ). IsWithin script (w.node x) client) own (h.within client known)

    in_order : upgrades_in_order rank client (may_still_hold script client (n.made client)) command ≡ true
    in_order = upgrades_at script rank client (n.made client) command (upgrading client known) next

    holds_none : (s : ℕ) (mode m : Mode) → s < length script.sets → command ≡ Lock s mode → total (n.set s).held client m ≡ 0
    holds_none s mode m under is = omega (
      arith,
      held_within script n client s m within under (idle_gives client (n.set s) (idle_in script n client waits_not s under) m),
      asks_none rank client s mode (may_still_hold script client (n.made client)) command (inl is) in_order m,
    )

    held_mode : (s : ℕ) (g : Mode) → 1 ≤ total (n.set s).held client g → IsTrue (has g (held_modes (n.set s).held))
    held_mode s g some =
        let row = row_of (n.set s).held client g some in
        subst (λ (m : Mode). IsTrue (has m (held_modes (n.set s).held))) row.3 (held-at (n.set s).held row.0 row.1)

    takes : (s : ℕ) (g mode : Mode) → command ≡ Change s g mode → covers (one g) mode ≡ false → IsTrue (excludes_itself g)
    takes s g mode is higher =
        let order = subst (λ (x : Command). upgrades_in_order rank client (may_still_hold script client (n.made client)) x ≡ true) is in_order in
        elim (or_cases (covers (one g) mode) _ order) [
          | inl covered ↦ absurd (false≢true (sym higher ∙ covered))
          | inr taking ↦ (and_parts (excludes_itself g) _ taking).0
        ]

    no_holder : (s : ℕ) (g mode : Mode) → s < length script.sets → command ≡ Change s g mode → covers (one g) mode ≡ false → 1 ≤ total (n.set s).held client g
        → (b : Ask) → Contains (queue_of (n.set s)) b → (holds : Bool) → b.holder ≡ holds → b.holder ≡ false
    no_holder s g mode under is higher some b there false e = e
    no_holder s g mode under is higher some b there true e = by_choice b.gives_up refl
      where
        waits : Contains (state_at w s b.node).pending b
        waits = queue_waits script w s q b kept under below there

        at_home : IsAskAtHome script b
        at_home = All-contains (IsAskAtHome script) (queue_of (n.set s)) b (homes.states q s).queue there

        its_node : b.node < script.nodes
        its_node = subst (λ (x : ℕ). x < script.nodes) at_home.home (whole.homes b.client at_home.client)

        by_choice : (o : Option Mode) → b.gives_up ≡ o → b.holder ≡ false
        by_choice None f = (h.keeps s b.node under its_node).keeps.fresh b waits f
        by_choice (Some g2) f =
            let live = (h.keeps s b.node under its_node).live b g2 waits f in
            let taking = ((h.keeps s b.node under its_node).keeps.next b g2 waits f).taking in
            let given = (sound_clients script w b.node kept its_node).gives s under b waits live in
            let theirs = row_of (state_at w s b.node).held b.client g2 (subst (GivenBy (state_at w s b.node).held b.client) f given) in
            let ours = row_of (n.set s).held client g some in
            let agree = locks_agree script w s (kept.sets s under) q b.node ours.0 theirs.0 below its_node ours.1 theirs.1 (elim (cases_eq q b.node) [
              | inr d ↦ inl d
              | inl same ↦ inr (λ clients. no_ask_of client (n.set s) (idle_in script n client waits_not s under) b (subst (λ (x : ℕ). Contains (state_at w s x).pending b) (sym same) waits) (subst (λ (x : ℕ). is_gone (state_at w s x) b.client ≡ false) (sym same) live)
                  (sym theirs.2 ∙ sym clients ∙ ours.2))
            ]) in
            absurd (false≢true (sym agree ∙ (λ i. conflicts (ours.3 i) (theirs.3 i)) ∙ taking_clash g g2 (takes s g mode is higher) taking))

-- The take of a letter, over all sets of its node.

-- what a letter made of a set of its node
pub record Taken (nodes s q : ℕ) (t u : SetState) (posts : List Post) : Type 0 where
  pub balance : Balance t u
  pub desk : IsSettled nodes u ⊎ HasLeft s q posts

-- what a letter does to each set of its node
pub take_sets : (script : ScriptData) (w : World) (p q : ℕ) (letter : Letter) (rest : List Letter) → WorldInvariant script w → w.mail p q ≡ letter ∷ rest → p < script.nodes → q < script.nodes
    → ((s : ℕ) → s < length script.sets → IsSettled script.nodes ((w.node q).set s))
    → (s : ℕ) → s < length script.sets → Taken script.nodes s q ((w.node q).set s) ((node_take q letter (w.node q)).node.set s) (node_take q letter (w.node q)).posts
take_sets script w p q letter rest h front from below keeps s under = elim (cases_eq s letter.set) [
  | inl e ↦ subst (λ (k : ℕ). Taken script.nodes k q (n.set k) (put n.set letter.set m.state k) m.posts) (sym e)
      (subst (λ (u : SetState). Taken script.nodes letter.set q t u m.posts) (sym (put-same n.set letter.set m.state)) (record { balance = ended.0.1; desk = ended.1 }))
  | inr d ↦ subst (λ (u : SetState). Taken script.nodes s q (n.set s) u m.posts) (sym (put-other n.set letter.set m.state s d)) (record { balance = even (n.set s) (at_first script n (sound_clients script w q h below) s under); desk = inl (keeps s under) })
]
  where
    n : NodeState
    n = w.node q

    stamp : Stamp
    stamp = take_stamp q n letter

    t : SetState
    t = n.set letter.set

    m : Made
    m = take_letter stamp letter t

    left : ℕ → ℕ → List Letter
    left = put_mail w.mail p q (drop_front 1 (w.mail p q))

    among : Contains (w.mail p q) letter
    among = subst (λ (l : List Letter). Contains l letter) (sym front) (0, omega arith, refl)

    in_sets : letter.set < length script.sets
    in_sets = All-contains (λ (l : Letter). l.set < length script.sets) (w.mail p q) letter (h.letters p q from below) among

    stood : AsksStand script w letter.set
    stood = kept_stands script w letter.set (h.sets letter.set in_sets)

    first : Clients (λ c. 0) t t
    first = at_first script n (sound_clients script w q h below) letter.set in_sets

    taken : LetterTaken script w letter.set q letter left
    taken = letter_taken script w letter.set p q letter rest (h.sets letter.set in_sets).paths stood from below front refl

    copies : (ask : Ask) → letter.body ≡ CopyBody ask → Contains t.pending ask × (excludes_itself ask.mode ≡ false)
    copies ask says =
        let found = desk_somewhere script w letter.set (h.sets letter.set in_sets).paths in
        let account = ((h.sets letter.set in_sets).known found.0 found.1 found.2).accounts q below in
        let copy = (copies_are_on_way script w letter.set q ask).1 (p, letter, from, record { among = among; set = refl }, says) in
        (account.owed.waits ask copy, account.clear.copies_clear ask ask copy copy)

    tokens : (desk : Desk) → letter.body ≡ TokenBody desk → (t.desk ≡ None) × (length desk.entries ≡ script.nodes)
    tokens desk says = (
      none_left t.desk (subst (λ (b : Body). one_if (is_some t.desk) + tokens_in b ≤ 1) says taken.few),
      (subst (BodyOnPath script.nodes (w.went letter.set) q) says ((h.sets letter.set in_sets).paths.letters p q letter from (record { among = among; set = refl })).body).entries,
    )
      where
        none_left : (o : Option Desk) → one_if (is_some o) + 1 ≤ 1 → o ≡ None
        none_left None e = refl
        none_left (Some d) e = absurd (omega (arith, e))

    ended : both (with_balance letter.set stamp (elsewhere script w letter.set q left) (unanswered script w letter.set q) t) (settled_or_left script.nodes letter.set q) m.state ([] ++ m.posts)
    ended = take_by_effects stamp letter _ _ _
        (desk_ends script.nodes letter.set stamp (elsewhere script w letter.set q left) (unanswered script w letter.set q) t below (only_here script w letter.set q stood below))
        t [] (
          (
            stands_arrived script w letter.set p q letter rest (h.sets letter.set in_sets).paths stood from below front refl,
            balance_arrived stamp letter t first (stood.apart q below) (λ ask says. (copies ask says).0),
          ),
          arrived_keeps script.nodes stamp letter t (keeps letter.set in_sets).keeps copies tokens,
        )

-- Nodes in different processes make one run together.
use Rattle.std.proofs.Common.{◌≡◌, ◌≢◌, ℕ, zero, suc, ◌<◌, ◌≤◌, List, [], ◌∷◌, ◌++◌, Option, Some, None, length, map, refl, sym, ap, subst, arith, ◌∙◌, slice_get, option_map, append_assoc, append-nil, IsTrue, Contains}
use Rattle.std.specs.List.{AllByRecursion}
use mathlib.Core.List.{IsPrefix}
use Rattle.std.proofs.lemmas.List.{length-map}
use Rattle.std.proofs.lemmas.List.Elements.{recursion_from_All, All-from_recursion}
use Rattle.std.proofs.lemmas.Option.{slice_get-map, slice_get_within}
use Rattle.lt_modes.specs.declared.command.Command.{Command}
use Rattle.lt_modes.specs.Fits.{fits, numbers_of}
use Rattle.lt_modes.specs.Script.{ScriptData}
use Rattle.lt_modes.specs.State.{Letter}
use Rattle.lt_lists.specs.Below.{gather_below}
use Rattle.lt_lists.proofs.AllLemmas.{all_append}
use Rattle.lt_lists.proofs.Members.{some_equal}
use Rattle.lt_spec.specs.NodeMove.{with_commands, SameAt, AreAt, share_of, home}
use Rattle.lt_spec.specs.Holdings.{lines_of}
use Rattle.lt_spec.specs.Script.{IsScript, IsRequest, IsOfVersion}
use Rattle.lt_spec.specs.World.{start, replies_of}
use Rattle.lt_spec.specs.Plays.{Plays}
use Rattle.lt_spec.specs.declared.limits.TheConstants.{MAX_COMMANDS_OF_SERVICE}
use Rattle.lt_law_invariant.proofs.FewAsks.{whole}
use Rattle.lt_law_own_lines.proofs.OwnRuns.{replies_of_log}
use Rattle.lt_law_plays.specs.Merged.{Part, Joined}
use Rattle.lt_law_plays.specs.AppendLaws.{AreOwnCommands}
use Rattle.lt_law_plays.proofs.Appending.{share_is_same, plays_same_at}
use Rattle.lt_law_merged.specs.JoinedRun.{IsJoinedRun}
use Rattle.lt_law_merged.specs.States.{FewMoves}
use Rattle.lt_law_merged.proofs.PartLogs.{joined_merges, part_is, letters_left_fit}
use Rattle.lt_law_apart.specs.Apart.{NodeNow, part_now, AreAllApart, commands_apart, script_apart, run_apart, ApartJoin, IsApartRun, ApartRun, ApartScript, ApartReplies, ApartLettersFit, NumberedArePrefix}

prefix_join : {X : Type 0} (xs ys zs : List X) → IsPrefix xs ys → IsPrefix ys zs → IsPrefix xs zs
prefix_join {X = X} xs ys zs h k = (h.0 ++ k.0, sym (append_assoc xs h.0 k.0) ∙ ap (λ (list : List X). list ++ k.0) h.1 ∙ k.1)

-- The commands of all.

abbrev commands_or : Option NodeNow → List (ℕ × Command)
commands_or (Some n) = n.commands
commands_or None = []

gathered_first : {X : Type 0} (n : ℕ) (f : ℕ → List X) → gather_below (suc n) f ≡ f 0 ++ gather_below n (λ k. f (suc k))
gathered_first zero f = sym (append-nil (f 0))
gathered_first (suc n) f =
    ap (λ xs. xs ++ f (suc n)) (gathered_first n f) ∙ append_assoc (f 0) (gather_below n (λ k. f (suc k))) (f (suc n))

gathered : (nodes : List NodeNow) → gather_below (length nodes) (λ k. commands_or (slice_get nodes k)) ≡ commands_apart nodes
gathered [] = refl
gathered (n ∷ nodes) =
    gathered_first (length nodes) (λ k. commands_or (slice_get (n ∷ nodes) k))
    ∙ ap (λ (commands : List (ℕ × Command)). n.commands ++ commands) (gathered nodes)

pub element_at : (nodes : List NodeNow) (k : ℕ) → k < length nodes → (n : NodeNow) × (slice_get nodes k ≡ Some n)
element_at [] k below = absurd (omega arith)
element_at (n ∷ nodes) zero below = (n, refl)
element_at (n ∷ nodes) (suc k) below = element_at nodes k (omega (arith, below))

all_in : (P : ℕ × Command → Type 0) (nodes : List NodeNow) → ((k : ℕ) (n : NodeNow) → slice_get nodes k ≡ Some n → AllByRecursion P n.commands)
    → AllByRecursion P (commands_apart nodes)
all_in P [] h = tt
all_in P (n ∷ nodes) h = all_append P n.commands (commands_apart nodes) (h 0 n refl) (all_in P nodes (λ k m e. h (suc k) m e))

node_from : (nodes : List NodeNow) (k : ℕ) (part : Part) → slice_get (map part_now nodes) k ≡ Some part → (n : NodeNow) × (slice_get nodes k ≡ Some n) × (n.part ≡ part)
node_from nodes k part e = by_place (slice_get nodes k) refl (sym (slice_get-map part_now nodes k) ∙ e)
  where
    by_place : (o : Option NodeNow) → slice_get nodes k ≡ o → option_map part_now o ≡ Some part → (n : NodeNow) × (slice_get nodes k ≡ Some n) × (n.part ≡ part)
    by_place None f g = cc
    by_place (Some n) f g = (n, f, some_equal (part_now n) part g)

part_there : (nodes : List NodeNow) (k : ℕ) (n : NodeNow) → slice_get nodes k ≡ Some n → slice_get (map part_now nodes) k ≡ Some n.part
part_there nodes k n e = slice_get-map part_now nodes k ∙ ap (option_map part_now) e

module _ (first : ScriptData) (nodes : List NodeNow) (h : AreAllApart first nodes) where
  abbrev made : ScriptData
  made = script_apart first nodes

  -- each node sees the same in its own script as in the one with all commands
  same_in_joined : (k : ℕ) (n : NodeNow) → slice_get nodes k ≡ Some n → SameAt k (with_commands first n.commands) made
  same_in_joined k n here =
      subst (λ (commands : List (ℕ × Command)). SameAt k (with_commands first commands) made) own
      (subst (λ (commands : List (ℕ × Command)). SameAt k (share_of bare shares k) (with_commands first commands)) all
      (share_is_same bare shares at k (omega (arith, slice_get_within nodes k n here, h.count))))
    where
      bare : ScriptData
      bare = with_commands first []

      shares : ℕ → List (ℕ × Command)
      shares q = commands_or (slice_get nodes q)

      own : shares k ≡ n.commands
      own = ap commands_or here

      all : gather_below first.nodes shares ≡ commands_apart nodes
      all = ap (λ (m : ℕ). gather_below m shares) (sym h.count) ∙ gathered nodes

      at : AreOwnCommands bare shares
      at q below =
          let (m, there) = element_at nodes q (omega (arith, below, h.count)) in
          subst (λ (o : Option NodeNow). AreAt first q (commands_or o)) (sym there) (h.each q m there).own

  joined : Joined made (map part_now nodes)
  joined = record {
    count = length-map nodes part_now ∙ h.count;
    plays = λ x part e. let (n, here, same) = node_from nodes x part e in subst (IsPlay x) same (play x n here);
    letters = λ p q a b e f apart.
        let (m, here, same) = node_from nodes p a e in
        let (n, there, also) = node_from nodes q b f in
        subst (λ (part : Part). (rest : List Letter) × (part.sent q ≡ b.used p ++ rest)) same
        (subst (λ (part : Part). (rest : List Letter) × (m.part.sent q ≡ part.used p ++ rest)) also (left p q m n here there apart));
  }
    where
      IsPlay : ℕ → Part → Type 0
      IsPlay x part = Plays made x ((start made).node x) part.log part.used part.sent part.last

      play : (x : ℕ) (n : NodeNow) → slice_get nodes x ≡ Some n → IsPlay x n.part
      play x n here =
          plays_same_at x (with_commands first n.commands) made (same_in_joined x n here) n.part.log ((start first).node x) n.part.last n.part.used n.part.sent
          (h.each x n here).plays

      -- what p sent to q is what q used of it, and what is left
      left : (p q : ℕ) (m n : NodeNow) → slice_get nodes p ≡ Some m → slice_get nodes q ≡ Some n → p ≢ q
          → (rest : List Letter) × (m.part.sent q ≡ n.part.used p ++ rest)
      left p q m n here there apart =
          let used = (h.each q n there).used p apart in
          let carried = h.carried p q m n here there apart in
          let given = (h.each p m here).given q (λ e. apart (sym e)) in
          let all = prefix_join (n.part.used p) (n.brought p) (m.part.sent q) used (prefix_join (n.brought p) (m.given q) (m.part.sent q) carried given) in
          (all.0, sym all.1)

  run : IsJoinedRun made (map part_now nodes) (run_apart first nodes)
  run = joined_merges made (map part_now nodes) joined

  apart : IsApartRun first nodes (run_apart first nodes)
  apart = record {
    joined = run;
    is_run = run.is_run;
    rising = run.is_merged.rising;
    moves = λ x n e. run.is_merged.parts x ∙ ap (λ (part : Part). part.log) (part_is made (map part_now nodes) x n.part (part_there nodes x n e));
    commands = λ client n e. (same_in_joined (home first client) n e).own client refl;
  }

  few_script : length (commands_apart nodes) ≤ MAX_COMMANDS_OF_SERVICE → IsScript made
  few_script few =
      let (n, e) = element_at nodes 0 (omega (arith, h.some, h.count)) in
      let good = (h.each 0 n e).is_script in record {
        version = good.version;
        some_node = good.some_node;
        few_nodes = good.few_nodes;
        nodes_of_version = good.nodes_of_version;
        few_sets = good.few_sets;
        sets_named = good.sets_named;
        sets_found = good.sets_found;
        families_not_later = good.families_not_later;
        families_first = good.families_first;
        few_clients = good.few_clients;
        clients_of_version = good.clients_of_version;
        clients_named = good.clients_named;
        clients_found = good.clients_found;
        clients_no_sets = good.clients_no_sets;
        homes = good.homes;
        loads = good.loads;
        few_commands = few;
        requests = All-from_recursion (IsRequest first.sets first.clients) (commands_apart nodes)
            (all_in (IsRequest first.sets first.clients) nodes (λ k m here. recursion_from_All (IsRequest first.sets first.clients) m.commands (h.each k m here).is_script.requests));
        modes = All-from_recursion (λ (request : ℕ × Command). IsOfVersion first.version request.1) (commands_apart nodes)
            (all_in (λ (request : ℕ × Command). IsOfVersion first.version request.1) nodes
            (λ k m here. recursion_from_All (λ (request : ℕ × Command). IsOfVersion first.version request.1) m.commands (h.each k m here).is_script.modes));
      }

  replies : length (commands_apart nodes) ≤ MAX_COMMANDS_OF_SERVICE → (client : ℕ) (n : NodeNow) → slice_get nodes (home first client) ≡ Some n
      → replies_of client (lines_of (run_apart first nodes)) ≡ replies_of client (lines_of n.part.log)
  replies few client n e =
      replies_of_log made (run_apart first nodes) n.part.log (whole made (few_script few)) run.is_run client (apart.moves (home first client) n e)

  fit : length (commands_apart nodes) ≤ MAX_COMMANDS_OF_SERVICE → FewMoves (map part_now nodes)
      → (p q : ℕ) (a b : NodeNow) (rest : List Letter) (letter : Letter) → slice_get nodes p ≡ Some a → slice_get nodes q ≡ Some b
      → a.part.sent q ≡ b.part.used p ++ rest → Contains rest letter
      → IsTrue (fits (numbers_of first) q b.part.last.clock (b.part.last.set letter.set) letter)
  fit few moves p q a b rest letter here there e has =
      letters_left_fit made (map part_now nodes) (few_script few) joined moves p q a.part b.part rest letter (part_there nodes p a here) (part_there nodes q b there) e has

pub apart_join : ApartJoin
apart_join first nodes h = joined first nodes h

pub apart_run : ApartRun
apart_run first nodes h = apart first nodes h

pub apart_script : ApartScript
apart_script first nodes h few = few_script first nodes h few

pub apart_replies : ApartReplies
apart_replies first nodes h few client n e = replies first nodes h few client n e

pub apart_fit : ApartLettersFit
apart_fit first nodes h few moves p q a b rest letter other here there e has = fit first nodes h few moves p q a b rest letter here there e has

pub numbered_are_prefix : NumberedArePrefix
numbered_are_prefix [] given h = (given, refl)
numbered_are_prefix (x ∷ xs) [] h = absurd (none (h 0 x refl))
  where
    none : None ≡ Some x → ⊥
    none e = cc
numbered_are_prefix (x ∷ xs) (y ∷ ys) h =
    let rest = numbered_are_prefix xs ys (λ k letter e. h (suc k) letter e) in
    (rest.0, ap (λ (list : List Letter). x ∷ list) rest.1 ∙ ap (λ (letter : Letter). letter ∷ ys) (sym (some_equal y x (h 0 x refl))))

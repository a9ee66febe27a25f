-- Each enabled move leaves each unanswered ask of a set in one place.
use Rattle.std.proofs.Common.{◌≡◌, ◌≢◌, ℕ, ◌+◌, ◌<◌, ◌≤◌, inl, inr, List, [], ◌∷◌, true, refl, sym, ap, subst, arith, ◌∙◌, All, AllPairs, Contains, ◌⊎◌, slice_index_or, drop as drop_front, ne_eqb}
use Rattle.std.specs.List.{AllByRecursion}
use Rattle.std.proofs.lemmas.Bool.{cases_eq, cases_lt}
use Rattle.std.proofs.lemmas.List.Elements.{recursion_from_All, Contains-get_or}
use Rattle.lt_modes.specs.declared.ask.Ask.{Ask}
use Rattle.lt_modes.specs.declared.moves.Step.TheVariants.{Act, Take}
use Rattle.lt_modes.specs.Script.{ScriptData}
use Rattle.lt_modes.specs.State.{SetState, Letter, Post, times_in}
use Rattle.lt_modes.specs.Taking.{take}
use Rattle.lt_lists.specs.Below.{put}
use Rattle.lt_spec.specs.NodeMove.{NodeState, NodeMade, next_command, act_stamp, take_stamp, at_clock, one_made, node_act, node_take}
use Rattle.lt_spec.specs.World.{World, is_some_letter, opened, put_mail, take_front, after_made, after}
use Rattle.lt_spec.specs.Facts.{state_at, places_in_state, places_in_body, place_count}
use Rattle.lt_model.specs.Invariant.{Paths, IsMadeBy, AsksStand}
use Rattle.lt_lists.proofs.Sums.{sum_below-same, sum_below-change, sum_below-at}
use Rattle.lt_model.proofs.Letters.{mail_weight, IsCounted, all_sent, before_take, sent_on_way, mail_weight-sent, mail_weight-beyond}
use Rattle.lt_model.specs.Laws.{StandingKept}
use Rattle.lt_model.proofs.SentInMove.{take-sent, places_weight, IsCopyHome, Stands, stands}
use Rattle.lt_lists.proofs.AllLemmas.{all_weaker, all_any}
use Rattle.lt_lists.proofs.Puts.{put-same, put-other}
use Rattle.lt_model.proofs.PathsMove.{has_mail_parts, move_kept}
use Rattle.lt_model.proofs.NodeEffects.{obey-stamped, obey-beside, touched-beside, once_or_aside, obey_by_effects}
use Rattle.lt_model.proofs.StandingEffects.{stands_later, standing_moves, standing_take}
use Rattle.lt_model.proofs.StandingBegins.{asked_in, elsewhere, unanswered, only_here, copy_home, other_weight, stands_of_set, stands_before, none_in_hand, left_weight, letter_taken}

-- letters of the set go to nodes of the script, and others carry no ask of it
posts_counted : (nodes s : ℕ) (a : Ask) (posts : List Post) → ((post : Post) → Contains posts post → post.letter.set ≡ s → post.to < nodes)
    → AllByRecursion (IsCounted nodes (places_weight s a)) posts
posts_counted nodes s a posts to_nodes = recursion_from_All (IsCounted nodes (places_weight s a)) posts
    (λ k d within. each (slice_index_or posts k d) (Contains-get_or posts k d within))
  where
    each : (post : Post) → Contains posts post → IsCounted nodes (places_weight s a) post
    each post among = elim (cases_eq post.letter.set s) [
      | inl e ↦ inl (to_nodes post among e)
      | inr d ↦ inr (rw (ne_eqb post.letter.set s d) refl)
    ]

-- what node q made, and the letters that were on their way before
after_standing : (script : ScriptData) (w : World) (s q : ℕ) (mail : ℕ → ℕ → List Letter) (made : NodeMade)
    → ((a b : ℕ) (letter : Letter) → Contains (mail a b) letter → Contains (w.mail a b) letter)
    → Paths script w s → Paths script (after_made q made (record w { mail = mail })) s → AsksStand script w s → (w.node q).clock ≤ made.node.clock
    → (q < script.nodes → Stands s q made.node.clock (elsewhere script w s q mail) (unanswered script w s q) (made.node.set s) made.posts)
    → (script.nodes ≤ q → mail ≡ w.mail)
    → AsksStand script (after_made q made (record w { mail = mail })) s
after_standing script w s q mail made older before paths h grows standing beyond = record {
  places = record {
    once = λ a. elim (cases_lt q script.nodes) [
      | inl below ↦ once_below below a
      | inr above ↦ once_beyond above a
    ];
    home = λ x ask below comes.
        let is_home = all_sent (λ a b l. a < script.nodes → b < script.nodes → l.set ≡ s → IsCopyHome b l.body) q made.posts mail
        (λ a b l old under under_too of_set. copy_home script w s b l
        (λ copy e. h.places.home b copy under_too (a, l, under, record { among = older a b l old; set = of_set }, e)))
        (new_home (cases_lt q script.nodes)) comes.0 x comes.1 comes.3.among comes.2 below comes.3.set in
        subst (IsCopyHome x) comes.4 is_home;
  };
  own = λ x below. elim (cases_eq x q) [
    | inl e ↦
        let at_q = (standing (subst (λ (y : ℕ). y < script.nodes) e below)).own in
        subst (λ (y : ℕ). All (IsMadeBy y (later.node y).clock) ((later.node y).set s).pending) (sym e)
        (subst (λ (n : NodeState). All (IsMadeBy q n.clock) (n.set s).pending) (sym here) at_q)
    | inr d ↦ subst (λ (n : NodeState). All (IsMadeBy x n.clock) (n.set s).pending) (sym (there x d)) (h.own x below)
  ];
  apart = λ x below. elim (cases_eq x q) [
    | inl e ↦
        let at_q = (standing (subst (λ (y : ℕ). y < script.nodes) e below)).apart in
        subst (λ (y : ℕ). AllPairs (λ (a b : Ask). a.stamp ≢ b.stamp) ((later.node y).set s).pending) (sym e)
        (subst (λ (n : NodeState). AllPairs (λ (a b : Ask). a.stamp ≢ b.stamp) (n.set s).pending) (sym here) at_q)
    | inr d ↦ subst (λ (n : NodeState). AllPairs (λ (a b : Ask). a.stamp ≢ b.stamp) (n.set s).pending) (sym (there x d)) (h.apart x below)
  ];
}
  where
    later : World
    later = after_made q made (record w { mail = mail })

    here : later.node q ≡ made.node
    here = put-same w.node q made.node

    there : (x : ℕ) → x ≢ q → later.node x ≡ w.node x
    there x d = put-other w.node q made.node x d

    state_there : (a : Ask) (x : ℕ) → x ≢ q → places_in_state a (state_at later s x) ≡ places_in_state a (state_at w s x)
    state_there a x d = ap (λ (n : NodeState). places_in_state a (n.set s)) (there x d)

    asks_there : (a : Ask) (x : ℕ) → x ≢ q → times_in a (state_at later s x).pending ≡ times_in a (state_at w s x).pending
    asks_there a x d = ap (λ (n : NodeState). times_in a (n.set s).pending) (there x d)

    once_below : q < script.nodes → (a : Ask) → place_count script later s a ≡ asked_in script later s a
    once_below below a = omega (
      arith,
      sum_below-change script.nodes q (λ x. places_in_state a (state_at later s x)) (λ x. places_in_state a (state_at w s x)) below (λ x under d. state_there a x d),
      sum_below-change script.nodes q (λ x. times_in a (state_at later s x).pending) (λ x. times_in a (state_at w s x).pending) below (λ x under d. asks_there a x d),
      ap (λ (n : NodeState). places_in_state a (n.set s)) here,
      ap (λ (n : NodeState). times_in a (n.set s).pending) here,
      mail_weight-sent script.nodes q (places_weight s a) made.posts mail below
          (posts_counted script.nodes s a made.posts (λ post among of_set.
          (paths.letters q post.to post.letter below (record { among = sent_on_way q made.posts mail post among; set = of_set })).to)),
      (standing below).once a,
      sum_below-at script.nodes q (λ x. places_in_state a (state_at w s x)) below,
      sum_below-at script.nodes q (λ x. times_in a (state_at w s x).pending) below,
    )

    once_beyond : script.nodes ≤ q → (a : Ask) → place_count script later s a ≡ asked_in script later s a
    once_beyond above a = omega (
      arith,
      sum_below-same script.nodes (λ x. places_in_state a (state_at later s x)) (λ x. places_in_state a (state_at w s x))
          (λ x under. state_there a x (λ e. omega (arith, e, under, above))),
      sum_below-same script.nodes (λ x. times_in a (state_at later s x).pending) (λ x. times_in a (state_at w s x).pending)
          (λ x under. asks_there a x (λ e. omega (arith, e, under, above))),
      mail_weight-beyond script.nodes q (places_weight s a) made.posts mail above,
      ap (mail_weight script.nodes (places_weight s a)) (beyond above),
      h.places.once a,
    )

    new_home : (q < script.nodes) ⊎ (script.nodes ≤ q)
        → AllByRecursion (λ (post : Post). q < script.nodes → post.to < script.nodes → post.letter.set ≡ s → IsCopyHome post.to post.letter.body) made.posts
    new_home (inl below) = all_weaker _ _ (λ (post : Post) home. λ under under_too of_set. home of_set) made.posts (standing below).copies
    new_home (inr above) = all_any _ (λ (post : Post). λ under under_too of_set. absurd (omega (arith, under, above))) made.posts

act_standing : (script : ScriptData) (w : World) (s q client : ℕ) → AsksStand script w s → q < script.nodes
    → Stands s q (node_act script q client (w.node q)).node.clock (elsewhere script w s q w.mail) (unanswered script w s q)
    ((node_act script q client (w.node q)).node.set s) (node_act script q client (w.node q)).posts
act_standing script w s q client h hq =
    let n = w.node q in
    let stamp = act_stamp q n in
    let command = next_command script n client in
    let begins = one_made client (at_clock (n.clock + 1) n) in
    let others = elsewhere script w s q w.mail in
    let asked = unanswered script w s q in
    let stamped = obey-stamped script stamp client command begins in
    let before = none_in_hand s q n.clock others asked (λ a. 0) (n.set s) [] (λ a. refl) (stands_before script w s q w.mail (λ a. 0) h hq (λ a. omega arith)) in
    let made = node_act script q client n in
    let ended : Stands s q stamp.clock others asked (made.node.set s) made.posts = elim (once_or_aside script s command) [
      | inl once ↦ obey_by_effects script s client stamp (stands s q n.clock others asked) (stands s q stamp.clock others asked)
          (stands_of_set s q n.clock others asked) (stands_of_set s q stamp.clock others asked)
          (standing_moves s n.clock others asked stamp refl (only_here script w s q h hq)) command begins once before
      | inr aside ↦
          let beside = obey-beside script s stamp client command begins aside in
          let later = stands_later s q n.clock stamp.clock others asked (n.set s) [] (omega arith) before in
          subst (λ (t : SetState). Stands s q stamp.clock others asked t made.posts) (sym beside.state)
          (stands_of_set s q stamp.clock others asked (n.set s) [] made.posts beside.posts later)
    ] in
    subst (λ (c : ℕ). Stands s q c others asked (made.node.set s) made.posts) (sym stamped.clock) ended

-- a letter that is taken, of the set or of another
take_standing : (script : ScriptData) (w : World) (s p q : ℕ) (letter : Letter) (rest : List Letter) → Paths script w s → AsksStand script w s
    → p < script.nodes → q < script.nodes → w.mail p q ≡ letter ∷ rest
    → Stands s q (node_take q letter (w.node q)).node.clock (elsewhere script w s q (put_mail w.mail p q (drop_front 1 (w.mail p q)))) (unanswered script w s q)
    ((node_take q letter (w.node q)).node.set s) (node_take q letter (w.node q)).posts
take_standing script w s p q letter rest paths h hp hq front =
    let n = w.node q in
    let stamp = take_stamp q n letter in
    let m = take stamp letter (n.set letter.set) in
    let left = put_mail w.mail p q (drop_front 1 (w.mail p q)) in
    let others = elsewhere script w s q left in
    let asked = unanswered script w s q in
    elim (cases_eq letter.set s) [
      | inl e ↦
          let taken = letter_taken script w s p q letter rest paths h hp hq front e in
          let ended = standing_take s stamp.clock others asked stamp letter (n.set s) e (only_here script w s q h hq) (copy_home script w s q letter taken.home) taken.few
          (stands_later s q n.clock stamp.clock (λ a. others a + places_in_body a letter.body) asked (n.set s) [] (omega arith) taken.in_hand) in
          let at_set = subst (λ (k : ℕ). Stands s q stamp.clock others asked (take stamp letter (n.set k)).state (take stamp letter (n.set k)).posts) (sym e) ended in
          let same : put n.set letter.set m.state s ≡ m.state = ap (put n.set letter.set m.state) (sym e) ∙ put-same n.set letter.set m.state in
          subst (λ (t : SetState). Stands s q stamp.clock others asked t m.posts) (sym same) at_set
      | inr d ↦
          let before = stands_before script w s q left (λ a. places_weight s a letter) h hq (left_weight script w s p q letter rest hp hq front) in
          let beside = touched-beside s letter.set stamp (at_clock stamp.clock n) m (take-sent stamp letter (n.set letter.set)) d in
          let none = none_in_hand s q n.clock others asked (λ a. places_weight s a letter) (n.set s) [] (λ a. other_weight s a letter d) before in
          let later = stands_later s q n.clock stamp.clock others asked (n.set s) [] (omega arith) none in
          subst (λ (t : SetState). Stands s q stamp.clock others asked t m.posts) (sym beside.state)
          (stands_of_set s q stamp.clock others asked (n.set s) [] m.posts beside.posts later)
    ]

pub standing_kept : StandingKept
standing_kept script w s some paths h q (Act client) enabled =
    let n = w.node q in
    let stamped = obey-stamped script (act_stamp q n) client (next_command script n client) (one_made client (at_clock (n.clock + 1) n)) in
    after_standing script w s q w.mail (node_act script q client n) (λ a b letter old. old) paths
    (move_kept script w s some paths q (Act client) enabled) h (omega (arith, stamped.clock)) (λ hq. act_standing script w s q client h hq) (λ above. refl)
standing_kept script w s some paths h q (Take p) enabled =
    let is_there = has_mail_parts script w p q enabled in
    by_letters (w.mail p q) refl is_there.letter is_there.sender is_there.receiver (move_kept script w s some paths q (Take p) enabled)
  where
    left : ℕ → ℕ → List Letter
    left = put_mail w.mail p q (drop_front 1 (w.mail p q))

    by_letters : (letters : List Letter) → w.mail p q ≡ letters → is_some_letter letters ≡ true → p < script.nodes → q < script.nodes
        → Paths script (after script w q (Take p)) s
        → AsksStand script (after_made q (take_front q (w.node q) letters) (opened w q (Take p))) s
    by_letters [] e none hp hq kept = cc
    by_letters (letter ∷ rest) e there hp hq kept =
        after_standing script w s q left (node_take q letter (w.node q)) (λ a b l old. before_take w.mail p q a b l old) paths
        (subst (λ (l : List Letter). Paths script (after_made q (take_front q (w.node q) l) (opened w q (Take p))) s) e kept) h (omega arith)
        (λ below. take_standing script w s p q letter rest paths h hp hq e) (λ above. absurd (omega (arith, hq, above)))

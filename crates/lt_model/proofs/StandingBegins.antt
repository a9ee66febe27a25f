-- What is gathered from lists is what they have.
use Rattle.std.proofs.Common.{◌≡◌, ◌≢◌, ℕ, inl, inr, List, ◌++◌, Option, Some, None, Bool, refl, sym, ap, subst, ◌∙◌, ◌+◌, ◌-◌, ◌<◌, ◌≤◌, [], ◌∷◌, arith, ◌⊎◌, Contains, if◌then◌else◌, is_some, drop as drop_front, filter_map, eq-eqb, ne_eqb}
use Rattle.std.proofs.lemmas.Bool.{cases_eq}
use Rattle.std.proofs.lemmas.List.Elements.{Contains-append_left, Contains-append_right, Contains-append_cases, All-contains}
use Rattle.std.proofs.lemmas.List.Sums.{sum_by-append}
use Rattle.lt_modes.specs.declared.ask.Ask.{Ask}
use Rattle.lt_modes.specs.Script.{ScriptData}
use Rattle.lt_modes.specs.State.{Tell, Body, AskBody, TellBody, CopyBody, TokenBody, FreezeBody, Letter, Parked, ParkedAsk, ParkedTell, SetState, Post, times_in}
use Rattle.lt_modes.specs.Taking.{arrive}
use Rattle.lt_lists.proofs.Gathering.{gathered-which, gathered-at, gather_same}
use Rattle.lt_lists.proofs.Members.{some_equal, filter_map-which, filter_map-at}
use Rattle.lt_lists.specs.Below.{gather_below, sum_below, one_if}
use Rattle.lt_lists.proofs.Sums.{sum_below-none, sum_below-change, sum_below-at}
use Rattle.lt_lists.proofs.AllLemmas.{all_append, all_weaker}
use Rattle.lt_spec.specs.World.{World, put_mail}
use Rattle.lt_spec.specs.Facts.{state_at, Comes, places_in_state, places_in_body, tokens_in}
use Rattle.lt_spec.specs.NodeMove.{take_stamp}
use Rattle.lt_law_accounts.specs.News.{Notice}
use Rattle.lt_law_accounts.proofs.Asks.{times_in-none}
use Rattle.lt_model.specs.OnWay.{IsTellOf, in_set, tell_if, tell_in, tell_parked, copy_in, freeze_in, tells_of, TellsAreOnWay, CopiesAreOnWay, FreezesAreOnWay}
use Rattle.lt_model.specs.Invariant.{Paths, IsMadeBy, AsksStand}
use Rattle.lt_model.proofs.Letters.{mail_weight, mail_weight-taken, mail_weight-at}
use Rattle.lt_model.specs.PathEffects.{token_weight}
use Rattle.lt_model.proofs.PathsWorld.{weighs_tokens}
use Rattle.lt_model.proofs.NodeEffects.{IsOfSet}
use Rattle.lt_model.proofs.StandingEffects.{stands_later, arrives-stands}
use Rattle.lt_model.proofs.SentInMove.{places_weight, places_sent-none, IsCopyHome, Stands, stands}
use Rattle.lt_model.proofs.Effects.{HoldsOf}

-- what a letter of the set says
in_set-which : {X : Type 0} (s : ℕ) (read : Body → Option X) (letter : Letter) (x : X) → in_set s read letter ≡ Some x → (letter.set ≡ s) × (read letter.body ≡ Some x)
in_set-which s read letter x e = by_set (cases_eq letter.set s)
  where
    by_set : (letter.set ≡ s) ⊎ (letter.set ≢ s) → (letter.set ≡ s) × (read letter.body ≡ Some x)
    by_set (inl same) = (same, ap (λ (b : Bool). if b then read letter.body else None) (sym (eq-eqb letter.set s same)) ∙ e)
    by_set (inr other) = let no : None ≡ Some x = ap (λ (b : Bool). if b then read letter.body else None) (sym (ne_eqb letter.set s other)) ∙ e in cc

in_set-at : {X : Type 0} (s : ℕ) (read : Body → Option X) (letter : Letter) (x : X) → letter.set ≡ s → read letter.body ≡ Some x → in_set s read letter ≡ Some x
in_set-at s read letter x same e = ap (λ (b : Bool). if b then read letter.body else None) (eq-eqb letter.set s same) ∙ e

-- what is read from the letters to x, where each thing is read from one body
comes-which : {X : Type 0} (script : ScriptData) (w : World) (s x : ℕ) (read : Body → Option X) (item : X) (body : Body) → ((b : Body) → read b ≡ Some item → b ≡ body)
    → Contains (gather_below script.nodes (λ p. filter_map (in_set s read) (w.mail p x))) item → Comes script w s x body
comes-which script w s x read item body only h =
    let at = gathered-which script.nodes (λ p. filter_map (in_set s read) (w.mail p x)) item h in
    let letter = filter_map-which (in_set s read) (w.mail at.0 x) item at.2 in
    let says = in_set-which s read letter.0 item letter.2 in
    (at.0, letter.0, at.1, record { among = letter.1; set = says.0 }, only letter.0.body says.1)

comes-at : {X : Type 0} (script : ScriptData) (w : World) (s x : ℕ) (read : Body → Option X) (item : X) (body : Body) → read body ≡ Some item
    → Comes script w s x body → Contains (gather_below script.nodes (λ p. filter_map (in_set s read) (w.mail p x))) item
comes-at script w s x read item body reads comes =
    gathered-at script.nodes (λ p. filter_map (in_set s read) (w.mail p x)) comes.0 item comes.2
    (filter_map-at (in_set s read) (w.mail comes.0 x) comes.1 item comes.3.among
    (in_set-at s read comes.1 item comes.3.set (ap read comes.4 ∙ reads)))

copy_body : (ask : Ask) (b : Body) → copy_in b ≡ Some ask → b ≡ CopyBody ask
copy_body ask (CopyBody other) e = ap CopyBody (some_equal other ask e)
copy_body ask (AskBody other marked) e = cc
copy_body ask (TellBody tell) e = cc
copy_body ask (TokenBody desk) e = cc
copy_body ask (FreezeBody number modes) e = cc

pub copies_are_on_way : CopiesAreOnWay
copies_are_on_way script w s x ask = (
  comes-which script w s x copy_in ask (CopyBody ask) (copy_body ask),
  comes-at script w s x copy_in ask (CopyBody ask) refl,
)

freeze_body : (notice : Notice) (b : Body) → freeze_in b ≡ Some notice → b ≡ FreezeBody notice.number notice.modes
freeze_body notice (FreezeBody number modes) e =
    let one : record { number = number; modes = modes } ≡ notice = some_equal (record { number = number; modes = modes }) notice e in
    ap (λ (x : Notice). FreezeBody x.number x.modes) one
freeze_body notice (CopyBody other) e = cc
freeze_body notice (AskBody other marked) e = cc
freeze_body notice (TellBody tell) e = cc
freeze_body notice (TokenBody desk) e = cc

pub freezes_are_on_way : FreezesAreOnWay
freezes_are_on_way script w s x notice = (
  comes-which script w s x freeze_in notice (FreezeBody notice.number notice.modes) (freeze_body notice),
  comes-at script w s x freeze_in notice (FreezeBody notice.number notice.modes) refl,
)

pub tell_if-which : (x : ℕ) (made tell : Tell) → tell_if x made ≡ Some tell → (made ≡ tell) × (tell.node ≡ x)
tell_if-which x made tell e = by_node (cases_eq made.node x)
  where
    by_node : (made.node ≡ x) ⊎ (made.node ≢ x) → (made ≡ tell) × (tell.node ≡ x)
    by_node (inl same) =
        let one = some_equal made tell (ap (λ (b : Bool). if b then Some made else None) (sym (eq-eqb made.node x same)) ∙ e) in
        (one, ap (λ (t : Tell). t.node) (sym one) ∙ same)
    by_node (inr other) = let no : None ≡ Some tell = ap (λ (b : Bool). if b then Some made else None) (sym (ne_eqb made.node x other)) ∙ e in cc

pub tell_if-at : (x : ℕ) (tell : Tell) → tell.node ≡ x → tell_if x tell ≡ Some tell
tell_if-at x tell same = ap (λ (b : Bool). if b then Some tell else None) (eq-eqb tell.node x same)

pub tell_if-other : (x : ℕ) (tell : Tell) → tell.node ≢ x → tell_if x tell ≡ None
tell_if-other x tell other = ap (λ (b : Bool). if b then Some tell else None) (ne_eqb tell.node x other)

tell_body : (x : ℕ) (tell : Tell) (b : Body) → tell_in x b ≡ Some tell → (b ≡ TellBody tell) × (tell.node ≡ x)
tell_body x tell (TellBody made) e = let found = tell_if-which x made tell e in (ap TellBody found.0, found.1)
tell_body x tell (CopyBody other) e = cc
tell_body x tell (AskBody other marked) e = cc
tell_body x tell (TokenBody desk) e = cc
tell_body x tell (FreezeBody number modes) e = cc

pub tell_item : (x : ℕ) (tell : Tell) (item : Parked) → tell_parked x item ≡ Some tell → (item ≡ ParkedTell tell) × (tell.node ≡ x)
tell_item x tell (ParkedTell made) e = let found = tell_if-which x made tell e in (ap ParkedTell found.0, found.1)
tell_item x tell (ParkedAsk ask) e = cc

pub tells_are_on_way : TellsAreOnWay
tells_are_on_way script w s x tell = (found, gathered)
  where
    in_mail : List Tell
    in_mail = gather_below script.nodes (λ p. gather_below script.nodes (λ q. filter_map (in_set s (tell_in x)) (w.mail p q)))

    in_parked : List Tell
    in_parked = gather_below script.nodes (λ q. filter_map (tell_parked x) (state_at w s q).parked)

    found : Contains (tells_of script w s x) tell → IsTellOf script w s x tell
    found h = elim (Contains-append_cases in_mail in_parked tell h) [
      | inl mail ↦
          let from = gathered-which script.nodes (λ p. gather_below script.nodes (λ q. filter_map (in_set s (tell_in x)) (w.mail p q))) tell mail in
          let to = gathered-which script.nodes (λ q. filter_map (in_set s (tell_in x)) (w.mail from.0 q)) tell from.2 in
          let letter = filter_map-which (in_set s (tell_in x)) (w.mail from.0 to.0) tell to.2 in
          let says = in_set-which s (tell_in x) letter.0 tell letter.2 in
          let body = tell_body x tell letter.0.body says.1 in
          (body.1, to.0, to.1, inl (from.0, letter.0, from.1, record { among = letter.1; set = says.0 }, body.0))
      | inr parked ↦
          let at = gathered-which script.nodes (λ q. filter_map (tell_parked x) (state_at w s q).parked) tell parked in
          let item = filter_map-which (tell_parked x) (state_at w s at.0).parked tell at.2 in
          let body = tell_item x tell item.0 item.2 in
          (body.1, at.0, at.1, inr (subst (λ (i : Parked). Contains (state_at w s at.0).parked i) body.0 item.1))
    ]

    gathered : IsTellOf script w s x tell → Contains (tells_of script w s x) tell
    gathered h = elim h.3 [
      | inl comes ↦ Contains-append_left in_mail in_parked tell
          (gathered-at script.nodes (λ p. gather_below script.nodes (λ q. filter_map (in_set s (tell_in x)) (w.mail p q))) comes.0 tell comes.2
          (gathered-at script.nodes (λ q. filter_map (in_set s (tell_in x)) (w.mail comes.0 q)) h.1 tell h.2
          (filter_map-at (in_set s (tell_in x)) (w.mail comes.0 h.1) comes.1 tell comes.3.among
          (in_set-at s (tell_in x) comes.1 tell comes.3.set (ap (tell_in x) comes.4 ∙ tell_if-at x tell h.0)))))
      | inr parked ↦ Contains-append_right in_mail in_parked tell
          (gathered-at script.nodes (λ q. filter_map (tell_parked x) (state_at w s q).parked) h.1 tell h.2
          (filter_map-at (tell_parked x) (state_at w s h.1).parked (ParkedTell tell) tell parked (tell_if-at x tell h.0)))
    ]

-- worlds whose letters and parked letters read the same have the same tells
pub tells_alike : (script : ScriptData) (w later : World) (s x : ℕ)
    → ((p q : ℕ) → filter_map (in_set s (tell_in x)) (later.mail p q) ≡ filter_map (in_set s (tell_in x)) (w.mail p q))
    → ((q : ℕ) → filter_map (tell_parked x) (state_at later s q).parked ≡ filter_map (tell_parked x) (state_at w s q).parked)
    → tells_of script later s x ≡ tells_of script w s x
tells_alike script w later s x letters parked =
    ap (λ (l : List Tell). l ++ gather_below script.nodes (λ q. filter_map (tell_parked x) (state_at later s q).parked))
    (gather_same script.nodes _ _ (λ p. gather_same script.nodes (λ q. filter_map (in_set s (tell_in x)) (later.mail p q))
    (λ q. filter_map (in_set s (tell_in x)) (w.mail p q)) (letters p)))
    ∙ ap (λ (l : List Tell). gather_below script.nodes (λ p. gather_below script.nodes (λ q. filter_map (in_set s (tell_in x)) (w.mail p q))) ++ l)
    (gather_same script.nodes (λ q. filter_map (tell_parked x) (state_at later s q).parked) (λ q. filter_map (tell_parked x) (state_at w s q).parked) parked)

-- What stands of asks at a node as its move begins, and as a letter is taken.

-- how often the ask stands at the nodes, and how often it is unanswered
abbrev pub at_nodes : ScriptData → World → ℕ → Ask → ℕ
at_nodes script w s a = sum_below script.nodes (λ x. places_in_state a (state_at w s x))

abbrev pub asked_in : ScriptData → World → ℕ → Ask → ℕ
asked_in script w s a = sum_below script.nodes (λ x. times_in a (state_at w s x).pending)

-- how often it stands elsewhere than at node q, with these letters on their way
abbrev pub elsewhere : ScriptData → World → ℕ → ℕ → (ℕ → ℕ → List Letter) → Ask → ℕ
elsewhere script w s q mail a = (at_nodes script w s a - places_in_state a (state_at w s q)) + mail_weight script.nodes (places_weight s a) mail

abbrev pub unanswered : ScriptData → World → ℕ → ℕ → Ask → ℕ
unanswered script w s q a = asked_in script w s a - times_in a (state_at w s q).pending

-- asks of node q are unanswered at no other node
pub only_here : (script : ScriptData) (w : World) (s q : ℕ) → AsksStand script w s → q < script.nodes → (a : Ask) → a.node ≡ q → unanswered script w s q a ≡ 0
only_here script w s q h hq a me =
    let change = sum_below-change script.nodes q (λ x. times_in a (state_at w s x).pending) (λ x. 0) hq (λ x below d.
    times_in-none a (state_at w s x).pending (λ found. d (sym (All-contains (IsMadeBy x (w.node x).clock) (state_at w s x).pending a (h.own x below) found).0 ∙ me))) in
    omega (arith, change, sum_below-none script.nodes (λ x. 0) (λ x below. refl))

pub copy_home : (script : ScriptData) (w : World) (s x : ℕ) (letter : Letter) → ((ask : Ask) → letter.body ≡ CopyBody ask → ask.node ≡ x) → IsCopyHome x letter.body
copy_home script w s x letter h = by_body letter.body h
  where
    by_body : (body : Body) → ((ask : Ask) → body ≡ CopyBody ask → ask.node ≡ x) → IsCopyHome x body
    by_body (CopyBody ask) home = home ask refl
    by_body (AskBody ask marked) home = tt
    by_body (TellBody tell) home = tt
    by_body (TokenBody desk) home = tt
    by_body (FreezeBody number modes) home = tt

pub other_weight : (s : ℕ) (a : Ask) (letter : Letter) → letter.set ≢ s → places_weight s a letter ≡ 0
other_weight s a letter d = rw (ne_eqb letter.set s d) refl

pub stands_of_set : (s me clock : ℕ) (others asked : Ask → ℕ) → IsOfSet s (stands s me clock others asked)
stands_of_set s me clock others asked t posts more other h = record {
  once = λ a. omega (
    arith,
    h.once a,
    sum_by-append (λ (post : Post). places_weight s a post.letter) posts more,
    places_sent-none s a more (all_weaker _ _ (λ (post : Post) d. other_weight s a post.letter d) more other),
  );
  own = h.own;
  apart = h.apart;
  copies = all_append _ posts more h.copies (all_weaker _ _ (λ (post : Post) d. λ e. absurd (d e)) more other);
}

-- what stands at node q before its move, with so much of the ask in hand
pub stands_before : (script : ScriptData) (w : World) (s q : ℕ) (mail : ℕ → ℕ → List Letter) (hand : Ask → ℕ) → AsksStand script w s → q < script.nodes
    → ((a : Ask) → mail_weight script.nodes (places_weight s a) mail + hand a ≡ mail_weight script.nodes (places_weight s a) w.mail)
    → Stands s q (w.node q).clock (λ a. elsewhere script w s q mail a + hand a) (unanswered script w s q) (state_at w s q) []
stands_before script w s q mail hand h hq weight = record {
  once = λ a. omega (
    arith,
    h.places.once a,
    weight a,
    sum_below-at script.nodes q (λ x. places_in_state a (state_at w s x)) hq,
    sum_below-at script.nodes q (λ x. times_in a (state_at w s x).pending) hq,
  );
  own = h.own q hq;
  apart = h.apart q hq;
  copies = tt;
}

pub none_in_hand : (s me clock : ℕ) (others asked hand : Ask → ℕ) (t : SetState) (posts : List Post) → ((a : Ask) → hand a ≡ 0)
    → Stands s me clock (λ a. others a + hand a) asked t posts → Stands s me clock others asked t posts
none_in_hand s me clock others asked hand t posts none h =
    record { once = λ a. omega (arith, h.once a, none a); own = h.own; apart = h.apart; copies = h.copies }

-- a letter of the set that node q takes: what stands there with the letter in hand
pub record LetterTaken (script : ScriptData) (w : World) (s q : ℕ) (letter : Letter) (left : ℕ → ℕ → List Letter) : Type 0 where
  pub before : Stands s q (w.node q).clock (λ a. elsewhere script w s q left a + places_weight s a letter) (unanswered script w s q) ((w.node q).set s) []
  pub in_hand : Stands s q (w.node q).clock (λ a. elsewhere script w s q left a + places_in_body a letter.body) (unanswered script w s q) ((w.node q).set s) []
  pub home : (ask : Ask) → letter.body ≡ CopyBody ask → ask.node ≡ q
  pub few : one_if (is_some ((w.node q).set s).desk) + tokens_in letter.body ≤ 1

-- how much of an ask is left on its way, and in the letter
pub left_weight : (script : ScriptData) (w : World) (s p q : ℕ) (letter : Letter) (rest : List Letter) → p < script.nodes → q < script.nodes → w.mail p q ≡ letter ∷ rest → (a : Ask)
    → mail_weight script.nodes (places_weight s a) (put_mail w.mail p q (drop_front 1 (w.mail p q))) + places_weight s a letter ≡ mail_weight script.nodes (places_weight s a) w.mail
left_weight script w s p q letter rest hp hq front a = omega (
  arith,
  mail_weight-taken script.nodes p q (places_weight s a) w.mail letter rest hp hq front,
  ap (λ (l : List Letter). mail_weight script.nodes (places_weight s a) (put_mail w.mail p q (drop_front 1 l))) front,
)

pub letter_taken : (script : ScriptData) (w : World) (s p q : ℕ) (letter : Letter) (rest : List Letter) → Paths script w s → AsksStand script w s
    → p < script.nodes → q < script.nodes → w.mail p q ≡ letter ∷ rest → letter.set ≡ s
    → LetterTaken script w s q letter (put_mail w.mail p q (drop_front 1 (w.mail p q)))
letter_taken script w s p q letter rest paths h hp hq front set =
    let before = stands_before script w s q (put_mail w.mail p q (drop_front 1 (w.mail p q))) (λ a. places_weight s a letter) h hq (left_weight script w s p q letter rest hp hq front) in
    let on : Contains (w.mail p q) letter = subst (λ (l : List Letter). Contains l letter) (sym front) (0, omega arith, refl) in
    record {
      before = before;
      in_hand = record {
        once = λ a. let weighs : places_weight s a letter ≡ places_in_body a letter.body = rw (eq-eqb letter.set s set) refl in omega (arith, before.once a, weighs);
        own = before.own;
        apart = before.apart;
        copies = before.copies;
      };
      home = λ ask same. h.places.home q ask hq (p, letter, hp, record { among = on; set = set }, same);
      few = omega (
        arith,
        paths.one_token,
        sum_below-at script.nodes q (λ k. one_if (is_some (state_at w s k).desk)) hq,
        mail_weight-at script.nodes p q (token_weight s) w.mail letter hp hq on,
        weighs_tokens s letter set,
      );
    }

-- what stands there as the letter arrives, at the move's clock
pub stands_arrived : (script : ScriptData) (w : World) (s p q : ℕ) (letter : Letter) (rest : List Letter) → Paths script w s → AsksStand script w s
    → p < script.nodes → q < script.nodes → w.mail p q ≡ letter ∷ rest → letter.set ≡ s
    → HoldsOf (stands s q (take_stamp q (w.node q) letter).clock (elsewhere script w s q (put_mail w.mail p q (drop_front 1 (w.mail p q)))) (unanswered script w s q)) []
    (arrive (take_stamp q (w.node q) letter) letter ((w.node q).set s))
stands_arrived script w s p q letter rest paths h hp hq front set =
    let n = w.node q in
    let stamp = take_stamp q n letter in
    let others = elsewhere script w s q (put_mail w.mail p q (drop_front 1 (w.mail p q))) in
    let asked = unanswered script w s q in
    let taken = letter_taken script w s p q letter rest paths h hp hq front set in
    arrives-stands s stamp.clock others asked stamp letter (n.set s) set (only_here script w s q h hq) (copy_home script w s q letter taken.home) taken.few
    (stands_later s q n.clock stamp.clock (λ a. others a + places_in_body a letter.body) asked (n.set s) [] (omega arith) taken.in_hand)

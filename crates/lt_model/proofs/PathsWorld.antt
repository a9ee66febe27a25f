-- Letters that carry no token leave the path as it is.
use Rattle.std.proofs.Common.{◌≡◌, ◌≢◌, ℕ, inl, List, [], ◌∷◌, ◌++◌, Option, None, Bool, true, false, refl, sym, ap, subst, arith, ◌∙◌, ◌+◌, ◌<◌, ◌≤◌, inr, length, Some, ◌==◌, if◌then◌else◌, filter_map, ◌⊎◌, Contains, is_some, slice_index, drop, ne_eqb, eq-eqb, append-nil, length-append}
use Rattle.std.specs.List.{AllByRecursion, cons_option}
use Rattle.std.proofs.lemmas.Bool.{cases_eq, cases_lt}
use Rattle.std.proofs.lemmas.List.{get_or_append_left, length_push}
use Rattle.std.proofs.lemmas.List.Elements.{filter_map-append, All-push}
use Rattle.std.proofs.lemmas.List.Sums.{sum_by-append, sum_by-cons}
use Rattle.lt_modes.specs.declared.parts.Link.{Link}
use Rattle.lt_modes.specs.State.{SetState, Body, AskBody, TellBody, CopyBody, TokenBody, FreezeBody, Letter, Made, Post, then_do, Desk}
use Rattle.lt_modes.specs.SetMove.{tell}
use Rattle.lt_lists.proofs.AllLemmas.{all_append, all_weaker, all_any}
use Rattle.lt_lists.proofs.Puts.{put-same, put-other}
use Rattle.lt_lists.specs.Below.{put, sum_below, one_if}
use Rattle.lt_lists.proofs.Sums.{sum_below-change, sum_below-at, sum_below-two, sum_below-same}
use Rattle.lt_spec.specs.World.{token_by, token_to, sent, put_mail}
use Rattle.lt_spec.specs.Facts.{tokens_in}
use Rattle.lt_model.specs.Invariant.{IsTrueLink, BodyOnPath, LetterOnPath, HasWay, StateOnPath}
use Rattle.lt_model.specs.PathEffects.{Quiet, token_weight, posts_weight, Moved, Ground, HandsOver}
use Rattle.lt_model.proofs.Letters.{mail_weight, all_sent, before_take, mail_weight-sent, mail_weight-none, mail_weight-beyond, mail_weight-at, mail_weight-taken}

-- the post carries no token of the set
abbrev pub HasNoToken : ℕ → Post → Type 0
HasNoToken s post = (token_to s post ≡ None) × (token_weight s post.letter ≡ 0)

pub token_by_none : (body : Body) (to : ℕ) → tokens_in body ≡ 0 → token_by body to ≡ None
token_by_none (TokenBody desk) to e = absurd (omega (arith, e))
token_by_none (AskBody ask marked) to e = refl
token_by_none (TellBody tell) to e = refl
token_by_none (CopyBody ask) to e = refl
token_by_none (FreezeBody number modes) to e = refl

pub no_token : (s : ℕ) (post : Post) → tokens_in post.letter.body ≡ 0 → HasNoToken s post
no_token s post e = by_test (post.letter.set == s)
  where
    by_test : (same : Bool) → ((if same then token_by post.letter.body post.to else None) ≡ None) × ((if same then tokens_in post.letter.body else 0) ≡ 0)
    by_test true = (token_by_none post.letter.body post.to e, e)
    by_test false = (refl, refl)

pub no_token_of_other : (s : ℕ) (post : Post) → post.letter.set ≢ s → HasNoToken s post
no_token_of_other s post d =
    subst (λ (same : Bool). ((if same then token_by post.letter.body post.to else None) ≡ None) × ((if same then tokens_in post.letter.body else 0) ≡ 0))
    (sym (ne_eqb post.letter.set s d)) (refl, refl)

pub none_go : (s : ℕ) (posts : List Post) → AllByRecursion (HasNoToken s) posts → filter_map (token_to s) posts ≡ []
none_go s [] h = refl
none_go s (post ∷ rest) h =
    subst (λ (o : Option ℕ). cons_option o (filter_map (token_to s) rest) ≡ []) (sym h.0.0) (none_go s rest h.1)

pub none_weigh : (s : ℕ) (posts : List Post) → AllByRecursion (HasNoToken s) posts → posts_weight (token_weight s) posts ≡ 0
none_weigh s [] h = refl
none_weigh s (post ∷ rest) h =
    omega (arith, sum_by-cons (λ (p : Post). token_weight s p.letter) post rest, h.0.1, none_weigh s rest h.1)

pub quiet-moved : (nodes : ℕ) (went : List ℕ) (set x k : ℕ) (m : Made) → Quiet nodes went x k m → Moved nodes went set x k m
quiet-moved nodes went set x k m quiet =
    let none = all_weaker _ (HasNoToken set) (λ post h. no_token set post h.1) m.posts quiet.posts in
    record {
      now = went;
      grown = sym (ap (λ (more : List ℕ). went ++ more) (none_go set m.posts none) ∙ append-nil went);
      state = quiet.state;
      posts = all_weaker _ _ (λ post h. h.0) m.posts quiet.posts;
      count = omega (arith, none_weigh set m.posts none, quiet.desk);
      others = inl refl;
    }

-- a link stays true as the token goes on
pub link_later : (went more : List ℕ) (link : Link) → IsTrueLink went link → IsTrueLink (went ++ more) link
link_later went more link true_link = record {
  epoch = omega (arith, length-append went more, true_link.epoch);
  node = get_or_append_left went more 0 link.epoch true_link.epoch ∙ true_link.node;
}

pub body_later : (nodes : ℕ) (went more : List ℕ) (q : ℕ) (body : Body) → tokens_in body ≡ 0 → BodyOnPath nodes went q body → BodyOnPath nodes (went ++ more) q body
body_later nodes went more q (AskBody ask marked) e h = h
body_later nodes went more q (TokenBody desk) e h = absurd (omega (arith, e))
body_later nodes went more q (TellBody tell) e h = tt
body_later nodes went more q (CopyBody ask) e h = tt
body_later nodes went more q (FreezeBody number modes) e h = tt

-- and so does a letter without the token
pub letter_later : (nodes : ℕ) (went more : List ℕ) (p q : ℕ) (letter : Letter)
    → tokens_in letter.body ≡ 0 → LetterOnPath nodes went p q letter → LetterOnPath nodes (went ++ more) p q letter
letter_later nodes went more p q letter e h = record {
  to = h.to;
  other = h.other;
  link = link_later went more letter.link h.link;
  body = body_later nodes went more q letter.body e h.body;
}

-- first something quiet, then a rule
pub moved_then : (nodes : ℕ) (went : List ℕ) (set x k : ℕ) (m : Made) (rule : SetState → Made)
    → Quiet nodes went x k m → Moved nodes went set x k (rule m.state) → Moved nodes went set x k (then_do m rule)
moved_then nodes went set x k m rule first second =
    let rest = (rule m.state).posts in
    let none = all_weaker _ (HasNoToken set) (λ post h. no_token set post h.1) m.posts first.posts in
    let same : filter_map (token_to set) (m.posts ++ rest) ≡ filter_map (token_to set) rest =
    filter_map-append (token_to set) m.posts rest ∙ ap (λ (more : List ℕ). more ++ filter_map (token_to set) rest) (none_go set m.posts none) in
    let early : AllByRecursion (λ (post : Post). LetterOnPath nodes second.now x post.to post.letter) m.posts =
    subst (λ (now : List ℕ). AllByRecursion (λ (post : Post). LetterOnPath nodes now x post.to post.letter) m.posts) (sym second.grown)
    (all_weaker _ _ (λ (post : Post) h. letter_later nodes went (filter_map (token_to set) rest) x post.to post.letter h.1 h.0) m.posts first.posts) in
    record {
      now = second.now;
      grown = second.grown ∙ ap (λ (more : List ℕ). went ++ more) (sym same);
      state = second.state;
      posts = all_append _ m.posts rest early second.posts;
      count = omega (arith, second.count, none_weigh set m.posts none, sum_by-append (λ (post : Post). token_weight set post.letter) m.posts rest);
      others = second.others;
    }

-- The token's path in a world, as a node makes its move on one set.

-- the nodes that have the desk
abbrev pub desks : ℕ → (ℕ → SetState) → ℕ
desks nodes state = sum_below nodes (λ q. one_if (is_some (state q).desk))

-- the paths of a set, with so many of its tokens in hand
pub record PathsOf (nodes s hand : ℕ) (state : ℕ → SetState) (mail : ℕ → ℕ → List Letter) (gone : List ℕ) : Type 0 where
  pub ground : Ground nodes gone
  pub begun : 1 ≤ length gone
  pub states : (x : ℕ) → x < nodes → StateOnPath nodes gone x (state x)
  pub beyond : (x : ℕ) → nodes ≤ x → (state x).desk ≡ None
  pub letters : (p q : ℕ) (letter : Letter) → p < nodes → Contains (mail p q) letter → letter.set ≡ s → LetterOnPath nodes gone p q letter
  pub count : (desks nodes state + mail_weight nodes (token_weight s) mail) + hand ≡ 1

-- what a node keeps stays on the path as the token goes on from another one
state_later : (nodes : ℕ) (gone : List ℕ) (x q v : ℕ) (t : SetState) → StateOnPath nodes gone x t → x ≢ q → one_if (is_some t.desk) ≡ 0
    → ((epoch : ℕ) → epoch + 1 ≡ length gone → slice_index gone epoch ≡ q) → StateOnPath nodes (gone ++ v ∷ []) x t
state_later nodes gone x q v t h d none last = record {
  link = link_later gone (v ∷ []) t.firm h.link;
  way = by_desk t.desk h.way none;
  hoped = h.hoped;
  parked = h.parked;
}
  where
    by_desk : (desk : Option Desk) → HasWay nodes gone x t.firm desk → one_if (is_some desk) ≡ 0 → HasWay nodes (gone ++ v ∷ []) x t.firm desk
    by_desk None known e = λ epoch below node. elim (cases_lt epoch (length gone)) [
      | inl old ↦
          let before : slice_index gone epoch ≡ x = sym (get_or_append_left gone (v ∷ []) 0 epoch old) ∙ node in
          elim (known epoch old before) [
            | inl earlier ↦ inl earlier
            | inr at_end ↦ absurd (d (sym before ∙ last epoch at_end))
          ]
      | inr new ↦ inr (omega (arith, below, new, length_push gone v))
    ]
    by_desk (Some desk) way e = absurd (omega (arith, e))

pub weighs_tokens : (s : ℕ) (letter : Letter) → letter.set ≡ s → token_weight s letter ≡ tokens_in letter.body
weighs_tokens s letter e = rw (eq-eqb letter.set s e) refl

-- what stays on the path as the move is made: the other nodes, and the letters that were on their way
record Others (nodes s q : ℕ) (state : ℕ → SetState) (mail : ℕ → ℕ → List Letter) (now : List ℕ) : Type 0 where
  ground : Ground nodes now
  begun : 1 ≤ length now
  states : (x : ℕ) → x < nodes → x ≢ q → StateOnPath nodes now x (state x)
  letters : (p r : ℕ) (letter : Letter) → p < nodes → Contains (mail p r) letter → letter.set ≡ s → LetterOnPath nodes now p r letter

others_kept : (nodes s hand q : ℕ) (state : ℕ → SetState) (mail : ℕ → ℕ → List Letter) (gone now : List ℕ)
    → PathsOf nodes s hand state mail gone → q < nodes
    → (now ≡ gone) ⊎ HandsOver nodes gone q (one_if (is_some (state q).desk) + hand) now → Others nodes s q state mail now
others_kept nodes s hand q state mail gone now h hq (inl same) =
    subst (λ (l : List ℕ). Others nodes s q state mail l) (sym same) (record {
      ground = h.ground;
      begun = h.begun;
      states = λ x below d. h.states x below;
      letters = h.letters;
    })
others_kept nodes s hand q state mail gone now h hq (inr over) =
    subst (λ (l : List ℕ). Others nodes s q state mail l) (sym over.grown) (record {
      ground = record { some = h.ground.some; known = All-push (λ x. x < nodes) gone over.to h.ground.known over.named };
      begun = omega (arith, length_push gone over.to);
      states = λ x below d.
          let none : one_if (is_some (state x).desk) ≡ 0 =
          omega (arith, h.count, over.here, sum_below-two nodes x q (λ k. one_if (is_some (state k).desk)) below hq d) in
          state_later nodes gone x q over.to (state x) (h.states x below) d none over.last;
      letters = λ p r letter below on set.
          let before = h.letters p r letter below on set in
          let none : tokens_in letter.body ≡ 0 = omega (
            arith,
            h.count,
            over.here,
            sum_below-at nodes q (λ k. one_if (is_some (state k).desk)) hq,
            mail_weight-at nodes p r (token_weight s) mail letter below before.to on,
            weighs_tokens s letter set,
          ) in
          letter_later nodes gone (over.to ∷ []) p r letter none before;
    })

-- a node's move on the set keeps the paths
pub after_moved : (nodes s hand q : ℕ) (state : ℕ → SetState) (mail : ℕ → ℕ → List Letter) (gone : List ℕ) (m : Made)
    → PathsOf nodes s hand state mail gone → q < nodes → Moved nodes gone s q (one_if (is_some (state q).desk) + hand) m
    → PathsOf nodes s 0 (put state q m.state) (sent q m.posts mail) (gone ++ filter_map (token_to s) m.posts)
after_moved nodes s hand q state mail gone m h hq moved =
    let others = others_kept nodes s hand q state mail gone moved.now h hq moved.others in
    let desks_change = sum_below-change nodes q (λ k. one_if (is_some (put state q m.state k).desk)) (λ k. one_if (is_some (state k).desk)) hq
    (λ k below d. ap (λ (t : SetState). one_if (is_some t.desk)) (put-other state q m.state k d)) in
    let here = ap (λ (t : SetState). one_if (is_some t.desk)) (put-same state q m.state) in
    let weight = mail_weight-sent nodes q (token_weight s) m.posts mail hq (all_weaker _ _ (λ (post : Post) on. inl on.to) m.posts moved.posts) in
    subst (λ (l : List ℕ). PathsOf nodes s 0 (put state q m.state) (sent q m.posts mail) l) moved.grown (record {
      ground = others.ground;
      begun = others.begun;
      states = λ x below. elim (cases_eq x q) [
        | inl e ↦ subst (λ (y : ℕ). StateOnPath nodes moved.now y (put state q m.state y)) (sym e)
            (subst (λ (t : SetState). StateOnPath nodes moved.now q t) (sym (put-same state q m.state)) moved.state)
        | inr d ↦ subst (λ (t : SetState). StateOnPath nodes moved.now x t) (sym (put-other state q m.state x d)) (others.states x below d)
      ];
      beyond = λ x above.
          ap (λ (t : SetState). t.desk) (put-other state q m.state x (λ e. omega (arith, e, above, hq))) ∙ h.beyond x above;
      letters = λ p r letter below on set.
          all_sent (λ a b l. a < nodes → l.set ≡ s → LetterOnPath nodes moved.now a b l) q m.posts mail
          (λ a b l old under of_set. others.letters a b l under old of_set)
          (all_weaker _ _ (λ (post : Post) ok. λ under of_set. ok) m.posts moved.posts) p r letter on below set;
      count = omega (arith, h.count, desks_change, here, weight, moved.count);
    })

-- letters of other sets change nothing
pub after_others : (nodes s hand q : ℕ) (state : ℕ → SetState) (mail : ℕ → ℕ → List Letter) (gone : List ℕ) (posts : List Post)
    → PathsOf nodes s hand state mail gone → AllByRecursion (λ (post : Post). post.letter.set ≢ s) posts
    → PathsOf nodes s hand state (sent q posts mail) (gone ++ filter_map (token_to s) posts)
after_others nodes s hand q state mail gone posts h other =
    let none = all_weaker _ (HasNoToken s) (λ post d. no_token_of_other s post d) posts other in
    let same : gone ++ filter_map (token_to s) posts ≡ gone = ap (λ (more : List ℕ). gone ++ more) (none_go s posts none) ∙ append-nil gone in
    let weight = mail_weight-none nodes q (token_weight s) posts mail (all_weaker _ _ (λ (post : Post) ok. ok.1) posts none) in
    subst (λ (l : List ℕ). PathsOf nodes s hand state (sent q posts mail) l) (sym same) (record {
      ground = h.ground;
      begun = h.begun;
      states = h.states;
      beyond = h.beyond;
      letters = λ p r letter below on set.
          all_sent (λ a b l. a < nodes → l.set ≡ s → LetterOnPath nodes gone a b l) q posts mail
          (λ a b l old under of_set. h.letters a b l under old of_set)
          (all_weaker _ _ (λ (post : Post) d. λ under of_set. absurd (d of_set)) posts other) p r letter on below set;
      count = omega (arith, h.count, weight);
    })

-- what a node makes that the script doesn't have changes nothing
pub after_beyond : (nodes s q : ℕ) (state : ℕ → SetState) (mail : ℕ → ℕ → List Letter) (gone : List ℕ) (t : SetState) (posts : List Post)
    → PathsOf nodes s 0 state mail gone → nodes ≤ q → t.desk ≡ None → AllByRecursion (HasNoToken s) posts
    → PathsOf nodes s 0 (put state q t) (sent q posts mail) (gone ++ filter_map (token_to s) posts)
after_beyond nodes s q state mail gone t posts h above away none =
    let same : gone ++ filter_map (token_to s) posts ≡ gone = ap (λ (more : List ℕ). gone ++ more) (none_go s posts none) ∙ append-nil gone in
    let weight = mail_weight-beyond nodes q (token_weight s) posts mail above in
    let desks_same = sum_below-same nodes (λ k. one_if (is_some (put state q t k).desk)) (λ k. one_if (is_some (state k).desk))
    (λ k below. ap (λ (u : SetState). one_if (is_some u.desk)) (put-other state q t k (λ e. omega (arith, e, below, above)))) in
    subst (λ (l : List ℕ). PathsOf nodes s 0 (put state q t) (sent q posts mail) l) (sym same) (record {
      ground = h.ground;
      begun = h.begun;
      states = λ x below.
          subst (λ (u : SetState). StateOnPath nodes gone x u) (sym (put-other state q t x (λ e. omega (arith, e, below, above)))) (h.states x below);
      beyond = λ x over. elim (cases_eq x q) [
        | inl e ↦ subst (λ (y : ℕ). (put state q t y).desk ≡ None) (sym e) (ap (λ (u : SetState). u.desk) (put-same state q t) ∙ away)
        | inr d ↦ ap (λ (u : SetState). u.desk) (put-other state q t x d) ∙ h.beyond x over
      ];
      letters = λ p r letter below on set.
          all_sent (λ a b l. a < nodes → l.set ≡ s → LetterOnPath nodes gone a b l) q posts mail
          (λ a b l old under of_set. h.letters a b l under old of_set)
          (all_any _ (λ (post : Post). λ under of_set. absurd (omega (arith, under, above))) posts) p r letter on below set;
      count = omega (arith, h.count, weight, desks_same);
    })

-- a letter that is taken leaves its tokens in hand
pub opened_for : (nodes s p q : ℕ) (state : ℕ → SetState) (mail : ℕ → ℕ → List Letter) (gone : List ℕ) (letter : Letter) (rest : List Letter)
    → PathsOf nodes s 0 state mail gone → p < nodes → q < nodes → mail p q ≡ letter ∷ rest
    → PathsOf nodes s (token_weight s letter) state (put_mail mail p q (drop 1 (mail p q))) gone
opened_for nodes s p q state mail gone letter rest h hp hq front =
    let same = ap (λ (l : List Letter). mail_weight nodes (token_weight s) (put_mail mail p q (drop 1 l))) front in
    let weight = mail_weight-taken nodes p q (token_weight s) mail letter rest hp hq front in
    record {
      ground = h.ground;
      begun = h.begun;
      states = h.states;
      beyond = h.beyond;
      letters = λ a b l below on set. h.letters a b l below (before_take mail p q a b l on) set;
      count = omega (arith, h.count, same, weight);
    }

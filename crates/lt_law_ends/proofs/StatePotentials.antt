-- What a move of a set at its node does to the token moves that may still come.
use Rattle.std.proofs.Common.{◌≡◌, ◌≢◌, inl, inr, ℕ, ◌+◌, ◌<◌, ◌≤◌, List, [], ◌∷◌, length, Option, Some, None, Bool, true, false, refl, sym, ap, subst, arith, ◌∙◌, nat_lt, if◌then◌else◌, fold, ne_eqb}
use Rattle.std.specs.List.{AllByRecursion}
use Rattle.std.proofs.lemmas.List.Sums.{sum_by-append, sum_by-cons}
use Rattle.lt_modes.specs.declared.stamp.Stamp.{Stamp}
use Rattle.lt_modes.specs.declared.parts.Link.{Link}
use Rattle.lt_modes.specs.declared.parts.Row.{Row}
use Rattle.lt_modes.specs.Modes.{Modes, no_modes, bars, same_modes, held_modes, take_lock}
use Rattle.lt_modes.specs.State.{SetState, Desk, Body, AskBody, TellBody, CopyBody, TokenBody, FreezeBody, Letter, Parked, ParkedAsk, ParkedTell, Post, silent}
use Rattle.lt_modes.specs.Serving.{queue_of, ask_at, next_at, next_service, serve_one}
use Rattle.lt_modes.specs.HandingOver.{hand_over_to}
use Rattle.lt_modes.specs.Freezing.{freeze}
use Rattle.lt_modes.specs.SetMove.{make_tell, ask_of, asked, given, dropped}
use Rattle.lt_modes.specs.Routing.{learn, dealt}
use Rattle.lt_modes.specs.Taking.{take_body, take_copy, take_token, arrive, take}
use Rattle.lt_model.specs.PathEffects.{posts_weight}
use Rattle.lt_model.proofs.Effects.{HoldsOf, EndEffects, ActEffects, ByEffects, next_service-within, acts_by_effects, take_by_effects}
use Rattle.lt_model.proofs.NodeEffects.{IsOfSet}
use Rattle.lt_law_ends.specs.Weights.{is_sure, away, queue_potential, desk_potential, token_potential, here_potential, state_potential, body_potential}
use Rattle.lt_law_ends.proofs.EffectPotentials.{Keeps, KeepsWith, Owes, asks_potential, away_most, base_less, base_potential, dealt_queue, due_at_most, freezes_potential, keeps_then, leaves_potential, route_potential, sent_potential, serves_potential, tells_potential}
use Rattle.lt_law_ends.proofs.SureAsks.{IsBound, serves_sure}

held_potential : (v : ℕ) (held rows : List Row) (charge charged : Modes) (desk : Option Desk)
    → here_potential v rows charged desk ≤ here_potential v held charge desk + 2
held_potential v held rows charge charged None = omega (arith, due_at_most (same_modes (bars (held_modes rows)) (bars charged)))
held_potential v held rows charge charged (Some desk) = omega arith

potential_ends : (s budget : ℕ) (stamp : Stamp)
    → EndEffects s stamp (Owes stamp.node s budget) (Keeps stamp.node s budget) (Keeps stamp.node s budget)
potential_ends s budget stamp = record {
  serves = λ t posts k e h.
      let within = next_service-within stamp.node t k e in
      let m = serve_one s stamp k t in
      inl (omega (
        arith,
        base t posts k within h,
        serves_potential stamp.node s stamp t k within,
        sum_by-append (λ (post : Post). sent_potential s post.letter) posts m.posts,
      ));
  freezes = λ t posts desk here none h.
      keeps_then stamp.node s 0 budget t posts (freeze s stamp t) (freezes_potential stamp.node s stamp t) (omega (arith, no_service t posts none h));
  leaves = λ t posts k e h.
      keeps_then stamp.node s 0 budget t posts (hand_over_to s stamp t (ask_at t k).node t.desk) (leaves_potential s stamp t k e) (omega (arith, h));
  stays = λ t posts e h. h;
  tells = λ t posts gone differs h.
      keeps_then stamp.node s 0 budget t posts (make_tell s stamp t) (tells_potential stamp.node s stamp t gone differs)
      (omega (arith, no_service t posts (none_without t gone) h));
  tells_not = λ t posts gone same h. no_service t posts (none_without t gone) h;
}
  where
    base : (t : SetState) (posts : List Post) (k : ℕ) → k < length (queue_of t) → Owes stamp.node s budget t posts
        → base_potential t + posts_weight (sent_potential s) posts ≤ budget
    base t posts k within (inl h) = omega (arith, h, base_less stamp.node t k within)
    base t posts k within (inr h) = h.2

    no_service : (t : SetState) (posts : List Post) → next_service stamp.node t ≡ None → Owes stamp.node s budget t posts → Keeps stamp.node s budget t posts
    no_service t posts none (inl h) = h
    no_service t posts none (inr h) = let both : Some h.0 ≡ None = sym h.1 ∙ none in cc

    none_without : (t : SetState) → t.desk ≡ None → next_service stamp.node t ≡ None
    none_without t gone = ap (next_at stamp.node t) gone

gives_potential : (v s budget : ℕ) (t : SetState) (rows : List Row) (posts : List Post) → KeepsWith 6 v s budget t posts
    → Owes v s budget (record t { held = rows }) posts
gives_potential v s budget t rows posts h = inl (omega (arith, h, held_potential v t.held rows t.charge t.charge t.desk))

potential_acts : (s budget : ℕ) (stamp : Stamp) → ActEffects s stamp (KeepsWith 6 stamp.node s budget) (Owes stamp.node s budget)
potential_acts s budget stamp = record {
  nothing = λ t posts h. inl (omega (arith, h));
  grants = λ client mode t posts e h. gives_potential stamp.node s budget t (given client mode None t).held posts h;
  changes = λ client gives_up mode t posts holds e h. gives_potential stamp.node s budget t (given client mode (Some gives_up) t).held posts h;
  releases = λ client mode t posts e h. gives_potential stamp.node s budget t (take_lock t.held client mode) posts h;
  drops = λ client t posts h. gives_potential stamp.node s budget t (dropped client t).held posts h;
  withdraws = λ other t posts waiting h. inl (omega (arith, h));
  retakes = λ ask t posts gone same h. inl (omega (arith, h));
  asks = λ client mode t posts e free h.
      let ask = ask_of stamp client mode None t in
      inl (keeps_then stamp.node s 6 budget t posts (asked s stamp ask t) (asks_potential stamp.node s stamp ask t) h);
  change_asks = λ client gives_up mode t posts holds e free h.
      let ask = ask_of stamp client mode (Some gives_up) t in
      inl (keeps_then stamp.node s 6 budget t posts (asked s stamp ask t) (asks_potential stamp.node s stamp ask t) h);
}

-- the commands of a client
pub potential_moves : (s budget : ℕ) (stamp : Stamp) → ByEffects s stamp (KeepsWith 6 stamp.node s budget) (Keeps stamp.node s budget)
potential_moves s budget stamp = acts_by_effects s stamp _ _ _ _ (potential_acts s budget stamp) (potential_ends s budget stamp)

-- letters of other sets count for nothing
pub others_sent : (s : ℕ) (posts : List Post) → AllByRecursion (λ (post : Post). post.letter.set ≢ s) posts → posts_weight (sent_potential s) posts ≡ 0
others_sent s [] h = refl
others_sent s (post ∷ rest) h =
    let none : sent_potential s post.letter ≡ 0 = rw (ne_eqb post.letter.set s h.0) refl in
    omega (arith, none, others_sent s rest h.1, sum_by-cons (λ (p : Post). sent_potential s p.letter) post rest)

pub keeps_of_set : (v s budget : ℕ) → IsOfSet s (Keeps v s budget)
keeps_of_set v s budget t posts more other h =
    omega (arith, h, others_sent s more other, sum_by-append (λ (post : Post). sent_potential s post.letter) posts more)

pub keeps_with_of_set : (cost v s budget : ℕ) → IsOfSet s (KeepsWith cost v s budget)
keeps_with_of_set cost v s budget t posts more other h =
    omega (arith, h, others_sent s more other, sum_by-append (λ (post : Post). sent_potential s post.letter) posts more)

-- taking a letter

-- a token that comes finds its node within its record
abbrev pub IsTokenBound : ℕ → SetState → Body → Type 0
IsTokenBound v s (TokenBody desk) = IsBound v s desk
IsTokenBound v s (AskBody ask marked) = Unit {0}
IsTokenBound v s (TellBody tell) = Unit {0}
IsTokenBound v s (CopyBody ask) = Unit {0}
IsTokenBound v s (FreezeBody number modes) = Unit {0}

learn_potential : (v : ℕ) (link : Link) (t : SetState) (body : Body) → IsTokenBound v t body
    → (state_potential v (learn link t) ≡ state_potential v t) × IsTokenBound v (learn link t) body
learn_potential v link t body bound = by_test (nat_lt t.firm.epoch link.epoch)
  where
    by_body : (b : Body) → IsTokenBound v t b → IsTokenBound v (record t { firm = link; hoped = None }) b
    by_body (AskBody ask marked) h = tt
    by_body (TellBody tell) h = tt
    by_body (CopyBody ask) h = tt
    by_body (TokenBody desk) h = h
    by_body (FreezeBody number modes) h = tt

    by_test : (greater : Bool) → (state_potential v (if greater then record t { firm = link; hoped = None } else t) ≡ state_potential v t)
        × IsTokenBound v (if greater then record t { firm = link; hoped = None } else t) body
    by_test true = (refl, by_body body bound)
    by_test false = (refl, bound)

-- the token comes
token_comes : (s : ℕ) (stamp : Stamp) (desk : Desk) (u : SetState) → IsBound stamp.node u desk
    → HoldsOf (Owes stamp.node s (state_potential stamp.node u + token_potential stamp.node desk)) [] (silent (take_token stamp.node desk u))
token_comes s stamp desk u bound = by_parked u.parked refl
  where
    v : ℕ
    v = stamp.node

    by_parked : (parked : List Parked) → u.parked ≡ parked
        → HoldsOf (Owes v s (state_potential v u + token_potential v desk)) [] (silent (take_token v desk u))
    by_parked (item ∷ rest) e = inl (omega (
      arith,
      dealt_queue u.parked desk,
      ap (λ (l : List Parked). length l) e,
      away_most v (fold dealt desk u.parked).queue,
    ))
    by_parked [] e = by_sure (is_sure v desk) refl
      where
        same : fold dealt desk u.parked ≡ desk
        same = ap (fold dealt desk) e

        by_sure : (sure : Bool) → is_sure v desk ≡ sure
            → HoldsOf (Owes v s (state_potential v u + token_potential v desk)) [] (silent (take_token v desk u))
        by_sure false f = inl (omega (arith, ap (desk_potential v) same, ap (λ (b : Bool). if b then 0 else 1 + away v desk.queue) f))
        by_sure true f =
            let found = serves_sure v (take_token v desk u) desk bound no_modes 0 desk.queue f in
            let next : next_service v (take_token v desk u) ≡ Some found.0 =
            ap (λ (d : Desk). next_at v (take_token v desk u) (Some d)) same ∙ found.1 in
            inr (found.0, next, omega (arith, ap (λ (d : Desk). queue_potential d.queue) same))

arrives_potential : (stamp : Stamp) (letter : Letter) (t : SetState) → IsTokenBound stamp.node t letter.body
    → HoldsOf (Owes stamp.node letter.set (state_potential stamp.node t + body_potential stamp.node letter.body)) [] (arrive stamp letter t)
arrives_potential stamp letter t bound =
    let known = learn_potential stamp.node letter.link t letter.body bound in
    subst (λ (n : ℕ). HoldsOf (Owes stamp.node letter.set (n + body_potential stamp.node letter.body)) [] (arrive stamp letter t)) known.0
    (by_body letter.body (learn letter.link t) known.1)
  where
    by_body : (body : Body) (u : SetState) → IsTokenBound stamp.node u body
        → HoldsOf (Owes stamp.node letter.set (state_potential stamp.node u + body_potential stamp.node body)) [] (take_body letter.set stamp body u)
    by_body (AskBody ask marked) u h = inl (omega (arith, route_potential stamp.node letter.set stamp marked (ParkedAsk ask) u))
    by_body (TellBody tell) u h = inl (omega (arith, route_potential stamp.node letter.set stamp false (ParkedTell tell) u))
    by_body (CopyBody ask) u h =
        let made = take_copy letter.set ask u in
        inl (omega (arith, held_potential stamp.node u.held made.state.held u.charge made.state.charge u.desk))
    by_body (TokenBody desk) u h = token_comes letter.set stamp desk u h
    by_body (FreezeBody number modes) u h = by_test (nat_lt u.number number)
      where
        by_test : (newer : Bool)
            → HoldsOf (Owes stamp.node letter.set (state_potential stamp.node u + 0)) [] (silent (if newer then record u { frozen = modes; number = number } else u))
        by_test true = inl (omega arith)
        by_test false = inl (omega arith)

pub take_potential : (stamp : Stamp) (letter : Letter) (t : SetState) → IsTokenBound stamp.node t letter.body
    → HoldsOf (Keeps stamp.node letter.set (state_potential stamp.node t + body_potential stamp.node letter.body)) [] (take stamp letter t)
take_potential stamp letter t bound =
    let budget = state_potential stamp.node t + body_potential stamp.node letter.body in
    take_by_effects stamp letter _ _ _ (potential_ends letter.set budget stamp) t [] (arrives_potential stamp letter t bound)

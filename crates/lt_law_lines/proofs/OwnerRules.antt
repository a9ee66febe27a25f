-- The `token` lines of a move are those of the letters that carry the token.
use Rattle.lt_model.proofs.Voids.{withdraws_ways}
use Rattle.std.proofs.Common.{◌≡◌, ◌≢◌, ℕ, ◌+◌, inl, inr, List, [], ◌∷◌, ◌++◌, map, Option, Some, None, Bool, true, false, refl, ap, arith, ◌∙◌, ◌⊎◌, ◌==◌, if◌then◌else◌, Contains, fold, filter_map, eq-eqb, ne_eqb}
use Rattle.std.specs.List.{cons_option}
use Rattle.std.proofs.lemmas.Bool.{cases_eq}
use Rattle.std.proofs.lemmas.List.Elements.{filter_map-append, Contains-append_left, Contains-append_right}
use Rattle.std.proofs.lemmas.List.Sums.{fold-append}
use Rattle.lt_modes.specs.declared.mode.Mode.{Mode}
use Rattle.lt_modes.specs.declared.stamp.Stamp.{Stamp}
use Rattle.lt_modes.specs.declared.ask.Ask.{Ask}
use Rattle.lt_modes.specs.declared.parts.Link.{Link}
use Rattle.lt_modes.specs.declared.event.Event.{Event}
use Rattle.lt_modes.specs.declared.event.Event.TheVariants.{Freeze, Wait, Void}
use Rattle.lt_modes.specs.Modes.{Modes, held_modes}
use Rattle.lt_modes.specs.State.{SetState, Desk, Body, AskBody, TellBody, CopyBody, TokenBody, FreezeBody, Letter, Parked, ParkedAsk, ParkedTell, Made, Post, post_of}
use Rattle.lt_modes.specs.Serving.{ask_at, answer_by, answer_event, serve_local, serve_copy, is_gone}
use Rattle.lt_modes.specs.HandingOver.{hand_over_to, without_desk, leaving}
use Rattle.lt_modes.specs.Freezing.{freeze_at, frozen_by, targets, number_after}
use Rattle.lt_modes.specs.SetMove.{finish, ask_of, withdrawn, withdraw}
use Rattle.lt_modes.specs.Routing.{Way, Parks, Goes, body_of, sent_on, route, learn}
use Rattle.lt_modes.specs.Telling.{tell_of}
use Rattle.lt_modes.specs.Taking.{take_body, take}
use Rattle.lt_spec.specs.Holdings.{owner_after}
use Rattle.lt_spec.specs.World.{token_by, token_to}
use Rattle.lt_model.proofs.Effects.{route_ways}
use Rattle.lt_model.proofs.TryEffects.{Between, EndRules, ActRules, finish_rule, take_rule}
use Rattle.lt_law_lines.proofs.LineRules.{route_says}

-- no line and no letter is of a token move of the set
pub record TokenStays (s : ℕ) (lines : List Event) (posts : List Post) : Type 0 where
  pub said : (owner : Link) → fold (owner_after s) owner lines ≡ owner
  pub sent : filter_map (token_to s) posts ≡ []

-- the last line of a token move of the set is that of a letter
pub record TokenGoes (s : ℕ) (lines : List Event) (posts : List Post) : Type 0 where
  pub to : ℕ
  pub letter : Letter
  pub desk : Desk
  pub sent : Contains posts (record { to = to; letter = letter })
  pub set : letter.set ≡ s
  pub body : letter.body ≡ TokenBody desk
  pub said : (owner : Link) → fold (owner_after s) owner lines ≡ record { node = to; epoch = desk.epoch }

abbrev pub TokenTold : ℕ → List Event → List Post → Type 0
TokenTold s lines posts = TokenStays s lines posts ⊎ TokenGoes s lines posts

pub none_told : (s : ℕ) → TokenTold s [] []
none_told s = inl (record { said = λ owner. refl; sent = refl })

pub then_told : (s : ℕ) (first later : List Event) (sent more : List Post) → TokenTold s first sent → TokenTold s later more → TokenTold s (first ++ later) (sent ++ more)
then_told s first later sent more (inl a) (inl b) = inl (record {
  said = λ owner. fold-append (owner_after s) owner first later ∙ b.said (fold (owner_after s) owner first) ∙ a.said owner;
  sent = filter_map-append (token_to s) sent more ∙ ap (λ (l : List ℕ). l ++ filter_map (token_to s) more) a.sent ∙ b.sent;
})
then_told s first later sent more (inr a) (inl b) = inr (record {
  to = a.to;
  letter = a.letter;
  desk = a.desk;
  sent = Contains-append_left sent more (record { to = a.to; letter = a.letter }) a.sent;
  set = a.set;
  body = a.body;
  said = λ owner. fold-append (owner_after s) owner first later ∙ b.said (fold (owner_after s) owner first) ∙ a.said owner;
})
then_told s first later sent more a (inr b) = inr (record {
  to = b.to;
  letter = b.letter;
  desk = b.desk;
  sent = Contains-append_right sent more (record { to = b.to; letter = b.letter }) b.sent;
  set = b.set;
  body = b.body;
  said = λ owner. fold-append (owner_after s) owner first later ∙ b.said (fold (owner_after s) owner first);
})

-- what a rule makes of a set
abbrev pub tokens_told : Between
tokens_told t m = (s : ℕ) → TokenTold s m.events m.posts

-- letters that carry no token
no_token : (s set to : ℕ) (stamp : Stamp) (t : SetState) (body : Body) → token_by body to ≡ None → (rest : List Post) → filter_map (token_to s) rest ≡ []
    → filter_map (token_to s) (post_of set stamp t to body ∷ rest) ≡ []
no_token s set to stamp t body none rest later = ap (λ (o : Option ℕ). cons_option o (filter_map (token_to s) rest)) (by_set (set == s)) ∙ later
  where
    by_set : (own : Bool) → (if own then token_by body to else None) ≡ None
    by_set true = none
    by_set false = refl

quiet_told : (s : ℕ) (m : Made) → ((owner : Link) → fold (owner_after s) owner m.events ≡ owner) → filter_map (token_to s) m.posts ≡ [] → TokenTold s m.events m.posts
quiet_told s m said sent = inl (record { said = said; sent = sent })

answer_quiet : (s set : ℕ) (ask : Ask) (owner : Link) → owner_after s owner (answer_event set ask) ≡ owner
answer_quiet s set ask owner = by_choice ask.gives_up
  where
    by_choice : (o : Option Mode) → owner_after s owner (answer_by set ask o) ≡ owner
    by_choice None = refl
    by_choice (Some mode) = refl

end_quiet : (s set : ℕ) (ask : Ask) (gone : Bool) (owner : Link) → owner_after s owner (if gone then Void ask.client set ask.mode else answer_event set ask) ≡ owner
end_quiet s set ask true owner = refl
end_quiet s set ask false owner = answer_quiet s set ask owner

-- an ask or a tell is routed
routed_quiet : (s set : ℕ) (stamp : Stamp) (marked : Bool) (item : Parked) (t : SetState) → filter_map (token_to s) (route set stamp marked item t).posts ≡ []
routed_quiet s set stamp marked item t = route_ways (λ (m : Made). filter_map (token_to s) m.posts ≡ []) set stamp marked item t (λ desk e. refl) (λ away w e. by_way w)
  where
    by_item : (i : Parked) (mark : Bool) (to : ℕ) → token_by (body_of i mark) to ≡ None
    by_item (ParkedAsk ask) mark to = refl
    by_item (ParkedTell tell) mark to = refl

    by_way : (w : Way) → filter_map (token_to s) (sent_on set stamp item t w).posts ≡ []
    by_way Parks = refl
    by_way (Goes to mark) = no_token s set to stamp t (body_of item mark) (by_item item mark to) [] refl

routed_told : (set : ℕ) (stamp : Stamp) (marked : Bool) (item : Parked) (t : SetState) (s : ℕ) → TokenTold s (route set stamp marked item t).events (route set stamp marked item t).posts
routed_told set stamp marked item t s =
    quiet_told s (route set stamp marked item t) (λ owner. ap (λ (l : List Event). fold (owner_after s) owner l) (route_says set stamp marked item t).0) (routed_quiet s set stamp marked item t)

freezes_quiet : (s set number : ℕ) (stamp : Stamp) (t : SetState) (frozen : Modes) (told : List ℕ)
    → ((owner : Link) → fold (owner_after s) owner (map (λ x. Freeze set x number frozen) told) ≡ owner)
    × (filter_map (token_to s) (map (λ x. post_of set stamp t x (FreezeBody number frozen)) told) ≡ [])
freezes_quiet s set number stamp t frozen [] = (λ owner. refl, refl)
freezes_quiet s set number stamp t frozen (x ∷ rest) =
    let later = freezes_quiet s set number stamp t frozen rest in
    (later.0, no_token s set x stamp t (FreezeBody number frozen) refl (map (λ y. post_of set stamp t y (FreezeBody number frozen)) rest) later.1)

-- the token leaves
left_told : (s set to : ℕ) (stamp : Stamp) (t : SetState) (desk : Desk) → TokenTold s (hand_over_to set stamp t to (Some desk)).events (hand_over_to set stamp t to (Some desk)).posts
left_told s set to stamp t desk = by_set (cases_eq set s)
  where
    after : Link
    after = record { node = to; epoch = desk.epoch + 1 }

    by_set : (set ≡ s) ⊎ (set ≢ s) → TokenTold s (hand_over_to set stamp t to (Some desk)).events (hand_over_to set stamp t to (Some desk)).posts
    by_set (inl e) = inr (record {
      to = to;
      letter = (post_of set stamp (without_desk t to (desk.epoch + 1)) to (TokenBody (leaving stamp t desk))).letter;
      desk = leaving stamp t desk;
      sent = (0, omega arith, refl);
      set = e;
      body = refl;
      said = λ owner. ap (λ (own : Bool). if own then after else owner) (eq-eqb set s e);
    })
    by_set (inr d) = inl (record {
      said = λ owner. ap (λ (own : Bool). if own then after else owner) (ne_eqb set s d);
      sent = ap (λ (own : Bool). cons_option (if own then Some to else None) []) (ne_eqb set s d);
    })

token_ends : (set : ℕ) (stamp : Stamp) → EndRules set stamp tokens_told
token_ends set stamp = record {
  silent = λ t. none_told;
  joined = λ t m rule first second s. then_told s m.events (rule m.state).events m.posts (rule m.state).posts (first s) (second s);
  serves = λ t k within s. served t k s ((ask_at t k).node == stamp.node);
  freezes = λ t s. frozen t s t.desk;
  leaves = λ t v s. left t v s t.desk;
  tells = λ t. routed_told set stamp false (ParkedTell (tell_of stamp t)) (record t { charge = held_modes t.held });
}
  where
    served : (t : SetState) (k s : ℕ) (own : Bool)
        → TokenTold s (if own then serve_local set k t else serve_copy set stamp k (ask_at t k) t).events (if own then serve_local set k t else serve_copy set stamp k (ask_at t k) t).posts
    served t k s true = quiet_told s (serve_local set k t) (end_quiet s set (ask_at t k) (is_gone t (ask_at t k).client)) refl
    served t k s false = quiet_told s (serve_copy set stamp k (ask_at t k) t) (λ owner. refl) (no_token s set (ask_at t k).node stamp t (CopyBody (ask_at t k)) refl [] refl)

    frozen : (t : SetState) (s : ℕ) (o : Option Desk) → TokenTold s (freeze_at set stamp t o).events (freeze_at set stamp t o).posts
    frozen t s None = none_told s
    frozen t s (Some desk) =
        let told = targets stamp.node (frozen_by desk.queue) desk in
        let quiet = freezes_quiet s set (number_after told desk.number) stamp t (frozen_by desk.queue) told in
        quiet_told s (freeze_at set stamp t (Some desk)) quiet.0 quiet.1

    left : (t : SetState) (v s : ℕ) (o : Option Desk) → TokenTold s (hand_over_to set stamp t v o).events (hand_over_to set stamp t v o).posts
    left t v s None = none_told s
    left t v s (Some desk) = left_told s set v stamp t desk

pub finish_tokens : (set : ℕ) (stamp : Stamp) (t : SetState) → tokens_told t (finish set stamp t)
finish_tokens set stamp t = finish_rule set stamp tokens_told (token_ends set stamp) t

pub act_tokens : (set : ℕ) (stamp : Stamp) (client : ℕ) → ActRules set stamp client tokens_told
act_tokens set stamp client = record {
  tries_not = λ mode t s. inl (record { said = λ owner. refl; sent = refl });
  holds_not = λ mode t s. inl (record { said = λ owner. refl; sent = refl });
  grants = λ mode t s. inl (record { said = λ owner. refl; sent = refl });
  tries = λ mode t s. inl (record { said = λ owner. refl; sent = refl });
  changes = λ gives_up mode t s. inl (record { said = λ owner. refl; sent = refl });
  releases = λ mode t s. inl (record { said = λ owner. refl; sent = refl });
  asks = λ mode gives_up t s.
      let ask = ask_of stamp client mode gives_up t in
      let routed = route set stamp false (ParkedAsk ask) (record t { pending = t.pending ++ ask ∷ [] }) in
      then_told s (Wait client set mode ∷ []) routed.events [] routed.posts (inl (record { said = λ owner. refl; sent = refl }))
      (routed_told set stamp false (ParkedAsk ask) (record t { pending = t.pending ++ ask ∷ [] }) s);
  retakes = λ mode t s. inl (record { said = λ owner. refl; sent = refl });
  withheld = λ mode t s. inl (record { said = λ owner. refl; sent = refl });
  ended = λ t m a s. then_told s m.events (finish set stamp m.state).events m.posts (finish set stamp m.state).posts (a s) (finish_tokens set stamp m.state s);
}

pub withdraw_tokens : (set : ℕ) (stamp : Stamp) (client other : ℕ) (t : SetState) → tokens_told t (withdraw set stamp client other t)
withdraw_tokens set stamp client other t s =
    let m = withdrawn set client other t in
    then_told s m.events (finish set stamp m.state).events m.posts (finish set stamp m.state).posts
    (withdraws_ways (λ (made : Made). TokenTold s made.events made.posts) set client other t
    (λ waiting. inl (record { said = λ owner. refl; sent = refl })) (λ idle. inl (record { said = λ owner. refl; sent = refl })))
    (finish_tokens set stamp m.state s)

pub take_tokens : (stamp : Stamp) (letter : Letter) (t : SetState) → tokens_told t (take stamp letter t)
take_tokens stamp letter t =
    take_rule stamp letter tokens_told tokens_told
    (λ u m a b s. then_told s m.events (finish letter.set stamp m.state).events m.posts (finish letter.set stamp m.state).posts (a s) (b s))
    (token_ends letter.set stamp) t (arrived letter.body)
  where
    u : SetState
    u = learn letter.link t

    arrived : (body : Body) (s : ℕ) → TokenTold s (take_body letter.set stamp body u).events (take_body letter.set stamp body u).posts
    arrived (AskBody ask marked) s = routed_told letter.set stamp marked (ParkedAsk ask) u s
    arrived (TellBody tell) s = routed_told letter.set stamp false (ParkedTell tell) u s
    arrived (CopyBody ask) s = quiet_told s (take_body letter.set stamp (CopyBody ask) u) (end_quiet s letter.set ask (is_gone u ask.client)) refl
    arrived (TokenBody desk) s = none_told s
    arrived (FreezeBody number modes) s = none_told s

-- Clients that are marked, a bit for each, and the rings that were given replies.
use Rattle.std.proofs.Common.{◌≡◌, ◌≢◌, ◌<◌, ◌≤◌, ◌+◌, ◌*◌, ◌/◌, ◌%◌, ◌^◌, ◌==◌, ◌||◌, ◌⊎◌, ◌++◌, ◌∷◌, [], ◌∙◌, ℕ, zero, suc, Bool, true, false, is_some, nat_lt, List, Option, Some, None, inl, inr, refl, sym, ap, subst, arith, length, slice_get, slice_set, slice_index_or, bit_or, w64, append-nil, length-append, length-set, replicate, lt-ltb, get_or-set_same, get_or-set_other}
use Rattle.std.specs.Int.{bit_at}
use Rattle.std.proofs.lemmas.Bool.{cases_eq, cases_lt, le-ltb}
use Rattle.std.proofs.lemmas.List.{get_or-replicate, get_or_past}
use Rattle.std.proofs.lemmas.Nat.Bits.{bit_at-zero, bit_at_set_same, bit_at_set_other}
use Rattle.std.proofs.lemmas.Option.{same_Some, slice_get_within, slice_get-get_or}
use Rattle.lt_modes.specs.Script.{ScriptData}
use Rattle.lt_modes.specs.declared.event.Event.{Event}
use Rattle.lt_spec.specs.Script.{IsScript}
use Rattle.lt_spec.specs.declared.limits.TheConstants.{MAX_CLIENTS}
use Rattle.lt_spec.specs.World.{Logged}
use Rattle.lt_mail.specs.declared.mail.Mail.{Mail}
use Rattle.lt_mail.specs.Words.{Alike, given_to}
use Rattle.lt_mail.specs.Telling.{GrewIf, TellsGiven}
use Rattle.lt_mail.proofs.TellingLemmas.{grew_join}
use Rattle.lt_runner.specs.declared.parts.Parts.{Parts}
use Rattle.lt_live.specs.declared.clients.Clients.{Clients}
use Rattle.lt_live.specs.declared.ends.Seat.{Seat}
use Rattle.lt_live.specs.declared.reply.Reply.{Reply}
use Rattle.lt_live.specs.Seats.{TakesIn, TellsSeat, reply_to, replies_in}
use Rattle.lt_live.specs.Stations.{IsStation, EachSeat, SeatAt, HandMayGo, AreOthers}
use Rattle.lt_live.specs.Told.{word_has, OtherBitsStay, has_mark, RingGrew, TellsClients, RingAdds, AddsClients, HaveOwnBits, AnswersSeat}
use Rattle.lt_live.specs.Words.{told_to, outbox_replies, due_to}
use Rattle.lt_live.proofs.SeatLists.{Going, alike_self, alike_weaker, each_before, each_join}

-- One bit of some words.

bit_put : (words : List ℕ) (k : ℕ) (word : ℕ) (t : Bool) → k / 64 < length words
    → (bit_at word (k % 64) == 1) ≡ t → ((i : ℕ) → i < 64 → i ≢ k % 64 → bit_at word i ≡ bit_at (slice_index_or words (k / 64) 0) i)
    → (word_has (slice_set words (k / 64) word) k ≡ t) × OtherBitsStay k words (slice_set words (k / 64) word)
bit_put words k word t inside own others = (
  ap (λ (w : ℕ). bit_at w (k % 64) == 1) (get_or-set_same words (k / 64) word 0 inside) ∙ own,
  λ i apart. elim (cases_eq (i / 64) (k / 64)) [
    | inr other ↦ ap (λ (w : ℕ). bit_at w (i % 64) == 1) (get_or-set_other words (k / 64) (i / 64) word 0 other)
    | inl same ↦
        ap (λ (j : ℕ). bit_at (slice_index_or (slice_set words (k / 64) word) j 0) (i % 64) == 1) same
        ∙ (ap (λ (w : ℕ). bit_at w (i % 64) == 1) (get_or-set_same words (k / 64) word 0 inside)
        ∙ (ap (λ (b : ℕ). b == 1) (others (i % 64) (omega arith) (λ e. apart (omega (arith, e, same))))
        ∙ ap (λ (j : ℕ). bit_at (slice_index_or words j 0) (i % 64) == 1) (sym same)))
  ],
)

pub bit_set : (words : List ℕ) (k j : ℕ) → j ≡ k / 64 → k < 1024 → length words ≡ 16
    → (word_has (slice_set words j (bit_or (slice_index_or words j 0) (1 * 2 ^ (k % 64) % 2 ^ 64))) k ≡ true)
    × OtherBitsStay k words (slice_set words j (bit_or (slice_index_or words j 0) (1 * 2 ^ (k % 64) % 2 ^ 64)))
bit_set words k j place few count =
    let old = slice_index_or words (k / 64) 0 in
    let new = bit_or old (1 * 2 ^ (k % 64) % 2 ^ 64) in
    subst (λ (i : ℕ). (word_has (slice_set words i (bit_or (slice_index_or words i 0) (1 * 2 ^ (k % 64) % 2 ^ 64))) k ≡ true)
    × OtherBitsStay k words (slice_set words i (bit_or (slice_index_or words i 0) (1 * 2 ^ (k % 64) % 2 ^ 64)))) (sym place)
    (bit_put words k new true (omega (arith, few, count))
    (ap (λ (b : ℕ). b == 1) (bit_at_set_same w64 old (k % 64) (omega arith)))
    (λ i below apart. bit_at_set_other w64 old (k % 64) (omega arith) i apart))

-- words without a bit
abbrev no_words : List ℕ
no_words = replicate 16 0

pub no_bits : (k : ℕ) → word_has (replicate 16 0) k ≡ false
no_bits k = ap (λ (w : ℕ). bit_at w (k % 64) == 1) zero_there ∙ ap (λ (b : ℕ). b == 1) (bit_at-zero (k % 64))
  where
    zero_there : slice_index_or no_words (k / 64) 0 ≡ 0
    zero_there = elim (cases_lt (k / 64) 16) [
      | inl few ↦ get_or-replicate 16 (k / 64) 0 0 few
      | inr past ↦ get_or_past no_words (k / 64) 0 past
    ]

-- Replies that went into a ring.

same_front : (xs ys zs ws : List Reply) → xs ++ ys ≡ zs ++ ws → length xs ≡ length zs → xs ≡ zs
same_front [] ys [] ws e l = refl
same_front [] ys (z ∷ zs) ws e l = absurd (omega (arith, l))
same_front (x ∷ xs) ys [] ws e l = absurd (omega (arith, l))
same_front (x ∷ xs) ys (z ∷ zs) ws e l =
    let tail : xs ++ ys ≡ zs ++ ws = cc in
    let head : x ≡ z = cc in
    let rest = same_front xs ys zs ws tail (omega (arith, l)) in
    cc

-- those of the outbox
pub outbox_grew : (a b : Seat) (fewer waited : ℕ) → due_to b ≡ due_to a → length (outbox_replies b) ≤ length (outbox_replies a)
    → fewer ≡ length (outbox_replies b) → waited ≡ length (outbox_replies a) → GrewIf (nat_lt fewer waited) (told_to a) (told_to b)
outbox_grew a b fewer waited due least now before =
    let all : length (told_to b) + length (outbox_replies b) ≡ length (told_to a) + length (outbox_replies a) =
    sym (length-append (told_to b) (outbox_replies b)) ∙ (ap (λ (replies : List Reply). length replies) due
    ∙ length-append (told_to a) (outbox_replies a)) in
    elim (cases_lt fewer waited) [
      | inl less ↦ subst (λ (t : Bool). GrewIf t (told_to a) (told_to b)) (sym (lt-ltb fewer waited less)) (omega (arith, all, now, before, less))
      | inr more ↦ subst (λ (t : Bool). GrewIf t (told_to a) (told_to b)) (sym (le-ltb fewer waited more))
          (same_front (told_to b) (outbox_replies b) (told_to a) (outbox_replies a) due (omega (arith, all, now, before, more, least)))
    ]

says_none : (client : ℕ) (line : Event) → reply_to client line ≡ None → replies_in client (line ∷ []) ≡ []
says_none client line none = rw none refl

says_one : (client : ℕ) (line : Event) (reply : Reply) → reply_to client line ≡ Some reply → replies_in client (line ∷ []) ≡ reply ∷ []
says_one client line reply one = rw one refl

-- what is read twice at one place is the same
pub same_line : (lines : List Event) (k : ℕ) (x y : Event) → k < length lines → x ≡ slice_index_or lines k x → y ≡ slice_index_or lines k y → x ≡ y
same_line lines k x y inside one other =
    same_Some x y (ap Some one ∙ (sym (slice_get-get_or lines k x inside) ∙ (slice_get-get_or lines k y inside ∙ ap Some (sym other))))

-- that of a line
pub line_grew : (client mine : ℕ) (line : Event) (said : Bool) (xs ys : List Reply) → mine ≡ client → ys ≡ xs ++ replies_in mine (line ∷ [])
    → said ≡ is_some (reply_to client line) → GrewIf said xs ys
line_grew client mine line said xs ys own more some = here (reply_to client line) refl some
  where
    there : ys ≡ xs ++ replies_in client (line ∷ [])
    there = more ∙ ap (λ (c : ℕ). xs ++ replies_in c (line ∷ [])) own

    here : (o : Option Reply) → reply_to client line ≡ o → said ≡ is_some o → GrewIf said xs ys
    here None none e = subst (λ (t : Bool). GrewIf t xs ys) (sym e)
        (there ∙ (ap (λ (list : List Reply). xs ++ list) (says_none client line none) ∙ append-nil xs))
    here (Some one) at e = subst (λ (t : Bool). GrewIf t xs ys) (sym e)
        (let longer : ys ≡ xs ++ one ∷ [] = there ∙ ap (λ (list : List Reply). xs ++ list) (says_one client line one at) in
        omega (arith, ap (λ (list : List Reply). length list) longer, length-append xs (one ∷ [])))

-- Seats that told their clients one after the other.

-- those of the first n seats whose rings were given replies are marked, with those that were before, and no others
pub record ToldFirst (n : ℕ) (before told : Clients) (old new : List Seat) : Type 0 where
  pub each : (k : ℕ) (x y : Seat) → k < n → slice_get old k ≡ Some x → slice_get new k ≡ Some y → RingAdds before told x y
  pub others : (client : ℕ) → ((k : ℕ) (x : Seat) → k < n → slice_get old k ≡ Some x → x.client ≢ client) → has_mark told client ≡ has_mark before client

pub told_none : (told : Clients) (seats : List Seat) → ToldFirst 0 told told seats seats
told_none told seats = record { each = λ k x y below e f. absurd (omega (arith, below)); others = λ client apart. refl }

pub seat_tells : (log : List Logged) (told later : Clients) (n : ℕ) (old new : List Seat) → SeatAt (AnswersSeat log told later) n old new → SeatAt (TellsSeat log) n old new
seat_tells log told later n old new at = record {
  x = at.x;
  y = at.y;
  before = at.before;
  now = at.now;
  one = at.one.tells;
  count = at.count;
  others = at.others;
}

pub told_more : (log : List Logged) (n : ℕ) (before told later : Clients) (old mid new : List Seat) → HaveOwnBits old → Going (TellsSeat log) n old mid
    → SeatAt (AnswersSeat log told later) n mid new → ToldFirst n before told old mid → ToldFirst (n + 1) before later old new
told_more log n before told later old mid new bits going at h = record {
  each = λ k x y below e f. elim (cases_eq k n) [
    | inl same ↦
        let x_is : at.x ≡ x = same_Some at.x x (sym was ∙ (ap (slice_get old) (sym same) ∙ e)) in
        let y_is : at.y ≡ y = same_Some at.y y (sym at.now ∙ (ap (slice_get new) (sym same) ∙ f)) in
        subst (λ (s : Seat). RingAdds before later s y) x_is (subst (λ (s : Seat). RingAdds before later at.x s) y_is own)
    | inr apart ↦
        let done = h.each k x y (omega (arith, below, apart)) e (sym (at.others k apart) ∙ f) in
        record {
          client = done.client;
          told = done.told;
          grew = done.grew;
          mark = at.one.others x.client (λ same. apart (bits.apart k n x at.x e was same)) ∙ done.mark;
        }
  ];
  others = λ client none.
      at.one.others client (λ same. none n at.x (omega arith) was (sym same))
      ∙ h.others client (λ k x below e. none k x (omega (arith, below)) e);
}
  where
    was : slice_get old n ≡ Some at.x
    was = sym (going.rest n (omega arith)) ∙ at.before

    -- the client was marked by no other seat
    unmarked : has_mark told at.x.client ≡ has_mark before at.x.client
    unmarked = h.others at.x.client (λ k x below e same. let here = bits.apart k n x at.x e was same in omega (arith, below, here))

    own : RingAdds before later at.x at.y
    own = record {
      client = at.one.own.client;
      told = at.one.own.told;
      grew = at.one.own.grew;
      mark = at.one.own.mark ∙ ap (λ (t : Bool). t || at.one.own.told) unmarked;
    }

pub told_all : (log : List Logged) (n : ℕ) (before told : Clients) (old new : List Seat) → length old ≤ n → EachSeat (TellsSeat log) old new
    → ToldFirst n before told old new → AddsClients before told old new
told_all log n before told old new long tells h = record {
  each = λ k. by_place k (slice_get old k) (slice_get new k) refl refl (tells k);
  others = λ client apart. h.others client (λ k x below e. apart k x e);
}
  where
    by_place : (k : ℕ) (o p : Option Seat) → slice_get old k ≡ o → slice_get new k ≡ p → Alike (TellsSeat log) o p → Alike (RingAdds before told) o p
    by_place k None None e f goes = tt
    by_place k None (Some y) e f goes = goes
    by_place k (Some x) None e f goes = goes
    by_place k (Some x) (Some y) e f goes = h.each k x y (let inside = slice_get_within old k x e in omega (arith, inside, long)) e f

-- A turn.

pub own_bits : (p : Parts) (seats : List Seat) → IsScript p.node.script → IsStation p seats → HaveOwnBits seats
own_bits p seats script h = record {
  few = λ k seat e. omega (arith, (h.each k seat e).client, script.few_clients);
  apart = h.apart;
}

-- the seat of the same client, whose ring has the same replies
record KeepsTold (a b : Seat) : Type 0 where
  client : b.client ≡ a.client
  told : told_to b ≡ told_to a

keeps_told : (a b c : Seat) → TakesIn a b → HandMayGo b c → KeepsTold a c
keeps_told a b c takes (inl gone) =
    subst (λ (seat : Seat). KeepsTold a seat) (sym gone) (record { client = takes.same.client; told = takes.told.0 })
keeps_told a b c takes (inr still) =
    subst (λ (seat : Seat). KeepsTold a seat) (sym still) (record { client = takes.same.client; told = takes.told.0 })

ring_grew : (before told : Clients) (a b c : Seat) → KeepsTold a b → RingAdds before told b c → RingAdds before told a c
ring_grew before told a b c h k = record {
  client = k.client ∙ h.client;
  told = k.told;
  grew = subst (λ (replies : List Reply). GrewIf k.told replies (told_to c)) h.told k.grew;
  mark = subst (λ (client : ℕ). has_mark told client ≡ (has_mark before client || k.told)) h.client k.mark;
}

pub turn_tells : (before told : Clients) (seats one two later : List Seat) → EachSeat TakesIn seats one → EachSeat HandMayGo one two
    → AddsClients before told two later → AddsClients before told seats later
turn_tells before told seats one two later takes gives h =
    let keeps : EachSeat KeepsTold seats two = each_join TakesIn HandMayGo KeepsTold keeps_told seats one two takes gives in
    record {
      each = each_join KeepsTold (RingAdds before told) (RingAdds before told) (ring_grew before told) seats two later keeps h.each;
      others = λ client apart. h.others client (λ k y e same.
          let (x, here, kept) = each_before KeepsTold seats two keeps k y e in
          apart k x here (sym kept.client ∙ same));
    }

-- Turns one after the other.

pub tells_nothing : (a : Mail) → TellsGiven 0 a a
tells_nothing a node = subst (λ (bit : ℕ). GrewIf (bit == 1) (given_to a node) (given_to a node)) (sym (bit_at-zero node)) refl

or_false : (t : Bool) → t ≡ (t || false)
or_false true = refl
or_false false = refl

or_more : (t u v : Bool) → ((t || u) || v) ≡ (t || (u || v))
or_more true u v = refl
or_more false u v = refl

pub adds_none : (told : Clients) (seats : List Seat) → AddsClients told told seats seats
adds_none told seats = record {
  each = λ k. alike_self (RingAdds told told) still seats k;
  others = λ client apart. refl;
}
  where
    still : (seat : Seat) → RingAdds told told seat seat
    still seat = record { client = refl; told = false; grew = refl; mark = or_false (has_mark told seat.client) }

pub adds_join : (before told more : Clients) (one two three : List Seat) → AddsClients before told one two → AddsClients told more two three
    → AddsClients before more one three
adds_join before told more one two three h k = record {
  each = each_join (RingAdds before told) (RingAdds told more) (RingAdds before more) ring_joined one two three h.each k.each;
  others = λ client apart.
      k.others client (λ place y e same.
      let (x, here, grew) = each_before (RingAdds before told) one two h.each place y e in
      apart place x here (sym grew.client ∙ same))
      ∙ h.others client apart;
}
  where
    ring_joined : (x y z : Seat) → RingAdds before told x y → RingAdds told more y z → RingAdds before more x z
    ring_joined x y z p q = record {
      client = q.client ∙ p.client;
      told = p.told || q.told;
      grew = grew_join p.told q.told (told_to x) (told_to y) (told_to z) p.grew q.grew;
      mark = subst (λ (client : ℕ). has_mark more client ≡ (has_mark told client || q.told)) p.client q.mark
          ∙ ap (λ (t : Bool). t || q.told) p.mark
          ∙ or_more (has_mark before x.client) p.told q.told;
    }

-- where none was marked before, these are those whose rings were given replies
pub adds_alone : (before told : Clients) (old new : List Seat) → ((client : ℕ) → has_mark before client ≡ false) → AddsClients before told old new
    → TellsClients told old new
adds_alone before told old new none h = record {
  each = alike_weaker (RingAdds before told) (RingGrew told) alone old new h.each;
  others = λ client apart. h.others client apart ∙ none client;
}
  where
    alone : (x y : Seat) → RingAdds before told x y → RingGrew told x y
    alone x y p = record {
      client = p.client;
      grew = subst (λ (t : Bool). GrewIf t (told_to x) (told_to y)) (sym (p.mark ∙ ap (λ (t : Bool). t || p.told) (none x.client))) p.grew;
    }

-- a seat that told its client, which is marked where its ring was given replies
pub answers_told : (log : List Logged) (before now : Clients) (a b : Seat) → TellsSeat log a b → GrewIf true (told_to a) (told_to b) → has_mark now a.client ≡ true
    → ((client : ℕ) → client ≢ a.client → has_mark now client ≡ has_mark before client) → AnswersSeat log before now a b
answers_told log before now a b tells grew own others = record {
  tells = tells;
  own = record { client = tells.on.rest.same.client; told = true; grew = grew; mark = own ∙ or_true (has_mark before a.client) };
  others = others;
}
  where
    or_true : (t : Bool) → true ≡ (t || true)
    or_true true = refl
    or_true false = refl

pub answers_none : (log : List Logged) (told : Clients) (a b : Seat) → TellsSeat log a b → GrewIf false (told_to a) (told_to b) → AnswersSeat log told told a b
answers_none log told a b tells same = record {
  tells = tells;
  own = record { client = tells.on.rest.same.client; told = false; grew = same; mark = or_false (has_mark told a.client) };
  others = λ client apart. refl;
}

-- What follows from each code where a node takes letters in.
use Rattle.std.proofs.Common.{◌≡◌, ◌≢◌, ◌≤◌, ◌⊎◌, inl, inr, ℕ, List, [], ◌++◌, Vec, length, take, refl, sym, ap, subst, arith, ◌∙◌, slice_get, append-nil}
use Rattle.std.specs.Global.{Global}
use Rattle.lt_modes.specs.State.{Letter}
use Rattle.lt_letters.specs.declared.fault.Fault.{Fault}
use Rattle.lt_apart.specs.declared.fault.WireFault.{WireFault}
use Rattle.lt_apart.specs.declared.fault.WireFault.TheVariants as faults
use Rattle.lt_apart.specs.Remote.{brought}
use Rattle.lt_apart.specs.Carrying.{wire_from, frames}
use Rattle.lt_apart.specs.Faults.{IsWireCause}
use Rattle.lt_live_c.specs.OwnNode.{OwnNode}
use Rattle.lt_live_c.specs.Nodes.{bytes_of, number_of_fault, ReceivesLetters, ReceiveEnds, HasMisfit, IsPeer, Receives}
use Rattle.lt_live_c.specs.NodeCalls.{WithPeer}
use Rattle.lt_live_c.specs.LettersTold.{ReceiveCall, AfterReceive, behind_used, TakesFrames, ReceivesTold}
use Rattle.lt_live_c.proofs.NodesOpened.{of_node, done, at_node}
use Rattle.lt_live_c.proofs.LettersOpened.{frames_empty}

abbrev Takes : ℕ → ReceiveCall → OwnNode → OwnNode → Type 0
Takes code call a b = Receives code call.from call.was call.used call.bytes a b

abbrev Letters : ReceiveCall → OwnNode → OwnNode → Type 0
Letters call a b = ReceivesLetters call.from call.used call.bytes a b

abbrev Ends : ℕ → ReceiveCall → OwnNode → OwnNode → Type 0
Ends code call a b = ReceiveEnds code call.from call.used call.bytes a b

receive_as : (code : ℕ) (Told : ReceiveCall → OwnNode → OwnNode → Type 0)
    → ((call : ReceiveCall) (a b : OwnNode) → WithPeer code call.from (Takes code call) a b → Told call a b) → AfterReceive code Told
receive_as code Told told call a new h = of_node code call.from (Takes code call) (Told call a) a new h (told call a)

came : (code : ℕ) (call : ReceiveCall) (a b : OwnNode) → TakesFrames code → WithPeer code call.from (Takes code call) a b
    → Letters call a b × Ends code call a b
came code call a b takes h = elim (done code call.from (Takes code call) a b takes.0 h) [
  | inl misfit ↦ absurd (takes.1 misfit.code_is)
  | inr letters ↦ letters
]

letters_as : (code : ℕ) → TakesFrames code → (Told : ReceiveCall → OwnNode → OwnNode → Type 0)
    → ((call : ReceiveCall) (a b : OwnNode) → Letters call a b → Told call a b) → AfterReceive code Told
letters_as code takes Told told = receive_as code Told (λ call a b h. told call a b (came code call a b takes h).0)

-- where no byte was used, no letter came
no_letter_came : (call : ReceiveCall) (a b : OwnNode) → Letters call a b → call.used ≡ 0
    → brought b.remote call.from ≡ brought a.remote call.from
no_letter_came call a b h none =
    let letters = h.brings.letters in
    let number = length (brought a.remote call.from) in
    let empty : frames a.remote.key (wire_from a.remote call.from) number letters ≡ [] = sym h.brings.bytes_are ∙ ap (λ (k : ℕ). take k call.bytes) none in
    h.brings.goes_on
    ∙ ap (λ (more : List Letter). brought a.remote call.from ++ more)
    (frames_empty a.remote.key (wire_from a.remote call.from) number letters (ap (λ (bytes : List ℕ). length bytes) empty))
    ∙ append-nil (brought a.remote call.from)

-- Why a frame was refused.

abbrev Cause : WireFault → ReceiveCall → OwnNode → OwnNode → Type 0
Cause fault call a b =
    IsWireCause a.remote.key (wire_from a.remote call.from) (brought b.remote call.from) fault (behind_used call)

refused_as : (code : ℕ) → code ≢ 0 → TakesFrames code → (Told : ReceiveCall → OwnNode → OwnNode → Type 0)
    → ((call : ReceiveCall) (a b : OwnNode) (fault : WireFault) → code ≡ number_of_fault fault → Cause fault call a b → Told call a b)
    → AfterReceive code Told
refused_as code some takes Told told = receive_as code Told (λ call a b h. elim ((came code call a b takes h).1) [
  | inl all ↦ absurd (some all.code_is)
  | inr refused ↦ told call a b refused.0 refused.1.0 refused.1.1
])

-- each code is that of one fault, but for two
only_code : (code : ℕ) (fault : WireFault) → code ≡ number_of_fault fault → (code ≡ 3) ⊎ ((40 ≤ code) × (code ≤ 48))
only_code code faults.Memory e = inl e
only_code code faults.TooLong e = inr (omega (arith, e), omega (arith, e))
only_code code faults.Version e = inr (omega (arith, e), omega (arith, e))
only_code code faults.Service e = inr (omega (arith, e), omega (arith, e))
only_code code faults.Sender e = inr (omega (arith, e), omega (arith, e))
only_code code faults.Receiver e = inr (omega (arith, e), omega (arith, e))
only_code code faults.Seal e = inr (omega (arith, e), omega (arith, e))
only_code code (faults.Letter fault) e = inr (omega (arith, e), omega (arith, e))
only_code code faults.Again e = inr (omega (arith, e), omega (arith, e))
only_code code faults.Missing e = inr (omega (arith, e), omega (arith, e))

module _ (call : ReceiveCall) (a b : OwnNode) where
  of_memory : (fault : WireFault) → 3 ≡ number_of_fault fault → Cause fault call a b → Cause faults.Memory call a b
  of_memory faults.Memory e h = h
  of_memory faults.TooLong e h = absurd (omega (arith, e))
  of_memory faults.Version e h = absurd (omega (arith, e))
  of_memory faults.Service e h = absurd (omega (arith, e))
  of_memory faults.Sender e h = absurd (omega (arith, e))
  of_memory faults.Receiver e h = absurd (omega (arith, e))
  of_memory faults.Seal e h = absurd (omega (arith, e))
  of_memory (faults.Letter fault) e h = absurd (omega (arith, e))
  of_memory faults.Again e h = absurd (omega (arith, e))
  of_memory faults.Missing e h = absurd (omega (arith, e))

  of_version : (fault : WireFault) → 40 ≡ number_of_fault fault → Cause fault call a b → Cause faults.Version call a b
  of_version faults.Memory e h = absurd (omega (arith, e))
  of_version faults.TooLong e h = absurd (omega (arith, e))
  of_version faults.Version e h = h
  of_version faults.Service e h = absurd (omega (arith, e))
  of_version faults.Sender e h = absurd (omega (arith, e))
  of_version faults.Receiver e h = absurd (omega (arith, e))
  of_version faults.Seal e h = absurd (omega (arith, e))
  of_version (faults.Letter fault) e h = absurd (omega (arith, e))
  of_version faults.Again e h = absurd (omega (arith, e))
  of_version faults.Missing e h = absurd (omega (arith, e))

  of_service : (fault : WireFault) → 41 ≡ number_of_fault fault → Cause fault call a b → Cause faults.Service call a b
  of_service faults.Memory e h = absurd (omega (arith, e))
  of_service faults.TooLong e h = absurd (omega (arith, e))
  of_service faults.Version e h = absurd (omega (arith, e))
  of_service faults.Service e h = h
  of_service faults.Sender e h = absurd (omega (arith, e))
  of_service faults.Receiver e h = absurd (omega (arith, e))
  of_service faults.Seal e h = absurd (omega (arith, e))
  of_service (faults.Letter fault) e h = absurd (omega (arith, e))
  of_service faults.Again e h = absurd (omega (arith, e))
  of_service faults.Missing e h = absurd (omega (arith, e))

  of_missing : (fault : WireFault) → 43 ≡ number_of_fault fault → Cause fault call a b → Cause faults.Missing call a b
  of_missing faults.Memory e h = absurd (omega (arith, e))
  of_missing faults.TooLong e h = absurd (omega (arith, e))
  of_missing faults.Version e h = absurd (omega (arith, e))
  of_missing faults.Service e h = absurd (omega (arith, e))
  of_missing faults.Sender e h = absurd (omega (arith, e))
  of_missing faults.Receiver e h = absurd (omega (arith, e))
  of_missing faults.Seal e h = absurd (omega (arith, e))
  of_missing (faults.Letter fault) e h = absurd (omega (arith, e))
  of_missing faults.Again e h = absurd (omega (arith, e))
  of_missing faults.Missing e h = h

  of_again : (fault : WireFault) → 44 ≡ number_of_fault fault → Cause fault call a b → Cause faults.Again call a b
  of_again faults.Memory e h = absurd (omega (arith, e))
  of_again faults.TooLong e h = absurd (omega (arith, e))
  of_again faults.Version e h = absurd (omega (arith, e))
  of_again faults.Service e h = absurd (omega (arith, e))
  of_again faults.Sender e h = absurd (omega (arith, e))
  of_again faults.Receiver e h = absurd (omega (arith, e))
  of_again faults.Seal e h = absurd (omega (arith, e))
  of_again (faults.Letter fault) e h = absurd (omega (arith, e))
  of_again faults.Again e h = h
  of_again faults.Missing e h = absurd (omega (arith, e))

  of_too_long : (fault : WireFault) → 45 ≡ number_of_fault fault → Cause fault call a b → Cause faults.TooLong call a b
  of_too_long faults.Memory e h = absurd (omega (arith, e))
  of_too_long faults.TooLong e h = h
  of_too_long faults.Version e h = absurd (omega (arith, e))
  of_too_long faults.Service e h = absurd (omega (arith, e))
  of_too_long faults.Sender e h = absurd (omega (arith, e))
  of_too_long faults.Receiver e h = absurd (omega (arith, e))
  of_too_long faults.Seal e h = absurd (omega (arith, e))
  of_too_long (faults.Letter fault) e h = absurd (omega (arith, e))
  of_too_long faults.Again e h = absurd (omega (arith, e))
  of_too_long faults.Missing e h = absurd (omega (arith, e))

  of_seal : (fault : WireFault) → 46 ≡ number_of_fault fault → Cause fault call a b → Cause faults.Seal call a b
  of_seal faults.Memory e h = absurd (omega (arith, e))
  of_seal faults.TooLong e h = absurd (omega (arith, e))
  of_seal faults.Version e h = absurd (omega (arith, e))
  of_seal faults.Service e h = absurd (omega (arith, e))
  of_seal faults.Sender e h = absurd (omega (arith, e))
  of_seal faults.Receiver e h = absurd (omega (arith, e))
  of_seal faults.Seal e h = h
  of_seal (faults.Letter fault) e h = absurd (omega (arith, e))
  of_seal faults.Again e h = absurd (omega (arith, e))
  of_seal faults.Missing e h = absurd (omega (arith, e))

  of_node_number : (fault : WireFault) → 42 ≡ number_of_fault fault → Cause fault call a b → Cause faults.Sender call a b ⊎ Cause faults.Receiver call a b
  of_node_number faults.Memory e h = absurd (omega (arith, e))
  of_node_number faults.TooLong e h = absurd (omega (arith, e))
  of_node_number faults.Version e h = absurd (omega (arith, e))
  of_node_number faults.Service e h = absurd (omega (arith, e))
  of_node_number faults.Sender e h = inl h
  of_node_number faults.Receiver e h = inr h
  of_node_number faults.Seal e h = absurd (omega (arith, e))
  of_node_number (faults.Letter fault) e h = absurd (omega (arith, e))
  of_node_number faults.Again e h = absurd (omega (arith, e))
  of_node_number faults.Missing e h = absurd (omega (arith, e))

  of_no_letter : (fault : WireFault) → 47 ≡ number_of_fault fault → Cause fault call a b → (why : Fault) × Cause (faults.Letter why) call a b
  of_no_letter faults.Memory e h = absurd (omega (arith, e))
  of_no_letter faults.TooLong e h = absurd (omega (arith, e))
  of_no_letter faults.Version e h = absurd (omega (arith, e))
  of_no_letter faults.Service e h = absurd (omega (arith, e))
  of_no_letter faults.Sender e h = absurd (omega (arith, e))
  of_no_letter faults.Receiver e h = absurd (omega (arith, e))
  of_no_letter faults.Seal e h = absurd (omega (arith, e))
  of_no_letter (faults.Letter why) e h = (why, h)
  of_no_letter faults.Again e h = absurd (omega (arith, e))
  of_no_letter faults.Missing e h = absurd (omega (arith, e))

-- whatever the code, letters came in, or nothing happened
receive_any : (code : ℕ) (Told : ReceiveCall → OwnNode → OwnNode → Type 0) → ((call : ReceiveCall) (a b : OwnNode) → Letters call a b → Told call a b)
    → ((call : ReceiveCall) (a : OwnNode) → Told call a a) → AfterReceive code Told
receive_any code Told told same = receive_as code Told by_case
  where
    stays : (call : ReceiveCall) (a b : OwnNode) → b ≡ a → Told call a b
    stays call a b e = subst (λ (n : OwnNode). Told call a n) (sym e) (same call a)

    by_case : (call : ReceiveCall) (a b : OwnNode) → WithPeer code call.from (Takes code call) a b → Told call a b
    by_case call a b (inl does) = elim does.1 [
      | inl misfit ↦ stays call a b misfit.stays.0
      | inr letters ↦ told call a b letters.0
    ]
    by_case call a b (inr none) = stays call a b none.1.1

-- 48 is the code of a letter that fits no node
in_misfit : (call : ReceiveCall) (a b : OwnNode) → WithPeer 48 call.from (Takes 48 call) a b → HasMisfit 48 call.was call.used a b
in_misfit call a b h = elim (done 48 call.from (Takes 48 call) a b (λ e. omega (arith, e)) h) [
  | inl misfit ↦ misfit
  | inr letters ↦ absurd (elim letters.1 [
    | inl all ↦ omega (arith, all.code_is)
    | inr refused ↦ never refused.0 refused.1.0
  ])
]
  where
    never : (fault : WireFault) → 48 ≡ number_of_fault fault → ⊥
    never faults.Memory e = omega (arith, e)
    never faults.TooLong e = omega (arith, e)
    never faults.Version e = omega (arith, e)
    never faults.Service e = omega (arith, e)
    never faults.Sender e = omega (arith, e)
    never faults.Receiver e = omega (arith, e)
    never faults.Seal e = omega (arith, e)
    never (faults.Letter fault) e = omega (arith, e)
    never faults.Again e = omega (arith, e)
    never faults.Missing e = omega (arith, e)

-- 4 is that of a number which is no other node's
in_no_peer : (call : ReceiveCall) (a b : OwnNode) → WithPeer 4 call.from (Takes 4 call) a b
    → (IsPeer a call.from → ⊥) × (b ≡ a)
in_no_peer call a b h = elim h [
  | inl does ↦ absurd (elim does.1 [
    | inl misfit ↦ omega (arith, misfit.code_is)
    | inr letters ↦ elim letters.1 [
      | inl all ↦ omega (arith, all.code_is)
      | inr refused ↦ elim (only_code 4 refused.0 refused.1.0) [ inl e ↦ omega (arith, e) | inr e ↦ omega (arith, e.0) ]
    ]
  ])
  | inr none ↦ none.1
]

takes : (code : ℕ) → (code ≡ 4 → ⊥) → (code ≡ 48 → ⊥) → TakesFrames code
takes code peer misfit = (peer, misfit)

pub receives_told : ReceivesTold
receives_told = record {
  within = λ code takes. letters_as code takes _ (λ call a b h. h.brings.within);
  fits = λ code takes. letters_as code takes _ (λ call a b h. h.fits);
  came_in = λ code takes. letters_as code takes _ (λ call a b h. (h.brings.letters, h.brings.goes_on, h.brings.bytes_are));
  none_came = λ code takes. letters_as code takes _ no_letter_came;
  waits = receive_as 0 _ (λ call a b h. elim ((came 0 call a b (takes 0 (λ e. omega (arith, e)) (λ e. omega (arith, e))) h).1) [
    | inl all ↦ all.rest
    | inr refused ↦ absurd (elim (only_code 0 refused.0 refused.1.0) [ inl e ↦ omega (arith, e) | inr e ↦ omega (arith, e.0) ])
  ]);
  memory = refused_as 3 (λ e. omega (arith, e)) (takes 3 (λ e. omega (arith, e)) (λ e. omega (arith, e))) _ of_memory;
  other_version = refused_as 40 (λ e. omega (arith, e)) (takes 40 (λ e. omega (arith, e)) (λ e. omega (arith, e))) _ of_version;
  other_service = refused_as 41 (λ e. omega (arith, e)) (takes 41 (λ e. omega (arith, e)) (λ e. omega (arith, e))) _ of_service;
  other_node = refused_as 42 (λ e. omega (arith, e)) (takes 42 (λ e. omega (arith, e)) (λ e. omega (arith, e))) _ of_node_number;
  missing = refused_as 43 (λ e. omega (arith, e)) (takes 43 (λ e. omega (arith, e)) (λ e. omega (arith, e))) _ of_missing;
  again = refused_as 44 (λ e. omega (arith, e)) (takes 44 (λ e. omega (arith, e)) (λ e. omega (arith, e))) _ of_again;
  long = refused_as 45 (λ e. omega (arith, e)) (takes 45 (λ e. omega (arith, e)) (λ e. omega (arith, e))) _ of_too_long;
  bad_seal = refused_as 46 (λ e. omega (arith, e)) (takes 46 (λ e. omega (arith, e)) (λ e. omega (arith, e))) _ of_seal;
  no_letter = refused_as 47 (λ e. omega (arith, e)) (takes 47 (λ e. omega (arith, e)) (λ e. omega (arith, e))) _ of_no_letter;
  misfit = receive_as 48 _ (λ call a b h. (in_misfit call a b h).misfits);
  misfit_same = receive_as 48 _ (λ call a b h. (in_misfit call a b h).stays.0);
  misfit_used = receive_as 48 _ (λ call a b h. (in_misfit call a b h).stays.1);
  no_peer = receive_as 4 _ (λ call a b h below apart. (in_no_peer call a b h).0 (below, apart));
  same = receive_as 4 _ (λ call a b h. (in_no_peer call a b h).1);
  station_stays = λ code. receive_any code _ (λ call a b h. h.same.2) (λ call a. refl);
  given_stays = λ code. receive_any code _ (λ call a b h. h.only.given_stays) (λ call a node. refl);
  others_brought = λ code. receive_any code _ (λ call a b h. h.only.others) (λ call a node apart. refl);
  unsent_stays = λ code. receive_any code _
      (λ call a b h node. ap (λ (ready : List (Vec ℕ Global)). bytes_of (slice_get ready node)) h.ready) (λ call a node. refl);
  sessions_stay = λ code. receive_any code _ (λ call a b h. h.sessions) (λ call a. refl);
  others = λ call. at_node call.from (λ code. Takes code call);
  only = λ code. receive_as code _ (λ call a b h. elim h [
    | inl does ↦ elim does.1 [
      | inl misfit ↦ inr (inr (inr (omega (arith, misfit.code_is), omega (arith, misfit.code_is))))
      | inr letters ↦ elim letters.1 [
        | inl all ↦ inl all.code_is
        | inr refused ↦ elim (only_code code refused.0 refused.1.0) [ inl e ↦ inr (inl e) | inr e ↦ inr (inr (inr e)) ]
      ]
    ]
    | inr none ↦ inr (inr (inl none.0))
  ]);
}

-- One service and then the rest is all services: the count of steps is seen nowhere else.
use Rattle.std.proofs.Common.{◌≡◌, ℕ, zero, suc, ◌<◌, List, length, Option, Some, None, Bool, true, false, refl, sym, subst, arith, remove, ◌==◌, if◌then◌else◌}
use Rattle.std.proofs.lemmas.List.Edits.{length-remove}
use Rattle.lt_modes.specs.declared.stamp.Stamp.{Stamp}
use Rattle.lt_modes.specs.declared.ask.Ask.{Ask}
use Rattle.lt_modes.specs.State.{SetState, Desk, silent}
use Rattle.lt_modes.specs.Serving.{queue_of, queue_of_desk, put_queue, owed_at, ask_at, next_service, serve_local, serve_copy, serve_one, serve, serve_step, serve_up_to}

queue-put : (queue : List Ask) (desk : Option Desk) (k : ℕ) → k < length (queue_of_desk desk) → queue_of_desk (put_queue queue desk) ≡ queue
queue-put queue None k h = absurd (omega arith)
queue-put queue (Some desk) k h = refl

queue-owed_at : (ask : Ask) (k : ℕ) (desk : Option Desk) → k < length (queue_of_desk desk) → queue_of_desk (owed_at ask k desk) ≡ remove (queue_of_desk desk) k
queue-owed_at ask k None h = absurd (omega arith)
queue-owed_at ask k (Some desk) h = refl

queue_by : (here : Bool) (set : ℕ) (stamp : Stamp) (k : ℕ) (s : SetState) → k < length (queue_of s)
    → queue_of (if here then serve_local set k s else serve_copy set stamp k (ask_at s k) s).state ≡ remove (queue_of s) k
queue_by true set stamp k s h = queue-put (remove (queue_of s) k) s.desk k h
queue_by false set stamp k s h = queue-owed_at (ask_at s k) k s.desk h

-- a service takes the ask at its place out of the queue
pub queue_of-serve_one : (set : ℕ) (stamp : Stamp) (k : ℕ) (s : SetState) → k < length (queue_of s)
    → queue_of (serve_one set stamp k s).state ≡ remove (queue_of s) k
queue_of-serve_one set stamp k s h = queue_by ((ask_at s k).node == stamp.node) set stamp k s h

-- and makes it shorter by one
pub length-serve_one : (set : ℕ) (stamp : Stamp) (k : ℕ) (s : SetState) → k < length (queue_of s)
    → length (queue_of s) ≡ suc (length (queue_of (serve_one set stamp k s).state))
length-serve_one set stamp k s h =
    rw (queue_of-serve_one set stamp k s h) (omega (arith, length-remove (queue_of s) k h))

pub serve_more : (set : ℕ) (stamp : Stamp) (s : SetState) (k : ℕ) → next_service stamp.node s ≡ Some k → k < length (queue_of s)
    → serve set stamp s ≡ serve_step set stamp (serve set stamp) s (Some k)
serve_more set stamp s k e h =
    subst (λ (n : ℕ). serve_up_to n set stamp s ≡ serve_step set stamp (serve set stamp) s (Some k)) (sym (length-serve_one set stamp k s h))
    (rw e refl)

serve_none_up_to : (n set : ℕ) (stamp : Stamp) (s : SetState) → next_service stamp.node s ≡ None → serve_up_to n set stamp s ≡ silent s
serve_none_up_to zero set stamp s e = refl
serve_none_up_to (suc n) set stamp s e = rw e refl

pub serve_none : (set : ℕ) (stamp : Stamp) (s : SetState) → next_service stamp.node s ≡ None → serve set stamp s ≡ silent s
serve_none set stamp s e = serve_none_up_to (length (queue_of s)) set stamp s e

use Rattle.std.proofs.Common.{ℕ, ◌≤◌, ◌-◌, ◌++◌, ◌∙◌, List, length, min, ap, arith}
use Rattle.lt_checker.proofs.Pieces.{kept_room}
use Rattle.lt_checker.proofs.checker.keep.Goals as goal

pub returns-clause-kept : goal.returns-clause-kept
returns-clause-kept c =
    let rest = c.args.rest.now.items in
    let bytes = c.args.bytes.now in
    let few : length rest ≤ 201 = omega (arith, c.len-room.ensures.value, c.len-room.ensures.fits) in
    c.in-Ok.ensures.ok
    ∙ (ap (λ (t : List ℕ). rest ++ t) c.split_at.ensures.front
    ∙ kept_room rest bytes c.min.result few (c.min.ensures ∙ ap (λ (k : ℕ). min (length bytes) (201 - k)) c.len-room.ensures.value))

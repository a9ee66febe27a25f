use Rattle.std.proofs.Common.{rules, ◌≡◌, ◌≤◌, ◌<◌, ◌+◌, ◌++◌, ℕ, ap, ◌∙◌, arith, length, take, drop}
use Rattle.std.specs.Prelude.{replicate, vec_capacity}
use Rattle.lt_desk.specs.LetterSeen.{letter_seen}
use Rattle.lt_letters.specs.Spelling.{letter_bytes}
use Rattle.lt_frames.specs.declared.frame.TheConstants.{VERSION}
use Rattle.lt_frames.specs.Sealing.{seal_of}
use Rattle.lt_frames.specs.Frames.{Numbered, head_bytes, head_of}
use Rattle.lt_frames.specs.Seen.{frame_of}
use Rattle.lt_frames.proofs.FrameText.{letter_size, frame_text, no_room}
use Rattle.lt_frames.proofs.writing.put_frame.Goals as goal

pub returns-in_err-put_seal-clause-memory : goal.returns-in_err-put_seal-clause-memory
returns-in_err-put_seal-clause-memory c = λ e.
    let f : Numbered = frame_of c.args.wire c.args.number (letter_seen c.args.letter.now) in
    let out = c.args.out.now.items in
    let two = c.put_letter.new.out.items in
    let three = c.put_over.new.out.items in
    let is : two ≡ out ++ (replicate 23 0 ++ letter_bytes f.letter) = search rules in
    let size : length c.head_array.result ≡ 23 = search rules in
    let over : three ≡ take (length out) two ++ (c.head_array.result ++ drop 23 (drop (length out) two)) = search rules in
    let room : vec_capacity c.args.out.now ≤ vec_capacity c.put_letter.new.out = search rules in
    let full : vec_capacity c.put_over.new.out < length three + length (seal_of c.args.key.now (drop (length out) three)) = search rules in
    no_room c.args.key.now f out two three c.head_array.result _ _ _ is size over room c.put_over.ensures.room full

pub returns-clause-written : goal.returns-clause-written
returns-clause-written c =
    let f : Numbered = frame_of c.args.wire c.args.number (letter_seen c.args.letter.now) in
    let out = c.args.out.now.items in
    let two = c.put_letter.new.out.items in
    let three = c.put_over.new.out.items in
    let is : two ≡ out ++ (replicate 23 0 ++ letter_bytes f.letter) = search rules in
    let all : length two ≡ length out + (23 + length (letter_bytes f.letter)) = letter_size out (letter_bytes f.letter) two is in
    let same : c.head_array.result ≡ head_bytes (head_of f) =
    c.head_array.ensures ∙ ap (λ (n : ℕ). head_bytes (record { length = n; version = VERSION; wire = c.args.wire; number = c.args.number })) (omega (arith, all, c.len.ensures, c.len-start.ensures, c.if-length.false)) in
    let over : three ≡ take (length out) two ++ (c.head_array.result ++ drop 23 (drop (length out) two)) = search rules in
    let there : c.put_seal.new.out.items ≡ three ++ seal_of c.args.key.now (drop (length out) three) = search rules in
    frame_text c.args.key.now f out two three c.put_seal.new.out.items c.head_array.result is same over there

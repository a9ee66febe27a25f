-- A single letter that waits goes into its ring, or stays.
use Rattle.std.proofs.Common.{◌≡◌, refl, ℕ, Bool, true, false, ◌<◌, List, [], ◌∷◌, ◌++◌, length, set, Option, sym, ◌∙◌, replicate}
use Rattle.std.proofs.lemmas.Bool.{false≢true}
use Rattle.lt_desk.specs.declared.letter.Post.{Post}
use Rattle.lt_mail.specs.declared.lane.OutEnd.{OutEnd}
use Rattle.lt_mail.specs.Passing.{is_tried, EndChanges, Looks, GivesOne, IsFullEnd, Passing, Passed}
use Rattle.lt_mail.proofs.PassLemmas.{first_passed, none_marked, left_one, kept_one, gave_one}
use Rattle.lt_mail.proofs.FlushLemmas.{all_passed}

abbrev none_held : List Bool
none_held = replicate 256 false

-- it was not looked at yet
at_first : (only : Option ℕ) (outs : List OutEnd) (waiting : List Post) → length waiting ≡ 1 → Passing only outs waiting outs waiting none_held 1
at_first only outs waiting one = first_passed only outs waiting none_held 1 refl one

-- it is to another node than that which is tried
pub one_left : (only : Option ℕ) (outs : List OutEnd) (waiting rest next : List Post) (post : Post) → length waiting ≡ 1
    → waiting ≡ post ∷ rest → next ≡ rest ++ post ∷ [] → is_tried only post.to ≡ false → Passed only outs waiting outs next
one_left only outs waiting rest next post one first last untried =
    all_passed only outs waiting outs next none_held 0
    (left_one only outs waiting outs waiting rest next none_held 1 0 post (at_first only outs waiting one) refl first last untried) refl

-- its ring has no place
pub one_kept : (only : Option ℕ) (outs : List OutEnd) (waiting : List Post) (ys : List OutEnd) (rest next : List Post) (to : ℕ) (post : Post)
    → length waiting ≡ 1 → waiting ≡ post ∷ rest → next ≡ rest ++ post ∷ [] → to ≡ post.to → to < 256 → is_tried only post.to ≡ true
    → EndChanges Looks outs ys to → IsFullEnd ys to → Passed only outs waiting ys next
one_kept only outs waiting ys rest next to post one first last at below tried looks full =
    all_passed only outs waiting ys next (set none_held to true) 0
    (kept_one only outs waiting outs ys waiting rest next none_held (set none_held to true) 1 0 to post (at_first only outs waiting one) refl
    first last at below tried looks (λ marked. absurd (false≢true (sym (none_marked 256 to) ∙ marked))) (λ _. full) refl) refl

-- its ring gets it
pub one_gave : (only : Option ℕ) (outs : List OutEnd) (waiting : List Post) (ls zs : List OutEnd) (rest : List Post) (to : ℕ) (post : Post)
    → length waiting ≡ 1 → waiting ≡ post ∷ rest → to ≡ post.to → is_tried only post.to ≡ true → EndChanges Looks outs ls to
    → EndChanges (GivesOne post.letter) ls zs to → Passed only outs waiting zs rest
one_gave only outs waiting ls zs rest to post one first at tried looks gives =
    all_passed only outs waiting zs rest none_held 0
    (gave_one only outs waiting outs ls zs waiting rest none_held 1 0 to post (at_first only outs waiting one) refl first at tried
    (none_marked 256 to) looks gives) refl

-- Letters go from the list of those that wait into the rings, one after the other.
use Rattle.std.proofs.Common.{◌≡◌, ◌≢◌, refl, ap, ℕ, Bool, true, false, ◌+◌, ◌<◌, inl, inr, List, [], ◌∷◌, ◌++◌, length, set, Option, Some, None, sym, subst, arith, ◌∙◌, append-nil, append_assoc, length-set, get_or-set_same, get_or-set_other, zero, suc, slice_get, replicate, eq-eqb, ne_eqb}
use Rattle.std.proofs.lemmas.List.{length-replicate, length_push}
use Rattle.std.proofs.lemmas.Bool.{cases_eq, false≢true}
use Rattle.std.proofs.lemmas.List.Elements.{filter_map-append}
use Rattle.rtrb.specs.Ring.{sent}
use Rattle.lt_desk.specs.declared.letter.Letter.{Letter}
use Rattle.lt_desk.specs.declared.letter.Post.{Post}
use Rattle.lt_mail.specs.declared.lane.OutEnd.{OutEnd}
use Rattle.lt_mail.specs.Words.{OutLane, letter_to, letters_to, lane_of, lane_in, Alike}
use Rattle.lt_mail.specs.Passing.{is_tried, is_held, EndChanges, Looks, GivesOne, IsFullEnd, EndIsFull, LaneGoes, LaneAt, Passing}

-- the letters to a node, where the first one is for it, or isn't
pub first_here : (node : ℕ) (post : Post) (posts : List Post) → post.to ≡ node → letters_to node (post ∷ posts) ≡ post.letter ∷ letters_to node posts
first_here node post posts e = rw (eq-eqb post.to node e) refl

pub first_other : (node : ℕ) (post : Post) (posts : List Post) → post.to ≢ node → letters_to node (post ∷ posts) ≡ letters_to node posts
first_other node post posts e = rw (ne_eqb post.to node e) refl

pub last_here : (node : ℕ) (posts : List Post) (post : Post) → post.to ≡ node → letters_to node (posts ++ post ∷ []) ≡ letters_to node posts ++ post.letter ∷ []
last_here node posts post e = filter_map-append (letter_to node) posts (post ∷ []) ∙ ap (λ (l : List Letter). letters_to node posts ++ l) (first_here node post [] e)

pub last_other : (node : ℕ) (posts : List Post) (post : Post) → post.to ≢ node → letters_to node (posts ++ post ∷ []) ≡ letters_to node posts
last_other node posts post e =
    filter_map-append (letter_to node) posts (post ∷ []) ∙ (ap (λ (l : List Letter). letters_to node posts ++ l) (first_other node post [] e) ∙ append-nil (letters_to node posts))

-- no letter was looked at
pub none_passed : (only : Option ℕ) (outs : List OutEnd) (waiting : List Post) (held : List Bool) (left : ℕ) → length held ≡ 256
    → ((node : ℕ) → is_held held node ≡ false) → length waiting ≡ left → Passing only outs waiting outs waiting held left
none_passed only outs waiting held left marks free len = record {
  rest = waiting;
  kept = [];
  items = sym (append-nil waiting);
  rest_len = len;
  count = refl;
  marks = marks;
  lanes = λ node. by_end node (slice_get outs node);
}
  where
    by_end : (node : ℕ) (o : Option OutEnd) → LaneAt (LaneGoes (is_tried only node) (is_held held node) (letters_to node waiting) []) (lane_of (letters_to node waiting) o) o
    by_end node None = tt
    by_end node (Some end) = record {
      ring = ((refl, refl, refl, refl), refl);
      all = refl;
      grew = ([], append-nil (sent end.ring));
      places = omega arith;
      free = λ _ _. refl;
      full = λ marked. absurd (false≢true (sym (free node) ∙ marked));
      same = λ _. (refl, refl);
    }

pub none_marked : (n node : ℕ) → is_held (replicate n false) node ≡ false
none_marked zero node = refl
none_marked (suc n) zero = refl
none_marked (suc n) (suc node) = none_marked n node

-- no node is held back at first
pub first_passed : (only : Option ℕ) (outs : List OutEnd) (waiting : List Post) (held : List Bool) (left : ℕ) → held ≡ replicate 256 false
    → length waiting ≡ left → Passing only outs waiting outs waiting held left
first_passed only outs waiting held left marks len =
    subst (λ (bits : List Bool). Passing only outs waiting outs waiting bits left) (sym marks)
    (none_passed only outs waiting (replicate 256 false) left (length-replicate 256 false) (none_marked 256) len)

-- the letter that is looked at next
record Next (rest kept : List Post) (post : Post) (others : List Post) : Type 0 where
  more : List Post
  is : rest ≡ post ∷ more
  left : others ≡ more ++ kept

next_post : (rest kept others : List Post) (post : Post) → 0 < length rest → rest ++ kept ≡ post ∷ others → Next rest kept post others
next_post [] kept others post some e = absurd (omega (arith, some))
next_post (p ∷ more) kept others post some e = record { more = more; is = ap (λ (x : Post). x ∷ more) same_first; left = sym same_rest }
  where
    same_first : p ≡ post
    same_first = cc

    same_rest : more ++ kept ≡ others
    same_rest = cc

lane_as : (t b c : Bool) (r s k l : List Letter) (x : Option OutLane) (y z : Option OutEnd) → c ≡ b → s ≡ r → l ≡ k → z ≡ y
    → LaneAt (LaneGoes t b r k) x y → LaneAt (LaneGoes t c s l) x z
lane_as t b c r s k l x y z eb er ek ey h =
    subst (λ (o : Option OutEnd). LaneAt (LaneGoes t c s l) x o) (sym ey)
    (subst (λ (letters : List Letter). LaneAt (LaneGoes t c s letters) x y) (sym ek)
    (subst (λ (letters : List Letter). LaneAt (LaneGoes t c letters k) x y) (sym er)
    (subst (λ (bit : Bool). LaneAt (LaneGoes t bit r k) x y) (sym eb) h)))

-- one letter is looked at, and where it stays it is put at the end
step : (only : Option ℕ) (outs : List OutEnd) (waiting : List Post) (ys zs : List OutEnd) (now others next tail : List Post) (held marked : List Bool)
    (left n : ℕ) (post : Post) (h : Passing only outs waiting ys now held left) → n + 1 ≡ left → now ≡ post ∷ others → next ≡ others ++ tail
    → length zs ≡ length ys → length marked ≡ 256
    → ((node : ℕ) → node ≢ post.to → slice_get zs node ≡ slice_get ys node)
    → ((node : ℕ) → node ≢ post.to → is_held marked node ≡ is_held held node)
    → ((node : ℕ) → node ≢ post.to → letters_to node (h.kept ++ tail) ≡ letters_to node h.kept)
    → ((more : List Post) → LaneAt (LaneGoes (is_tried only post.to) (is_held held post.to) (post.letter ∷ letters_to post.to more) (letters_to post.to h.kept))
    (lane_in outs waiting post.to) (slice_get ys post.to)
    → LaneAt (LaneGoes (is_tried only post.to) (is_held marked post.to) (letters_to post.to more) (letters_to post.to (h.kept ++ tail)))
    (lane_in outs waiting post.to) (slice_get zs post.to))
    → Passing only outs waiting zs next marked n
step only outs waiting ys zs now others next tail held marked left n post h one first last count marks ends holds letters lane = record {
  rest = at.more;
  kept = h.kept ++ tail;
  items = last ∙ (ap (λ (posts : List Post). posts ++ tail) at.left ∙ append_assoc at.more h.kept tail);
  rest_len = omega (arith, one, h.rest_len, ap (λ (posts : List Post). length posts) at.is);
  count = count ∙ h.count;
  marks = marks;
  lanes = λ node. elim (cases_eq node post.to) [
    | inl e ↦ subst (λ (k : ℕ). LaneAt (LaneGoes (is_tried only k) (is_held marked k) (letters_to k at.more) (letters_to k (h.kept ++ tail))) (lane_in outs waiting k) (slice_get zs k))
        (sym e) here
    | inr apart ↦ lane_as (is_tried only node) (is_held held node) (is_held marked node) (letters_to node h.rest) (letters_to node at.more)
        (letters_to node h.kept) (letters_to node (h.kept ++ tail)) (lane_in outs waiting node) (slice_get ys node) (slice_get zs node) (holds node apart)
        (sym (ap (λ (posts : List Post). letters_to node posts) at.is ∙ first_other node post at.more (λ e. apart (sym e))))
        (letters node apart) (ends node apart) (h.lanes node)
  ];
}
  where
    at : Next h.rest h.kept post others
    at = next_post h.rest h.kept others post (omega (arith, one, h.rest_len)) (sym h.items ∙ first)

    here : LaneAt (LaneGoes (is_tried only post.to) (is_held marked post.to) (letters_to post.to at.more) (letters_to post.to (h.kept ++ tail)))
        (lane_in outs waiting post.to) (slice_get zs post.to)
    here = lane at.more (subst (λ (letters : List Letter). LaneAt (LaneGoes (is_tried only post.to) (is_held held post.to) letters (letters_to post.to h.kept))
        (lane_in outs waiting post.to) (slice_get ys post.to)) (ap (λ (posts : List Post). letters_to post.to posts) at.is ∙ first_here post.to post at.more refl) (h.lanes post.to))

some_same : {X : Type 0} (x y : X) → Some x ≡ Some y → x ≡ y
some_same x y e = cc

-- the letter stays
lane_kept : (t b c : Bool) (letter : Letter) (r k : List Letter) (x : Option OutLane) (y z : Option OutEnd) → Alike Looks y z → (c ≡ true → EndIsFull z)
    → (t ≡ false → z ≡ y) → (t ≡ true → c ≡ true) → LaneAt (LaneGoes t b (letter ∷ r) k) x y → LaneAt (LaneGoes t c r (k ++ letter ∷ [])) x z
lane_kept t b c letter r k None None None looks full same mark h = tt
lane_kept t b c letter r k None None (Some z) looks full same mark h = looks
lane_kept t b c letter r k None (Some y) z looks full same mark h = absurd h
lane_kept t b c letter r k (Some x) None z looks full same mark h = absurd h
lane_kept t b c letter r k (Some x) (Some y) None looks full same mark h = looks
lane_kept t b c letter r k (Some x) (Some y) (Some z) looks full same mark h = record {
  ring = ((looks.0.0.0 ∙ h.ring.0.0, looks.0.0.1 ∙ h.ring.0.1, looks.0.0.2 ∙ h.ring.0.2, looks.0.0.3 ∙ h.ring.0.3), looks.0.1 ∙ h.ring.1);
  all = ap (λ (letters : List Letter). letters ++ ((k ++ letter ∷ []) ++ r)) looks.1
      ∙ (ap (λ (letters : List Letter). sent y.ring ++ letters) (append_assoc k (letter ∷ []) r) ∙ h.all);
  grew = (h.grew.0, h.grew.1 ∙ sym looks.1);
  places = omega (arith, h.places, looks.2, ap (λ (letters : List Letter). length letters) looks.1);
  free = λ tried free. absurd (false≢true (sym free ∙ mark tried));
  full = λ marked. full marked;
  same = λ untried. (some_same z y (same untried) ∙ (h.same untried).0, append_assoc k (letter ∷ []) r ∙ (h.same untried).1);
}

-- the ring gets it
lane_gave : (t : Bool) (letter : Letter) (r k : List Letter) (x : Option OutLane) (y z : Option OutEnd) → t ≡ true → Alike (GivesOne letter) y z
    → LaneAt (LaneGoes t false (letter ∷ r) k) x y → LaneAt (LaneGoes t false r k) x z
lane_gave t letter r k None None None tried gives h = tt
lane_gave t letter r k None None (Some z) tried gives h = gives
lane_gave t letter r k None (Some y) z tried gives h = absurd h
lane_gave t letter r k (Some x) None z tried gives h = absurd h
lane_gave t letter r k (Some x) (Some y) None tried gives h = gives
lane_gave t letter r k (Some x) (Some y) (Some z) tried gives h = record {
  ring = ((gives.0.0.0 ∙ h.ring.0.0, gives.0.0.1 ∙ h.ring.0.1, gives.0.0.2 ∙ h.ring.0.2, gives.0.0.3 ∙ h.ring.0.3), gives.0.1 ∙ h.ring.1);
  all = ap (λ (letters : List Letter). letters ++ (k ++ r)) gives.1
      ∙ (append_assoc (sent y.ring) (letter ∷ []) (k ++ r)
      ∙ (ap (λ (kept : List Letter). sent y.ring ++ letter ∷ (kept ++ r)) none
      ∙ (sym (ap (λ (kept : List Letter). sent y.ring ++ (kept ++ letter ∷ r)) none) ∙ h.all)));
  grew = (
    h.grew.0 ++ letter ∷ [],
    sym (append_assoc (sent x.end.ring) h.grew.0 (letter ∷ []))
        ∙ (ap (λ (letters : List Letter). letters ++ letter ∷ []) h.grew.1 ∙ sym gives.1),
  );
  places = omega (arith, h.places, gives.2, ap (λ (letters : List Letter). length letters) gives.1, length_push (sent y.ring) letter);
  free = λ _ _. none;
  full = λ marked. absurd (false≢true marked);
  same = λ untried. absurd (false≢true (sym untried ∙ tried));
}
  where
    none : k ≡ []
    none = h.free tried refl

lane_full : (t b : Bool) (r k : List Letter) (x : Option OutLane) (y : Option OutEnd) → LaneAt (LaneGoes t b r k) x y → b ≡ true → EndIsFull y
lane_full t b r k None None h marked = tt
lane_full t b r k None (Some y) h marked = absurd h
lane_full t b r k (Some x) None h marked = absurd h
lane_full t b r k (Some x) (Some y) h marked = h.full marked

looks_itself : (o : Option OutEnd) → Alike Looks o o
looks_itself None = tt
looks_itself (Some end) = (((refl, refl, refl, refl), refl), refl, omega arith)

-- a letter to another node stays
pub left_one : (only : Option ℕ) (outs : List OutEnd) (waiting : List Post) (ys : List OutEnd) (now others next : List Post) (held : List Bool)
    (left n : ℕ) (post : Post) → Passing only outs waiting ys now held left → n + 1 ≡ left → now ≡ post ∷ others → next ≡ others ++ post ∷ []
    → is_tried only post.to ≡ false → Passing only outs waiting ys next held n
left_one only outs waiting ys now others next held left n post h one first last untried =
    step only outs waiting ys ys now others next (post ∷ []) held held left n post h one first last refl h.marks (λ node apart. refl) (λ node apart. refl)
    (λ node apart. last_other node h.kept post (λ e. apart (sym e)))
    (λ more lane. subst (λ (letters : List Letter). LaneAt (LaneGoes (is_tried only post.to) (is_held held post.to) (letters_to post.to more) letters)
    (lane_in outs waiting post.to) (slice_get ys post.to)) (sym (last_here post.to h.kept post refl))
    (lane_kept (is_tried only post.to) (is_held held post.to) (is_held held post.to) post.letter (letters_to post.to more) (letters_to post.to h.kept)
    (lane_in outs waiting post.to) (slice_get ys post.to) (slice_get ys post.to) (looks_itself (slice_get ys post.to))
    (λ marked. lane_full (is_tried only post.to) (is_held held post.to) (letters_to post.to h.rest) (letters_to post.to h.kept)
    (lane_in outs waiting post.to) (slice_get ys post.to) (h.lanes post.to) marked) (λ _. refl) (λ tried. absurd (false≢true (sym untried ∙ tried))) lane))

-- a letter whose ring has no place stays, and then its node is held back
pub kept_one : (only : Option ℕ) (outs : List OutEnd) (waiting : List Post) (ys zs : List OutEnd) (now others next : List Post) (held marked : List Bool)
    (left n to : ℕ) (post : Post) → Passing only outs waiting ys now held left → n + 1 ≡ left → now ≡ post ∷ others → next ≡ others ++ post ∷ []
    → to ≡ post.to → to < 256 → is_tried only post.to ≡ true → EndChanges Looks ys zs to → (is_held held to ≡ true → zs ≡ ys)
    → (is_held held to ≡ false → IsFullEnd zs to) → marked ≡ set held to true → Passing only outs waiting zs next marked n
kept_one only outs waiting ys zs now others next held marked left n to post h one first last at below tried looks same full marks =
    subst (λ (bits : List Bool). Passing only outs waiting zs next bits n) (sym marks)
    (step only outs waiting ys zs now others next (post ∷ []) held (set held to true) left n post h one first last looks.count
    (length-set held to true ∙ h.marks) (λ node apart. looks.others node (λ e. apart (e ∙ at)))
    (λ node apart. get_or-set_other held to node true false (λ e. apart (e ∙ at))) (λ node apart. last_other node h.kept post (λ e. apart (sym e)))
    (λ more lane. subst (λ (letters : List Letter). LaneAt (LaneGoes (is_tried only post.to) (is_held (set held to true) post.to) (letters_to post.to more) letters)
    (lane_in outs waiting post.to) (slice_get zs post.to)) (sym (last_here post.to h.kept post refl))
    (lane_kept (is_tried only post.to) (is_held held post.to) (is_held (set held to true) post.to) post.letter (letters_to post.to more)
    (letters_to post.to h.kept) (lane_in outs waiting post.to) (slice_get ys post.to) (slice_get zs post.to)
    (subst (λ (k : ℕ). Alike Looks (slice_get ys k) (slice_get zs k)) at looks.here) (λ _. none_free)
    (λ untried. absurd (false≢true (sym untried ∙ tried))) (λ _. held_now) lane)))
  where
    held_now : is_held (set held to true) post.to ≡ true
    held_now = subst (λ (k : ℕ). is_held (set held to true) k ≡ true) at (get_or-set_same held to true false (omega (arith, below, h.marks)))

    by_mark : (b : Bool) → is_held held to ≡ b → EndIsFull (slice_get zs to)
    by_mark true e = subst (λ (ends : List OutEnd). EndIsFull (slice_get ends to)) (sym (same e))
        (lane_full (is_tried only to) (is_held held to) (letters_to to h.rest) (letters_to to h.kept) (lane_in outs waiting to) (slice_get ys to) (h.lanes to) e)
    by_mark false e = full e

    none_free : EndIsFull (slice_get zs post.to)
    none_free = subst (λ (k : ℕ). EndIsFull (slice_get zs k)) at (by_mark (is_held held to) refl)

look_first : (o p : Option OutEnd) → Alike Looks o p → (t : Bool) (r k : List Letter) (x : Option OutLane)
    → LaneAt (LaneGoes t false r k) x o → t ≡ true → LaneAt (LaneGoes t false r k) x p
look_first None None looks t r k x h tried = h
look_first None (Some p) looks t r k x h tried = absurd looks
look_first (Some o) None looks t r k x h tried = absurd looks
look_first (Some o) (Some p) looks t r k None h tried = h
look_first (Some o) (Some p) looks t r k (Some x) h tried = record {
  ring = ((looks.0.0.0 ∙ h.ring.0.0, looks.0.0.1 ∙ h.ring.0.1, looks.0.0.2 ∙ h.ring.0.2, looks.0.0.3 ∙ h.ring.0.3), looks.0.1 ∙ h.ring.1);
  all = ap (λ (letters : List Letter). letters ++ (k ++ r)) looks.1 ∙ h.all;
  grew = (h.grew.0, h.grew.1 ∙ sym looks.1);
  places = omega (arith, h.places, looks.2, ap (λ (letters : List Letter). length letters) looks.1);
  free = h.free;
  full = λ marked. absurd (false≢true marked);
  same = λ untried. absurd (false≢true (sym untried ∙ tried));
}

-- a letter is given to its ring, which was looked at
pub gave_one : (only : Option ℕ) (outs : List OutEnd) (waiting : List Post) (ys ls zs : List OutEnd) (now others : List Post) (held : List Bool)
    (left n to : ℕ) (post : Post) → Passing only outs waiting ys now held left → n + 1 ≡ left → now ≡ post ∷ others → to ≡ post.to
    → is_tried only post.to ≡ true → is_held held to ≡ false → EndChanges Looks ys ls to → EndChanges (GivesOne post.letter) ls zs to
    → Passing only outs waiting zs others held n
gave_one only outs waiting ys ls zs now others held left n to post h one first at tried free looks gives =
    step only outs waiting ys zs now others others [] held held left n post h one first (sym (append-nil others)) (gives.count ∙ looks.count) h.marks
    (λ node apart. gives.others node (λ e. apart (e ∙ at)) ∙ looks.others node (λ e. apart (e ∙ at))) (λ node apart. refl)
    (λ node apart. ap (λ (posts : List Post). letters_to node posts) (append-nil h.kept))
    (λ more lane. subst (λ (posts : List Post). LaneAt (LaneGoes (is_tried only post.to) (is_held held post.to) (letters_to post.to more) (letters_to post.to posts))
    (lane_in outs waiting post.to) (slice_get zs post.to)) (sym (append-nil h.kept))
    (subst (λ (b : Bool). LaneAt (LaneGoes (is_tried only post.to) b (letters_to post.to more) (letters_to post.to h.kept)) (lane_in outs waiting post.to) (slice_get zs post.to))
    (sym is_free)
    (lane_gave (is_tried only post.to) post.letter (letters_to post.to more) (letters_to post.to h.kept) (lane_in outs waiting post.to)
    (slice_get ls post.to) (slice_get zs post.to) tried gives_here
    (look_first (slice_get ys post.to) (slice_get ls post.to) looks_here (is_tried only post.to)
    (post.letter ∷ letters_to post.to more) (letters_to post.to h.kept) (lane_in outs waiting post.to)
    (subst (λ (b : Bool). LaneAt (LaneGoes (is_tried only post.to) b (post.letter ∷ letters_to post.to more) (letters_to post.to h.kept))
    (lane_in outs waiting post.to) (slice_get ys post.to)) is_free lane) tried))))
  where
    is_free : is_held held post.to ≡ false
    is_free = subst (λ (k : ℕ). is_held held k ≡ false) at free

    looks_here : Alike Looks (slice_get ys post.to) (slice_get ls post.to)
    looks_here = subst (λ (k : ℕ). Alike Looks (slice_get ys k) (slice_get ls k)) at looks.here

    gives_here : Alike (GivesOne post.letter) (slice_get ls post.to) (slice_get zs post.to)
    gives_here = subst (λ (k : ℕ). Alike (GivesOne post.letter) (slice_get ls k) (slice_get zs k)) at gives.here

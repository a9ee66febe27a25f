-- The rings between the mail of one node and their far ends.
use Rattle.std.proofs.Common.{◌≡◌, ◌<◌, ℕ, ◌+◌, List, [], ◌∷◌, ◌++◌, Option, Some, None, length, refl, sym, ap, subst, arith, ◌∙◌, slice_get, zero, suc}
use Rattle.std.proofs.lemmas.List.{length_push}
use Rattle.rtrb.specs.Ring.{producer_capacity}
use Rattle.lt_desk.specs.declared.letter.Letter.{Letter}
use Rattle.lt_desk.specs.declared.letter.Post.{Post}
use Rattle.lt_mail.specs.declared.lane.OutEnd.{OutEnd}
use Rattle.lt_mail.specs.declared.lane.InLane.{InLane}
use Rattle.lt_mail.specs.declared.mail.Mail.{Mail}
use Rattle.lt_mail.specs.Words.{OutLane, seen, sent_by, taken, known, letters_to, lane_of, end_at, in_at, outs_count, ins_count, on_out, on_in, IsOpenLink, Both}
use Rattle.lt_mail.specs.Opening.{IsFresh, IsEmpty, IsNewOut, IsNewIn, IsNewLink}
use Rattle.lt_mail.specs.Star.{IsStar, AreNewLinks, GainsRing, StarGrows}
use Rattle.lt_mail.proofs.OpeningLemmas.{some_same, none_is_some}

-- rings that were made, and one more
links_push : (capacity : ℕ) (ends : List OutEnd) (lanes : List InLane) (end : OutEnd) (lane : InLane) → AreNewLinks capacity ends lanes
    → IsNewLink capacity end lane → AreNewLinks capacity (ends ++ end ∷ []) (lanes ++ lane ∷ [])
links_push capacity [] [] end lane h new = (new, tt)
links_push capacity [] (l ∷ lanes) end lane h new = absurd h
links_push capacity (e ∷ ends) [] end lane h new = absurd h
links_push capacity (e ∷ ends) (l ∷ lanes) end lane h new = (h.0, links_push capacity ends lanes end lane h.1 new)

-- there are as many of both ends
links_count : (capacity : ℕ) (ends : List OutEnd) (lanes : List InLane) → AreNewLinks capacity ends lanes → length lanes ≡ length ends
links_count capacity [] [] h = refl
links_count capacity [] (l ∷ lanes) h = absurd h
links_count capacity (e ∷ ends) [] h = absurd h
links_count capacity (e ∷ ends) (l ∷ lanes) h = omega (arith, links_count capacity ends lanes h.1)

out_new : (capacity : ℕ) (ends : List OutEnd) (lanes : List InLane) → AreNewLinks capacity ends lanes → (k : ℕ) (end : OutEnd)
    → slice_get ends k ≡ Some end → IsNewOut capacity end
out_new capacity [] lanes h k end there = absurd (none_is_some end there)
out_new capacity (e ∷ ends) [] h k end there = absurd h
out_new capacity (e ∷ ends) (l ∷ lanes) h zero end there = subst (λ (o : OutEnd). IsNewOut capacity o) (some_same e end there) h.0.new_out
out_new capacity (e ∷ ends) (l ∷ lanes) h (suc k) end there = out_new capacity ends lanes h.1 k end there

in_new : (capacity : ℕ) (ends : List OutEnd) (lanes : List InLane) → AreNewLinks capacity ends lanes → (k : ℕ) (lane : InLane)
    → slice_get lanes k ≡ Some lane → IsNewIn lane
in_new capacity ends [] h k lane there = absurd (none_is_some lane there)
in_new capacity [] (l ∷ lanes) h k lane there = absurd h
in_new capacity (e ∷ ends) (l ∷ lanes) h zero lane there = subst (λ (i : InLane). IsNewIn i) (some_same l lane there) h.0.new_in
in_new capacity (e ∷ ends) (l ∷ lanes) h (suc k) lane there = in_new capacity ends lanes h.1 k lane there

-- the two ends at one place are those of one ring
ends_at : (capacity : ℕ) (letters : List Letter) (ends : List OutEnd) (lanes : List InLane) → 0 < capacity → AreNewLinks capacity ends lanes
    → (k : ℕ) → k < length ends → Both IsOpenLink (lane_of letters (slice_get ends k)) (slice_get lanes k)
ends_at capacity letters [] lanes some h k below = absurd (omega (arith, below))
ends_at capacity letters (e ∷ ends) [] some h k below = absurd h
ends_at capacity letters (e ∷ ends) (l ∷ lanes) some h zero below = (h.0.link, omega (arith, some, h.0.new_out.places))
ends_at capacity letters (e ∷ ends) (l ∷ lanes) some h (suc k) below = ends_at capacity letters ends lanes some h.1 k (omega (arith, below))

-- no ring yet
pub first_rings : (me capacity : ℕ) (mail far : Mail) → IsEmpty me mail → IsEmpty me far → StarGrows me capacity 0 mail far
first_rings me capacity mail far m f = record {
  node = (m.0, f.0);
  waiting = (m.3, f.3);
  count = (ap (λ (ends : List OutEnd). length ends) m.1, ap (λ (ends : List OutEnd). length ends) f.1);
  out = none mail.outs.items far.ins m.1 f.2;
  into = none far.outs.items mail.ins f.1 m.2;
}
  where
    none : (ends : List OutEnd) (lanes : List InLane) → ends ≡ [] → lanes ≡ [] → AreNewLinks capacity ends lanes
    none [] [] e l = tt
    none [] (lane ∷ lanes) e l = absurd (cc)
    none (end ∷ ends) lanes e l = absurd (cc)

-- a ring more each way
pub ring_each_way : (me capacity nodes : ℕ) (a b a_mid b_mid a_now b_now : Mail) → StarGrows me capacity nodes a b → GainsRing capacity a b a_mid b_mid
    → GainsRing capacity b_mid a_mid b_now a_now → StarGrows me capacity (nodes + 1) a_now b_now
ring_each_way me capacity nodes a b a_mid b_mid a_now b_now h go back = record {
  node = (back.ins.0 ∙ (go.outs.0 ∙ h.node.0), back.outs.0 ∙ (go.ins.0 ∙ h.node.1));
  waiting = (back.ins.3 ∙ (go.outs.3 ∙ h.waiting.0), back.outs.3 ∙ (go.ins.3 ∙ h.waiting.1));
  count = (
    ap (λ (ends : List OutEnd). length ends) a_outs ∙ (length_push a.outs.items go.end ∙ ap (λ (n : ℕ). n + 1) h.count.0),
    ap (λ (ends : List OutEnd). length ends) b_outs ∙ (length_push b.outs.items back.end ∙ ap (λ (n : ℕ). n + 1) h.count.1),
  );
  out = subst (λ (ends : List OutEnd). AreNewLinks capacity ends b_now.ins) (sym a_outs) (subst (λ (lanes : List InLane). AreNewLinks capacity (a.outs.items ++ go.end ∷ []) lanes)
      (sym b_ins) (links_push capacity a.outs.items b.ins go.end go.lane h.out go.new));
  into = subst (λ (ends : List OutEnd). AreNewLinks capacity ends a_now.ins) (sym b_outs) (subst (λ (lanes : List InLane). AreNewLinks capacity (b.outs.items ++ back.end ∷ []) lanes)
      (sym a_ins) (links_push capacity b.outs.items a.ins back.end back.lane h.into back.new));
}
  where
    a_outs : a_now.outs.items ≡ a.outs.items ++ go.end ∷ []
    a_outs = back.ins.1 ∙ go.outs.1

    b_ins : b_now.ins ≡ b.ins ++ go.lane ∷ []
    b_ins = back.outs.2 ∙ go.ins.2

    b_outs : b_now.outs.items ≡ b.outs.items ++ back.end ∷ []
    b_outs = back.outs.1 ∙ ap (λ (ends : List OutEnd). ends ++ back.end ∷ []) go.ins.1

    a_ins : a_now.ins ≡ a.ins ++ back.lane ∷ []
    a_ins = back.ins.2 ∙ ap (λ (lanes : List InLane). lanes ++ back.lane ∷ []) go.outs.2

-- all are made
fresh : (me capacity nodes : ℕ) (m : Mail) (ends : List OutEnd) (lanes : List InLane) → m.me ≡ me → m.waiting.items ≡ [] → outs_count m ≡ nodes
    → ins_count m ≡ nodes → AreNewLinks capacity m.outs.items lanes → AreNewLinks capacity ends m.ins → IsFresh nodes me m
fresh me capacity nodes m ends lanes is_me none outs ins sends takes = record {
  me = is_me;
  outs = outs;
  ins = ins;
  sent = λ other. nothing_out other (end_at m other) refl;
  taken = λ other. nothing_taken other (in_at m other) refl;
  known = λ other. nothing_known other (in_at m other) refl;
}
  where
    nothing_out : (j : ℕ) (o : Option OutEnd) → end_at m j ≡ o → on_out sent_by (lane_of (letters_to j m.waiting.items) o) ≡ []
    nothing_out j None e = refl
    nothing_out j (Some end) e =
        ap seen (ap (λ (letters : List Letter). letters ++ letters_to j m.waiting.items) (out_new capacity m.outs.items lanes sends j end e).unused
        ∙ ap (λ (posts : List Post). letters_to j posts) none)

    nothing_taken : (j : ℕ) (o : Option InLane) → in_at m j ≡ o → on_in taken o ≡ []
    nothing_taken j None e = refl
    nothing_taken j (Some lane) e = ap seen (in_new capacity ends m.ins takes j lane e).taken

    nothing_known : (j : ℕ) (o : Option InLane) → in_at m j ≡ o → on_in known o ≡ []
    nothing_known j None e = refl
    nothing_known j (Some lane) e = ap seen (in_new capacity ends m.ins takes j lane e).known

pub star_made : (me capacity nodes : ℕ) (mail far : Mail) → 0 < capacity → StarGrows me capacity nodes mail far → IsStar nodes me capacity mail far
star_made me capacity nodes mail far some h = record {
  fresh = fresh me capacity nodes mail far.outs.items far.ins h.node.0 h.waiting.0 h.count.0
      (links_count capacity far.outs.items mail.ins h.into ∙ h.count.1) h.out h.into;
  far_fresh = fresh me capacity nodes far mail.outs.items mail.ins h.node.1 h.waiting.1 h.count.1
      (links_count capacity mail.outs.items far.ins h.out ∙ h.count.0) h.into h.out;
  places = λ node lane e. places_at node lane (end_at far node) refl e;
  ends = record {
    out = λ node below. ends_at capacity (letters_to node mail.waiting.items) mail.outs.items far.ins some h.out node below;
    into = λ node below. ends_at capacity (letters_to node far.waiting.items) far.outs.items mail.ins some h.into node (omega (arith, below, h.count.0, h.count.1));
  };
}
  where
    places_at : (node : ℕ) (lane : OutLane) (o : Option OutEnd) → end_at far node ≡ o → lane_of (letters_to node far.waiting.items) o ≡ Some lane
        → producer_capacity lane.end.ring ≡ capacity
    places_at node lane None here e = absurd (none_is_some lane e)
    places_at node lane (Some end) here e =
        subst (λ (l : OutLane). producer_capacity l.end.ring ≡ capacity) (some_same _ lane e) (out_new capacity far.outs.items mail.ins h.into node end here).places

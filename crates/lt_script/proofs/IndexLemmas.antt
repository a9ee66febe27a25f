-- Items that are chained by the spots of their names: what is added, and what is found.
use Rattle.std.proofs.Common.{◌≡◌, ◌∙◌, ℕ, ◌+◌, ◌-◌, ◌^◌, ◌<◌, ◌≤◌, true, false, List, [], ◌∷◌, ◌++◌, length, replicate, take, get_or, slice_get, slice_index, slice_set, Option, Some, None, position, refl, sym, ap, subst, inl, inr, arith, bit_and, bytes_eq}
use Rattle.std.proofs.lemmas.Bool.{cases_eq, cases_lt, false≢true}
use Rattle.std.proofs.lemmas.Grind.{get_or-set_at}
use Rattle.std.proofs.lemmas.List.{length_push, length-replicate, length-set, get_or_append_left, get_or_past, get_or_push, get_or-replicate, get_or-set_other, take_more}
use Rattle.std.proofs.lemmas.List.Quantifiers.{position-Some}
use Rattle.std.proofs.lemmas.Option.{slice_get_within, get_or_from_slice_get, same_Some}
use Rattle.std.proofs.lemmas.Slice.Eq.{bytes_eq-Decides}
use lib.Bits.{and_le_r}
use Rattle.lt_script.specs.Index.{hash_of, spot_of, spot_at, name_by, IsLink, AreLinked, IsIndex}
use Rattle.lt_script.proofs.NameLemmas.{found_stays, found_last, found_inside, element_at, same_name}
use Rattle.lt_script.proofs.ScriptLemmas.{get_front, get_last}

-- a spot is one of those that there are
pub spot_inside : (spots : ℕ) (name : List ℕ) → 0 < spots → spot_of spots name < spots
spot_inside spots name some = omega (arith, and_le_r (hash_of name) (spots - 1))

-- the places before the one that a link is of have their spots as before
pub link_stays : (at more : ℕ → ℕ) (spot place link : ℕ) → ((k : ℕ) → k < place → more k ≡ at k) → IsLink at spot place link → IsLink more spot place link
link_stays at more spot place link same h = record {
  within = h.within;
  there = λ k e. same k (omega (arith, e, h.within)) ∙ h.there k e;
  behind = λ k before e. h.behind k before (sym (same k before) ∙ e);
}

-- so are the first places linked as before
pub links_stay : (at more : ℕ → ℕ) (count : ℕ) (lasts befores : List ℕ) → ((k : ℕ) → k < count → more k ≡ at k) → AreLinked at count lasts befores → AreLinked more count lasts befores
links_stay at more count lasts befores same h = record {
  of_spots = λ spot inside. link_stays at more spot count (slice_index lasts spot) same (h.of_spots spot inside);
  of_places = λ place before.
      subst (λ (spot : ℕ). IsLink more spot place (slice_index befores place)) (sym (same place before))
      (link_stays at more (at place) place (slice_index befores place) (λ k below. same k (omega (arith, below, before))) (h.of_places place before));
}

-- no place is linked
pub none_linked : (at : ℕ → ℕ) (spots : ℕ) (befores : List ℕ) → AreLinked at 0 (replicate spots 0) befores
none_linked at spots befores = record {
  of_spots = λ spot inside. record {
    within = omega (arith, zero_there spot);
    there = λ k e. absurd (omega (arith, e, zero_there spot));
    behind = λ k before e. absurd (omega (arith, before));
  };
  of_places = λ place before. absurd (omega (arith, before));
}
  where
    zero_there : (spot : ℕ) → slice_index (replicate spots 0) spot ≡ 0
    zero_there spot = elim (cases_lt spot spots) [
      | inl inside ↦ get_or-replicate spots spot 0 0 inside
      | inr past ↦ get_or_past (replicate spots 0) spot 0 (omega (arith, length-replicate {A = ℕ} spots 0, past))
    ]

-- a further place is linked to the last one of its spot, and the spot to it
pub linked_more : (at : ℕ → ℕ) (place : ℕ) (lasts befores more : List ℕ) → at place < length lasts → ((k : ℕ) → k < place → slice_index more k ≡ slice_index befores k)
    → slice_index more place ≡ slice_index lasts (at place) → AreLinked at place lasts befores → AreLinked at (place + 1) (slice_set lasts (at place) (place + 1)) more
linked_more at place lasts befores more inside earlier here h = record { of_spots = of_spot; of_places = of_place }
  where
    of_spot : (spot : ℕ) → spot < length (slice_set lasts (at place) (place + 1)) → IsLink at spot (place + 1) (slice_index (slice_set lasts (at place) (place + 1)) spot)
    of_spot spot within = elim (cases_eq spot (at place)) [
      | inl same ↦
          subst (λ (link : ℕ). IsLink at spot (place + 1) link) (sym (get_or-set_at lasts (at place) spot (place + 1) 0 same inside))
          (record {
            within = omega arith;
            there = λ k e. ap at (omega (arith, e)) ∙ sym same;
            behind = λ k before e. before;
          })
      | inr other ↦
          let old : IsLink at spot place (slice_index lasts spot) = h.of_spots spot (omega (arith, within, length-set lasts (at place) (place + 1))) in
          subst (λ (link : ℕ). IsLink at spot (place + 1) link) (sym (get_or-set_other lasts (at place) spot (place + 1) 0 other))
          (record {
            within = omega (arith, old.within);
            there = old.there;
            behind = λ k before e. elim (cases_lt k place) [
              | inl below ↦ old.behind k below e
              | inr last ↦ absurd (other (sym e ∙ ap at (omega (arith, before, last))))
            ];
          })
    ]

    of_place : (k : ℕ) → k < place + 1 → IsLink at (at k) k (slice_index more k)
    of_place k before = elim (cases_lt k place) [
      | inl below ↦ subst (λ (link : ℕ). IsLink at (at k) k link) (sym (earlier k below)) (h.of_places k below)
      | inr last ↦
          let same : place ≡ k = omega (arith, before, last) in
          subst (λ (n : ℕ). IsLink at (at n) n (slice_index more n)) same
          (subst (λ (link : ℕ). IsLink at (at place) place link) (sym here) (h.of_spots (at place) inside))
    ]

-- the place of a link
pub place_inside : (link count : ℕ) → 0 < link → link ≤ count → link - 1 < count
place_inside link count some within = omega (arith, some, within)

-- one more item is copied
pub copied_more : {T : Type 0} (items copy next : List T) (k : ℕ) (x y : T) → next ≡ copy ++ y ∷ [] → copy ≡ take k items → y ≡ x → x ≡ get_or items k x → k < length items → next ≡ take (k + 1) items
copied_more {T} items copy next k x y more so_far same is inside =
    more ∙ ap (λ (l : List T). l ++ y ∷ []) so_far ∙ ap (λ (z : T). take k items ++ z ∷ []) (same ∙ is) ∙ sym (take_more items k x inside)

-- what is 0 everywhere is so as long as it is
pub all_zero : (l : List ℕ) (count : ℕ) → l ≡ replicate count 0 → l ≡ replicate (length l) 0
all_zero l count is = is ∙ ap (λ (n : ℕ). replicate n 0) (sym (ap length is ∙ length-replicate {A = ℕ} count 0))

module _ {T : Type 0} (name_of : T → List ℕ) where
  -- the items so far have their spots as before
  spot_front : (items : List T) (x : T) (spots k : ℕ) → k < length items → spot_at name_of (items ++ x ∷ []) spots k ≡ spot_at name_of items spots k
  spot_front items x spots k inside = ap (λ (o : Option T). spot_of spots (name_by name_of o)) (get_front items x k inside)

  spot_last : (items : List T) (x : T) (spots : ℕ) → spot_at name_of (items ++ x ∷ []) spots (length items) ≡ spot_of spots (name_of x)
  spot_last items x spots = ap (λ (o : Option T). spot_of spots (name_by name_of o)) (get_last items x)

  spot_here : (items : List T) (x : T) (spots k : ℕ) → slice_get items k ≡ Some x → spot_at name_of items spots k ≡ spot_of spots (name_of x)
  spot_here items x spots k at = ap (λ (o : Option T). spot_of spots (name_by name_of o)) at

  -- the names stay apart with one that is found nowhere
  apart_more : (items : List T) (x : T) → ((place : ℕ) (y : T) → slice_get items place ≡ Some y → position (λ z. bytes_eq (name_of z) (name_of y)) items ≡ Some place)
      → position (λ z. bytes_eq (name_of z) (name_of x)) items ≡ None
      → (place : ℕ) (y : T) → slice_get (items ++ x ∷ []) place ≡ Some y → position (λ z. bytes_eq (name_of z) (name_of y)) (items ++ x ∷ []) ≡ Some place
  apart_more items x apart new place y at = elim (cases_lt place (length items)) [
    | inl front ↦
        found_stays (λ (z : T). bytes_eq (name_of z) (name_of y)) items (x ∷ []) place (apart place y (sym (get_front items x place front) ∙ at))
    | inr behind ↦
        let here : place ≡ length items = omega (arith, behind, slice_get_within (items ++ x ∷ []) place y at, length_push items x) in
        let same : x ≡ y = same_Some x y (sym (get_last items x) ∙ ap (slice_get (items ++ x ∷ [])) (sym here) ∙ at) in
        subst (λ (z : T). position (λ w. bytes_eq (name_of w) (name_of z)) (items ++ x ∷ []) ≡ Some place) same
        (found_last (λ (z : T). bytes_eq (name_of z) (name_of x)) items x new (same_name (name_of x)) ∙ ap Some (sym here))
  ]

  -- no items are an index
  pub index_empty : (spots : ℕ) → 0 < spots → IsIndex name_of [] (replicate spots 0) []
  index_empty spots some = record {
    some = omega (arith, some, length-replicate {A = ℕ} spots 0);
    count = refl;
    few = omega arith;
    linked = none_linked (spot_at name_of [] (length (replicate spots 0))) spots [];
    apart = λ place x at. absurd (cc);
  }

  -- the items are one with other links too
  pub index_linked : (items : List T) (lasts befores more_lasts more_befores : List ℕ) → IsIndex name_of items lasts befores → 0 < length more_lasts → length more_befores ≡ length befores
      → AreLinked (spot_at name_of items (length more_lasts)) (length items) more_lasts more_befores → IsIndex name_of items more_lasts more_befores
  index_linked items lasts befores more_lasts more_befores h some same linked = record {
    some = some;
    count = same ∙ h.count;
    few = h.few;
    linked = linked;
    apart = h.apart;
  }

  -- a last item is linked to the last one before it that has its spot
  pub index_pushed : (items : List T) (x : T) (lasts befores : List ℕ) → IsIndex name_of items lasts befores → position (λ y. bytes_eq (name_of y) (name_of x)) items ≡ None
      → length items < 2 ^ 31
      → IsIndex name_of (items ++ x ∷ []) (slice_set lasts (spot_of (length lasts) (name_of x)) (length items + 1)) (befores ++ slice_index lasts (spot_of (length lasts) (name_of x)) ∷ [])
  index_pushed items x lasts befores h new few =
      let spots = length lasts in
      let spot = spot_of spots (name_of x) in
      let at : ℕ → ℕ = spot_at name_of (items ++ x ∷ []) spots in
      let here : at (length items) ≡ spot = spot_last items x spots in
      let same : length (slice_set lasts spot (length items + 1)) ≡ spots = length-set lasts spot (length items + 1) in
      record {
        some = omega (arith, same, h.some);
        count = length_push befores (slice_index lasts spot) ∙ ap (λ n. n + 1) h.count ∙ sym (length_push items x);
        few = omega (arith, length_push items x, few);
        linked =
            subst (λ (n : ℕ). AreLinked (spot_at name_of (items ++ x ∷ []) n) (length (items ++ x ∷ [])) (slice_set lasts spot (length items + 1)) (befores ++ slice_index lasts spot ∷ [])) (sym same)
            (subst (λ (n : ℕ). AreLinked at n (slice_set lasts spot (length items + 1)) (befores ++ slice_index lasts spot ∷ [])) (sym (length_push items x))
            (subst (λ (n : ℕ). AreLinked at (length items + 1) (slice_set lasts n (length items + 1)) (befores ++ slice_index lasts spot ∷ [])) here
            (linked_more at (length items) lasts befores (befores ++ slice_index lasts spot ∷ []) (subst (λ (n : ℕ). n < spots) (sym here) (spot_inside spots (name_of x) h.some))
            (λ k below. get_or_append_left befores (slice_index lasts spot ∷ []) 0 k (omega (arith, below, h.count)))
            (get_or_push befores (slice_index lasts spot) 0 (length items) h.count ∙ ap (slice_index lasts) (sym here))
            (links_stay (spot_at name_of items spots) at (length items) lasts befores (spot_front items x spots) h.linked))));
        apart = apart_more items x h.apart new;
      }

  -- the same by what became of the items and the links
  pub index_pushed_so : (items room more_items : List T) (x : T) (lasts more_lasts befores reserved more_befores : List ℕ) (hash : ℕ) → IsIndex name_of items lasts befores
      → position (λ y. bytes_eq (name_of y) (name_of x)) items ≡ None → length items < 2 ^ 31 → hash ≡ hash_of (name_of x) → room ≡ items → more_items ≡ room ++ x ∷ [] → reserved ≡ befores
      → more_lasts ≡ slice_set lasts (bit_and hash (length lasts - 1)) (length reserved + 1) → more_befores ≡ reserved ++ slice_index lasts (bit_and hash (length lasts - 1)) ∷ []
      → IsIndex name_of more_items more_lasts more_befores
  index_pushed_so items room more_items x lasts more_lasts befores reserved more_befores hash h new few hashed kept of_items same of_lasts of_befores =
      let spot = spot_of (length lasts) (name_of x) in
      let here : bit_and hash (length lasts - 1) ≡ spot = ap (λ (n : ℕ). bit_and n (length lasts - 1)) hashed in
      let set : more_lasts ≡ slice_set lasts spot (length items + 1) =
      of_lasts ∙ ap (λ (n : ℕ). slice_set lasts n (length reserved + 1)) here ∙ ap (λ (n : ℕ). slice_set lasts spot (n + 1)) (ap length same ∙ h.count) in
      let pushed : more_befores ≡ befores ++ slice_index lasts spot ∷ [] =
      of_befores ∙ ap (λ (l : List ℕ). l ++ slice_index lasts (bit_and hash (length lasts - 1)) ∷ []) same ∙ ap (λ (n : ℕ). befores ++ slice_index lasts n ∷ []) here in
      rw (of_items, kept, set, pushed) (index_pushed items x lasts befores h new few)

  -- a further item is linked where the items are linked anew
  pub linked_step : (items : List T) (x : T) (place spots spot hash : ℕ) (lasts befores name : List ℕ) → slice_get items place ≡ Some x → place < length befores → name ≡ name_of x
      → hash ≡ hash_of name → spot ≡ bit_and hash (length lasts - 1) → spot < length lasts → length lasts ≡ spots → AreLinked (spot_at name_of items spots) place lasts befores
      → AreLinked (spot_at name_of items spots) (place + 1) (slice_set lasts spot (place + 1)) (slice_set befores place (slice_index lasts spot))
  linked_step items x place spots spot hash lasts befores name there inside named hashed of_hash within all h =
      let at : ℕ → ℕ = spot_at name_of items spots in
      let here : at place ≡ spot =
      spot_here items x spots place there ∙ ap (λ (n : List ℕ). bit_and (hash_of n) (spots - 1)) (sym named)
      ∙ ap (λ (h : ℕ). bit_and h (spots - 1)) (sym hashed) ∙ ap (λ (n : ℕ). bit_and hash (n - 1)) (sym all) ∙ sym of_hash in
      let link : ℕ = slice_index lasts (at place) in
      subst (λ (s : ℕ). AreLinked at (place + 1) (slice_set lasts s (place + 1)) (slice_set befores place (slice_index lasts s))) here
      (linked_more at place lasts befores (slice_set befores place link) (subst (λ (s : ℕ). s < length lasts) (sym here) within)
      (λ k below. get_or-set_other befores place k link 0 (omega (arith, below)))
      (get_or-set_at befores place place link 0 refl inside) h)

  -- a look-up has come to this link: whoever has the name stands before it
  pub record IsSought (items : List T) (spots : ℕ) (name : List ℕ) (link : ℕ) : Type 0 where
    pub within : link ≤ length items
    pub there : (k : ℕ) → link ≡ k + 1 → spot_at name_of items spots k ≡ spot_of spots name
    pub behind : (k : ℕ) (x : T) → slice_get items k ≡ Some x → bytes_eq (name_of x) name ≡ true → k < link

  -- an item with the name has its spot
  same_spot : (items : List T) (spots : ℕ) (name : List ℕ) (k : ℕ) (x : T) → slice_get items k ≡ Some x → bytes_eq (name_of x) name ≡ true → spot_at name_of items spots k ≡ spot_of spots name
  same_spot items spots name k x at same = spot_here items x spots k at ∙ ap (spot_of spots) ((bytes_eq-Decides (name_of x) name).0 same)

  -- it begins at the last item of the name's spot
  pub sought_first : (items : List T) (lasts befores name : List ℕ) → IsIndex name_of items lasts befores
      → IsSought items (length lasts) name (slice_index lasts (spot_of (length lasts) name))
  sought_first items lasts befores name h =
      let spots = length lasts in
      let link = h.linked.of_spots (spot_of spots name) (spot_inside spots name h.some) in
      record {
        within = link.within;
        there = link.there;
        behind = λ k x at same. link.behind k (slice_get_within items k x at) (same_spot items spots name k x at same);
      }

  -- and goes on where the item at the link has another name
  pub sought_next : (items : List T) (lasts befores name : List ℕ) (place : ℕ) (x : T) → IsIndex name_of items lasts befores → IsSought items (length lasts) name (place + 1)
      → slice_get items place ≡ Some x → bytes_eq (name_of x) name ≡ false → IsSought items (length lasts) name (slice_index befores place)
  sought_next items lasts befores name place x h sought at other =
      let spots = length lasts in
      let link = h.linked.of_places place (slice_get_within items place x at) in
      record {
        within = omega (arith, link.within, sought.within);
        there = λ k e. link.there k e ∙ sought.there place refl;
        behind = λ k y there same. elim (cases_lt k place) [
          | inl before ↦ link.behind k before (same_spot items spots name k y there same ∙ sym (sought.there place refl))
          | inr last ↦
              let here : k ≡ place = omega (arith, last, sought.behind k y there same) in
              let one : x ≡ y = same_Some x y (sym at ∙ ap (slice_get items) (sym here) ∙ there) in
              absurd (false≢true (sym other ∙ ap (λ (z : T). bytes_eq (name_of z) name) one ∙ same))
        ];
      }

  -- an item with the name is the one that is looked for
  pub sought_found : (items : List T) (lasts befores name : List ℕ) (place : ℕ) (x : T) → IsIndex name_of items lasts befores
      → slice_get items place ≡ Some x → bytes_eq (name_of x) name ≡ true → position (λ y. bytes_eq (name_of y) name) items ≡ Some place
  sought_found items lasts befores name place x h at same =
      subst (λ (n : List ℕ). position (λ y. bytes_eq (name_of y) n) items ≡ Some place) ((bytes_eq-Decides (name_of x) name).0 same) (h.apart place x at)

  -- no item has the name where no link is left
  pub sought_none : (items : List T) (spots : ℕ) (name : List ℕ) → IsSought items spots name 0 → position (λ y. bytes_eq (name_of y) name) items ≡ None
  sought_none items spots name sought =
      let p = λ (y : T). bytes_eq (name_of y) name in
      elim (position p items) as (λ o. position p items ≡ o → o ≡ None) [
        | Some k ↦ λ found. absurd (
            let x = element_at items k (found_inside p items k found) in
            let passes = (position-Some p items k x.0 found).1 in
            let has : bytes_eq (name_of x.0) name ≡ true = subst (λ (z : T). bytes_eq (name_of z) name ≡ true) (get_or_from_slice_get items k x.0 x.0 x.1) passes in
            omega (arith, sought.behind k x.0 x.1 has)
            )
        | None ↦ λ none. refl
      ] refl

-- What is written of the clients so far, and of one client more.
use Rattle.std.proofs.Common.{◌≡◌, ℕ, zero, suc, ◌+◌, ◌<◌, List, [], ◌∷◌, ◌++◌, Bool, true, false, refl, sym, ap, arith, ◌∙◌, append_assoc, append-nil, length, take, get_or, ◌-◌, ◌*◌, ◌≤◌, inl, inr, length-append, ap₂, if◌then◌else◌, map, filter, All, flat_map, suc-mul}
use Rattle.std.specs.List.{range_with_len, list_any}
use Rattle.std.proofs.lemmas.List.{map-append, take_more, get_or_append_left, get_or-append_right, map_push}
use Rattle.std.proofs.lemmas.List.Concat.{flat_map-append}
use Rattle.std.proofs.lemmas.List.Elements.{filter-append}
use Rattle.std.proofs.lemmas.Bool.{cases_lt, cases_eq}
use Rattle.std.proofs.lemmas.List.FromFn.{length-map-range_with_len, get_or-map-range_with_len, length-range_with_len, get_or-range_with_len}
use Rattle.lt_modes.specs.Script.{ScriptData, client_name}
use Rattle.lt_spec.specs.Rings.{Graph, numbers_below, ring_set, walk_end, waits_for_some, ReportLine, WaitsLine, NoCycleLine, EndsLine, waits_lines, ends_lines, last_lines, report, still_waiting, remaining}
use Rattle.lt_text.specs.Text.{spaced, text, after_space, each_after_space}
use Rattle.lt_waits.proofs.Walks.{report_same}
use Rattle.lt_waits.specs.Serves.{report_words, waits_text, waits_line, waits_lines_of, ends_line, Tells, marks}

range_push : (a n : ℕ) → range_with_len a (n + 1) ≡ range_with_len a n ++ (a + n) ∷ []
range_push a zero =
    let none : a ≡ a + 0 = omega arith in
    ap (λ (x : ℕ). x ∷ []) none
range_push a (suc n) =
    let one : suc n + 1 ≡ suc (n + 1) = omega arith in
    let place : a + 1 + n ≡ a + suc n = omega arith in
    ap (range_with_len a) one
    ∙ ap (λ (l : List ℕ). a ∷ l) (range_push (a + 1) n ∙ ap (λ (x : ℕ). range_with_len (a + 1) n ++ x ∷ []) place)

pub numbers_push : (n : ℕ) → numbers_below (n + 1) ≡ numbers_below n ++ n ∷ []
numbers_push n =
    let place : 0 + n ≡ n = omega arith in
    range_push 0 n ∙ ap (λ (x : ℕ). numbers_below n ++ x ∷ []) place

pub text_append : (xs ys : List (List ℕ)) → text (xs ++ ys) ≡ text xs ++ text ys
text_append [] ys = refl
text_append (x ∷ rest) ys =
    ap (λ (t : List ℕ). x ++ 10 ∷ t) (text_append rest ys) ∙ sym (append_assoc x (10 ∷ text rest) (text ys))

pub report_append : (script : ScriptData) (xs ys : List ReportLine) → waits_text script (xs ++ ys) ≡ waits_text script xs ++ waits_text script ys
report_append script xs ys =
    ap text (map-append (λ line. spaced (report_words script line)) xs ys)
    ∙ text_append (map (λ line. spaced (report_words script line)) xs) (map (λ line. spaced (report_words script line)) ys)

-- what was written, and one piece more
pub piece_more : (script : ScriptData) (now before old : List ℕ) (done piece all : List ReportLine) → now ≡ before ++ waits_text script piece
    → before ≡ old ++ waits_text script done → all ≡ done ++ piece → now ≡ old ++ waits_text script all
piece_more script now before old done piece all wrote so_far whole =
    wrote
    ∙ ap (λ (t : List ℕ). t ++ waits_text script piece) so_far
    ∙ append_assoc old (waits_text script done) (waits_text script piece)
    ∙ ap (λ (t : List ℕ). old ++ t) (sym (report_append script done piece) ∙ sym (ap (waits_text script) whole))

pub if_mapped : {Y : Type 0} (t : Bool) (f : ℕ → Y) (x : ℕ) → map f (if t then x ∷ [] else []) ≡ (if t then f x ∷ [] else [])
if_mapped true f x = refl
if_mapped false f x = refl

-- the lines of the client with the others so far
pub waits_push : (graph : Graph) (c n : ℕ) → waits_lines_of (n + 1) graph c ≡ waits_lines_of n graph c ++ waits_line graph c n
waits_push graph c n =
    ap (λ (l : List ℕ). map (WaitsLine c) (filter (graph c) l)) (numbers_push n)
    ∙ ap (map (WaitsLine c)) (filter-append (graph c) (numbers_below n) (n ∷ []))
    ∙ map-append (WaitsLine c) (filter (graph c) (numbers_below n)) (filter (graph c) (n ∷ []))
    ∙ ap (λ (l : List ReportLine). waits_lines_of n graph c ++ l) (if_mapped (graph c n) (WaitsLine c) n)

-- the lines of the clients so far, of n
abbrev pub waits_so_far : ℕ → Graph → ℕ → List ReportLine
waits_so_far n graph k = flat_map (waits_lines_of n graph) (numbers_below k)

pub waits_so_far-push : (n : ℕ) (graph : Graph) (k : ℕ) → waits_so_far n graph (k + 1) ≡ waits_so_far n graph k ++ waits_lines_of n graph k
waits_so_far-push n graph k =
    ap (flat_map (waits_lines_of n graph)) (numbers_push k)
    ∙ flat_map-append (waits_lines_of n graph) (numbers_below k) (k ∷ [])
    ∙ ap (λ (l : List ReportLine). waits_so_far n graph k ++ l) (append-nil (waits_lines_of n graph k))

abbrev pub ends_so_far : ℕ → Graph → ℕ → List ReportLine
ends_so_far n graph k = map (λ c. EndsLine c (walk_end n graph c)) (filter (waits_for_some n graph) (numbers_below k))

pub ends_so_far-push : (n : ℕ) (graph : Graph) (k : ℕ) → ends_so_far n graph (k + 1) ≡ ends_so_far n graph k ++ ends_line n graph k
ends_so_far-push n graph k =
    let line = λ (c : ℕ). EndsLine c (walk_end n graph c) in
    ap (λ (l : List ℕ). map line (filter (waits_for_some n graph) l)) (numbers_push k)
    ∙ ap (map line) (filter-append (waits_for_some n graph) (numbers_below k) (k ∷ []))
    ∙ map-append line (filter (waits_for_some n graph) (numbers_below k)) (filter (waits_for_some n graph) (k ∷ []))
    ∙ ap (λ (l : List ReportLine). ends_so_far n graph k ++ l) (if_mapped (waits_for_some n graph k) line k)

-- the names of the clients up to this one
pub names_push : (script : ScriptData) (ring : List ℕ) (k c : ℕ) → k < length ring → get_or ring k 0 ≡ c
    → each_after_space (map (client_name script) (take (k + 1) ring)) ≡ each_after_space (map (client_name script) (take k ring)) ++ after_space (client_name script c)
names_push script ring k c h e =
    ap (λ (l : List ℕ). each_after_space (map (client_name script) l)) (take_more ring k 0 h ∙ ap (λ (x : ℕ). take k ring ++ x ∷ []) e)
    ∙ ap each_after_space (map-append (client_name script) (take k ring) (c ∷ []))
    ∙ flat_map-append after_space (map (client_name script) (take k ring)) (client_name script c ∷ [])
    ∙ ap (λ (l : List ℕ). each_after_space (map (client_name script) (take k ring)) ++ l) (append-nil (after_space (client_name script c)))

-- all that was written, of a graph that tells this one
pub all_written : (script : ScriptData) (n m : ℕ) (graph told : Graph) (start between now : List ℕ) → n ≡ m → start ≡ []
    → between ≡ start ++ waits_text script (waits_lines n graph) → now ≡ between ++ waits_text script (last_lines n graph (ring_set n graph))
    → ((c d : ℕ) → c < n → d < n → graph c d ≡ told c d) → now ≡ waits_text script (report m told)
all_written script n m graph told start between now same none first last agree =
    last
    ∙ ap (λ (t : List ℕ). t ++ waits_text script (last_lines n graph (ring_set n graph))) (first ∙ ap (λ (t : List ℕ). t ++ waits_text script (waits_lines n graph)) none)
    ∙ sym (report_append script (waits_lines n graph) (last_lines n graph (ring_set n graph)))
    ∙ ap (waits_text script) (report_same n graph told agree)
    ∙ ap (λ (k : ℕ). waits_text script (report k told)) same

-- no clients wait in a ring, so that this and the ends were written
pub no_ring_written : (script : ScriptData) (n : ℕ) (graph : Graph) (members old between now : List ℕ) → members ≡ ring_set n graph → members ≡ []
    → between ≡ old ++ waits_text script (NoCycleLine ∷ []) → now ≡ between ++ waits_text script (ends_lines n graph)
    → now ≡ old ++ waits_text script (last_lines n graph (ring_set n graph))
no_ring_written script n graph members old between now is none first last =
    piece_more script now between old (NoCycleLine ∷ []) (ends_lines n graph) (NoCycleLine ∷ ends_lines n graph) last first refl
    ∙ ap (λ (set : List ℕ). old ++ waits_text script (last_lines n graph set)) (sym none ∙ is)

-- Where the marks of a graph stand.

-- the marks of one client more
pub marks_push : (n : ℕ) (graph : Graph) (k : ℕ) → marks n graph (k + 1) ≡ marks n graph k ++ map (graph k) (numbers_below n)
marks_push n graph k =
    ap (flat_map (λ c. map (graph c) (numbers_below n))) (numbers_push k)
    ∙ flat_map-append (λ c. map (graph c) (numbers_below n)) (numbers_below k) (k ∷ [])
    ∙ ap (λ (l : List Bool). marks n graph k ++ l) (append-nil (map (graph k) (numbers_below n)))

next_marks : (n : ℕ) (graph : Graph) (k : ℕ) → marks n graph (suc k) ≡ marks n graph k ++ map (graph k) (numbers_below n)
next_marks n graph k =
    let one : suc k ≡ k + 1 = omega arith in
    ap (marks n graph) one ∙ marks_push n graph k

pub length_marks : (n : ℕ) (graph : Graph) (k : ℕ) → length (marks n graph k) ≡ k * n
length_marks n graph zero = omega arith
length_marks n graph (suc k) =
    ap length (next_marks n graph k)
    ∙ omega (arith, length-append (marks n graph k) (map (graph k) (numbers_below n)), length_marks n graph k, length-map-range_with_len (graph k) 0 n, suc-mul k n)

row_within : (k c n : ℕ) → c < k → c * n + n ≤ k * n
row_within zero c n h = absurd (omega (arith, h))
row_within (suc k) c n h = elim (cases_lt c k) [
  | inl before ↦ omega (arith, row_within k c n before, suc-mul k n)
  | inr last ↦
      let same : c ≡ k = omega (arith, h, last) in
      omega (arith, ap (λ (x : ℕ). x * n) same, suc-mul k n)
]

mark_at : (n : ℕ) (graph : Graph) (k c d : ℕ) → c < k → d < n → get_or (marks n graph k) (c * n + d) false ≡ graph c d
mark_at n graph zero c d h under = absurd (omega (arith, h))
mark_at n graph (suc k) c d h under =
    let all = marks n graph k in
    let row = map (graph k) (numbers_below n) in
    ap (λ (l : List Bool). get_or l (c * n + d) false) (next_marks n graph k) ∙ elim (cases_lt c k) [
      | inl before ↦
          get_or_append_left all row false (c * n + d) (omega (arith, row_within k c n before, under, length_marks n graph k))
          ∙ mark_at n graph k c d before under
      | inr last ↦
          let same : c ≡ k = omega (arith, h, last) in
          let place : c * n + d - k * n ≡ d = omega (arith, ap (λ (x : ℕ). x * n) same) in
          get_or-append_right all row (k * n) (c * n + d) false (length_marks n graph k) (omega (arith, ap (λ (x : ℕ). x * n) same))
          ∙ ap (λ (i : ℕ). get_or row i false) place
          ∙ get_or-map-range_with_len (graph k) 0 n d d false under (omega arith)
          ∙ ap (λ (x : ℕ). graph x d) (sym same)
    ]

-- a graph of these marks tells of each two clients
pub marks_tell : (n : ℕ) (pairs : List Bool) (graph : Graph) → pairs ≡ marks n graph n → Tells (record { clients = n; pairs = pairs }) graph
marks_tell n pairs graph e c d h under = ap (λ (l : List Bool). get_or l (c * n + d) false) e ∙ mark_at n graph n c d h under

-- The marks of a client with the others so far, and of all clients.

pub row_push : (row : ℕ → Bool) (old before now : List Bool) (k : ℕ) → before ≡ old ++ map row (numbers_below k) → now ≡ before ++ row k ∷ []
    → now ≡ old ++ map row (numbers_below (k + 1))
row_push row old before now k so_far pushed =
    pushed
    ∙ ap (λ (l : List Bool). l ++ row k ∷ []) so_far
    ∙ append_assoc old (map row (numbers_below k)) (row k ∷ [])
    ∙ ap (λ (l : List Bool). old ++ l) (sym (map_push row (numbers_below k) k) ∙ ap (map row) (sym (numbers_push k)))

-- once all clients were asked, there is a mark for each pair
pub square : (n k count : ℕ) (graph : Graph) (pairs : List Bool) → pairs ≡ marks n graph k → k ≡ n → count ≡ n → length pairs ≡ count * count
square n k count graph pairs is all counted =
    ap length is ∙ length_marks n graph k ∙ ap (λ (x : ℕ). x * n) all ∙ ap₂ (λ (x y : ℕ). x * y) (sym counted) (sym counted)

pub all_marks : (n k count : ℕ) (graph : Graph) (pairs : List Bool) → pairs ≡ marks n graph k → k ≡ n → count ≡ n → pairs ≡ marks count graph count
all_marks n k count graph pairs is all counted =
    is ∙ ap (marks n graph) all ∙ ap (λ (x : ℕ). marks x graph x) (sym counted)

-- Rounds that take clients away come to an end where one takes none away.

-- what is filtered is no longer
pub filter_few : {X : Type 0} (test : X → Bool) (xs : List X) → length (filter test xs) ≤ length xs
filter_few test [] = omega arith
filter_few test (x ∷ rest) = by_test (test x) (filter_few test rest)
  where
    by_test : (t : Bool) → length (filter test rest) ≤ length rest → length (if t then x ∷ filter test rest else filter test rest) ≤ length (x ∷ rest)
    by_test true few = omega (arith, few)
    by_test false few = omega (arith, few)

-- where as many are left as there were, they are the same
pub filter_all : {X : Type 0} (test : X → Bool) (xs : List X) → length (filter test xs) ≡ length xs → filter test xs ≡ xs
filter_all test [] e = refl
filter_all {X} test (x ∷ rest) e = by_test (test x) e (filter_all test rest)
  where
    by_test : (t : Bool) → length (if t then x ∷ filter test rest else filter test rest) ≡ length (x ∷ rest) → (length (filter test rest) ≡ length rest → filter test rest ≡ rest)
        → (if t then x ∷ filter test rest else filter test rest) ≡ x ∷ rest
    by_test true f again = ap (λ (ys : List X). x ∷ ys) (again (omega (arith, f)))
    by_test false f again = absurd (omega (arith, f, filter_few test rest))

-- once a round takes none away, no later one does
pub rounds_stay : (graph : Graph) (clients : List ℕ) (k n : ℕ) → k ≤ n → still_waiting graph (remaining graph clients k) ≡ remaining graph clients k
    → remaining graph clients n ≡ remaining graph clients k
rounds_stay graph clients k zero few e =
    let same : zero ≡ k = omega (arith, few) in
    ap (remaining graph clients) same
rounds_stay graph clients k (suc n) few e = elim (cases_eq k (suc n)) [
  | inl same ↦ ap (remaining graph clients) (sym same)
  | inr other ↦ ap (still_waiting graph) (rounds_stay graph clients k n (omega (arith, few, other)) e) ∙ e
]

-- so a round after which as many are left is the last one
pub round_is_last : (graph : Graph) (clients left after : List ℕ) (k n : ℕ) → k ≤ n → left ≡ remaining graph clients k → after ≡ still_waiting graph left
    → length after ≡ length left → left ≡ remaining graph clients n
round_is_last graph clients left after k n few is e same =
    let stays : still_waiting graph left ≡ left = filter_all (λ c. list_any (graph c) left) left (sym (ap length e) ∙ same) in
    is ∙ sym (rounds_stay graph clients k n few (sym (ap (still_waiting graph) is) ∙ stays ∙ is))

-- one round more
pub next_round : (graph : Graph) (clients left after : List ℕ) (k : ℕ) → left ≡ remaining graph clients k → after ≡ still_waiting graph left
    → after ≡ remaining graph clients (k + 1)
next_round graph clients left after k is e =
    let one : suc k ≡ k + 1 = omega arith in
    e ∙ ap (still_waiting graph) is ∙ ap (remaining graph clients) one

-- the numbers below n are below n
pub all_below : (n : ℕ) → All (λ c. c < n) (numbers_below n)
all_below n k d h = omega (arith, get_or-range_with_len 0 n k d (omega (arith, h, length-range_with_len 0 n)), h, length-range_with_len 0 n)

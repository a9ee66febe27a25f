-- The marks of a graph of who waits for whom, one client more.
use Rattle.std.proofs.Common.{◌≡◌, ℕ, zero, suc, ◌+◌, ◌*◌, List, [], ◌∷◌, ◌++◌, Bool, sym, ap, arith, ◌∙◌, append_assoc, append-nil, length, length-append, map, flat_map, suc-mul}
use Rattle.std.specs.List.{range_with_len}
use Rattle.std.proofs.lemmas.List.Concat.{flat_map-append}
use Rattle.std.proofs.lemmas.List.FromFn.{length-map-range_with_len, map-range_with_len_more}
use Rattle.lt_spec.specs.Rings.{Graph, numbers_below}
use Rattle.lt_waits.specs.Serves.{marks}

range_more : (a n : ℕ) → range_with_len a (n + 1) ≡ range_with_len a n ++ (a + n) ∷ []
range_more a zero =
    let none : a ≡ a + 0 = omega arith in
    ap (λ (x : ℕ). x ∷ []) none
range_more a (suc n) =
    let one : suc n + 1 ≡ suc (n + 1) = omega arith in
    let place : a + 1 + n ≡ a + suc n = omega arith in
    ap (range_with_len a) one
    ∙ ap (λ (l : List ℕ). a ∷ l) (range_more (a + 1) n ∙ ap (λ (x : ℕ). range_with_len (a + 1) n ++ x ∷ []) place)

-- the marks of the client with the others so far, and with one more
pub row_more : (row : ℕ → Bool) (old before now : List Bool) (k : ℕ) → before ≡ old ++ map row (numbers_below k) → now ≡ before ++ row k ∷ []
    → now ≡ old ++ map row (numbers_below (k + 1))
row_more row old before now k so_far pushed =
    pushed
    ∙ ap (λ (l : List Bool). l ++ row k ∷ []) so_far
    ∙ append_assoc old (map row (numbers_below k)) (row k ∷ [])
    ∙ ap (λ (l : List Bool). old ++ l) (sym (map-range_with_len_more row 0 k k (omega arith)))

-- the marks of one client more
pub marks_more : (n : ℕ) (graph : Graph) (k : ℕ) → marks n graph (k + 1) ≡ marks n graph k ++ map (graph k) (numbers_below n)
marks_more n graph k =
    let place : 0 + k ≡ k = omega arith in
    ap (flat_map (λ c. map (graph c) (numbers_below n))) (range_more 0 k ∙ ap (λ (x : ℕ). numbers_below k ++ x ∷ []) place)
    ∙ flat_map-append (λ c. map (graph c) (numbers_below n)) (numbers_below k) (k ∷ [])
    ∙ ap (λ (l : List Bool). marks n graph k ++ l) (append-nil (map (graph k) (numbers_below n)))

-- how many marks there are
pub many_marks : (n : ℕ) (graph : Graph) (k : ℕ) → length (marks n graph k) ≡ k * n
many_marks n graph zero = omega arith
many_marks n graph (suc k) =
    let one : suc k ≡ k + 1 = omega arith in
    ap length (ap (marks n graph) one ∙ marks_more n graph k)
    ∙ omega (arith, length-append (marks n graph k) (map (graph k) (numbers_below n)), many_marks n graph k, length-map-range_with_len (graph k) 0 n, suc-mul k n)

-- once all clients were asked
pub all_marked : (n k : ℕ) (graph : Graph) (pairs : List Bool) → pairs ≡ marks n graph k → k ≡ n → pairs ≡ marks n graph n
all_marked n k graph pairs is all = is ∙ ap (marks n graph) all

pub all_many : (n k : ℕ) (graph : Graph) (pairs : List Bool) → pairs ≡ marks n graph k → k ≡ n → length pairs ≡ n * n
all_many n k graph pairs is all = ap length (all_marked n k graph pairs is all) ∙ many_marks n graph n

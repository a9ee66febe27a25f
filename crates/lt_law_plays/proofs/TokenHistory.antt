-- The token history of the merged run, told by the letters that were sent.
use Rattle.std.proofs.Common.{◌≡◌, ℕ, zero, suc, ◌+◌, ◌<◌, ◌≤◌, inl, inr, List, [], ◌∷◌, ◌++◌, length, None, Bool, true, false, refl, sym, ap, subst, arith, ◌∙◌, take as take_first, ◌==◌, if◌then◌else◌, filter, filter_map, slice_index, slice_index_or, is_some, Contains, eq-eqb, ne_eqb, eqb-true, append-nil, append_assoc, length-append}
use Rattle.std.specs.List.{AllByRecursion, cons_option}
use Rattle.std.proofs.lemmas.Bool.{cases_eq, cases_lt, cases_Bool}
use Rattle.std.proofs.lemmas.List.{get_or_append_left}
use Rattle.std.proofs.lemmas.List.Elements.{recursion_from_All, Contains-get_or}
use Rattle.std.proofs.lemmas.List.Sums.{sum_by-cons}
use Rattle.lt_modes.specs.declared.moves.Step.{Step}
use Rattle.lt_modes.specs.declared.moves.Step.TheVariants.{Act, Take}
use Rattle.lt_modes.specs.Script.{ScriptData}
use Rattle.lt_modes.specs.State.{Desk, Letter, Body, AskBody, TellBody, CopyBody, TokenBody, FreezeBody, Post}
use Rattle.lt_spec.specs.World.{Logged, World, start, opened, sent, node_move, token_by, token_to, after, after_run, world_after, IsRunFrom, is_of_node}
use Rattle.lt_lists.specs.Below.{sum_below, one_if}
use Rattle.lt_spec.specs.Facts.{tokens_in, state_at}
use Rattle.lt_model.specs.Invariant.{Paths, DeskOnPath, BodyOnPath}
use Rattle.lt_model.specs.PathEffects.{token_weight, posts_weight}
use Rattle.lt_model.proofs.Letters.{IsCounted, mail_weight, mail_weight-sent, sent_on_way}
use Rattle.lt_model.proofs.PathsMove.{move_kept}
use Rattle.lt_model.proofs.Runs.{paths_in_runs}
use Rattle.lt_law_plays.specs.MergeLaws.{CarriesToken, TokenStands, TokenCame}
use Rattle.lt_merge.proofs.MergedLists.{filter_yes, filter_no}
use Rattle.lt_law_plays.proofs.MergedRun.{merged_is_run, sent_were_on_way, on_way_were_sent}

-- where the token went before, and then where the move sent it
went_by : (script : ScriptData) (s : ℕ) (w : World) (q : ℕ) (step : Step) → (after script w q step).went s ≡ w.went s ++ filter_map (token_to s) (node_move script w q step).posts
went_by script s w q (Act client) = refl
went_by script s w q (Take p) = refl

-- the token history grows at its end
went_grows : (script : ScriptData) (s k : ℕ) (run : List Logged) (w : World)
    → (more : List ℕ) × ((after_run script w run).went s ≡ (after_run script w (take_first k run)).went s ++ more)
went_grows script s zero [] w = ([], sym (append-nil (w.went s)))
went_grows script s (suc k) [] w = ([], sym (append-nil (w.went s)))
went_grows script s zero (entry ∷ run) w =
    let q = entry.made.stamp.node in
    let step = entry.made.step in
    let later = went_grows script s zero run (after script w q step) in
    let posts = filter_map (token_to s) (node_move script w q step).posts in
    (posts ++ later.0, later.1 ∙ (ap (λ went. went ++ later.0) (went_by script s w q step) ∙ append_assoc (w.went s) posts later.0))
went_grows script s (suc k) (entry ∷ run) w = went_grows script s k run (after script w entry.made.stamp.node entry.made.step)

-- a letter with the token that is on its way names the last place of the history
on_path : (script : ScriptData) (w : World) (p q s epoch : ℕ) (letter : Letter) → Paths script w s → p < script.nodes → Contains (w.mail p q) letter
    → CarriesToken s epoch letter → (epoch + 1 ≡ length (w.went s)) × (slice_index (w.went s) epoch ≡ q)
on_path script w p q s epoch letter paths below among (of_set, desk, body, same) =
    let path = paths.letters p q letter below (record { among = among; set = of_set }) in
    let on : DeskOnPath script.nodes (w.went s) q desk = subst (λ (b : Body). BodyOnPath script.nodes (w.went s) q b) body path.body in
    (omega (arith, on.epoch, same), ap (slice_index (w.went s)) (sym same) ∙ on.node)

pub token_stands : TokenStands
token_stands script l run some h is_merged p q s epoch letter below among token =
    let found = sent_were_on_way script l run h is_merged p q letter among in
    let w = world_after script (take_first found.0 run) in
    let paths = paths_in_runs script run some (merged_is_run script l run h is_merged) found.0 s in
    let on = on_path script w p q s epoch letter paths below found.1 token in
    let grown = went_grows script s found.0 run (start script) in
    let before = get_or_append_left (w.went s) grown.0 0 epoch (omega (arith, on.0)) in
    ap (λ went. slice_index went epoch) grown.1 ∙ (before ∙ on.1)

-- as many tokens go as letters carry them
go_as_they_weigh : (s : ℕ) (posts : List Post) → length (filter_map (token_to s) posts) ≡ posts_weight (token_weight s) posts
go_as_they_weigh s [] = refl
go_as_they_weigh s (post ∷ rest) =
    by_test (post.letter.set == s) post.letter.body (posts_weight (token_weight s) rest) (go_as_they_weigh s rest)
    ∙ sym (sum_by-cons (λ (p : Post). token_weight s p.letter) post rest)
  where
    by_test : (same : Bool) (body : Body) (k : ℕ) → length (filter_map (token_to s) rest) ≡ k
        → length (cons_option (if same then token_by body post.to else None) (filter_map (token_to s) rest)) ≡ (if same then tokens_in body else 0) + k
    by_test true (TokenBody desk) k e = omega (arith, e)
    by_test true (AskBody ask marked) k e = omega (arith, e)
    by_test true (TellBody tell) k e = omega (arith, e)
    by_test true (CopyBody ask) k e = omega (arith, e)
    by_test true (FreezeBody number modes) k e = omega (arith, e)
    by_test false body k e = omega (arith, e)

-- one of these posts brings the token of the set to v
abbrev Carried : ℕ → ℕ → List Post → Type 0
Carried s v posts = (post : Post) × Contains posts post × (post.to ≡ v) × (post.letter.set ≡ s) × (desk : Desk) × (post.letter.body ≡ TokenBody desk)

-- where a token goes, a letter carries it
carried : (s : ℕ) (posts : List Post) (v : ℕ) (rest : List ℕ) → filter_map (token_to s) posts ≡ v ∷ rest → Carried s v posts
carried s [] v rest e = absurd (omega (arith, ap length e))
carried s (post ∷ posts) v rest e = by_test (post.letter.set == s) post.letter.body refl refl e (λ (e : filter_map (token_to s) posts ≡ v ∷ rest). carried s posts v rest e)
  where
    later : Carried s v posts → Carried s v (post ∷ posts)
    later found = (found.0, (suc found.1.0, omega (arith, found.1.1), found.1.2), found.2, found.3, found.4, found.5)

    by_test : (same : Bool) (body : Body) → (post.letter.set == s) ≡ same → post.letter.body ≡ body
        → cons_option (if same then token_by body post.to else None) (filter_map (token_to s) posts) ≡ v ∷ rest
        → (filter_map (token_to s) posts ≡ v ∷ rest → Carried s v posts) → Carried s v (post ∷ posts)
    by_test true (TokenBody desk) same body e again =
        (post, (0, omega arith, refl), ap (λ (l : List ℕ). slice_index l 0) e, eqb-true post.letter.set s same, desk, body)
    by_test true (AskBody ask marked) same body e again = later (again e)
    by_test true (TellBody tell) same body e again = later (again e)
    by_test true (CopyBody ask) same body e again = later (again e)
    by_test true (FreezeBody number modes) same body e again = later (again e)
    by_test false body same is_body e again = later (again e)

-- all entries are of nodes of the script
of_nodes : (n : ℕ) (run : List Logged) → ((x : ℕ) → n ≤ x → filter (is_of_node x) run ≡ []) → AllByRecursion (λ (e : Logged). e.made.stamp.node < n) run
of_nodes n [] none = tt
of_nodes n (entry ∷ run) none = elim (cases_lt entry.made.stamp.node n) [
  | inl below ↦ (below, of_nodes n run (λ x above. others x above (none x above)))
  | inr above ↦ absurd (omega (
    arith,
    ap length
        (sym (filter_yes (is_of_node entry.made.stamp.node) entry run (eq-eqb entry.made.stamp.node entry.made.stamp.node refl)) ∙ none entry.made.stamp.node above),
  ))
]
  where
    others : (x : ℕ) → n ≤ x → filter (is_of_node x) (entry ∷ run) ≡ [] → filter (is_of_node x) run ≡ []
    others x above e = elim (cases_Bool (is_of_node x entry)) [
      | inl own ↦ absurd (omega (arith, ap length (sym (filter_yes (is_of_node x) entry run own) ∙ e)))
      | inr other ↦ sym (filter_no (is_of_node x) entry run other) ∙ e
    ]

-- at most one token goes in a move
one_goes : (script : ScriptData) (s q : ℕ) (posts : List Post) (mail : ℕ → ℕ → List Letter) (later : World) → later.mail ≡ sent q posts mail
    → Paths script later s → q < script.nodes → length (filter_map (token_to s) posts) ≤ 1
one_goes script s q posts mail later is_mail paths below =
    let total : sum_below script.nodes (λ x. one_if (is_some (state_at later s x).desk)) + mail_weight script.nodes (token_weight s) later.mail ≡ 1 = paths.one_token in
    let counted : AllByRecursion (IsCounted script.nodes (token_weight s)) posts = recursion_from_All (IsCounted script.nodes (token_weight s)) posts
    (λ k d under. is_counted (slice_index_or posts k d) (Contains-get_or posts k d under)) in
    let grows = mail_weight-sent script.nodes q (token_weight s) posts mail below counted in
    omega (arith, total, ap (mail_weight script.nodes (token_weight s)) is_mail, grows, go_as_they_weigh s posts)
  where
    is_counted : (post : Post) → Contains posts post → IsCounted script.nodes (token_weight s) post
    is_counted post among = elim (cases_eq post.letter.set s) [
      | inl e ↦
          let on = subst (λ (m : ℕ → ℕ → List Letter). Contains (m q post.to) post.letter) (sym is_mail) (sent_on_way q posts mail post among) in
          inl (paths.letters q post.to post.letter below (record { among = on; set = e })).to
      | inr d ↦ inr (rw (ne_eqb post.letter.set s d) refl)
    ]

-- the later places of the history came by letters
abbrev CameBy : ScriptData → World → List Logged → ℕ → ℕ → Type 0
CameBy script w run s epoch = (k : ℕ) × (p : ℕ) × (letter : Letter) × (p < script.nodes)
    × Contains ((after_run script w (take_first k run)).mail p (slice_index ((after_run script w run).went s) epoch)) letter × CarriesToken s epoch letter

came_now : (script : ScriptData) (s epoch q : ℕ) (w later final : World) (posts : List Post) (mail : ℕ → ℕ → List Letter) (go more : List ℕ) → filter_map (token_to s) posts ≡ go
    → later.mail ≡ sent q posts mail → later.went s ≡ w.went s ++ go → final.went s ≡ later.went s ++ more → Paths script later s → q < script.nodes → length go ≤ 1
    → length (w.went s) ≤ epoch → epoch < length (later.went s)
    → (letter : Letter) × Contains (later.mail q (slice_index (final.went s) epoch)) letter × CarriesToken s epoch letter
came_now script s epoch q w later final posts mail [] more goes is_mail went grown paths below few above under =
    absurd (omega (arith, above, under, ap length went, length-append (w.went s) []))
came_now script s epoch q w later final posts mail (v ∷ rest) more goes is_mail went grown paths below few above under =
    let found = carried s posts v rest goes in
    let post = found.0 in
    let on = subst (λ (m : ℕ → ℕ → List Letter). Contains (m q post.to) post.letter) (sym is_mail) (sent_on_way q posts mail post found.1) in
    let path = on_path script later q post.to s found.4.epoch post.letter paths below on (found.3, found.4, found.5, refl) in
    let same : found.4.epoch ≡ epoch = omega (arith, path.0, above, under, few, ap length went, length-append (w.went s) (v ∷ rest)) in
    let place : slice_index (final.went s) epoch ≡ post.to =
    ap (λ l. slice_index l epoch) grown ∙ (get_or_append_left (later.went s) more 0 epoch under ∙ (ap (slice_index (later.went s)) (sym same) ∙ path.1)) in
    (post.letter, subst (λ (x : ℕ). Contains (later.mail q x) post.letter) (sym place) on, (found.3, found.4, found.5, same))

came : (script : ScriptData) (s epoch : ℕ) (run : List Logged) (w : World) → 0 < script.nodes → Paths script w s → IsRunFrom script w run
    → AllByRecursion (λ (e : Logged). e.made.stamp.node < script.nodes) run → length (w.went s) ≤ epoch
    → epoch < length ((after_run script w run).went s) → CameBy script w run s epoch
came script s epoch [] w some paths h nodes above under = absurd (omega (arith, above, under))
came script s epoch (entry ∷ run) w some paths h nodes above under =
    let q = entry.made.stamp.node in
    let step = entry.made.step in
    let later = after script w q step in
    let posts = (node_move script w q step).posts in
    let paths_later = move_kept script w s some paths q step h.0.enabled in
    let grown = went_grows script s zero run later in
    elim (cases_lt epoch (length (later.went s))) [
      | inl now ↦
          let found = came_now script s epoch q w later (after_run script later run) posts (opened w q step).mail (filter_map (token_to s) posts) grown.0 refl refl
          (went_by script s w q step) grown.1 paths_later nodes.0 (one_goes script s q posts (opened w q step).mail later refl paths_later nodes.0) above now in
          (suc zero, q, found.0, nodes.0, found.1, found.2)
      | inr beyond ↦
          let found = came script s epoch run later some paths_later h.1 nodes.1 beyond under in
          (suc found.0, found.1, found.2, found.3, found.4, found.5)
    ]

pub token_came : TokenCame
token_came script l run some h is_merged s epoch first under =
    let nodes = of_nodes script.nodes run (λ x above. is_merged.parts x ∙ h.beyond x above) in
    let is_run = merged_is_run script l run h is_merged in
    let found = came script s epoch run (start script) some (paths_in_runs script run some is_run zero s) is_run nodes (omega (arith, first)) under in
    (found.1, found.2, found.3, on_way_were_sent script l run h is_merged found.0 found.1 _ found.2 found.4, found.5)

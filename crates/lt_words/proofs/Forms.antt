-- What a parse of the words of `make` finds: each of the texts goes to its argument.
use Rattle.std.proofs.Common.{◌≡◌, ◌∙◌, refl, ap, ℕ, true, false, ◌&&◌, ◌==◌, List, [], ◌∷◌, Some, None, codes, sym, subst, inl, inr, Option, slice_index_or, unwrap_or, bytes_eq}
use Rattle.std.proofs.lemmas.Bool.{and_parts, or_cases, cases_Bool}
use Rattle.std.proofs.lemmas.Slice.Eq.{bytes_eq-Decides}
use Rattle.clap.specs.Words.{Shape, Rule, Text, takes, subcommand_of, built, rows_of, first_value}
use Rattle.clap.specs.Walk.{finished, Held, Walk, idle, walked, walk, walk_from, nothing_held, to_positional, arg_by_index, value}
use Rattle.clap.specs.Simple.{names_of, entered}
use Rattle.clap.specs.Takes.{walk_passes, step_passes}
use Rattle.clap.proofs.OnLiterals.{clap_on_literals}
use Rattle.clap.specs.declared.parser.matches.Found.{Found}
use Rattle.clap.proofs.WalkLemmas.{first_value-rows}
use Rattle.lt_words.specs.Grammar.{command_of, lockrun, make_app, command_in, text_at, is_plain, has_verb, is_form}

-- no word is met yet, or each one so far went to its argument
abbrev at_word : Held → ℕ → Walk
at_word held position = record { held = held; waiting = idle; position = position; is_trailing = false; stopped = None }

-- a word that doesn't begin with a hyphen goes to the argument whose turn it is
plain_step : (c : List Rule) (held : Held) (position b : ℕ) (rest : List ℕ) → (b == 45) ≡ false
    → walked c [] (at_word held position) (b ∷ rest) ≡ to_positional c (arg_by_index c position) (b ∷ rest) (at_word held position) held
unfolding clap_on_literals
plain_step c held position b rest e = simp e

top_walk : (t u v w : List ℕ) → walk (built lockrun).top.rules (names_of (built lockrun)) nothing_held (codes "make" ∷ t ∷ u ∷ v ∷ w ∷ [])
    ≡ record (at_word nothing_held 1) { stopped = Some (codes "make", t ∷ u ∷ v ∷ w ∷ []) }
unfolding clap_on_literals
top_walk t u v w = refl

top_passes : (t u v w : List ℕ) → walk_passes (built lockrun).top (names_of (built lockrun)) (walk_from nothing_held) (codes "make" ∷ t ∷ u ∷ v ∷ w ∷ []) ≡ true
unfolding clap_on_literals
top_passes t u v w = refl

top_walk_six : (t u v w x y : List ℕ) → walk (built lockrun).top.rules (names_of (built lockrun)) nothing_held (codes "make" ∷ t ∷ u ∷ v ∷ w ∷ x ∷ y ∷ [])
    ≡ record (at_word nothing_held 1) { stopped = Some (codes "make", t ∷ u ∷ v ∷ w ∷ x ∷ y ∷ []) }
unfolding clap_on_literals
top_walk_six t u v w x y = refl

top_passes_six : (t u v w x y : List ℕ) → walk_passes (built lockrun).top (names_of (built lockrun)) (walk_from nothing_held) (codes "make" ∷ t ∷ u ∷ v ∷ w ∷ x ∷ y ∷ []) ≡ true
unfolding clap_on_literals
top_passes_six t u v w x y = refl

-- the arguments of `make`, once the command is built
abbrev make_shape : Shape
make_shape = slice_index_or (built lockrun).subs 4 make_app.top

-- the walk after one more word that goes to an argument
abbrev step : Walk → Text → Walk
step w word = to_positional make_shape.rules (arg_by_index make_shape.rules w.position) word w w.held

abbrev start : Walk
start = walk_from nothing_held

passes_step : (s : Shape) (held : Held) (position b : ℕ) (rest : List ℕ) (words : List Text) → (b == 45) ≡ false
    → walk_passes s [] (at_word held position) ((b ∷ rest) ∷ words)
    ≡ (step_passes s position held value && walk_passes s [] (to_positional s.rules (arg_by_index s.rules position) (b ∷ rest) (at_word held position) held) words)
unfolding clap_on_literals
passes_step s held position b rest words e = simp e

passes_end : (s : Shape) (w : Walk) → walk_passes s [] w [] ≡ true
unfolding clap_on_literals
passes_end s w = refl

module _ (a b c d : ℕ) (t u v w : List ℕ) (e : (a == 45) ≡ false) (f : (b == 45) ≡ false) (g : (c == 45) ≡ false) (h : (d == 45) ≡ false) where
  abbrev first : Walk
  first = step start (a ∷ t)

  abbrev second : Walk
  second = step first (b ∷ u)

  abbrev third : Walk
  third = step second (c ∷ v)

  abbrev fourth : Walk
  fourth = step third (d ∷ w)

  make_walk : walk make_shape.rules [] nothing_held ((a ∷ t) ∷ (b ∷ u) ∷ (c ∷ v) ∷ (d ∷ w) ∷ []) ≡ fourth
  make_walk =
      rw (
        plain_step make_shape.rules nothing_held 1 a t e,
        plain_step make_shape.rules first.held 2 b u f,
        plain_step make_shape.rules second.held 3 c v g,
        plain_step make_shape.rules third.held 4 d w h,
      ) refl

  make_passes : walk_passes make_shape [] start ((a ∷ t) ∷ (b ∷ u) ∷ (c ∷ v) ∷ (d ∷ w) ∷ []) ≡ true
  make_passes =
      passes_step make_shape nothing_held 1 a t ((b ∷ u) ∷ (c ∷ v) ∷ (d ∷ w) ∷ []) e
      ∙ passes_step make_shape first.held 2 b u ((c ∷ v) ∷ (d ∷ w) ∷ []) f
      ∙ passes_step make_shape second.held 3 c v ((d ∷ w) ∷ []) g
      ∙ passes_step make_shape third.held 4 d w [] h
      ∙ passes_end make_shape fourth

  pub make_taken : takes lockrun (codes "make" ∷ (a ∷ t) ∷ (b ∷ u) ∷ (c ∷ v) ∷ (d ∷ w) ∷ []) ≡ true
  make_taken =
      rw (top_walk (a ∷ t) (b ∷ u) (c ∷ v) (d ∷ w), top_passes (a ∷ t) (b ∷ u) (c ∷ v) (d ∷ w), make_passes, make_walk) refl

  pub make_found : command_in (subcommand_of lockrun (codes "make" ∷ (a ∷ t) ∷ (b ∷ u) ∷ (c ∷ v) ∷ (d ∷ w) ∷ []))
      ≡ command_of (codes "make" ∷ (a ∷ t) ∷ (b ∷ u) ∷ (c ∷ v) ∷ (d ∷ w) ∷ [])
  make_found = ap command_in (
      ap (λ (x : Walk). entered (built lockrun) x.stopped) (top_walk (a ∷ t) (b ∷ u) (c ∷ v) (d ∷ w))
      ∙ ap (λ (x : Walk). Some (codes "make", finished make_shape.rules x.held)) make_walk
      )

  module _ (k l : ℕ) (x y : List ℕ) (i : (k == 45) ≡ false) (j : (l == 45) ≡ false) where
    abbrev six_words : List Text
    six_words = (a ∷ t) ∷ (b ∷ u) ∷ (c ∷ v) ∷ (d ∷ w) ∷ (k ∷ x) ∷ (l ∷ y) ∷ []

    abbrev fifth : Walk
    fifth = step fourth (k ∷ x)

    abbrev sixth : Walk
    sixth = step fifth (l ∷ y)

    version_walk : walk make_shape.rules [] nothing_held six_words ≡ sixth
    version_walk =
        rw (
          plain_step make_shape.rules nothing_held 1 a t e,
          plain_step make_shape.rules first.held 2 b u f,
          plain_step make_shape.rules second.held 3 c v g,
          plain_step make_shape.rules third.held 4 d w h,
          plain_step make_shape.rules fourth.held 5 k x i,
          plain_step make_shape.rules fifth.held 6 l y j,
        ) refl

    version_passes : walk_passes make_shape [] start six_words ≡ true
    version_passes =
        passes_step make_shape nothing_held 1 a t ((b ∷ u) ∷ (c ∷ v) ∷ (d ∷ w) ∷ (k ∷ x) ∷ (l ∷ y) ∷ []) e
        ∙ passes_step make_shape first.held 2 b u ((c ∷ v) ∷ (d ∷ w) ∷ (k ∷ x) ∷ (l ∷ y) ∷ []) f
        ∙ passes_step make_shape second.held 3 c v ((d ∷ w) ∷ (k ∷ x) ∷ (l ∷ y) ∷ []) g
        ∙ passes_step make_shape third.held 4 d w ((k ∷ x) ∷ (l ∷ y) ∷ []) h
        ∙ passes_step make_shape fourth.held 5 k x ((l ∷ y) ∷ []) i
        ∙ passes_step make_shape fifth.held 6 l y [] j
        ∙ passes_end make_shape sixth

    pub version_taken : takes lockrun (codes "make" ∷ six_words) ≡ true
    version_taken = rw (top_walk_six (a ∷ t) (b ∷ u) (c ∷ v) (d ∷ w) (k ∷ x) (l ∷ y), top_passes_six (a ∷ t) (b ∷ u) (c ∷ v) (d ∷ w) (k ∷ x) (l ∷ y), version_passes, version_walk) refl

    pub version_found : command_in (subcommand_of lockrun (codes "make" ∷ six_words)) ≡ command_of (codes "make" ∷ six_words)
    version_found = ap command_in (
        ap (λ (x : Walk). entered (built lockrun) x.stopped) (top_walk_six (a ∷ t) (b ∷ u) (c ∷ v) (d ∷ w) (k ∷ x) (l ∷ y))
        ∙ ap (λ (x : Walk). Some (codes "make", finished make_shape.rules x.held)) version_walk
        )

-- What a parse of words of each form finds.

pub text_is : (f : Found) (id : List ℕ) (o : Option (List ℕ)) → o ≡ first_value f id → unwrap_or o [] ≡ text_at id (rows_of f)
text_is f id o e = ap (λ o. unwrap_or o []) (e ∙ first_value-rows f id)

no_hyphen : (byte : ℕ) (rest : List ℕ) → is_plain (byte ∷ rest) ≡ true → (byte == 45) ≡ false
no_hyphen byte rest e = elim (cases_Bool (byte == 45)) [ inl h ↦ absurd (let wrong = rw h at e in cc) | inr h ↦ h ]

run_taken : takes lockrun (codes "run" ∷ []) ≡ true
unfolding clap_on_literals
run_taken = refl

check_taken : takes lockrun (codes "check" ∷ []) ≡ true
unfolding clap_on_literals
check_taken = refl

order_taken : takes lockrun (codes "order" ∷ []) ≡ true
unfolding clap_on_literals
order_taken = refl

sim_taken : (b : ℕ) (rest : List ℕ) → (b == 45) ≡ false → takes lockrun (codes "sim" ∷ (b ∷ rest) ∷ []) ≡ true
unfolding clap_on_literals
sim_taken b rest e = simp e

soak_taken : (b : ℕ) (rest : List ℕ) → (b == 45) ≡ false → takes lockrun (codes "soak" ∷ (b ∷ rest) ∷ []) ≡ true
unfolding clap_on_literals
soak_taken b rest e = simp e

run_found : command_in (subcommand_of lockrun (codes "run" ∷ [])) ≡ command_of (codes "run" ∷ [])
unfolding clap_on_literals
run_found = refl

check_found : command_in (subcommand_of lockrun (codes "check" ∷ [])) ≡ command_of (codes "check" ∷ [])
unfolding clap_on_literals
check_found = refl

order_found : command_in (subcommand_of lockrun (codes "order" ∷ [])) ≡ command_of (codes "order" ∷ [])
unfolding clap_on_literals
order_found = refl

sim_found : (b : ℕ) (rest : List ℕ) → (b == 45) ≡ false → command_in (subcommand_of lockrun (codes "sim" ∷ (b ∷ rest) ∷ [])) ≡ command_of (codes "sim" ∷ (b ∷ rest) ∷ [])
unfolding clap_on_literals
sim_found b rest e = simp e

soak_found : (b : ℕ) (rest : List ℕ) → (b == 45) ≡ false → command_in (subcommand_of lockrun (codes "soak" ∷ (b ∷ rest) ∷ [])) ≡ command_of (codes "soak" ∷ (b ∷ rest) ∷ [])
unfolding clap_on_literals
soak_found b rest e = simp e

same_word : (word other : List ℕ) → bytes_eq word other ≡ true → word ≡ other
same_word word other e = (bytes_eq-Decides word other).0 e

plain_word : (P : List ℕ → Type 0) (word : List ℕ) → is_plain word ≡ true → ((b : ℕ) (rest : List ℕ) → (b == 45) ≡ false → P (b ∷ rest)) → P word
plain_word P [] plain each = absurd (cc)
plain_word P (b ∷ rest) plain each = each b rest (no_hyphen b rest plain)

-- what holds of words of each form holds of all words that have one
by_form : (P : List (List ℕ) → Type 0) → P (codes "run" ∷ []) → P (codes "check" ∷ []) → P (codes "order" ∷ [])
    → ((b : ℕ) (rest : List ℕ) → (b == 45) ≡ false → P (codes "sim" ∷ (b ∷ rest) ∷ []))
    → ((b : ℕ) (rest : List ℕ) → (b == 45) ≡ false → P (codes "soak" ∷ (b ∷ rest) ∷ []))
    → ((a b c d : ℕ) (u v w x : List ℕ) → (a == 45) ≡ false → (b == 45) ≡ false → (c == 45) ≡ false → (d == 45) ≡ false
    → P (codes "make" ∷ (a ∷ u) ∷ (b ∷ v) ∷ (c ∷ w) ∷ (d ∷ x) ∷ []))
    → ((a b c d : ℕ) (t u v w : List ℕ) (e : (a == 45) ≡ false) (f : (b == 45) ≡ false) (g : (c == 45) ≡ false) (h : (d == 45) ≡ false)
    → (k l : ℕ) (x y : List ℕ) → (k == 45) ≡ false → (l == 45) ≡ false
    → P (codes "make" ∷ (a ∷ t) ∷ (b ∷ u) ∷ (c ∷ v) ∷ (d ∷ w) ∷ (k ∷ x) ∷ (l ∷ y) ∷ []))
    → (words : List (List ℕ)) → is_form words ≡ true → P words
by_form P run check order sim soak make versions [] form = absurd (cc)
by_form P run check order sim soak make versions (verb ∷ []) form =
    let is : (word : List ℕ) → bytes_eq verb word ≡ true → P (word ∷ []) → P (verb ∷ []) =
    λ word h p. subst (λ v. P (v ∷ [])) (sym (same_word verb word h)) p in
    let has = (and_parts (has_verb (verb ∷ [])) (is_plain verb && true) form).0 in
    elim (cases_Bool (bytes_eq verb (codes "run"))) [
      | inl h ↦ is (codes "run") h run
      | inr h ↦ elim (cases_Bool (bytes_eq verb (codes "check"))) [
        | inl k ↦ is (codes "check") k check
        | inr k ↦ elim (cases_Bool (bytes_eq verb (codes "order"))) [
          | inl l ↦ is (codes "order") l order
          | inr l ↦ absurd (let wrong = rw (h, k, l) at has in cc)
        ]
      ]
    ]
by_form P run check order sim soak make versions (verb ∷ word ∷ []) form =
    let parts = and_parts (has_verb (verb ∷ word ∷ [])) (is_plain verb && (is_plain word && true)) form in
    let plain = and_parts (is_plain word) true (and_parts (is_plain verb) (is_plain word && true) parts.1).1 in
    elim (or_cases (bytes_eq verb (codes "sim")) (bytes_eq verb (codes "soak")) parts.0) [
      | inl h ↦ subst (λ v. P (v ∷ word ∷ [])) (sym (same_word verb (codes "sim") h)) (plain_word (λ w. P (codes "sim" ∷ w ∷ [])) word plain.0 sim)
      | inr h ↦ subst (λ v. P (v ∷ word ∷ [])) (sym (same_word verb (codes "soak") h)) (plain_word (λ w. P (codes "soak" ∷ w ∷ [])) word plain.0 soak)
    ]
by_form P run check order sim soak make versions (verb ∷ a ∷ b ∷ []) form = absurd (cc)
by_form P run check order sim soak make versions (verb ∷ a ∷ b ∷ c ∷ []) form = absurd (cc)
by_form P run check order sim soak make versions (verb ∷ t ∷ u ∷ v ∷ w ∷ []) form =
    let parts = and_parts (has_verb (verb ∷ t ∷ u ∷ v ∷ w ∷ [])) (is_plain verb && (is_plain t && (is_plain u && (is_plain v && (is_plain w && true))))) form in
    let four = and_parts (is_plain verb) (is_plain t && (is_plain u && (is_plain v && (is_plain w && true)))) parts.1 in
    let three = and_parts (is_plain t) (is_plain u && (is_plain v && (is_plain w && true))) four.1 in
    let two = and_parts (is_plain u) (is_plain v && (is_plain w && true)) three.1 in
    let one = and_parts (is_plain v) (is_plain w && true) two.1 in
    let last = and_parts (is_plain w) true one.1 in
    subst (λ word. P (word ∷ t ∷ u ∷ v ∷ w ∷ [])) (sym (same_word verb (codes "make") parts.0))
    (plain_word (λ t. P (codes "make" ∷ t ∷ u ∷ v ∷ w ∷ [])) t three.0 (λ a t e.
    plain_word (λ u. P (codes "make" ∷ (a ∷ t) ∷ u ∷ v ∷ w ∷ [])) u two.0 (λ b u f.
    plain_word (λ v. P (codes "make" ∷ (a ∷ t) ∷ (b ∷ u) ∷ v ∷ w ∷ [])) v one.0 (λ c v g.
    plain_word (λ w. P (codes "make" ∷ (a ∷ t) ∷ (b ∷ u) ∷ (c ∷ v) ∷ w ∷ [])) w last.0 (λ d w h.
    make a b c d t u v w e f g h)))))
by_form P run check order sim soak make versions (verb ∷ t ∷ u ∷ v ∷ w ∷ x ∷ []) form = absurd (cc)
by_form P run check order sim soak make versions (verb ∷ t ∷ u ∷ v ∷ w ∷ x ∷ y ∷ []) form =
    let parts = and_parts (has_verb (verb ∷ t ∷ u ∷ v ∷ w ∷ x ∷ y ∷ [])) (is_plain verb && (is_plain t && (is_plain u && (is_plain v && (is_plain w && (is_plain x && (is_plain y && true))))))) form in
    let six = and_parts (is_plain verb) (is_plain t && (is_plain u && (is_plain v && (is_plain w && (is_plain x && (is_plain y && true)))))) parts.1 in
    let five = and_parts (is_plain t) (is_plain u && (is_plain v && (is_plain w && (is_plain x && (is_plain y && true))))) six.1 in
    let four = and_parts (is_plain u) (is_plain v && (is_plain w && (is_plain x && (is_plain y && true)))) five.1 in
    let three = and_parts (is_plain v) (is_plain w && (is_plain x && (is_plain y && true))) four.1 in
    let two = and_parts (is_plain w) (is_plain x && (is_plain y && true)) three.1 in
    let one = and_parts (is_plain x) (is_plain y && true) two.1 in
    let last = and_parts (is_plain y) true one.1 in
    subst (λ word. P (word ∷ t ∷ u ∷ v ∷ w ∷ x ∷ y ∷ [])) (sym (same_word verb (codes "make") parts.0))
    (plain_word (λ t. P (codes "make" ∷ t ∷ u ∷ v ∷ w ∷ x ∷ y ∷ [])) t five.0 (λ a t e.
    plain_word (λ u. P (codes "make" ∷ (a ∷ t) ∷ u ∷ v ∷ w ∷ x ∷ y ∷ [])) u four.0 (λ b u f.
    plain_word (λ v. P (codes "make" ∷ (a ∷ t) ∷ (b ∷ u) ∷ v ∷ w ∷ x ∷ y ∷ [])) v three.0 (λ c v g.
    plain_word (λ w. P (codes "make" ∷ (a ∷ t) ∷ (b ∷ u) ∷ (c ∷ v) ∷ w ∷ x ∷ y ∷ [])) w two.0 (λ d w h.
    plain_word (λ x. P (codes "make" ∷ (a ∷ t) ∷ (b ∷ u) ∷ (c ∷ v) ∷ (d ∷ w) ∷ x ∷ y ∷ [])) x one.0 (λ k x i.
    plain_word (λ y. P (codes "make" ∷ (a ∷ t) ∷ (b ∷ u) ∷ (c ∷ v) ∷ (d ∷ w) ∷ (k ∷ x) ∷ y ∷ [])) y last.0 (λ l y j.
    versions a b c d t u v w e f g h k l x y i j)))))))
by_form P run check order sim soak make versions (verb ∷ t ∷ u ∷ v ∷ w ∷ x ∷ y ∷ z ∷ rest) form = absurd (cc)

pub form_taken : (words : List (List ℕ)) → is_form words ≡ true → takes lockrun words ≡ true
form_taken = by_form (λ words. takes lockrun words ≡ true) run_taken check_taken order_taken sim_taken soak_taken make_taken version_taken

pub form_found : (words : List (List ℕ)) → is_form words ≡ true → command_in (subcommand_of lockrun words) ≡ command_of words
form_found = by_form (λ words. command_in (subcommand_of lockrun words) ≡ command_of words) run_found check_found order_found sim_found soak_found make_found version_found

-- In which order two moves are made.
use Rattle.std.proofs.Common.{arith, ◌≡◌, ℕ, Ok, Some, refl, sym, ap, subst, ◌∙◌}
use Rattle.std.proofs.lemmas.Bool.{false≢true}
use Rattle.lt_modes.specs.declared.moves.Step.TheVariants.{Act}
use Rattle.lt_modes.specs.Script.{ScriptData}
use Rattle.lt_modes.specs.Modes.{conflicts}
use Rattle.lt_spec.specs.World.{Logged, start, logged, IsRun}
use Rattle.lt_spec.specs.FixedOrder.{Turn, first_run}
use Rattle.lt_text.specs.Text as text
use Rattle.lt_script.specs.Reading.{read_of}
use Rattle.lt_script.specs.Reading as reading
use Rattle.lt_gen.specs.Generator.{seeded, draw_of}
use Rattle.lt_gen.specs.Generator as draws
use Rattle.rand_core.specs.Pcg32Seed as seeds
use Rattle.rand_core.specs.Steps as steps
use Rattle.lt_serve.specs.declared.schedule.Schedule.TheVariants.{First, Drawn}
use Rattle.lt_serve.specs.Schedules.{AreInOrder, IsAt}
use Rattle.lt_serve.proofs.Ordered.{first_from}
use Rattle.lt_law_pinned.specs.Examples.{OrdersSay, two_tries, two_tries_script, try_of_a, try_of_b, a_first, b_first}
use Rattle.lt_law_pinned.proofs.TwoWritersSay.{same_script}

two_tries_read : read_of two_tries ≡ Ok two_tries_script
unfolding reading.script_body reading.read_from text.lines text.cut_at reading.line_step text.words
two_tries_read = refl

-- the first of two moves that each seed draws
word_of_7 : (draw_of 2 (seeded 7)).0 ≡ 1
unfolding draws.draw_of draws.seeded seeds.pcg32_seed steps.word_bytes steps.u32_at
word_of_7 = refl

word_of_8 : (draw_of 2 (seeded 8)).0 ≡ 0
unfolding draws.draw_of draws.seeded seeds.pcg32_seed steps.word_bytes steps.u32_at
word_of_8 = refl

-- b's move is at the second place, a's at the first
same_turn : (a b : Turn) → Some a ≡ Some b → a ≡ b
same_turn a b e = cc

not_same : try_of_a ≡ try_of_b → ⊥
not_same e = omega (arith, ap (λ (entry : Logged). entry.made.stamp.node) e)

not_second : IsAt two_tries_script (start two_tries_script) 1 try_of_a → ⊥
unfolding conflicts
not_second h =
    not_same (h.2 ∙ ap (λ (turn : Turn). logged two_tries_script (start two_tries_script) turn.node turn.step)
    (sym (same_turn (record { node = 1; step = Act 1 }) h.0 h.1)))

not_at_first : IsAt two_tries_script (start two_tries_script) 0 try_of_b → ⊥
unfolding conflicts
not_at_first h =
    not_same (sym (h.2 ∙ ap (λ (turn : Turn). logged two_tries_script (start two_tries_script) turn.node turn.step)
    (sym (same_turn (record { node = 0; step = Act 0 }) h.0 h.1))))

drawn_by_7 : AreInOrder (Drawn (seeded 7)) two_tries_script b_first
unfolding conflicts draws.draw_of draws.seeded seeds.pcg32_seed steps.word_bytes steps.u32_at
drawn_by_7 = ((record { node = 1; step = Act 1 }, refl, refl), ((record { node = 0; step = Act 0 }, refl, refl), tt))

drawn_by_8 : AreInOrder (Drawn (seeded 8)) two_tries_script a_first
unfolding conflicts draws.draw_of draws.seeded seeds.pcg32_seed steps.word_bytes steps.u32_at
drawn_by_8 = ((record { node = 0; step = Act 0 }, refl, refl), ((record { node = 1; step = Act 1 }, refl, refl), tt))

not_by_7 : AreInOrder (Drawn (seeded 7)) two_tries_script a_first → ⊥
not_by_7 h = not_second (subst (λ (place : ℕ). IsAt two_tries_script (start two_tries_script) place try_of_a) word_of_7 h.0)

not_by_8 : AreInOrder (Drawn (seeded 8)) two_tries_script b_first → ⊥
not_by_8 h = not_at_first (subst (λ (place : ℕ). IsAt two_tries_script (start two_tries_script) place try_of_b) word_of_8 h.0)

in_order : first_run two_tries_script 2 ≡ a_first
unfolding conflicts
in_order = refl

not_swapped : b_first ≡ a_first → ⊥
not_swapped e = not_same (sym (head e))
  where
    head : b_first ≡ a_first → try_of_b ≡ try_of_a
    head f = cc

not_in_order : AreInOrder First two_tries_script b_first → ⊥
not_in_order h = not_swapped (first_from two_tries_script (start two_tries_script) b_first h ∙ in_order)

-- the script of a run that is told is this one
its_script : (script : ScriptData) → read_of two_tries ≡ Ok script → script ≡ two_tries_script
its_script script denoted = same_script script two_tries_script (read_of two_tries) denoted two_tries_read

a_then_b : IsRun two_tries_script a_first
unfolding conflicts
a_then_b = (record { enabled = refl; made = refl }, (record { enabled = refl; made = refl }, tt))

b_then_a : IsRun two_tries_script b_first
unfolding conflicts
b_then_a = (record { enabled = refl; made = refl }, (record { enabled = refl; made = refl }, tt))

pub orders_say : OrdersSay
orders_say = record {
  both_are_runs = (a_then_b, b_then_a);
  not_first = λ old new t.
      not_in_order (subst (λ (s : ScriptData). AreInOrder First s b_first) (its_script t.1.journals.script t.1.journals.denoted) t.1.in_order);
  drawn = drawn_by_7;
  not_drawn = λ old new t.
      not_by_7 (subst (λ (s : ScriptData). AreInOrder (Drawn (seeded 7)) s a_first) (its_script t.1.journals.script t.1.journals.denoted) t.1.in_order);
  drawn_by_another = drawn_by_8;
  not_drawn_by_another = λ old new t.
      not_by_8 (subst (λ (s : ScriptData). AreInOrder (Drawn (seeded 8)) s b_first) (its_script t.1.journals.script t.1.journals.denoted) t.1.in_order);
  rising = ((refl, tt), (tt, tt));
  not_rising = λ old new t. false≢true t.1.rising.0.0;
}

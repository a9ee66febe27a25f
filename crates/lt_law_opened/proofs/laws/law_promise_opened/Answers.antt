use Rattle.lt_law_opened.proofs.Opening.{held_locks_agree, held_is_told, tokens_are_one, asks_are_once, open_waits_are_told, lines_tell_whether, first_is_barred, asks_led_at_rest, holders_are_told, moves_end_served, moves_serve_in_turn, tries_tell_own}
use Rattle.lt_law_opened.proofs.laws.law_promise_opened.Goals as goal

pub returns-clause-lawful : goal.returns-clause-lawful
returns-clause-lawful c = held_locks_agree

pub returns-clause-held : goal.returns-clause-held
returns-clause-held c = held_is_told

pub returns-clause-one_token : goal.returns-clause-one_token
returns-clause-one_token c = tokens_are_one

pub returns-clause-one_place : goal.returns-clause-one_place
returns-clause-one_place c = asks_are_once

pub returns-clause-waits : goal.returns-clause-waits
returns-clause-waits c = open_waits_are_told

pub returns-clause-somebody : goal.returns-clause-somebody
returns-clause-somebody c = lines_tell_whether

pub returns-clause-first : goal.returns-clause-first
returns-clause-first c = first_is_barred

pub returns-clause-led : goal.returns-clause-led
returns-clause-led c = asks_led_at_rest

pub returns-clause-frozen : goal.returns-clause-frozen
returns-clause-frozen c = holders_are_told

pub returns-clause-ends : goal.returns-clause-ends
returns-clause-ends c = moves_end_served

pub returns-clause-in_turn : goal.returns-clause-in_turn
returns-clause-in_turn c = moves_serve_in_turn

pub returns-clause-tries : goal.returns-clause-tries
returns-clause-tries c = tries_tell_own

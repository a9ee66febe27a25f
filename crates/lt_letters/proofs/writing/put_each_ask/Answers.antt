use Rattle.std.proofs.Common.{rules, ◌<◌, length, take, refl, false, None, slice_index_or}
use Rattle.std.specs.List.{flat_map}
use Rattle.lt_modes.specs.declared.ask.Ask.{Ask}
use Rattle.lt_modes.specs.declared.mode.Mode.TheVariants.{IntentionRead}
use Rattle.lt_letters.specs.Spelling.{ask_bytes}
use Rattle.lt_letters.proofs.Puts.{part_fails, next_within}
use Rattle.lt_letters.proofs.writing.put_each_ask.Goals as goal

abbrev any : Ask
any = record { client = 0; node = 0; mode = IntentionRead; gives_up = None; holder = false; stamp = record { clock = 0; node = 0 } }

pub returns-in_err-put_ask : goal.returns-in_err-put_ask
returns-in_err-put_ask c =
    let below : c.loop-ask.ask-index < length c.args.asks.now = search rules in
    let x = slice_index_or c.args.asks.now c.loop-ask.ask-index any in
    part_fails (flat_map ask_bytes (take c.loop-ask.ask-index c.args.asks.now)) (ask_bytes x) (flat_map ask_bytes c.args.asks.now)
    c.args.out.now c.loop-ask.out c.put_ask.new.out c.put_ask.result c.from_residual.result c.in_err-put_ask.field-0.0
    (next_within ask_bytes c.args.asks.now c.loop-ask.ask-index any x below refl)
    c.loop-ask.invariant.0 c.loop-ask.invariant.1 c.put_ask.ensures c.in_err-put_ask.was c.from_residual.ensures.0

use Rattle.std.proofs.Common.{◌∙◌, ap, arith, is_some}
use Rattle.lt_words.specs.Grammar.{command_of}
use Rattle.lt_words.proofs.Counted.{of_one, of_two, of_five, of_seven, other_counts}
use Rattle.lt_words.proofs.command.is_command.Goals as goal

pub returns-in-len1 : goal.returns-in-len1
returns-in-len1 c =
    c.is_some.ensures
    ∙ ap is_some c.one_word.ensures
    ∙ of_one (λ words. is_some (command_of words)) c.args.words.now c.word-item.result c.deref.result.now c.word-item.is c.deref.ensures c.in-len1.len_at_least c.in-len1.len_below

pub returns-in-len2 : goal.returns-in-len2
returns-in-len2 c =
    c.are_command.ensures
    ∙ of_two (λ words. is_some (command_of words)) c.args.words.now c.verb-item.result c.word-item-then-words-lt3.result c.deref-in-len2.result.now c.deref-in-len2-2.result.now
    c.verb-item.is c.deref-in-len2.ensures c.word-item-then-words-lt3.is c.deref-in-len2-2.ensures c.in-len2.len_at_least c.in-len2.len_below

pub returns-in-len5 : goal.returns-in-len5
returns-in-len5 c =
    c.is_make.ensures
    ∙ of_five (λ words. is_some (command_of words)) c.args.words.now c.verb-item-then-words-lt6.result c.nodes-item.result c.clients-item.result c.commands-item.result c.seed-item.result
    c.deref-in-len5.result.now c.deref-in-len5-2.result.now c.deref-in-len5-3.result.now c.deref-in-len5-4.result.now c.deref-in-len5-5.result.now
    c.verb-item-then-words-lt6.is c.deref-in-len5.ensures c.nodes-item.is c.deref-in-len5-2.ensures c.clients-item.is c.deref-in-len5-3.ensures
    c.commands-item.is c.deref-in-len5-4.ensures c.seed-item.is c.deref-in-len5-5.ensures c.in-len5.len_at_least c.in-len5.len_below

pub returns-in-len7 : goal.returns-in-len7
returns-in-len7 c =
    c.is_make_of.ensures
    ∙ of_seven (λ words. is_some (command_of words)) c.args.words.now c.verb-item-then-words-lt8.result c.nodes-item-then-words-lt8.result c.clients-item-then-words-lt8.result c.commands-item-then-words-lt8.result c.seed-item-then-words-lt8.result c.key-item.result c.version-item.result
    c.deref-in-len7.result.now c.deref-in-len7-2.result.now c.deref-in-len7-3.result.now c.deref-in-len7-4.result.now c.deref-in-len7-5.result.now c.deref-in-len7-6.result.now c.deref-in-len7-7.result.now
    c.verb-item-then-words-lt8.is c.deref-in-len7.ensures c.nodes-item-then-words-lt8.is c.deref-in-len7-2.ensures c.clients-item-then-words-lt8.is c.deref-in-len7-3.ensures
    c.commands-item-then-words-lt8.is c.deref-in-len7-4.ensures c.seed-item-then-words-lt8.is c.deref-in-len7-5.ensures
    c.key-item.is c.deref-in-len7-6.ensures c.version-item.is c.deref-in-len7-7.ensures c.in-len7.len_at_least c.in-len7.len_below

pub returns-in_default-2 : goal.returns-in_default-2
returns-in_default-2 c = other_counts c.args.words.now (λ e. omega (arith, e, c.in_default.len_at_least, c.in_default.len_below)) (λ e. omega (arith, e, c.in_default.len_at_least, c.in_default.len_below))
    (λ e. omega (arith, e, c.in_default.len_at_least, c.in_default.len_below)) (λ e. omega (arith, e, c.in_default.len_at_least, c.in_default.len_below))

pub returns-in_default-3 : goal.returns-in_default-3
returns-in_default-3 c = other_counts c.args.words.now (λ e. omega (arith, e, c.in_default.len_at_least, c.in_default.len_below)) (λ e. omega (arith, e, c.in_default.len_at_least, c.in_default.len_below))
    (λ e. omega (arith, e, c.in_default.len_at_least, c.in_default.len_below)) (λ e. omega (arith, e, c.in_default.len_at_least, c.in_default.len_below))

pub returns-in_default-4 : goal.returns-in_default-4
returns-in_default-4 c = other_counts c.args.words.now (λ e. omega (arith, e, c.in_default.len_at_least)) (λ e. omega (arith, e, c.in_default.len_at_least))
    (λ e. omega (arith, e, c.in_default.len_at_least)) (λ e. omega (arith, e, c.in_default.len_at_least))

-- The forms of what a letter is made of.
use Rattle.std.proofs.Common.{◌<◌, ◌≤◌, ◌^◌, refl}
use Rattle.std.specs.Int.{w16, w32, w64}
use Rattle.lt_modes.specs.declared.stamp.Stamp.{Stamp}
use Rattle.lt_modes.specs.declared.ask.Ask.{Ask}
use Rattle.lt_modes.specs.declared.parts.Link.{Link}
use Rattle.lt_modes.specs.declared.parts.Owed.{Owed}
use Rattle.lt_modes.specs.State.{Entry, Desk, Tell}
use Rattle.lt_letters.specs.Spelling.{byte, number16, number32, number64, mode_bytes, choice_bytes, flag_bytes, modes_bytes, stamp_bytes, link_bytes, owed_bytes, ask_bytes, stamps_bytes, all_owed_bytes, asks_bytes, entries_bytes, entry_bytes, desk_bytes, tell_bytes, StampFits, LinkFits, OwedFits, AskFits, StampsFit, AllOwedFit, AsksFit, EntryFits, EntriesFit, DeskFits, TellFits}
use Rattle.lt_letters.specs.Reading.{byte_from, byte_to, number_from, one_of, mode_with, choice_with, flag_with, modes_with, stamp_from, link_from, owed_from, ask_from, stamps_from, all_owed_from, asks_from, entry_from, entries_from, desk_from, tell_from}
use Rattle.lt_letters.proofs.Forms.{IsForm, last_field, next_field, of_fields}
use Rattle.lt_letters.proofs.ListForms.{list_form}
use Rattle.lt_letters.proofs.NumberForms.{number16_form, number32_form, number64_form, byte_form, byte_to_form}
use Rattle.lt_letters.proofs.CodeForms.{mode_form, choice_form, flag_form}
use Rattle.lt_letters.proofs.ModesForm.{modes_form}

pub stamp_form : IsForm stamp_bytes stamp_from StampFits
unfolding stamp_from
stamp_form = of_fields stamp_bytes _ StampFits
    (next_field (λ s. tt) (λ (s : Stamp). s.clock) number64 (number_from w64) (λ n. n < 2 ^ 64) _ _ _ number64_form
    (last_field (λ (s : Stamp). (tt, s.clock)) (λ s. s.node) (λ k y. record { clock = k.1; node = y }) byte byte_from (λ n. n < 256)
    (λ k y. refl) (λ k y. refl) (λ s. refl) byte_form))

pub link_form : IsForm link_bytes link_from LinkFits
unfolding link_from
link_form = of_fields link_bytes _ LinkFits
    (next_field (λ l. tt) (λ (l : Link). l.node) byte byte_from (λ n. n < 256) _ _ _ byte_form
    (last_field (λ (l : Link). (tt, l.node)) (λ l. l.epoch) (λ k y. record { node = k.1; epoch = y }) number64 (number_from w64) (λ n. n < 2 ^ 64)
    (λ k y. refl) (λ k y. refl) (λ l. refl) number64_form))

pub owed_form : IsForm owed_bytes owed_from OwedFits
unfolding owed_from
owed_form = of_fields owed_bytes _ OwedFits
    (next_field (λ o. tt) (λ (o : Owed). o.stamp) stamp_bytes stamp_from StampFits _ _ _ stamp_form
    (last_field (λ (o : Owed). (tt, o.stamp)) (λ o. o.mode) (λ k y. record { stamp = k.1; mode = y }) mode_bytes (one_of mode_with) (λ x. Unit {0})
    (λ k y. refl) (λ k y. refl) (λ o. refl) mode_form))

pub ask_form : IsForm ask_bytes ask_from AskFits
unfolding ask_from
ask_form = of_fields ask_bytes _ AskFits
    (next_field (λ a. tt) (λ (a : Ask). a.client) number16 (number_from w16) (λ n. n < 2 ^ 16) _ _ _ number16_form
    (next_field (λ (a : Ask). (tt, a.client)) (λ a. a.node) byte byte_from (λ n. n < 256) _ _ _ byte_form
    (next_field (λ (a : Ask). ((tt, a.client), a.node)) (λ a. a.mode) mode_bytes (one_of mode_with) (λ x. Unit {0}) _ _ _ mode_form
    (next_field (λ (a : Ask). (((tt, a.client), a.node), a.mode)) (λ a. a.gives_up) choice_bytes (one_of choice_with) (λ x. Unit {0}) _ _ _ choice_form
    (next_field (λ (a : Ask). ((((tt, a.client), a.node), a.mode), a.gives_up)) (λ a. a.holder) flag_bytes (one_of flag_with) (λ x. Unit {0}) _ _ _ flag_form
    (last_field (λ (a : Ask). (((((tt, a.client), a.node), a.mode), a.gives_up), a.holder)) (λ a. a.stamp)
    (λ k y. record { client = k.0.0.0.0.1; node = k.0.0.0.1; mode = k.0.0.1; gives_up = k.0.1; holder = k.1; stamp = y })
    stamp_bytes stamp_from StampFits (λ k y. refl) (λ k y. refl) (λ a. refl) stamp_form))))))

pub stamps_form : IsForm stamps_bytes stamps_from StampsFit
unfolding stamps_from
stamps_form = list_form byte (byte_to 16) (λ n. n ≤ 16) stamp_bytes stamp_from StampFits (byte_to_form 16) stamp_form

pub all_owed_form : IsForm all_owed_bytes all_owed_from AllOwedFit
unfolding all_owed_from
all_owed_form = list_form number64 (number_from w64) (λ n. n < 2 ^ 64) owed_bytes owed_from OwedFits number64_form owed_form

pub entry_form : IsForm entry_bytes entry_from EntryFits
unfolding entry_from
entry_form = of_fields entry_bytes _ EntryFits
    (next_field (λ e. tt) (λ (e : Entry). e.reported) modes_bytes (one_of modes_with) (λ x. Unit {0}) _ _ _ modes_form
    (next_field (λ (e : Entry). (tt, e.reported)) (λ e. e.owed) all_owed_bytes all_owed_from AllOwedFit _ _ _ all_owed_form
    (next_field (λ (e : Entry). ((tt, e.reported), e.owed)) (λ e. e.told_at) stamp_bytes stamp_from StampFits _ _ _ stamp_form
    (next_field (λ (e : Entry). (((tt, e.reported), e.owed), e.told_at)) (λ e. e.pending) stamps_bytes stamps_from StampsFit _ _ _ stamps_form
    (last_field (λ (e : Entry). ((((tt, e.reported), e.owed), e.told_at), e.pending)) (λ e. e.frozen_told)
    (λ k y. record { reported = k.0.0.0.1; owed = k.0.0.1; told_at = k.0.1; pending = k.1; frozen_told = y })
    modes_bytes (one_of modes_with) (λ x. Unit {0}) (λ k y. refl) (λ k y. refl) (λ e. refl) modes_form)))))

pub asks_form : IsForm asks_bytes asks_from AsksFit
unfolding asks_from
asks_form = list_form number32 (number_from w32) (λ n. n < 2 ^ 32) ask_bytes ask_from AskFits number32_form ask_form

pub entries_form : IsForm entries_bytes entries_from EntriesFit
unfolding entries_from
entries_form = list_form byte (byte_to 64) (λ n. n ≤ 64) entry_bytes entry_from EntryFits (byte_to_form 64) entry_form

pub desk_form : IsForm desk_bytes desk_from DeskFits
unfolding desk_from
desk_form = of_fields desk_bytes _ DeskFits
    (next_field (λ d. tt) (λ (d : Desk). d.epoch) number64 (number_from w64) (λ n. n < 2 ^ 64) _ _ _ number64_form
    (next_field (λ (d : Desk). (tt, d.epoch)) (λ d. d.number) number64 (number_from w64) (λ n. n < 2 ^ 64) _ _ _ number64_form
    (next_field (λ (d : Desk). ((tt, d.epoch), d.number)) (λ d. d.queue) asks_bytes asks_from AsksFit _ _ _ asks_form
    (last_field (λ (d : Desk). (((tt, d.epoch), d.number), d.queue)) (λ d. d.entries)
    (λ k y. record { epoch = k.0.0.1; number = k.0.1; queue = k.1; entries = y })
    entries_bytes entries_from EntriesFit (λ k y. refl) (λ k y. refl) (λ d. refl) entries_form))))

pub tell_form : IsForm tell_bytes tell_from TellFits
unfolding tell_from
tell_form = of_fields tell_bytes _ TellFits
    (next_field (λ t. tt) (λ (t : Tell). t.node) byte byte_from (λ n. n < 256) _ _ _ byte_form
    (next_field (λ (t : Tell). (tt, t.node)) (λ t. t.modes) modes_bytes (one_of modes_with) (λ x. Unit {0}) _ _ _ modes_form
    (next_field (λ (t : Tell). ((tt, t.node), t.modes)) (λ t. t.pending) stamps_bytes stamps_from StampsFit _ _ _ stamps_form
    (last_field (λ (t : Tell). (((tt, t.node), t.modes), t.pending)) (λ t. t.stamp)
    (λ k y. record { node = k.0.0.1; modes = k.0.1; pending = k.1; stamp = y })
    stamp_bytes stamp_from StampFits (λ k y. refl) (λ k y. refl) (λ t. refl) stamp_form))))

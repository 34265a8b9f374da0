-- The marks of a state's keys, in loading order, and the entries by which they may fall (profile).
use Rattle.std.specs.Prelude.{◌≡◌, ℕ, ◌≤◌, ◌^◌, Bool, true, false, ◌&&◌, List, is_none}
use Rattle.std.specs.List.{list_any}
use Rattle.sdls_base.specs.declared.entry.Entry.{Entry}
use Rattle.sdls_base.specs.declared.entry.Seen.{Seen}
use Rattle.sdls_base.specs.declared.entry.Seen.TheVariants.{Nothing, Word, Number, Exhausted}
use Rattle.unit_state.specs.declared.state.State.{State}
use Rattle.run_promise.specs.Numbers.{mark_at}

-- no mark fell, place by place
abbrev pub KeepsMarks : State → State → Type 0
KeepsMarks old new = (place : ℕ) → mark_at old place ≤ mark_at new place

-- the highest that a mark may be: where the numbers of GCM and master keys end
abbrev pub highest_mark : ℕ
highest_mark = 2 ^ 48

abbrev pub is_word : Seen → Bool
is_word Nothing = false
is_word (Word word) = true
is_word (Number number) = false
is_word (Exhausted number) = false

-- a release: it is of no record, and a word was seen (a reserve is of none either, and its number was seen)
abbrev pub is_release : Entry → Bool
is_release entry = is_none entry.index && is_word entry.seen

-- no entry is a release
abbrev pub HasNoRelease : List Entry → Type 0
HasNoRelease entries = list_any is_release entries ≡ false

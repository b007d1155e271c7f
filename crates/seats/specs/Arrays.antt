-- A tracker's count of channels and its seven arrays, as one value; and what lent arrays hold when a call begins and when it ends.
-- Assumes nothing.
use Rattle.std.specs.Prelude.{ℕ, List, ◌≡◌}
use Rattle.std.specs.Borrow.{Bor, MutBor}
use denote.Triple.Both.{Both}
use Rattle.seats.specs.declared.Fields.{Fields}
use Rattle.seats.specs.declared.FieldsMut.{FieldsMut}

-- each channel's number, first number, highest number, ended mark and count of runs, and the runs of all of them
pub record Arrays : Type 0 where
  pub count : ℕ
  pub numbers : List ℕ
  pub from : List ℕ
  pub highest : List ℕ
  pub ended : List ℕ
  pub counts : List ℕ
  pub first : List ℕ
  pub last : List ℕ

-- these, in their order
abbrev pub arrays : ℕ → (numbers from highest ended counts first last : List ℕ) → Arrays
arrays count numbers from highest ended counts first last =
    record { count = count; numbers = numbers; from = from; highest = highest; ended = ended; counts = counts; first = first; last = last }

-- a lent array, at one moment; and when a call begins and when it ends
abbrev pub Lent : Type 0
Lent = Bor (List ℕ)

abbrev pub Passed : Type 0
Passed = Both Lent Lent

-- the same, of one that is lent to be written
abbrev pub LentMut : Type 0
LentMut = MutBor (List ℕ)

abbrev pub PassedMut : Type 0
PassedMut = Both LentMut LentMut

-- what lent arrays hold
abbrev pub in_arrays : ℕ → (numbers from highest ended counts first last : Lent) → Arrays
in_arrays count numbers from highest ended counts first last =
    arrays count numbers.now from.now highest.now ended.now counts.now first.now last.now

-- when a call begins
abbrev pub at_entry : ℕ → (numbers from highest ended counts first last : Passed) → Arrays
at_entry count numbers from highest ended counts first last =
    in_arrays count numbers.entry from.entry highest.entry ended.entry counts.entry first.entry last.entry

-- when it ends, of a call that is held to leave what it only reads
abbrev pub at_end : ℕ → (numbers from highest ended counts first last : Passed) → Arrays
at_end count numbers from highest ended counts first last =
    in_arrays count numbers.exit from.exit highest.exit ended.exit counts.exit first.exit last.exit

-- what arrays hold of which all but the channels' numbers and first numbers are lent to be written
abbrev pub in_arrays_mut : ℕ → (numbers from : Lent) (highest ended counts first last : LentMut) → Arrays
in_arrays_mut count numbers from highest ended counts first last =
    arrays count numbers.now from.now highest.now ended.now counts.now first.now last.now

-- when a call begins that writes these
abbrev pub at_entry_mut : ℕ → (numbers from : Passed) (highest ended counts first last : PassedMut) → Arrays
at_entry_mut count numbers from highest ended counts first last =
    in_arrays_mut count numbers.entry from.entry highest.entry ended.entry counts.entry first.entry last.entry

-- when it ends; the channels' numbers and first numbers are lent to be read alone
abbrev pub at_exit : ℕ → (numbers from : Passed) (highest ended counts first last : PassedMut) → Arrays
at_exit count numbers from highest ended counts first last =
    in_arrays_mut count numbers.entry from.entry highest.exit ended.exit counts.exit first.exit last.exit

-- when it ends, of a call that is held to leave what it only reads
abbrev pub at_end_mut : ℕ → (numbers from : Passed) (highest ended counts first last : PassedMut) → Arrays
at_end_mut count numbers from highest ended counts first last =
    in_arrays_mut count numbers.exit from.exit highest.exit ended.exit counts.exit first.exit last.exit

-- what a tracker's fields hold that are lent to be read
abbrev pub held : Fields → Arrays
held f = in_arrays f.count f.numbers f.from f.highest f.ended f.counts f.first f.last

-- and what those hold of which all but the channels' numbers and first numbers are lent to be written
abbrev pub held_mut : FieldsMut → Arrays
held_mut f = in_arrays_mut f.count f.numbers f.from f.highest f.ended f.counts f.first f.last

-- they are lent the same places
abbrev pub SamePlaces : FieldsMut → FieldsMut → Type 0
SamePlaces f g =
    (g.highest.ghost_name ≡ f.highest.ghost_name)
    × (g.ended.ghost_name ≡ f.ended.ghost_name)
    × (g.counts.ghost_name ≡ f.counts.ghost_name)
    × (g.first.ghost_name ≡ f.first.ghost_name)
    × (g.last.ghost_name ≡ f.last.ghost_name)

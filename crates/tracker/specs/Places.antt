-- The tracker's arrays of numbers, and one channel's record in them.
use Rattle.std.specs.Prelude.{ℕ, ◌*◌, Bool, cond, eqb, length, get_or, set}
use Rattle.std.proofs.lemmas.List.Edits.{sets}
use Rattle.gaps.specs.Limits.{run_limit}
use Rattle.gaps.specs.Channel.{Channel}
use Rattle.gaps.specs.Built.{firsts, lasts, padded}
use Rattle.seats.specs.Arrays.{Arrays, arrays}
use Rattle.seats.specs.Places.{span}
use Rattle.tracker.specs.declared.Tracker.{Tracker}

-- the tracker of a count and arrays, and those of a tracker
abbrev pub made : Arrays → Tracker
made a =
    record {
      count = a.count;
      numbers = a.numbers;
      from = a.from;
      highest = a.highest;
      ended = a.ended;
      counts = a.counts;
      first = a.first;
      last = a.last;
    }

abbrev pub arrays_of : Tracker → Arrays
arrays_of t = arrays t.count t.numbers t.from t.highest t.ended t.counts t.first t.last

-- T2: an ended mark in its place: 1 where it is set, else 0
abbrev pub mark : Bool → ℕ
mark e = cond e 1 0

-- T2: the record of the channel at place i
abbrev pub channel_at : Tracker → ℕ → Channel
channel_at t i =
    record {
      from = get_or t.from i 0;
      highest = get_or t.highest i 0;
      ended = eqb (get_or t.ended i 0) 1;
      runs = span t.first t.last (i * run_limit) (get_or t.counts i 0);
    }

-- T4, T5: the tracker with this record's highest, mark and runs at place i, zero in the places behind the runs; nothing else changes
unfoldable pub put : Tracker → ℕ → Channel → Tracker
put t i c =
    record {
      count = t.count;
      numbers = t.numbers;
      from = t.from;
      highest = set t.highest i c.highest;
      ended = set t.ended i (mark c.ended);
      counts = set t.counts i (length c.runs);
      first = sets t.first (i * run_limit) (padded run_limit (firsts c.runs));
      last = sets t.last (i * run_limit) (padded run_limit (lasts c.runs));
    }

-- A window that slides over the input, and bytes that are gathered. Which bytes a file gives or takes, no definition says.
-- Assumes nothing.
use Rattle.std.specs.Prelude.{ℕ, ◌+◌, ◌-◌, ◌<◌, ◌≤◌, Bool, cond, ◌&&◌, List, [], ◌++◌, leb, length, take, drop, Option}
use Rattle.std.specs.Io.KnownBytes.{Consumes}
use Rattle.window.specs.declared.Step.{Step}
use Rattle.window.specs.declared.Step.TheVariants.{Took, Waits, Ends}

-- there are bytes from an offset up to another
abbrev pub bytes_there : List ℕ → ℕ → ℕ → Bool
bytes_there s from to = leb to (length s) && leb from to

-- the bytes from an offset up to another at the front, those behind them as they stood
unfoldable pub slid : List ℕ → ℕ → ℕ → List ℕ
slid s from to = cond (bytes_there s from to) (take (to - from) (drop from s) ++ drop (to - from) s) s

-- how many these are
unfoldable pub moved : List ℕ → ℕ → ℕ → ℕ
moved s from to = cond (bytes_there s from to) (to - from) 0

-- what is still held of the gathered bytes: all where there is room behind them, else none
unfoldable pub still_held : List ℕ → ℕ → ℕ → ℕ
still_held s gathered room = cond (leb (gathered + room) (length s)) gathered 0

-- the gathered bytes that are written: none where there is room behind them, or where there are not so many
unfoldable pub written : List ℕ → ℕ → ℕ → List ℕ
written s gathered room =
    cond (leb (gathered + room) (length s)) [] (cond (leb gathered (length s)) (take gathered s) [])

-- a step takes some of the bytes, and no more than there are
abbrev pub Fits : Step → List ℕ → Type 0
Fits (Took n) s = (0 < n) × (n ≤ length s)
Fits Waits s = Unit {0}
Fits Ends s = Unit {0}

-- n bytes at the front are the last of those that an input lost
abbrev pub LeftOf : Option (List ℕ) → Option (List ℕ) → ℕ → List ℕ → Type 0
LeftOf old new n s = (n ≤ length s) × ((before : List ℕ) × Consumes old new (before ++ take n s))
